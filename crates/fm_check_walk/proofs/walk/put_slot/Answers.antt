use Rattle.std.proofs.Common.{◌∙◌, sym, ap, set, Option, Some}
use Rattle.std.specs.Option.{option_map}
use Rattle.std.proofs.lemmas.List.{map-set}
use Rattle.fm_check_walk.proofs.WalkLemmas.{seen_read}
use Rattle.fm_types.specs.Typings.{known_state}
use Rattle.fm_types.specs.inner.Places.{with_slot}
use Rattle.fm_check_walk.specs.inner.Walks.{states_seen}
use Rattle.fm_types.specs.States.{TypeState}
use Rattle.fm_check_walk.proofs.walk.put_slot.Goals as goal

pub returns-in_ok-set : goal.returns-in_ok-set
returns-in_ok-set c =
    let states = c.args.states.now.items in
    let read = seen_read states c.args.item c.index_mut.result.now c.in-Some.known c.requires.item c.index_mut.ensures.value c.in-Some.is in
    map-set (option_map known_state) states c.args.item (Some c.set.new.self)
    ∙ ap (λ (s : TypeState). set (states_seen states) c.args.item (Some s)) c.in_ok-set.ensures
    ∙ ap (λ (s : Option TypeState). set (states_seen states) c.args.item (option_map (with_slot c.args.place c.args.slot) s)) (sym read)
