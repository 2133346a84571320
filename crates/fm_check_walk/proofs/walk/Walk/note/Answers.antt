use Rattle.std.proofs.Common.{◌≡◌, ◌∙◌, ap, set, List, Option, None}
use Rattle.std.proofs.lemmas.List.{get_or_default}
use Rattle.fm_check_walk.proofs.WalkLemmas.{set_twice}
use Rattle.fm_types.specs.declared.known_state.SlotPlace.{SlotPlace}
use Rattle.fm_check_walk.specs.inner.Risen.{noted}
use Rattle.fm_check_walk.specs.inner.Walks.{risen_at, walked}
use Rattle.fm_check_walk.proofs.walk.Walk.note.Goals as goal

pub returns : goal.returns
returns c =
    let w = walked c.args.self.now in
    let read : c.replace-known.result ≡ risen_at w c.args.item =
    c.replace-known.ensures.value ∙ c.index_mut.ensures.value ∙ get_or_default w.risen c.args.item c.index_mut.result.now None c.requires in
    ap (λ (risen : List (Option (List SlotPlace))). record w { risen = risen })
    (set_twice w.risen c.args.item c.replace-known.new.dest c.in_ok-self.field-0
    ∙ ap (λ (rose : Option (List SlotPlace)). set w.risen c.args.item rose)
    (c.in_ok-self.ensures ∙ ap (λ (known : Option (List SlotPlace)). noted c.args.most known c.args.rose) read))
