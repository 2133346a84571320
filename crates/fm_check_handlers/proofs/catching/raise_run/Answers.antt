use Rattle.std.proofs.Common.{◌∙◌, refl, ap, inr, map, List}
use Rattle.fm_check_handlers.proofs.RunLemmas.{if_ok}
use Rattle.fm_types.specs.declared.known_state.SlotPlace.{SlotPlace}
use Rattle.fm_check_walk.specs.inner.Risen.{rise_of}
use Rattle.fm_types.specs.Typings.{known_state}
use Rattle.fm_check_handlers.proofs.catching.raise_run.Goals as goal

pub returns : goal.returns
returns c =
    if_ok _ _ c.rises_of.result
    (λ left is.
    inr (record {
      before = c.in-Some.given;
      after = c.raise.new.given;
      places = c.in_ok-places.places.items;
      was = c.in-Some.is;
      is = refl;
      same = refl;
      raised = c.in_ok-places.ensures;
      left_is = is ∙ ap (λ (places : List SlotPlace). map (rise_of (known_state c.raise.new.given)) places) c.as_slice.ensures.value;
    }))
    c.rises_of.ensures
