use Rattle.std.proofs.Common.{◌∙◌, ap, All, List, reverse, subst}
use Rattle.std.proofs.lemmas.List.{reverse-reverse}
use Rattle.fm_check_walk.proofs.RankLemmas.{All-reverse}
use Rattle.fm_check_walk.specs.inner.Ranks.{IsBounded}
use Rattle.fm_types.specs.declared.slots.Slot.{Slot}
use Rattle.fm_check_walk.proofs.merging.law_bounded_state.Goals as goal

pub returns : goal.returns
returns c =
    let Bounded : List Slot → Type 0 = λ slots. All IsBounded slots in
    record {
      locals = c.law_all_bounded.ensures;
      stack = subst Bounded (ap reverse c.slots.ensures ∙ reverse-reverse c.args.state.now.stack)
          (All-reverse IsBounded c.slots.result.now c.law_all_bounded-2.ensures);
    }
