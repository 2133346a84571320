use Rattle.std.proofs.Common.{◌≡◌, ◌∙◌, sym, ap, subst, arith, map, List, None, Some}
use Rattle.std.specs.List.{slice_index_or}
use Rattle.fm_check.proofs.ItemLemmas.{GoesOver-none, read_insn}
use Rattle.fm_check_walk.proofs.Outcomes.{ok_weaker}
use Rattle.fm_check.proofs.RiseLemmas.{asked-alone, GoesOver-carried, ready, words_below}
use Rattle.fm_check_walk.proofs.WalkLemmas.{state_seen}
use Rattle.fm_check_walk.specs.declared.risen.Rise.{Rise}
use Rattle.fm_types.specs.declared.known_state.SlotPlace.{SlotPlace}
use Rattle.fm_check_walk.specs.inner.Risen.{rise_of, words_taken}
use Rattle.fm_types.specs.Typings.{known_state}
use Rattle.fm_check.specs.inner.Steps.{CarriesOnGuarded, GoesOverGuarded, IsReady}
use Rattle.fm_check_walk.specs.inner.Walks.{Untypable, walked}
use Rattle.fm_check_walk.specs.inner.Tasks.{task}
use Rattle.fm_types.specs.Typed.{use_by}
use Rattle.fm_check.proofs.steps.go_over.Goals as goal

pub returns-in_default : goal.returns-in_default
returns-in_default c = record {
  goes = GoesOver-none (task c.args.method.now) c.args.item (walked c.args.walk.now) c.requires.sound c.requires.stands
      (state_seen c.args.walk.now.states.items c.as_slice.result.now c.args.item None c.as_slice.ensures.value c.in_default.ensures);
  guarded = c.requires.guarded;
}

pub carry_on-requires-clause-ready : goal.carry_on-requires-clause-ready
carry_on-requires-clause-ready c =
    let t = task c.args.method.now in
    let w = walked c.args.walk.now in
    let own = known_state c.in-Some.own.now in
    let locals = c.in-Some-risen.places in
    let at = state_seen c.args.walk.now.states.items c.as_slice.result.now c.args.item (Some own) c.as_slice.ensures.value c.in-Some.ensures in
    let insn = (slice_index_or c.as_slice-2.result.now c.args.item c.index-as_slice-item.result).insn in
    let long = c.depth.ensures in
    let left = c.saturating_sub-below.ensures in
    let count : c.in_ok-words_taken.field-0 ≡ words_taken t.program.outline (use_by t.program t.number insn) insn = c.in_ok-words_taken.ensures in
    let enough : c.saturating_sub-below.result ≡ words_below t insn own = omega (arith, long, left, count) in
    let alone = asked-alone insn c.saturating_sub-below.result (words_below t insn own) own locals c.as_slice-in-Some-risen.result.now c.in_ok-rises.rises.items
    c.as_slice-in-Some-risen-2.result.now c.as_slice-in-Some-risen-2.ensures.value c.in_ok-rises.ensures c.as_slice-in-Some-risen.ensures enough
    (c.all_left_alone.ensures.0 c.if-all_left_alone.true) in
    let found = c.in_ok-rises.ensures ∙ ap (λ (xs : List SlotPlace). map (rise_of own) xs) c.as_slice-in-Some-risen.ensures in
    subst (λ (rises : List Rise). IsReady t w c.args.item insn rises) (sym (c.as_slice-then-all_left_alone.ensures.value ∙ found))
    (ready t c.args.item insn own locals w c.requires.sound c.requires.stands at
    (read_insn c.args.method.now.code.now c.as_slice-2.result.now c.args.item c.index-as_slice-item.result c.as_slice-2.ensures c.requires.inside)
    (c.requires.met own locals at c.in-Some-risen.is) alone)

pub returns-then-all_left_alone : goal.returns-then-all_left_alone
returns-then-all_left_alone c =
    let t = task c.args.method.now in
    let old = walked c.args.walk.now in
    let new = walked c.carry_on.new.walk in
    let own = known_state c.in-Some.own.now in
    let known = c.in-Some-risen.places in
    let at = state_seen c.args.walk.now.states.items c.as_slice.result.now c.args.item (Some own) c.as_slice.ensures.value c.in-Some.ensures in
    let i = (slice_index_or c.as_slice-2.result.now c.args.item c.index-as_slice-item.result).insn in
    let is = read_insn c.args.method.now.code.now c.as_slice-2.result.now c.args.item c.index-as_slice-item.result c.as_slice-2.ensures c.requires.inside in
    let long = c.depth.ensures in
    let left = c.saturating_sub-below.ensures in
    let count : c.in_ok-words_taken.field-0 ≡ words_taken t.program.outline (use_by t.program t.number i) i = c.in_ok-words_taken.ensures in
    let enough : c.saturating_sub-below.result ≡ words_below t i own = omega (arith, long, left, count) in
    let alone = asked-alone i c.saturating_sub-below.result (words_below t i own) own known c.as_slice-in-Some-risen.result.now c.in_ok-rises.rises.items
    c.as_slice-in-Some-risen-2.result.now c.as_slice-in-Some-risen-2.ensures.value c.in_ok-rises.ensures c.as_slice-in-Some-risen.ensures enough
    (c.all_left_alone.ensures.0 c.if-all_left_alone.true) in
    let carried = c.in_ok-rises.ensures ∙ ap (λ (xs : List SlotPlace). map (rise_of own) xs) c.as_slice-in-Some-risen.ensures in
    let levels = c.carry_on.new.levels.items in
    let On : List Rise → Type 0 = λ rises. CarriesOnGuarded t c.args.item i rises levels old new in
    ok_weaker (On c.as_slice-then-all_left_alone.result.now) (GoesOverGuarded t c.args.item levels old new) (Untypable t) c.carry_on.result
    (λ on. record {
      goes = GoesOver-carried t c.args.item i own known old new c.requires.sound c.requires.stands at is
          (c.requires.met own known at c.in-Some-risen.is) alone
          (subst On (c.as_slice-then-all_left_alone.ensures.value ∙ carried) on).carries;
      guarded = on.guarded;
    })
    c.carry_on.ensures
