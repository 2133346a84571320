use Rattle.std.proofs.Common.{◌∙◌, sym, ap, None, Bool}
use Rattle.std.specs.List.{slice_index_or}
use Rattle.fm_base.proofs.TestFacts.{match_true}
use Rattle.fm_check_handlers.proofs.GivingLemmas.{all_brought, guarded-later}
use Rattle.fm_check.proofs.ItemLemmas.{GoesOver-item, GoesOver-none, next_forced, read_insn, row_unmet_at}
use Rattle.fm_check_walk.proofs.Outcomes.{ok_weaker}
use Rattle.fm_check_walk.proofs.WalkLemmas.{state_copied, state_seen}
use Rattle.fm_check_handlers.specs.inner.Runs.{GivesAll, is_brought}
use Rattle.fm_check.specs.inner.Steps.{GoesOverGuarded, BringsOn}
use Rattle.fm_check_walk.specs.inner.Walks.{Untypable, walked}
use Rattle.fm_check_walk.specs.inner.Tasks.{task}
use Rattle.fm_check_rows.specs.Outcomes.{outcome}
use Rattle.fm_types.specs.Typings.{known_state, type_state}
use Rattle.fm_check.proofs.steps.go_over_whole.Goals as goal

pub returns-in_default : goal.returns-in_default
returns-in_default c = record {
  goes = GoesOver-none (task c.args.method.now) c.args.item (walked c.args.walk.now) c.requires.sound c.requires.stands
      (state_seen c.args.walk.now.states.items c.as_slice.result.now c.args.item None c.as_slice.ensures.value c.in_default.ensures);
  guarded = c.requires.guarded;
}

pub bring_to_runs-requires-clause-forced : goal.bring_to_runs-requires-clause-forced
bring_to_runs-requires-clause-forced c =
    let copy = type_state c.in_ok-state.state in
    let at = state_copied c.args.walk.now.states.items c.as_slice.result.now c.args.item (known_state c.in-Some.own.now) copy c.as_slice.ensures.value
    c.in-Some.ensures c.in_ok-state.ensures in
    (c.requires.stands.each c.args.item copy at).forced

pub bring_to_runs-requires-clause-within : goal.bring_to_runs-requires-clause-within
bring_to_runs-requires-clause-within c =
    let copy = type_state c.in_ok-state.state in
    let at = state_copied c.args.walk.now.states.items c.as_slice.result.now c.args.item (known_state c.in-Some.own.now) copy c.as_slice.ensures.value
    c.in-Some.ensures c.in_ok-state.ensures in
    (c.requires.stands.each c.args.item copy at).within

pub returns-then-not-branch-2 : goal.returns-then-not-branch-2
returns-then-not-branch-2 c =
    let copy = type_state c.in_ok-state.state in
    let at = state_copied c.args.walk.now.states.items c.as_slice.result.now c.args.item (known_state c.in-Some.own.now) copy c.as_slice.ensures.value
    c.in-Some.ensures c.in_ok-state.ensures in
    row_unmet_at (task c.args.method.now) c.args.item copy c.requires.sound (c.requires.stands.each c.args.item copy at).forced
    (sym c.in_ok-apply.ensures ∙ ap (λ (b : Bool). outcome b c.apply.new.state) c.if-not-branch-2.true)

pub bring_on-requires-clause-item : goal.bring_on-requires-clause-item
bring_on-requires-clause-item c =
    let copy = type_state c.in_ok-state.state in
    let at = state_copied c.args.walk.now.states.items c.as_slice.result.now c.args.item (known_state c.in-Some.own.now) copy c.as_slice.ensures.value
    c.in-Some.ensures c.in_ok-state.ensures in
    record {
      reachable = (c.requires.stands.each c.args.item copy at).forced.reachable;
      is = read_insn c.args.method.now.code.now c.as_slice-2.result.now c.args.item c.index-as_slice-item.result c.as_slice-2.ensures c.requires.inside;
    }

pub bring_on-requires-clause-forced : goal.bring_on-requires-clause-forced
bring_on-requires-clause-forced c = λ next leads inside.
    let copy = type_state c.in_ok-state.state in
    let at = state_copied c.args.walk.now.states.items c.as_slice.result.now c.args.item (known_state c.in-Some.own.now) copy c.as_slice.ensures.value
    c.in-Some.ensures c.in_ok-state.ensures in
    let insn = (slice_index_or c.as_slice-2.result.now c.args.item c.index-as_slice-item.result).insn in
    let is = read_insn c.args.method.now.code.now c.as_slice-2.result.now c.args.item c.index-as_slice-item.result c.as_slice-2.ensures c.requires.inside in
    next_forced (task c.args.method.now) c.args.item next insn copy (type_state c.apply.new.state) c.requires.sound
    (c.requires.stands.each c.args.item copy at).forced is
    (sym c.in_ok-apply.ensures ∙ ap (λ (b : Bool). outcome b c.apply.new.state) c.if-not-branch-2.false) leads inside

pub returns : goal.returns
returns c =
    let t = task c.args.method.now in
    let copy = type_state c.in_ok-state.state in
    let after = type_state c.apply.new.state in
    let old = walked c.args.walk.now in
    let middle = walked c.bring_to_runs.new.walk in
    let new = walked c.bring_on.new.walk in
    let at = state_copied c.args.walk.now.states.items c.as_slice.result.now c.args.item (known_state c.in-Some.own.now) copy c.as_slice.ensures.value
    c.in-Some.ensures c.in_ok-state.ensures in
    let insn = (slice_index_or c.as_slice-2.result.now c.args.item c.index-as_slice-item.result).insn in
    let is = read_insn c.args.method.now.code.now c.as_slice-2.result.now c.args.item c.index-as_slice-item.result c.as_slice-2.ensures c.requires.inside in
    let row = sym c.in_ok-apply.ensures ∙ ap (λ (b : Bool). outcome b c.apply.new.state) c.if-not-branch-2.false in
    let levels = c.bring_to_runs.new.levels.items in
    let gives = match_true (GivesAll (is_brought t c.args.item copy) t c.args.item levels old middle) (Untypable t) c.in_ok-bring_to_runs.field-0
    c.if-not-branch.false c.in_ok-bring_to_runs.ensures in
    ok_weaker (BringsOn t c.args.item insn after middle new) (GoesOverGuarded t c.args.item levels old new) (Untypable t) c.bring_on.result
    (λ on. record {
      goes = GoesOver-item t c.args.item copy after insn old middle new c.requires.sound c.requires.stands at is row
          (all_brought t c.args.item copy levels old middle gives) on;
      guarded = guarded-later t middle new levels c.requires.sound on.went.rises gives.guarded;
    })
    c.bring_on.ensures
