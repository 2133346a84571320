use Rattle.std.proofs.Common.{◌≡◌, ◌∙◌, sym, ap, ◌&&◌}
use Rattle.fm_check_walk.proofs.MergingLemmas.{join_state-is, join_state-sizes, join_state-split, stack-joined}
use Rattle.fm_check_walk.specs.inner.Merging.{join_slots}
use Rattle.fm_types.specs.States.{is_whole}
use Rattle.fm_types.specs.Typings.{type_state}
use Rattle.fm_check_walk.proofs.merging.join_state.Goals.{then-a, else-a}
use Rattle.fm_check_walk.proofs.merging.join_state.Goals as goal

pub returns-then-not-have_same_sizes : goal.returns-then-not-have_same_sizes
returns-then-not-have_same_sizes c =
    join_state-sizes c.args.program.now.outline (type_state c.args.a.now) (type_state c.args.b.now)
    (sym c.have_same_sizes.ensures ∙ c.if-not-have_same_sizes.true)

pub returns-then-not-is_whole : goal.returns-then-not-is_whole
returns-then-not-is_whole c =
    let o = c.args.program.now.outline in
    let a = type_state c.args.a.now in
    let b = type_state c.args.b.now in
    let sizes = sym c.have_same_sizes.ensures ∙ c.if-not-have_same_sizes.false in
    let stack = stack-joined o a b c.new-stack.result c.in_ok-words.words c.slots.result.now c.slots-2.result.now sizes
    c.new-stack.ensures c.in_ok-words.ensures c.slots.ensures c.slots-2.ensures in
    join_state-split o a b (ap is_whole (sym stack) ∙ sym c.is_whole.ensures ∙ c.if-not-is_whole.true)

pub returns : goal.returns
returns c =
    let o = c.args.program.now.outline in
    let a = type_state c.args.a.now in
    let b = type_state c.args.b.now in
    let sizes = sym c.have_same_sizes.ensures ∙ c.if-not-have_same_sizes.false in
    let stack = stack-joined o a b c.new-stack.result c.in_ok-words.words c.slots.result.now c.slots-2.result.now sizes
    c.new-stack.ensures c.in_ok-words.ensures c.slots.ensures c.slots-2.ensures in
    let locals : c.in_ok-locals.locals ≡ join_slots o a.locals b.locals = c.in_ok-locals.ensures in
    let built : c.if-a.result ≡ (a.built && b.built) =
    elim c.if-a.branch [
      | then-a w ↦ w.result-is ∙ ap (λ t. t && b.built) (sym w.if-a.true)
      | else-a w ↦ w.result-is ∙ w.if-a.false ∙ ap (λ t. t && b.built) (sym w.if-a.false)
    ] in
    join_state-is o a b (type_state record { locals = c.in_ok-locals.locals; stack = c.new-stack.result; built = c.if-a.result }) sizes
    (sym c.is_whole.ensures ∙ c.if-not-is_whole.false) locals stack built
