use Rattle.std.proofs.Common.{◌≡◌, ◌∙◌, sym, ap, ◌||◌, not, true, false, reverse}
use Rattle.fm_check_walk.proofs.MergingLemmas.{all_fit-reverse, built-by_first, built-by_second, built-unfit, level-parts, locals-unfit, sizes-unfit, stack-decides}
use Rattle.std.proofs.lemmas.List.{reverse-reverse}
use Rattle.fm_types.specs.States.{all_fit}
use Rattle.fm_types.specs.Typings.{known_state, type_state}
use Rattle.fm_check_walk.proofs.merging.state_fits.Goals.{else-known-via-then-known+else-not-a, else-known-via-else-known}
use Rattle.fm_check_walk.proofs.merging.state_fits.Goals as goal

pub returns-then-not-have_known_sizes : goal.returns-then-not-have_known_sizes
returns-then-not-have_known_sizes c =
    sizes-unfit c.args.program.now.outline (type_state c.args.a.now) (known_state c.args.known.now)
    (sym c.have_known_sizes.ensures ∙ c.if-not-have_known_sizes.true)

pub returns-then-not-a : goal.returns-then-not-a
returns-then-not-a c =
    built-unfit c.args.program.now.outline (type_state c.args.a.now) (known_state c.args.known.now) c.if-known.true c.if-not-a.true

pub returns-then-all_fit : goal.returns-then-all_fit
returns-then-all_fit c =
    let o = c.args.program.now.outline in
    let a = type_state c.args.a.now in
    let b = known_state c.args.known.now in
    let built : (a.built || not b.built) ≡ true =
    elim c.else-known.branch [
      | else-known-via-then-known+else-not-a w ↦ built-by_first a.built b.built w.if-not-a.false
      | else-known-via-else-known w ↦ built-by_second a.built b.built w.if-known.false
    ] in
    let level = level-parts a b (sym c.have_known_sizes.ensures ∙ c.if-not-have_known_sizes.false) in
    let locals : all_fit o a.locals b.locals ≡ true = sym c.all_fit.ensures ∙ c.if-all_fit.true in
    c.all_fit-then-all_fit.ensures
    ∙ ap (λ xs. all_fit o xs c.args.known.now.words) c.slots.ensures
    ∙ ap (λ ys. all_fit o (reverse a.stack) ys) (sym (reverse-reverse c.args.known.now.words))
    ∙ all_fit-reverse o a.stack b.stack level.stack
    ∙ stack-decides o a b built locals

pub returns-else-all_fit : goal.returns-else-all_fit
returns-else-all_fit c =
    let o = c.args.program.now.outline in
    let a = type_state c.args.a.now in
    let b = known_state c.args.known.now in
    let locals : all_fit o a.locals b.locals ≡ false = sym c.all_fit.ensures ∙ c.if-all_fit.false in
    c.if-all_fit.false ∙ locals-unfit o a b locals
