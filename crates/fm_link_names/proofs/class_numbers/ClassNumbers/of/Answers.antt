use Rattle.std.proofs.Common.{◌≡◌, ◌+◌, ◌-◌, ◌∙◌, sym, ap, subst, ℕ, List, drop, arith}
use Rattle.std.specs.List.{position_from}
use Rattle.std.specs.Str.{bytes_eq}
use Rattle.fm_world.specs.declared.declarations.DeclaredClass.{DeclaredClass}
use Rattle.fm_link_names.proofs.NumberSteps.{numbers_end, numbers_step}
use Rattle.fm_link_names.specs.inner.ClassNumbering.{number_in}
use Rattle.fm_link_names.proofs.class_numbers.ClassNumbers.of.Goals as goal

pub loop-left-preserved : goal.loop-left-preserved
loop-left-preserved c =
    let classes = c.args.classes.now in
    let k = c.loop-left.left - 1 in
    let one : c.loop-left.left ≡ k + 1 = omega (arith, c.loop-left-test.true) in
    let so_far = subst (λ j. (name : List ℕ) → number_in c.loop-left.numbers name ≡ position_from (λ d. bytes_eq d.name name) j
    (drop j classes)) one c.loop-left.invariant.1 in (
      omega (arith, c.loop-left.invariant.0),
      numbers_step classes k c.index-classes-left.result c.loop-left.numbers c.insert.new.self c.as_slice.result c.in_ok-number.number
          (omega (arith, c.loop-left.invariant.0, one)) c.index-classes-left.is (c.as_slice.ensures
          ∙ ap (λ (d : DeclaredClass). d.name) (sym c.index-classes-left.is)) c.in_ok-number.ensures so_far c.in_ok-insert.ensures.updates,
    )

pub returns : goal.returns
returns c = numbers_end c.args.classes.now c.loop-left.left c.loop-left.numbers (omega (arith, c.loop-left-test.false)) c.loop-left.invariant.1
