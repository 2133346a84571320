use Rattle.std.proofs.Common.{◌≡◌, ℕ, ◌<◌, ◌≤◌, true, sym, ap, subst, arith, ⊎_elim, length}
use Rattle.std.proofs.lemmas.Bool.{cases_lt}
use Rattle.std.proofs.lemmas.List.{length-map}
use Rattle.fm_base.specs.Rows.{has}
use Rattle.fm_rapid.proofs.WalkSteps.{Goes-none, Goes-then}
use Rattle.fm_rapid.specs.inner.Walks.{sets_of}
use Rattle.fm_world.proofs.Completions.{count_is}
use Rattle.fm_world.specs.inner.BuiltInTable.{class_of_row}
use Rattle.fm_rapid.proofs.walk.Walk.make_built_ins.Goals as goal

pub loop-class-init : goal.loop-class-init
loop-class-init c = record {
  goes = Goes-none c.args.program.now (sets_of c.args.self.now) c.requires.walk;
  made = λ k inside. absurd (omega (arith, inside));
}

pub make-requires-clause-walk : goal.make-requires-clause-walk
make-requires-clause-walk c = c.loop-class.invariant.goes.walk

pub loop-class-preserved : goal.loop-class-preserved
loop-class-preserved c =
    let p = c.args.program.now in
    let before = sets_of c.loop-class.self in
    let after = sets_of c.make.new.self in
    record {
      goes = Goes-then p (sets_of c.args.self.now) before after c.loop-class.invariant.goes c.in_ok-make.ensures.goes;
      made = λ k inside.
          ⊎_elim (λ (earlier : k < c.loop-class.class). c.in_ok-make.ensures.goes.went.made k (c.loop-class.invariant.made k earlier))
          (λ (last : c.loop-class.class ≤ k).
          let same : k ≡ c.loop-class.class = omega (arith, inside, last) in
          subst (λ (n : ℕ). has c.make.new.self.made n ≡ true) (sym same) c.in_ok-make.ensures.made)
          (cases_lt k c.loop-class.class);
    }

pub overflow_cast-count : goal.overflow_cast-count
overflow_cast-count c =
    let size = length-map c.built_in_classes.result.now class_of_row in
    let all = ap length c.built_in_classes.ensures in
    omega (arith, size, all, count_is)
