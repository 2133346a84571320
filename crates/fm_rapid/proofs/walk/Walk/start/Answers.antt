use Rattle.std.proofs.Common.{◌≡◌, ◌∙◌, sym, arith, ℕ, List, Contains, subst}
use Rattle.fm_rapid.proofs.WalkSteps.{Goes-none, marks_in, started_step}
use Rattle.fm_rapid.specs.Reach.{starts_of}
use Rattle.fm_rapid.specs.inner.Walks.{sets_of}
use Rattle.fm_rapid.proofs.walk.Walk.start.Goals as goal

pub get-requires : goal.get-requires
get-requires c = let size = c.requires.walk.lengths.started in omega (arith, c.requires.class, size)

pub returns-then-get-clause-goes : goal.returns-then-get-clause-goes
returns-then-get-clause-goes c = Goes-none c.args.program.now (sets_of c.args.self.now) c.requires.walk

pub returns-then-get-clause-started : goal.returns-then-get-clause-started
returns-then-get-clause-started c = c.requires.walk.started c.args.class.0 (sym c.get.ensures ∙ c.if-get.true)

pub mark-requires : goal.mark-requires
mark-requires c =
    marks_in c.args.program.now (sets_of c.args.self.now) (starts_of c.args.program.now.outline c.args.class.0) c.as_slice.result.now c.requires.walk
    c.requires.needed (c.as_slice.ensures.value ∙ c.in_ok-listed.ensures)

pub set-requires : goal.set-requires
set-requires c = let size = c.requires.walk.lengths.started in omega (arith, c.requires.class, size)

pub returns-clause-goes : goal.returns-clause-goes
returns-clause-goes c =
    started_step c.args.program.now (sets_of c.args.self.now) c.args.class.0 c.as_slice.result.now c.mark.new.reached c.mark.new.waiting.items
    c.set.new.self c.requires.walk c.requires.needed (c.as_slice.ensures.value ∙ c.in_ok-listed.ensures) c.in_ok-mark.ensures c.set.ensures

pub returns-clause-started : goal.returns-clause-started
returns-clause-started c = λ m found.
    let listed : c.as_slice.result.now ≡ starts_of c.args.program.now.outline c.args.class.0 = c.as_slice.ensures.value ∙ c.in_ok-listed.ensures in
    c.in_ok-mark.ensures.listed m (subst (λ (xs : List ℕ). Contains xs m) (sym listed) found)
