use Rattle.std.proofs.Common.{refl, [], ◌∷◌}
use Rattle.fm_code.proofs.EdgesLemmas.{Contains-first}
use Rattle.fm_rapid.proofs.WalkSteps.{entered_all, marks_inside, one_needed}
use Rattle.fm_rapid.specs.inner.Walks.{sets_of}
use Rattle.fm_rapid.proofs.walk.Walk.enter.Goals as goal

pub mark-requires : goal.mark-requires
mark-requires c =
    marks_inside c.args.program.now (sets_of c.args.self.now) (c.args.method.0 ∷ []) c.requires.walk
    (one_needed c.args.program.now c.args.method.0 c.requires.inside c.requires.needed)

pub returns-clause-goes : goal.returns-clause-goes
returns-clause-goes c =
    entered_all c.args.program.now (sets_of c.args.self.now) (c.args.method.0 ∷ []) c.mark.new.reached c.mark.new.waiting.items c.requires.walk
    (one_needed c.args.program.now c.args.method.0 c.requires.inside c.requires.needed) c.in_ok-mark.ensures

pub returns-clause-entered : goal.returns-clause-entered
returns-clause-entered c = c.in_ok-mark.ensures.listed c.args.method.0 (Contains-first c.args.method.0 [] c.args.method.0 refl)
