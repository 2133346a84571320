use Rattle.std.proofs.Common.{◌≡◌, true, ◌<◌, length}
use Rattle.fm_base.specs.Rows.{has}
use Rattle.fm_base.specs.declared.ids.ClassId.{ClassId}
use Rattle.fm_rapid.proofs.Elements.{option_at, option_from, option_none}
use Rattle.fm_rapid.proofs.WalkSteps.{Goes-none}
use Rattle.fm_rapid.specs.inner.Walks.{sets_of, IsMadeNeeded}
use Rattle.fm_rapid.proofs.walk.Walk.make_if.Goals as goal

pub returns-in_default-clause-goes : goal.returns-in_default-clause-goes
returns-in_default-clause-goes c = Goes-none c.args.program.now (sets_of c.args.self.now) c.requires.walk

pub returns-in_default-clause-made : goal.returns-in_default-clause-made
returns-in_default-clause-made c = option_none (λ (d : ClassId). has c.args.self.now.made d.0 ≡ true) c.args.class c.in_default.is

pub make-requires-clause-class : goal.make-requires-clause-class
make-requires-clause-class c =
    option_at (λ (d : ClassId). d.0 < length c.args.program.now.outline.classes) c.args.class c.in-Some.class c.in-Some.is c.requires.class

pub make-requires-clause-needed : goal.make-requires-clause-needed
make-requires-clause-needed c =
    option_at (λ (d : ClassId). IsMadeNeeded c.args.program.now d.0) c.args.class c.in-Some.class c.in-Some.is c.requires.needed

pub returns-clause-made : goal.returns-clause-made
returns-clause-made c =
    option_from (λ (d : ClassId). has c.make.new.self.made d.0 ≡ true) c.args.class c.in-Some.class c.in-Some.is c.in_ok-make.ensures.made
