use Rattle.fm_base.proofs.OptionFacts.{IsSome-from_some}
use Rattle.fm_world.specs.Programs.{code_at}
use Rattle.fm_summ_shapes.proofs.typed.Typed.of.Goals as goal

pub typing_of-requires-clause-coded : goal.typing_of-requires-clause-coded
typing_of-requires-clause-coded c = IsSome-from_some (code_at c.args.program.now c.args.method.0) c.args.code.now c.requires.code
