use Rattle.std.proofs.Common.{sym, ◌∙◌, arith}
use Rattle.fm_world.proofs.Told.{is_sub-level, is_sub-deeper, is_sub-flatter}
use Rattle.fm_world.proofs.program.Program.is_sub.Goals as goal

pub returns-then-a-b : goal.returns-then-a-b
returns-then-a-b c = c.is_sub_base.ensures ∙ sym (is_sub-level c.args.self.now.outline.classes c.args.a c.args.b c.if-a-b.true)

pub returns-then-b-a : goal.returns-then-b-a
returns-then-b-a c = c.is_base_above_arrays.ensures ∙ sym (is_sub-deeper c.args.self.now.outline.classes c.args.a c.args.b c.if-b-a.true)

pub returns-else-b-a : goal.returns-else-b-a
returns-else-b-a c = sym (is_sub-flatter c.args.self.now.outline.classes c.args.a c.args.b (omega (arith, c.if-a-b.false, c.if-b-a.false)))
