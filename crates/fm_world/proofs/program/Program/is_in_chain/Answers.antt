use Rattle.fm_world.proofs.Displays.{among_at_depth, not_among_past_depth, display-full}
use Rattle.std.proofs.Common.{sym}
use Rattle.fm_world.proofs.program.Program.is_in_chain.Goals as goal

pub overflow_sub-depth : goal.overflow_sub-depth
overflow_sub-depth c = display-full c.args.self.now.outline.classes c.display-lower.ensures.linear c.args.d.0 c.requires.second
    c.display-upper.result.now c.display-upper.ensures.value

pub returns-then-depth-lower : goal.returns-then-depth-lower
returns-then-depth-lower c =
    among_at_depth c.args.self.now.outline.classes c.display-lower.ensures.linear c.args.c.0 c.args.d.0 c.requires.first c.requires.second
    c.display-lower.result.now c.display-upper.result.now c.display-lower.ensures.value c.display-upper.ensures.value c.if-depth-lower.true

pub returns-else-depth-lower : goal.returns-else-depth-lower
returns-else-depth-lower c =
    sym (not_among_past_depth c.args.self.now.outline.classes c.display-lower.ensures.linear c.args.c.0 c.args.d.0 c.requires.first c.requires.second
    c.display-lower.result.now c.display-upper.result.now c.display-lower.ensures.value c.display-upper.ensures.value c.if-depth-lower.false)
