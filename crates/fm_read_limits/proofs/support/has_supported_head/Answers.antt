use Rattle.std.proofs.Common.{rules}
use Rattle.fm_read_limits.proofs.MarkLemmas.{unmarked_descriptor}
use Rattle.fm_read_limits.proofs.support.has_supported_head.Goals as goal
use Rattle.fm_read_limits.proofs.support.has_supported_head.Goals.{then-not-has_flag, else-not-has_flag}

pub returns-then-not-at : goal.returns-then-not-at
returns-then-not-at c =
    let decides = unmarked_descriptor c.args.pool.now.entries c.args.floating.now.marks c.args.method.now c.requires.marked c.requires.declared in
    elim c.if-not-has_flag.branch [ then-not-has_flag w ↦ search rules | else-not-has_flag w ↦ search rules ]

pub returns-else-not-at : goal.returns-else-not-at
returns-else-not-at c =
    let decides = unmarked_descriptor c.args.pool.now.entries c.args.floating.now.marks c.args.method.now c.requires.marked c.requires.declared in
    elim c.if-not-has_flag.branch [ then-not-has_flag w ↦ search rules | else-not-has_flag w ↦ search rules ]
