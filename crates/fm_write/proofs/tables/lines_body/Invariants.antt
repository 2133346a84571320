use Rattle.std.proofs.Common.{◌≡◌, ◌++◌, take}
use Rattle.std.specs.List.{flat_map}
use Rattle.fm_code.specs.ClassBytes.{line_bytes}
use Rattle.fm_write.proofs.tables.lines_body.Given as goal

abbrev pub invariant-loop-line : goal.invariant-loop-line
invariant-loop-line l = l.out.items ≡ l.initial.out.items ++ flat_map (line_bytes l.code) (take l.line-index l.lines)
