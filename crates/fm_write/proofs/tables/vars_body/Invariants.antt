use Rattle.std.proofs.Common.{◌≡◌, ◌++◌, take}
use Rattle.std.specs.List.{flat_map}
use Rattle.fm_code.specs.ClassBytes.{var_bytes}
use Rattle.fm_write.proofs.tables.vars_body.Given as goal

abbrev pub invariant-loop-var : goal.invariant-loop-var
invariant-loop-var l = l.out.items ≡ l.initial.out.items ++ flat_map (var_bytes l.code) (take l.var-index l.vars)
