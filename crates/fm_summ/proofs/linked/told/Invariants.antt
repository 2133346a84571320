use Rattle.std.proofs.Common.{◌≡◌, take, map}
use Rattle.fm_conn.specs.declared.shapes.Shape.{Shape}
use Rattle.fm_summ.proofs.linked.told.Given as goal

abbrev pub invariant-loop-shape : goal.invariant-loop-shape
invariant-loop-shape l =
    l.methods.items ≡ map (λ (s : Shape). record { ends = s.ends }) (take l.shape-index l.shapes)
