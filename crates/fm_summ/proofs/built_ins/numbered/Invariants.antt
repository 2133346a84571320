use Rattle.std.proofs.Common.{◌≡◌, take, map}
use Rattle.fm_summ.specs.inner.BuiltIns.{entry_number}
use Rattle.fm_summ.proofs.built_ins.numbered.Given as goal

abbrev pub invariant-loop-end : goal.invariant-loop-end
invariant-loop-end l = l.entries.items ≡ map (λ e. (e, entry_number l.row e)) (take l.end-index l.ends)
