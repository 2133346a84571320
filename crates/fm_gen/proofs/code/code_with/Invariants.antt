use Rattle.std.proofs.Common.{◌≡◌, ◌+◌, ◌*◌, ◌≤◌, ◌++◌, drop, sum_by}
use Rattle.fm_gen.specs.Made.{items_from, size_of}
use Rattle.fm_gen.proofs.code.code_with.Given as goal

abbrev pub invariant-loop-insn : goal.invariant-loop-insn
invariant-loop-insn l = record {
  items : l.items.items ++ items_from l.length (drop l.insn-index l.insns) ≡ items_from 0 l.insns;
  sum : l.length + sum_by size_of (drop l.insn-index l.insns) ≡ sum_by size_of l.insns;
  few : l.length ≤ 3 * l.insn-index;
}
