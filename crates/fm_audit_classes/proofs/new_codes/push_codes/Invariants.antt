use Rattle.std.proofs.Common.{◌≡◌, ◌+◌, ◌-◌, ◌++◌, length, map}
use Rattle.std.specs.List.{range_with_len}
use Rattle.fm_audit_classes.specs.inner.Codes.{code_in, codes_in, pair_of}
use Rattle.fm_audit_classes.proofs.new_codes.push_codes.Given as goal

abbrev pub invariant-loop-place : goal.invariant-loop-place
invariant-loop-place l = record {
  count : length l.codes.items ≡ length l.fn.codes.items + l.place;
  pairs : map pair_of l.codes.items ++ map (code_in l.free l.methods) (range_with_len l.place (l.count - l.place))
      ≡ map pair_of l.fn.codes.items ++ codes_in l.free l.count l.methods;
}
