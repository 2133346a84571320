use Rattle.std.proofs.Common.{◌≡◌, ◌++◌, drop, map, string_bytes}
use Rattle.freeme.proofs.auditing.texts_of.Given as goal

abbrev pub invariant-loop-name : goal.invariant-loop-name
invariant-loop-name l = map (λ n. n.now) l.texts.items ++ map string_bytes (drop l.name-index l.names) ≡ map string_bytes l.names
