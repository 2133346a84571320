use Rattle.std.proofs.Common.{◌≡◌, ℕ, Some, map, take}
use Rattle.std.specs.List.{position_from}
use Rattle.fm_link_members.specs.declared.members.MemberRow.{MemberRow}
use Rattle.fm_link_members.specs.inner.MemberTables.{has_key, number_of_key, signature_of}
use Rattle.fm_link_members.proofs.members.Signatures.of.Given as goal

abbrev pub invariant-loop-place : goal.invariant-loop-place
invariant-loop-place l = record {
  numbered : (n d : ℕ) → number_of_key l.numbers n d ≡ position_from (has_key n d) 0 (take l.place l.rows);
  of_members : map (λ (n : ℕ). Some n) l.of_members.items
      ≡ map (λ (r : MemberRow). signature_of l.rows r.name r.descriptor) (take l.place l.rows);
}
