-- What a writer took part by part is a prefix of the bytes.
use Rattle.std.proofs.Common.{◌≡◌, ℕ, ◌-◌, List, ◌++◌, length, take, drop, Option, sym, ap, ◌∙◌, subst, append_assoc, append-nil, length-append, take-append-drop, arith}
use Rattle.std.proofs.Math.Seq.{take-append_seam}
use Rattle.std.proofs.KnownBytes.{Appends-trans}
use Rattle.std.proofs.lemmas.List.{take_rest}
use Rattle.std.specs.Io.KnownBytes.{Appends}

-- of bytes of which a prefix is done, that prefix is as long as what isn't left
pub prefix_done : (old new : Option (List ℕ)) (bytes done rest : List ℕ) → bytes ≡ done ++ rest → Appends old new done → Appends old new (take (length bytes - length rest) bytes)
prefix_done old new bytes done rest split appended = subst (Appends old new) (sym (ap (λ n. take n bytes) size ∙ ap (take (length done)) split ∙ take-append_seam done rest)) appended
  where
    size : length bytes - length rest ≡ length done
    size = omega (arith, length-append done rest, ap length split)

-- a part of no bytes changes nothing
pub none_more : (old mid new : Option (List ℕ)) (done rest : List ℕ) (n : ℕ) → n ≡ 0 → Appends old mid done → Appends mid new (take n rest) → Appends old new done
none_more old mid new done rest n zero appended more =
    subst (Appends old new) (ap (λ m. done ++ take m rest) zero ∙ append-nil done) (Appends-trans old mid new done (take n rest) appended more)

-- the next part moves from the rest to what is done
pub part_moved : (bytes done rest : List ℕ) (n : ℕ) → bytes ≡ done ++ rest → bytes ≡ (done ++ take n rest) ++ drop n rest
part_moved bytes done rest n split =
    split ∙ ap (λ l. done ++ l) (sym (take-append-drop n rest)) ∙ sym (append_assoc done (take n rest) (drop n rest))

-- the same where the rest is read off as a slice
pub part_moved_slice : (bytes done rest : List ℕ) (n : ℕ) → bytes ≡ done ++ rest → bytes ≡ (done ++ take n rest) ++ take (length rest - n) (drop n rest)
part_moved_slice bytes done rest n split =
    part_moved bytes done rest n split ∙ ap (λ l. (done ++ take n rest) ++ l) (sym (take_rest rest n))
