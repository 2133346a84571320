-- One new code more, and those of one class more.
use Rattle.std.proofs.Common.{◌≡◌, sym, ◌∙◌, ap, ℕ, ◌+◌, ◌-◌, ◌<◌, ◌≤◌, ◌++◌, List, [], ◌∷◌, length, map, drop, get_or, append_assoc, append-nil, drop_of_length-le}
use Rattle.std.specs.Prelude.{slice_get}
use Rattle.std.specs.List.{range_with_len}
use Rattle.std.proofs.lemmas.List.{map-append}
use Rattle.fm_base.proofs.ListFacts.{drop_here}
use Rattle.fm_code.specs.declared.class_file.ClassDef.{ClassDef}
use Rattle.fm_code.specs.declared.class_file.Member.{Member}
use Rattle.fm_code.specs.declared.code_array.Item.{Item}
use Rattle.fm_audit.proofs.HeldLemmas.{range_from, range_past}
use Rattle.fm_audit.specs.declared.methods.NewCode.{NewCode}
use Rattle.fm_audit_classes.specs.inner.Codes.{code_in, codes_in, free_for, method_items, pair_of, written_codes}

-- a code more
pub pushed : (codes more : List NewCode) (new : NewCode) (free : ℕ) (methods : List Member) (i n : ℕ) (whole : List (ℕ × List Item))
    → more ≡ codes ++ new ∷ [] → new.free ≡ free → new.items.now ≡ method_items (slice_get methods i) → i < n
    → map pair_of codes ++ map (code_in free methods) (range_with_len i (n - i)) ≡ whole
    → map pair_of more ++ map (code_in free methods) (range_with_len (i + 1) (n - (i + 1))) ≡ whole
pushed codes more new free methods i n whole more_is free_is items_are below so_far =
    let rest = map (code_in free methods) (range_with_len (i + 1) (n - (i + 1))) in
    ap (λ (l : List NewCode). map pair_of l ++ rest) more_is
    ∙ ap (λ (l : List (ℕ × List Item)). l ++ rest) (map-append pair_of codes (new ∷ []))
    ∙ append_assoc (map pair_of codes) (pair_of new ∷ []) rest
    ∙ (λ k. map pair_of codes ++ (free_is k, items_are k) ∷ rest)
    ∙ ap (λ (ns : List ℕ). map pair_of codes ++ map (code_in free methods) ns) (sym (range_from i n below)) ∙ so_far

-- none is left
pub all_pushed : (codes : List NewCode) (free : ℕ) (methods : List Member) (i n : ℕ) (whole : List (ℕ × List Item)) → n ≤ i
    → map pair_of codes ++ map (code_in free methods) (range_with_len i (n - i)) ≡ whole → map pair_of codes ≡ whole
all_pushed codes free methods i n whole past so_far =
    sym (append-nil (map pair_of codes)) ∙ ap (λ (ns : List ℕ). map pair_of codes ++ map (code_in free methods) ns) (sym (range_past i n past)) ∙ so_far

-- the codes of a class more
pub class_pushed : (codes more : List NewCode) (classes written : List ClassDef) (place : ℕ) (class new : ClassDef) (free : ℕ) (methods : List Member)
    (whole : List (ℕ × List Item)) → place < length classes → place < length written → class ≡ get_or classes place class → new ≡ get_or written place new
    → free ≡ free_for class → methods ≡ new.methods → map pair_of more ≡ map pair_of codes ++ codes_in free (length class.methods) methods
    → map pair_of codes ++ written_codes (drop place classes) (drop place written) ≡ whole
    → map pair_of more ++ written_codes (drop (place + 1) classes) (drop (place + 1) written) ≡ whole
class_pushed codes more classes written place class new free methods whole within inside class_is new_is free_is methods_are more_is so_far =
    let rest = written_codes (drop (place + 1) classes) (drop (place + 1) written) in
    ap (λ (l : List (ℕ × List Item)). l ++ rest) more_is
    ∙ append_assoc (map pair_of codes) (codes_in free (length class.methods) methods) rest
    ∙ (λ k. map pair_of codes ++ (codes_in (free_is k) (length class.methods) (methods_are k) ++ rest))
    ∙ (λ k. map pair_of codes ++ written_codes (sym (drop_here classes place class within class_is) k) (sym (drop_here written place new inside new_is) k))
    ∙ so_far

-- none is left
pub all_classes : (codes : List NewCode) (classes written : List ClassDef) (place : ℕ) (whole : List (ℕ × List Item)) → length classes ≤ place
    → map pair_of codes ++ written_codes (drop place classes) (drop place written) ≡ whole → map pair_of codes ≡ whole
all_classes codes classes written place whole past so_far =
    sym (append-nil (map pair_of codes))
    ∙ ap (λ (l : List ClassDef). map pair_of codes ++ written_codes l (drop place written)) (sym (drop_of_length-le classes past)) ∙ so_far
