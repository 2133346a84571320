-- The first refusal of all is the first one of the first kind that has any.
use Rattle.std.proofs.Common.{◌≡◌, ◌∙◌, ap, ℕ, List, [], ◌∷◌, ◌++◌, Some, slice_get}
use Rattle.fm_code.specs.declared.class_file.ClassDef.{ClassDef}
use Rattle.fm_world.specs.Causes.{Refusal}
use Rattle.fm_world.specs.Linking.{refusals, refused_built_ins, refused_duplicates, refused_fields, refused_main, refused_methods, refused_missing_classes, refused_not_implemented, refused_parents}

-- ---- two lists one after the other

head_left : (xs ys : List Refusal) (r : Refusal) → slice_get xs 0 ≡ Some r → slice_get (xs ++ ys) 0 ≡ Some r
head_left [] ys r h = absurd cc
head_left (x ∷ xs) ys r h = h

head_right : (xs ys : List Refusal) (r : Refusal) → xs ≡ [] → slice_get ys 0 ≡ Some r → slice_get (xs ++ ys) 0 ≡ Some r
head_right xs ys r none h = ap (λ zs. slice_get (zs ++ ys) 0) none ∙ h

pub both_none : (xs ys : List Refusal) → xs ≡ [] → ys ≡ [] → xs ++ ys ≡ []
both_none xs ys none empty = ap (λ zs. zs ++ ys) none ∙ empty

-- ---- the kinds so far

pub upto_built_ins : List ClassDef → List Refusal
upto_built_ins given = refused_duplicates given ++ refused_built_ins given

pub upto_missing_classes : List ClassDef → List Refusal
upto_missing_classes given = upto_built_ins given ++ refused_missing_classes given

pub upto_parents : List ClassDef → List Refusal
upto_parents given = upto_missing_classes given ++ refused_parents given

pub upto_fields : List ClassDef → List Refusal
upto_fields given = upto_parents given ++ refused_fields given

pub upto_methods : List ClassDef → List Refusal
upto_methods given = upto_fields given ++ refused_methods given

pub upto_not_implemented : List ClassDef → List Refusal
upto_not_implemented given = upto_methods given ++ refused_not_implemented given

-- nothing is refused so far
pub built_ins_met : (given : List ClassDef) → refused_duplicates given ≡ [] → refused_built_ins given ≡ [] → upto_built_ins given ≡ []
unfolding upto_built_ins
built_ins_met given none empty = both_none (refused_duplicates given) (refused_built_ins given) none empty

pub missing_classes_met : (given : List ClassDef) → upto_built_ins given ≡ [] → refused_missing_classes given ≡ [] → upto_missing_classes given ≡ []
unfolding upto_missing_classes
missing_classes_met given none empty = both_none (upto_built_ins given) (refused_missing_classes given) none empty

pub parents_met : (given : List ClassDef) → upto_missing_classes given ≡ [] → refused_parents given ≡ [] → upto_parents given ≡ []
unfolding upto_parents
parents_met given none empty = both_none (upto_missing_classes given) (refused_parents given) none empty

pub fields_met : (given : List ClassDef) → upto_parents given ≡ [] → refused_fields given ≡ [] → upto_fields given ≡ []
unfolding upto_fields
fields_met given none empty = both_none (upto_parents given) (refused_fields given) none empty

pub methods_met : (given : List ClassDef) → upto_fields given ≡ [] → refused_methods given ≡ [] → upto_methods given ≡ []
unfolding upto_methods
methods_met given none empty = both_none (upto_fields given) (refused_methods given) none empty

pub not_implemented_met : (given : List ClassDef) → upto_methods given ≡ [] → refused_not_implemented given ≡ [] → upto_not_implemented given ≡ []
unfolding upto_not_implemented
not_implemented_met given none empty = both_none (upto_methods given) (refused_not_implemented given) none empty

pub all_met : (given : List ClassDef) (main : List ℕ) → upto_not_implemented given ≡ [] → refused_main given main ≡ [] → refusals given main ≡ []
unfolding refusals upto_not_implemented upto_methods upto_fields upto_parents upto_missing_classes upto_built_ins
all_met given main none empty = both_none (upto_not_implemented given) (refused_main given main) none empty

-- ---- the first refusal

pub refused_last : (given : List ClassDef) (main : List ℕ) (r : Refusal) → upto_not_implemented given ≡ [] → slice_get (refused_main given main) 0
    ≡ Some r
    → slice_get (refusals given main) 0 ≡ Some r
unfolding refusals upto_not_implemented upto_methods upto_fields upto_parents upto_missing_classes upto_built_ins
refused_last given main r none h = head_right (upto_not_implemented given) (refused_main given main) r none h

pub refused_early : (given : List ClassDef) (main : List ℕ) (r : Refusal) → slice_get (upto_not_implemented given) 0 ≡ Some r
    → slice_get (refusals given main) 0 ≡ Some r
unfolding refusals upto_not_implemented upto_methods upto_fields upto_parents upto_missing_classes upto_built_ins
refused_early given main r h = head_left (upto_not_implemented given) (refused_main given main) r h

pub not_implemented_first : (given : List ClassDef) (r : Refusal) → upto_methods given ≡ [] → slice_get (refused_not_implemented given) 0 ≡ Some r
    → slice_get (upto_not_implemented given) 0 ≡ Some r
unfolding upto_not_implemented
not_implemented_first given r none h = head_right (upto_methods given) (refused_not_implemented given) r none h

pub methods_first : (given : List ClassDef) (r : Refusal) → upto_fields given ≡ [] → slice_get (refused_methods given) 0 ≡ Some r
    → slice_get (upto_not_implemented given) 0 ≡ Some r
unfolding upto_not_implemented upto_methods
methods_first given r none h =
    head_left (upto_methods given) (refused_not_implemented given) r (head_right (upto_fields given) (refused_methods given) r none h)

pub upto_fields_first : (given : List ClassDef) (r : Refusal) → slice_get (upto_fields given) 0 ≡ Some r → slice_get (upto_not_implemented given) 0
    ≡ Some r
unfolding upto_not_implemented upto_methods
upto_fields_first given r h = head_left (upto_methods given) (refused_not_implemented given) r (head_left (upto_fields given) (refused_methods given)
    r h)

pub fields_first : (given : List ClassDef) (r : Refusal) → upto_parents given ≡ [] → slice_get (refused_fields given) 0 ≡ Some r
    → slice_get (upto_fields given) 0 ≡ Some r
unfolding upto_fields
fields_first given r none h = head_right (upto_parents given) (refused_fields given) r none h

pub parents_first : (given : List ClassDef) (r : Refusal) → upto_missing_classes given ≡ [] → slice_get (refused_parents given) 0 ≡ Some r
    → slice_get (upto_fields given) 0 ≡ Some r
unfolding upto_fields upto_parents
parents_first given r none h = head_left (upto_parents given) (refused_fields given) r (head_right (upto_missing_classes given) (refused_parents
    given) r none h)

pub upto_missing_classes_first : (given : List ClassDef) (r : Refusal) → slice_get (upto_missing_classes given) 0 ≡ Some r
    → slice_get (upto_fields given) 0 ≡ Some r
unfolding upto_fields upto_parents
upto_missing_classes_first given r h = head_left (upto_parents given) (refused_fields given) r (head_left (upto_missing_classes given)
    (refused_parents given) r h)

pub missing_classes_first : (given : List ClassDef) (r : Refusal) → upto_built_ins given ≡ [] → slice_get (refused_missing_classes given) 0 ≡ Some r
    → slice_get (upto_missing_classes given) 0 ≡ Some r
unfolding upto_missing_classes
missing_classes_first given r none h = head_right (upto_built_ins given) (refused_missing_classes given) r none h

pub built_ins_first : (given : List ClassDef) (r : Refusal) → refused_duplicates given ≡ [] → slice_get (refused_built_ins given) 0 ≡ Some r
    → slice_get (upto_missing_classes given) 0 ≡ Some r
unfolding upto_missing_classes upto_built_ins
built_ins_first given r none h =
    head_left (upto_built_ins given) (refused_missing_classes given) r (head_right (refused_duplicates given) (refused_built_ins given) r none h)

pub duplicates_first : (given : List ClassDef) (r : Refusal) → slice_get (refused_duplicates given) 0 ≡ Some r
    → slice_get (upto_missing_classes given) 0 ≡ Some r
unfolding upto_missing_classes upto_built_ins
duplicates_first given r h =
    head_left (upto_built_ins given) (refused_missing_classes given) r (head_left (refused_duplicates given) (refused_built_ins given) r h)
