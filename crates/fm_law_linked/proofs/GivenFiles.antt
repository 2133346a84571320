-- Class files by their place: their classes, and what no cause against them says of one of them.
use Rattle.std.proofs.Common.{◌≡◌, ◌∙◌, subst, ℕ, zero, suc, ◌+◌, ◌<◌, true, List, [], ◌∷◌, ◌++◌, length, slice_get, Contains, Some, arith, zero-add}
use Rattle.std.specs.List.{AllByRecursion, flat_map}
use Rattle.std.proofs.lemmas.List.{get_or-append-add}
use Rattle.std.proofs.lemmas.List.FromFn.{get_or-range_with_len, length-range_with_len}
use Rattle.fm_code.specs.declared.class_file.ClassDef.{ClassDef}
use Rattle.fm_world.proofs.Displays.{is_among_at}
use Rattle.fm_world.specs.BuiltIns.{built_in}
use Rattle.fm_world.specs.Causes.{Refusal}
use Rattle.fm_world.specs.Chains.{class_at}
use Rattle.fm_world.specs.Declarations.{declared_from, declared_of, no_class}
use Rattle.fm_world.specs.Linking.{refusals, refused_built_ins, refused_duplicates, refused_fields, refused_main, refused_methods, refused_missing_classes, refused_not_implemented, refused_parents}
use Rattle.fm_world.specs.Programs.{classes_of}
use Rattle.fm_world.specs.Uses.{is_used, pool_indices, uses_in_order}
use Rattle.fm_world.specs.declared.declarations.DeclaredClass.{DeclaredClass}
use Rattle.fm_link_supers.proofs.BuiltInParents.{declared_at}
use Rattle.fm_link_supers.proofs.ParentRefusals.{none_at, nil_left, nil_right, among_filter}

-- ---- lists without refusals

-- a used index of which nothing is refused
pub none_used : (f : ℕ → List Refusal) (c : ClassDef) (index : ℕ) → flat_map f (uses_in_order c) ≡ [] → index < length c.pool.entries → is_used c index ≡ true
    → f index ≡ []
none_used f c index none within used =
    let n = length c.pool.entries in
    let inside : index < length (pool_indices c) = let l = length-range_with_len 0 n in omega (arith, within, l) in
    let there = is_among_at (pool_indices c) index index inside (get_or-range_with_len 0 n index 0 within ∙ zero-add index) in
    none_at f (uses_in_order c) index none (among_filter (is_used c) index (pool_indices c) there used)

pub each_one : {X : Type 0} (P : X → Type 0) (xs : List X) (x : X) → AllByRecursion P xs → Contains xs x → P x
each_one P [] x all (k, within, there) = absurd (omega (arith, within))
each_one P (y ∷ ys) x all (zero, within, there) = subst P there all.0
each_one P (y ∷ ys) x all (suc k, within, there) = each_one P ys x all.1 (k, omega (arith, within), there)

-- ---- files and their classes

-- a file's class is declared by it
pub record IsDeclared (classes : List DeclaredClass) (class : ℕ) (c : ClassDef) : Type 0 where
  pub number : ℕ
  pub declared : class_at classes class ≡ declared_of number c

pub class_of_file : (given : List ClassDef) (j : ℕ) (c : ClassDef) → slice_get given j ≡ Some c → IsDeclared (classes_of given) (length built_in + j) c
unfolding classes_of
class_of_file given j c at =
    let own = declared_at 0 given j c at in
    record { number = own.number; declared = get_or-append-add built_in (declared_from 0 given) j no_class ∙ own.declared }

-- ---- each kind of refusals is empty

pub none_missing : (given : List ClassDef) (main : List ℕ) → refusals given main ≡ [] → refused_missing_classes given ≡ []
unfolding refusals
none_missing given main none =
    let before = refused_duplicates given ++ refused_built_ins given in
    let to_classes = before ++ refused_missing_classes given in
    let to_parents = to_classes ++ refused_parents given in
    let to_fields = to_parents ++ refused_fields given in
    let to_methods = to_fields ++ refused_methods given in
    nil_right before (refused_missing_classes given)
    (nil_left to_classes (refused_parents given)
    (nil_left to_parents (refused_fields given)
    (nil_left to_fields (refused_methods given)
    (nil_left to_methods (refused_not_implemented given)
    (nil_left (to_methods ++ refused_not_implemented given) (refused_main given main) none)))))

pub no_field_refused : (given : List ClassDef) (main : List ℕ) → refusals given main ≡ [] → refused_fields given ≡ []
unfolding refusals
no_field_refused given main none =
    let before = refused_duplicates given ++ refused_built_ins given ++ refused_missing_classes given ++ refused_parents given in
    let to_fields = before ++ refused_fields given in
    let to_methods = to_fields ++ refused_methods given in
    nil_right before (refused_fields given)
    (nil_left to_fields (refused_methods given)
    (nil_left to_methods (refused_not_implemented given)
    (nil_left (to_methods ++ refused_not_implemented given) (refused_main given main) none)))

pub no_method_refused : (given : List ClassDef) (main : List ℕ) → refusals given main ≡ [] → refused_methods given ≡ []
unfolding refusals
no_method_refused given main none =
    let to_fields =
    refused_duplicates given ++ refused_built_ins given ++ refused_missing_classes given ++ refused_parents given ++ refused_fields given in
    let to_methods = to_fields ++ refused_methods given in
    nil_right to_fields (refused_methods given)
    (nil_left to_methods (refused_not_implemented given)
    (nil_left (to_methods ++ refused_not_implemented given) (refused_main given main) none))

pub none_implemented : (given : List ClassDef) (main : List ℕ) → refusals given main ≡ [] → refused_not_implemented given ≡ []
unfolding refusals
none_implemented given main none =
    let to_fields =
    refused_duplicates given ++ refused_built_ins given ++ refused_missing_classes given ++ refused_parents given ++ refused_fields given in
    let to_methods = to_fields ++ refused_methods given in
    nil_right to_methods (refused_not_implemented given)
    (nil_left (to_methods ++ refused_not_implemented given) (refused_main given main) none)
