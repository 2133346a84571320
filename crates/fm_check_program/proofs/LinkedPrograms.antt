-- Each method of a program that accepted class files make may be checked.
use Rattle.std.proofs.Common.{◌≡◌, refl, sym, ◌∙◌, ap, ℕ, zero, suc, ◌<◌, List, [], ◌∷◌, ◌++◌, length, map, replicate, Contains, Option, Some, None, IfSome, subst, arith}
use Rattle.std.specs.List.{AllByRecursion, flat_map, slice_index_or}
use Rattle.fm_code.proofs.EdgesLemmas.{MeetsCodeRules-method}
use Rattle.fm_code.specs.Edges.{MeetsCodeRules}
use Rattle.fm_code.specs.Members.{code_of}
use Rattle.fm_code.specs.Profile.{CodeIsWithin, IsWithinLimits, MethodIsWithin}
use Rattle.fm_code.specs.Spells.{HasSpelling}
use Rattle.fm_code.specs.declared.class_file.ClassDef.{ClassDef}
use Rattle.fm_code.specs.declared.class_file.Member.{Member}
use Rattle.fm_code.specs.declared.code_array.Code.{Code}
use Rattle.fm_check.specs.Checking.{coded, HasCode, IsNarrow}
use Rattle.fm_check_program.specs.Untyped.{AreCheckable}
use Rattle.fm_check_program.proofs.Trees.{no_built_in_refused, no_parent_refused, tree_of}
use Rattle.fm_link_records.proofs.CodeLaws.{AreCodes-all}
use Rattle.fm_check_rows.proofs.UseLemmas.{uses_name_members}
use Rattle.fm_world.specs.BuiltIns.{built_in}
use Rattle.fm_world.specs.Linking.{refusals}
use Rattle.fm_world.specs.Members.{method_at, methods_of}
use Rattle.fm_world.specs.Programs.{body_of, classes_of, codes_of, method_info, outline_of, program_of}
use Rattle.fm_world.specs.declared.declarations.DeclaredMethod.{DeclaredMethod}

-- ---- the codes of files

-- it is in a class file, and its counts are within their limits
abbrev IsGood : Code → Type 0
IsGood code = MeetsCodeRules code × IsNarrow code

-- each code that is there has this
abbrev pub AreAll : (Code → Type 0) → List (Option Code) → Type 0
AreAll P codes = AllByRecursion (λ (o : Option Code). IfSome o P) codes

all-append : (P : Code → Type 0) (codes others : List (Option Code)) → AreAll P codes → AreAll P others → AreAll P (codes ++ others)
all-append P [] others first second = second
all-append P (o ∷ codes) others first second = (first.0, all-append P codes others first.1 second)

all-none : (P : Code → Type 0) (n : ℕ) → AreAll P (replicate n None)
all-none P zero = tt
all-none P (suc n) = (tt, all-none P n)

all_files : (P : Code → Type 0) (given : List ClassDef) → AllByRecursion (λ (c : ClassDef). AreAll P (map code_of c.methods)) given
    → AreAll P (flat_map (λ (c : ClassDef). map code_of c.methods) given)
all_files P [] all = tt
all_files P (c ∷ given) all =
    all-append P (map code_of c.methods) (flat_map (λ (d : ClassDef). map code_of d.methods) given) all.0 (all_files P given all.1)

-- what each code of the files has, each code of a program has
pub all_codes : (P : Code → Type 0) (given : List ClassDef) → AllByRecursion (λ (c : ClassDef). AreAll P (map code_of c.methods)) given
    → AreAll P (codes_of given)
unfolding codes_of
all_codes P given all =
    all-append P (replicate (length (methods_of built_in)) None) (flat_map (λ (c : ClassDef). map code_of c.methods) given)
    (all-none P (length (methods_of built_in))) (all_files P given all)

-- and so has the code of a method
pub code_there : (P : Code → Type 0) (codes : List (Option Code)) (k : ℕ) (code : Code) → AreAll P codes → slice_index_or codes k None ≡ Some code
    → (k < length codes) × P code
code_there P [] k code all is = absurd cc
code_there P (o ∷ codes) zero code all is = (omega arith, subst (λ (x : Option Code). IfSome x P) is all.0)
code_there P (o ∷ codes) (suc k) code all is = let later = code_there P codes k code all.1 is in (omega (arith, later.0), later.1)

among_later : (m n : Member) (members : List Member) → Contains members n → Contains (m ∷ members) n
among_later m n members (k, within, there) = (suc k, omega (arith, within), there)

good_members : (c : ClassDef) → HasSpelling c → (members : List Member) → ((m : Member) → Contains members m → Contains c.methods m)
    → AllByRecursion MethodIsWithin members → AreAll IsGood (map code_of members)
good_members c spelled [] among within = tt
good_members c spelled (m ∷ members) among within =
    (good (code_of m) refl within.0, good_members c spelled members (λ n there. among n (among_later m n members there)) within.1) where
      good : (o : Option Code) → code_of m ≡ o → IfSome o CodeIsWithin → IfSome o IsGood
      good None is fits = tt
      good (Some code) is fits =
          (MeetsCodeRules-method c m code spelled (among m (0, omega arith, refl)) is, record { stack = fits.stack; locals = fits.locals })

good_files : (given : List ClassDef) → AllByRecursion HasSpelling given → AllByRecursion IsWithinLimits given
    → AllByRecursion (λ (c : ClassDef). AreAll IsGood (map code_of c.methods)) given
good_files [] spelled within = tt
good_files (c ∷ given) spelled within =
    (good_members c spelled.0 c.methods (λ m there. there) within.0, good_files given spelled.1 within.1)

-- ---- programs

coded_at : (m : DeclaredMethod) (row : Option ℕ) (code : Code) → ((r : ℕ) → row ≡ Some r → Some code ≡ None)
    → coded (body_of (record m { row = row }) (Some code)) ≡ Some code
coded_at m None code none = refl
coded_at m (Some r) code none = absurd (let e = none r refl in cc)

-- Of accepted class files that have no cause of refusal: their program may be checked.
pub are_checkable : (given : List ClassDef) (main : List ℕ) → AllByRecursion HasSpelling given → AllByRecursion IsWithinLimits given
    → refusals given main ≡ [] → AreCheckable (program_of given main)
unfolding program_of outline_of method_info
are_checkable given main spelled within none = record {
  linked = record { tree = tree_of given spelled (no_built_in_refused given main none) (no_parent_refused given main none); uses = uses_name_members given main };
  codes = λ method. at method (slice_index_or (codes_of given) method None) refl;
} where
  at : (method : ℕ) (o : Option Code) → slice_index_or (codes_of given) method None ≡ o
      → IfSome o (λ code. HasCode (program_of given main) method code × IsNarrow code)
  at method None is = tt
  at method (Some code) is =
      let found = code_there IsGood (codes_of given) method code (all_codes IsGood given (good_files given spelled within)) is in
      let all = AreCodes-all given in
      let inside : method < length (methods_of (classes_of given)) = let count = all.count in omega (arith, found.0, count) in
      let m = (method_at (classes_of given) method).method in
      let body : coded (body_of m (slice_index_or (codes_of given) method None)) ≡ Some code =
      ap (λ o. coded (body_of m o)) is ∙ coded_at m m.row code (λ row built. sym is ∙ all.built_in method row inside built) in
      (record { inside = inside; body = body; spelled = found.1.0 }, found.1.1)
