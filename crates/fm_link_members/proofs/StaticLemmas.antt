-- The nearest static method of a class, found in the sections of the class and its superclasses.
use Rattle.std.proofs.Common.{◌≡◌, refl, sym, ◌∙◌, ap, ℕ, suc, ◌+◌, ◌-◌, ◌<◌, ◌≤◌, Bool, false, cond, List, length, map, Option, Some, None, option_and_then, slice_get, arith, ◌⊎◌, inl, inr}
use Rattle.std.proofs.lemmas.Bool.{cases_lt}
use Rattle.std.proofs.lemmas.List.FromFn.{length-map-range_with_len}
use Rattle.std.proofs.lemmas.Option.{slice_get_past}
use Rattle.fm_code.specs.AccessFlags.{is_static}
use Rattle.fm_world.specs.Chains.{chain_of, first_found}
use Rattle.fm_world.specs.Members.{first_method, method_among, methods_of, own_method}
use Rattle.fm_world.specs.declared.declarations.DeclaredClass.{DeclaredClass}
use Rattle.fm_link_supers.proofs.ParentTables.{list_in-row}
use Rattle.fm_link_members.proofs.FoundLemmas.{first_found-none, row_of_own}
use Rattle.fm_world.proofs.OverridingLemmas.{first_found-same}
use Rattle.fm_link_members.proofs.LookupLemmas.{method_by_signature}
use Rattle.fm_link_members.proofs.NearestLemmas.{own_by-section}
use Rattle.fm_link_members.proofs.SectionLemmas.{own_method-position}
use Rattle.fm_link_members.proofs.SectionRows.{AreSections-methods}
use Rattle.fm_link_members.proofs.SignatureLemmas.{none-named}
use Rattle.fm_link_supers.specs.declared.hierarchy.Hierarchy.{Hierarchy}
use Rattle.fm_link_members.specs.declared.lookups.Methods.{Methods}
use Rattle.fm_link_members.specs.inner.FoundMembers.{own_static_in, static_among_in}
use Rattle.fm_link_supers.specs.inner.Hierarchy.{IsHierarchy}
use Rattle.fm_link_supers.specs.inner.ListTables.{list_in}
use Rattle.fm_link_members.specs.inner.MemberRows.{method_alike, section_of}
use Rattle.fm_link_members.specs.inner.MemberTables.{first_from, own_by, signature_of, AreMethods}
use Rattle.fm_link_members.specs.inner.NearestSteps.{is_signed}

-- past all classes there is no section
section-past : (first : List ℕ) (class : ℕ) → length first ≤ class + 1 → section_of first class ≡ (0, 0)
section-past first class past = by_start (slice_get first class) refl where
  by_start : (o : Option ℕ) → slice_get first class ≡ o → section_of first class ≡ (0, 0)
  by_start None e = rw e refl
  by_start (Some start) e = rw (e, slice_get_past first (class + 1) past) refl

own_static-is : (texts : List (List ℕ)) (classes : List DeclaredClass) (m : Methods) → AreMethods texts classes m → (signature class : ℕ)
    → own_static_in m signature class ≡ own_by m.members.rows.items m.signatures.of_members.items is_static signature class
own_static-is texts classes m are signature class = by_class (cases_lt class (length classes)) where
  rows_count : length m.members.first.items ≡ length classes + 1
  rows_count = ap length are.rows.first ∙ length-map-range_with_len (first_method classes) 0 (length classes + 1)

  no_own : length classes ≤ class → (o : Option ℕ)
      → own_by m.members.rows.items m.signatures.of_members.items is_static signature class ≡ o → None ≡ o
  no_own past None e = refl
  no_own past (Some k) e =
      let row = row_of_own m.members.rows.items m.signatures.of_members.items is_static signature class k e in
      let outside = (AreSections-methods texts classes m.members are.rows).outside class k row.within row.class_is in
      absurd (omega (arith, past, outside.0))

  by_class : (class < length classes) ⊎ (length classes ≤ class)
      → own_static_in m signature class ≡ own_by m.members.rows.items m.signatures.of_members.items is_static signature class
  by_class (inl within) =
      own_by-section classes m.members (AreSections-methods texts classes m.members are.rows) m.signatures.of_members.items is_static signature class
      (section_of m.members.first.items class).0 (section_of m.members.first.items class).1 within refl
  by_class (inr past) =
      ap (λ (s : ℕ × ℕ). first_from (is_signed m.members.rows.items m.signatures.of_members.items is_static signature) (s.1 - s.0) s.0)
      (section-past m.members.first.items class (omega (arith, past, rows_count)))
      ∙ no_own past (own_by m.members.rows.items m.signatures.of_members.items is_static signature class) refl

pub nearest_static-is : (texts : List (List ℕ)) (classes : List DeclaredClass) (m : Methods) (h : Hierarchy) (class name descriptor : ℕ)
    (n d : List ℕ) → AreMethods texts classes m → IsHierarchy classes h → class < length classes → slice_get texts name ≡ Some n
    → slice_get texts descriptor ≡ Some d
    → static_among_in m (list_in h.chains.items class) name descriptor ≡ method_among classes is_static n d (chain_of classes class)
nearest_static-is texts classes m h class name descriptor n d are is within there_n there_d =
    ap (option_and_then (λ s. first_found (own_static_in m s) (list_in h.chains.items class))) (are.signatures.numbered name descriptor)
    ∙ by_key (signature_of m.members.rows.items name descriptor) refl where
      by_key : (o : Option ℕ) → signature_of m.members.rows.items name descriptor ≡ o
          → option_and_then (λ s. first_found (own_static_in m s) (list_in h.chains.items class)) o
          ≡ method_among classes is_static n d (chain_of classes class)
      by_key None e =
          sym (first_found-none (own_method classes is_static n d) (chain_of classes class) (λ x among.
          own_method-position classes is_static n d x
          ∙ none-named texts m.members.rows.items (map method_alike (methods_of classes)) are.distinct are.rows.rows is_static name descriptor n d x
          there_n there_d e))
      by_key (Some s) e =
          ap (first_found (own_static_in m s)) (list_in-row (chain_of classes) (length classes) class h.chains.items is.chains within)
          ∙ first_found-same (own_static_in m s) (own_method classes is_static n d) (chain_of classes class) (λ x.
          own_static-is texts classes m are s x ∙ method_by_signature texts classes m are is_static name descriptor s n d there_n there_d e x)

-- a number that fails is passed over
pub first_later : (p : ℕ → Bool) (k end : ℕ) (whole : Option ℕ) → k < end → p k ≡ false → first_from p (end - k) k ≡ whole
    → first_from p (end - (k + 1)) (k + 1) ≡ whole
first_later p k end whole within fails so_far =
    let more : suc (end - (k + 1)) ≡ end - k = omega (arith, within) in
    let next : k + 1 ≡ suc k = omega arith in
    ap (first_from p (end - (k + 1))) next ∙ sym (ap (λ b. cond b (Some k) (first_from p (end - (k + 1)) (suc k))) fails)
    ∙ ap (λ n. first_from p n k) more
    ∙ so_far
