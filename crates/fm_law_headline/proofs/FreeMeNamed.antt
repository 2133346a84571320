-- What names a method of FreeMe is an invokestatic of a method of the class of that name; so where no such call is found, nothing names one.
use Rattle.std.proofs.Common.{◌≡◌, ◌⊎◌, inl, inr, refl, sym, ◌∙◌, ap, ℕ, zero, suc, ◌<◌, ◌≤◌, ◌==◌, ◌&&◌, ◌||◌, not, Bool, true, false, List, [], ◌∷◌, length, Option, Some, None, option_and_then, arith}
use Rattle.std.specs.List.{AllByRecursion, list_all, slice_index_or}
use Rattle.std.specs.Str.{bytes_eq}
use Rattle.std.proofs.lemmas.Bool.{and_parts, cases_lt, eqb-true, false≢true}
use Rattle.std.proofs.lemmas.List.{get_or_append_left, get_or_past}
use Rattle.std.proofs.lemmas.Option.{none-some}
use Rattle.fm_base.specs.declared.ids.MethodId.{MethodId}
use Rattle.fm_base.specs.declared.ids.TypeId.{TypeId}
use Rattle.fm_code.specs.AccessFlags.{is_static}
use Rattle.fm_code.specs.FreeEntries.{free_class}
use Rattle.fm_code.specs.Spells.{HasSpelling}
use Rattle.fm_code.specs.declared.class_file.ClassDef.{ClassDef}
use Rattle.fm_code.specs.declared.instructions.Insn.{Insn}
use Rattle.fm_code.specs.declared.instructions.Insn.TheVariants as insn
use Rattle.fm_frames.specs.CallRows.{native_of}
use Rattle.fm_frames.specs.Natives.{native_of_row}
use Rattle.fm_frames.specs.declared.natives.Native.{Native}
use Rattle.fm_law_headline.proofs.FoundCalls.{none_found}
use Rattle.fm_law_headline.proofs.MethodEntries.{only_calls}
use Rattle.fm_law_linked.proofs.Rows.{all_methods}
use Rattle.fm_law_linked.specs.Laws.{IsLinkedWell}
use Rattle.fm_law_relinked.proofs.FreeMethod.{free_class_number}
use Rattle.fm_law_sound.specs.Resolved.{IsNamed}
use Rattle.fm_rewrite.specs.FreeCalls.{calls_free, first_call, names_free}
use Rattle.fm_same.specs.Covering.{is_free_me}
use Rattle.fm_same.specs.Resolved.{CallsNoFreeMe}
use Rattle.fm_world.specs.BuiltIns.{built_in}
use Rattle.fm_world.specs.Causes.{static_method_wanted}
use Rattle.fm_world.specs.Declarations.{declared_from, no_method}
use Rattle.fm_world.specs.Members.{method_at, methods_from, methods_of, OwnedMethod}
use Rattle.fm_world.specs.Programs.{class_info, classes_of, outline_of, program_of}
use Rattle.fm_world.specs.declared.uses.Use.TheVariants as resolved

-- ---- the table of built-in methods

-- the row is one of FreeMe's
abbrev is_free_row : Option Native → Bool
is_free_row None = false
is_free_row (Some row) = is_free_me row

-- a method whose row is one of FreeMe's is static, and of its class
abbrev is_placed : OwnedMethod → Bool
is_placed m = not (is_free_row (option_and_then native_of_row m.method.row)) || (m.class == free_class_number && is_static m.method.flags)

table_placed : list_all is_placed (methods_of built_in) ≡ true
unfolding built_in methods_of
table_placed = refl

placed_at : (methods : List OwnedMethod) (n : ℕ) (d : OwnedMethod) → list_all is_placed methods ≡ true → n < length methods
    → is_placed (slice_index_or methods n d) ≡ true
placed_at [] n d all inside = absurd (omega (arith, inside))
placed_at (m ∷ methods) zero d all inside = (and_parts (is_placed m) (list_all is_placed methods) all).0
placed_at (m ∷ methods) (suc n) d all inside = placed_at methods n d (and_parts (is_placed m) (list_all is_placed methods) all).1 (omega (arith, inside))

-- what is known of a method of FreeMe
record IsPlaced (m : OwnedMethod) : Type 0 where
  class : m.class ≡ free_class_number
  static : is_static m.method.flags ≡ true

known_placed : (m : OwnedMethod) → is_placed m ≡ true → is_free_row (option_and_then native_of_row m.method.row) ≡ true → IsPlaced m
known_placed m placed free =
    let rest : (m.class == free_class_number && is_static m.method.flags) ≡ true =
    sym (ap (λ b. not b || (m.class == free_class_number && is_static m.method.flags)) free) ∙ placed in
    let both = and_parts (m.class == free_class_number) (is_static m.method.flags) rest in
    record { class = eqb-true m.class free_class_number both.0; static = both.1 }

-- the class of that number has its name
named_free : (given : List ClassDef) (main : List ℕ) → (class_info (outline_of given main) free_class_number).name ≡ free_class
unfolding class_info outline_of classes_of built_in
named_free given main = refl

-- ---- in a program

module _ (given : List ClassDef) (main : List ℕ) (spelled : AllByRecursion HasSpelling given) (well : IsLinkedWell (program_of given main)) where
  placed : (method : ℕ) (row : Native) → native_of (program_of given main).outline method ≡ Some row → is_free_me row ≡ true
      → IsPlaced (method_at (program_of given main).outline.classes method)
  unfolding outline_of program_of
  placed method row row_is free = by_place (cases_lt method (length (methods_of built_in))) where
    m : OwnedMethod
    m = method_at (classes_of given) method

    by_place : (method < length (methods_of built_in)) ⊎ (length (methods_of built_in) ≤ method) → IsPlaced m
    by_place (inr past) = absurd (none-some row (sym (ap (option_and_then native_of_row) (well.rows method past)) ∙ row_is))
    by_place (inl inside) =
        let d : OwnedMethod = record { class = 0; method = no_method } in
        let rest = methods_from (length built_in) (declared_from 0 given) in
        let at : m ≡ slice_index_or (methods_of built_in) method d =
        ap (λ list. slice_index_or list method d) (all_methods given) ∙ get_or_append_left (methods_of built_in) rest d method inside in
        known_placed m (ap is_placed at ∙ placed_at (methods_of built_in) method d table_placed inside) (ap is_free_row row_is ∙ free)

  -- an instruction that names such a method is found
  names_found : (method : ℕ) (i : Insn) (m : MethodId) (t : TypeId) → IsNamed (program_of given main) method i (resolved.OfMethod m t)
      → IsPlaced (method_at (program_of given main).outline.classes m.0) → calls_free (program_of given main) method i ≡ true
  unfolding outline_of program_of
  names_found method i m t x known = by_insn i x (only_calls given main spelled method m t i x) where
    is_free : names_free (outline_of given main) (resolved.OfMethod m t) ≡ true
    is_free =
        ap (λ class. bytes_eq (class_info (outline_of given main) class).name free_class) known.class
        ∙ ap (λ name. bytes_eq name free_class) (named_free given main)

    by_insn : (j : Insn) → IsNamed (program_of given main) method j (resolved.OfMethod m t) → (wanted : Bool) × (static_method_wanted j ≡ Some wanted)
        → calls_free (program_of given main) method j ≡ true
    by_insn (insn.Static index) x wanted = ap (names_free (outline_of given main)) x.use_is ∙ is_free
    by_insn (insn.Virtual index) x wanted = absurd (false≢true (sym (well.calls method (insn.Virtual index) m t false x refl) ∙ known.static))
    by_insn (insn.Special index) x wanted = absurd (false≢true (sym (well.calls method (insn.Special index) m t false x refl) ∙ known.static))
    by_insn (insn.Interface index) x wanted = absurd (false≢true (sym (well.calls method (insn.Interface index) m t false x refl) ∙ known.static))
    by_insn j x wanted = absurd (none-some wanted.0 wanted.1)

  pub calls_none : first_call (program_of given main) ≡ None → CallsNoFreeMe (program_of given main)
  calls_none none method i m t row x row_is = by_test (is_free_me row) refl where
    inside : method < length (methods_of (program_of given main).outline.classes)
    inside = by_place (cases_lt method (length (program_of given main).codes)) where
      by_place : (method < length (program_of given main).codes) ⊎ (length (program_of given main).codes ≤ method)
          → method < length (methods_of (program_of given main).outline.classes)
      by_place (inl less) = let count = well.codes in omega (arith, less, count)
      by_place (inr past) = absurd (none-some x.code (sym (get_or_past (program_of given main).codes method None past) ∙ x.code_is))

    by_test : (free : Bool) → is_free_me row ≡ free → free ≡ false
    by_test false is = refl
    by_test true is =
        let missed : calls_free (program_of given main) method i ≡ false =
        none_found (program_of given main) none method x.code inside x.code_is (well.no_row method x.code x.code_is) x.item i x.insn_is in
        absurd (false≢true (sym missed ∙ names_found method i m t x (placed m.0 row row_is is)))
