-- Where no first call of FreeMe is found, no item of any method is one.
use Rattle.std.proofs.Common.{◌≡◌, ◌⊎◌, inl, inr, refl, sym, ◌∙◌, ap, ℕ, zero, suc, ◌+◌, ◌<◌, ◌≤◌, Bool, true, false, cond, List, [], ◌∷◌, length, Option, Some, None, arith, slice_get, subst}
use Rattle.std.specs.List.{range_with_len}
use Rattle.std.specs.Option.{option_map, option_or}
use Rattle.std.proofs.lemmas.Bool.{cases_lt}
use Rattle.std.proofs.lemmas.Option.{none-some, same_Some}
use Rattle.fm_check.specs.Checking.{coded}
use Rattle.fm_code.specs.Edges.{insn_of}
use Rattle.fm_code.specs.declared.code_array.Code.{Code}
use Rattle.fm_code.specs.declared.code_array.Item.{Item}
use Rattle.fm_code.specs.declared.instructions.Insn.{Insn}
use Rattle.fm_rewrite.specs.FreeCalls.{call_among, call_in_code, call_in_items, call_in_method, calls_free, first_call}
use Rattle.fm_world.specs.Members.{method_at, methods_of}
use Rattle.fm_world.specs.Programs.{body_of, code_at, method_info, Program}
use Rattle.fm_world.specs.declared.declarations.DeclaredMethod.{DeclaredMethod}

-- nothing is found where this test fails and nothing later is found
neither : {X : Type 0} (test : Bool) (x : X) (later : Option X) → cond test (Some x) later ≡ None → (test ≡ false) × (later ≡ None)
neither true x later none = absurd (none-some x (sym none))
neither false x later none = (refl, none)

neither_first : {X Y : Type 0} (f : X → Y) (first : Option X) (later : Option Y) → option_or (option_map f first) later ≡ None
    → (first ≡ None) × (later ≡ None)
neither_first f (Some x) later none = absurd (none-some (f x) (sym none))
neither_first f None later none = (refl, none)

module _ (p : Program) where
  -- ---- in a method

  none_at : (method : ℕ) (items : List Item) (place : ℕ) (i : Insn) → call_in_items p method items ≡ None
      → option_map (λ (item : Item). item.insn) (slice_get items place) ≡ Some i → calls_free p method i ≡ false
  none_at method [] place i none at = absurd (none-some i at)
  none_at method (x ∷ items) zero i none at =
      ap (calls_free p method) (sym (same_Some x.insn i at))
      ∙ (neither (calls_free p method x.insn) x.offset (call_in_items p method items) none).0
  none_at method (x ∷ items) (suc place) i none at =
      none_at method items place i (neither (calls_free p method x.insn) x.offset (call_in_items p method items) none).1 at

  coded_body : (m : DeclaredMethod) (row : Option ℕ) (code : Code) → m.row ≡ row → row ≡ None → coded (body_of m (Some code)) ≡ Some code
  coded_body m row code is none = ap (λ r. coded (body_of (record m { row = r }) (Some code))) (is ∙ none)

  none_in_code : (method : ℕ) (code : Code) → code_at p method ≡ Some code → (method_at p.outline.classes method).method.row ≡ None
      → call_in_method p method ≡ None → call_in_items p method code.items ≡ None
  unfolding method_info
  none_in_code method code code_is no_row none =
      let m = (method_at p.outline.classes method).method in
      sym
      (ap (λ o. call_in_code p method (coded (body_of m o))) code_is ∙ ap (call_in_code p method) (coded_body m m.row code refl no_row))
      ∙ none

  -- ---- in all methods

  none_among : (first count method : ℕ) → call_among p (range_with_len first count) ≡ None → first ≤ method → method < first + count
      → call_in_method p method ≡ None
  none_among first zero method none from within = absurd (omega (arith, from, within))
  none_among first (suc count) method none from within =
      by_place (cases_lt first method) (neither_first (λ offset. (first, offset)) (call_in_method p first) (call_among p (range_with_len (first + 1) count)) none)
      (none_among (first + 1) count method) where
        by_place : (first < method) ⊎ (method ≤ first)
            → (call_in_method p first ≡ None) × (call_among p (range_with_len (first + 1) count) ≡ None)
            → (call_among p (range_with_len (first + 1) count) ≡ None → first + 1 ≤ method → method < first + 1 + count → call_in_method p method ≡ None)
            → call_in_method p method ≡ None
        by_place (inl less) both later = later both.1 (omega (arith, less)) (omega (arith, within))
        by_place (inr le) both later = let same : first ≡ method = omega (arith, from, le) in subst (λ k. call_in_method p k ≡ None) same both.0

  -- no instruction of a method that has code calls FreeMe
  pub none_found : first_call p ≡ None → (method : ℕ) (code : Code) → method < length (methods_of p.outline.classes)
      → code_at p method ≡ Some code → (method_at p.outline.classes method).method.row ≡ None
      → (place : ℕ) (i : Insn) → insn_of code place ≡ Some i → calls_free p method i ≡ false
  unfolding first_call
  none_found none method code inside code_is no_row place i is =
      none_at method code.items place i
      (none_in_code method code code_is no_row
      (none_among 0 (length (methods_of p.outline.classes)) method none (omega arith) (omega (arith, inside)))) is
