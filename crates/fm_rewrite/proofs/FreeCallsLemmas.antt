-- The first call of a method of FreeMe, method by method.
use Rattle.std.proofs.Common.{◌≡◌, ℕ, suc, ◌+◌, ◌-◌, ◌<◌, Bool, cond, List, [], ◌∷◌, length, Option, Some, None, refl, sym, ap, ◌∙◌, arith}
use Rattle.std.specs.List.{range_with_len}
use Rattle.std.specs.Option.{option_map, option_or}
use Rattle.fm_check.specs.Checking.{coded}
use Rattle.fm_code.specs.declared.class_file.ClassDef.{ClassDef}
use Rattle.fm_code.specs.declared.code_array.Code.{Code}
use Rattle.fm_code.specs.declared.code_array.Item.{Item}
use Rattle.fm_code.specs.declared.instructions.Insn.{Insn}
use Rattle.fm_code.specs.declared.instructions.Insn.TheVariants as insn
use Rattle.fm_place.specs.Safe.{IsProgramOf, narrowed_to}
use Rattle.fm_rewrite.specs.FreeCalls.{call_among, call_in_code, call_in_items, call_in_method, calls_free, first_call}
use Rattle.fm_world.specs.Members.{methods_of}
use Rattle.fm_world.specs.Programs.{method_info, Program, program_of}

-- the next method is the first of those that are left
next : (p : Program) (k n : ℕ) → k < n → call_among p (range_with_len k (n - k)) ≡ call_among p (k ∷ range_with_len (k + 1) (n - (k + 1)))
next p k n inside = let left : n - k ≡ suc (n - (k + 1)) = omega arith in ap (λ m. call_among p (range_with_len k m)) left

-- it has no such item
pub none_here : (p : Program) (k n : ℕ) (found : Option ℕ) (total : Option (ℕ × ℕ)) → k < n → found ≡ call_in_method p k → found ≡ None
    → call_among p (range_with_len k (n - k)) ≡ total → call_among p (range_with_len (k + 1) (n - (k + 1))) ≡ total
none_here p k n found total inside is none so_far =
    sym (ap (λ o. option_or (option_map (λ offset. (k, offset)) o) (call_among p (range_with_len (k + 1) (n - (k + 1))))) (sym is ∙ none))
    ∙ sym (next p k n inside) ∙ so_far

-- ---- programs that are narrowed

module _ (p : Program) (made : Option (List Bool)) where
  abbrev q : Program
  q = narrowed_to p made

  calls_same : (method : ℕ) (i : Insn) → calls_free q method i ≡ calls_free p method i
  calls_same method (insn.Static index) = refl
  calls_same method i = refl

  items_same : (method : ℕ) (items : List Item) → call_in_items q method items ≡ call_in_items p method items
  items_same method [] = refl
  items_same method (item ∷ items) = λ k. cond (calls_same method item.insn k) (Some item.offset) (items_same method items k)

  code_same : (method : ℕ) (found : Option Code) → call_in_code q method found ≡ call_in_code p method found
  code_same method None = refl
  code_same method (Some code) = items_same method code.items

  method_same : (method : ℕ) → call_in_method q method ≡ call_in_method p method
  unfolding method_info
  method_same method = code_same method (coded (method_info p method).body)

  among_same : (methods : List ℕ) → call_among q methods ≡ call_among p methods
  among_same [] = refl
  among_same (method ∷ methods) = λ k. option_or (option_map (λ offset. (method, offset)) (method_same method k)) (among_same methods k)

  all_same : first_call q ≡ first_call p
  unfolding first_call
  all_same = among_same (range_with_len 0 (length (methods_of p.outline.classes)))

-- the first call of a program that may be narrowed is that of the program of the class files
pub first_call_is : (given : List ClassDef) (main : List ℕ) (p : Program) → IsProgramOf given main p → first_call p ≡ first_call (program_of given main)
first_call_is given main p program_is = ap first_call program_is ∙ all_same (program_of given main) p.made
