-- The items of a method's own code store into no holder, and load none.
use Rattle.std.proofs.Common.{◌≡◌, ℕ, ◌-◌, ◌<◌, Bool, true, false, cond, List, [], ◌∷◌, Option, Some, None, refl, ap}
use Rattle.std.specs.List.{AllByRecursion}
use Rattle.std.proofs.lemmas.Bool.{lt-ltb}
use Rattle.fm_code.specs.SpellsCode.{LocalsFit}
use Rattle.fm_code.specs.declared.code_array.Item.{Item}
use Rattle.fm_code.specs.declared.instructions.Insn.{Insn}
use Rattle.fm_code.specs.declared.instructions.Insn.TheVariants as insn
use Rattle.fm_code.specs.declared.operations.Reg.TheVariants as reg
use Rattle.fm_audit.specs.Reading.{and_more, holder_in, is_null, loaded, nulls, stored}

own_local : (first local : ℕ) → local < first → holder_in first local ≡ None
own_local first local within = ap (λ b. cond b None (Some (local - first))) (lt-ltb local first within)

pub stored_own : (first : ℕ) (i : Insn) → LocalsFit first i → stored first i ≡ None
stored_own first (insn.Store reg.Ref local) fits = own_local first local fits
stored_own first i fits = refl

pub loaded_own : (first : ℕ) (i : Insn) → LocalsFit first i → loaded first i ≡ None
loaded_own first (insn.Load reg.Ref local) fits = own_local first local fits
loaded_own first i fits = refl

pub none_if : (b : Bool) (o : Option ℕ) → o ≡ None → cond b o None ≡ None
none_if true o none = none
none_if false o none = refl

-- so none of them is read as one that makes a holder null
pub nulls_own : (first : ℕ) (items : List Item) → AllByRecursion (λ (item : Item). LocalsFit first item.insn) items → nulls first items ≡ []
nulls_own first [] fit = refl
nulls_own first (a ∷ []) fit = refl
nulls_own first (a ∷ b ∷ items) fit =
    ap (λ o. and_more o (nulls first items)) (none_if (is_null a.insn) (stored first b.insn) (stored_own first b.insn fit.1.0))
