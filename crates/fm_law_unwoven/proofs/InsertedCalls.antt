-- Where no holder holds a chain, each inserted call is by the entry of FreeMe.free.
use Rattle.std.proofs.Common.{◌≡◌, ℕ, ◌≤◌, Bool, false, Option, Some, None, length, refl, sym, ap, ◌∙◌, arith, if◌then◌else◌}
use Rattle.std.specs.Prelude.{slice_get}
use Rattle.std.proofs.lemmas.Bool.{false≢true}
use Rattle.std.proofs.lemmas.Option.{none-some, same_Some}
use Rattle.fm_base.proofs.OptionFacts.{Some-from_some_and}
use Rattle.fm_chain.specs.Chained.{chained_code, chained_marks, looped_at}
use Rattle.fm_chain.specs.declared.calls.Calls.{Calls}
use Rattle.fm_code.proofs.EdgesLemmas.{insn_inside}
use Rattle.fm_code.specs.Edges.{insn_of, MeetsCodeRules}
use Rattle.fm_code.specs.declared.code_array.Code.{Code}
use Rattle.fm_code.specs.declared.instructions.Insn.{Insn}
use Rattle.fm_code.specs.declared.instructions.Insn.TheVariants as insn
use Rattle.fm_law_unwoven.proofs.LaidTodos.{mark_by}
use Rattle.fm_law_unwoven.proofs.RoleMarks.{mark_of}
use Rattle.fm_law_unwoven.specs.Laid.{mark_at}
use Rattle.fm_law_woven_flow.proofs.Standing.{code_stands}
use Rattle.fm_law_woven_flow.specs.Roles.{CanStand, DupAfter, FreeBefore, HasHolder, HasInsn, JumpOf, Keep, LinkAfter, LoadAfter, LoadBefore, NullBefore, Role, StandsFor, StartNull, StartStore, StoreAfter, StoreBefore}
use Rattle.fm_law_woven_flow.specs.inner.RolesOf.{moved_by, number_of, roles_of}
use Rattle.fm_link_supers.proofs.ParentRefusals.{past_none}
use Rattle.fm_place.specs.Insertions.{Insertions}

module _ (calls : Calls) (old : Code) (plan : Insertions) (unlooped : (h : ℕ) → looped_at plan h ≡ false) where
  by_role : (r : Role) (i : Insn) → HasInsn calls old plan r i → HasHolder plan r → mark_of r ≡ None → (call : ℕ) → i ≡ insn.Static call → call ≡ calls.free
  by_role (StartNull h) i has holder none call is = cc
  by_role (StartStore h) i has holder none call is = cc
  by_role (LoadBefore j h) i has holder none call is = cc
  by_role (FreeBefore j h) i has holder none call is =
      let same : insn.Static call ≡ insn.Static calls.free =
      sym is ∙ has ∙ ap (λ (b : Bool). insn.Static (if b then calls.free_chain else calls.free)) (unlooped h) in
      cc
  by_role (NullBefore j h) i has holder none call is = cc
  by_role (StoreBefore j h) i has holder none call is = cc
  by_role (Keep j) i has holder none call is = absurd (none-some j (sym none))
  by_role (JumpOf j) i has holder none call is = let jump = has.1.is in cc
  by_role (DupAfter j h) i has holder none call is = cc
  by_role (LoadAfter j h) i has holder none call is = cc
  by_role (LinkAfter j h) i has holder none call is = absurd (false≢true (sym (unlooped h) ∙ holder.1))
  by_role (StoreAfter j h) i has holder none call is = cc

  pub inserted_call : MeetsCodeRules old → CanStand old plan → (n call : ℕ) → insn_of (chained_code calls old plan) n ≡ Some (insn.Static call)
      → mark_at (chained_marks calls old plan) n ≡ None → call ≡ calls.free
  inserted_call rules can n call there none = by_found (slice_get (roles_of calls old plan) n) refl where
    stands : StandsFor calls old plan (chained_code calls old plan) (roles_of calls old plan) (number_of calls old plan) (moved_by calls old plan)
    stands = code_stands calls old plan rules can

    by_found : (found : Option Role) → slice_get (roles_of calls old plan) n ≡ found → call ≡ calls.free
    by_found None gone =
        let past : length (roles_of calls old plan) ≤ n = past_none (roles_of calls old plan) n gone in
        let inside = insn_inside (chained_code calls old plan) n (insn.Static call) there in
        let each = stands.one_each in
        absurd (omega (arith, past, inside, each))
    by_found (Some r) found =
        let has = Some-from_some_and (insn_of (chained_code calls old plan) n) (HasInsn calls old plan r) (stands.insns n r found) in
        by_role r has.0 has.2 (stands.holders n r found) (sym (mark_by calls old plan n r found) ∙ none) call
        (same_Some has.0 (insn.Static call) (sym has.1 ∙ there))
