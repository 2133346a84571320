-- The rows of returns and athrow: a result and what is thrown lead to cells that fit.
use Rattle.std.proofs.Common.{◌≡◌, ℕ, zero, suc, List, [], ◌∷◌, ◌++◌, length, take, cond, Option, Some, None, option_to_list, refl, sym, ◌∙◌, ap, subst}
use Rattle.std.specs.List.{AllZip}
use Rattle.std.proofs.lemmas.Slice.Zip.{AllZip-long}
use Rattle.fm_base.proofs.OptionFacts.{cond-some_then, option_map-some}
use Rattle.fm_base.specs.declared.kinds.Kind.{Kind}
use Rattle.fm_code.specs.declared.operations.Reg.{Reg}
use Rattle.fm_code.specs.declared.operations.Reg.TheVariants as reg
use Rattle.fm_types.specs.CallRows.{return_row, returned_by, same_reg}
use Rattle.fm_types.specs.Fits.{fits_type}
use Rattle.fm_types.specs.Named.{result_of, result_words, throwable_type}
use Rattle.fm_types.specs.ObjectRows.{throw_row}
use Rattle.fm_types.specs.States.{stack_slots, taken, TypeState, worked}
use Rattle.fm_types.specs.declared.slots.Slot.TheVariants as slot
use Rattle.fm_world.specs.Programs.{Outline}
use Rattle.fm_frames.specs.JumpRows.{return_effect, throw_effect}
use Rattle.fm_frames.specs.Sights.{Sight, sights}
use Rattle.fm_frames.specs.declared.values.Value.{Value}
use Rattle.fm_law_sound.specs.Sound.{HasKind, HaveKinds}
use Rattle.fm_law_sound.proofs.JumpRows.{return_by, return_is, return_leads}
use Rattle.fm_law_no_fault.proofs.Owing.{Cell}
use Rattle.fm_law_no_fault.proofs.RowCases.{asked_object, kinds, Row, seen_holds, taken_cells, Whole}

-- as many words as there are among the first of them
take_again : (n : ℕ) (words : List Value) → take (length (take n words)) words ≡ take n words
take_again zero words = refl
take_again (suc n) [] = refl
take_again (suc n) (v ∷ words) = ap (λ ys. v ∷ ys) (take_again n words)

module _ (r : Row) where
  abbrev o : Outline
  o = r.program.outline

  abbrev seen : List Sight
  seen = sights o r.areas.store r.frame.stack

  -- ---- returns

  abbrev Fits : List Value → Type 0
  Fits words = AllZip (Cell o r.areas.store r.own r.news) (result_words o r.frame.method) words

  -- the words of the result, as many as they are
  result_fits : (q : Reg) (result : Option Kind) → return_by o r.before q result ≡ Some r.after
      → AllZip (Cell o r.areas.store r.own r.news) (stack_slots (option_to_list result)) (take (length (stack_slots (option_to_list result))) r.frame.stack)
  result_fits q None checked = absurd (cc)
  result_fits q (Some k) checked =
      let parts = cond-some_then (same_reg q (returned_by k)) (worked o (stack_slots (k ∷ [])) [] r.before) r.after checked in
      let rest = option_map-some (λ stack. record r.before { stack = [] ++ stack }) (taken o (stack_slots (k ∷ [])) r.before.stack) r.after parts.1 in
      taken_cells r (stack_slots (k ∷ [])) rest.0 rest.1

  -- and as many as the instruction returns
  returned_fits : (q : Reg) (n : ℕ) → return_row o r.frame.method (Some q) r.before ≡ Some r.after
      → HaveKinds (result_words o r.frame.method) (take n r.frame.stack) → Fits (take n r.frame.stack)
  returned_fits q n checked has =
      let long : length (take n r.frame.stack) ≡ length (result_words o r.frame.method) =
      AllZip-long HasKind (result_words o r.frame.method) (take n r.frame.stack) has in
      subst Fits (ap (λ k. take k r.frame.stack) (sym long) ∙ take_again n r.frame.stack)
      (result_fits q (result_of o r.frame.method) (sym (return_is o r.frame.method q r.before) ∙ checked))

  abbrev plain_by : Option Kind → Option TypeState
  plain_by None = cond r.before.built (Some r.before) None
  plain_by (Some k) = None

  nothing_fits : (result : Option Kind) → plain_by result ≡ Some r.after
      → AllZip (Cell o r.areas.store r.own r.news) (stack_slots (option_to_list result)) []
  nothing_fits None checked = tt
  nothing_fits (Some k) checked = absurd (cc)

  plain_is : return_row o r.frame.method None r.before ≡ plain_by (result_of o r.frame.method)
  unfolding return_row
  plain_is = refl

  pub return_whole : (value : Option Reg) → return_row o r.frame.method value r.before ≡ Some r.after → Whole r (return_effect value)
  unfolding return_effect
  return_whole None checked = record { acts = tt; next = nothing_fits (result_of o r.frame.method) (sym plain_is ∙ checked) }
  return_whole (Some reg.Int) checked = record {
    acts = tt;
    next = returned_fits reg.Int 1 checked (return_leads o r.before r.frame (kinds r) r.after r.unsplit (Some reg.Int) checked);
  }
  return_whole (Some reg.Long) checked = record {
    acts = tt;
    next = returned_fits reg.Long 2 checked (return_leads o r.before r.frame (kinds r) r.after r.unsplit (Some reg.Long) checked);
  }
  return_whole (Some reg.Ref) checked = record {
    acts = tt;
    next = returned_fits reg.Ref 1 checked (return_leads o r.before r.frame (kinds r) r.after r.unsplit (Some reg.Ref) checked);
  }

  -- ---- athrow

  pub throw_whole : throw_row o r.before ≡ Some r.after → Whole r (throw_effect o seen)
  unfolding throw_row throw_effect
  throw_whole checked =
      asked_object r (slot.Ref (throwable_type o) ∷ []) [] checked 0 (throwable_type o) refl _
      (λ it found passes. record { acts = tt; next = seen_holds r 0 it (λ u. fits_type o.classes u (throwable_type o)) found passes })
