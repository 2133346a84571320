-- The frame of a method that is called is whole, where the cells of its arguments fit its first locals.
use Rattle.std.proofs.Common.{◌≡◌, ℕ, zero, suc, ◌-◌, List, [], length, replicate, Option, sym, ◌∙◌, ap, subst}
use Rattle.std.specs.List.{AllZip}
use Rattle.std.proofs.lemmas.Option.{same_Some}
use Rattle.std.proofs.lemmas.Slice.Zip.{AllZip-long}
use Rattle.fm_base.specs.declared.kinds.TypeRef.{TypeRef}
use Rattle.fm_cells.specs.Stores.{Store}
use Rattle.fm_types.specs.Named.{this_class}
use Rattle.fm_types.specs.Typed.{entry_slots, entry_state, made_at}
use Rattle.fm_types.specs.declared.slots.Slot.{Slot}
use Rattle.fm_types.specs.declared.slots.Slot.TheVariants as slot
use Rattle.fm_types.proofs.Zips.{zip-append}
use Rattle.fm_world.specs.Programs.{Outline, Program}
use Rattle.fm_frames.specs.Steps.{max_locals_of, new_frame}
use Rattle.fm_frames.specs.declared.values.Value.{Value}
use Rattle.fm_frames.specs.declared.values.Value.TheVariants as value
use Rattle.fm_law_sound.specs.Sound.{AreTyped, FrameHasKinds, StandsWithout, Typings}
use Rattle.fm_law_sound.proofs.CallsStand.{max_locals_in}
use Rattle.fm_law_sound.proofs.FramesStand.{typing_of}
use Rattle.fm_law_no_fault.specs.Whole.{FrameIsWhole}
use Rattle.fm_law_no_fault.proofs.Owing.{ArgumentsSuit, Cell, CellsFit}
use Rattle.fm_law_no_fault.proofs.ReturnsKeep.{fits_by}

no_cells : (o : Outline) (store : Store) (own : ℕ) (news : ℕ → Option TypeRef) (n : ℕ)
    → AllZip (Cell o store own news) (replicate n slot.Top) (replicate n value.Top)
no_cells o store own news zero = tt
no_cells o store own news (suc n) = (tt, no_cells o store own news n)

pub new_frame_whole : (p : Program) (typings : Typings) → AreTyped p typings → (store : Store) (method : ℕ) (arguments : List Value)
    → StandsWithout p typings 0 (new_frame p method arguments) → ArgumentsSuit p store method arguments
    → FrameIsWhole p typings store (new_frame p method arguments)
unfolding entry_state
new_frame_whole p typings typed store method arguments stands suit code known code_is at =
    let own : ℕ = this_class p.outline method in
    let news : ℕ → Option TypeRef = made_at p method code in
    let slots : List Slot = entry_slots p.outline method in
    let typing = typing_of p typings typed method code code_is in
    let first : known ≡ entry_state p.outline method code = same_Some known (entry_state p.outline method code) (sym at ∙ typing.first) in
    let same : stands.known ≡ known = same_Some stands.known known (sym stands.at ∙ at) in
    let given : AllZip (Cell p.outline store own news) slots arguments = suit code code_is in
    let count : length slots ≡ length arguments = sym (AllZip-long (Cell p.outline store own news) slots arguments given) in
    let max : max_locals_of p method ≡ code.max_locals = ap max_locals_in code_is in
    let rest : code.max_locals - length slots ≡ max_locals_of p method - length arguments =
    ap (λ n. code.max_locals - n) count ∙ ap (λ m. m - length arguments) (sym max) in
    let cells : CellsFit p.outline store own news (entry_state p.outline method code) (new_frame p method arguments).locals [] = record {
      in_locals = zip-append (Cell p.outline store own news) slots arguments (replicate (code.max_locals - length slots) slot.Top)
          (replicate (max_locals_of p method - length arguments) value.Top) given
          (subst (λ n. AllZip (Cell p.outline store own news) (replicate (code.max_locals - length slots) slot.Top) (replicate n value.Top)) rest
          (no_cells p.outline store own news (code.max_locals - length slots)));
      in_stack = tt;
    } in
    fits_by p.outline store own news known (new_frame p method arguments).locals []
    (subst (λ s. FrameHasKinds s (new_frame p method arguments).locals []) same (record { in_locals = stands.locals; in_stack = stands.stack }))
    (subst (λ s. CellsFit p.outline store own news s (new_frame p method arguments).locals []) (sym first) cells)
