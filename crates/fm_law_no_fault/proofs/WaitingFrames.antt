-- A frame that calls another one stays whole without the words that the call takes.
use Rattle.std.proofs.Common.{◌≡◌, ℕ, zero, suc, ◌-◌, ◌≤◌, List, [], ◌∷◌, length, drop, sym, ◌∙◌, ap, subst, refl, arith}
use Rattle.std.specs.List.{AllZip}
use Rattle.std.proofs.lemmas.Option.{same_Some}
use Rattle.std.proofs.lemmas.Slice.Zip.{AllZip-long}
use Rattle.fm_cells.specs.Stores.{Store}
use Rattle.fm_types.specs.Named.{this_class}
use Rattle.fm_types.specs.States.{TypeState}
use Rattle.fm_types.specs.Typed.{made_at}
use Rattle.fm_types.specs.declared.slots.Slot.{Slot}
use Rattle.fm_types.proofs.Zips.{zip-drop}
use Rattle.fm_world.specs.Programs.{Program}
use Rattle.fm_frames.specs.States.{Frame}
use Rattle.fm_law_sound.specs.Sound.{HasKind, StandsWithout, Typings}
use Rattle.fm_law_no_fault.specs.Whole.{FrameFits, FrameIsWhole, lowest, WordFits}

drop_short : (n : ℕ) (xs : List Slot) → length (drop n xs) ≤ length xs
drop_short zero xs = omega arith
drop_short (suc n) [] = omega arith
drop_short (suc n) (x ∷ xs) = let less = drop_short n xs in omega (arith, less)

pub lowest_all : (xs : List Slot) (n : ℕ) → length xs ≡ n → lowest n xs ≡ xs
lowest_all xs n same = let none : length xs - n ≡ 0 = omega (arith, same) in ap (λ k. drop k xs) none

-- as many slots as are left from some on are these
pub lowest_drop : (n : ℕ) (xs : List Slot) → lowest (length (drop n xs)) xs ≡ drop n xs
lowest_drop zero xs = lowest_all xs (length xs) refl
lowest_drop (suc n) [] = refl
lowest_drop (suc n) (x ∷ xs) =
    let less = drop_short n xs in
    let one_more : suc (length xs) - length (drop n xs) ≡ suc (length xs - length (drop n xs)) = omega (arith, less) in
    ap (λ k. drop k (x ∷ xs)) one_more ∙ lowest_drop n xs

pub waiting_whole : (p : Program) (typings : Typings) (store : Store) (f : Frame) (words : ℕ) → StandsWithout p typings 0 f → FrameIsWhole p typings store f
    → FrameIsWhole p typings store (record f { stack = drop words f.stack })
waiting_whole p typings store f words stands whole code known code_is at =
    let fits : FrameFits p.outline store (this_class p.outline f.method) (made_at p f.method code) known f.locals f.stack =
    whole code known code_is at in
    let Fits = WordFits p.outline store (this_class p.outline f.method) (made_at p f.method code) in
    let same : stands.known ≡ known = same_Some stands.known known (sym stands.at ∙ at) in
    let level : length known.stack ≡ length f.stack =
    ap (λ (s : TypeState). length s.stack) (sym same) ∙ sym (AllZip-long HasKind stands.known.stack f.stack stands.stack) in
    let in_stack : AllZip Fits known.stack f.stack =
    subst (λ xs. AllZip Fits xs f.stack) (lowest_all known.stack (length f.stack) level) fits.in_stack in
    let left : AllZip Fits (drop words known.stack) (drop words f.stack) = zip-drop Fits words known.stack f.stack in_stack in
    let count : length (drop words f.stack) ≡ length (drop words known.stack) = AllZip-long Fits (drop words known.stack) (drop words f.stack) left in
    record {
      in_locals = fits.in_locals;
      in_stack = subst (λ xs. AllZip Fits xs (drop words f.stack))
          (sym (ap (λ n. lowest n known.stack) count ∙ lowest_drop words known.stack)) left;
    }
