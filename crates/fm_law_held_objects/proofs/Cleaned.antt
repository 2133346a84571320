-- Own regions of frames that aren't there can be retired, all at once.
use Rattle.std.proofs.Common.{◌≡◌, ◌<◌, ◌≤◌, ℕ, Bool, true, false, cond, length, nat_lt, refl, sym, ◌∙◌, ap, arith}
use Rattle.std.proofs.lemmas.Bool.Decides.{nat_tests}
use Rattle.fm_same.proofs.ReturnsKeep.{areas-mapped, frames-mapped}
use Rattle.fm_same.specs.Laws.{IsWithin}
use Rattle.fm_same.specs.Regions.{Everywhere, Given, Own, Region, Retired}
use Rattle.fm_law_held_objects.specs.Clean.{cleaned, ColoursAreCleaned}

-- a region of a frame that is there stays
own_stays : (frames depth class : ℕ) → depth < frames → cleaned frames (Own depth class) ≡ Own depth class
own_stays frames depth class there =
    let is : nat_lt depth frames ≡ true = grind (arith, nat_tests, there) in ap (λ b. cond b (Own depth class) Retired) is

-- so do regions of what such a frame holds
within_stays : (frames lower class : ℕ) (r : Region) → lower < frames → IsWithin lower class r → cleaned frames r ≡ r
within_stays frames lower class Everywhere there h = refl
within_stays frames lower class Given there h = refl
within_stays frames lower class (Own depth own) there h =
    let le : depth ≤ lower = h.below depth own refl in own_stays frames depth own (omega (arith, le, there))
within_stays frames lower class Retired there h = refl

-- what is left is of a frame that is there
own_left : (frames depth class d c : ℕ) (b : Bool) → nat_lt d frames ≡ b → cond b (Own d c) Retired ≡ Own depth class → depth < frames
own_left frames depth class d c true is same =
    let depths : d ≡ depth = cc in
    let below : d < frames = grind (arith, nat_tests, is) in
    omega (arith, depths, below)
own_left frames depth class d c false is same = absurd (cc)

clean_is : (frames depth class : ℕ) (r : Region) → cleaned frames r ≡ Own depth class → depth < frames
clean_is frames depth class Everywhere is = absurd (cc)
clean_is frames depth class Given is = absurd (cc)
clean_is frames depth class (Own d c) is = own_left frames depth class d c (nat_lt d frames) refl is
clean_is frames depth class Retired is = absurd (cc)

pub colours_are_cleaned : ColoursAreCleaned
colours_are_cleaned p facts x colour h = (
  record {
    frames = frames-mapped p.outline facts x.areas.store colour (cleaned (length x.frames)) (length x.frames)
        (λ lower class r there within. within_stays (length x.frames) lower class r there within) x.frames (omega arith) h.frames;
    areas = areas-mapped p.outline colour (cleaned (length x.frames)) x.areas refl h.areas;
  },
  (λ birth depth class is. clean_is (length x.frames) depth class (colour birth) is),
  (λ birth depth class there is.
      ap (cleaned (length x.frames)) is ∙ own_stays (length x.frames) depth class there ∙ sym is),
)
