-- What the effects of sites give, where they go on to the next item: the object that the step made, or nothing.
use Rattle.std.proofs.Common.{◌≡◌, ℕ, ℤ, pos, int_lt, Bool, true, false, List, [], ◌∷◌, reverse, Option, Some, None, codes, refl, sym, ◌∙◌, ap}
use Rattle.std.specs.Prelude.{unsigned_abs}
use Rattle.std.specs.List.{list_any, range_with_len}
use Rattle.std.proofs.lemmas.Bool.{false≢true}
use Rattle.fm_base.specs.declared.kinds.TypeRef.{TypeRef}
use Rattle.fm_code.specs.declared.instructions.Insn.{Insn}
use Rattle.fm_code.specs.declared.instructions.Insn.TheVariants as insn
use Rattle.fm_types.specs.declared.slots.Slot.TheVariants as slot
use Rattle.fm_world.specs.Programs.{Outline}
use Rattle.fm_world.specs.Uses.{array_of}
use Rattle.fm_world.specs.declared.uses.Use.{Use}
use Rattle.fm_frames.specs.ArrayRows.{array_made, arrays_of, ints_at, multi_array_effect, new_array_effect, new_references_effect, thrown_negative}
use Rattle.fm_frames.specs.Effects.{Effect, Falls, faulty, making, Make, OfMade, Source, stuck}
use Rattle.fm_frames.specs.NativeRows.{native_effect}
use Rattle.fm_frames.specs.declared.natives.Native.{Native}
use Rattle.fm_frames.specs.declared.natives.Native.TheVariants.{Append, FreeMeLink, GetMessage, ObjectGetClass, StringToString}
use Rattle.fm_frames.specs.Operands.{thrown}
use Rattle.fm_frames.specs.Rows.{effect_of}
use Rattle.fm_frames.specs.Sights.{Sight}
use Rattle.fm_frames.proofs.Cases.{by_if, by_int, by_on_type}
use Rattle.fm_frames.proofs.UsualAsks.{each_native}
use Rattle.fm_law_sound.specs.BuiltIns.{native_result, reference, returned_slots}
use Rattle.fm_law_sound.proofs.BuiltInRows.{int_slots}
use Rattle.fm_place.specs.Sites.{makes_array}

-- where the effect goes on to the next item, it gives just this and writes no local
abbrev pub GivesJust : List Source → Effect → Type 0
GivesJust given e = e.next ≡ Falls → (e.gives ≡ given) × (e.writes ≡ [])

-- the object that the step made first
abbrev pub first_made : List Source
first_made = OfMade 0 ∷ []

module _ (given : List Source) where
  abbrev Just : Effect → Type 0
  Just e = GivesJust given e

  pub gives_thrown : (o : Outline) (name : List ℕ) → Just (thrown o name)
  gives_thrown o name = λ falls. absurd (cc)

  pub gives_stuck : Just stuck
  gives_stuck = λ falls. absurd (cc)

  pub gives_fault : (operand : ℕ) → Just (faulty operand)
  gives_fault operand = λ falls. absurd (cc)

-- ---- arrays

array_gives : (o : Outline) (t : Option TypeRef) (s : List Sight) → GivesJust first_made (array_made o t s)
array_gives o None s = gives_stuck first_made
array_gives o (Some t) s =
    by_int (GivesJust first_made) s 0 _ (gives_stuck first_made)
    (λ n. by_if (GivesJust first_made) (int_lt n (pos 0)) (thrown_negative o) (making 1 (Make t (unsigned_abs n) []))
    (λ negative. gives_thrown first_made o (codes "java/lang/NegativeArraySizeException"))
    (λ counts falls. (refl, refl)))

arrays_give : (o : Outline) (t : TypeRef) (dimensions : ℕ) (counts : Option (List ℤ)) → GivesJust first_made (arrays_of o t dimensions counts)
arrays_give o t dimensions None = gives_stuck first_made
arrays_give o t dimensions (Some counts) =
    by_if (GivesJust first_made) (list_any (λ n. int_lt n (pos 0)) counts) (thrown_negative o) _
    (λ negative. gives_thrown first_made o (codes "java/lang/NegativeArraySizeException"))
    (λ sizes falls. (refl, refl))

-- an array is what the step made
pub array_site_gives : (o : Outline) (method : ℕ) (u : Use) (i : Insn) (byte : Option ℕ) (s : List Sight) → makes_array i ≡ true
    → GivesJust first_made (effect_of o method u i byte s)
unfolding effect_of new_array_effect new_references_effect multi_array_effect
array_site_gives o method u (insn.NewArray e) byte s is = array_gives o _ s
array_site_gives o method u (insn.NewRefs index) byte s is =
    by_on_type (GivesJust first_made) o u _ (gives_stuck first_made) (λ n t used there. array_gives o (array_of t) s)
array_site_gives o method u (insn.MultiArray index dimensions) byte s is =
    by_on_type (GivesJust first_made) o u _ (gives_stuck first_made) (λ n t used there. arrays_give o t dimensions (ints_at s (reverse (range_with_len 0 dimensions))))
array_site_gives o method u i byte s is = absurd (false≢true is)

-- ---- built-in methods

-- rows that give an operand, what it led to, or what lives for ever
abbrev pub gives_operand : Native → Bool
gives_operand StringToString = true
gives_operand (Append shown) = true
gives_operand GetMessage = true
gives_operand FreeMeLink = true
gives_operand ObjectGetClass = true
gives_operand row = false

-- what a row gives where it goes on: nothing, an int, what it made, or what it had
data Given (row : Native) (gives : List Source) : Type 0 where
  NoWords : native_result row ≡ [] → gives ≡ [] → Given row gives
  AnInt : native_result row ≡ slot.Int ∷ [] → Given row gives
  AMade : native_result row ≡ reference ∷ [] → gives ≡ first_made → Given row gives
  AnOld : native_result row ≡ reference ∷ [] → gives_operand row ≡ true → Given row gives

module _ (o : Outline) (byte : Option ℕ) (s : List Sight) (row : Native) where
  abbrev Gives : Effect → Type 0
  Gives e = e.next ≡ Falls → Given row e.gives × (e.writes ≡ [])

  native_gives : Gives (native_effect o row byte s)
  native_gives =
      each_native o s Gives (record { raised = λ x falls. absurd (cc); none = λ falls. absurd (cc); lost = λ n falls. absurd (cc) })
      (λ n it seen hides falls. absurd (cc)) row
      (record {
        nothing = λ n takes is falls. (NoWords (ap returned_slots is) refl, refl);
        number = λ n shown int takes is z falls. (AnInt (ap returned_slots is ∙ int_slots shown int), refl);
        same = λ n takes is falls. (AnInt (ap returned_slots is), refl);
        text_given = λ n takes is units fit falls. (AMade (ap returned_slots is) refl, refl);
        byte = λ n takes is z falls. (AnInt (ap returned_slots is), refl);
        printed = λ n takes is bytes falls. (NoWords (ap returned_slots is) refl, refl);
        exits = λ n takes z falls. absurd (cc);
        outside = λ falls. absurd (cc);
        begun = λ it seen hides takes is falls. (NoWords (ap returned_slots is) refl, refl);
        text_put = λ n operand it seen hides takes is units fit falls. (NoWords (ap returned_slots is) refl, refl);
        itself = λ is falls. (AnOld (ap native_result is) (ap gives_operand is), refl);
        appended = λ shown is it seen builds units fit falls. (AnOld (ap native_result is) (ap gives_operand is), refl);
        message_put = λ is it seen fits falls. (NoWords (ap native_result is) refl, refl);
        message_given = λ is it seen fits falls. (AnOld (ap native_result is) (ap gives_operand is), refl);
        class_given = λ is it seen type inside falls. (AnOld (ap native_result is) (ap gives_operand is), refl);
        unnumbered = λ is it seen none falls. absurd (cc);
        freed = λ is it seen falls. (NoWords (ap native_result is) refl, refl);
        unlinked = λ is falls. (AnOld (ap native_result is) (ap gives_operand is), refl);
        linked = λ is it seen loose falls. (AnOld (ap native_result is) (ap gives_operand is), refl);
        chain_freed = λ is falls. (NoWords (ap native_result is) refl, refl);
        copied = λ is it seen may falls. (AMade (ap native_result is) refl, refl);
        uncopied = λ is falls. absurd (cc);
      })
      byte

  -- a row that gives a reference, and neither an operand nor what it led to, gives what it made
  pub native_makes : native_result row ≡ reference ∷ [] → gives_operand row ≡ false → GivesJust first_made (native_effect o row byte s)
  native_makes result new falls = by_given (native_gives falls) where
    by_given : {gives : List Source} {writes : List (ℕ × Source)} → Given row gives × (writes ≡ []) → (gives ≡ first_made) × (writes ≡ [])
    by_given (AMade is made, none) = (made, none)
    by_given (AnOld is old, none) = absurd (false≢true (sym new ∙ old))
    by_given (AnInt is, none) = let same : slot.Int ∷ [] ≡ reference ∷ [] = sym is ∙ result in absurd (cc)
    by_given (NoWords is empty, none) = let same : [] ≡ reference ∷ [] = sym is ∙ result in absurd (cc)

  -- a row without a result gives nothing
  pub native_gives_nothing : native_result row ≡ [] → GivesJust [] (native_effect o row byte s)
  native_gives_nothing result falls = by_given (native_gives falls) where
    by_given : {gives : List Source} {writes : List (ℕ × Source)} → Given row gives × (writes ≡ []) → (gives ≡ []) × (writes ≡ [])
    by_given (NoWords is empty, none) = (empty, none)
    by_given (AnInt is, none) = let same : slot.Int ∷ [] ≡ [] = sym is ∙ result in absurd (cc)
    by_given (AMade is made, none) = let same : reference ∷ [] ≡ [] = sym is ∙ result in absurd (cc)
    by_given (AnOld is old, none) = let same : reference ∷ [] ≡ [] = sym is ∙ result in absurd (cc)
