-- How many words the effects of rows of arrays take where the frame goes on.
use Rattle.std.proofs.Common.{ℕ, ℤ, int_lt, pos, unsigned_abs, List, [], codes, nat_lt, Option, Some, None, refl}
use Rattle.std.specs.List.{list_any}
use Rattle.fm_base.specs.declared.kinds.TypeRef.{TypeRef}
use Rattle.fm_code.specs.declared.operations.Elem.{Elem}
use Rattle.fm_world.specs.Chains.{is_sub}
use Rattle.fm_world.specs.Programs.{Outline}
use Rattle.fm_frames.specs.ArrayRows.{array_made, arrays_of, element_type, length_effect, on_element, put_element, put_reference, thrown_negative}
use Rattle.fm_frames.specs.Effects.{Effect, Make, making}
use Rattle.fm_frames.specs.Operands.{thrown}
use Rattle.fm_frames.specs.Sights.{Looks, Sight}
use Rattle.fm_law_sound.proofs.ArrayRows.{by_element}
use Rattle.fm_law_sound.proofs.Cases.{by_held, by_if, by_int, by_passing}
use Rattle.fm_law_holders.proofs.Leaving.{Takes}

-- the words that an effect takes, as a record: the effect is then found from it
pub record TakesIt (n : ℕ) (e : Effect) : Type 0 where
  pub takes : Takes n e

pub element_takes : (n : ℕ) (o : Outline) (e : Elem) (sights : List Sight) (index : ℕ) (follows : Looks → ℕ → Effect)
    → ((it : Looks) (place : ℕ) → Takes n (follows it place)) → Takes n (on_element o e sights index follows)
element_takes n o e sights index follows each = by_element (Takes n) o e sights index follows tt tt tt tt (λ it place passes. each it place)

pub put_takes : (o : Outline) (sights : List Sight) (it : Looks) (place : ℕ) → Takes 3 (put_reference o sights it place)
put_takes o sights it place =
    by_held (Takes 3) (put_element 1 it place) sights 0 _ (refl, refl) tt tt
    (λ v seen. by_if (Takes 3) (is_sub o.classes v.type (element_type it.type)) (put_element 1 it place) (thrown o (codes "java/lang/ArrayStoreException"))
    (λ passes. (refl, refl)) (λ fails. tt))

pub length_takes : (o : Outline) (sights : List Sight) → Takes 1 (length_effect o sights)
unfolding length_effect
length_takes o sights = by_passing (Takes 1) o (λ it. nat_lt 0 it.type.dims) sights 0 _ tt tt tt (λ it seen passes. (refl, refl))

pub made_takes : (o : Outline) (t : Option TypeRef) (sights : List Sight) → Takes 1 (array_made o t sights)
made_takes o None sights = tt
made_takes o (Some t) sights =
    by_int (Takes 1) sights 0 _ tt
    (λ n. by_if (Takes 1) (int_lt n (pos 0)) (thrown_negative o) (making 1 (Make t (unsigned_abs n) [])) (λ below. tt) (λ fine. (refl, refl)))

pub arrays_take : (o : Outline) (t : TypeRef) (dimensions : ℕ) (counts : Option (List ℤ)) → TakesIt dimensions (arrays_of o t dimensions counts)
arrays_take o t dimensions None = record { takes = tt }
arrays_take o t dimensions (Some counts) =
    by_if (TakesIt dimensions) (list_any (λ n. int_lt n (pos 0)) counts) (thrown_negative o) _ (λ below. record { takes = tt })
    (λ fine. record { takes = (refl, refl) })
