-- Where rows of built-in methods ask for operands, for laws that follow each way in which these can be missing.
use Rattle.std.proofs.Common.{◌≡◌, ◌==◌, inl, inr, ℕ, ℤ, cond, Bool, true, List, [], ◌∷◌, codes, Option, Some, None, refl, unsigned_abs}
use Rattle.std.specs.Fmt.{signed_decimal}
use Rattle.fm_alu.specs.TwosComplement.{low_bits}
use Rattle.fm_types.specs.Fits.{fits_type}
use Rattle.fm_types.specs.Named.{built_in_type, throwable_type}
use Rattle.fm_world.specs.BuiltIns.{class_literal_name, string_name}
use Rattle.fm_world.specs.Programs.{Outline}
use Rattle.fm_frames.specs.Effects.{Effect, faulty, Faults, going, OfPlace}
use Rattle.fm_frames.specs.Elements.{chars_type}
use Rattle.fm_frames.specs.NativeRows.{is_builder, native_effect, on_built, on_shown, text_kind}
use Rattle.fm_frames.specs.declared.natives.Native.{Native}
use Rattle.fm_frames.specs.declared.natives.Shown.{Shown}
use Rattle.fm_frames.specs.declared.natives.Shown.TheVariants.{Boolean as ShownBoolean, Char as ShownChar, Int as ShownInt, Long as ShownLong, Text as ShownText}
use Rattle.fm_frames.specs.Operands.{on_class, on_inner, on_inner_of, on_text, thrown_null}
use Rattle.fm_frames.specs.Sights.{Inner, Looks, Lost, Missing, NoField, Sight, Text}
use Rattle.fm_frames.proofs.Cases.{by_any, by_held, by_if, by_int, by_long, by_object, by_passing}
use Rattle.fm_frames.proofs.Failures.{Failures, NullPointer}
use Rattle.fm_frames.proofs.NativeCases.{any_units, HidesText, IsAt, native_cases, NativeAsks, NativeLeaves}

-- what holds of the texts that are seen, and of those that show a value
pub record SeesUnits (o : Outline) (s : List Sight) (Units : List ℕ → Type 0) : Type 0 where
  pub seen : (n : ℕ) (it : Looks) → IsAt s n it → Units it.units
  pub hidden : (n : ℕ) (it : Looks) → IsAt s n it → (units : List ℕ) → it.inner ≡ Text units → Units units
  pub empty : Units []
  pub null : Units (codes "null")
  pub number : (z : ℤ) → Units (signed_decimal z)
  pub char : (z : ℤ) → Units (low_bits 16 z ∷ [])
  pub truth : (b : Bool) → Units (cond b (codes "false") (codes "true"))

-- nothing is asked of texts
abbrev pub Any : List ℕ → Type 0
Any units = Unit {0}

pub sees_any : (o : Outline) (s : List Sight) → SeesUnits o s Any
sees_any o s = record {
  seen = λ n it at. tt;
  hidden = λ n it at units is. tt;
  empty = tt;
  null = tt;
  number = λ z. tt;
  char = λ z. tt;
  truth = λ b. tt;
}

module _ (o : Outline) (s : List Sight) (Units : List ℕ → Type 0) (A : Effect → Type 0) (sees : SeesUnits o s Units) (f : Failures o A)
    (lost_inside : (n : ℕ) (it : Looks) → IsAt s n it → HidesText o it → A (going 0 (Faults (OfPlace n 0 (text_kind o))))) where
  null : A (thrown_null o)
  null = f.raised NullPointer

  ask_text : (n : ℕ) (k : List ℕ → Effect) → ((units : List ℕ) → Units units → A (k units)) → A (on_text o s n k)
  ask_text n k some =
      by_object A o (built_in_type o string_name) s n (λ it. k it.units) null f.none (f.lost n) (λ it seen passes. some it.units (sees.seen n it seen))

  ask_class : (n : ℕ) (k : List ℕ → Effect) → ((units : List ℕ) → Units units → A (k units)) → A (on_class o s n k)
  ask_class n k some =
      by_object A o (built_in_type o class_literal_name) s n (λ it. k it.units) null f.none (f.lost n) (λ it seen passes. some it.units (sees.seen n it seen))

  ask_inside : (n : ℕ) (it : Looks) → IsAt s n it → HidesText o it → (k : Option (List ℕ) → Effect) → A (k None)
      → ((units : List ℕ) → Units units → A (k (Some units))) → A (on_inner o n it k)
  ask_inside n it seen hides k no_text some = by_case it.inner refl where
    by_case : (inner : Inner) → it.inner ≡ inner → A (on_inner_of o n inner k)
    by_case NoField is = f.lost n
    by_case Missing is = no_text
    by_case (Text units) is = some units (sees.hidden n it seen units is)
    by_case Lost is = lost_inside n it seen hides

  ask_built : (n : ℕ) (k : List ℕ → Effect)
      → ((it : Looks) → IsAt s n it → is_builder o it ≡ true → (units : List ℕ) → Units units → A (k units)) → A (on_built o s n k)
  ask_built n k some =
      by_passing A o (is_builder o) s n _ null f.none (f.lost n)
      (λ it seen is. ask_inside n it seen (inl is) _ (some it seen is [] sees.empty) (λ units fit. some it seen is units fit))

  ask_shown : (shown : Shown) (k : List ℕ → Effect) → ((units : List ℕ) → Units units → A (k units)) → A (on_shown o shown s k)
  ask_shown ShownInt k some = by_int A s 0 _ f.none (λ z. some _ (sees.number z))
  ask_shown ShownLong k some = by_long A s 1 _ f.none (λ z. some _ (sees.number z))
  ask_shown ShownChar k some = by_int A s 0 _ f.none (λ z. some _ (sees.char z))
  ask_shown ShownBoolean k some = by_int A s 0 _ f.none (λ z. some _ (sees.truth (unsigned_abs z == 0)))
  ask_shown ShownText k some =
      by_held A (k (codes "null")) s 0 _ (some (codes "null") sees.null) f.none (f.lost 0)
      (λ it seen. by_if A (fits_type o.classes it.type (built_in_type o string_name)) (k it.units) (faulty 0)
      (λ passes. some it.units (sees.seen 0 it seen)) (λ fails. f.lost 0))

  pub usual_asks : (row : Native) → NativeAsks o s row Units A
  usual_asks row = record {
    receiver_any = λ n is k some. by_any A o s n k null f.none (f.lost n) some;
    receiver_text = λ n is k some. ask_text n k some;
    receiver_class = λ n is k some. ask_class n k some;
    builder = λ n is k some. by_passing A o (is_builder o) s n k null f.none (f.lost n) some;
    built = λ n is k some. ask_built n k some;
    throwable = λ n is k some. by_object A o (throwable_type o) s n k null f.none (f.lost n) some;
    message = λ n it seen is k no_text some. ask_inside n it seen (inr is) k no_text some;
    int = λ n is k some. by_int A s n k f.none some;
    text = λ n is k some. ask_text n k some;
    chars = λ n is k some.
        by_object A o chars_type s n (λ it. k it.units) null f.none (f.lost n) (λ it seen passes. some it.units (sees.seen n it seen));
    object = λ n is none k of_null some. by_held A none s n k of_null f.none (f.lost n) some;
    shown = λ shown is k some. ask_shown shown k some;
  }

-- a row of a built-in method, by what holds of each way in which it ends
pub each_native : (o : Outline) (s : List Sight) (A : Effect → Type 0) → Failures o A
    → ((n : ℕ) (it : Looks) → IsAt s n it → HidesText o it → A (going 0 (Faults (OfPlace n 0 (text_kind o)))))
    → (row : Native) → NativeLeaves o s row Any A → (byte : Option ℕ) → A (native_effect o row byte s)
each_native o s A f lost_inside row leaves byte =
    native_cases o s row Any A (any_units o s) (usual_asks o s Any A (sees_any o s) f lost_inside row) leaves byte
