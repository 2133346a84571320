-- One lemma over the four calls: what holds where a method is entered holds of the row.
use Rattle.std.proofs.Common.{◌≡◌, ℕ, ◌+◌, Bool, true, List, codes, Option, Some, None, refl, slice_get}
use Rattle.fm_base.specs.declared.ids.MethodId.{MethodId}
use Rattle.fm_base.specs.declared.ids.TypeId.{TypeId}
use Rattle.fm_base.specs.declared.kinds.TypeRef.{TypeRef}
use Rattle.fm_types.specs.Fits.{fits_type}
use Rattle.fm_types.specs.Named.{class_of_method}
use Rattle.fm_world.specs.Chains.{is_sub}
use Rattle.fm_world.specs.Lookups.{select, special_target}
use Rattle.fm_world.specs.Programs.{class_of_type, Outline}
use Rattle.fm_world.specs.declared.uses.Use.{Use}
use Rattle.fm_world.specs.declared.uses.Use.TheVariants as resolved
use Rattle.fm_frames.specs.CallRows as calls
use Rattle.fm_frames.specs.CallRows.{entered, entered_as, native_of, receiver_class, words_of_arguments}
use Rattle.fm_frames.specs.Effects.{Calls, Effect, going}
use Rattle.fm_frames.specs.NativeRows.{native_effect}
use Rattle.fm_frames.specs.declared.natives.Native.{Native}
use Rattle.fm_frames.specs.ObjectRows.{starting}
use Rattle.fm_frames.specs.Operands.{thrown, thrown_null}
use Rattle.fm_frames.specs.Sights.{Looks, Sight, Thing}
use Rattle.fm_frames.proofs.Cases.{by_any, by_if, by_object, by_on_method, by_reference}
use Rattle.fm_frames.proofs.EachInsn.{CallRows}
use Rattle.fm_frames.proofs.Failures.{ClassChange, Failures, NullPointer}

-- how the method that is entered is found of the one that is named: selected in a class, or as invokespecial finds it (JVMS 5.4.5, 6.5.invokespecial)
pub data Reaches (o : Outline) (method : ℕ) (t : TypeRef) (named target : ℕ) : Type 0 where
  Selected : (class : ℕ) → select o.classes class named ≡ Some target → Reaches o method t named target
  Special : special_target o.classes (class_of_method o method) (class_of_type t) named ≡ target → Reaches o method t named target

module _ (o : Outline) (s : List Sight) (method : ℕ) (u : Use) (byte : Option ℕ) (A : Effect → Type 0) (f : Failures o A) where
  -- what is entered of the object that is seen, which passes a test of its type and the named one
  abbrev pub OnSelected : (TypeRef → TypeRef → Bool) → Type 0
  OnSelected takes =
      (m : MethodId) (n : TypeId) (t : TypeRef) (it : Looks) (target : ℕ) → u ≡ resolved.OfMethod m n → slice_get o.types n.0 ≡ Some t
      → slice_get s (words_of_arguments o m.0) ≡ Some (Thing it) → takes it.type t ≡ true → select o.classes (receiver_class o it) m.0 ≡ Some target
      → A (entered_as o (words_of_arguments o m.0 + 1) target byte s (native_of o target))

  -- what is entered by the class of the caller
  abbrev pub OnSpecial : Type 0
  OnSpecial =
      (m : MethodId) (n : TypeId) (t : TypeRef) (target : ℕ) → u ≡ resolved.OfMethod m n → slice_get o.types n.0 ≡ Some t
      → special_target o.classes (class_of_method o method) (class_of_type t) m.0 ≡ target
      → A (entered_as o (words_of_arguments o m.0 + 1) target byte s (native_of o target))

  -- what is entered of a class, which is started before
  abbrev pub OnClass : Type 0
  OnClass =
      (m : MethodId) (n : TypeId) (t : TypeRef) → u ≡ resolved.OfMethod m n → slice_get o.types n.0 ≡ Some t
      → A (starting (class_of_method o m.0) (entered_as o (words_of_arguments o m.0) m.0 byte s (native_of o m.0)))

  null : A (thrown_null o)
  null = f.raised NullPointer

  entered_row : (count : ℕ) (found : Option ℕ) → ((target : ℕ) → found ≡ Some target → A (entered_as o count target byte s (native_of o target)))
      → A (entered o count found byte s)
  entered_row count None each = f.none
  entered_row count (Some target) each = each target refl

  pub virtual_row : OnSelected (fits_type o.classes) → A (calls.virtual_effect o u byte s)
  unfolding calls.virtual_effect
  virtual_row each =
      by_on_method A o u _ f.none
      (λ m n t is at. by_object A o t s (words_of_arguments o m.0) _ null f.none (f.lost (words_of_arguments o m.0))
      (λ it seen fits. entered_row (words_of_arguments o m.0 + 1) (select o.classes (receiver_class o it) m.0)
      (λ target found. each m n t it target is at seen fits found)))

  pub interface_row : OnSelected (is_sub o.classes) → A (calls.interface_effect o u byte s)
  unfolding calls.interface_effect
  interface_row each =
      by_on_method A o u _ f.none
      (λ m n t is at. by_any A o s (words_of_arguments o m.0) _ null f.none (f.lost (words_of_arguments o m.0))
      (λ it seen. by_if A (is_sub o.classes it.type t) _ (thrown o (codes "java/lang/IncompatibleClassChangeError"))
      (λ implements. entered_row (words_of_arguments o m.0 + 1) (select o.classes (receiver_class o it) m.0)
      (λ target found. each m n t it target is at seen implements found))
      (λ lacks. f.raised ClassChange)))

  pub special_row : OnSpecial → A (calls.special_effect o method u byte s)
  unfolding calls.special_effect
  special_row each =
      by_on_method A o u _ f.none
      (λ m n t is at. by_reference A s (words_of_arguments o m.0) _ f.none
      (λ is_null. by_if A is_null (thrown_null o) _ (λ missing. null)
      (λ there. each m n t (special_target o.classes (class_of_method o method) (class_of_type t) m.0) is at refl)))

  pub static_row : OnClass → A (calls.static_effect o u byte s)
  unfolding calls.static_effect
  static_row each = by_on_method A o u _ f.none (λ m n t is at. each m n t is at)

  -- of an object, in whatever way it is found
  abbrev pub OnObject : Type 0
  OnObject =
      (m : MethodId) (n : TypeId) (t : TypeRef) (target : ℕ) → u ≡ resolved.OfMethod m n → slice_get o.types n.0 ≡ Some t → Reaches o method t m.0 target
      → A (entered_as o (words_of_arguments o m.0 + 1) target byte s (native_of o target))

  pub call_rows : OnObject → OnClass → CallRows o s method u byte A
  call_rows on_object on_class = record {
    virtual = virtual_row (λ m n t it target is at seen fits found. on_object m n t target is at (Selected (receiver_class o it) found));
    interface = interface_row (λ m n t it target is at seen implements found. on_object m n t target is at (Selected (receiver_class o it) found));
    special = special_row (λ m n t target is at special. on_object m n t target is at (Special special));
    static = static_row on_class;
  }

-- a method that is entered is called, or its row is done
pub entered_cases : (o : Outline) (s : List Sight) (byte : Option ℕ) (A : Effect → Type 0) (count target : ℕ) → A (going count (Calls target))
    → ((row : Native) → native_of o target ≡ Some row → A (native_effect o row byte s)) → A (entered_as o count target byte s (native_of o target))
entered_cases o s byte A count target called native = by_row (native_of o target) refl where
  by_row : (found : Option Native) → native_of o target ≡ found → A (entered_as o count target byte s found)
  by_row None is = called
  by_row (Some row) is = native row is

-- the calls, where it doesn't matter which method is entered, nor which class is started before
pub any_calls : (o : Outline) (s : List Sight) (method : ℕ) (u : Use) (byte : Option ℕ) (A : Effect → Type 0) → Failures o A
    → ((class : ℕ) (e : Effect) → A e → A (starting class e)) → ((count target : ℕ) → A (going count (Calls target)))
    → ((row : Native) → A (native_effect o row byte s)) → CallRows o s method u byte A
any_calls o s method u byte A f started called native =
    call_rows o s method u byte A f
    (λ m n t target used at reaches. entered_cases o s byte A (words_of_arguments o m.0 + 1) target (called _ target) (λ row is. native row))
    (λ m n t used at. started (class_of_method o m.0) (entered_as o (words_of_arguments o m.0) m.0 byte s (native_of o m.0))
    (entered_cases o s byte A (words_of_arguments o m.0) m.0 (called _ m.0) (λ row is. native row)))
