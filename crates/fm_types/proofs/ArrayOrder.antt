-- The rows of elements and lengths of arrays keep the order.
use Rattle.std.proofs.Common.{◌≡◌, ◌⊎◌, inl, inr, refl, sym, ◌∙◌, ap, ℕ, ◌-◌, ◌<◌, ◌≤◌, ◌&&◌, Bool, true, false, List, [], ◌++◌, nat_eq, Option, Some, None, cond, arith}
use Rattle.std.specs.Prelude.{nat_lt}
use Rattle.std.proofs.lemmas.Bool.{and_from, and_parts, eqb-true, eq-eqb, false≢true, lt-ltb, ltb-true}
use Rattle.fm_base.specs.declared.kinds.Base.{Base}
use Rattle.fm_base.specs.declared.kinds.Base.TheVariants as base
use Rattle.fm_base.specs.declared.kinds.TypeRef.{TypeRef}
use Rattle.fm_code.specs.declared.operations.Elem.{Elem}
use Rattle.fm_code.specs.declared.operations.Elem.TheVariants as elem
use Rattle.fm_types.proofs.Order.{below_objects-fits, depth-same, fits_type-cases, IsBelowObjects, IsLevel, level-fits, object-depth}
use Rattle.fm_types.proofs.StateOrder.{IsStackUnder, IsUnder, KeepsBelow, same_top, shape_of, worked_below-under}
use Rattle.fm_types.proofs.Zips.{Follows, follows-if, follows-same}
use Rattle.fm_types.specs.ArrayRows.{array_load_row, array_store_row, element_of, has_letter, is_array_of, length_row, null_element, on_array, stored_element}
use Rattle.fm_types.specs.Fits.{AreTree, depth_of, depth_with, fits, fits_base, fits_type, is_object_base}
use Rattle.fm_types.specs.Named.{on_type}
use Rattle.fm_types.specs.States.{int_word, is_whole, long_words, TypeState}
use Rattle.fm_types.specs.declared.slots.Slot.{Slot}
use Rattle.fm_types.specs.declared.slots.Slot.TheVariants as slot
use Rattle.fm_world.specs.Programs.{Outline}
use Rattle.fm_world.specs.declared.declarations.DeclaredClass.{DeclaredClass}
use Rattle.fm_world.specs.declared.uses.Use.{Use}
use Rattle.fm_world.specs.declared.uses.Use.TheVariants as resolved

-- ---- types that are named

pub follows-on_type : (R : TypeState → TypeState → Type 0) (o : Outline) (u : Use) (f g : TypeRef → Option TypeState)
    → ((t : TypeRef) → Follows R (f t) (g t)) → Follows R (on_type o u f) (on_type o u g)
follows-on_type R o (resolved.OfType i) f g each = follows-same R f g _ each
follows-on_type R o (resolved.OfField f i) f' g each = tt
follows-on_type R o (resolved.OfMethod m i) f g each = tt
follows-on_type R o (resolved.OfInt value) f g each = tt
follows-on_type R o (resolved.OfLong value) f g each = tt
follows-on_type R o (resolved.OfText text) f g each = tt
follows-on_type R o resolved.Unused f g each = tt

-- ---- what is taken from an array

-- the types that pass do so down the order, and what they give keeps it; null gives what fits what each of them gives
pub record KeepsArrays (o : Outline) (passes : TypeRef → Bool) (null : List Slot) (given : TypeRef → List Slot) : Type 0 where
  pub below : (s t : TypeRef) → fits_type o.classes s t ≡ true → passes t ≡ true → passes s ≡ true
  pub nulls : IsStackUnder o null null
  pub null_under : (t : TypeRef) → passes t ≡ true → IsStackUnder o null (given t)
  pub given_under : (s t : TypeRef) → fits_type o.classes s t ≡ true → passes t ≡ true → IsStackUnder o (given s) (given t)

pub on_array-keeps : (o : Outline) (passes : TypeRef → Bool) (null : List Slot) (given : TypeRef → List Slot) → KeepsArrays o passes null given
    → KeepsBelow o (on_array passes null given)
unfolding fits
on_array-keeps o passes null given keeps = record { follows = λ a b w. follows a b w.fitting; other = other } where
  null_first : (t : TypeRef) (p : Bool) → passes t ≡ p → Follows (IsStackUnder o) (Some null) (cond p (Some (given t)) None)
  null_first t true e = keeps.null_under t e
  null_first t false e = tt

  follows : (a b : Slot) → fits o a b ≡ true → Follows (IsStackUnder o) (on_array passes null given a) (on_array passes null given b)
  follows a slot.Top h = tt
  follows a slot.Int h = tt
  follows a slot.Long h = tt
  follows a (slot.Uninit i) h = tt
  follows a slot.UninitThis h = tt
  follows slot.Null slot.Null h = keeps.nulls
  follows slot.Null (slot.Ref t) h = null_first t (passes t) refl
  follows (slot.Ref s) (slot.Ref t) h =
      follows-if (IsStackUnder o) (passes s) (passes t) (Some (given s)) (Some (given t)) (keeps.below s t h) (keeps.given_under s t h)
  follows a b h = absurd (false≢true h)

  other : (b : Slot) (slots : List Slot) → on_array passes null given b ≡ Some slots → shape_of b ≡ 2
  other slot.Top slots e = cc
  other slot.Long slots e = cc
  other b slots e = refl

-- ---- arrays of elements

less-deep : (n : ℕ) (b : Base) → depth_with (n - 1) b ≡ depth_with n b - 1
less-deep n (base.OfClass c) = refl
less-deep n b = refl

element-fits : (classes : List DeclaredClass) → AreTree classes → (s t : TypeRef) → fits_type classes s t ≡ true
    → fits_type classes (record { dims = s.dims - 1; base = s.base }) (record { dims = t.dims - 1; base = t.base }) ≡ true
element-fits classes tree s t h = by_way (fits_type-cases classes s t h) where
  by_way : IsBelowObjects classes s t ⊎ IsLevel classes s t
      → fits_type classes (record { dims = s.dims - 1; base = s.base }) (record { dims = t.dims - 1; base = t.base }) ≡ true
  by_way (inl w) =
      let deep = less-deep s.dims s.base in
      let within : t.dims - 1 ≤ depth_with (s.dims - 1) s.base = omega (arith, w.within, deep) in
      below_objects-fits classes (record { dims = s.dims - 1; base = s.base }) (record { dims = t.dims - 1; base = t.base }) within w.objects
  by_way (inr w) =
      level-fits classes (record { dims = s.dims - 1; base = s.base }) (record { dims = t.dims - 1; base = t.base })
      (ap (λ n. n - 1) w.dims) w.bases

deep-below : (classes : List DeclaredClass) → (s t : TypeRef) → fits_type classes s t ≡ true → nat_lt 0 (depth_of t) ≡ true
    → nat_lt 0 (depth_of s) ≡ true
deep-below classes s t h e = by_way (fits_type-cases classes s t h) where
  deep : 0 < depth_of t
  deep = ltb-true 0 (depth_of t) e

  by_way : IsBelowObjects classes s t ⊎ IsLevel classes s t → nat_lt 0 (depth_of s) ≡ true
  by_way (inl w) =
      let same : depth_of t ≡ t.dims = object-depth classes t.dims t.base w.objects in
      lt-ltb 0 (depth_of s) (omega (arith, deep, w.within, same))
  by_way (inr w) =
      let first : depth_of s ≡ depth_with s.dims t.base = depth-same classes s.dims s.base t.base w.bases in
      let second : depth_with s.dims t.base ≡ depth_of t = ap (λ n. depth_with n t.base) w.dims in
      lt-ltb 0 (depth_of s) (omega (arith, deep, first, second))

shallow : (n : ℕ) (b : Base) → depth_with n b ≤ n
shallow n (base.OfClass c) = omega arith
shallow n b = omega arith

array-below : (classes : List DeclaredClass) → (s t : TypeRef) → fits_type classes s t ≡ true → nat_lt 0 t.dims ≡ true → nat_lt 0 s.dims ≡ true
array-below classes s t h e = by_way (fits_type-cases classes s t h) where
  some : 0 < t.dims
  some = ltb-true 0 t.dims e

  by_way : IsBelowObjects classes s t ⊎ IsLevel classes s t → nat_lt 0 s.dims ≡ true
  by_way (inl w) = let low = shallow s.dims s.base in lt-ltb 0 s.dims (omega (arith, some, w.within, low))
  by_way (inr w) = lt-ltb 0 s.dims (omega (arith, some, w.dims))

-- no letter is a class
no_class_letter : (e : Elem) (b : Base) → has_letter e b ≡ true → (classes : List DeclaredClass) → is_object_base classes b ≡ false
no_class_letter elem.Boolean (base.OfClass c) h classes = absurd (false≢true h)
no_class_letter elem.Byte (base.OfClass c) h classes = absurd (false≢true h)
no_class_letter elem.Char (base.OfClass c) h classes = absurd (false≢true h)
no_class_letter elem.Short (base.OfClass c) h classes = absurd (false≢true h)
no_class_letter elem.Int (base.OfClass c) h classes = absurd (false≢true h)
no_class_letter elem.Long (base.OfClass c) h classes = absurd (false≢true h)
no_class_letter elem.Ref (base.OfClass c) h classes = absurd (false≢true h)
no_class_letter e b h classes = refl

letter-below : (classes : List DeclaredClass) (e : Elem) (b c : Base) → fits_base classes b c ≡ true → has_letter e c ≡ true → has_letter e b ≡ true
letter-below classes e base.Boolean base.Boolean f h = h
letter-below classes e base.Byte base.Byte f h = h
letter-below classes e base.Char base.Char f h = h
letter-below classes e base.Short base.Short f h = h
letter-below classes e base.Int base.Int f h = h
letter-below classes e base.Long base.Long f h = h
letter-below classes elem.Boolean b (base.OfClass c) f h = absurd (false≢true h)
letter-below classes elem.Byte b (base.OfClass c) f h = absurd (false≢true h)
letter-below classes elem.Char b (base.OfClass c) f h = absurd (false≢true h)
letter-below classes elem.Short b (base.OfClass c) f h = absurd (false≢true h)
letter-below classes elem.Int b (base.OfClass c) f h = absurd (false≢true h)
letter-below classes elem.Long b (base.OfClass c) f h = absurd (false≢true h)
letter-below classes elem.Ref b (base.OfClass c) f h = absurd (false≢true h)
letter-below classes e b c f h = absurd (false≢true f)

letters-below : (classes : List DeclaredClass) (e : Elem) (s t : TypeRef) → fits_type classes s t ≡ true
    → (nat_eq t.dims 1 && has_letter e t.base) ≡ true → (nat_eq s.dims 1 && has_letter e s.base) ≡ true
letters-below classes e s t h passes = by_way (fits_type-cases classes s t h) where
  parts : (nat_eq t.dims 1 ≡ true) × (has_letter e t.base ≡ true)
  parts = and_parts (nat_eq t.dims 1) (has_letter e t.base) passes

  by_way : IsBelowObjects classes s t ⊎ IsLevel classes s t → (nat_eq s.dims 1 && has_letter e s.base) ≡ true
  by_way (inl w) = absurd (false≢true (sym (no_class_letter e t.base parts.1 classes) ∙ w.objects))
  by_way (inr w) =
      and_from (nat_eq s.dims 1) (has_letter e s.base) (eq-eqb s.dims 1 (w.dims ∙ eqb-true t.dims 1 parts.0))
      (letter-below classes e s.base t.base w.bases parts.1)

array_of-below : (o : Outline) (e : Elem) (s t : TypeRef) → fits_type o.classes s t ≡ true → is_array_of e t ≡ true → is_array_of e s ≡ true
array_of-below o elem.Ref s t h passes = deep-below o.classes s t h passes
array_of-below o elem.Boolean s t h passes = letters-below o.classes elem.Boolean s t h passes
array_of-below o elem.Byte s t h passes = letters-below o.classes elem.Byte s t h passes
array_of-below o elem.Char s t h passes = letters-below o.classes elem.Char s t h passes
array_of-below o elem.Short s t h passes = letters-below o.classes elem.Short s t h passes
array_of-below o elem.Int s t h passes = letters-below o.classes elem.Int s t h passes
array_of-below o elem.Long s t h passes = letters-below o.classes elem.Long s t h passes

-- ---- loading

null_element-whole : (e : Elem) → is_whole (null_element e) ≡ true
null_element-whole elem.Long = refl
null_element-whole e = refl

null-under : (o : Outline) → AreTree o.classes → (e : Elem) (t : TypeRef) → IsStackUnder o (null_element e) (element_of e t)
unfolding fits
null-under o tree elem.Ref t = record { level = (record { fitting = refl; shape = refl }, tt); whole = refl }
null-under o tree elem.Long t = same_top o tree long_words refl
null-under o tree e t = same_top o tree int_word refl

element-under : (o : Outline) → AreTree o.classes → (e : Elem) (s t : TypeRef) → fits_type o.classes s t ≡ true
    → IsStackUnder o (element_of e s) (element_of e t)
unfolding fits
element-under o tree elem.Ref s t h =
    record { level = (record { fitting = element-fits o.classes tree s t h; shape = refl }, tt); whole = refl }
element-under o tree elem.Long s t h = same_top o tree long_words refl
element-under o tree e s t h = same_top o tree int_word refl

pub array_load_row-under : (o : Outline) → AreTree o.classes → (e : Elem) (s t : TypeState) → IsUnder o s t
    → Follows (IsUnder o) (array_load_row o e s) (array_load_row o e t)
unfolding array_load_row
array_load_row-under o tree e s t h =
    worked_below-under o tree int_word (on_array (is_array_of e) (null_element e) (element_of e)) s t refl
    (on_array-keeps o (is_array_of e) (null_element e) (element_of e) (record {
      below = array_of-below o e;
      nulls = same_top o tree (null_element e) (null_element-whole e);
      null_under = λ t' p. null-under o tree e t';
      given_under = λ s' t' f p. element-under o tree e s' t' f;
    }))
    h

-- ---- storing, and lengths

stored-whole : (o : Outline) (e : Elem) → is_whole (stored_element o e ++ int_word) ≡ true
stored-whole o elem.Ref = refl
stored-whole o elem.Long = refl
stored-whole o e = refl

pub nothing : (o : Outline) → IsStackUnder o [] []
nothing o = record { level = tt; whole = refl }

pub array_store_row-under : (o : Outline) → AreTree o.classes → (e : Elem) (s t : TypeState) → IsUnder o s t
    → Follows (IsUnder o) (array_store_row o e s) (array_store_row o e t)
unfolding array_store_row
array_store_row-under o tree e s t h =
    worked_below-under o tree (stored_element o e ++ int_word) (on_array (is_array_of e) [] (λ t. [])) s t (stored-whole o e)
    (on_array-keeps o (is_array_of e) [] (λ t. []) (record {
      below = array_of-below o e;
      nulls = nothing o;
      null_under = λ t' p. nothing o;
      given_under = λ s' t' f p. nothing o;
    }))
    h

pub length_row-under : (o : Outline) → AreTree o.classes → (s t : TypeState) → IsUnder o s t
    → Follows (IsUnder o) (length_row o s) (length_row o t)
unfolding length_row
length_row-under o tree s t h =
    worked_below-under o tree [] (on_array (λ t. nat_lt 0 t.dims) int_word (λ t. int_word)) s t refl
    (on_array-keeps o (λ t. nat_lt 0 t.dims) int_word (λ t. int_word) (record {
      below = array-below o.classes;
      nulls = same_top o tree int_word refl;
      null_under = λ t' p. same_top o tree int_word refl;
      given_under = λ s' t' f p. same_top o tree int_word refl;
    }))
    h
