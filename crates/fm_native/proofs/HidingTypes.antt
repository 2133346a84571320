-- Objects whose type is one of those that have a text in a hidden field have it.
use Rattle.std.proofs.Common.{◌≡◌, ℕ, ◌||◌, ◌⊎◌, inl, inr, Bool, true, false, codes, List, ◌++◌, Some, refl, ap, ◌∙◌}
use Rattle.std.proofs.lemmas.Bool.{or_cases}
use Rattle.fm_base.specs.declared.kinds.TypeRef.{TypeRef}
use Rattle.fm_cells.specs.Answers.{head_of}
use Rattle.fm_cells.specs.Objects.{Object}
use Rattle.fm_cells.specs.Stores.{object_at, Store}
use Rattle.fm_frames.proofs.BuiltInTypes.{below_named, buffer_there, builder_there, named_class, no_interfaces, throwable_there}
use Rattle.fm_frames.specs.Runnable.{IsRunnable}
use Rattle.fm_frames.specs.Sights.{has_hidden_field, type_numbered}
use Rattle.fm_native.proofs.Hidings.{field-below}
use Rattle.fm_native.specs.Serving.{hides_text, HoldsHidden}
use Rattle.fm_native.specs.declared.asked.Held.{Held}
use Rattle.fm_native.specs.inner.Hidden.{builds_text, HidesText}
use Rattle.fm_types.specs.Fits.{fits_type}
use Rattle.fm_types.specs.Named.{built_in_type, throwable_type}
use Rattle.fm_world.specs.BuiltIns.{built_in}
use Rattle.fm_world.specs.Chains.{class_at}
use Rattle.fm_world.specs.Numbers.{type_of_class}
use Rattle.fm_world.specs.Programs.{Program}
use Rattle.fm_world.specs.declared.declarations.DeclaredClass.{DeclaredClass}

pub builder-is : (p : Program) → IsRunnable p → built_in_type p.outline (codes "java/lang/StringBuilder") ≡ type_of_class 2
builder-is p runnable = named_class p (codes "java/lang/StringBuilder") 2 runnable builder_there

pub buffer-is : (p : Program) → IsRunnable p → built_in_type p.outline (codes "java/lang/StringBuffer") ≡ type_of_class 3
buffer-is p runnable = named_class p (codes "java/lang/StringBuffer") 3 runnable buffer_there

pub throwable-is : (p : Program) → IsRunnable p → throwable_type p.outline ≡ type_of_class 7
throwable-is p runnable = named_class p (codes "java/lang/Throwable") 7 runnable throwable_there

-- the classes that bring the field
hidden-there : (given : List DeclaredClass)
    → ((class_at (built_in ++ given) 2).hidden ≡ true) × ((class_at (built_in ++ given) 3).hidden ≡ true) × ((class_at (built_in ++ given) 7).hidden ≡ true)
unfolding built_in
hidden-there given = (refl, refl, refl)

-- types that fit one of them have it
pub hides-field : (p : Program) → IsRunnable p → (t : TypeRef) → hides_text p.outline t ≡ true → has_hidden_field p.outline t ≡ true
hides-field p runnable t hides = by_kind (or_cases (builds_text p.outline t) (fits_type p.outline.classes t (throwable_type p.outline)) hides) where
  there : (class : ℕ) → ((given : List DeclaredClass) → (class_at (built_in ++ given) class).hidden ≡ true) → (class_at p.outline.classes class).hidden ≡ true
  there class hidden = ap (λ all. (class_at all class).hidden) runnable.classes ∙ hidden runnable.given

  by_name : (fits_type p.outline.classes t (built_in_type p.outline (codes "java/lang/StringBuilder")) ≡ true)
      ⊎ (fits_type p.outline.classes t (built_in_type p.outline (codes "java/lang/StringBuffer")) ≡ true)
      → has_hidden_field p.outline t ≡ true
  by_name (inl fits) =
      field-below p.outline 2 t
      (below_named p (codes "java/lang/StringBuilder") 2 runnable refl builder_there (λ given. (no_interfaces given).0) t fits)
      (there 2 (λ given. (hidden-there given).0))
  by_name (inr fits) =
      field-below p.outline 3 t
      (below_named p (codes "java/lang/StringBuffer") 3 runnable refl buffer_there (λ given. (no_interfaces given).1) t fits)
      (there 3 (λ given. (hidden-there given).1))

  by_kind : (builds_text p.outline t ≡ true) ⊎ (fits_type p.outline.classes t (throwable_type p.outline) ≡ true) → has_hidden_field p.outline t ≡ true
  by_kind (inl built) =
      by_name (or_cases (fits_type p.outline.classes t (built_in_type p.outline (codes "java/lang/StringBuilder"))) (fits_type p.outline.classes t (built_in_type p.outline (codes "java/lang/StringBuffer"))) built)
  by_kind (inr fits) =
      field-below p.outline 7 t
      (below_named p (codes "java/lang/Throwable") 7 runnable refl throwable_there (λ given. (no_interfaces given).2) t fits)
      (there 7 (λ given. (hidden-there given).2))

-- what is known of such an object that was found
hides-known : (p : Program) → IsRunnable p → (store : Store) → HoldsHidden p.outline store → (held : Held) (object : Object)
    → object_at store held.cell.0 ≡ Some object → head_of object ≡ held.head → hides_text p.outline (type_numbered p.outline object.class) ≡ true
    → HidesText p.outline store held
hides-known p runnable store holds held object at head_is hides =
    let first = holds.first held.cell.0 object at hides in
    record {
      object = object;
      at = at;
      head_is = head_is;
      field = hides-field p runnable (type_numbered p.outline object.class) hides;
      wide = first.wide;
      cell = first.cell;
    }

pub builder-hides : (p : Program) → IsRunnable p → (store : Store) → HoldsHidden p.outline store → (held : Held) (object : Object)
    → object_at store held.cell.0 ≡ Some object → head_of object ≡ held.head → builds_text p.outline (type_numbered p.outline object.class) ≡ true
    → HidesText p.outline store held
builder-hides p runnable store holds held object at head_is built =
    hides-known p runnable store holds held object at head_is
    (ap (λ b. b || fits_type p.outline.classes (type_numbered p.outline object.class) (throwable_type p.outline)) built)

pub throwable-hides : (p : Program) → IsRunnable p → (store : Store) → HoldsHidden p.outline store → (held : Held) (object : Object)
    → object_at store held.cell.0 ≡ Some object → head_of object ≡ held.head
    → fits_type p.outline.classes (type_numbered p.outline object.class) (throwable_type p.outline) ≡ true → HidesText p.outline store held
throwable-hides p runnable store holds held object at head_is fits =
    hides-known p runnable store holds held object at head_is
    (ap (λ b. builds_text p.outline (type_numbered p.outline object.class) || b) fits ∙ or_true (builds_text p.outline (type_numbered p.outline object.class))) where
      or_true : (b : Bool) → (b || true) ≡ true
      or_true true = refl
      or_true false = refl
