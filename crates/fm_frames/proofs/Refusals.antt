-- Why a row refuses an operand: it isn't a number, what it leads to is gone or of another type, or it is null.
use Rattle.std.proofs.Common.{◌≡◌, ℕ, zero, suc, Bool, true, false, ◌==◌, if◌then◌else◌, List, Option, Some, None, slice_get, refl, ap, sym, ◌∙◌, ℤ, ◌++◌, codes}
use Rattle.std.specs.Str.{bytes_eq}
use Rattle.std.proofs.lemmas.Iterator.Adapters.{position_from-zero}
use Rattle.std.proofs.lemmas.Option.{get_or_from_slice_get}
use Rattle.fm_cells.specs.Answers.{head_at}
use Rattle.fm_cells.specs.Objects.{Object}
use Rattle.fm_cells.specs.Stores.{Store, object_at}
use Rattle.fm_cells.specs.declared.answers.Cell.{Cell}
use Rattle.fm_cells.specs.declared.answers.Head.{Head}
use Rattle.fm_types.specs.Named.{built_in_type}
use Rattle.fm_world.specs.BuiltIns.{built_in}
use Rattle.fm_world.specs.Descriptors.{class_number}
use Rattle.fm_world.specs.Numbers.{type_of_class}
use Rattle.fm_world.specs.Programs.{Outline, Program}
use Rattle.fm_world.specs.declared.declarations.DeclaredClass.{DeclaredClass}
use Rattle.fm_frames.proofs.BuiltInTypes.{named_class}
use Rattle.fm_frames.specs.Effects.{Effect, stuck}
use Rattle.fm_frames.specs.Operands.{on_int_of, on_long_of}
use Rattle.fm_frames.specs.Runnable.{IsRunnable}
use Rattle.fm_frames.specs.Sights.{sight_of_cell, sight_of_object}
use Rattle.fm_frames.specs.States.{word_at}
use Rattle.fm_frames.specs.declared.looks.Look.TheVariants as look
use Rattle.fm_frames.specs.declared.values.Value.TheVariants as value
use Rattle.fm_frames.specs.declared.values.Value.{Value}
use Rattle.fm_frames.specs.inner.Looks.{look_at, look_head}

-- ---- a reference is no number

pub cell-no-int : (o : Outline) (store : Store) (cell : ℕ) (follows : ℤ → Effect) → on_int_of (Some (sight_of_cell o store cell)) follows ≡ stuck
cell-no-int o store zero follows = refl
cell-no-int o store (suc cell) follows = by_object (object_at store (suc cell)) where
  by_object : (object : Option Object) → on_int_of (Some (sight_of_object o store object)) follows ≡ stuck
  by_object None = refl
  by_object (Some object) = refl

pub cell-no-long : (o : Outline) (store : Store) (cell : ℕ) (follows : ℤ → Effect) → on_long_of (Some (sight_of_cell o store cell)) follows ≡ stuck
cell-no-long o store zero follows = refl
cell-no-long o store (suc cell) follows = by_object (object_at store (suc cell)) where
  by_object : (object : Option Object) → on_long_of (Some (sight_of_object o store object)) follows ≡ stuck
  by_object None = refl
  by_object (Some object) = refl

-- ---- which cell was looked at

gone-in : (store : Store) (cell : Cell) (v : Option Value) → look.Gone cell ≡ look_at store v → v ≡ Some (value.Ref cell)
gone-in store cell None e = cc
gone-in store cell (Some value.Top) e = cc
gone-in store cell (Some (value.Int n)) e = cc
gone-in store cell (Some (value.Long n)) e = cc
gone-in store cell (Some (value.Ref d)) e = by_test (d.0 == 0) (head_at store d.0) e where
  by_test : (null : Bool) (head : Option Head) → look.Gone cell ≡ (if null then look.Null else look_head d head) → Some (value.Ref d) ≡ Some (value.Ref cell)
  by_test true head e = cc
  by_test false None e = let same : cell ≡ d = cc in ap (λ c. Some (value.Ref c)) (sym same)
  by_test false (Some head) e = cc

pub gone-at : (store : Store) (stack : List Value) (operand : ℕ) (cell : Cell) → look.Gone cell ≡ look_at store (slice_get stack operand)
    → word_at stack operand ≡ value.Ref cell
gone-at store stack operand cell e =
    get_or_from_slice_get stack operand (value.Ref cell) value.Top (gone-in store cell (slice_get stack operand) e)

pub object-in : (store : Store) (cell : Cell) (head : Head) (v : Option Value) → look.Object cell head ≡ look_at store v
    → (v ≡ Some (value.Ref cell)) × (head_at store cell.0 ≡ Some head)
object-in store cell head None e = absurd (cc)
object-in store cell head (Some value.Top) e = absurd (cc)
object-in store cell head (Some (value.Int n)) e = absurd (cc)
object-in store cell head (Some (value.Long n)) e = absurd (cc)
object-in store cell head (Some (value.Ref d)) e = by_test (d.0 == 0) (head_at store d.0) refl e where
  by_test : (null : Bool) (there : Option Head) → there ≡ head_at store d.0 → look.Object cell head ≡ (if null then look.Null else look_head d there)
      → (Some (value.Ref d) ≡ Some (value.Ref cell)) × (head_at store cell.0 ≡ Some head)
  by_test true there is e = absurd (cc)
  by_test false None is e = absurd (cc)
  by_test false (Some h) is e =
      let same : cell ≡ d = cc in
      let told : head ≡ h = cc in
      (ap (λ c. Some (value.Ref c)) (sym same), ap (λ (c : Cell). head_at store c.0) same ∙ sym is ∙ ap Some (sym told))

-- ---- what null throws

null-found : (given : List DeclaredClass) → class_number (built_in ++ given) (codes "java/lang/NullPointerException") ≡ Some 18
unfolding built_in
null-found given = position_from-zero (λ (c : DeclaredClass). bytes_eq c.name (codes "java/lang/NullPointerException")) (built_in ++ given)

pub null-is : (p : Program) → IsRunnable p → built_in_type p.outline (codes "java/lang/NullPointerException") ≡ type_of_class 18
null-is p runnable = named_class p (codes "java/lang/NullPointerException") 18 runnable null-found
