-- What rows see of operands that are references and aren't looked at: whether they are null.
use Rattle.std.proofs.Common.{◌≡◌, ℕ, zero, suc, Bool, true, false, ◌==◌, if◌then◌else◌, List, Option, Some, None, slice_get, option_map, refl, ap, sym, ◌∙◌, arith}
use Rattle.std.proofs.lemmas.Bool.{ne_eqb}
use Rattle.std.proofs.lemmas.Option.{slice_get-map}
use Rattle.fm_cells.specs.Answers.{head_at, head_of}
use Rattle.fm_cells.specs.Objects.{Object}
use Rattle.fm_cells.specs.Stores.{object_at, Store}
use Rattle.fm_frames.specs.Effects.{Effect, stuck}
use Rattle.fm_frames.specs.Operands.{on_reference, on_reference_of}
use Rattle.fm_frames.specs.Sights.{sight, sight_of_cell, sight_of_object, sights}
use Rattle.fm_frames.specs.declared.looks.Look.{Look}
use Rattle.fm_frames.specs.declared.looks.Look.TheVariants as look
use Rattle.fm_frames.specs.declared.values.Value.{Value}
use Rattle.fm_frames.specs.declared.values.Value.TheVariants as value
use Rattle.fm_frames.specs.inner.Looks.{look_at, look_head}
use Rattle.fm_world.specs.Programs.{Outline}

-- what follows of a reference that isn't looked at
abbrev pub by_look : Look → (Bool → Effect) → Effect
by_look look.Other follows = stuck
by_look look.Null follows = follows true
by_look (look.Gone cell) follows = follows false
by_look (look.Object cell head) follows = follows false

cell-null : (o : Outline) (store : Store) (follows : Bool → Effect) (cell : ℕ)
    → on_reference_of (Some (sight_of_cell o store cell)) follows
    ≡ by_look (if cell == 0 then look.Null else look_head (record { 0 = cell }) (head_at store cell)) follows
cell-null o store follows zero = refl
cell-null o store follows (suc cell) =
    by_object (object_at store (suc cell))
    ∙ ap (λ null. by_look (if null then look.Null else look_head (record { 0 = suc cell }) (head_at store (suc cell))) follows)
    (sym (ne_eqb (suc cell) 0 (λ e. absurd (omega (arith, e))))) where
      by_object : (object : Option Object)
          → on_reference_of (Some (sight_of_object o store object)) follows ≡ by_look (look_head (record { 0 = suc cell }) (option_map head_of object)) follows
      by_object None = refl
      by_object (Some object) = refl

value-null : (o : Outline) (store : Store) (follows : Bool → Effect) (v : Option Value)
    → on_reference_of (option_map (sight o store) v) follows ≡ by_look (look_at store v) follows
value-null o store follows None = refl
value-null o store follows (Some value.Top) = refl
value-null o store follows (Some (value.Int n)) = refl
value-null o store follows (Some (value.Long n)) = refl
value-null o store follows (Some (value.Ref cell)) = cell-null o store follows cell.0

pub reference-seen : (o : Outline) (store : Store) (stack : List Value) (operand : ℕ) (found : Look) (follows : Bool → Effect)
    → found ≡ look_at store (slice_get stack operand) → on_reference (sights o store stack) operand follows ≡ by_look found follows
reference-seen o store stack operand found follows is =
    ap (λ s. on_reference_of s follows) (slice_get-map (sight o store) stack operand)
    ∙ value-null o store follows (slice_get stack operand) ∙ ap (λ l. by_look l follows) (sym is)
