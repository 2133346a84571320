-- Both runs are at one item, and what the first run reaches is the same in the second one, under other cells (JVMS 2.7).
use Rattle.std.specs.Prelude.{◌≡◌, ℕ, false, List, ◌∷◌, Some, slice_get}
use Rattle.fm_cells.specs.Objects.{Object}
use Rattle.fm_cells.specs.Stores.{object_at}
use Rattle.fm_conn.specs.Facts.{Facts}
use Rattle.fm_frames.specs.States.{Frame, State}
use Rattle.fm_frames.specs.declared.values.Value.{Value}
use Rattle.fm_law_same_runs.specs.Beside.{Beside, kept_item, Marks}
use Rattle.fm_law_same_runs.specs.Renaming.{AreRenamed}
use Rattle.fm_same.specs.DeadRegions.{IsRoot, LeadsTo}
use Rattle.fm_world.specs.Programs.{Outline}

-- the object of that birth doesn't live for ever, and neither a live local nor a word of the stack of any frame, nor a static field, leads to it
pub record IsUnreached (o : Outline) (facts : Facts) (x : State) (birth : ℕ) : Type 0 where
  pub not_fixed : (cell : ℕ) (object : Object) → object_at x.areas.store cell ≡ Some object → object.birth ≡ birth → object.fixed ≡ false
  pub no_root : (v : Value) → IsRoot facts x.frames v → ¬ LeadsTo o x.areas.store v birth
  pub no_static : (slot : ℕ) (v : Value) → slice_get x.areas.statics slot ≡ Some v → ¬ LeadsTo o x.areas.store v birth

-- the item at which the topmost frame of the second run is keeps that of the first one's
abbrev pub AreAtOneItem : Marks → List Frame → List Frame → Type 0
AreAtOneItem marks (f ∷ callers) (g ∷ below) = kept_item marks g.method g.item ≡ Some f.item
AreAtOneItem marks fs gs = ⊥

-- both runs are at one item, and what is reached in the k-th state of the first run is the same in the l-th of the second one, under other cells
abbrev pub ReachedIsRenamed : Facts → Beside → (k l : ℕ) → Type 0
ReachedIsRenamed facts r k l =
    AreAtOneItem r.marks (r.xs k).state.frames (r.ys l).state.frames
    × AreRenamed r.one.outline facts (IsUnreached r.one.outline facts (r.xs k).state) (r.xs k).state (r.ys l).state
