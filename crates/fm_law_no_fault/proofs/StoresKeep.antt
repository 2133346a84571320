-- What fits goes on fitting where objects stay in their cells; and what is seen of a reference that fits is null or an object that does.
use Rattle.std.proofs.Common.{◌≡◌, ℕ, zero, suc, Bool, true, List, [], ◌∷◌, length, Option, Some, None, ◌∙◌, ap, inl, inr}
use Rattle.std.specs.List.{AllByRecursion}
use Rattle.std.proofs.lemmas.Option.{none-some, same_Some}
use Rattle.fm_base.specs.declared.kinds.TypeRef.{TypeRef}
use Rattle.fm_cells.specs.Objects.{Object}
use Rattle.fm_cells.specs.Stores.{object_at, Store}
use Rattle.fm_types.specs.States.{TypeState}
use Rattle.fm_types.specs.declared.slots.Slot.{Slot}
use Rattle.fm_types.specs.declared.slots.Slot.TheVariants as slot
use Rattle.fm_types.proofs.Zips.{zip-implied}
use Rattle.fm_world.specs.Programs.{Outline, Program}
use Rattle.fm_frames.specs.Acts.{cell_of}
use Rattle.fm_frames.specs.Sights.{sight, sight_of_cell, sight_of_object, type_numbered}
use Rattle.fm_frames.specs.States.{Frame}
use Rattle.fm_frames.specs.declared.values.Value.{Value}
use Rattle.fm_frames.specs.declared.values.Value.TheVariants as value
use Rattle.fm_same.proofs.StoreChanges.{Extends, IsKept}
use Rattle.fm_law_sound.proofs.SeenObjects.{looks_type}
use Rattle.fm_law_sound.specs.Sound.{IsReference, Typings}
use Rattle.fm_law_no_fault.specs.Whole.{CellFits, FrameFits, FrameIsWhole, HoldsA, LeadsToA, LocalFits, lowest, WordFits}
use Rattle.fm_law_no_fault.specs.Seen.{SeesA}

-- ---- one list against another

-- ---- where objects stay

module _ (o : Outline) (store later : Store) (more : Extends store later) where
  pub holds-later : (test : TypeRef → Bool) (cell : ℕ) → HoldsA o store test cell → HoldsA o later test cell
  holds-later test cell h =
      let kept : IsKept later cell h.object = more.kept cell h.object h.held in
      record { object = kept.now; held = kept.is; passes = ap (λ c. test (type_numbered o c)) kept.class ∙ h.passes }

  pub leads-later : (test : TypeRef → Bool) (cell : ℕ) → LeadsToA o store test cell → LeadsToA o later test cell
  leads-later test cell (inl e) = inl e
  leads-later test cell (inr h) = inr (holds-later test cell h)

  pub cell-later : (own : ℕ) (news : ℕ → Option TypeRef) (s : Slot) (cell : ℕ) → CellFits o store own news s cell → CellFits o later own news s cell
  cell-later own news slot.Top cell h = tt
  cell-later own news slot.Int cell h = tt
  cell-later own news slot.Long cell h = tt
  cell-later own news slot.Null cell h = h
  cell-later own news (slot.Ref t) cell h = leads-later _ cell h
  cell-later own news (slot.Uninit item) cell h = holds-later _ cell h
  cell-later own news slot.UninitThis cell h = holds-later _ cell h

  pub word-later : (own : ℕ) (news : ℕ → Option TypeRef) (s : Slot) (v : Value) → WordFits o store own news s v → WordFits o later own news s v
  word-later own news s v h = record { kind = h.kind; cell = cell-later own news s (cell_of v) h.cell }

  pub local-later : (own : ℕ) (news : ℕ → Option TypeRef) (s : Slot) (v : Value) → LocalFits o store own news s v → LocalFits o later own news s v
  local-later own news s v h = record { kind = h.kind; cell = cell-later own news s (cell_of v) h.cell }

  pub frame-later : (own : ℕ) (news : ℕ → Option TypeRef) (known : TypeState) (locals stack : List Value)
      → FrameFits o store own news known locals stack → FrameFits o later own news known locals stack
  frame-later own news known locals stack h = record {
    in_locals = zip-implied (LocalFits o store own news) (LocalFits o later own news) (local-later own news) known.locals locals h.in_locals;
    in_stack =
        zip-implied (WordFits o store own news) (WordFits o later own news) (word-later own news) (lowest (length stack) known.stack) stack h.in_stack;
  }

pub frames-later : (p : Program) (typings : Typings) (store later : Store) → Extends store later → (frames : List Frame)
    → AllByRecursion (FrameIsWhole p typings store) frames → AllByRecursion (FrameIsWhole p typings later) frames
frames-later p typings store later more [] h = tt
frames-later p typings store later more (f ∷ frames) h = (
  λ code known code_is at. frame-later p.outline store later more _ _ known f.locals f.stack (h.0 code known code_is at),
  frames-later p typings store later more frames h.1,
)

-- ---- what is seen

sees_held : (o : Outline) (store : Store) (test : TypeRef → Bool) (object : Object) (found : Option Object) → found ≡ Some object
    → test (type_numbered o object.class) ≡ true → SeesA test (sight_of_object o store found)
sees_held o store test object None is passes = absurd (none-some object is)
sees_held o store test object (Some there) is passes =
    ap test (looks_type o store there) ∙ ap (λ (y : Object). test (type_numbered o y.class)) (same_Some there object is) ∙ passes

sees_cell : (o : Outline) (store : Store) (test : TypeRef → Bool) (cell : ℕ) → LeadsToA o store test cell → SeesA test (sight_of_cell o store cell)
sees_cell o store test zero h = tt
sees_cell o store test (suc cell) (inl e) = absurd (cc)
sees_cell o store test (suc cell) (inr h) = sees_held o store test h.object (object_at store (suc cell)) h.held h.passes

pub sees : (o : Outline) (store : Store) (test : TypeRef → Bool) (v : Value) → IsReference v → LeadsToA o store test (cell_of v)
    → SeesA test (sight o store v)
sees o store test value.Top is h = absurd is
sees o store test (value.Int n) is h = absurd is
sees o store test (value.Long n) is h = absurd is
sees o store test (value.Ref cell) is h = sees_cell o store test cell.0 h
