-- Paired states have one next effect.
use Rattle.std.proofs.Common.{◌≡◌, ℕ, max, Bool, List, [], ◌∷◌, Option, Some, None, option_and_then, refl, ◌∙◌, ap, slice_get}
use Rattle.std.specs.List.{AllByRecursion, AllZip}
use Rattle.fm_cells.specs.Stores.{Store}
use Rattle.fm_code.specs.Edges.{insn_of}
use Rattle.fm_code.specs.declared.code_array.Code.{Code}
use Rattle.fm_code.specs.declared.instructions.Insn.{Insn}
use Rattle.fm_types.specs.Typed.{use_by}
use Rattle.fm_world.specs.Programs.{code_at, Program}
use Rattle.fm_frames.specs.Effects.{Effect}
use Rattle.fm_frames.specs.Rows.{effect_of}
use Rattle.fm_frames.specs.Sights.{sights}
use Rattle.fm_frames.specs.Starts.{with_start}
use Rattle.fm_frames.specs.States.{Frame, State}
use Rattle.fm_frames.specs.Steps.{cost, effect_at, effect_by, next_insn, next_effect, objects_made}
use Rattle.fm_law_two_memories.specs.Hidden.{HiddenComesFirst}
use Rattle.fm_law_two_memories.specs.Pairing.{AreasPaired, FramesPaired, Gone, StatesPaired}
use Rattle.fm_law_two_memories.specs.Seeing.{IsSeen, SeesNothingGone}
use Rattle.fm_law_two_memories.proofs.SightsSame.{sights_same}

-- the instruction at which a frame is
abbrev insn_with : Program → ℕ → ℕ → Option Insn
insn_with p method item = option_and_then (λ (code : Code). insn_of code item) (code_at p method)

pub insn_same : (gone : Gone) (p : Program) (one other : Store) (f g : Frame) → FramesPaired gone one other f g → next_insn p g ≡ next_insn p f
insn_same gone p one other f g h = ap (λ m. insn_with p m g.item) h.method ∙ ap (insn_with p f.method) h.item

module _ (gone : Gone) (p : Program) (hidden : HiddenComesFirst p.outline) (z w : State) (areas : AreasPaired gone p.outline z.areas w.areas) (input : w.input ≡ z.input) where
  frame_effect : (f g : Frame) (fs gs : List Frame) → FramesPaired gone z.areas.store w.areas.store f g
      → AllByRecursion (IsSeen gone p.outline z.areas.store) f.stack → (found : Option Insn)
      → effect_by p (record w { frames = g ∷ gs }) g found ≡ effect_by p (record z { frames = f ∷ fs }) f found
  frame_effect f g fs gs h seen None = refl
  frame_effect f g fs gs h seen (Some i) =
      ap (λ m. effect_of p.outline m (use_by p m i) i (slice_get w.input 0) (sights p.outline w.areas.store g.stack)) h.method
      ∙ ap (λ (bytes : List ℕ). effect_of p.outline f.method (use_by p f.method i) i (slice_get bytes 0) (sights p.outline w.areas.store g.stack)) input
      ∙ ap (effect_of p.outline f.method (use_by p f.method i) i (slice_get z.input 0))
      (sights_same gone p.outline z.areas.store w.areas.store areas.store hidden f.stack g.stack h.stack seen)

  at_frames : (fs gs : List Frame) → AllZip (FramesPaired gone z.areas.store w.areas.store) fs gs → SeesNothingGone gone p.outline (record z { frames = fs })
      → effect_at p (record w { frames = gs }) ≡ effect_at p (record z { frames = fs })
  at_frames [] [] h seen = refl
  at_frames [] (g ∷ gs) h seen = absurd h
  at_frames (f ∷ fs) [] h seen = absurd h
  at_frames (f ∷ fs) (g ∷ gs) h seen =
      ap (effect_by p (record w { frames = g ∷ gs }) g) (insn_same gone p z.areas.store w.areas.store f g h.0) ∙ frame_effect f g fs gs h.0 seen (next_insn p f)

pub effect_same : (gone : Gone) (p : Program) → HiddenComesFirst p.outline → (x y : State) → StatesPaired gone p.outline x y → SeesNothingGone gone p.outline x
    → next_effect p y ≡ next_effect p x
unfolding next_effect
effect_same gone p hidden x y h seen =
    ap (λ (started : List Bool). with_start p.outline started (effect_at p y)) h.areas.started
    ∙ ap (with_start p.outline x.areas.started) (at_frames gone p hidden x y h.areas h.input x.frames y.frames h.frames seen)

pub effects_same : (gone : Gone) (p : Program) → HiddenComesFirst p.outline → (x y : State) → StatesPaired gone p.outline x y → SeesNothingGone gone p.outline x
    → (next_effect p y ≡ next_effect p x) × (cost p y ≡ cost p x)
unfolding cost
effects_same gone p hidden x y h seen =
    let same = effect_same gone p hidden x y h seen in (same, ap (λ (e : Effect). max 1 (objects_made e.actions)) same)
