-- At a sound state places are read and put by their kinds.
use Rattle.std.proofs.Common.{◌≡◌, List, [], ◌∷◌, Option, Some, sym, ◌∙◌, ap, subst, option_and_then, slice_get}
use Rattle.fm_code.specs.Edges.{insn_of}
use Rattle.fm_code.specs.declared.code_array.Code.{Code}
use Rattle.fm_code.specs.declared.instructions.Insn.{Insn}
use Rattle.fm_conn.specs.Facts.{Facts}
use Rattle.fm_types.specs.Typed.{use_by}
use Rattle.fm_world.specs.Programs.{code_at, Program}
use Rattle.fm_frames.specs.States.{Frame, State}
use Rattle.fm_frames.specs.Steps.{effect_by, next_insn}
use Rattle.fm_law_sound.specs.Placing.{PlacesAgree}
use Rattle.fm_same.specs.Covering.{PlacesAgreeAt}
use Rattle.fm_same.specs.Resolved.{IsResolved}
use Rattle.fm_same.specs.Standing.{Stand, StandsAt}
use Rattle.fm_law_sound.proofs.PlaceRows.{row_agrees}

pub insn_here : (p : Program) (f : Frame) (code : Code) (i : Insn) → code_at p f.method ≡ Some code → insn_of code f.item ≡ Some i → next_insn p f ≡ Some i
insn_here p f code i code_is is = ap (λ o. option_and_then (λ (c : Code). insn_of c f.item) o) code_is ∙ is

module _ (p : Program) (facts : Facts) (ready : IsResolved p) where
  frame_agrees : (y : State) (f : Frame) (callers : List Frame) (at : StandsAt p facts f)
      → PlacesAgree p.outline y.areas.store f.stack (effect_by p (record y { frames = f ∷ callers }) f (Some at.insn))
  frame_agrees y f callers at =
      row_agrees p.outline y.areas.store f.stack ready.message f.method (use_by p f.method at.insn) at.insn (slice_get y.input 0)
      (λ wanted field t named of is there fits. ready.fields f.method at.insn field t named of
      (record { code = at.code; code_is = at.code_is; item = f.item; insn_is = at.insn_is; use_is = is }) wanted there fits)

  frames_agree : (y : State) (frames : List Frame) → Stand p facts frames → PlacesAgreeAt p (record y { frames = frames }) frames
  frames_agree y [] stand = tt
  frames_agree y (f ∷ callers) stand =
      subst (λ (i : Option Insn). PlacesAgree p.outline y.areas.store f.stack (effect_by p (record y { frames = f ∷ callers }) f i))
      (sym (insn_here p f stand.0.at.code stand.0.at.insn stand.0.at.code_is stand.0.at.insn_is)) (frame_agrees y f callers stand.0.at)

  -- where frames are as the laws require
  pub places_agree : (x : State) → Stand p facts x.frames → PlacesAgreeAt p x x.frames
  places_agree x stand = frames_agree x x.frames stand
