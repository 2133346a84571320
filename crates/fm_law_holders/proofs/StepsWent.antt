-- What a step that is done made, and that it left all objects where they were.
use Rattle.std.proofs.Common.{List, ◌∷◌, refl, subst}
use Rattle.fm_cells.proofs.Choices.{lawful_choice-may}
use Rattle.fm_cells.specs.Choices.{lawful}
use Rattle.fm_conn.specs.Facts.{AreFacts, Facts}
use Rattle.fm_frames.specs.Acts.{Choose}
use Rattle.fm_frames.specs.States.{Frame, State}
use Rattle.fm_frames.specs.Steps.{next_effect}
use Rattle.fm_law_holders.proofs.BornObjects.{acts_made, even_are_freeless, Went, WentTo}
use Rattle.fm_law_holders.proofs.StepsBehind.{IsDoneTo}
use Rattle.fm_same.proofs.Starting.{state_owes}
use Rattle.fm_same.specs.Advances.{point_of}
use Rattle.fm_same.specs.Covering.{CoversAt}
use Rattle.fm_same.specs.Evenness.{HoldsNumbers, Obeys}
use Rattle.fm_same.specs.Standing.{Stand}
use Rattle.fm_world.specs.Programs.{Program}

module _ (p : Program) (facts : Facts) (exact : AreFacts p facts) (numbers : HoldsNumbers p.outline) (choose : Choose) (z : State) (f : Frame) (callers : List Frame) (stand : Stand p facts (f ∷ callers)) (covers : CoversAt p facts (record z { frames = f ∷ callers }) (f ∷ callers)) where
  abbrev y : State
  y = record z { frames = f ∷ callers }

  -- what its effect owes to the classes
  pub step_obeys : Obeys p.outline (point_of p facts f stand.0.at.code) stand.0.at.insn (next_effect p y)
  step_obeys = (state_owes p facts exact numbers y stand covers stand.0.at).0

  pub step_went : (s : State) (d : IsDoneTo p (lawful choose) z f callers s) → Went z.areas.store d.areas d.made
  step_went s d =
      subst (WentTo z.areas.store) d.did
      (acts_made p.outline (lawful choose) (λ store request. lawful_choice-may store request (choose store request)) z.areas.store f.locals f.stack
      (next_effect p y).actions z.areas refl
      (even_are_freeless p.outline (point_of p facts f stand.0.at.code) step_obeys.home (next_effect p y).actions step_obeys.acts))
