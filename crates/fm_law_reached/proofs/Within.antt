-- What a program's runs hold by what it is narrowed to: nothing where it isn't, and else that they are within closed sets.
use Rattle.std.proofs.Common.{◌≡◌, ℕ, Bool, List, Option, Some, None, refl, sym, ap, subst}
use Rattle.fm_conn.specs.Facts.{Facts}
use Rattle.fm_cells.specs.Stores.{opened}
use Rattle.fm_frames.specs.Acts.{Choose}
use Rattle.fm_frames.specs.Runs.{Job, opening}
use Rattle.fm_frames.specs.States.{State}
use Rattle.fm_frames.specs.Steps.{step}
use Rattle.fm_law_reached.proofs.Covered.{covers_narrowed}
use Rattle.fm_law_reached.proofs.Openings.{opening_in}
use Rattle.fm_law_reached.proofs.Steps.{step_stays}
use Rattle.fm_law_reached.specs.Laws.{IsReady, OpeningsAreReached, ReachedStatesCover, ReachedStatesStep}
use Rattle.fm_law_reached.specs.Reached.{ClosedBy, ReachedBy}
use Rattle.fm_law_sound.specs.Sound.{IsSoundBy, Typings}
use Rattle.fm_rapid.specs.Reach.{narrowed}
use Rattle.fm_same.proofs.FullTargets.{covers_fully}
use Rattle.fm_same.specs.Resolved.{IsResolved}
use Rattle.fm_same.specs.Targets.{Covers}
use Rattle.fm_world.specs.Programs.{Program}

cover_by : (p : Program) → IsResolved p → (facts : Facts) (x : State) → IsSoundBy p facts.typing x → (made : Option (List Bool)) → p.made ≡ made
    → ReachedBy p made x → Covers p facts x
cover_by p ready facts x sound None is reached = covers_fully p ready is facts x sound
cover_by p ready facts x sound (Some made) is reached =
    let whole : narrowed p made ≡ p = ap (λ (m : Option (List Bool)). record p { made = m }) (sym is) in
    subst (λ r. Covers r facts x) whole (covers_narrowed p ready made facts x sound reached.2.objects)

pub reached_cover : ReachedStatesCover
reached_cover p ready facts x sound reached = cover_by p ready facts x sound p.made refl reached

step_by : (p : Program) (typings : Typings) → IsReady p → (choose : Choose) (x : State) → IsSoundBy p typings x → (made : Option (List Bool))
    → ReachedBy p made x → ReachedBy p made (step p choose x).state
step_by p typings ready choose x sound None reached = tt
step_by p typings ready choose x sound (Some made) reached =
    (reached.0, reached.1, step_stays p typings ready reached.0 made reached.1 choose x sound reached.2)

pub reached_step : ReachedStatesStep
reached_step p typings ready choose x sound reached = step_by p typings ready choose x sound p.made reached

open_by : (p : Program) → IsReady p → (choose : Choose) (job : Job) (budget : ℕ) (limit : Option ℕ) (free : List (List ℕ)) → (made : Option (List Bool))
    → ClosedBy p made → ReachedBy p made (opening p choose job (opened budget limit free)).state
open_by p ready choose job budget limit free None closed = tt
open_by p ready choose job budget limit free (Some made) closed =
    (closed.0, closed.1, opening_in p ready closed.0 made closed.1 choose job budget limit free)

pub reached_opening : OpeningsAreReached
reached_opening p ready closed choose job budget limit free = open_by p ready choose job budget limit free p.made closed
