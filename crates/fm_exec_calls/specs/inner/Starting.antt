-- How far an instruction has come whose class is started before it.
use Rattle.std.specs.Prelude.{◌≡◌, ℕ, Bool, true, false, List, ◌++◌, None}
use Rattle.fm_exec.specs.Steps.{Steps}
use Rattle.fm_frames.specs.Acts.{Choose}
use Rattle.fm_frames.specs.Effects.{Action, Effect, Enters, nothing}
use Rattle.fm_frames.specs.ObjectRows.{starting}
use Rattle.fm_frames.specs.States.{State}
use Rattle.fm_frames.specs.inner.Doings.{CanStep, DoesIn}
use Rattle.fm_world.specs.Programs.{Program}

-- the effect of the instruction with what comes before it
abbrev pub with_first : List Action → Effect → Effect
with_first first f = record f { starts = None; actions = first ++ f.actions }

-- the effect where some of the classes have a method that starts them
abbrev pub enters : List Action → List ℕ → Effect
enters first methods = record nothing { actions = first; next = Enters methods }

-- what comes before the instruction is done, and its whole step is then the one that it does by itself; or the run has ended
abbrev pub Prepared : Program → Choose → (x y : State) → (first : List Action) → Effect → Bool → Type 0
Prepared p choose x y first f true =
    CanStep p y × (y ≡ record x { areas = y.areas }) × ((z : State) → DoesIn p choose y z f → DoesIn p choose x z (with_first first f))
Prepared p choose x y first f false = DoesIn p choose x y (with_first first f)

-- the whole step of the instruction is the one that it does by itself now; or its step is done
abbrev pub StartsBefore : Program → Choose → (x y : State) → (class : ℕ) → Effect → Bool → Type 0
StartsBefore p choose x y class f true =
    CanStep p y × (y ≡ record x { areas = y.areas }) × ((z : State) → DoesIn p choose y z f → Steps p choose x z (starting class f))
StartsBefore p choose x y class f false = Steps p choose x y (starting class f)
