-- What the effect of an instruction doesn't look at: where targets lead, and locals but those that the instruction names.
use Rattle.std.specs.Prelude.{◌≡◌, ℕ, ◌<◌, not, Bool, true, List, length, Option}
use Rattle.std.specs.List.{AllByRecursion}
use Rattle.fm_code.specs.SpellsCode.{LocalsFit, targets_of, with_targets}
use Rattle.fm_code.specs.declared.instructions.Insn.{Insn}
use Rattle.fm_layout.specs.Spelling.{conditional, opposite}
use Rattle.fm_layout.specs.declared.rooms.Condition.{Condition}
use Rattle.fm_world.specs.Programs.{Outline}
use Rattle.fm_world.specs.declared.uses.Use.{Use}
use Rattle.fm_frames.specs.Acts.{Choose, performed}
use Rattle.fm_frames.specs.Effects.{Action, Effect, Enters, Falls, Faults, Jumps, JumpsIfSame, LocalPlus, Next, OfLocal, Put, SetStatic, Source, Throws}
use Rattle.fm_frames.specs.Rows.{effect_of}
use Rattle.fm_frames.specs.Sights.{Sight}
use Rattle.fm_frames.specs.Starts.{with_start}
use Rattle.fm_frames.specs.States.{Areas}
use Rattle.fm_frames.specs.Steps.{is_start}
use Rattle.fm_frames.specs.declared.values.Value.{Value}

-- ---- targets

-- an instruction has the same effect with other targets
abbrev pub TargetsAreUnseen : Type 0
TargetsAreUnseen = (o : Outline) (method : ℕ) (u : Use) (to : ℕ → ℕ) (i : Insn) (byte : Option ℕ) (s : List Sight)
    → effect_of o method u (with_targets to i) byte s ≡ effect_of o method u i byte s

-- to the next item in place of the target, and to the target in place of the next item
abbrev pub exchanged : Next → Next
exchanged Falls = Jumps 0
exchanged (Jumps n) = Falls
exchanged (JumpsIfSame same) = JumpsIfSame (not same)
exchanged next = next

-- the effect that goes where the other one doesn't
abbrev pub with_exchanged : Effect → Effect
with_exchanged e = record e { next = exchanged e.next }

-- a branch on the opposite condition goes where the branch doesn't, and does nothing else
abbrev pub OppositesExchange : Type 0
OppositesExchange = (o : Outline) (method : ℕ) (u : Use) (c : Condition) (target other : ℕ) (byte : Option ℕ) (s : List Sight)
    → effect_of o method u (conditional (opposite c) other) byte s ≡ with_exchanged (effect_of o method u (conditional c target) byte s)

-- ---- locals

-- a value that, if it comes from a local, comes from one of the first n
abbrev pub IsWithin : ℕ → Source → Type 0
IsWithin n (OfLocal k) = k < n
IsWithin n (LocalPlus k by) = k < n
IsWithin n source = Unit {0}

-- what an action puts comes from no local
abbrev pub ActsWithout : Action → Type 0
ActsWithout (Put object place kind v) = IsWithin 0 object × IsWithin 0 v
ActsWithout (SetStatic slot kind v) = IsWithin 0 v
ActsWithout action = Unit {0}

-- a target that follows is one of this many; what is thrown, or meets a fault, comes from no local; and methods that start classes do
abbrev pub GoesWithin : Outline → (targets : ℕ) → Next → Type 0
GoesWithin o targets (Jumps n) = n < targets
GoesWithin o targets (JumpsIfSame same) = 0 < targets
GoesWithin o targets (Throws source) = IsWithin 0 source
GoesWithin o targets (Faults source) = IsWithin 0 source
GoesWithin o targets (Enters methods) = AllByRecursion (λ m. is_start o m ≡ true) methods
GoesWithin o targets next = Unit {0}

-- An effect reads and writes the first locals at most, its actions read none, and it goes to one of the first targets.
pub record UsesNamed (o : Outline) (locals targets : ℕ) (e : Effect) : Type 0 where
  pub acts : AllByRecursion ActsWithout e.actions
  pub gives : AllByRecursion (IsWithin locals) e.gives
  pub writes : AllByRecursion (λ (w : ℕ × Source). (w.0 < locals) × IsWithin locals w.1) e.writes
  pub next : GoesWithin o targets e.next

-- an instruction that fits the locals uses these at most, and goes to a target that it names; also where a class has to be started before
abbrev pub OnlyNamedIsUsed : Type 0
OnlyNamedIsUsed = (locals : ℕ) (o : Outline) (started : List Bool) (method : ℕ) (u : Use) (i : Insn) (byte : Option ℕ) (s : List Sight)
    → LocalsFit locals i → UsesNamed o locals (length (targets_of i)) (with_start o started (effect_of o method u i byte s))

-- actions that read no local do the same over any locals
abbrev pub LocalsAreUnseen : Type 0
LocalsAreUnseen = (o : Outline) (choose : Choose) (locals others stack : List Value) (actions : List Action) (x : Areas) (made : List ℕ)
    → AllByRecursion ActsWithout actions → performed o choose locals stack actions x made ≡ performed o choose others stack actions x made
