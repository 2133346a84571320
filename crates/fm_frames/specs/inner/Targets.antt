-- Where jumps lead, as the code computes it.
use Rattle.std.specs.Prelude.{◌≡◌, ℕ, not, Bool, List, [], ◌∷◌, Some, if◌then◌else◌}
use Rattle.fm_code.specs.declared.instructions.Insn.{Insn}
use Rattle.fm_world.specs.Programs.{Program}
use Rattle.fm_frames.specs.Acts.{same_cell}
use Rattle.fm_frames.specs.States.{Frame, State, word_at}
use Rattle.fm_frames.specs.Steps.{next_insn, stack_of, target_at}

-- the item is this target of the instruction of the topmost frame
abbrev pub IsTargetIn : Program → List Frame → ℕ → ℕ → Type 0
IsTargetIn p [] target item = Unit {0}
IsTargetIn p (f ∷ callers) target item = item ≡ target_at p f target

-- the item is this target of the state's next instruction
abbrev pub IsTarget : Program → State → ℕ → ℕ → Type 0
IsTarget p x target item = IsTargetIn p x.frames target item

-- the topmost frame is at this instruction
abbrev pub IsAtIn : Program → List Frame → Insn → Type 0
IsAtIn p [] insn = ⊥
IsAtIn p (f ∷ callers) insn = next_insn p f ≡ Some insn

-- the state's next instruction is this one
abbrev pub IsAt : Program → State → Insn → Type 0
IsAt p x insn = IsAtIn p x.frames insn

-- whether the two words on top are the same reference, or with false aren't
abbrev pub goes_same : Bool → State → Bool
goes_same same x =
    let is_same = same_cell (word_at (stack_of x) 0) (word_at (stack_of x) 1) in if same then is_same else not is_same
