-- What the start of classes requires of the constants of static fields: linking makes sure of it,
-- and each text has a place for its literal.
use Rattle.std.specs.Prelude.{ℕ, length}
use Rattle.fm_exec_calls.specs.inner.Actions.{AllSuit}
use Rattle.fm_frames.specs.States.{State}
use Rattle.fm_frames.specs.inner.StartActions.{constant_at}
use Rattle.fm_world.specs.Programs.{Program}

-- the text of a constant is there and has a place for its literal, and a field that gets one is of references; a number fits the kind of its field (JVMS 4.7.2)
abbrev pub ConstantsSuit : Program → State → Type 0
ConstantsSuit p x = (field : ℕ) → AllSuit p (length x.areas.literals) (constant_at p.outline field)
