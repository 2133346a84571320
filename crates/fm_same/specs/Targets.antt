-- That calls lead to targets: the one thing that the law of dead regions requires of a call, beside
-- what the checker knows.
use Rattle.std.specs.Prelude.{◌≡◌, ℕ, false, List, [], ◌∷◌, Some, Contains}
use Rattle.fm_code.specs.Edges.{insn_of}
use Rattle.fm_code.specs.declared.code_array.Code.{Code}
use Rattle.fm_code.specs.declared.instructions.Insn.{Insn}
use Rattle.fm_conn.specs.Facts.{Facts}
use Rattle.fm_conn.specs.Pairs.{call_of}
use Rattle.fm_types.specs.Typed.{use_by}
use Rattle.fm_world.specs.Programs.{code_at, Program, targets}
use Rattle.fm_world.specs.declared.calls.Call.{Call}
use Rattle.fm_frames.specs.Sights.{sights}
use Rattle.fm_frames.specs.States.{Frame, State}
use Rattle.fm_frames.specs.Steps.{is_start}
use Rattle.fm_same.specs.Covering.{Enters}
use Rattle.fm_same.specs.Standing.{method_of}

-- ---- at a call step

-- the method is among the targets of the call that the frame's instruction makes
abbrev pub IsTarget : Program → Facts → Frame → (target : ℕ) → Type 0
IsTarget p facts f target =
    (code : Code) (i : Insn) (call : Call) → code_at p f.method ≡ Some code → insn_of code f.item ≡ Some i
    → call_of (method_of p facts f code) i ≡ Some call → Contains (targets p call) target

-- of these frames: each method that the topmost one's instruction leads to is
abbrev pub CoversIn : Program → Facts → State → List Frame → Type 0
CoversIn p facts x [] = Unit {0}
CoversIn p facts x (f ∷ callers) =
    (code : Code) (i : Insn) (target : ℕ) → code_at p f.method ≡ Some code → insn_of code f.item ≡ Some i
    → Enters p.outline f.method (use_by p f.method i) (sights p.outline x.areas.store f.stack) i target → IsTarget p facts f target

-- at each call step the method called is among the targets
abbrev pub Covers : Program → Facts → State → Type 0
Covers p facts x = CoversIn p facts x x.frames

-- ---- while a called method runs

-- a frame that doesn't start a class has a target of the call of the one below it
abbrev pub IsCovered : Program → Facts → (above f : Frame) → Type 0
IsCovered p facts above f = is_start p.outline above.method ≡ false → IsTarget p facts f above.method

-- each of the frames below one covers the one above it
abbrev pub AreCoveredBelow : Program → Facts → Frame → List Frame → Type 0
AreCoveredBelow p facts above [] = Unit {0}
AreCoveredBelow p facts above (f ∷ callers) = IsCovered p facts above f × AreCoveredBelow p facts f callers

-- all frames, the topmost first
abbrev pub AreCovered : Program → Facts → List Frame → Type 0
AreCovered p facts [] = Unit {0}
AreCovered p facts (f ∷ callers) = AreCoveredBelow p facts f callers
