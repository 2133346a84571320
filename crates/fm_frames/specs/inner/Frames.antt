-- How frames lie among the values of one list: the lowest first, and of each first its locals and then its stack, whose last value is its top. And what
-- changes the topmost frame.
use Rattle.std.specs.Prelude.{ℕ, Bool, false, true, ◌≡◌, ◌+◌, ◌-◌, ◌≤◌, nat_lt, if◌then◌else◌, slice_get, List, [], ◌∷◌, ◌++◌, length, replicate, take, drop, reverse, Option, Some, None}
use Rattle.fm_world.specs.Programs.{Program}
use Rattle.fm_frames.specs.States.{Frame}
use Rattle.fm_frames.specs.Steps.{new_frame}
use Rattle.fm_frames.specs.declared.frames.Cursor.{Cursor}
use Rattle.fm_frames.specs.declared.values.Value.{Value}
use Rattle.fm_frames.specs.declared.values.Value.TheVariants as value

-- ---- where frames lie

-- the frame of a cursor, where the values end with its own
abbrev pub frame_at : List Value → Cursor → Frame
frame_at values c = record {
  method = c.method.0;
  item = c.item;
  locals = drop c.locals (take c.stack values);
  stack = reverse (drop c.stack values);
}

-- those of cursors of which the topmost comes first
abbrev pub frames_at : List Value → List Cursor → List Frame
frames_at values [] = []
frames_at values (c ∷ callers) = frame_at values c ∷ frames_at (take c.locals values) callers

-- each one's values come after those of the frame below it
abbrev pub AreTiled : List Value → List Cursor → Type 0
AreTiled values [] = Unit {0}
AreTiled values (c ∷ callers) = (c.locals ≤ c.stack) × (c.stack ≤ length values) × AreTiled (take c.locals values) callers

-- the cursors, where there is a topmost one
abbrev pub cursors : Bool → Cursor → List Cursor → List Cursor
cursors false c callers = []
cursors true c callers = c ∷ callers

-- the frames, if there are any, whose values are the first ones of a list, as many as are used
abbrev pub frames_in : (has_frames : Bool) (values : List Value) (used : ℕ) → Cursor → (callers : List Cursor) → List Frame
frames_in has_frames values used c callers = frames_at (take used values) (cursors has_frames c callers)

-- the used values end with those of the topmost frame; without frames there is no room behind them; and the callers' values come before
abbrev pub AreLaid : (has_frames : Bool) (values : List Value) (used : ℕ) → Cursor → (callers : List Cursor) → Type 0
AreLaid has_frames values used c callers =
    (c.locals ≤ c.stack) × (c.stack ≤ used) × (used ≤ length values) × (has_frames ≡ false → length values ≤ c.locals) × AreTiled (take c.locals values) callers

-- ---- the topmost frame

-- the frames with the topmost one changed
abbrev pub on_top : (Frame → Frame) → List Frame → List Frame
on_top change [] = []
on_top change (f ∷ callers) = change f ∷ callers

-- the topmost frame
abbrev pub topmost : List Frame → Option Frame
topmost [] = None
topmost (f ∷ callers) = Some f

-- the stack of the topmost frame
abbrev pub stack_in : List Frame → List Value
stack_in [] = []
stack_in (f ∷ callers) = f.stack

-- the locals of the topmost frame
abbrev pub locals_in : List Frame → List Value
locals_in [] = []
locals_in (f ∷ callers) = f.locals

-- the method and the item of a frame, and of a cursor
abbrev pub place_of : Frame → ℕ × ℕ
place_of f = (f.method, f.item)

-- the method and the item of a cursor
abbrev pub place : Cursor → ℕ × ℕ
place c = (c.method.0, c.item)

-- ---- calls

-- the frame of a method on top, whose first locals are words of the stack of the one below; the others have no value
abbrev pub called : (method max_locals words : ℕ) → Frame → Frame
called method max_locals words f =
    let arguments = reverse (take words f.stack) in
    record { method = method; item = 0; locals = arguments ++ replicate (max_locals - length arguments) value.Top; stack = [] }

-- the frames with one of a method on top, whose arguments are taken off the one below
abbrev pub with_called : (method max_locals words : ℕ) → List Frame → List Frame
with_called method max_locals words [] = []
with_called method max_locals words (f ∷ callers) = called method max_locals words f ∷ record f { stack = drop words f.stack } ∷ callers

-- ---- returns

-- the word of a result at a place, where the result has `words`
abbrev pub result_word : (words place : ℕ) → List Value → Option Value
result_word words place stack = if nat_lt place words then slice_get stack place else None

-- a frame with more words on its stack
abbrev pub with_words : List Value → Frame → Frame
with_words more f = record f { stack = more ++ f.stack }

-- the frames without the topmost one, whose result goes to the one below it
abbrev pub with_result : ℕ → List Frame → List Frame
with_result words [] = []
with_result words (f ∷ callers) = on_top (λ caller. record caller { item = caller.item + 1; stack = take words f.stack ++ caller.stack }) callers

-- ---- the starts of classes

-- the frame of the method that starts a class on top, if there is one
abbrev pub with_start : Program → Option ℕ → List Frame → List Frame
with_start p None frames = frames
with_start p (Some start) frames = new_frame p start [] ∷ frames

-- main's frame, whose first local is the array of the arguments
abbrev pub main_frame : (method max_locals : ℕ) → Value → Frame
main_frame method max_locals v = record { method = method; item = 0; locals = v ∷ replicate (max_locals - 1) value.Top; stack = [] }
