-- What the law of dead regions uses of the soundness of the machine: each frame is at an item that
-- can be reached, its stack is as deep as the item's state, words are references where their slots
-- are, and a frame that waits is at the call of the frame above it, or that one starts a class.
use Rattle.std.specs.Prelude.{◌≡◌, ℕ, ◌≤◌, ◌⊎◌, ◌↔◌, true, false, List, [], ◌∷◌, length, Some, Contains, slice_get}
use Rattle.fm_code.specs.Edges.{insn_of}
use Rattle.fm_code.specs.declared.code_array.Code.{Code}
use Rattle.fm_code.specs.declared.instructions.Insn.{Insn}
use Rattle.fm_conn.specs.Facts.{Facts}
use Rattle.fm_conn.specs.Links.{typed_method}
use Rattle.fm_conn.specs.Nodes.{IsNode, depth_at, TypedMethod}
use Rattle.fm_conn.specs.Pairs.{call_of, depth_below, IsEnd}
use Rattle.fm_conn.specs.declared.ends.End2.TheVariants as end
use Rattle.fm_types.specs.Typed.{state_at}
use Rattle.fm_types.specs.States.{TypeState}
use Rattle.fm_world.specs.Programs.{code_at, Program, targets}
use Rattle.fm_world.specs.declared.calls.Call.{Call}
use Rattle.fm_frames.specs.States.{Frame}
use Rattle.fm_frames.specs.Steps.{is_start}
use Rattle.fm_frames.specs.declared.values.Value.{Value}
use Rattle.fm_law_sound.specs.Sound.{IsReference}
use Rattle.fm_same.specs.Colours.{node_of_word}
use Rattle.fm_same.specs.Regions.{argument}

-- a frame's method with its code and the states of its items
abbrev pub method_of : Program → Facts → Frame → Code → TypedMethod
method_of p facts f code = typed_method p facts.typing f.method code

-- the frame is at an item that has a state, it has no more locals than its method, and its words are references where their slots are
pub record StandsAt (p : Program) (facts : Facts) (f : Frame) : Type 0 where
  pub code : Code
  pub code_is : code_at p f.method ≡ Some code
  pub insn : Insn
  pub insn_is : insn_of code f.item ≡ Some insn
  pub state : TypeState
  pub state_is : state_at (facts.typing f.method) f.item ≡ Some state
  pub width : length f.locals ≤ code.max_locals
  pub is_node : (n : ℕ) (v : Value) → slice_get f.stack n ≡ Some v → IsReference v → IsNode (method_of p facts f code) (node_of_word f n)
  pub is_reference : (n : ℕ) (v : Value) → slice_get f.stack n ≡ Some v → IsNode (method_of p facts f code) (node_of_word f n) → IsReference v

-- a frame that goes on at its item, with the whole stack of the item's state
pub record Goes (p : Program) (facts : Facts) (f : Frame) : Type 0 where
  pub at : StandsAt p facts f
  pub depth : length f.stack ≡ depth_at (method_of p facts f at.code) f.item

-- a frame that called the one above it: the method called is among the targets, and its parameters are references where the words that they
-- got are
pub record Called (p : Program) (facts : Facts) (callee f : Frame) : Type 0 where
  pub at : StandsAt p facts f
  pub call : Call
  pub call_is : call_of (method_of p facts f at.code) at.insn ≡ Some call
  pub among : Contains (targets p call) callee.method
  pub depth : length f.stack ≡ depth_below (method_of p facts f at.code) f.item at.insn
  pub arguments : (k : ℕ) → IsEnd p.outline callee.method (end.Parameter k) ↔ IsNode (method_of p facts f at.code) (argument f k)

-- a frame that waits for the start of a class goes on at its item
pub record Waits (p : Program) (facts : Facts) (f : Frame) : Type 0 where
  pub goes : Goes p facts f

-- the frames below this one: each called the one above it, or waits for it as the start of a class
abbrev pub StandBelow : Program → Facts → Frame → List Frame → Type 0
StandBelow p facts above [] = Unit {0}
StandBelow p facts above (f ∷ callers) =
    (((is_start p.outline above.method ≡ false) × Called p facts above f) ⊎ ((is_start p.outline above.method ≡ true) × Waits p facts f))
    × StandBelow p facts f callers

-- all frames, the topmost first
abbrev pub Stand : Program → Facts → List Frame → Type 0
Stand p facts [] = Unit {0}
Stand p facts (f ∷ callers) = Goes p facts f × StandBelow p facts f callers
