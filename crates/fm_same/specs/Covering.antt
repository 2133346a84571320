-- What is required of calls: the method that a call leads to is among its targets, and a built-in
-- method has the words and the ends that its row works on.
use Rattle.std.specs.Prelude.{◌≡◌, ℕ, ◌+◌, ◌-◌, ◌≤◌, Bool, true, Some, List, [], ◌∷◌, length, Contains, slice_get}
use Rattle.fm_base.specs.declared.ids.MethodId.{MethodId}
use Rattle.fm_base.specs.declared.ids.TypeId.{TypeId}
use Rattle.fm_base.specs.declared.kinds.TypeRef.{TypeRef}
use Rattle.fm_code.specs.declared.code_array.Code.{Code}
use Rattle.fm_code.specs.declared.instructions.Insn.{Insn}
use Rattle.fm_code.specs.declared.instructions.Insn.TheVariants as insn
use Rattle.fm_conn.specs.Facts.{Facts}
use Rattle.fm_conn.specs.Nodes.{IsNode, Slot}
use Rattle.fm_conn.specs.Pairs.{call_of, IsEnd, use_at}
use Rattle.fm_conn.specs.Rows as pairs
use Rattle.fm_conn.specs.declared.ends.End2.TheVariants as end
use Rattle.fm_types.specs.Named.{class_of_method}
use Rattle.fm_types.specs.Typed.{use_by}
use Rattle.fm_types.specs.Fits.{fits_type}
use Rattle.fm_world.specs.Chains.{is_sub}
use Rattle.fm_world.specs.Lookups.{select, special_target}
use Rattle.fm_world.specs.Members.{method_at}
use Rattle.fm_world.specs.Programs.{class_of_type, Outline, Program, targets}
use Rattle.fm_world.specs.declared.calls.Call.{Call}
use Rattle.fm_world.specs.declared.uses.Use.{Use}
use Rattle.fm_world.specs.declared.uses.Use.TheVariants as resolved
use Rattle.fm_frames.specs.CallRows.{native_of, receiver_class, words_of_arguments}
pub use Rattle.fm_frames.specs.NativeRows.{arguments_words, given_words, native_words}
pub use Rattle.fm_frames.specs.Natives.{is_free_me}
use Rattle.fm_frames.specs.Natives.{native_of_row}
use Rattle.fm_frames.specs.declared.natives.Native.{Native}
use Rattle.fm_frames.specs.declared.natives.Native.TheVariants.{Append, FreeMeFree, FreeMeFreeChain, FreeMeLink, GetMessage, ObjectClone, ObjectGetClass, StringToString, ThrowableInitOf}
use Rattle.fm_frames.specs.Sights.{Looks, Sight, sights, Thing}
use Rattle.fm_frames.specs.States.{Frame, State}
use Rattle.fm_frames.specs.Steps.{effect_at}
use Rattle.fm_law_sound.specs.Placing.{PlacesAgree}
use Rattle.fm_same.specs.Standing.{method_of, StandsAt}

-- ---- the method that a call leads to

-- by the object that is seen at the receiver's place, which passes a test of its type and the named one
pub record EntersSelected (o : Outline) (takes : TypeRef → TypeRef → Bool) (u : Use) (s : List Sight) (target : ℕ) : Type 0 where
  pub method : MethodId
  pub type : TypeId
  pub named : u ≡ resolved.OfMethod method type
  pub of : TypeRef
  pub of_is : slice_get o.types type.0 ≡ Some of
  pub receiver : Looks
  pub seen : slice_get s (words_of_arguments o method.0) ≡ Some (Thing receiver)
  pub passes : takes receiver.type of ≡ true
  pub selected : select o.classes (receiver_class o receiver) method.0 ≡ Some target

-- by the class of the caller and the named type
pub record EntersSpecial (o : Outline) (caller : ℕ) (u : Use) (target : ℕ) : Type 0 where
  pub method : MethodId
  pub type : TypeId
  pub named : u ≡ resolved.OfMethod method type
  pub of : TypeRef
  pub of_is : slice_get o.types type.0 ≡ Some of
  pub is : special_target o.classes (class_of_method o caller) (class_of_type of) method.0 ≡ target

-- the one that is named
pub record EntersNamed (u : Use) (target : ℕ) : Type 0 where
  pub method : MethodId
  pub type : TypeId
  pub named : u ≡ resolved.OfMethod method type
  pub is : method.0 ≡ target

-- the instruction is a call, and leads to the method
abbrev pub Enters : Outline → (caller : ℕ) → Use → List Sight → Insn → (target : ℕ) → Type 0
Enters o caller u s (insn.Virtual index) target = EntersSelected o (fits_type o.classes) u s target
Enters o caller u s (insn.Interface index) target = EntersSelected o (is_sub o.classes) u s target
Enters o caller u s (insn.Special index) target = EntersSpecial o caller u target
Enters o caller u s (insn.Static index) target = EntersNamed u target
Enters o caller u s other target = ⊥

-- ---- built-in methods

-- the ends that a row works on are references; and nothing is freed or chained
abbrev pub NativeEnds : Outline → (method : ℕ) → Native → Type 0
NativeEnds o method StringToString = IsEnd o method end.Return × IsEnd o method (end.Parameter 0)
NativeEnds o method (Append shown) = IsEnd o method end.Return × IsEnd o method (end.Parameter 0)
NativeEnds o method GetMessage = IsEnd o method end.Return × IsEnd o method (end.Parameter 0)
NativeEnds o method ObjectGetClass = IsEnd o method end.Return × IsEnd o method (end.Parameter 0)
NativeEnds o method ObjectClone = IsEnd o method end.Return × IsEnd o method (end.Parameter 0)
NativeEnds o method ThrowableInitOf = IsEnd o method (end.Parameter 0) × IsEnd o method (end.Parameter 1)
NativeEnds o method FreeMeFree = ⊥
NativeEnds o method FreeMeLink = ⊥
NativeEnds o method FreeMeFreeChain = ⊥
NativeEnds o method row = Unit {0}

-- a call of a built-in method: it is among the targets, the words that are taken are its row's, and its parameters that are references got words that are
pub record CallsNative (p : Program) (facts : Facts) (f : Frame) (code : Code) (i : Insn) (target : ℕ) (row : Native) : Type 0 where
  pub call : Call
  pub call_is : call_of (method_of p facts f code) i ≡ Some call
  pub among : Contains (targets p call) target
  pub words : pairs.words_taken p.outline (use_at (method_of p facts f code) i) i ≡ native_words row
  pub deep : native_words row ≤ length f.stack
  pub number : ℕ
  pub number_is : (method_at p.outline.classes target).method.row ≡ Some number
  pub row_is : native_of_row number ≡ Some row
  pub ends : NativeEnds p.outline target row
  pub arguments : (k : ℕ) → IsEnd p.outline target (end.Parameter k)
      → IsNode (method_of p facts f code) (Slot f.item (length f.stack - native_words row + k))

-- ---- what is required at a state

-- a method that a call leads to is among the targets, and a built-in one is as its row wants it
pub record MeetsTarget (p : Program) (facts : Facts) (f : Frame) (code : Code) (i : Insn) (target : ℕ) : Type 0 where
  pub among : (call : Call) → call_of (method_of p facts f code) i ≡ Some call → Contains (targets p call) target
  pub natives : (row : Native) → native_of p.outline target ≡ Some row → CallsNative p facts f code i target row

-- each method that the instruction, a call, leads to
abbrev pub CoversTargets : Program → Facts → Frame → Code → Insn → List Sight → Type 0
CoversTargets p facts f code i s =
    (target : ℕ) → Enters p.outline f.method (use_by p f.method i) s i target → MeetsTarget p facts f code i target

-- what is required of the instruction of the topmost frame: of its calls, and of the places that it
-- reads and writes
pub record MeetsCalls (p : Program) (facts : Facts) (x : State) (f : Frame) (code : Code) (i : Insn) : Type 0 where
  pub calls : CoversTargets p facts f code i (sights p.outline x.areas.store f.stack)
  pub places : PlacesAgree p.outline x.areas.store f.stack (effect_at p x)

-- what the topmost frame's instruction reads and puts agrees with the kinds of places
abbrev pub PlacesAgreeAt : Program → State → List Frame → Type 0
PlacesAgreeAt p x [] = Unit {0}
PlacesAgreeAt p x (f ∷ callers) = PlacesAgree p.outline x.areas.store f.stack (effect_at p x)

-- of the topmost frame
abbrev pub CoversAt : Program → Facts → State → List Frame → Type 0
CoversAt p facts x [] = Unit {0}
CoversAt p facts x (f ∷ callers) = (at : StandsAt p facts f) → MeetsCalls p facts x f at.code at.insn
