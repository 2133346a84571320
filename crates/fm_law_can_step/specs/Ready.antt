-- What a step requires of its program and of the state before it, so that the code of its
-- instruction can do it.
use Rattle.std.specs.Prelude.{◌≡◌, ℕ, ◌+◌, ◌^◌, ◌<◌, ◌≤◌, Bool, true, false, List, ◌∷◌, length, None, Some}
use Rattle.fm_base.specs.declared.kinds.Kind.TheVariants as kind
use Rattle.fm_base.specs.declared.kinds.TypeRef.{TypeRef}
use Rattle.fm_code.specs.declared.instructions.Insn.{Insn}
use Rattle.fm_code.specs.declared.instructions.Insn.TheVariants as insn
use Rattle.fm_exec_calls.specs.inner.Actions.{unmade}
use Rattle.fm_frames.specs.ObjectRows.{kind_of_field}
use Rattle.fm_frames.specs.Starts.{start_actions}
use Rattle.fm_frames.specs.States.{Frame, State}
use Rattle.fm_frames.specs.Steps.{cost, next_insn}
use Rattle.fm_frames.specs.inner.Opening.{opening_classes}
use Rattle.fm_law_sound.specs.HeldCells.{HoldsCells}
use Rattle.fm_law_sound.specs.Making.{MakesAreResolved}
use Rattle.fm_law_sound.specs.Resolved.{MainIsReady, StepsAreResolved}
use Rattle.fm_law_sound.specs.Sound.{IsSound}
use Rattle.fm_types.specs.Typed.{use_by}
use Rattle.fm_world.specs.Members.{field_at}
use Rattle.fm_world.specs.Programs.{Outline, Program}
use Rattle.fm_world.specs.declared.declarations.Constant.TheVariants as constant
use Rattle.fm_world.specs.declared.uses.Use.{Use}
use Rattle.fm_world.specs.declared.uses.Use.TheVariants as resolved

-- ---- programs

-- a text is the constant of a field of references (JVMS 4.7.2)
abbrev pub TextsAreReferences : Outline → Type 0
TextsAreReferences o =
    (field : ℕ) (text : List ℕ) → (field_at o.classes field).field.value ≡ Some (constant.Text text)
    → (t : TypeRef) × (kind_of_field o field ≡ kind.Ref t)

-- what linking makes sure of, for each run of a program
pub record CanRun (p : Program) : Type 0 where
  pub steps : StepsAreResolved p
  pub makes : MakesAreResolved p
  pub main : MainIsReady p
  -- the class that was named is there
  pub main_class : p.outline.main_class < length p.outline.classes
  pub constants : TextsAreReferences p.outline
  -- the texts and what the start of main's class does are few enough for births to have numbers, as the types are
  pub few_texts : length p.outline.texts ≤ 2 ^ 28
  pub few_starts : length (start_actions p.outline (opening_classes p.outline)) ≤ 2 ^ 30

-- ---- states

-- The run goes on from a sound state whose cells are numbers of 32 bits, and what its next step costs can be counted: the objects that it makes, with all
-- literals that aren't made yet, and its steps.
pub record IsGoing (p : Program) (x : State) : Type 0 where
  pub sound : IsSound p x
  pub cells : HoldsCells p x
  pub goes : x.ended ≡ None
  pub births : x.areas.store.births + unmade x.areas.literals + cost p x < 2 ^ 32
  pub steps : x.steps + cost p x < 2 ^ 64

-- the topmost frame is at this instruction, and what the instruction names is resolved to this
pub record IsNext (p : Program) (x : State) (i : Insn) (u : Use) : Type 0 where
  pub frame : Frame
  pub callers : List Frame
  pub frames_is : x.frames ≡ frame ∷ callers
  pub insn_is : next_insn p frame ≡ Some i
  pub use_is : use_by p frame.method i ≡ u

-- ---- what instructions name

-- an int, a long, a text or the literal of a class
abbrev pub is_constant : Use → Bool
is_constant (resolved.OfInt n) = true
is_constant (resolved.OfLong n) = true
is_constant (resolved.OfText text) = true
is_constant (resolved.OfType t) = true
is_constant (resolved.OfField f t) = false
is_constant (resolved.OfMethod m t) = false
is_constant resolved.Unused = false

-- a class or an array
abbrev pub is_type : Use → Bool
is_type (resolved.OfInt n) = false
is_type (resolved.OfLong n) = false
is_type (resolved.OfText text) = false
is_type (resolved.OfType t) = true
is_type (resolved.OfField f t) = false
is_type (resolved.OfMethod m t) = false
is_type resolved.Unused = false

-- a field
abbrev pub is_field : Use → Bool
is_field (resolved.OfInt n) = false
is_field (resolved.OfLong n) = false
is_field (resolved.OfText text) = false
is_field (resolved.OfType t) = false
is_field (resolved.OfField f t) = true
is_field (resolved.OfMethod m t) = false
is_field resolved.Unused = false

-- a method
abbrev pub is_method : Use → Bool
is_method (resolved.OfInt n) = false
is_method (resolved.OfLong n) = false
is_method (resolved.OfText text) = false
is_method (resolved.OfType t) = false
is_method (resolved.OfField f t) = false
is_method (resolved.OfMethod m t) = true
is_method resolved.Unused = false

-- the instruction is a supported one, and what it names is of the sort that it wants (JVMS 6.5)
abbrev pub is_wanted : Insn → Use → Bool
is_wanted (insn.LoadPool index) u = is_constant u
is_wanted (insn.New index) u = is_type u
is_wanted (insn.NewRefs index) u = is_type u
is_wanted (insn.Cast index) u = is_type u
is_wanted (insn.IsA index) u = is_type u
is_wanted (insn.MultiArray index dimensions) u = is_type u
is_wanted (insn.GetStatic index) u = is_field u
is_wanted (insn.PutStatic index) u = is_field u
is_wanted (insn.GetField index) u = is_field u
is_wanted (insn.PutField index) u = is_field u
is_wanted (insn.Virtual index) u = is_method u
is_wanted (insn.Special index) u = is_method u
is_wanted (insn.Static index) u = is_method u
is_wanted (insn.Interface index) u = is_method u
is_wanted (insn.LeftOut opcode) u = false
is_wanted i u = true
