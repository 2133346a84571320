-- What is known where a frame goes on in the frame itself, to the next item or to one of its targets.
use Rattle.std.specs.Prelude.{◌≡◌, ℕ, ◌<◌, length, Bool, true, false, [], None, Some}
use Rattle.std.specs.List.{AllByRecursion}
use Rattle.fm_code.specs.AccessFlags.{is_static}
use Rattle.fm_code.specs.Edges.{insn_of}
use Rattle.fm_code.specs.SpellsCode.{targets_of}
use Rattle.fm_code.specs.declared.code_array.Code.{Code}
use Rattle.fm_code.specs.declared.instructions.Insn.{Insn}
use Rattle.fm_code.specs.declared.instructions.Insn.TheVariants as insn
use Rattle.fm_types.specs.CallRows.{is_constructor}
use Rattle.fm_types.specs.Named.{result_of}
use Rattle.fm_types.specs.Rows.{row_after}
use Rattle.fm_types.specs.States.{TypeState}
use Rattle.fm_types.specs.Typed.{entry_slots, made_at, state_at, use_by}
use Rattle.fm_world.specs.Members.{method_at}
use Rattle.fm_world.specs.Programs.{code_at, Outline, Program}
use Rattle.fm_frames.specs.Effects.{Effect, Next, Falls, Jumps, JumpsIfSame, Calls}
use Rattle.fm_frames.specs.States.{Frame}
use Rattle.fm_frames.specs.Steps.{is_start}
use Rattle.fm_law_sound.specs.Leading.{LeadsAs}
use Rattle.fm_law_sound.specs.Sound.{method_named, Typings, words_of_call}

-- whether the frame goes on
abbrev pub IsGoingOn : Next → Type 0
IsGoingOn Falls = Unit {0}
IsGoingOn (Jumps n) = Unit {0}
IsGoingOn (JumpsIfSame same) = Unit {0}
IsGoingOn next = ⊥

-- A frame is at an item of a method that has code, with the state before it and the one that the
-- row gives; and the targets that the instruction names are items, as they are in each code array
-- that is read (JVMS 4.9.1).
pub record StandsAtRow (p : Program) (typings : Typings) (f : Frame) (i : Insn) (after : TypeState) : Type 0 where
  pub code : Code
  pub code_is : code_at p f.method ≡ Some code
  pub insn_is : insn_of code f.item ≡ Some i
  pub known : TypeState
  pub at : state_at (typings f.method) f.item ≡ Some known
  pub row : row_after p.outline f.method f.item (made_at p f.method code) (use_by p f.method i) i known ≡ Some after
  pub targets : AllByRecursion (λ target. target < length code.items) (targets_of i)

-- each constructor has no result, as in each class file that is read (JVMS 2.9)
abbrev pub ConstructorsGiveNothing : Outline → Type 0
ConstructorsGiveNothing o = (method : ℕ) → is_constructor o method ≡ true → result_of o method ≡ None

-- whether a call has no receiver
abbrev pub is_static_call : Insn → Bool
is_static_call (insn.Static index) = true
is_static_call i = false

-- The method that a call leads to has code, and the name and the descriptor of the one that is
-- named; it is static where the call has no receiver, and never one that starts a class. `words`
-- words are taken. Linking makes sure of it (JVMS 5.4.5, 6.5.invokevirtual).
pub record IsCalled (p : Program) (f : Frame) (i : Insn) (target words : ℕ) : Type 0 where
  pub named : ℕ
  pub names : method_named p f i ≡ Some named
  pub takes : words_of_call p.outline i named ≡ Some words
  pub code : Code
  pub code_is : code_at p target ≡ Some code
  pub same_name : (method_at p.outline.classes target).method.name ≡ (method_at p.outline.classes named).method.name
  pub same_descriptor : (method_at p.outline.classes target).method.descriptor ≡ (method_at p.outline.classes named).method.descriptor
  pub no_receiver : is_static (method_at p.outline.classes target).method.flags ≡ is_static_call i
  pub is_no_start : is_start p.outline target ≡ false

-- The method that starts a class has code and no arguments (JVMS 2.9).
pub record StartsClass (p : Program) (method : ℕ) : Type 0 where
  pub code : Code
  pub code_is : code_at p method ≡ Some code
  pub starts : is_start p.outline method ≡ true
  pub no_arguments : entry_slots p.outline method ≡ []

-- A call leads to a method as linking makes sure of, of which it takes the words; or it goes on after a built-in method, throws, or ends in a fault, as any
-- other instruction.
abbrev pub CallLeads : Program → Frame → Insn → TypeState → Effect → Next → Type 0
CallLeads p f i after e (Calls target) = IsCalled p f i target e.takes
CallLeads p f i after e next = LeadsAs p.outline i after f e next
