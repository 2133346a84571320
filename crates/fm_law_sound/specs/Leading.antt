-- What an effect of the table owes to the checker: where it goes on, the frame is left with what the row of the checker gives; a result has the kind of
-- the method's result; and what is thrown is a reference.
use Rattle.std.specs.Prelude.{◌≡◌, ℕ, ◌<◌, true, false, Bool, List, length, take}
use Rattle.fm_code.specs.AccessFlags.{is_static}
use Rattle.fm_code.specs.Edges.{falls_through}
use Rattle.fm_code.specs.SpellsCode.{targets_of}
use Rattle.fm_code.specs.declared.instructions.Insn.{Insn}
use Rattle.fm_code.specs.declared.instructions.Insn.TheVariants as insn
use Rattle.fm_types.specs.Named.{result_words}
use Rattle.fm_types.specs.States.{TypeState}
use Rattle.fm_world.specs.Members.{field_at, fields_of}
use Rattle.fm_world.specs.Programs.{Outline}
use Rattle.fm_world.specs.declared.uses.Use.{Use}
use Rattle.fm_world.specs.declared.uses.Use.TheVariants as resolved
use Rattle.fm_frames.specs.Acts.{Sources, value_of}
use Rattle.fm_frames.specs.Effects.{Effect, Next, Falls, Jumps, JumpsIfSame, Calls, Returns, Throws, Enters, Exits, Faults}
use Rattle.fm_frames.specs.States.{Areas, Frame}
use Rattle.fm_frames.specs.Steps.{stack_after, written}
use Rattle.fm_law_sound.specs.Sound.{FrameHasKinds, HaveKinds, IsReference, static_slots}

-- where the values of an effect come from that a frame has, with the areas and the cells that its actions led to
abbrev pub sources_of : Frame → Areas → List ℕ → Sources
sources_of f areas made = record { locals = f.locals; stack = f.stack; areas = areas; made = made }

-- whatever the actions led to, as long as static fields have their kinds, the frame that goes on has the kinds of the state
abbrev pub LeavesAs : Outline → TypeState → Frame → Effect → Type 0
LeavesAs o after f e =
    (areas : Areas) (made : List ℕ) → HaveKinds (static_slots o) areas.statics
    → FrameHasKinds after (written (sources_of f areas made) e.writes f.locals) (stack_after (sources_of f areas made) e f.stack)

-- What comes next is what the instruction can lead to: the next item or one of its targets, with the kinds of the state after it; a return with the
-- words of the result; or an exception, a reference. No method is called, and no class is started.
abbrev pub LeadsAs : Outline → Insn → TypeState → Frame → Effect → Next → Type 0
LeadsAs o i after f e Falls = (falls_through i ≡ true) × LeavesAs o after f e
LeadsAs o i after f e (Jumps n) = (n < length (targets_of i)) × LeavesAs o after f e
LeadsAs o i after f e (JumpsIfSame same) = (0 < length (targets_of i)) × (falls_through i ≡ true) × LeavesAs o after f e
LeadsAs o i after f e (Calls m) = ⊥
LeadsAs o i after f e (Returns n) = HaveKinds (result_words o f.method) (take n f.stack)
LeadsAs o i after f e (Throws s) = (areas : Areas) (made : List ℕ) → IsReference (value_of (sources_of f areas made) s)
LeadsAs o i after f e (Enters methods) = ⊥
LeadsAs o i after f e (Exits n) = Unit {0}
LeadsAs o i after f e (Faults s) = Unit {0}

-- ---- what linking makes sure of

-- the field that an instruction names is there, and static where the instruction wants one (JVMS 6.5.getstatic)
abbrev pub NamesField : Outline → Use → Insn → Type 0
NamesField o (resolved.OfField f t) (insn.GetStatic index) = (f.0 < length (fields_of o.classes)) × (is_static (field_at o.classes f.0).field.flags ≡ true)
NamesField o (resolved.OfField f t) (insn.PutStatic index) = (f.0 < length (fields_of o.classes)) × (is_static (field_at o.classes f.0).field.flags ≡ true)
NamesField o (resolved.OfField f t) (insn.GetField index) = is_static (field_at o.classes f.0).field.flags ≡ false
NamesField o (resolved.OfField f t) (insn.PutField index) = is_static (field_at o.classes f.0).field.flags ≡ false
NamesField o u i = Unit {0}

-- whether the instruction calls a method
abbrev pub is_call : Insn → Bool
is_call (insn.Virtual index) = true
is_call (insn.Interface index) = true
is_call (insn.Special index) = true
is_call (insn.Static index) = true
is_call i = false
