-- The steps that call FreeMe.link and FreeMe.freeChain.
use Rattle.std.proofs.Common.{◌≡◌, inl, inr, ℕ, suc, Bool, true, false, List, [], ◌∷◌, Option, Some, None, refl, ap, ◌∙◌}
use Rattle.std.specs.Prelude.{if◌then◌else◌, slice_get}
use Rattle.fm_base.specs.declared.kinds.TypeRef.{TypeRef}
use Rattle.fm_cells.specs.Objects.{Object}
use Rattle.fm_cells.specs.Stores.{object_at}
use Rattle.fm_code.specs.declared.instructions.Insn.TheVariants as insn
use Rattle.fm_frames.proofs.StepCounts.{step_going}
use Rattle.fm_frames.specs.Acts.{all_freed, cell_of, chain_freed, chain_from, chained, Choose, Did, performed}
use Rattle.fm_frames.specs.CallRows.{entered_as, native_of, static_effect, words_of_arguments}
use Rattle.fm_frames.specs.Effects.{acting, Effect, faulty, OfOperand, SetChain, words}
use Rattle.fm_frames.specs.NativeRows.{free_native, linked, native_effect}
use Rattle.fm_frames.specs.ObjectRows.{starting}
use Rattle.fm_frames.specs.Operands.{on_held_of}
use Rattle.fm_frames.specs.Rows.{effect_of}
use Rattle.fm_frames.specs.Sights.{Gone, looks, Looks, Null, Sight, sight, sight_of_cell, sight_of_object, sights, Thing}
use Rattle.fm_frames.specs.Starts.{started_by, with_start}
use Rattle.fm_frames.specs.States.{Areas, Frame, Moved, State}
use Rattle.fm_frames.specs.Steps.{attempted, continued, done_by, effect_by, next_effect, step}
use Rattle.fm_frames.specs.Uses.{by_type, on_method}
use Rattle.fm_frames.specs.declared.natives.Native.{Native}
use Rattle.fm_frames.specs.declared.natives.Native.TheVariants.{FreeMeFreeChain, FreeMeLink}
use Rattle.fm_frames.specs.declared.values.Value.{Value}
use Rattle.fm_frames.specs.declared.values.Value.TheVariants as value
use Rattle.fm_law_chained.specs.Called.{called, CallsNative, ChainsFault, ChainsFree, faulted_at, IsCalled, LinksFault, LinksJoin, LinksPassOver, with_frame, with_stack}
use Rattle.fm_law_sound.specs.Sound.{IsReference}
use Rattle.fm_native.proofs.FreeRows.{chain-is, freeing_chain}
use Rattle.fm_types.specs.Named.{class_of_method}
use Rattle.fm_types.specs.Typed.{use_in}
use Rattle.fm_world.specs.Programs.{Outline, Program}
use Rattle.fm_world.specs.declared.uses.Use.{Use}

-- ---- what is seen

-- of null
sees_null : (o : Outline) (areas : Areas) (v : Value) → IsReference v → cell_of v ≡ 0 → sight o areas.store v ≡ Null
sees_null o areas value.Top reference none = absurd reference
sees_null o areas (value.Int n) reference none = absurd reference
sees_null o areas (value.Long n) reference none = absurd reference
sees_null o areas (value.Ref cell) reference none = ap (sight_of_cell o areas.store) none

-- of a cell by the object in it
sees_cell : (o : Outline) (areas : Areas) (v : Value) (cell : ℕ) (found : Option Object) → IsReference v → cell_of v ≡ suc cell
    → object_at areas.store (suc cell) ≡ found → sight o areas.store v ≡ sight_of_object o areas.store found
sees_cell o areas value.Top cell found reference is there = absurd reference
sees_cell o areas (value.Int n) cell found reference is there = absurd reference
sees_cell o areas (value.Long n) cell found reference is there = absurd reference
sees_cell o areas (value.Ref c) cell found reference is there = ap (sight_of_cell o areas.store) is ∙ ap (sight_of_object o areas.store) there

looks_fixed : (o : Outline) (areas : Areas) (object : Object) → (looks o areas.store object).fixed ≡ object.fixed
unfolding looks
looks_fixed o areas object = refl

-- ---- the effects

-- of link, by what is seen of the first operand
abbrev link_effect : Sight → Effect
link_effect s = on_held_of (words 2 (OfOperand 0 ∷ [])) 1 (Some s) linked

-- where the object joins the chain
abbrev joined : Effect
joined = record (acting 2 (SetChain 1 0 ∷ [])) { gives = OfOperand 1 ∷ [] }

-- what the call of a method does, by what is seen of its operands
abbrev pub entered_by : Outline → Option ℕ → List Sight → ℕ → TypeRef → Effect
entered_by o byte s m named = starting (class_of_method o m) (entered_as o (words_of_arguments o m) m byte s (native_of o m))

call_is : (o : Outline) (row : Native) (method call : ℕ) (u : Use) (calls : CallsNative o row u) (byte : Option ℕ) (s : List Sight)
    → effect_of o method u (insn.Static call) byte s
    ≡ starting (class_of_method o calls.method.0) (native_effect o row byte s)
unfolding effect_of static_effect
call_is o row method call u calls byte s =
    let m = calls.method.0 in
    ap (λ x. on_method o x (entered_by o byte s)) calls.use_is
    ∙ ap (λ t. by_type t (entered_by o byte s m)) calls.type_is
    ∙ ap (λ n. starting (class_of_method o m) (entered_as o (words_of_arguments o m) m byte s n)) calls.row_is

link_row : (o : Outline) (byte : Option ℕ) (chain first : Sight) (rest : List Sight) → native_effect o FreeMeLink byte (chain ∷ first ∷ rest) ≡ link_effect first
unfolding native_effect free_native
link_row o byte chain first rest = refl

-- its class has started
call_started : (o : Outline) (row : Native) (u : Use) (calls : CallsNative o row u) (started : List Bool) (e : Effect)
    → with_start o started (starting (class_of_method o calls.method.0) e) ≡ record e { starts = None }
call_started o row u calls started e = ap (λ classes. started_by o classes (starting (class_of_method o calls.method.0) e)) (calls.started started)

-- ---- steps

module _ (p : Program) (choose : Choose) (x : State) (f : Frame) (callers : List Frame) (call : ℕ) where
  -- by the effect of the method's row over what is seen of a stack
  call_next : (row : Native) (is : IsCalled p row f call) (stack : List Value) (e : Effect)
      → native_effect p.outline row (slice_get x.input 0) (sights p.outline x.areas.store stack) ≡ e
      → next_effect p (with_frame x (with_stack f stack) callers) ≡ record e { starts = None }
  unfolding next_effect
  call_next row is stack e e_is =
      let class = class_of_method p.outline is.calls.method.0 in
      ap (λ o. with_start p.outline x.areas.started (effect_by p (with_frame x (with_stack f stack) callers) (with_stack f stack) o)) is.next
      ∙ ap (with_start p.outline x.areas.started)
      (call_is p.outline row f.method call (use_in p f.method call) is.calls (slice_get x.input 0) (sights p.outline x.areas.store stack)
      ∙ ap (starting class) e_is)
      ∙ call_started p.outline row (use_in p f.method call) is.calls x.areas.started e

  step_by : (stack : List Value) (e : Effect) → next_effect p (with_frame x (with_stack f stack) callers) ≡ e
      → step p choose (with_frame x (with_stack f stack) callers) ≡ attempted p choose (with_frame x (with_stack f stack) callers) e
  step_by stack e is =
      step_going p choose (with_frame x (with_stack f stack) callers) refl ∙ ap (attempted p choose (with_frame x (with_stack f stack) callers)) is

  -- ---- link

  module _ (first chain : Value) (rest : List Value) (is : IsCalled p FreeMeLink f call) where
    abbrev stack : List Value
    stack = chain ∷ first ∷ rest

    link_by : (s : Sight) → sight p.outline x.areas.store first ≡ s → next_effect p (with_frame x (with_stack f stack) callers) ≡ record (link_effect s) { starts = None }
    link_by s s_is =
        call_next FreeMeLink is stack (link_effect s)
        (link_row p.outline (slice_get x.input 0) (sight p.outline x.areas.store chain) (sight p.outline x.areas.store first) (sights p.outline x.areas.store rest)
        ∙ ap link_effect s_is)

    pub null_passed : sight p.outline x.areas.store first ≡ Null
        → step p choose (with_frame x (with_stack f stack) callers) ≡ called x f callers x.areas (chain ∷ rest)
    unfolding performed continued
    null_passed s_is = step_by stack (words 2 (OfOperand 0 ∷ [])) (link_by Null s_is)

    -- by whether the object lives for ever
    abbrev linked_by : Bool → Effect
    linked_by fixed = if fixed then words 2 (OfOperand 0 ∷ []) else joined

    thing_by : (it : Looks) (fixed : Bool) → sight p.outline x.areas.store first ≡ Thing it → it.fixed ≡ fixed
        → next_effect p (with_frame x (with_stack f stack) callers) ≡ record (linked_by fixed) { starts = None }
    thing_by it fixed s_is fixed_is = link_by (Thing it) s_is ∙ ap (λ b. record (linked_by b) { starts = None }) fixed_is

    pub fixed_passed : (it : Looks) → sight p.outline x.areas.store first ≡ Thing it → it.fixed ≡ true
        → step p choose (with_frame x (with_stack f stack) callers) ≡ called x f callers x.areas (chain ∷ rest)
    unfolding performed continued
    fixed_passed it s_is fixed = step_by stack (words 2 (OfOperand 0 ∷ [])) (thing_by it true s_is fixed)

    pub object_joined : (it : Looks) → sight p.outline x.areas.store first ≡ Thing it → it.fixed ≡ false
        → step p choose (with_frame x (with_stack f stack) callers) ≡ called x f callers (chained x.areas (cell_of first) (cell_of chain)) (first ∷ rest)
    unfolding performed continued
    object_joined it s_is loose = step_by stack joined (thing_by it false s_is loose)

    abbrev faulted : Moved
    faulted = attempted p choose (with_frame x (with_stack f stack) callers) (faulty 1)

    fault_is : faulted ≡ faulted_at p (with_frame x (with_stack f stack) callers) f (cell_of first)
    unfolding performed continued
    fault_is = refl

    pub lost_faulted : sight p.outline x.areas.store first ≡ Gone
        → step p choose (with_frame x (with_stack f stack) callers) ≡ faulted_at p (with_frame x (with_stack f stack) callers) f (cell_of first)
    lost_faulted s_is = step_by stack (faulty 1) (link_by Gone s_is) ∙ fault_is

  -- ---- freeChain

  module _ (chain : Value) (rest : List Value) (is : IsCalled p FreeMeFreeChain f call) where
    abbrev chain_stack : List Value
    chain_stack = chain ∷ rest

    chain_by : next_effect p (with_frame x (with_stack f chain_stack) callers) ≡ freeing_chain
    chain_by = call_next FreeMeFreeChain is chain_stack freeing_chain (chain-is p.outline (slice_get x.input 0) (sights p.outline x.areas.store chain_stack))

    -- by what the walk finds
    walked : (found : Option (List ℕ)) → chain_from x.areas.store (cell_of chain) ≡ found
        → attempted p choose (with_frame x (with_stack f chain_stack) callers) freeing_chain
        ≡ done_by p 1 freeing_chain (with_frame x (with_stack f chain_stack) callers) (chain_freed x.areas chain found (λ y. Did y []))
    unfolding performed
    walked found found_is =
        ap (λ o. done_by p 1 freeing_chain (with_frame x (with_stack f chain_stack) callers) (chain_freed x.areas chain o (λ y. Did y []))) found_is

    done_is : (cells : List ℕ) → done_by p 1 freeing_chain (with_frame x (with_stack f chain_stack) callers) (Did (all_freed x.areas cells) [])
        ≡ called x f callers (all_freed x.areas cells) rest
    unfolding continued
    done_is cells = refl

    pub chain_freed_is : (cells : List ℕ) → chain_from x.areas.store (cell_of chain) ≡ Some cells
        → step p choose (with_frame x (with_stack f chain_stack) callers) ≡ called x f callers (all_freed x.areas cells) rest
    chain_freed_is cells found = step_by chain_stack freeing_chain chain_by ∙ walked (Some cells) found ∙ done_is cells

    abbrev unwalked : Moved
    unwalked = done_by p 1 freeing_chain (with_frame x (with_stack f chain_stack) callers) (chain_freed x.areas chain None (λ y. Did y []))

    unwalked_faulted : unwalked ≡ faulted_at p (with_frame x (with_stack f chain_stack) callers) f (cell_of chain)
    unwalked_faulted = refl

    pub chain_faulted : chain_from x.areas.store (cell_of chain) ≡ None
        → step p choose (with_frame x (with_stack f chain_stack) callers) ≡ faulted_at p (with_frame x (with_stack f chain_stack) callers) f (cell_of chain)
    chain_faulted none = step_by chain_stack freeing_chain chain_by ∙ walked None none ∙ unwalked_faulted

-- ---- the laws

pub links_pass_over : LinksPassOver
links_pass_over p choose x f callers call first chain rest is reference (inl null) =
    null_passed p choose x f callers call first chain rest is (sees_null p.outline x.areas first reference null)
links_pass_over p choose x f callers call first chain rest is reference (inr (cell, object, cell_is, there, fixed)) =
    fixed_passed p choose x f callers call first chain rest is (looks p.outline x.areas.store object)
    (sees_cell p.outline x.areas first cell (Some object) reference cell_is there) (looks_fixed p.outline x.areas object ∙ fixed)

pub links_join : LinksJoin
links_join p choose x f callers call cell first chain rest object is reference cell_is there loose =
    object_joined p choose x f callers call first chain rest is (looks p.outline x.areas.store object)
    (sees_cell p.outline x.areas first cell (Some object) reference cell_is there) (looks_fixed p.outline x.areas object ∙ loose)

pub links_fault : LinksFault
links_fault p choose x f callers call cell first chain rest is reference cell_is none =
    lost_faulted p choose x f callers call first chain rest is (sees_cell p.outline x.areas first cell None reference cell_is none)
    ∙ ap (faulted_at p (with_frame x (with_stack f (chain ∷ first ∷ rest)) callers) f) cell_is

pub chains_free : ChainsFree
chains_free p choose x f callers call chain rest cells is found = chain_freed_is p choose x f callers call chain rest is cells found

pub chains_fault : ChainsFault
chains_fault p choose x f callers call chain rest is none = chain_faulted p choose x f callers call chain rest is none
