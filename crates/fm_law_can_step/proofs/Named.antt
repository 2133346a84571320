-- What the next instruction names is there, is of the sort that the instruction wants, and is what linking knows of it.
use Rattle.std.proofs.Common.{◌≡◌, ℕ, ◌^◌, ◌<◌, ◌≤◌, ◌&&◌, nat_lt, nat_le, true, [], ◌∷◌, List, length, replicate, Option, Some, None, option_and_then, option_map, unwrap_or, refl, sym, ◌∙◌, ap, subst, slice_get, arith}
use Rattle.std.proofs.lemmas.Bool.{and_parts, leb-true, ltb-true}
use Rattle.std.proofs.lemmas.List.Elements.{All-from_recursion, All-nil}
use Rattle.std.proofs.lemmas.Option.{slice_get-get_or}
use Rattle.std.specs.List.{All}
use Rattle.fm_base.proofs.OptionFacts.{cond-some_then, option_and_then-some, Some-from_some_and}
use Rattle.fm_base.specs.declared.ids.TypeId.{TypeId}
use Rattle.fm_base.specs.declared.kinds.TypeRef.{TypeRef}
use Rattle.fm_code.specs.Edges.{insn_of, IsNormalEdge}
use Rattle.fm_code.specs.declared.code_array.Code.{Code}
use Rattle.fm_code.specs.declared.instructions.Insn.{Insn}
use Rattle.fm_code.specs.declared.instructions.Insn.TheVariants as insn
use Rattle.fm_frames.proofs.Programs.{literal-inside}
use Rattle.fm_frames.specs.Acts.{name_numbered}
use Rattle.fm_frames.specs.Literals.{literal_count, literal_named}
use Rattle.fm_frames.specs.NativeRows.{type_name}
use Rattle.fm_frames.specs.Runnable.{IsUseIn}
use Rattle.fm_frames.specs.Sights.{type_numbered}
use Rattle.fm_frames.specs.States.{Frame, State}
use Rattle.fm_frames.specs.Steps.{next_insn}
use Rattle.fm_law_can_step.specs.Ready.{CanRun, is_constant, is_field, is_method, is_type, is_wanted, IsGoing, IsNext}
use Rattle.fm_law_sound.proofs.CallCases.{used_at}
use Rattle.fm_law_sound.proofs.FramesStand.{typing_of}
use Rattle.fm_law_sound.proofs.ObjectRows.{row_of_type}
use Rattle.fm_law_sound.specs.Resolved.{IsNamed}
use Rattle.fm_law_sound.specs.Sound.{FrameHasKinds, IsSoundBy, StandsWithout, Typings}
use Rattle.fm_types.specs.CallRows.{instance_call_row, special_call_row, static_call_row}
use Rattle.fm_types.specs.ArrayRows.{multi_array_row, new_references_row}
use Rattle.fm_types.specs.Named as typed
use Rattle.fm_types.specs.Named.{class_of_method}
use Rattle.fm_types.specs.NumberRows.{constant_row}
use Rattle.fm_types.specs.ObjectRows.{cast_row, get_field_row, get_static_row, is_a_row, new_row, put_field_row, put_static_row}
use Rattle.fm_types.specs.Rows.{row_after}
use Rattle.fm_types.specs.States.{is_whole, TypeState, worked}
use Rattle.fm_types.specs.Typed.{after_item, FitsAt, IsTypingOf, made_at, MeetsItem, use_by}
use Rattle.fm_types.specs.declared.slots.Slot.TheVariants as slot
use Rattle.fm_world.specs.Numbers.{type_of_class}
use Rattle.fm_world.specs.Programs.{code_at, Outline, Program}
use Rattle.fm_code.specs.Operands.{pool_index}
use Rattle.fm_world.specs.declared.uses.Use.{Use}
use Rattle.fm_world.specs.declared.uses.Use.TheVariants as resolved

-- ---- it is there

index_inside : (p : Program) → CanRun p → (method : ℕ) (index : Option ℕ) → IsUseIn p.outline (used_at p method index)
index_inside p can method None = tt
index_inside p can method (Some index) = can.steps.calls.runnable.uses (class_of_method p.outline method) index

-- what is named has a number
pub use_inside : (p : Program) (x : State) (i : Insn) (u : Use) → CanRun p → IsNext p x i u → IsUseIn p.outline u
use_inside p x i u can next = subst (λ w. IsUseIn p.outline w) next.use_is (index_inside p can next.frame.method (pool_index i))

-- a literal that is named has a place
pub literal_inside : (p : Program) (x : State) (i : Insn) (u : Use) (literal : ℕ) → CanRun p → IsGoing p x → IsNext p x i u
    → literal_named p.outline u ≡ Some literal → literal < length x.areas.literals
literal_inside p x i u literal can going next named =
    let inside : literal < literal_count p.outline = literal-inside p.outline u literal (use_inside p x i u can next) named in
    let same = going.sound.1.areas.literals in omega (arith, inside, same)

-- the name of each type is of 16-bit units
pub name_units : (p : Program) → CanRun p → (type : ℕ) → All (λ unit. unit < 2 ^ 16) (name_numbered p.outline type)
name_units p can type = by_type (slice_get p.outline.types type) refl where
  by_type : (found : Option TypeRef) → slice_get p.outline.types type ≡ found
      → All (λ unit. unit < 2 ^ 16) (unwrap_or (option_map (type_name p.outline) found) [])
  by_type None at = All-nil (λ unit. unit < 2 ^ 16)
  by_type (Some t) at = All-from_recursion (λ unit. unit < 2 ^ 16) (type_name p.outline t) (can.makes.names type t at)

-- the instruction is in a method that has code
pub named_at : (p : Program) (x : State) (i : Insn) (u : Use) → (next : IsNext p x i u) → IsNamed p next.frame.method i u
named_at p x i u next =
    let parts = option_and_then-some (λ code. insn_of code next.frame.item) (code_at p next.frame.method) i next.insn_is in
    record { code = parts.0; code_is = parts.1; item = next.frame.item; insn_is = parts.2; use_is = next.use_is }

-- ---- the row of the checker

-- a frame meets the row of an instruction
pub record MeetsRow (p : Program) (f : Frame) (i : Insn) (u : Use) : Type 0 where
  pub code : Code
  pub known : TypeState
  pub kinds : FrameHasKinds known f.locals f.stack
  pub whole : is_whole known.stack ≡ true
  pub after : TypeState
  pub row : row_after p.outline f.method f.item (made_at p f.method code) u i known ≡ Some after

meets_by : (p : Program) (typings : Typings) (z : State) (f : Frame) (callers : List Frame) (i : Insn) (u : Use)
    → IsSoundBy p typings (record z { frames = f ∷ callers }) → next_insn p f ≡ Some i → use_by p f.method i ≡ u → MeetsRow p f i u
meets_by p typings z f callers i u sound at named =
    let stands : StandsWithout p typings 0 f = sound.frames.0 in
    let typing : IsTypingOf p f.method stands.code (typings f.method) = typing_of p typings sound.typed f.method stands.code stands.code_is in
    let meets : MeetsItem p f.method stands.code (typings f.method) f.item stands.known = typing.items f.item stands.known stands.at in
    let found = Some-from_some_and (after_item p f.method stands.code f.item stands.known)
    (λ given. (next : ℕ) → IsNormalEdge stands.code f.item next → FitsAt p (typings f.method) next given) meets.row in
    let here : insn_of stands.code f.item ≡ Some i = sym (ap (λ o. option_and_then (λ (c : Code). insn_of c f.item) o) stands.code_is) ∙ at in
    let row_of : Insn → Option TypeState =
    λ other. row_after p.outline f.method f.item (made_at p f.method stands.code) (use_by p f.method other) other stands.known in
    record {
      code = stands.code;
      known = stands.known;
      kinds = record { in_locals = stands.locals; in_stack = stands.stack };
      whole = meets.whole;
      after = found.0;
      row = ap (λ w. row_after p.outline f.method f.item (made_at p f.method stands.code) w i stands.known) (sym named)
          ∙ sym (ap (λ o. option_and_then row_of o) here) ∙ found.1;
    }

-- the topmost frame meets that of the next instruction
pub meets : (p : Program) (x : State) (i : Insn) (u : Use) → IsGoing p x → (next : IsNext p x i u) → MeetsRow p next.frame i u
meets p x i u going next =
    meets_by p going.sound.0 x next.frame next.callers i u
    (subst (λ (frames : List Frame). IsSoundBy p going.sound.0 (record x { frames = frames })) next.frames_is going.sound.1) next.insn_is next.use_is

-- ---- it is of the sort that is wanted

constant_wanted : (o : Outline) (u : Use) (s after : TypeState) → constant_row o u s ≡ Some after → is_constant u ≡ true
unfolding constant_row
constant_wanted o (resolved.OfInt n) s after row = refl
constant_wanted o (resolved.OfLong n) s after row = refl
constant_wanted o (resolved.OfText text) s after row = refl
constant_wanted o (resolved.OfType t) s after row = refl
constant_wanted o (resolved.OfField f t) s after row = absurd (cc)
constant_wanted o (resolved.OfMethod m t) s after row = absurd (cc)
constant_wanted o resolved.Unused s after row = absurd (cc)

type_wanted : (o : Outline) (u : Use) (follows : TypeRef → Option TypeState) (after : TypeState) → typed.on_type o u follows ≡ Some after → is_type u ≡ true
type_wanted o (resolved.OfInt n) follows after row = absurd (cc)
type_wanted o (resolved.OfLong n) follows after row = absurd (cc)
type_wanted o (resolved.OfText text) follows after row = absurd (cc)
type_wanted o (resolved.OfType t) follows after row = refl
type_wanted o (resolved.OfField f t) follows after row = absurd (cc)
type_wanted o (resolved.OfMethod m t) follows after row = absurd (cc)
type_wanted o resolved.Unused follows after row = absurd (cc)

field_wanted : (o : Outline) (u : Use) (follows : ℕ → TypeRef → Option TypeState) (after : TypeState) → typed.on_field o u follows ≡ Some after
    → is_field u ≡ true
field_wanted o (resolved.OfInt n) follows after row = absurd (cc)
field_wanted o (resolved.OfLong n) follows after row = absurd (cc)
field_wanted o (resolved.OfText text) follows after row = absurd (cc)
field_wanted o (resolved.OfType t) follows after row = absurd (cc)
field_wanted o (resolved.OfField f t) follows after row = refl
field_wanted o (resolved.OfMethod m t) follows after row = absurd (cc)
field_wanted o resolved.Unused follows after row = absurd (cc)

method_wanted : (o : Outline) (u : Use) (follows : ℕ → TypeRef → Option TypeState) (after : TypeState) → typed.on_method o u follows ≡ Some after
    → is_method u ≡ true
method_wanted o (resolved.OfInt n) follows after row = absurd (cc)
method_wanted o (resolved.OfLong n) follows after row = absurd (cc)
method_wanted o (resolved.OfText text) follows after row = absurd (cc)
method_wanted o (resolved.OfType t) follows after row = absurd (cc)
method_wanted o (resolved.OfField f t) follows after row = absurd (cc)
method_wanted o (resolved.OfMethod m t) follows after row = refl
method_wanted o resolved.Unused follows after row = absurd (cc)

row_wanted : (o : Outline) (method item : ℕ) (news : ℕ → Option TypeRef) (u : Use) (i : Insn) (s after : TypeState)
    → row_after o method item news u i s ≡ Some after → is_wanted i u ≡ true
unfolding row_after new_row new_references_row cast_row is_a_row multi_array_row get_static_row put_static_row get_field_row put_field_row instance_call_row special_call_row static_call_row
row_wanted o method item news u (insn.LoadPool index) s after row = constant_wanted o u s after row
row_wanted o method item news u (insn.New index) s after row = type_wanted o u _ after row
row_wanted o method item news u (insn.NewRefs index) s after row = type_wanted o u _ after row
row_wanted o method item news u (insn.Cast index) s after row = type_wanted o u _ after row
row_wanted o method item news u (insn.IsA index) s after row = type_wanted o u _ after row
row_wanted o method item news u (insn.MultiArray index dimensions) s after row = type_wanted o u _ after row
row_wanted o method item news u (insn.GetStatic index) s after row = field_wanted o u _ after row
row_wanted o method item news u (insn.PutStatic index) s after row = field_wanted o u _ after row
row_wanted o method item news u (insn.GetField index) s after row = field_wanted o u _ after row
row_wanted o method item news u (insn.PutField index) s after row = field_wanted o u _ after row
row_wanted o method item news u (insn.Virtual index) s after row = method_wanted o u _ after row
row_wanted o method item news u (insn.Interface index) s after row = method_wanted o u _ after row
row_wanted o method item news u (insn.Special index) s after row = method_wanted o u _ after row
row_wanted o method item news u (insn.Static index) s after row = method_wanted o u _ after row
row_wanted o method item news u (insn.LeftOut opcode) s after row = absurd (cc)
row_wanted o method item news u i s after row = refl

-- what the next instruction names is of the sort that it wants, and the instruction is a supported one
pub wanted : (p : Program) (x : State) (i : Insn) (u : Use) → CanRun p → IsGoing p x → IsNext p x i u → is_wanted i u ≡ true
wanted p x i u can going next =
    let h : MeetsRow p next.frame i u = meets p x i u going next in
    row_wanted p.outline next.frame.method next.frame.item (made_at p next.frame.method h.code) u i h.known h.after h.row

-- ---- nests of arrays

pub dimensions_within : (p : Program) (x : State) (index dimensions : ℕ) (t : TypeId) → CanRun p → IsGoing p x
    → IsNext p x (insn.MultiArray index dimensions) (resolved.OfType t)
    → (0 < dimensions) × ((named : TypeRef) → slice_get p.outline.types t.0 ≡ Some named → dimensions ≤ named.dims)
unfolding row_after multi_array_row
dimensions_within p x index dimensions t can going next =
    let u : Use = resolved.OfType t in
    let h : MeetsRow p next.frame (insn.MultiArray index dimensions) u = meets p x (insn.MultiArray index dimensions) u going next in
    let inside : t.0 < length p.outline.types = use_inside p x (insn.MultiArray index dimensions) u can next in
    let there : slice_get p.outline.types t.0 ≡ Some (type_numbered p.outline t.0) = slice_get-get_or p.outline.types t.0 (type_of_class 0) inside in
    let both : (named : TypeRef) → slice_get p.outline.types t.0 ≡ Some named → (nat_lt 0 dimensions && nat_le dimensions named.dims) ≡ true =
    λ named at.
    (cond-some_then (nat_lt 0 dimensions && nat_le dimensions named.dims)
    (worked p.outline (replicate dimensions slot.Int) (slot.Ref named ∷ []) h.known) h.after
    (row_of_type p.outline u _ t named h.after refl at h.row)).0 in (
      ltb-true 0 dimensions (and_parts (nat_lt 0 dimensions) (nat_le dimensions (type_numbered p.outline t.0).dims) (both (type_numbered p.outline t.0) there)).0,
      λ named at. leb-true dimensions named.dims (and_parts (nat_lt 0 dimensions) (nat_le dimensions named.dims) (both named at)).1,
    )
