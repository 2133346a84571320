-- A call at an item: the method that it names, the words that it takes, and what holds of each of its targets.
use Rattle.std.proofs.Common.{◌≡◌, ℕ, ◌+◌, not, Bool, true, false, cond, reverse, Option, Some, None, option_and_then, IsSomeAnd, Contains, refl, sym, ◌∙◌, ap, subst, slice_get, get_or, arith, ⊎_elim}
use Rattle.std.specs.Prelude.{option_map}
use Rattle.std.proofs.lemmas.Bool.{false≢true}
use Rattle.std.proofs.lemmas.Option.{none-some, same_Some, slice_get-get_or}
use Rattle.fm_base.proofs.OptionFacts.{Some-from_some_and}
use Rattle.fm_conn.proofs.ListLemmas.{Contains-one}
use Rattle.fm_base.specs.declared.ids.MethodId.{MethodId}
use Rattle.fm_base.specs.declared.ids.TypeId.{TypeId}
use Rattle.fm_base.specs.declared.kinds.TypeRef.{TypeRef}
use Rattle.fm_code.specs.AccessFlags.{is_static}
use Rattle.fm_code.specs.Edges.{insn_of, IsNormalEdge}
use Rattle.fm_code.specs.declared.code_array.Code.{Code}
use Rattle.fm_code.specs.declared.instructions.Insn.{Insn}
use Rattle.fm_code.specs.declared.instructions.Insn.TheVariants as insn
use Rattle.fm_conn.specs.Facts.{AreFacts, Facts}
use Rattle.fm_conn.specs.Nodes.{TypedMethod}
use Rattle.fm_conn.specs.Pairs.{call_of, call_with, use_at}
use Rattle.fm_conn.specs.Rows as pairs
use Rattle.fm_types.specs.Named.{class_of_method, parameters_of}
use Rattle.fm_types.specs.Rows.{row_after}
use Rattle.fm_types.specs.States.{TypeState}
use Rattle.fm_types.specs.Typed.{FitsAt, made_at, MeetsItem, state_at, use_by}
use Rattle.fm_types.specs.declared.slots.Slot as slots
use Rattle.fm_world.specs.Causes.{static_method_wanted}
use Rattle.fm_world.specs.Descriptors.{argument_word_count, parameter_kinds}
use Rattle.fm_world.specs.Members.{method_at}
use Rattle.fm_world.specs.Numbers.{type_of_class}
use Rattle.fm_world.specs.Programs.{class_id, code_at, Outline, Program, targets}
use Rattle.fm_code.specs.Operands.{pool_index}
use Rattle.fm_world.specs.declared.calls.Call.{Call}
use Rattle.fm_world.specs.declared.calls.CallKind.{CallKind}
use Rattle.fm_world.specs.declared.calls.CallKind.TheVariants as kinds
use Rattle.fm_world.specs.declared.uses.Use.{Use}
use Rattle.fm_world.specs.declared.uses.Use.TheVariants as resolved
use Rattle.fm_frames.specs.CallRows.{words_of_arguments}
use Rattle.fm_frames.specs.Runnable.{IsUseIn}
use Rattle.fm_frames.specs.States.{Frame}
use Rattle.fm_same.specs.Resolved.{IsResolved}
use Rattle.fm_same.proofs.CallWords.{call_takes, receiver_count, TakesCall}
use Rattle.fm_law_sound.proofs.FoundMethods.{IsAlike}
use Rattle.fm_same.proofs.TargetMethods.{target_alike}
use Rattle.fm_law_sound.proofs.CallCases.{used_at}

-- the word of a state by how many lie below it
abbrev pub word_in_state : ℕ → Option TypeState → Option slots.Slot
word_in_state depth state = option_and_then (λ (s : TypeState). slice_get (reverse s.stack) depth) state

-- ---- calls

-- an instruction that calls the method of a use, which is static where that is wanted
pub record CallsMethod (p : Program) (method : ℕ) (i : Insn) : Type 0 where
  pub m : MethodId
  pub t : TypeId
  pub use_is : use_by p method i ≡ resolved.OfMethod m t
  pub static : Bool
  pub wanted : static_method_wanted i ≡ Some static
  pub flags : is_static (method_at p.outline.classes m.0).method.flags ≡ static

call_used : (x : TypedMethod) (k : CallKind) (u : Use) (m : MethodId) (t : TypeId) (call : Call) → u ≡ resolved.OfMethod m t → call_with x k u ≡ Some call
    → call.method ≡ m
call_used x k u m t call is h = by_use (rw is at h) where
  by_type : (o : Option TypeRef)
      → option_map (λ named. record { kind = k; named = named; method = m; caller = class_id (class_of_method x.program.outline x.number) }) o ≡ Some call
      → call.method ≡ m
  by_type None e = absurd (none-some call e)
  by_type (Some named) e = ap (λ (c : Call). c.method) (sym (same_Some _ call e))

  by_use : call_with x k (resolved.OfMethod m t) ≡ Some call → call.method ≡ m
  by_use e = by_type (slice_get x.program.outline.types t.0) e

-- the call that it makes is one of that method
pub call_method : (x : TypedMethod) (i : Insn) (c : CallsMethod x.program x.number i) (call : Call) → call_of x i ≡ Some call → call.method ≡ c.m
call_method x (insn.Virtual index) c call is = call_used x _ _ c.m c.t call c.use_is is
call_method x (insn.Interface index) c call is = call_used x _ _ c.m c.t call c.use_is is
call_method x (insn.Special index) c call is = call_used x _ _ c.m c.t call c.use_is is
call_method x (insn.Static index) c call is = call_used x _ _ c.m c.t call c.use_is is
call_method x i c call is = absurd (none-some c.static c.wanted)

pub swapped : (b static : Bool) (n : ℕ) → b ≡ static → cond b 0 1 + n ≡ n + receiver_count (not static)
swapped b true n is = ap (λ c. cond c 0 1 + n) is ∙ omega arith
swapped b false n is = ap (λ c. cond c 0 1 + n) is ∙ omega arith

-- it takes the words of the arguments, and that of a receiver
taken_by_use : (o : Outline) (u : Use) (m : MethodId) (t : TypeId) (static : Bool) → u ≡ resolved.OfMethod m t
    → is_static (method_at o.classes m.0).method.flags ≡ static → pairs.call_words o u ≡ words_of_arguments o m.0 + receiver_count (not static)
taken_by_use o u m t static is flags =
    ap (pairs.call_words o) is ∙ swapped (is_static (method_at o.classes m.0).method.flags) static (words_of_arguments o m.0) flags

pub words_are : (p : Program) (method : ℕ) (i : Insn) (c : CallsMethod p method i)
    → pairs.words_taken p.outline (use_by p method i) i ≡ words_of_arguments p.outline c.m.0 + receiver_count (not c.static)
unfolding pairs.words_taken
words_are p method (insn.Virtual index) c = taken_by_use p.outline _ c.m c.t c.static c.use_is c.flags
words_are p method (insn.Interface index) c = taken_by_use p.outline _ c.m c.t c.static c.use_is c.flags
words_are p method (insn.Special index) c = taken_by_use p.outline _ c.m c.t c.static c.use_is c.flags
words_are p method (insn.Static index) c = taken_by_use p.outline _ c.m c.t c.static c.use_is c.flags
words_are p method i c = absurd (none-some c.static c.wanted)

-- what the item's row takes off the stack of its state
pub state_takes : (p : Program) (facts : Facts) (exact : AreFacts p facts) (f : Frame) (code : Code) (i : Insn) (s : TypeState)
    → code_at p f.method ≡ Some code → insn_of code f.item ≡ Some i → state_at (facts.typing f.method) f.item ≡ Some s → (c : CallsMethod p f.method i)
    → TakesCall p.outline c.m.0 (not c.static) s.stack
state_takes p facts exact f code i s code_is insn_is state_is c =
    call_takes p.outline f.method f.item (made_at p f.method code) c.m c.t s met.0 meets.whole i c.static c.wanted
    (ap (λ u. row_after p.outline f.method f.item (made_at p f.method code) u i s) (sym c.use_is) ∙ met.1) where
      meets : MeetsItem p f.method code (facts.typing f.method) f.item s
      meets = (exact.methods f.method code code_is).typing.items f.item s state_is

      Leads : TypeState → Type 0
      Leads after = (next : ℕ) → IsNormalEdge code f.item next → FitsAt p (facts.typing f.method) next after

      met : (after : TypeState) × (row_after p.outline f.method f.item (made_at p f.method code) (use_by p f.method i) i s ≡ Some after) × Leads after
      met =
          Some-from_some_and (row_after p.outline f.method f.item (made_at p f.method code) (use_by p f.method i) i s) Leads
          (subst (λ after. IsSomeAnd after Leads)
          (ap (λ (o : Option Insn). option_and_then (λ other. row_after p.outline f.method f.item (made_at p f.method code) (use_by p f.method other) other s) o)
          insn_is) meets.row)

alike_static : (o : Outline) (method target : ℕ) (static : Bool) → IsAlike o.classes method target → is_static (method_at o.classes method).method.flags ≡ static
    → (static ≡ true → target ≡ method) → is_static (method_at o.classes target).method.flags ≡ static
alike_static o method target true alike flags itself = ap (λ m. is_static (method_at o.classes m).method.flags) (itself refl) ∙ flags
alike_static o method target false alike flags itself =
    ⊎_elim (λ same. ap (λ m. is_static (method_at o.classes m).method.flags) same ∙ flags) (λ instance. instance) alike.flags

-- invokestatic leads to the method itself
pub static_itself : (x : TypedMethod) (i : Insn) (call : Call) (target : ℕ) → call_of x i ≡ Some call → static_method_wanted i ≡ Some true
    → Contains (targets x.program call) target → target ≡ call.method.0
unfolding targets
static_itself x (insn.Static index) call target is wanted among = by_use (use_at x (insn.Static index)) is among where
  by_type : (m : MethodId) (o : Option TypeRef)
      → option_map (λ named. record { kind = kinds.Static; named = named; method = m; caller = class_id (class_of_method x.program.outline x.number) }) o ≡ Some call
      → Contains (targets x.program call) target → target ≡ call.method.0
  by_type m None e among = absurd (none-some call e)
  by_type m (Some named) e among =
      subst (λ (c : Call). Contains (targets x.program c) target → target ≡ c.method.0) (same_Some _ call e) (λ there. Contains-one m.0 target there) among

  by_use : (u : Use) → call_with x kinds.Static u ≡ Some call → Contains (targets x.program call) target → target ≡ call.method.0
  by_use (resolved.OfMethod m t) e among = by_type m (slice_get x.program.outline.types t.0) e among
  by_use u e among = absurd (none-some call e)
static_itself x (insn.Virtual index) call target is wanted among = absurd (false≢true (same_Some false true wanted))
static_itself x (insn.Interface index) call target is wanted among = absurd (false≢true (same_Some false true wanted))
static_itself x (insn.Special index) call target is wanted among = absurd (false≢true (same_Some false true wanted))
static_itself x i call target is wanted among = absurd (none-some true wanted)

-- ---- a target of a call at an item

-- the target's parameters are those of the method that is named, and so is its flag
pub record Fits (o : Outline) (method target : ℕ) (static : Bool) : Type 0 where
  pub parameters : parameters_of o target ≡ parameters_of o method
  pub arguments : words_of_arguments o target ≡ words_of_arguments o method
  pub flags : is_static (method_at o.classes target).method.flags ≡ static

pub target_fits : (x : TypedMethod) (i : Insn) (c : CallsMethod x.program x.number i) (call : Call) (target : ℕ) → call_of x i ≡ Some call
    → Contains (targets x.program call) target → Fits x.program.outline c.m.0 target c.static
target_fits x i c call target is among =
    let o = x.program.outline in
    let same : call.method.0 ≡ c.m.0 = ap (λ (m : MethodId). m.0) (call_method x i c call is) in
    let alike : IsAlike o.classes c.m.0 target = subst (λ m. IsAlike o.classes m target) same (target_alike x.program call target among) in
    record {
      parameters = ap (parameter_kinds o.classes) alike.descriptor;
      arguments = ap (argument_word_count o.classes) alike.descriptor;
      flags = alike_static o c.m.0 target c.static alike c.flags
          (λ static. static_itself x i call target is (c.wanted ∙ ap Some static) among ∙ same);
    }

-- ---- the call that is made

-- a type that a use of the program numbers is there
pub type_there : (o : Outline) (m : MethodId) (t : TypeId) → IsUseIn o (resolved.OfMethod m t) → (named : TypeRef) × (slice_get o.types t.0 ≡ Some named)
type_there o m t inside = (get_or o.types t.0 (type_of_class 0), slice_get-get_or o.types t.0 (type_of_class 0) inside.1)

pub use_there : (p : Program) → IsResolved p → (method : ℕ) (i : Insn) → IsUseIn p.outline (use_by p method i)
use_there p ready method i = by_index (pool_index i) where
  by_index : (o : Option ℕ) → IsUseIn p.outline (used_at p method o)
  by_index None = tt
  by_index (Some index) = ready.runnable.uses (class_of_method p.outline method) index

pub call_is_made : (x : TypedMethod) (i : Insn) (c : CallsMethod x.program x.number i) (named : TypeRef) → slice_get x.program.outline.types c.t.0 ≡ Some named
    → (call : Call) × (call_of x i ≡ Some call)
call_is_made x i c named there = by_insn i c.use_is c.wanted where
  made : (k : CallKind) (u : Use) → u ≡ resolved.OfMethod c.m c.t → (call : Call) × (call_with x k u ≡ Some call)
  made k u is = (
    record { kind = k; named = named; method = c.m; caller = class_id (class_of_method x.program.outline x.number) },
    ap (call_with x k) is
        ∙ ap (option_map (λ named. record { kind = k; named = named; method = c.m; caller = class_id (class_of_method x.program.outline x.number) })) there,
  )

  by_insn : (j : Insn) → use_by x.program x.number j ≡ resolved.OfMethod c.m c.t → static_method_wanted j ≡ Some c.static
      → (call : Call) × (call_of x j ≡ Some call)
  by_insn (insn.Virtual index) is wanted = made kinds.Virtual (use_at x (insn.Virtual index)) is
  by_insn (insn.Interface index) is wanted = made kinds.Interface (use_at x (insn.Interface index)) is
  by_insn (insn.Special index) is wanted = made kinds.Special (use_at x (insn.Special index)) is
  by_insn (insn.Static index) is wanted = made kinds.Static (use_at x (insn.Static index)) is
  by_insn j is wanted = absurd (none-some c.static wanted)
