-- What the effects of calls that are sites give, where a built-in method is called and control goes on: the object that the step made, or nothing of a
-- constructor.
use Rattle.std.proofs.Common.{◌≡◌, ℕ, ◌&&◌, not, Bool, true, List, [], ◌∷◌, length, map, Option, Some, None, refl, sym, ◌∙◌, ap, subst, Contains}
use Rattle.std.specs.Prelude.{nat_lt, option_map, option_to_list}
use Rattle.std.specs.List.{list_any}
use Rattle.std.proofs.lemmas.Bool.{false≢true, not-true}
use Rattle.std.proofs.lemmas.Option.{none-some, same_Some}
use Rattle.fm_base.proofs.TestFacts.{and_left, and_right}
use Rattle.fm_base.specs.declared.ids.MethodId.{MethodId}
use Rattle.fm_base.specs.declared.kinds.TypeRef.{TypeRef}
use Rattle.fm_code.specs.declared.code_array.Code.{Code}
use Rattle.fm_code.specs.declared.instructions.Insn.{Insn}
use Rattle.fm_code.specs.declared.instructions.Insn.TheVariants as insn
use Rattle.fm_conn.specs.Facts.{AreFacts, Facts}
use Rattle.fm_conn.specs.Nodes.{TypedMethod}
use Rattle.fm_conn.specs.Pairs.{call_of, call_with, use_at}
use Rattle.fm_types.specs.CallRows.{is_constructor}
use Rattle.fm_types.specs.Named.{class_of_method, result_of, result_words}
use Rattle.fm_types.specs.States.{stack_slots}
use Rattle.fm_types.specs.Typed.{use_by}
use Rattle.fm_world.specs.Descriptors.{result_kind}
use Rattle.fm_world.specs.Programs.{class_id, Outline, Program, targets}
use Rattle.fm_world.specs.declared.calls.Call.{Call}
use Rattle.fm_world.specs.declared.calls.CallKind.{CallKind}
use Rattle.fm_world.specs.declared.calls.CallKind.TheVariants as kinds
use Rattle.fm_world.specs.declared.uses.Use.{Use}
use Rattle.fm_world.specs.declared.uses.Use.TheVariants as resolved
use Rattle.fm_frames.specs.CallRows.{entered_as, native_of, words_of_arguments}
use Rattle.fm_frames.specs.Effects.{Effect, Source}
use Rattle.fm_frames.specs.NativeRows.{native_effect}
use Rattle.fm_frames.specs.declared.natives.Native.{Native}
use Rattle.fm_frames.specs.Rows.{effect_of}
use Rattle.fm_frames.specs.Sights.{Sight}
use Rattle.fm_frames.specs.States.{Frame}
use Rattle.fm_frames.proofs.EachCall.{entered_cases, interface_row, special_row, static_row, virtual_row}
use Rattle.fm_frames.proofs.Failures.{Failures, name_of}
use Rattle.fm_law_sound.proofs.BuiltInMethods.{has_row, plain}
use Rattle.fm_law_sound.specs.BuiltIns.{native_result, reference}
use Rattle.fm_law_sound.specs.Going.{ConstructorsGiveNothing}
use Rattle.fm_law_sound.specs.Leading.{is_call}
use Rattle.fm_law_sound.specs.Resolved.{CallsAreResolved}
use Rattle.fm_place.proofs.PlaceLemmas.{any-from}
use Rattle.fm_place.specs.Sites.{constructs, has_reference_result, may_give_old, names_constructor, receives_new}
use Rattle.fm_same.proofs.TargetMethods.{target_alike}
use Rattle.fm_same.specs.Covering.{CallsNative, CoversTargets, MeetsTarget}
use Rattle.fm_same.specs.Standing.{method_of}
use Rattle.fm_law_holders.proofs.OldResults.{row_gives_new}
use Rattle.fm_law_holders.proofs.SiteStates.{reference_slots}
use Rattle.fm_law_holders.proofs.SiteEffects.{first_made, gives_fault, gives_stuck, gives_thrown, GivesJust, native_gives_nothing, native_makes}

-- ---- all that a call leads to

module _ (p : Program) (facts : Facts) (f : Frame) (code : Code) (byte : Option ℕ) (s : List Sight) (given : List Source) where
  abbrev Q : Effect → Type 0
  Q e = GivesJust given e

  failures : Failures p.outline Q
  failures = record { raised = λ x. gives_thrown given p.outline (name_of x); none = gives_stuck given; lost = λ n. gives_fault given n }

  -- each row of a built-in method to which the instruction may lead
  abbrev RowsGive : Insn → Type 0
  RowsGive i =
      (target : ℕ) (row : Native) → native_of p.outline target ≡ Some row → MeetsTarget p facts f code i target → Q (native_effect p.outline row byte s)

  by_native : (i : Insn) → RowsGive i → (words target : ℕ) → MeetsTarget p facts f code i target
      → Q (entered_as p.outline words target byte s (native_of p.outline target))
  by_native i rows words target meets = entered_cases p.outline s byte Q words target (λ falls. absurd (cc)) (λ row is. rows target row is meets)

  pub call_gives : (i : Insn) → is_call i ≡ true → CoversTargets p facts f code i s → RowsGive i
      → Q (effect_of p.outline f.method (use_by p f.method i) i byte s)
  unfolding effect_of
  call_gives (insn.Virtual index) is covers rows =
      virtual_row p.outline s f.method (use_by p f.method (insn.Virtual index)) byte Q failures
      (λ m n t it target used there seen fits_it selected. by_native (insn.Virtual index) rows _ target
      (covers target (record { method = m; type = n; named = used; of = t; of_is = there; receiver = it; seen = seen; passes = fits_it; selected = selected })))
  call_gives (insn.Interface index) is covers rows =
      interface_row p.outline s f.method (use_by p f.method (insn.Interface index)) byte Q failures
      (λ m n t it target used there seen implements selected. by_native (insn.Interface index) rows _ target
      (covers target (record { method = m; type = n; named = used; of = t; of_is = there; receiver = it; seen = seen; passes = implements; selected = selected })))
  call_gives (insn.Special index) is covers rows =
      special_row p.outline s f.method (use_by p f.method (insn.Special index)) byte Q failures
      (λ m n t target used there special. by_native (insn.Special index) rows _ target
      (covers target (record { method = m; type = n; named = used; of = t; of_is = there; is = special })))
  call_gives (insn.Static index) is covers rows =
      static_row p.outline s f.method (use_by p f.method (insn.Static index)) byte Q failures
      (λ m n t used there. by_native (insn.Static index) rows (words_of_arguments p.outline m.0) m.0
      (covers m.0 (record { method = m; type = n; named = used; is = refl })))
  call_gives i is covers rows = absurd (false≢true is)

-- ---- what a target gives

-- a target has the result of the method that is named
pub same_result : (p : Program) (c : Call) (target : ℕ) → Contains (targets p c) target
    → result_of p.outline target ≡ result_of p.outline c.method.0
same_result p c target among = ap (result_kind p.outline.classes) (target_alike p c target among).descriptor

-- a call that receives what is new: each target gives a reference, and nothing old
pub record IsReceived (p : Program) (facts : Facts) (c : Call) : Type 0 where
  pub reference : has_reference_result p.outline c.method.0 ≡ true
  pub new : (target : ℕ) → Contains (targets p c) target → may_give_old p.outline facts target ≡ true → ⊥

pub received : (facts : Facts) (x : TypedMethod) (c : Call) → receives_new facts x (Some c) ≡ true → IsReceived x.program facts c
received facts x c is =
    let o : Outline = x.program.outline in
    let has : Bool = has_reference_result o c.method.0 in
    let some : Bool = nat_lt 0 (length (targets x.program c)) in
    let old : Bool = list_any (may_give_old o facts) (targets x.program c) in
    record {
      reference = and_left has some (and_left (has && some) (not old) is);
      new = λ target among gives.
          false≢true
          (sym (not-true old (and_right (has && some) (not old) is))
          ∙ any-from (may_give_old o facts) (targets x.program c) target among gives);
    }

is_call_of : (x : TypedMethod) (i : Insn) (c : Call) → call_of x i ≡ Some c → is_call i ≡ true
is_call_of x (insn.Virtual index) c is = refl
is_call_of x (insn.Interface index) c is = refl
is_call_of x (insn.Special index) c is = refl
is_call_of x (insn.Static index) c is = refl
is_call_of x i c is = absurd (none-some c is)

-- a constructor is called
pub calls_constructor : (x : TypedMethod) (i : Insn) (j : ℕ) (c : Call) → constructs x j i ≡ true → call_of x i ≡ Some c
    → is_constructor x.program.outline c.method.0 ≡ true
calls_constructor x (insn.Special index) j c both is =
    by_use (use_at x (insn.Special index))
    (and_left (names_constructor x.program.outline (use_at x (insn.Special index))) _ both) is where
      by_type : (k : CallKind) (m : MethodId) (found : Option TypeRef) → is_constructor x.program.outline m.0 ≡ true
          → option_map (λ named. record { kind = k; named = named; method = m; caller = class_id (class_of_method x.program.outline x.number) }) found ≡ Some c
          → is_constructor x.program.outline c.method.0 ≡ true
      by_type k m None names is = absurd (none-some c is)
      by_type k m (Some named) names is =
          subst (λ (d : Call). is_constructor x.program.outline d.method.0 ≡ true) (same_Some _ c is) names

      by_use : (u : Use) → names_constructor x.program.outline u ≡ true → call_with x kinds.Special u ≡ Some c → is_constructor x.program.outline c.method.0 ≡ true
      by_use (resolved.OfMethod m t) names is = by_type kinds.Special m _ names is
      by_use u names is = absurd (none-some c is)
calls_constructor x i j c both is = absurd (false≢true both)

-- so it has no result
pub built_result : (p : Program) → ConstructorsGiveNothing p.outline → (c : Call) (target : ℕ) → is_constructor p.outline c.method.0 ≡ true
    → Contains (targets p c) target → result_words p.outline target ≡ []
built_result p constructors c target is among =
    ap (λ r. stack_slots (option_to_list r)) (same_result p c target among ∙ constructors c.method.0 is)

-- ---- the effects

module _ (p : Program) (facts : Facts) (exact : AreFacts p facts) (ready : CallsAreResolved p) (f : Frame) (code : Code) (i : Insn) (byte : Option ℕ) (s : List Sight) where
  abbrev x : TypedMethod
  x = method_of p facts f code

  received_row : (target : ℕ) (row : Native) → native_of p.outline target ≡ Some row → (c : CallsNative p facts f code i target row)
      → IsReceived p facts c.call → GivesJust first_made (native_effect p.outline row byte s)
  received_row target row is c new =
      let result : native_result row ≡ reference ∷ [] =
      sym (has_row p ready target row is).result
      ∙ ap (map plain)
      (ap (λ r. stack_slots (option_to_list r)) (same_result p c.call target c.among) ∙ (reference_slots (result_of p.outline c.call.method.0) new.reference).1) in
      native_makes p.outline byte s row result
      (row_gives_new p facts exact target (new.new target c.among) row c.number c.number_is c.row_is c.ends)

  -- a call that receives what is new, of a built-in method, gives what the step made
  pub received_gives : receives_new facts x (call_of x i) ≡ true → CoversTargets p facts f code i s
      → GivesJust first_made (effect_of p.outline f.method (use_by p f.method i) i byte s)
  received_gives is covers = by_call (call_of x i) refl is where
    by_call : (c : Option Call) → call_of x i ≡ c → receives_new facts x c ≡ true
        → GivesJust first_made (effect_of p.outline f.method (use_by p f.method i) i byte s)
    by_call None at is = absurd (false≢true is)
    by_call (Some c) at is =
        call_gives p facts f code byte s first_made i (is_call_of x i c at) covers
        (λ target row native meets.
        let calls = meets.natives row native in
        received_row target row native calls
        (subst (IsReceived p facts) (same_Some c calls.call (sym at ∙ calls.call_is)) (received facts x c is)))

  -- a constructor gives nothing
  pub constructor_gives : (j : ℕ) → constructs x j i ≡ true → is_call i ≡ true → CoversTargets p facts f code i s
      → GivesJust [] (effect_of p.outline f.method (use_by p f.method i) i byte s)
  constructor_gives j both call covers =
      call_gives p facts f code byte s [] i call covers
      (λ target row native meets.
      let calls = meets.natives row native in
      let none : result_words p.outline target ≡ [] =
      built_result p ready.constructors calls.call target (calls_constructor x i j calls.call both calls.call_is) calls.among in
      native_gives_nothing p.outline byte s row (sym (has_row p ready target row native).result ∙ ap (map plain) none))
