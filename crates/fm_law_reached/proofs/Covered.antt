-- Where objects are only of classes of the set, a call of a sound state leads to a target of the narrowed program.
use Rattle.std.proofs.Common.{◌≡◌, ℕ, ◌<◌, ◌⊎◌, Bool, true, List, [], ◌∷◌, length, Option, Some, None, IfSome, Contains, refl, sym, ◌∙◌, ap, subst, inl, inr, unwrap_or, slice_get}
use Rattle.std.specs.Prelude.{not, option_map}
use Rattle.std.proofs.lemmas.Bool.{and_from}
use Rattle.std.proofs.lemmas.Option.{same_Some, slice_get-get_or}
use Rattle.fm_base.specs.Rows.{has}
use Rattle.fm_base.specs.declared.ids.ClassId.{ClassId}
use Rattle.fm_base.specs.declared.ids.MethodId.{MethodId}
use Rattle.fm_base.specs.declared.ids.TypeId.{TypeId}
use Rattle.fm_base.specs.declared.kinds.Base.TheVariants as base
use Rattle.fm_base.specs.declared.kinds.TypeRef.{TypeRef}
use Rattle.fm_code.proofs.EdgesLemmas.{Contains-first}
use Rattle.fm_code.specs.AccessFlags.{is_abstract, is_interface}
use Rattle.fm_code.specs.Edges.{insn_of}
use Rattle.fm_code.specs.declared.code_array.Code.{Code}
use Rattle.fm_code.specs.declared.instructions.Insn.{Insn}
use Rattle.fm_code.specs.declared.instructions.Insn.TheVariants as insn
use Rattle.fm_conn.specs.Facts.{Facts}
use Rattle.fm_conn.specs.Nodes.{TypedMethod}
use Rattle.fm_conn.specs.Pairs.{call_of, call_with, use_at}
use Rattle.fm_conn.specs.Shapes.{method_with}
use Rattle.fm_frames.specs.CallRows.{words_of_arguments}
use Rattle.fm_frames.specs.Runnable.{IsUseIn}
use Rattle.fm_frames.specs.Sights.{Looks, Sight, sights, type_numbered}
use Rattle.fm_frames.specs.States.{Areas, Frame, State}
use Rattle.fm_law_reached.specs.Laws.{NarrowedTargetsCover}
use Rattle.fm_law_reached.specs.Reached.{HoldsMade, IsMadeType}
use Rattle.fm_law_sound.proofs.MadeObjects.{HasObjectsBy}
use Rattle.fm_law_sound.proofs.SeenObjects.{IsSeen, seen_at}
use Rattle.fm_law_sound.specs.Sound.{AreasAreSound, HasObjects}
use Rattle.fm_rapid.proofs.Receivers.{array_target, class_target, named_inside}
use Rattle.fm_rapid.specs.Reach.{narrowed}
use Rattle.fm_same.proofs.CallFacts.{type_there, use_there}
use Rattle.fm_same.proofs.FullTargets.{fits_takes, InArrays, InClass, sub_takes, Takes}
use Rattle.fm_same.specs.Covering.{Enters, EntersSelected}
use Rattle.fm_same.specs.Resolved.{IsResolved}
use Rattle.fm_same.specs.Standing.{method_of}
use Rattle.fm_same.specs.Targets.{CoversIn}
use Rattle.fm_types.specs.Fits.{fits_type, object_of}
use Rattle.fm_types.specs.Named.{class_of_method}
use Rattle.fm_types.specs.States.{TypeState}
use Rattle.fm_types.specs.Typed.{use_by}
use Rattle.fm_world.proofs.Told.{targets-special, targets-static}
use Rattle.fm_world.specs.Chains.{class_at, is_sub}
use Rattle.fm_world.specs.Lookups.{select, special_target}
use Rattle.fm_world.specs.Members.{methods_of}
use Rattle.fm_world.specs.Numbers.{type_of_class}
use Rattle.fm_world.specs.Programs.{class_id, class_of_type, code_at, IsTypeIn, Program, targets}
use Rattle.fm_world.specs.declared.calls.Call.{Call}
use Rattle.fm_world.specs.declared.calls.CallKind.{CallKind}
use Rattle.fm_world.specs.declared.calls.CallKind.TheVariants as kinds
use Rattle.fm_world.specs.declared.uses.Use.{Use}
use Rattle.fm_world.specs.declared.uses.Use.TheVariants as resolved

-- what is named isn't an array
named_class : (t : TypeRef) (class : ClassId) → t.dims ≡ 0 → t.base ≡ base.OfClass class → class_of_type t ≡ Some class.0
named_class t class flat is =
    ap (λ d. class_of_type (record { dims = d; base = t.base })) flat ∙ ap (λ b. class_of_type (record { dims = 0; base = b })) is

module _ (p : Program) (ready : IsResolved p) (made : List Bool) (areas : Areas) (sound : AreasAreSound p.outline areas)
    (holds : HoldsMade p.outline made areas.store) (f : Frame) (code : Code) (code_is : code_at p f.method ≡ Some code)
    (states : List (Option TypeState)) where
  abbrev x : TypedMethod
  x = method_with p f.method code states

  abbrev seen_here : List Sight
  seen_here = sights p.outline areas.store f.stack

  method_there : (i : Insn) (m : MethodId) (t : TypeId) → use_by p f.method i ≡ resolved.OfMethod m t → IsUseIn p.outline (resolved.OfMethod m t)
  method_there i m t is = subst (IsUseIn p.outline) is (use_there p ready f.method i)

  -- a receiver's type is one of which objects are made, and its class is in the set
  pub record IsReceived (t : TypeRef) : Type 0 where
    pub has_objects : HasObjects p.outline t
    pub there : IsTypeIn p.outline.classes t
    pub is_made : IsMadeType made t

  received : (cell : ℕ) (it : Looks) → IsSeen p.outline areas.store cell it → IsReceived it.type
  received cell it s =
      let held = sound.heap cell s.object s.held in
      record {
        has_objects = subst (HasObjects p.outline) (sym s.type_is) held.of_type.made;
        there = subst (IsTypeIn p.outline.classes) (sym s.type_is)
            (ready.runnable.types s.object.class (type_numbered p.outline s.object.class)
            (slice_get-get_or p.outline.types s.object.class (type_of_class 0) held.numbered));
        is_made = subst (IsMadeType made) (sym s.type_is) (holds cell s.object s.held);
      }

  -- the call of a kind that an instruction makes
  abbrev made_call : CallKind → TypeRef → MethodId → Call
  made_call k of m = record { kind = k; named = of; method = m; caller = class_id (class_of_method p.outline f.method) }

  -- the method that is selected for an object that passes
  selected_target : (k : CallKind) → (k ≡ kinds.Virtual) ⊎ (k ≡ kinds.Interface) → (i : Insn) (takes : TypeRef → TypeRef → Bool) (target : ℕ)
      → (e : EntersSelected p.outline takes (use_by p f.method i) seen_here target)
      → ((it : Looks) → IsTypeIn p.outline.classes it.type → takes it.type e.of ≡ true → Takes p.outline.classes it.type e.of)
      → Contains (targets (narrowed p made) (made_call k e.of e.method)) target
  selected_target k virtual i takes target e each = by_takes (each e.receiver it.there e.passes) where
    it : IsReceived e.receiver.type
    it = received _ e.receiver (seen_at p.outline areas.store f.stack (words_of_arguments p.outline e.method.0) e.receiver e.seen)

    there : e.method.0 < length (methods_of p.outline.classes)
    there = (method_there i e.method e.type e.named).0

    found : (o : Option ℕ) → class_of_type e.receiver.type ≡ o → select p.outline.classes (unwrap_or o (object_of p.outline.classes)) e.method.0 ≡ Some target
    found o is = ap (λ c. select p.outline.classes (unwrap_or c (object_of p.outline.classes)) e.method.0) (sym is) ∙ e.selected

    by_takes : Takes p.outline.classes e.receiver.type e.of → Contains (targets (narrowed p made) (made_call k e.of e.method)) target
    by_takes (InClass class is below) =
        let flags : HasObjectsBy p.outline (Some class) = subst (HasObjectsBy p.outline) is it.has_objects in
        class_target p made (made_call k e.of e.method) virtual there class target (named_inside p e.receiver.type class it.there is)
        (subst (λ (o : Option ℕ). IfSome o (λ c. has made c ≡ true)) is it.is_made)
        (and_from (not (is_abstract (class_at p.outline.classes class).flags)) (not (is_interface (class_at p.outline.classes class).flags))
        (ap not flags.0) (ap not flags.1)) below (found (Some class) is)
    by_takes (InArrays is arrays) =
        array_target p made (made_call k e.of e.method) virtual there arrays (object_of p.outline.classes) target ready.tree.object (found None is)

  -- the call that an instruction makes, of which the method is a target
  pub record Calls (i : Insn) (target : ℕ) : Type 0 where
    pub call : Call
    pub is : call_of x i ≡ Some call
    pub among : Contains (targets (narrowed p made) call) target

  called_as : (k : CallKind) (u : Use) (m : MethodId) (t : TypeId) (of : TypeRef) → u ≡ resolved.OfMethod m t → slice_get p.outline.types t.0 ≡ Some of
      → call_with x k u ≡ Some (made_call k of m)
  called_as k u m t of is there = ap (call_with x k) is ∙ ap (option_map (λ named. made_call k named m)) there

  pub call_target : (i : Insn) → insn_of code f.item ≡ Some i → (target : ℕ) → Enters p.outline f.method (use_by p f.method i) seen_here i target
      → Calls i target
  call_target (insn.Virtual index) insn_is target e = record {
    call = made_call kinds.Virtual e.of e.method;
    is = called_as kinds.Virtual (use_at x (insn.Virtual index)) e.method e.type e.of e.named e.of_is;
    among =
        selected_target kinds.Virtual (inl refl) (insn.Virtual index) (fits_type p.outline.classes) target e
        (λ it inside passes. fits_takes p ready it.type.dims it.type.base e.of.dims e.of.base inside
        (λ class flat of_class. ready.no_interface f.method index e.method e.type e.of class.0
        (record { code = code; code_is = code_is; item = f.item; insn_is = insn_is; use_is = e.named }) e.of_is (named_class e.of class flat of_class))
        passes);
  }
  call_target (insn.Interface index) insn_is target e = record {
    call = made_call kinds.Interface e.of e.method;
    is = called_as kinds.Interface (use_at x (insn.Interface index)) e.method e.type e.of e.named e.of_is;
    among =
        selected_target kinds.Interface (inr refl) (insn.Interface index) (is_sub p.outline.classes) target e
        (λ it inside passes. sub_takes p.outline.classes it.type.dims it.type.base e.of.dims e.of.base passes);
  }
  call_target (insn.Special index) insn_is target e = record {
    call = made_call kinds.Special e.of e.method;
    is = called_as kinds.Special (use_at x (insn.Special index)) e.method e.type e.of e.named e.of_is;
    among =
        subst (λ (xs : List ℕ). Contains xs target) (sym (targets-special (narrowed p made) (made_call kinds.Special e.of e.method) refl))
        (Contains-first (special_target p.outline.classes (class_of_method p.outline f.method) (class_of_type e.of) e.method.0) [] target (sym e.is));
  }
  call_target (insn.Static index) insn_is target e =
      let of = type_there p.outline e.method e.type (method_there (insn.Static index) e.method e.type e.named) in
      record {
        call = made_call kinds.Static of.0 e.method;
        is = called_as kinds.Static (use_at x (insn.Static index)) e.method e.type of.0 e.named of.1;
        among =
            subst (λ (xs : List ℕ). Contains xs target) (sym (targets-static (narrowed p made) (made_call kinds.Static of.0 e.method) refl))
            (Contains-first e.method.0 [] target (sym e.is));
      }
  call_target i insn_is target e = absurd e

frames_cover : (p : Program) → IsResolved p → (made : List Bool) (facts : Facts) (y : State) (frames : List Frame) → AreasAreSound p.outline y.areas
    → HoldsMade p.outline made y.areas.store → CoversIn (narrowed p made) facts (record y { frames = frames }) frames
frames_cover p ready made facts y [] sound holds = tt
frames_cover p ready made facts y (f ∷ callers) sound holds = λ code i target code_is insn_is e. λ other j call other_is insn_other is.
    let same_code : other ≡ code = same_Some other code (sym other_is ∙ code_is) in
    let same_insn : j ≡ i = same_Some j i (sym insn_other ∙ ap (λ c. insn_of c f.item) same_code ∙ insn_is) in
    let found = call_target p ready made y.areas sound holds f code code_is (facts.typing f.method) i insn_is target e in
    let same_call : found.call ≡ call =
    same_Some found.call call
    (sym found.is ∙ ap (λ c. call_of (method_of p facts f c) i) (sym same_code) ∙ ap (call_of (method_of p facts f other)) (sym same_insn) ∙ is) in
    subst (λ c. Contains (targets (narrowed p made) c) target) same_call found.among

pub covers_narrowed : NarrowedTargetsCover
covers_narrowed p ready made facts x sound holds = frames_cover p ready made facts x x.frames sound.areas holds
