-- At a sound state the next effect does the same on both memories, also where classes are started first.
use Rattle.std.proofs.Common.{◌≡◌, ℕ, ◌<◌, ◌≤◌, Bool, List, [], ◌∷◌, length, Option, Some, None, option_and_then, refl, sym, ◌∙◌, ap, subst, slice_get, ⊎_elim, arith}
use Rattle.std.specs.List.{AllByRecursion}
use Rattle.std.specs.Str.{bytes_eq}
use Rattle.std.proofs.lemmas.Bool.{cases_lt}
use Rattle.std.proofs.lemmas.List.Quantifiers.{position-Some}
use Rattle.fm_base.proofs.ListFacts.{AllByRecursion-append}
use Rattle.std.proofs.lemmas.Option.{none-some}
use Rattle.fm_base.proofs.OptionFacts.{option_map-some}
use Rattle.fm_base.specs.Texts.{units}
use Rattle.fm_base.specs.declared.kinds.Kind.{Kind}
use Rattle.fm_base.specs.declared.kinds.Kind.TheVariants as kind
use Rattle.fm_base.specs.declared.kinds.TypeRef.{TypeRef}
use Rattle.fm_cells.specs.Stores.{Store}
use Rattle.fm_code.specs.Edges.{insn_of}
use Rattle.fm_code.specs.declared.code_array.Code.{Code}
use Rattle.fm_code.specs.declared.instructions.Insn.{Insn}
use Rattle.fm_code.specs.declared.instructions.Insn.TheVariants as insn
use Rattle.fm_types.specs.Named.{class_of_method}
use Rattle.fm_types.specs.ObjectRows.{put_static_row}
use Rattle.fm_types.specs.Rows.{row_after}
use Rattle.fm_types.specs.States.{taken, TypeState}
use Rattle.fm_types.specs.Typed.{IsTypingOf, made_at, MeetsItem, use_by}
use Rattle.fm_world.specs.BuiltIns.{built_in}
use Rattle.fm_world.specs.Members.{field_at, methods_of}
use Rattle.fm_world.specs.Numbers.{text_number}
use Rattle.fm_world.specs.Programs.{Outline, Program}
use Rattle.fm_code.specs.Operands.{pool_index}
use Rattle.fm_frames.proofs.Programs.{literal-inside}
use Rattle.fm_world.specs.declared.declarations.Constant.{Constant}
use Rattle.fm_world.specs.declared.declarations.Constant.TheVariants as constant
use Rattle.fm_world.specs.declared.uses.Use.{Use}
use Rattle.fm_world.specs.declared.uses.Use.TheVariants as resolved
use Rattle.fm_frames.specs.Acts.{value_of}
use Rattle.fm_frames.specs.CallRows.{native_of}
use Rattle.fm_frames.specs.Effects.{Action, Effect, OfLiteral}
use Rattle.fm_frames.specs.Natives.{native_of_row}
use Rattle.fm_frames.specs.declared.natives.Native.{Native}
use Rattle.fm_frames.specs.ObjectRows.{kind_of_field}
use Rattle.fm_frames.specs.Rows.{effect_of}
use Rattle.fm_frames.specs.Runnable.{IsUseIn}
use Rattle.fm_frames.specs.Sights.{sights}
use Rattle.fm_frames.specs.Starts.{fields_at, set_constant, start_actions, start_methods, start_of_class, to_start, with_start}
use Rattle.fm_frames.specs.States.{Frame, State}
use Rattle.fm_frames.specs.Steps.{effect_by, next_insn, next_effect}
use Rattle.fm_frames.specs.declared.values.Value.{Value}
use Rattle.fm_frames.specs.declared.values.Value.TheVariants as value
use Rattle.fm_same.proofs.NativeMethods.{has_row}
use Rattle.fm_same.specs.Evenness.{IsNumber, IsPlainKind}
use Rattle.fm_same.specs.Resolved.{CallsNoFreeMe}
use Rattle.fm_law_sound.specs.Leading.{sources_of}
use Rattle.fm_law_sound.specs.Making.{HaveTextFirst, IsMakeable}
use Rattle.fm_law_sound.specs.Resolved.{IsNamed, StepsAreResolved}
use Rattle.fm_law_sound.specs.Sound.{AreTyped, FrameHasKinds, StandsWithout, Typings}
use Rattle.fm_law_sound.proofs.CallCases.{used_at}
use Rattle.fm_law_sound.proofs.FramesStand.{met_row, typing_of}
use Rattle.fm_law_sound.proofs.InsnActs.{value_has}
use Rattle.fm_law_sound.proofs.ObjectRows.{row_of_field}
use Rattle.fm_law_sound.proofs.Opening.{all_flat, with_text}
use Rattle.fm_law_sound.proofs.StartActs.{after_methods, for_class}
use Rattle.fm_law_two_memories.specs.Constants.{ConstantsFit}
use Rattle.fm_law_two_memories.specs.Reading.{ActsAlike, EffectAlike, IsNumeric, IsOfKind}
use Rattle.fm_law_two_memories.proofs.ActsSame.{of_kind}
use Rattle.fm_law_two_memories.proofs.RowsAlike.{FreesAreStatic, HasStaticValue, IsKnown, row_alike}

-- ---- starts of classes

of_plain : (k : Kind) (v : Value) → IsPlainKind k → IsNumeric v → IsOfKind k v
of_plain (kind.Ref t) v plain number = absurd plain
of_plain k v plain number = number

module _ (o : Outline) (constants : ConstantsFit o) (store : Store) (f : Frame) where
  abbrev Acts : List Action → Type 0
  Acts actions = AllByRecursion (ActsAlike o store f) actions

  text_alike : (field : ℕ) (t : TypeRef) → kind_of_field o field ≡ kind.Ref t → (text : List ℕ) (found : Option ℕ) → text_number o.texts text ≡ found
      → Acts (with_text o field found)
  text_alike field t is text None at = tt
  text_alike field t is text (Some number) at = (
    (let inside = (position-Some (bytes_eq text) o.texts number [] at).0 in omega (arith, inside)),
    ((tt, λ areas made statics. subst (λ k. IsOfKind k (value_of (sources_of f areas made) (OfLiteral number))) (sym is) tt), tt),
  )

  constant_alike : (field : ℕ) (given : Option Constant) → (field_at o.classes field).field.value ≡ given → Acts (set_constant o field given)
  constant_alike field None is = tt
  constant_alike field (Some (constant.Int n)) is =
      ((tt, λ areas made statics. of_plain (kind_of_field o field) (value.Int n) (constants.numbers field (subst IsNumber (sym is) tt)) tt), tt)
  constant_alike field (Some (constant.Long n)) is =
      ((tt, λ areas made statics. of_plain (kind_of_field o field) (value.Long n) (constants.numbers field (subst IsNumber (sym is) tt)) tt), tt)
  constant_alike field (Some (constant.Text text)) is =
      let reference = constants.texts field text is in
      text_alike field reference.0 reference.1 (units text) (text_number o.texts (units text)) refl

  -- what starts classes puts values into static fields by their kinds
  pub starts_alike : (classes : List ℕ) → Acts (start_actions o classes)
  starts_alike classes =
      all_flat (ActsAlike o store f) (start_of_class o) classes
      (λ class. (
        tt,
        all_flat (ActsAlike o store f) (λ field. set_constant o field (field_at o.classes field).field.value) (fields_at o class)
            (λ field. constant_alike field (field_at o.classes field).field.value refl),
      ))

  methods_alike : (classes methods : List ℕ) (e : Effect) → EffectAlike o store f e → EffectAlike o store f (after_methods o classes e methods)
  methods_alike classes [] e h = record {
    numbers = h.numbers;
    acts = AllByRecursion-append (ActsAlike o store f) (start_actions o classes) e.actions (starts_alike classes) h.acts;
    thrown = h.thrown;
    thrown_numbers = h.thrown_numbers;
    thrown_found = h.thrown_found;
  }
  methods_alike classes (m ∷ methods) e h = record { numbers = tt; acts = starts_alike classes; thrown = tt; thrown_numbers = tt; thrown_found = tt }

  class_alike : (started : List Bool) (e : Effect) (class : Option ℕ) → EffectAlike o store f e → EffectAlike o store f (for_class o started e class)
  class_alike started e None h = h
  class_alike started e (Some class) h = methods_alike (to_start o started class) (start_methods o (to_start o started class)) e h

  started_alike : (started : List Bool) (e : Effect) → EffectAlike o store f e → EffectAlike o store f (with_start o started e)
  started_alike started e h = class_alike started e e.starts h

-- ---- the next effect

module _ (p : Program) (typings : Typings) (typed : AreTyped p typings) (ready : StepsAreResolved p) (makeable : IsMakeable p) (first : HaveTextFirst p.outline) (no_free : CallsNoFreeMe p) (constants : ConstantsFit p.outline) (z : State) (f : Frame) (callers : List Frame) (stands : StandsWithout p typings 0 f) where
  abbrev o : Outline
  o = p.outline

  abbrev store : Store
  store = z.areas.store

  -- the state, with its frames
  abbrev x : State
  x = record z { frames = f ∷ callers }

  -- only built-in methods have rows
  native_early : (target : ℕ) (row : Native) → native_of o target ≡ Some row → target < length (methods_of built_in)
  native_early target row native = ⊎_elim (λ early. early) (λ late. absurd (past late)) (cases_lt target (length (methods_of built_in))) where
    past : length (methods_of built_in) ≤ target → ⊥
    past late = none-some row (sym (ap (option_and_then native_of_row) (ready.calls.rows target late)) ∙ native)

  frees_static : FreesAreStatic o store f first
  frees_static target row native free =
      (has_row o ready.calls.runnable.given ready.calls.runnable.classes target (native_early target row native) row native).free free

  used_inside : (i : Insn) → IsUseIn o (use_by p f.method i)
  used_inside i = by_index (pool_index i) where
    by_index : (index : Option ℕ) → IsUseIn o (used_at p f.method index)
    by_index None = tt
    by_index (Some index) = ready.calls.runnable.uses (class_of_method o f.method) index

  typing : IsTypingOf p f.method stands.code (typings f.method)
  typing = typing_of p typings typed f.method stands.code stands.code_is

  meets : MeetsItem p f.method stands.code (typings f.method) f.item stands.known
  meets = typing.items f.item stands.known stands.at

  kinds : FrameHasKinds stands.known f.locals f.stack
  kinds = record { in_locals = stands.locals; in_stack = stands.stack }

  -- what is put into a static field has its kind
  put_value : (after : TypeState) (index : ℕ) (u : Use)
      → row_after o f.method f.item (made_at p f.method stands.code) u (insn.PutStatic index) stands.known ≡ Some after → HasStaticValue o store f first u
  unfolding row_after put_static_row
  put_value after index u row g n t is there =
      let k : Kind = kind_of_field o g.0 in
      let below = option_map-some _ (taken o _ stands.known.stack) after (row_of_field o u _ g n t after is there row) in
      of_kind k _ (value_has p makeable store f stands.known kinds meets.whole after k below.0 below.1)

  module _ (i : Insn) (after : TypeState) (insn_is : insn_of stands.code f.item ≡ Some i) (row : row_after o f.method f.item (made_at p f.method stands.code) (use_by p f.method i) i stands.known ≡ Some after) where
    abbrev u : Use
    u = use_by p f.method i

    named : (other : Use) → u ≡ other → IsNamed p f.method i other
    named other is = record { code = stands.code; code_is = stands.code_is; item = f.item; insn_is = insn_is; use_is = is }

    known : IsKnown o store f first u i
    known = record {
      fields = λ wanted field t there of used is fits. ready.places f.method i field t there of (named (resolved.OfField field t) used) wanted is fits;
      static_value = λ index is. put_value after index u
          (subst (λ j. row_after o f.method f.item (made_at p f.method stands.code) u j stands.known ≡ Some after) is row);
      literals = λ literal named. literal-inside o _ literal (used_inside i) named;
      others = λ m t used row native. no_free f.method i m t row (named (resolved.OfMethod m t) used) native;
    }

    found_insn : next_insn p f ≡ Some i
    found_insn = ap (λ found. option_and_then (λ (c : Code). insn_of c f.item) found) stands.code_is ∙ insn_is

    own_alike : EffectAlike o store f (next_effect p x)
    unfolding next_effect
    own_alike =
        subst (λ e. EffectAlike o store f (with_start o z.areas.started e)) (sym (ap (effect_by p x f) found_insn))
        (started_alike o constants store f z.areas.started (effect_of o f.method u i (slice_get z.input 0) (sights o store f.stack))
        (row_alike o store f first frees_static f.method u i (slice_get z.input 0) known))

  pub next_alike : EffectAlike o store f (next_effect p x)
  next_alike =
      let met = met_row p typings f stands.code stands.known meets in own_alike met.insn met.after met.insn_is met.row
