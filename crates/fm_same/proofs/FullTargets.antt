-- In a program that isn't narrowed a call of a sound state leads to a target: the receiver is an object of a class that has objects and passes the test of
-- the named type, so the method that is selected for it is counted.
use Rattle.std.proofs.Common.{◌≡◌, ℕ, zero, suc, ◌<◌, ◌⊎◌, ◌==◌, ◌&&◌, ◌||◌, not, nat_lt, cond, Bool, true, false, List, [], ◌∷◌, ◌++◌, length, filter, Option, Some, None, Contains, refl, sym, ◌∙◌, ap, subst, inl, inr, slice_get, arith, ⊎_elim, eq-eqb, eqb-true, ltb-true, ne_eqb}
use Rattle.std.specs.Prelude.{option_map, option_to_list, unwrap_or, nat_eq}
use Rattle.std.specs.List.{cons_option, filter_map, range_with_len}
use Rattle.std.specs.Str.{bytes_eq}
use Rattle.std.proofs.lemmas.Bool.{and_from, false≢true, or_left}
use Rattle.std.proofs.lemmas.List.Elements.{Contains-append_left, Contains-append_right}
use Rattle.std.proofs.lemmas.List.Quantifiers.{position-Some}
use Rattle.std.proofs.lemmas.Option.{none-some, same_Some, slice_get-get_or}
use Rattle.fm_base.proofs.ContainsFacts.{Contains-cons_cases, Contains-none}
use Rattle.fm_base.specs.declared.ids.ClassId.{ClassId}
use Rattle.fm_base.specs.declared.ids.MethodId.{MethodId}
use Rattle.fm_base.specs.declared.ids.TypeId.{TypeId}
use Rattle.fm_base.specs.declared.kinds.Base.{Base}
use Rattle.fm_base.specs.declared.kinds.Base.TheVariants as base
use Rattle.fm_base.specs.declared.kinds.TypeRef.{TypeRef}
use Rattle.fm_code.proofs.EdgesLemmas.{Contains-filter, Contains-first, Contains-later}
use Rattle.fm_code.specs.AccessFlags.{is_abstract, is_interface}
use Rattle.fm_code.specs.Edges.{insn_of}
use Rattle.fm_code.specs.declared.code_array.Code.{Code}
use Rattle.fm_code.specs.declared.instructions.Insn.{Insn}
use Rattle.fm_code.specs.declared.instructions.Insn.TheVariants as insn
use Rattle.fm_conn.specs.Facts.{Facts}
use Rattle.fm_conn.specs.Nodes.{TypedMethod}
use Rattle.fm_conn.specs.Pairs.{call_of, call_with, use_at}
use Rattle.fm_conn.proofs.ListLemmas.{Contains-range}
use Rattle.fm_place.proofs.PlaceLemmas.{any-from}
use Rattle.fm_types.specs.Named.{class_of_method}
use Rattle.fm_types.specs.Typed.{use_by}
use Rattle.fm_types.specs.Fits.{fits_base, fits_type, is_object_base, object_of}
use Rattle.fm_types.proofs.Order.{fits_type-cases, IsBelowObjects, IsLevel}
use Rattle.fm_world.specs.BuiltIns.{object_name}
use Rattle.fm_world.specs.Chains.{chain_of, class_at, interfaces_of, is_above_arrays, is_among, is_base_above_arrays, is_sub, is_sub_base}
use Rattle.fm_world.specs.Declarations.{no_class}
use Rattle.fm_world.specs.Lookups.{is_interface_at, object_number, select, special_target}
use Rattle.fm_world.specs.Members.{methods_of}
use Rattle.fm_world.specs.Numbers.{type_of_class}
use Rattle.fm_world.specs.Programs.{class_id, class_of_type, code_at, is_made, IsTypeIn, Outline, Program, selected, takes_arrays, takes_class, targets}
use Rattle.fm_world.specs.declared.calls.Call.{Call}
use Rattle.fm_world.specs.declared.calls.CallKind.{CallKind}
use Rattle.fm_world.specs.declared.calls.CallKind.TheVariants as kinds
use Rattle.fm_world.specs.declared.uses.Use.{Use}
use Rattle.fm_world.specs.declared.uses.Use.TheVariants as resolved
use Rattle.fm_world.specs.declared.declarations.DeclaredClass.{DeclaredClass}
use Rattle.fm_frames.specs.CallRows.{words_of_arguments}
use Rattle.fm_frames.specs.Runnable.{IsUseIn}
use Rattle.fm_frames.specs.States.{Frame, State}
use Rattle.fm_frames.specs.Sights.{Looks, Sight, sights, type_numbered}
use Rattle.fm_law_sound.specs.Sound.{AreasAreSound, HasObjects}
use Rattle.fm_law_sound.proofs.SeenObjects.{IsSeen, seen_at}
use Rattle.fm_same.specs.Covering.{Enters, EntersSelected}
use Rattle.fm_same.specs.Laws.{FullTargetsCover}
use Rattle.fm_same.specs.Resolved.{IsResolved}
use Rattle.fm_same.specs.Standing.{method_of}
use Rattle.fm_same.specs.Targets.{CoversIn}
use Rattle.fm_same.proofs.CallFacts.{type_there, use_there}
use Rattle.fm_law_sound.proofs.FoundMethods.{select_inside}
use Rattle.fm_law_sound.proofs.MadeObjects.{class_of_base, HasObjectsBy}

-- ---- where a receiver that passes is counted

abbrev typed : ℕ → Base → TypeRef
typed dims b = record { dims = dims; base = b }

-- by its class, or among arrays
pub data Takes (classes : List DeclaredClass) (t named : TypeRef) : Type 0 where
  InClass : (class : ℕ) → class_of_type t ≡ Some class → is_sub classes (type_of_class class) named ≡ true → Takes classes t named
  InArrays : class_of_type t ≡ None → takes_arrays classes named ≡ true → Takes classes t named

-- an array is no class
deep_type : (dims : ℕ) (b : Base) → class_of_type (typed (suc dims) b) ≡ None
deep_type dims b = ap (λ c. cond c (class_of_base b) None) (ne_eqb (suc dims) 0 (λ same. omega (arith, same)))

abbrev takes_by : List DeclaredClass → Option ℕ → Bool
takes_by classes None = true
takes_by classes (Some class) = is_above_arrays classes class

array_named : (classes : List DeclaredClass) (dims : ℕ) (b : Base) → ((class : ClassId) → dims ≡ 0 → b ≡ base.OfClass class → is_above_arrays classes class.0 ≡ true)
    → takes_arrays classes (typed dims b) ≡ true
array_named classes (suc dims) b h = ap (takes_by classes) (deep_type dims b)
array_named classes zero (base.OfClass class) h = h class refl refl
array_named classes zero b h = refl

sub_parts : (classes : List DeclaredClass) (a b : TypeRef) → is_sub classes a b ≡ true
    → ((a.dims ≡ b.dims) × (is_sub_base classes a.base b.base ≡ true)) ⊎ ((b.dims < a.dims) × (is_base_above_arrays classes b.base ≡ true))
unfolding is_sub
sub_parts classes a b h = by_level (a.dims == b.dims) refl h where
  both : (x y : Bool) → (x && y) ≡ true → (x ≡ true) × (y ≡ true)
  both true y e = (refl, e)
  both false y e = absurd (false≢true e)

  by_level : (level : Bool) → (a.dims == b.dims) ≡ level
      → cond level (is_sub_base classes a.base b.base) (nat_lt b.dims a.dims && is_base_above_arrays classes b.base) ≡ true
      → ((a.dims ≡ b.dims) × (is_sub_base classes a.base b.base ≡ true)) ⊎ ((b.dims < a.dims) × (is_base_above_arrays classes b.base ≡ true))
  by_level true is e = inl (eqb-true a.dims b.dims is, e)
  by_level false is e =
      let parts = both (nat_lt b.dims a.dims) (is_base_above_arrays classes b.base) e in inr (ltb-true b.dims a.dims parts.0, parts.1)

above_named : (classes : List DeclaredClass) (b : Base) (class : ClassId) → b ≡ base.OfClass class → is_base_above_arrays classes b ≡ true
    → is_above_arrays classes class.0 ≡ true
above_named classes b class is h = subst (λ c. is_base_above_arrays classes c ≡ true) is h

pub sub_takes : (classes : List DeclaredClass) (dims : ℕ) (b : Base) (named_dims : ℕ) (named : Base)
    → is_sub classes (typed dims b) (typed named_dims named) ≡ true → Takes classes (typed dims b) (typed named_dims named)
sub_takes classes zero (base.OfClass class) n named h = InClass class.0 refl h
sub_takes classes (suc dims) b n named h =
    InArrays (deep_type dims b)
    (array_named classes n named
    (λ class none is. ⊎_elim (λ level. absurd (omega (arith, none, level.0))) (λ above. above_named classes named class is above.1)
    (sub_parts classes (typed (suc dims) b) (typed n named) h)))
sub_takes classes zero b n named h =
    InArrays refl
    (array_named classes n named
    (λ class none is. ⊎_elim (λ level. absurd (false≢true (subst (λ c. is_sub_base classes b c ≡ true) is level.1)))
    (λ above. above_named classes named class is above.1) (sub_parts classes (typed zero b) (typed n named) h)))

-- a class below another one
class_below : (classes : List DeclaredClass) (class : ℕ) (other : ClassId) → is_among other.0 (chain_of classes class) ≡ true
    → is_sub classes (type_of_class class) (typed zero (base.OfClass other)) ≡ true
unfolding is_sub
class_below classes class other h = or_left (is_among other.0 (chain_of classes class)) (is_among other.0 (interfaces_of classes class)) h

-- what is named is Object, where it isn't an interface
object_named : (classes : List DeclaredClass) (class : ClassId) → is_interface_at classes class.0 ≡ false → is_object_base classes (base.OfClass class) ≡ true
    → class.0 ≡ object_of classes
object_named classes class plain h = by_sort (is_interface_at classes class.0) plain h where
  by_sort : (b : Bool) → b ≡ false → (b || (class.0 == object_of classes)) ≡ true → class.0 ≡ object_of classes
  by_sort true e g = absurd (false≢true (sym e))
  by_sort false e g = eqb-true class.0 (object_of classes) g

-- a class of which objects are made
has_flags : (o : Outline) (t : TypeRef) (class : ℕ) → class_of_type t ≡ Some class → HasObjects o t
    → (is_abstract (class_at o.classes class).flags ≡ false) × (is_interface (class_at o.classes class).flags ≡ false)
has_flags o t class is made = subst (HasObjectsBy o) is made

in_range_by : (classes : List DeclaredClass) (dims : ℕ) (b : Base) (class : ℕ) → class_of_type (typed dims b) ≡ Some class → IsTypeIn classes (typed dims b)
    → class < length classes
in_range_by classes zero (base.OfClass c) class is inside = subst (λ n. n < length classes) (same_Some c.0 class is) inside
in_range_by classes zero b class is inside = absurd (none-some class is)
in_range_by classes (suc dims) b class is inside = absurd (none-some class (sym (deep_type dims b) ∙ is))

in_range : (classes : List DeclaredClass) (t : TypeRef) (class : ℕ) → class_of_type t ≡ Some class → IsTypeIn classes t → class < length classes
in_range classes t class is inside = in_range_by classes t.dims t.base class is inside

module _ (p : Program) (ready : IsResolved p) where
  abbrev classes : List DeclaredClass
  classes = p.outline.classes

  object_above : (class : ℕ) → class ≡ object_of classes → is_above_arrays classes class ≡ true
  object_above class is =
      let there = position-Some (λ (c : DeclaredClass). bytes_eq c.name object_name) classes (object_of classes) no_class ready.tree.object in
      ap (is_above_arrays classes) is ∙ or_left (bytes_eq (class_at classes (object_of classes)).name object_name) _ there.1

  -- a class that is named isn't an interface
  abbrev IsPlain : ℕ → Base → Type 0
  IsPlain n named = (class : ClassId) → n ≡ 0 → named ≡ base.OfClass class → is_interface_at classes class.0 ≡ false

  arrays_by : (t : TypeRef) (n : ℕ) (named : Base) → IsPlain n named → fits_type classes t (typed n named) ≡ true
      → ((class : ClassId) → n ≡ 0 → named ≡ base.OfClass class → IsLevel classes t (typed n named) → ⊥) → takes_arrays classes (typed n named) ≡ true
  arrays_by t n named plain h apart =
      array_named classes n named
      (λ class none is. ⊎_elim
      (λ (below : IsBelowObjects classes t (typed n named)).
      object_above class.0 (object_named classes class (plain class none is) (subst (λ c. is_object_base classes c ≡ true) is below.objects)))
      (λ level. absurd (apart class none is level)) (fits_type-cases classes t (typed n named) h))

  class_by : (class : ClassId) (n : ℕ) (named : Base) → class.0 < length classes → IsPlain n named
      → fits_type classes (typed zero (base.OfClass class)) (typed n named) ≡ true → is_sub classes (type_of_class class.0) (typed n named) ≡ true
  class_by class (suc n) named inside plain h = ⊎_elim
      (λ (below : IsBelowObjects classes (typed zero (base.OfClass class)) (typed (suc n) named)). absurd (omega (arith, below.within)))
      (λ (level : IsLevel classes (typed zero (base.OfClass class)) (typed (suc n) named)). absurd (omega (arith, level.dims)))
      (fits_type-cases classes (typed zero (base.OfClass class)) (typed (suc n) named) h)
  class_by class zero (base.OfClass other) inside plain h = ⊎_elim
      (λ (below : IsBelowObjects classes (typed zero (base.OfClass class)) (typed zero (base.OfClass other))).
      class_below classes class.0 other
      (ap (λ n. is_among n (chain_of classes class.0)) (object_named classes other (plain other refl refl) below.objects) ∙ ready.below_object class.0 inside))
      (λ (level : IsLevel classes (typed zero (base.OfClass class)) (typed zero (base.OfClass other))). class_below classes class.0 other level.bases)
      (fits_type-cases classes (typed zero (base.OfClass class)) (typed zero (base.OfClass other)) h)
  class_by class zero named inside plain h = ⊎_elim
      (λ (below : IsBelowObjects classes (typed zero (base.OfClass class)) (typed zero named)). absurd (false≢true below.objects))
      (λ (level : IsLevel classes (typed zero (base.OfClass class)) (typed zero named)). absurd (false≢true level.bases))
      (fits_type-cases classes (typed zero (base.OfClass class)) (typed zero named) h)

  pub fits_takes : (dims : ℕ) (b : Base) (n : ℕ) (named : Base) → IsTypeIn classes (typed dims b) → IsPlain n named
      → fits_type classes (typed dims b) (typed n named) ≡ true → Takes classes (typed dims b) (typed n named)
  fits_takes zero (base.OfClass class) n named inside plain h = InClass class.0 refl (class_by class n named inside plain h)
  fits_takes (suc dims) b n named inside plain h =
      InArrays (deep_type dims b) (arrays_by (typed (suc dims) b) n named plain h (λ class none is level. let same = level.dims in omega (arith, none, same)))
  fits_takes zero b n named inside plain h =
      InArrays refl
      (arrays_by (typed zero b) n named plain h (λ class none is level. false≢true (subst (λ c. fits_base classes b c ≡ true) is level.bases)))

  -- ---- the method that is selected is counted

  from_filter_map : (find : ℕ → Option ℕ) (xs : List ℕ) (x y : ℕ) → Contains xs x → find x ≡ Some y → Contains (filter_map find xs) y
  from_filter_map find [] x y among is = absurd (Contains-none x among)
  from_filter_map find (z ∷ xs) x y among is = ⊎_elim
      (λ (same : x ≡ z). subst (λ o. Contains (cons_option o (filter_map find xs)) y) (sym (ap find (sym same) ∙ is)) (Contains-first y (filter_map find xs) y refl))
      (λ later. more (find z) (from_filter_map find xs x y later is)) (Contains-cons_cases z xs x among) where
        more : (o : Option ℕ) → Contains (filter_map find xs) y → Contains (cons_option o (filter_map find xs)) y
        more None found = found
        more (Some first) found = Contains-later first (filter_map find xs) y found

  negated : (b : Bool) → b ≡ false → not b ≡ true
  negated true e = absurd (false≢true (sym e))
  negated false e = refl

  receiver_counts : (whole : p.made ≡ None) (t named : TypeRef) → HasObjects p.outline t → IsTypeIn classes t → Takes classes t named
      → Contains (filter (takes_class p named) (range_with_len 0 (length classes))
      ++ cond (takes_arrays classes named) (option_to_list (object_number classes)) []) (unwrap_or (class_of_type t) (object_of classes))
  receiver_counts whole t named made inside (InClass class is sub) =
      Contains-append_left (filter (takes_class p named) (range_with_len 0 (length classes)))
      (cond (takes_arrays classes named) (option_to_list (object_number classes)) []) (unwrap_or (class_of_type t) (object_of classes))
      (subst (λ o. Contains (filter (takes_class p named) (range_with_len 0 (length classes))) (unwrap_or o (object_of classes))) (sym is)
      (Contains-filter (takes_class p named) (range_with_len 0 (length classes)) class
      (Contains-range 0 (length classes) class (omega arith) (omega (arith, within))) passes)) where
        flags : (is_abstract (class_at classes class).flags ≡ false) × (is_interface (class_at classes class).flags ≡ false)
        flags = has_flags p.outline t class is made

        within : class < length classes
        within = in_range classes t class is inside

        passes : takes_class p named class ≡ true
        passes =
            and_from (not (is_abstract (class_at classes class).flags) && not (is_interface (class_at classes class).flags) && is_made p.made class)
            (is_sub classes (type_of_class class) named)
            (and_from (not (is_abstract (class_at classes class).flags) && not (is_interface (class_at classes class).flags)) (is_made p.made class)
            (and_from (not (is_abstract (class_at classes class).flags)) (not (is_interface (class_at classes class).flags))
            (negated (is_abstract (class_at classes class).flags) flags.0) (negated (is_interface (class_at classes class).flags) flags.1))
            (ap (λ made. is_made made class) whole)) sub
  receiver_counts whole t named made inside (InArrays is arrays) =
      Contains-append_right (filter (takes_class p named) (range_with_len 0 (length classes)))
      (cond (takes_arrays classes named) (option_to_list (object_number classes)) []) (unwrap_or (class_of_type t) (object_of classes))
      (subst (λ o. Contains (cond (takes_arrays classes named) (option_to_list (object_number classes)) []) (unwrap_or o (object_of classes))) (sym is)
      (subst (λ b. Contains (cond b (option_to_list (object_number classes)) []) (object_of classes)) (sym arrays)
      (subst (λ o. Contains (option_to_list o) (object_of classes)) (sym ready.tree.object) (Contains-first (object_of classes) [] (object_of classes) refl))))

  -- the method selected for an object that passes is among the targets
  pub selected_counts : (whole : p.made ≡ None) (t named : TypeRef) (method target : ℕ) → HasObjects p.outline t → IsTypeIn classes t → Takes classes t named
      → method < length (methods_of classes) → select classes (unwrap_or (class_of_type t) (object_of classes)) method ≡ Some target
      → Contains (filter (λ m. is_among m (selected p named method)) (range_with_len 0 (length (methods_of classes)))) target
  selected_counts whole t named method target made inside takes there found =
      Contains-filter (λ m. is_among m (selected p named method)) (range_with_len 0 (length (methods_of classes))) target
      (Contains-range 0 (length (methods_of classes)) target (omega arith)
      (omega (arith, select_inside classes (unwrap_or (class_of_type t) (object_of classes)) method target there found)))
      (any-from (nat_eq target) (selected p named method) target
      (from_filter_map (λ class. select classes class method) (filter (takes_class p named) (range_with_len 0 (length classes))
      ++ cond (takes_arrays classes named) (option_to_list (object_number classes)) []) (unwrap_or (class_of_type t) (object_of classes)) target
      (receiver_counts whole t named made inside takes) found) (eq-eqb target target refl))

-- ---- at a state

made_call : (x : TypedMethod) (k : CallKind) (u : Use) (m : MethodId) (t : TypeId) (of : TypeRef) (call : Call) → u ≡ resolved.OfMethod m t
    → slice_get x.program.outline.types t.0 ≡ Some of → call_with x k u ≡ Some call
    → record { kind = k; named = of; method = m; caller = class_id (class_of_method x.program.outline x.number) } ≡ call
made_call x k u m t of call is there h =
    same_Some (record { kind = k; named = of; method = m; caller = class_id (class_of_method x.program.outline x.number) }) call
    (sym (ap (call_with x k) is
    ∙ ap (option_map (λ named. record { kind = k; named = named; method = m; caller = class_id (class_of_method x.program.outline x.number) })) there) ∙ h)

named_class : (dims : ℕ) (b : Base) (class : ClassId) → dims ≡ 0 → b ≡ base.OfClass class → class_of_type (typed dims b) ≡ Some class.0
named_class dims b class none is = ap (λ d. class_of_type (typed d b)) none ∙ ap (λ c. class_of_type (typed zero c)) is

module _ (p : Program) (ready : IsResolved p) (whole : p.made ≡ None) (facts : Facts) (y : State) (sound : AreasAreSound p.outline y.areas) (f : Frame) (code : Code) (code_is : code_at p f.method ≡ Some code) where
  abbrev x : TypedMethod
  x = method_of p facts f code

  abbrev seen_here : List Sight
  seen_here = sights p.outline y.areas.store f.stack

  method_there : (i : Insn) (m : MethodId) (t : TypeId) → use_by p f.method i ≡ resolved.OfMethod m t → IsUseIn p.outline (resolved.OfMethod m t)
  method_there i m t is = subst (IsUseIn p.outline) is (use_there p ready f.method i)

  -- a receiver's type is one of which objects are made
  type_is_there : (cell : ℕ) (it : Looks) (s : IsSeen p.outline y.areas.store cell it) → HasObjects p.outline it.type × IsTypeIn p.outline.classes it.type
  type_is_there cell it s =
      let held = sound.heap cell s.object s.held in (
        subst (HasObjects p.outline) (sym s.type_is) held.of_type.made,
        subst (IsTypeIn p.outline.classes) (sym s.type_is)
            (ready.runnable.types s.object.class (type_numbered p.outline s.object.class)
            (slice_get-get_or p.outline.types s.object.class (type_of_class 0) held.numbered)),
      )

  selected_target : (i : Insn) (takes : TypeRef → TypeRef → Bool) (target : ℕ)
      → (e : EntersSelected p.outline takes (use_by p f.method i) seen_here target)
      → ((it : Looks) → IsTypeIn p.outline.classes it.type → takes it.type e.of ≡ true → Takes p.outline.classes it.type e.of)
      → Contains (filter (λ m. is_among m (selected p e.of e.method.0)) (range_with_len 0 (length (methods_of p.outline.classes)))) target
  selected_target i takes target e each =
      let s = seen_at p.outline y.areas.store f.stack (words_of_arguments p.outline e.method.0) e.receiver e.seen in
      let there = type_is_there _ e.receiver s in
      selected_counts p ready whole e.receiver.type e.of e.method.0 target there.0 there.1 (each e.receiver there.1 e.passes)
      (method_there i e.method e.type e.named).0 e.selected

  target_counts : (i : Insn) → insn_of code f.item ≡ Some i → (target : ℕ) → Enters p.outline f.method (use_by p f.method i) seen_here i target
      → (call : Call) → call_of x i ≡ Some call → Contains (targets p call) target
  unfolding targets
  target_counts (insn.Virtual index) insn_is target e call is =
      subst (λ c. Contains (targets p c) target) (made_call x kinds.Virtual (use_at x (insn.Virtual index)) e.method e.type e.of call e.named e.of_is is)
      (selected_target (insn.Virtual index) (fits_type p.outline.classes) target e
      (λ it inside passes. fits_takes p ready it.type.dims it.type.base e.of.dims e.of.base inside
      (λ class none of_class. ready.no_interface f.method index e.method e.type e.of class.0
      (record { code = code; code_is = code_is; item = f.item; insn_is = insn_is; use_is = e.named }) e.of_is (named_class e.of.dims e.of.base class none of_class))
      passes))
  target_counts (insn.Interface index) insn_is target e call is =
      subst (λ c. Contains (targets p c) target) (made_call x kinds.Interface (use_at x (insn.Interface index)) e.method e.type e.of call e.named e.of_is is)
      (selected_target (insn.Interface index) (is_sub p.outline.classes) target e
      (λ it inside passes. sub_takes p.outline.classes it.type.dims it.type.base e.of.dims e.of.base passes))
  target_counts (insn.Special index) insn_is target e call is =
      subst (λ c. Contains (targets p c) target) (made_call x kinds.Special (use_at x (insn.Special index)) e.method e.type e.of call e.named e.of_is is)
      (Contains-first (special_target p.outline.classes (class_of_method p.outline f.method) (class_of_type e.of) e.method.0) [] target (sym e.is))
  target_counts (insn.Static index) insn_is target e call is =
      let there = type_there p.outline e.method e.type (method_there (insn.Static index) e.method e.type e.named) in
      subst (λ c. Contains (targets p c) target) (made_call x kinds.Static (use_at x (insn.Static index)) e.method e.type there.0 call e.named there.1 is)
      (Contains-first e.method.0 [] target (sym e.is))
  target_counts i insn_is target e call is = absurd e

module _ (p : Program) (ready : IsResolved p) (whole : p.made ≡ None) (facts : Facts) where
  frames_cover : (y : State) (frames : List Frame) → AreasAreSound p.outline y.areas → CoversIn p facts (record y { frames = frames }) frames
  frames_cover y [] sound = tt
  frames_cover y (f ∷ callers) sound = λ code i target code_is insn_is e. λ other j call other_is insn_other is.
      let same_code : other ≡ code = same_Some other code (sym other_is ∙ code_is) in
      let same_insn : j ≡ i = same_Some j i (sym insn_other ∙ ap (λ c. insn_of c f.item) same_code ∙ insn_is) in
      target_counts p ready whole facts y sound f code code_is i insn_is target e call
      (ap (λ c. call_of (method_of p facts f c) i) (sym same_code) ∙ ap (call_of (method_of p facts f other)) (sym same_insn) ∙ is)

pub covers_fully : FullTargetsCover
covers_fully p ready whole facts x sound = frames_cover p ready whole facts x x.frames sound.areas
