-- The targets of a call where only some classes are made: what a class or an array selects.
use Rattle.std.proofs.Common.{◌≡◌, ℕ, zero, suc, ◌<◌, ◌⊎◌, ◌&&◌, cond, Bool, true, false, List, [], ◌++◌, length, filter, Option, Some, None, Contains, refl, sym, ◌∙◌, ap, subst, inl, inr, ⊎_elim, arith, option_to_list}
use Rattle.std.specs.List.{range_with_len}
use Rattle.std.proofs.lemmas.Bool.{and_from, and_parts, false≢true}
use Rattle.std.proofs.lemmas.List.Elements.{Contains-append_cases, Contains-append_left, Contains-append_right}
use Rattle.fm_base.specs.Rows.{has}
use Rattle.fm_base.specs.declared.kinds.Base.{Base}
use Rattle.fm_base.specs.declared.kinds.Base.TheVariants as base
use Rattle.fm_base.specs.declared.kinds.TypeRef.{TypeRef}
use Rattle.fm_code.proofs.EdgesLemmas.{Contains-filter, Contains-first, Contains-from_filter}
use Rattle.fm_conn.proofs.ListLemmas.{Contains-from_range, Contains-one, Contains-range}
use Rattle.fm_rapid.proofs.Elements.{among-from_Contains, Contains-from_among}
use Rattle.fm_rapid.specs.Reach.{AreIn, narrowed}
use Rattle.fm_rapid.specs.inner.Walks.{is_concrete, IsCallFollowed, IsListed, IsNeeded, IsReceived, IsReceiver, IsVirtualNeeded, IsWalk, LeadsInto, Sets}
use Rattle.fm_law_sound.proofs.FoundMethods.{select_inside}
use Rattle.fm_world.proofs.ElementLemmas.{Contains-filter_map, Contains-from_filter_map}
use Rattle.fm_world.proofs.Told.{is_sub-flatter, is_sub-level, targets-selected, targets-special, targets-static}
use Rattle.fm_world.proofs.TypeTests.{class_type}
use Rattle.fm_world.specs.Chains.{is_among, is_sub, is_subclass}
use Rattle.fm_world.specs.Lookups.{object_number, select, special_target}
use Rattle.fm_world.specs.Members.{methods_of}
use Rattle.fm_world.specs.Numbers.{type_of_class}
use Rattle.fm_world.specs.Programs.{class_of_type, Program, selected, takes_arrays, takes_class, targets, IsTypeIn}
use Rattle.fm_world.specs.declared.calls.Call.{Call}
use Rattle.fm_world.specs.declared.calls.CallKind.{CallKind}
use Rattle.fm_world.specs.declared.calls.CallKind.TheVariants as call
use Rattle.fm_world.specs.declared.declarations.DeclaredClass.{DeclaredClass}
use Rattle.fm_world.specs.inner.Marks.{selected_of_arrays}

-- ---- the type that is named

-- whose class is there
pub named_inside : (p : Program) (t : TypeRef) (class : ℕ) → IsTypeIn p.outline.classes t → class_of_type t ≡ Some class → class < length p.outline.classes
named_inside p t class inside is = subst (IsTypeIn p.outline.classes) (class_type t class is) inside

-- a class is below it as its objects can be cast to it
below_named : (classes : List DeclaredClass) (named : TypeRef) (class above : ℕ) → class_of_type named ≡ Some above
    → is_sub classes (type_of_class class) named ≡ is_subclass classes class above
below_named classes named class above is =
    ap (is_sub classes (type_of_class class)) (class_type named above is) ∙ is_sub-level classes (type_of_class class) (type_of_class above) refl

-- and no class is below another type
below_other : (classes : List DeclaredClass) (named : TypeRef) (class : ℕ) → class_of_type named ≡ None → is_sub classes (type_of_class class) named ≡ false
unfolding is_sub
below_other classes named class is = by_type named.dims named.base is where
  flatter : (dims : ℕ) (b : Base) → 0 < dims → is_sub classes (type_of_class class) (record { dims = dims; base = b }) ≡ false
  flatter dims b deep = is_sub-flatter classes (type_of_class class) (record { dims = dims; base = b }) deep

  by_type : (dims : ℕ) (b : Base) → class_of_type (record { dims = dims; base = b }) ≡ None
      → is_sub classes (type_of_class class) (record { dims = dims; base = b }) ≡ false
  by_type zero (base.OfClass c) none = absurd (cc)
  by_type zero b none = refl
  by_type (suc dims) b none = flatter (suc dims) b (omega arith)

-- ---- receivers

module _ (p : Program) where
  abbrev classes : List DeclaredClass
  classes = p.outline.classes

  -- a class that the narrowed program takes
  takes_receiver : (made : List Bool) (named : TypeRef) (class above : ℕ) → class_of_type named ≡ Some above → takes_class (narrowed p made) named class ≡ true
      → (has made class ≡ true) × IsReceiver classes above class
  takes_receiver made named class above is takes =
      let concrete = is_concrete classes class in
      let outer = and_parts (concrete && has made class) (is_sub classes (type_of_class class) named) takes in
      let inner = and_parts concrete (has made class) outer.0 in
      (inner.1, record { concrete = inner.0; below = sym (below_named classes named class above is) ∙ outer.1 })

  takes_from : (made : List Bool) (named : TypeRef) (class above : ℕ) → class_of_type named ≡ Some above → has made class ≡ true
      → IsReceiver classes above class → takes_class (narrowed p made) named class ≡ true
  takes_from made named class above is is_made receives =
      let concrete = is_concrete classes class in
      and_from (concrete && has made class) (is_sub classes (type_of_class class) named)
      (and_from concrete (has made class) receives.concrete is_made) (below_named classes named class above is ∙ receives.below)

  takes_none : (made : List Bool) (named : TypeRef) (class : ℕ) → class_of_type named ≡ None → takes_class (narrowed p made) named class ≡ true → ⊥
  takes_none made named class is takes =
      let concrete = is_concrete classes class in
      let outer = and_parts (concrete && has made class) (is_sub classes (type_of_class class) named) takes in
      false≢true (sym (below_other classes named class is) ∙ outer.1)

  -- ---- what a virtual call selects

  abbrev receivers : List Bool → TypeRef → List ℕ
  receivers made named = filter (takes_class (narrowed p made) named) (range_with_len 0 (length classes))

  abbrev arrays : TypeRef → List ℕ
  arrays named = cond (takes_arrays classes named) (option_to_list (object_number classes)) []

  abbrev find : ℕ → ℕ → Option ℕ
  find m class = select classes class m

  -- what a class of the set selects is among the targets
  selected_of_class : (made : List Bool) (named : TypeRef) (m class above target : ℕ) → class_of_type named ≡ Some above → class < length classes
      → has made class ≡ true → IsReceiver classes above class → select classes class m ≡ Some target → Contains (selected (narrowed p made) named m) target
  selected_of_class made named m class above target is inside is_made receives found =
      Contains-filter_map (find m) (receivers made named ++ arrays named) class target
      (Contains-append_left (receivers made named) (arrays named) class
      (Contains-filter (takes_class (narrowed p made) named) (range_with_len 0 (length classes)) class
      (Contains-range 0 (length classes) class (omega arith) (omega (arith, inside))) (takes_from made named class above is is_made receives)))
      found

  -- and so is what arrays select
  selected_of_array : (made : List Bool) (named : TypeRef) (m target : ℕ) → Contains (selected_of_arrays p named m) target
      → Contains (selected (narrowed p made) named m) target
  selected_of_array made named m target found =
      let from = Contains-from_filter_map (find m) (arrays named) target found in
      Contains-filter_map (find m) (receivers made named ++ arrays named) from.0 target
      (Contains-append_right (receivers made named) (arrays named) from.0 from.1) from.2

  -- what is selected, by class or by array
  pub record IsOfClass (made : List Bool) (named : TypeRef) (m target : ℕ) : Type 0 where
    pub class : ℕ
    pub above : ℕ
    pub inside : class < length classes
    pub named_is : class_of_type named ≡ Some above
    pub is_made : has made class ≡ true
    pub receives : IsReceiver classes above class
    pub found : select classes class m ≡ Some target

  selected_cases : (made : List Bool) (named : TypeRef) (m target : ℕ) → Contains (selected (narrowed p made) named m) target
      → IsOfClass made named m target ⊎ Contains (selected_of_arrays p named m) target
  selected_cases made named m target found =
      let from = Contains-from_filter_map (find m) (receivers made named ++ arrays named) target found in
      ⊎_elim
      (λ (receiver : Contains (receivers made named) from.0).
      let passes = Contains-from_filter (takes_class (narrowed p made) named) (range_with_len 0 (length classes)) from.0 receiver in
      let range = Contains-from_range 0 (length classes) from.0 passes.0 in
      inl (by_named (class_of_type named) refl from.0 (omega (arith, range.1)) passes.1 from.2))
      (λ (array : Contains (arrays named) from.0). inr (Contains-filter_map (find m) (arrays named) from.0 target array from.2))
      (Contains-append_cases (receivers made named) (arrays named) from.0 from.1) where
        by_named : (o : Option ℕ) → class_of_type named ≡ o → (class : ℕ) → class < length classes → takes_class (narrowed p made) named class ≡ true
            → select classes class m ≡ Some target → IsOfClass made named m target
        by_named None is class inside takes is_found = absurd (takes_none made named class is takes)
        by_named (Some above) is class inside takes is_found =
            let both = takes_receiver made named class above is takes in
            record { class = class; above = above; inside = inside; named_is = is; is_made = both.0; receives = both.1; found = is_found }

  -- ---- the targets of a virtual call

  abbrev pub IsVirtual : Call → Type 0
  IsVirtual c = (c.kind ≡ call.Virtual) ⊎ (c.kind ≡ call.Interface)

  target_from : (made : List Bool) (c : Call) → IsVirtual c → (target : ℕ) → target < length (methods_of classes)
      → Contains (selected (narrowed p made) c.named c.method.0) target → Contains (targets (narrowed p made) c) target
  target_from made c virtual target inside found =
      let test : ℕ → Bool = λ k. is_among k (selected (narrowed p made) c.named c.method.0) in
      subst (λ (xs : List ℕ). Contains xs target) (sym (targets-selected (narrowed p made) c virtual))
      (Contains-filter test (range_with_len 0 (length (methods_of classes))) target
      (Contains-range 0 (length (methods_of classes)) target (omega arith) (omega (arith, inside)))
      (among-from_Contains target (selected (narrowed p made) c.named c.method.0) found))

  target_selected : (made : List Bool) (c : Call) → IsVirtual c → (target : ℕ) → Contains (targets (narrowed p made) c) target
      → Contains (selected (narrowed p made) c.named c.method.0) target
  target_selected made c virtual target found =
      let test : ℕ → Bool = λ k. is_among k (selected (narrowed p made) c.named c.method.0) in
      Contains-from_among target (selected (narrowed p made) c.named c.method.0)
      (Contains-from_filter test (range_with_len 0 (length (methods_of classes))) target
      (subst (λ (xs : List ℕ). Contains xs target) (targets-selected (narrowed p made) c virtual) found)).1

  -- what an object of a class of the set selects is one
  pub class_target : (made : List Bool) (c : Call) → IsVirtual c → c.method.0 < length (methods_of classes) → (class target : ℕ) → class < length classes
      → has made class ≡ true → is_concrete classes class ≡ true → is_sub classes (type_of_class class) c.named ≡ true
      → select classes class c.method.0 ≡ Some target → Contains (targets (narrowed p made) c) target
  class_target made c virtual there class target inside is_made concrete below found =
      target_from made c virtual target (select_inside classes class c.method.0 target there found) (by_named (class_of_type c.named) refl) where
        by_named : (named : Option ℕ) → class_of_type c.named ≡ named → Contains (selected (narrowed p made) c.named c.method.0) target
        by_named None is = absurd (false≢true (sym (below_other classes c.named class is) ∙ below))
        by_named (Some above) is =
            selected_of_class made c.named c.method.0 class above target is inside is_made
            (record { concrete = concrete; below = sym (below_named classes c.named class above is) ∙ below }) found

  -- and so is what an array selects, which is what Object does
  pub array_target : (made : List Bool) (c : Call) → IsVirtual c → c.method.0 < length (methods_of classes) → takes_arrays classes c.named ≡ true
      → (object target : ℕ) → object_number classes ≡ Some object → select classes object c.method.0 ≡ Some target
      → Contains (targets (narrowed p made) c) target
  array_target made c virtual there takes object target number found =
      target_from made c virtual target (select_inside classes object c.method.0 target there found)
      (selected_of_array made c.named c.method.0 target
      (Contains-filter_map (find c.method.0) (arrays c.named) object target
      (subst (λ (b : Bool). Contains (cond b (option_to_list (object_number classes)) []) object) (sym takes)
      (subst (λ (o : Option ℕ). Contains (option_to_list o) object) (sym number) (Contains-first object [] object refl))) found))

  -- what it selects is in all closed sets
  pub virtual_needed : (c : Call) → IsVirtual c → c.method.0 < length (methods_of classes) → IsCallFollowed p c → IsVirtualNeeded p c.named c.method.0
  virtual_needed c virtual there followed = record {
    classes = λ above is. λ methods made closed class target inside is_made receives found target_inside.
        followed methods made closed target
        (target_from made c virtual target target_inside (selected_of_class made c.named c.method.0 class above target is inside is_made receives found));
    arrays = λ target found.
        let from = Contains-from_filter_map (find c.method.0) (arrays c.named) target found in
        let target_inside = select_inside classes from.0 c.method.0 target there from.2 in
        record {
          inside = target_inside;
          needed = λ methods made closed.
              followed methods made closed target (target_from made c virtual target target_inside (selected_of_array made c.named c.method.0 target found));
        };
  }

  pub static_needed : (c : Call) → c.kind ≡ call.Static → IsCallFollowed p c → IsNeeded p c.method.0
  static_needed c static followed = λ methods made closed.
      followed methods made closed c.method.0
      (subst (λ (xs : List ℕ). Contains xs c.method.0) (sym (targets-static (narrowed p made) c static)) (Contains-first c.method.0 [] c.method.0 refl))

  pub special_needed : (c : Call) → c.kind ≡ call.Special → IsCallFollowed p c
      → IsNeeded p (special_target classes c.caller.0 (class_of_type c.named) c.method.0)
  special_needed c special followed =
      let target = special_target classes c.caller.0 (class_of_type c.named) c.method.0 in
      λ methods made closed.
      followed methods made closed target
      (subst (λ (xs : List ℕ). Contains xs target) (sym (targets-special (narrowed p made) c special)) (Contains-first target [] target refl))

  -- ---- what a call leads to is followed

  virtual_followed : (w : Sets) (c : Call) → IsWalk p w → ((class : ℕ) → has w.made class ≡ true → IsReceived p w class)
      → ((above : ℕ) → class_of_type c.named ≡ Some above → above < length classes) → IsListed p w c.named c.method.0 → (target : ℕ)
      → Contains (selected (narrowed p w.made) c.named c.method.0) target → has w.methods target ≡ true
  virtual_followed w c walk received there listed target found = ⊎_elim
      (λ (one : IsOfClass w.made c.named c.method.0 target).
      walk.selected one.above c.method.0 one.class target (listed.classes one.above one.named_is)
      (received one.class one.is_made one.above (there one.above one.named_is) one.receives) one.found)
      (λ array. listed.arrays target array) (selected_cases w.made c.named c.method.0 target found)

  -- where each class that is made is listed at all that take it
  pub leads_followed : (w : Sets) (c : Call) (k : CallKind) → c.kind ≡ k → IsWalk p w → ((class : ℕ) → has w.made class ≡ true → IsReceived p w class)
      → ((above : ℕ) → class_of_type c.named ≡ Some above → above < length classes) → LeadsInto p w c k → AreIn w.methods (targets (narrowed p w.made) c)
  leads_followed w c call.Static is walk received there leads = λ target found.
      let same = Contains-one c.method.0 target (subst (λ (xs : List ℕ). Contains xs target) (targets-static (narrowed p w.made) c is) found) in
      subst (λ (n : ℕ). has w.methods n ≡ true) (sym same) leads
  leads_followed w c call.Special is walk received there leads = λ target found.
      let special = special_target classes c.caller.0 (class_of_type c.named) c.method.0 in
      let same = Contains-one special target (subst (λ (xs : List ℕ). Contains xs target) (targets-special (narrowed p w.made) c is) found) in
      subst (λ (n : ℕ). has w.methods n ≡ true) (sym same) leads
  leads_followed w c call.Virtual is walk received there leads = λ target found.
      virtual_followed w c walk received there leads target (target_selected w.made c (inl is) target found)
  leads_followed w c call.Interface is walk received there leads = λ target found.
      virtual_followed w c walk received there leads target (target_selected w.made c (inr is) target found)
