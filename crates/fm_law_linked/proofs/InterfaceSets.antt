-- Superinterfaces of classes: those of a superclass and of a superinterface are ones of the class
-- itself; built-in classes have built-in ones, which declare no method, and those that classes of files bring that complete them.
use Rattle.std.proofs.Common.{◌≡◌, refl, sym, ◌∙◌, ap, ℕ, zero, suc, ◌<◌, ◌≤◌, ◌⊎◌, inl, inr, ◌&&◌, Bool, true, false, List, [], ◌∷◌, ◌++◌, length, map, replicate, nat_eq, nat_lt, Option, Some, None, is_none, arith, ⊎_elim}
use Rattle.std.specs.List.{cons_option, filter_map, flat_map, list_any}
use Rattle.std.proofs.lemmas.Bool.{cases_lt, eqb-true, false≢true, lt-ltb, or_cases, or_parts, or_right}
use Rattle.std.proofs.lemmas.List.{get_or_append_left}
use Rattle.fm_code.specs.AccessFlags.{is_interface}
use Rattle.fm_code.specs.declared.class_file.ClassDef.{ClassDef}
use Rattle.fm_world.proofs.Completions.{above_built_in, among_completed, count_is, IsAdded, number_first}
use Rattle.fm_link_supers.proofs.BuiltInParents.{are_completed}
use Rattle.fm_link_supers.proofs.Distinct.{among_distinct}
use Rattle.fm_link_supers.proofs.ParentRefusals.{tree_top}
use Rattle.fm_link_supers.proofs.InterfaceLemmas.{superinterfaces_past}
use Rattle.fm_link_supers.specs.inner.Hierarchy.{AreSound}
use Rattle.fm_law_linked.proofs.CellTypes.{built_in_at, table_false}
use Rattle.fm_law_linked.proofs.FieldOwners.{among_each}
use Rattle.fm_law_linked.proofs.ClassChains.{completed_above}
use Rattle.fm_types.proofs.ClassTree.{among_one, among-trans, interface-within}
use Rattle.fm_types.specs.Fits.{AreTree}
use Rattle.fm_world.proofs.Acyclic.{superinterfaces_of-listed}
use Rattle.fm_world.proofs.Displays.{class_number-within}
use Rattle.fm_world.specs.BuiltIns.{built_in, built_in_classes}
use Rattle.fm_world.specs.Chains.{chain_of, class_at, completion_of, interfaces_of, interfaces_within, is_among, listed_interfaces, superinterfaces_of, upwards}
use Rattle.fm_world.specs.Declarations.{declared_from, no_class}
use Rattle.fm_world.specs.Descriptors.{class_number}
use Rattle.fm_world.specs.Linking.{refused_built_ins}
use Rattle.fm_world.specs.Lookups.{is_interface_at}
use Rattle.fm_world.specs.Programs.{classes_of}
use Rattle.fm_world.specs.declared.declarations.DeclaredClass.{DeclaredClass}
use Rattle.fm_world.specs.inner.Completions.{AreCompleted}
use Rattle.fm_world.specs.inner.Tables.{numbers_below}
use Rattle.fm_link_refusals.proofs.Among.{in_flat}

-- ---- of superclasses and of superinterfaces

module _ (classes : List DeclaredClass) (sound : AreSound classes) where
  super_within : (bound class x y : ℕ) → class < length classes → is_among x (interfaces_within bound classes class) ≡ true
      → is_among y (superinterfaces_of classes x) ≡ true → is_among y (superinterfaces_of classes class) ≡ true
  super_within zero class x y within there above = absurd (false≢true there)
  super_within (suc bound) class x y within there above =
      let found = among_each (λ i. i ∷ interfaces_within bound classes i) (listed_interfaces classes class) x
      (sym (among_distinct x (flat_map (λ i. i ∷ interfaces_within bound classes i) (listed_interfaces classes class))) ∙ there) in
      let inside = interface-within classes found.0 (sound.only_interfaces class found.0 found.1.0) in
      let under : is_among y (superinterfaces_of classes found.0) ≡ true = ⊎_elim
      (λ same. ap (λ k. is_among y (superinterfaces_of classes k)) (sym (eqb-true x found.0 same)) ∙ above)
      (λ deeper. super_within bound found.0 x y inside deeper above)
      (or_cases (nat_eq x found.0) (is_among x (interfaces_within bound classes found.0)) found.1.1) in
      ap (is_among y) (superinterfaces_of-listed classes class (sound.acyclic.interfaces class within))
      ∙ among_distinct y (flat_map (λ i. i ∷ superinterfaces_of classes i) (listed_interfaces classes class))
      ∙ in_flat (λ i. i ∷ superinterfaces_of classes i) (listed_interfaces classes class) found.0 y found.1.0
      (or_right (nat_eq y found.0) (is_among y (superinterfaces_of classes found.0)) under)

  super_above : (class x y : ℕ) → is_among x (superinterfaces_of classes class) ≡ true → is_among y (superinterfaces_of classes x) ≡ true
      → is_among y (superinterfaces_of classes class) ≡ true
  unfolding superinterfaces_of
  super_above class x y there above = by_place (cases_lt class (length classes)) where
    by_place : (class < length classes) ⊎ (length classes ≤ class) → is_among y (superinterfaces_of classes class) ≡ true
    by_place (inl within) = super_within (suc (length classes)) class x y within there above
    by_place (inr past) = absurd (false≢true (sym (ap (is_among x) (superinterfaces_past classes class past)) ∙ there))

  pub in_interfaces : (class above x : ℕ) → is_among above (chain_of classes class) ≡ true → is_among x (superinterfaces_of classes above) ≡ true
      → is_among x (interfaces_of classes class) ≡ true
  unfolding interfaces_of
  in_interfaces class above x up there =
      among_distinct x (flat_map (superinterfaces_of classes) (chain_of classes class))
      ∙ in_flat (superinterfaces_of classes) (chain_of classes class) above x up there

  from_interfaces : (class x : ℕ) → is_among x (interfaces_of classes class) ≡ true
      → (above : ℕ) × ((is_among above (chain_of classes class) ≡ true) × (is_among x (superinterfaces_of classes above) ≡ true))
  unfolding interfaces_of
  from_interfaces class x there =
      among_each (superinterfaces_of classes) (chain_of classes class) x
      (sym (among_distinct x (flat_map (superinterfaces_of classes) (chain_of classes class))) ∙ there)

  -- those of a superclass
  pub interfaces_up : AreTree classes → (class above x : ℕ) → is_among above (chain_of classes class) ≡ true → is_among x (interfaces_of classes above) ≡ true
      → is_among x (interfaces_of classes class) ≡ true
  interfaces_up tree class above x up there =
      let found = from_interfaces above x there in
      in_interfaces class found.0 x (among-trans classes tree class above found.0 up found.1.0) found.1.1

  -- those of an interface that is implemented
  pub interfaces_above : (class n x : ℕ) → is_among n (interfaces_of classes class) ≡ true → is_among x (superinterfaces_of classes n) ≡ true
      → is_among x (interfaces_of classes class) ≡ true
  interfaces_above class n x there above =
      let found = from_interfaces class n there in
      in_interfaces class found.0 x found.1.0 (super_above found.0 n x found.1.1 above)

-- ---- built-in interfaces

abbrev bare : ℕ → Bool
bare k = is_interface_at built_in k && nat_lt 0 (length (class_at built_in k).methods)

marker_table : map bare (numbers_below built_in_classes) ≡ replicate built_in_classes false
unfolding built_in
marker_table = refl

-- a built-in interface declares no method
pub marker_bare : (given : List ClassDef) (class place : ℕ) → class < length built_in → is_interface_at (classes_of given) class ≡ true
    → place < length (class_at (classes_of given) class).methods → ⊥
marker_bare given class place within is inside =
    let low : class < built_in_classes = let count = count_is in omega (arith, within, count) in
    let same = built_in_at given class low in
    let many = ap (λ (c : DeclaredClass). length c.methods) same in
    let here : is_interface_at built_in class ≡ true = sym (ap (λ (c : DeclaredClass). is_interface c.flags) same) ∙ is in
    let some : nat_lt 0 (length (class_at built_in class).methods) ≡ true = lt-ltb 0 (length (class_at built_in class).methods) (omega (arith, many, inside)) in
    false≢true (sym (table_false bare marker_table class low) ∙ ap (λ b. b && nat_lt 0 (length (class_at built_in class).methods)) here ∙ some)

abbrev lacks : ℕ → Bool
lacks k = list_any (λ name. is_none (class_number built_in name)) (class_at built_in k).interfaces

lacks_table : map lacks (numbers_below built_in_classes) ≡ replicate built_in_classes false
unfolding built_in
lacks_table = refl

listed_low : (more : List DeclaredClass) (names : List (List ℕ)) → list_any (λ name. is_none (class_number built_in name)) names ≡ false → (i : ℕ)
    → is_among i (filter_map (class_number (built_in ++ more)) names) ≡ true → i < length built_in
listed_low more [] none i among = absurd (false≢true among)
listed_low more (name ∷ names) none i among =
    let parts = or_parts (is_none (class_number built_in name)) (list_any (λ n. is_none (class_number built_in n)) names) none in
    by_number (class_number built_in name) refl parts.0 (listed_low more names parts.1 i) where
      by_number : (o : Option ℕ) → class_number built_in name ≡ o → is_none o ≡ false
          → (is_among i (filter_map (class_number (built_in ++ more)) names) ≡ true → i < length built_in) → i < length built_in
      by_number None e found later = absurd (false≢true (sym found))
      by_number (Some j) e found later =
          ⊎_elim
          (λ here. let same = eqb-true i j here in let low = class_number-within built_in name j e in omega (arith, same, low))
          later
          (or_cases (nat_eq i j) (is_among i (filter_map (class_number (built_in ++ more)) names))
          (sym (ap (λ o. is_among i (cons_option o (filter_map (class_number (built_in ++ more)) names))) (number_first built_in more name j e)) ∙ among))

low_listed : (given : List ClassDef) (class i : ℕ) → class < length built_in → is_among i (listed_interfaces (classes_of given) class) ≡ true → i < length built_in
unfolding classes_of
low_listed given class i within among =
    let low : class < built_in_classes = let count = count_is in omega (arith, within, count) in
    let more = declared_from 0 given in
    listed_low more (class_at built_in class).interfaces (table_false lacks lacks_table class low) i
    (sym (ap (λ (c : DeclaredClass). is_among i (filter_map (class_number (built_in ++ more)) c.interfaces)) (get_or_append_left built_in more no_class class within)) ∙ among)

low_within : (given : List ClassDef) (bound class x : ℕ) → class < length built_in → is_among x (interfaces_within bound (classes_of given) class) ≡ true
    → x < length built_in
low_within given zero class x within among = absurd (false≢true among)
low_within given (suc bound) class x within among =
    let classes = classes_of given in
    let found = among_each (λ i. i ∷ interfaces_within bound classes i) (listed_interfaces classes class) x
    (sym (among_distinct x (flat_map (λ i. i ∷ interfaces_within bound classes i) (listed_interfaces classes class))) ∙ among) in
    let low = low_listed given class found.0 within found.1.0 in
    ⊎_elim
    (λ same. let is = eqb-true x found.0 same in omega (arith, is, low))
    (λ deeper. low_within given bound found.0 x low deeper)
    (or_cases (nat_eq x found.0) (is_among x (interfaces_within bound classes found.0)) found.1.1)

pub low_supers : (given : List ClassDef) (class x : ℕ) → class < length built_in → is_among x (superinterfaces_of (classes_of given) class) ≡ true
    → x < length built_in
unfolding superinterfaces_of
low_supers given class x within among = low_within given (suc (length (classes_of given))) class x within among

-- an interface of a class that a file completes
pub record IsBrought (given : List ClassDef) (class x : ℕ) : Type 0 where
  pub above : ℕ
  pub completing : ℕ
  pub within : above < length built_in
  pub up : is_among above (chain_of (classes_of given) class) ≡ true
  pub is : completion_of (classes_of given) (class_at (classes_of given) above) ≡ Some completing
  pub there : is_among x (interfaces_of (classes_of given) above) ≡ true

-- a built-in class has built-in interfaces, and those that what completes its superclasses brings
pub low_interfaces : (given : List ClassDef) → refused_built_ins given ≡ [] → AreSound (classes_of given) → (class x : ℕ) → class < length built_in
    → is_among x (interfaces_of (classes_of given) class) ≡ true → (x < length built_in) ⊎ IsBrought given class x
unfolding classes_of
low_interfaces given apart sound class x within among = by_place (above_built_in more completed class found.0 within found.1.0) where
  more : List DeclaredClass
  more = declared_from 0 given

  completed : AreCompleted (built_in ++ declared_from 0 given)
  completed = are_completed given apart

  found : (above : ℕ) × ((is_among above (chain_of (classes_of given) class) ≡ true) × (is_among x (superinterfaces_of (classes_of given) above) ≡ true))
  found = from_interfaces (classes_of given) sound class x among

  by_place : (found.0 < length built_in) ⊎ IsAdded more completed (chain_of built_in class) found.0 → (x < length built_in) ⊎ IsBrought given class x
  by_place (inl low) = inl (low_supers given found.0 x low found.1.1)
  by_place (inr added) = inr (record {
    above = added.class;
    completing = found.0;
    within = added.within;
    up = among_completed more completed class added.class within added.among;
    is = added.is;
    there = in_interfaces (classes_of given) sound added.class found.0 x (completed_above given apart added.class found.0 added.within added.is) found.1.1;
  })

nothing_up : (n : ℕ) (classes : List DeclaredClass) → upwards n classes None ≡ []
nothing_up zero classes = refl
nothing_up (suc n) classes = refl

-- Object has no superclass, and so only built-in interfaces
object_chain : (given : List ClassDef) → chain_of (classes_of given) 0 ≡ 0 ∷ []
unfolding chain_of
object_chain given =
    let classes = classes_of given in
    ap (λ o. 0 ∷ upwards (length classes) classes o) (tree_top given) ∙ ap (λ xs. 0 ∷ xs) (nothing_up (length classes) classes)

pub object_interfaces : (given : List ClassDef) → AreSound (classes_of given) → (x : ℕ) → is_among x (interfaces_of (classes_of given) 0) ≡ true → x < length built_in
object_interfaces given sound x among =
    let found = from_interfaces (classes_of given) sound 0 x among in
    let same : found.0 ≡ 0 = among_one found.0 0 (sym (ap (is_among found.0) (object_chain given)) ∙ found.1.0) in
    low_supers given 0 x (omega (arith, count_is)) (ap (λ k. is_among x (superinterfaces_of (classes_of given) k)) (sym same) ∙ found.1.1)
