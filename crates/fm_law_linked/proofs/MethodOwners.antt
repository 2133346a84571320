-- The class that declares a method that is found: above the class whose objects are called, or one of its interfaces. So a method is selected for each of these
-- objects, of a class that their type fits (JVMS 5.4.5).
use Rattle.std.proofs.Common.{◌≡◌, refl, sym, ◌∙◌, ap, subst, ℕ, ◌+◌, ◌-◌, ◌<◌, ◌≤◌, ◌⊎◌, inl, inr, ◌==◌, ◌&&◌, not, cond, Bool, true, false, List, [], ◌∷◌, ◌++◌, length, map, nat_eq, get_or, slice_get, position, codes, Option, Some, None, is_some, option_and_then, option_map, option_to_list, unwrap_or, zero-add, arith, ⊎_elim}
use Rattle.std.specs.List.{AllByRecursion, flat_map}
use Rattle.std.specs.Str.{bytes_eq}
use Rattle.std.proofs.lemmas.Bool.{cases_lt, eq-eqb, eqb-true, false≢true, or_cases, or_left}
use Rattle.std.proofs.lemmas.List.Folds.{list_any_at}
use Rattle.std.proofs.lemmas.List.Quantifiers.{position-Some}
use Rattle.std.proofs.lemmas.Option.{none-some, same_Some}
use Rattle.std.proofs.lemmas.Slice.Eq.{bytes_eq-Decides}
use Rattle.fm_base.proofs.ListFacts.{AllByRecursion-at, is_some-position}
use Rattle.fm_base.specs.declared.kinds.TypeRef.{TypeRef}
use Rattle.fm_code.specs.AccessFlags.{is_abstract, is_interface, is_private, is_static}
use Rattle.fm_code.specs.ConstantPool.{MemberName}
use Rattle.fm_code.specs.Names.{FieldType}
use Rattle.fm_code.specs.Profile.{IsSupported, MethodIsSupported}
use Rattle.fm_code.specs.Spells.{HasSpelling}
use Rattle.fm_code.specs.declared.class_file.ClassDef.{ClassDef}
use Rattle.fm_code.specs.declared.class_file.Member.{Member}
use Rattle.fm_code.specs.declared.constant_pool.Entry.{Entry}
use Rattle.fm_check_program.proofs.Trees.{no_built_in_refused, no_parent_refused, tree_of}
use Rattle.fm_world.proofs.Completions.{concrete-declared, count_is, interface-declared}
use Rattle.fm_link_supers.proofs.Downwards.{among_head, among_later, among_left, among_right}
use Rattle.fm_link_supers.proofs.HierarchyLemmas.{interfaces_only}
use Rattle.fm_link_supers.proofs.ParentRefusals.{are_sound, nil_left, nil_right, none_at, past_none, refused_not, tree_interfaces, tree_object}
use Rattle.fm_link_supers.specs.inner.Hierarchy.{AreSound}
use Rattle.fm_link_refusals.proofs.Among.{among_either}
use Rattle.fm_link_refusals.proofs.LeftOver.{left_over_parts}
use Rattle.fm_link_refusals.specs.inner.Abstracts.{left_over_by, left_over_of}
use Rattle.fm_link_refusals.specs.inner.LeftOver.{is_open}
use Rattle.fm_law_linked.proofs.ClassChains.{below_object}
use Rattle.fm_law_linked.proofs.FieldOwners.{all_inside, binary_found, found_among}
use Rattle.fm_law_linked.proofs.GivenFiles.{class_of_file, none_implemented, none_missing}
use Rattle.fm_law_linked.proofs.InterfaceCalls.{binary_type}
use Rattle.fm_law_linked.proofs.Overriding.{own_overrides}
use Rattle.fm_law_linked.proofs.InterfaceSets.{in_interfaces, interfaces_above, interfaces_up, IsBrought, low_interfaces, marker_bare}
use Rattle.fm_law_linked.proofs.SelectedMethods.{completed_left, files_counted, methods_at, OfClass, own_abstract, owned}
use Rattle.fm_law_linked.proofs.Selves.{completing_above, completing_self, interface_self, named_self, no_duplicate_refused, objects_self, self_above}
use Rattle.fm_link_supers.proofs.BuiltInParents.{completed_by, plain_completion, self_has_objects}
use Rattle.fm_law_linked.proofs.SpecialCalls.{file_implemented}
use Rattle.fm_world.proofs.OwnedMethods.{no_owned, own_method_found}
use Rattle.fm_world.proofs.OverridingLemmas.{overriding_own}
use Rattle.fm_law_sound.proofs.MadeObjects.{IsPlain}
use Rattle.fm_types.proofs.ClassTree.{among_one, among_own, among-trans, interface-within, object-within, seen_above, seen-object}
use Rattle.fm_types.proofs.Order.{below_objects-fits, level-fits}
use Rattle.fm_types.specs.Fits.{AreTree, fits_type, object_of}
use Rattle.fm_world.specs.BuiltIns.{built_in}
use Rattle.fm_world.specs.Causes.{abstract_call, abstract_methods, declared_name, is_left_over, left_over, method_text, NotImplemented, refused}
use Rattle.fm_world.specs.Chains.{chain_of, class_at, completing_of, first_found, interfaces_of, is_among, parent_of, self_of, superinterfaces_of}
use Rattle.fm_world.specs.Declarations.{declared_method, declared_of, no_method}
use Rattle.fm_world.specs.Descriptors.{class_number, class_type}
use Rattle.fm_world.specs.Linking.{refusals, refused_built_ins, refused_duplicates, refused_parents}
use Rattle.fm_world.specs.Lookups.{any_flags, class_searched, constructor_name, constructor_path, is_abstract_method, is_interface_at, is_selectable, method_path, object_number, overriding, own_selectable, resolved_method, select}
use Rattle.fm_world.specs.Members.{first_method, method_at, methods_from, methods_of, own_method, OwnedMethod}
use Rattle.fm_world.specs.Numbers.{type_of_class}
use Rattle.fm_world.specs.Programs.{class_of_type, classes_of, IsTypeIn}
use Rattle.fm_world.specs.Uses.{class_items}
use Rattle.fm_world.specs.declared.declarations.DeclaredClass.{DeclaredClass}
use Rattle.fm_world.specs.declared.declarations.DeclaredMethod.{DeclaredMethod}
use Rattle.fm_law_no_fault.proofs.BelowClasses.{parent_among}
use Rattle.fm_world.proofs.TypeTests.{class_type as type_of_its_class}

-- ---- lists

found_some : (find : ℕ → Option ℕ) (path : List ℕ) (x : ℕ) → is_among x path ≡ true → is_some (find x) ≡ true → is_some (first_found find path) ≡ true
found_some find [] x among some = absurd (false≢true among)
found_some find (y ∷ ys) x among some = by_first (find y) refl (found_some find ys x) (or_cases (nat_eq x y) (is_among x ys) among) where
  by_first : (o : Option ℕ) → find y ≡ o → (is_among x ys ≡ true → is_some (find x) ≡ true → is_some (first_found find ys) ≡ true)
      → (nat_eq x y ≡ true) ⊎ (is_among x ys ≡ true) → is_some (first_found find (y ∷ ys)) ≡ true
  by_first (Some j) e later which = rw e refl
  by_first None e later (inl same) = absurd (false≢true (sym (ap is_some (ap find (eqb-true x y same) ∙ e)) ∙ some))
  by_first None e later (inr rest) = rw e (later rest some)

-- ---- methods by their place

-- the method is the one at this place of the class
pub record IsMethodOf (classes : List DeclaredClass) (class method : ℕ) : Type 0 where
  pub place : ℕ
  pub inside : place < length (class_at classes class).methods
  pub at : method_at classes method ≡ owned class (get_or (class_at classes class).methods place no_method)

pub method_of : (classes : List DeclaredClass) (passes : ℕ → Bool) (name descriptor : List ℕ) (class method : ℕ)
    → own_method classes passes name descriptor class ≡ Some method → IsMethodOf classes class method
unfolding methods_of
method_of classes passes name descriptor class method is = by_place (position test methods) refl is where
  methods : List DeclaredMethod
  methods = (class_at classes class).methods

  test : DeclaredMethod → Bool
  test m = bytes_eq m.name name && bytes_eq m.descriptor descriptor && passes m.flags

  by_place : (o : Option ℕ) → position test methods ≡ o → option_map (λ k. first_method classes class + k) o ≡ Some method → IsMethodOf classes class method
  by_place None e found = absurd (none-some method found)
  by_place (Some k) e found =
      let inside = (position-Some test methods k no_method e).0 in
      record {
        place = k;
        inside = inside;
        at = ap (λ n. get_or (methods_from 0 classes) n no_owned) (sym (same_Some (first_method classes class + k) method found)) ∙ methods_at 0 classes class k inside
            ∙ ap (λ n. owned n (get_or methods k no_method)) (zero-add class);
      }

-- what any flags pass is found by those that it passes
own_passes : (classes : List DeclaredClass) (passes : ℕ → Bool) (class method : ℕ) → IsMethodOf classes class method
    → passes (method_at classes method).method.flags ≡ true
    → is_some (own_method classes passes (method_at classes method).method.name (method_at classes method).method.descriptor class) ≡ true
own_passes classes passes class method own passed =
    kept (position test methods) (is_some-position test methods ∙ list_any_at test methods own.place no_method own.inside tested) where
      m : DeclaredMethod
      m = (method_at classes method).method

      methods : List DeclaredMethod
      methods = (class_at classes class).methods

      test : DeclaredMethod → Bool
      test n = bytes_eq n.name m.name && bytes_eq n.descriptor m.descriptor && passes n.flags

      tested : test (get_or methods own.place no_method) ≡ true
      tested =
          let same = ap (λ (n : OwnedMethod). n.method) own.at in
          sym (ap test same)
          ∙ ap (λ b. b && bytes_eq m.descriptor m.descriptor && passes m.flags) ((bytes_eq-Decides m.name m.name).1 refl)
          ∙ ap (λ b. b && passes m.flags) ((bytes_eq-Decides m.descriptor m.descriptor).1 refl) ∙ passed

      kept : (o : Option ℕ) → is_some o ≡ true → is_some (option_map (λ k. first_method classes class + k) o) ≡ true
      kept None some = absurd (false≢true some)
      kept (Some k) some = refl

-- ---- methods of interfaces

-- a method of an interface that is supported is abstract, but for the start of the interface itself
abbrev IsBare : DeclaredMethod → Type 0
IsBare m = (is_abstract m.flags ≡ true) ⊎ (m.name ≡ codes "<clinit>")

bare_members : (in_interface : Bool) (entries : List Entry) (members : List Member) → in_interface ≡ true → AllByRecursion (MethodIsSupported in_interface entries) members
    → AllByRecursion IsBare (map (declared_method entries) members)
bare_members in_interface entries [] is supported = tt
bare_members in_interface entries (m ∷ members) is supported = (
  ⊎_elim (λ abstract. inl abstract) (λ named. inr (ap (λ o. unwrap_or o []) named)) (supported.0.head.of_interface is),
  bare_members in_interface entries members is supported.1,
)

abbrev HasBare : ℕ → DeclaredClass → Type 0
HasBare place c = is_interface c.flags ≡ true → place < length c.methods → IsBare (get_or c.methods place no_method)

interface_bare : (given : List ClassDef) → AllByRecursion IsSupported given → (class place : ℕ) → HasBare place (class_at (classes_of given) class)
interface_bare given supported class place is inside = by_place (cases_lt class (length built_in)) where
  file : (k : ℕ) → class ≡ length built_in + k → (o : Option ClassDef) → slice_get given k ≡ o
      → IsBare (get_or (class_at (classes_of given) class).methods place no_method)
  file k at None e =
      let past = past_none given k e in
      let within = interface-within (classes_of given) class is in
      absurd (let l = files_counted given in omega (arith, at, past, l, within))
  file k at (Some c) e =
      let declared = class_of_file given k c e in
      let same : class_at (classes_of given) class ≡ declared_of declared.number c = ap (class_at (classes_of given)) at ∙ declared.declared in
      subst (HasBare place) (sym same)
      (λ its there. all_inside IsBare (map (declared_method c.pool.entries) c.methods) place no_method
      (bare_members (is_interface c.flags) c.pool.entries c.methods (sym (interface-declared c) ∙ its) (AllByRecursion-at IsSupported given k c supported e).methods) there)
      is inside

  by_place : (class < length built_in) ⊎ (length built_in ≤ class) → IsBare (get_or (class_at (classes_of given) class).methods place no_method)
  by_place (inl own) = absurd (marker_bare given class place own is inside)
  by_place (inr later) = file (class - length built_in) (omega (arith, later)) (slice_get given (class - length built_in)) refl

-- ---- what is left over

-- of a class with objects no abstract method of an interface is left over
left_interface : (classes : List DeclaredClass) (c : ClassDef) (class above method : ℕ) → is_abstract c.flags ≡ false → is_interface c.flags ≡ false
    → left_over classes c class ≡ []
    → is_among above (interfaces_of classes class) ≡ true
    → is_among method (abstract_methods classes above) ≡ true
    → is_left_over classes class method ≡ false
left_interface classes c class above method concrete plain left among own =
    let all = nil_right (flat_map (left_over_of classes c class) (chain_of classes class)) (flat_map (left_over_of classes c class) (interfaces_of classes class))
    (sym (left_over_parts classes c class concrete plain) ∙ left) in
    let here = none_at (left_over_of classes c class) (interfaces_of classes class) above all among in
    refused_not (is_left_over classes class method) (refused NotImplemented c (method_text (declared_name classes method)))
    (none_at (left_over_by classes c class) (abstract_methods classes above) method here own)

not_left : (classes : List DeclaredClass) (class method : ℕ) → is_left_over classes class method ≡ false → is_some (select classes class method) ≡ true
not_left classes class method left = by_select (select classes class method) left where
  by_select : (o : Option ℕ) → is_open classes o ≡ false → is_some o ≡ true
  by_select None none_left = absurd (false≢true (sym none_left))
  by_select (Some found) none_left = refl

-- ---- the class that declares a method

-- above the class, or one of its interfaces
abbrev pub Reached : List ClassDef → ℕ → ℕ → Type 0
Reached given class owner =
    (is_among owner (chain_of (classes_of given) class) ≡ true) ⊎ (is_among owner (interfaces_of (classes_of given) class) ≡ true)

-- the class of the objects of a type
pub record IsReceiver (given : List ClassDef) (of : TypeRef) : Type 0 where
  pub class : ℕ
  pub is : unwrap_or (class_of_type of) (object_of (classes_of given)) ≡ class
  pub within : class < length (classes_of given)
  pub objects : length built_in ≤ class → IsPlain (classes_of given) class
  pub fits : (owner : ℕ) → Reached given class owner → fits_type (classes_of given) of (type_of_class owner) ≡ true

-- where the method that a pool entry names is found
pub record IsNamedMethod (given : List ClassDef) (member : MemberName) (method : ℕ) : Type 0 where
  pub searched : ℕ
  pub owner : ℕ
  pub path : is_among owner (method_path (classes_of given) searched) ≡ true
  pub own : own_method (classes_of given) any_flags member.name member.descriptor owner ≡ Some method
  pub of_class : (class : ℕ) → class_number (classes_of given) member.class ≡ Some class → searched ≡ class
  pub of_array : class_number (classes_of given) member.class ≡ None → searched ≡ 0
  pub exact : bytes_eq member.name constructor_name ≡ true → class_number (classes_of given) member.class ≡ Some (self_of (classes_of given) owner)

-- a method that is selected for the objects of a type
pub record IsSelected (given : List ClassDef) (of : TypeRef) (class method : ℕ) : Type 0 where
  pub target : ℕ
  pub selected : select (classes_of given) class method ≡ Some target
  pub receives : fits_type (classes_of given) of (type_of_class (self_of (classes_of given) (method_at (classes_of given) target).class)) ≡ true

module _ (given : List ClassDef) (main : List ℕ) (spelled : AllByRecursion HasSpelling given) (clean : refusals given main ≡ []) where
  abbrev classes : List DeclaredClass
  classes = classes_of given

  pub apart : refused_built_ins given ≡ []
  apart = no_built_in_refused given main clean

  pub new : refused_duplicates given ≡ []
  new = no_duplicate_refused given main clean

  pub no_bad : refused_parents given ≡ []
  no_bad = no_parent_refused given main clean

  pub tree : AreTree (classes_of given)
  tree = tree_of given spelled apart no_bad

  pub sound : AreSound (classes_of given)
  sound = are_sound given spelled apart no_bad

  pub first : object_of (classes_of given) ≡ 0
  first = ap (λ n. unwrap_or n 0) (tree_object given)

  pub object_top : (class : ℕ) → class < length (classes_of given) → is_among 0 (chain_of (classes_of given) class) ≡ true
  object_top class within =
      ap (λ k. is_among k (chain_of (classes_of given) class)) (sym first) ∙ below_object given spelled apart no_bad (none_missing given main clean) tree class within

  -- ---- along the path of a search

  abbrev path_by : Bool → ℕ → List ℕ
  path_by b n =
      cond b (n ∷ (superinterfaces_of classes n ++ option_to_list (object_number classes))) (chain_of classes n ++ interfaces_of classes n)

  -- of an interface: in it, in its superinterfaces or in Object
  pub path_cases : (n owner : ℕ) → is_interface_at (classes_of given) n ≡ true → is_among owner (method_path (classes_of given) n) ≡ true → (X : Type 0)
      → (owner ≡ n → X) → (is_among owner (superinterfaces_of (classes_of given) n) ≡ true → X) → (owner ≡ 0 → X) → X
  path_cases n owner is among X itself higher object =
      ⊎_elim (λ same. itself (eqb-true owner n same))
      (λ later. ⊎_elim higher
      (λ top. object (among_one owner 0 (sym (ap (λ x. is_among owner (option_to_list x)) (tree_object given)) ∙ top)))
      (among_either owner (superinterfaces_of classes n) (option_to_list (object_number classes)) later))
      (or_cases (nat_eq owner n) (is_among owner (superinterfaces_of classes n ++ option_to_list (object_number classes)))
      (sym (ap (λ b. is_among owner (path_by b n)) is) ∙ among))

  top_reached : (class owner : ℕ) → class < length classes → owner ≡ 0 → Reached given class owner
  top_reached class owner within object = inl (ap (λ k. is_among k (chain_of classes class)) object ∙ object_top class within)

  pub up_reached : (class n owner : ℕ) → class < length (classes_of given) → is_among n (chain_of (classes_of given) class) ≡ true
      → is_among owner (method_path (classes_of given) n) ≡ true → Reached given class owner
  up_reached class n owner within up among = by_sort (is_interface_at classes n) refl among where
    by_sort : (b : Bool) → is_interface_at classes n ≡ b → is_among owner (path_by b n) ≡ true → Reached given class owner
    by_sort true is h =
        path_cases n owner is among (Reached given class owner) (λ same. inl (ap (λ k. is_among k (chain_of classes class)) same ∙ up))
        (λ higher. inr (in_interfaces classes sound class n owner up higher)) (λ object. top_reached class owner within object)
    by_sort false is h =
        ⊎_elim (λ here. inl (among-trans classes tree class n owner up here)) (λ there. inr (interfaces_up classes sound tree class n owner up there))
        (among_either owner (chain_of classes n) (interfaces_of classes n) h)

  pub implemented_reached : (class n owner : ℕ) → class < length (classes_of given) → is_among n (interfaces_of (classes_of given) class) ≡ true
      → is_among owner (method_path (classes_of given) n) ≡ true → Reached given class owner
  implemented_reached class n owner within there among =
      path_cases n owner (interfaces_only classes sound class n there) among (Reached given class owner)
      (λ same. inr (ap (λ k. is_among k (interfaces_of classes class)) same ∙ there)) (λ higher. inr (interfaces_above classes sound class n owner there higher))
      (λ object. top_reached class owner within object)

  -- ---- the types of receivers

  interface_fits : (of : TypeRef) (class owner : ℕ) → is_among owner (interfaces_of classes class) ≡ true → fits_type classes of (type_of_class owner) ≡ true
  interface_fits of class owner there =
      below_objects-fits classes of (type_of_class owner) (omega arith)
      (or_left (is_interface_at classes owner) (owner == object_of classes) (interfaces_only classes sound class owner there))

  pub class_fits : (class owner : ℕ) → Reached given class owner → fits_type (classes_of given) (type_of_class class) (type_of_class owner) ≡ true
  class_fits class owner (inl among) = level-fits classes (type_of_class class) (type_of_class owner) refl among
  class_fits class owner (inr there) = interface_fits (type_of_class class) class owner there

  pub receiver : (of : TypeRef) → IsTypeIn (classes_of given) of → OfClass (classes_of given) (class_of_type of) → IsReceiver given of
  receiver of there objects = by_class_of (class_of_type of) refl where
    by_class_of : (o : Option ℕ) → class_of_type of ≡ o → IsReceiver given of
    by_class_of None e = record {
      class = object_of classes;
      is = ap (λ c. unwrap_or c (object_of classes)) e;
      within = object-within classes tree;
      objects = λ past. absurd (omega (arith, first, past, count_is));
      fits = λ owner reached.
          ⊎_elim
          (λ among. below_objects-fits classes of (type_of_class owner) (omega arith) (seen_above classes tree (object_of classes) owner (seen-object classes) among))
          (λ implemented. interface_fits of (object_of classes) owner implemented) reached;
    }
    by_class_of (Some class) e = record {
      class = class;
      is = ap (λ c. unwrap_or c (object_of classes)) e;
      within = subst (IsTypeIn classes) (type_of_its_class of class e) there;
      objects = λ past. subst (OfClass classes) e objects;
      fits = λ owner reached. ap (λ t. fits_type classes t (type_of_class owner)) (type_of_its_class of class e) ∙ class_fits class owner reached;
    }

  -- ---- what a pool entry names

  searched_class : (name : List ℕ) (class : ℕ) → class_number classes name ≡ Some class → class_searched classes name ≡ Some class
  searched_class name class is =
      ap (λ (t : FieldType). cond (t.dimensions == 0) (class_number classes name) (object_number classes))
      (binary_type name (binary_found given spelled name class is)) ∙ is

  searched_array : (name : List ℕ) (n : ℕ) → class_number classes name ≡ None → class_searched classes name ≡ Some n → n ≡ 0
  searched_array name n none_there is = by_dims ((class_type name).dimensions == 0) is where
    by_dims : (b : Bool) → cond b (class_number classes name) (object_number classes) ≡ Some n → n ≡ 0
    by_dims true h = absurd (none-some n (sym none_there ∙ h))
    by_dims false h = sym (same_Some 0 n (sym (tree_object given) ∙ h))

  own_path : (k : ℕ) → is_among k (method_path classes k) ≡ true
  own_path k = by_sort (is_interface_at classes k) where
    by_sort : (b : Bool) → is_among k (path_by b k) ≡ true
    by_sort true = among_head k (superinterfaces_of classes k ++ option_to_list (object_number classes))
    by_sort false = among_left k (chain_of classes k) (interfaces_of classes k) (among_own classes k (omega (arith, object-within classes tree)))

  -- what completes a class is on its path
  completing_path : (k above : ℕ) → is_among above (completing_of (classes_of given) k) ≡ true → is_among above (method_path (classes_of given) k) ≡ true
  completing_path k above among = by_sort (is_interface_at classes k) refl where
    parent : parent_of (classes_of given) k ≡ Some above
    parent = completing_above given new apart k above among

    by_sort : (b : Bool) → is_interface_at classes k ≡ b → is_among above (path_by b k) ≡ true
    by_sort true e =
        let object = same_Some above 0 (sym parent ∙ tree_interfaces given spelled apart no_bad k e) in
        among_later above k (superinterfaces_of classes k ++ option_to_list (object_number classes))
        (among_right above (superinterfaces_of classes k) (option_to_list (object_number classes))
        (ap (λ x. is_among above (option_to_list x)) (tree_object given) ∙ or_left (nat_eq above 0) false (eq-eqb above 0 object)))
    by_sort false e =
        among_left above (chain_of classes k) (interfaces_of classes k)
        (parent_among classes (omega (arith, object-within classes tree)) k above parent)

  pub named_method : (member : MemberName) (method : ℕ) → resolved_method (classes_of given) member ≡ Some method → IsNamedMethod given member method
  unfolding resolved_method
  named_method member method is = by_name (bytes_eq member.name constructor_name) refl is where
    find : ℕ → Option ℕ
    find = own_method (classes_of given) any_flags member.name member.descriptor

    by_number : (o : Option ℕ) → class_number (classes_of given) member.class ≡ o → option_and_then (λ class. first_found find (constructor_path (classes_of given) class)) o ≡ Some method
        → IsNamedMethod given member method
    by_number None f h = absurd (none-some method h)
    by_number (Some k) f h =
        let found = found_among find (constructor_path (classes_of given) k) method h in
        let which = or_cases (nat_eq found.0 k) (is_among found.0 (completing_of (classes_of given) k)) found.1.0 in
        let self : self_of (classes_of given) found.0 ≡ k =
        ⊎_elim (λ same. ap (self_of (classes_of given)) (eqb-true found.0 k same) ∙ named_self given new apart member.class k f)
        (λ above. completing_self given new apart member.class k found.0 f above) which in
        record {
          searched = k;
          owner = found.0;
          path =
              ⊎_elim (λ same. ap (λ n. is_among n (method_path (classes_of given) k)) (eqb-true found.0 k same) ∙ own_path k)
              (λ above. completing_path k found.0 above) which;
          own = found.1.1;
          of_class = λ class g. same_Some k class (sym f ∙ g);
          of_array = λ g. absurd (none-some k (sym g ∙ f));
          exact = λ named. f ∙ ap (λ n. Some n) (sym self);
        }

    by_searched : bytes_eq member.name constructor_name ≡ false → (o : Option ℕ) → class_searched (classes_of given) member.class ≡ o
        → option_and_then (λ class. first_found find (method_path (classes_of given) class)) o ≡ Some method → IsNamedMethod given member method
    by_searched ordinary None f h = absurd (none-some method h)
    by_searched ordinary (Some n) f h =
        let found = found_among find (method_path (classes_of given) n) method h in
        record {
          searched = n;
          owner = found.0;
          path = found.1.0;
          own = found.1.1;
          of_class = λ class g. same_Some n class (sym f ∙ searched_class member.class class g);
          of_array = λ g. searched_array member.class n g f;
          exact = λ named. absurd (false≢true (sym ordinary ∙ named));
        }

    by_name : (b : Bool) → bytes_eq member.name constructor_name ≡ b
        → cond b (option_and_then (λ class. first_found find (constructor_path (classes_of given) class)) (class_number (classes_of given) member.class))
        (option_and_then (λ class. first_found find (method_path (classes_of given) class)) (class_searched (classes_of given) member.class)) ≡ Some method
        → IsNamedMethod given member method
    by_name true e h = by_number (class_number (classes_of given) member.class) refl h
    by_name false e h = by_searched e (class_searched (classes_of given) member.class) refl h

  -- ---- what is selected

  chain_some : (class owner method : ℕ) → IsMethodOf classes owner method → is_static (method_at classes method).method.flags ≡ false
      → is_among owner (chain_of classes class) ≡ true → is_some (select classes class method) ≡ true
  unfolding select
  chain_some class owner method own static among = by_private (is_private m.flags) refl where
    m : DeclaredMethod
    m = (method_at (classes_of given) method).method

    by_private : (b : Bool) → is_private m.flags ≡ b
        → is_some (cond b (Some method) (first_found (overriding (classes_of given) (method_at (classes_of given) method)) (chain_of (classes_of given) class))) ≡ true
    by_private true e = refl
    by_private false e =
        found_some (overriding (classes_of given) (method_at (classes_of given) method)) (chain_of (classes_of given) class) owner among
        (ap (λ b. is_some (cond b (own_selectable (classes_of given) (method_at (classes_of given) method) owner) None))
        (own_overrides (classes_of given) tree (method_at (classes_of given) method) owner (ap (λ (n : OwnedMethod). n.class) own.at))
        ∙ own_passes (classes_of given) is_selectable owner method own (ap (λ s. not s && not (is_private m.flags)) static ∙ ap not e))

  -- what is selected for objects of a superclass, or another method, is selected
  select_up : (class above method : ℕ) → is_among above (chain_of classes class) ≡ true → is_some (select classes above method) ≡ true
      → is_some (select classes class method) ≡ true
  unfolding select
  select_up class above method up = by_private (is_private m.flags) where
    m : DeclaredMethod
    m = (method_at (classes_of given) method).method

    find : ℕ → Option ℕ
    find = overriding (classes_of given) (method_at (classes_of given) method)

    by_found : (o : Option ℕ) → first_found find (chain_of (classes_of given) above) ≡ o → is_some o ≡ true
        → is_some (first_found find (chain_of (classes_of given) class)) ≡ true
    by_found None e some = absurd (false≢true some)
    by_found (Some target) e some =
        let path = found_among find (chain_of (classes_of given) above) target e in
        found_some find (chain_of (classes_of given) class) path.0 (among-trans (classes_of given) tree class above path.0 up path.1.0) (ap is_some path.1.1)

    by_private : (b : Bool) → is_some (cond b (Some method) (first_found find (chain_of (classes_of given) above))) ≡ true
        → is_some (cond b (Some method) (first_found find (chain_of (classes_of given) class))) ≡ true
    by_private true some = refl
    by_private false some = by_found (first_found find (chain_of (classes_of given) above)) refl some

  implemented_some : AllByRecursion IsSupported given → (name descriptor : List ℕ) (class owner method : ℕ) → own_method classes any_flags name descriptor owner ≡ Some method
      → class < length classes → (length built_in ≤ class → IsPlain classes class)
      → bytes_eq (method_at classes method).method.name (codes "<clinit>") ≡ false
      → is_among owner (interfaces_of classes class) ≡ true → is_some (select classes class method) ≡ true
  implemented_some supported name descriptor class owner method found within objects plain there = by_place (cases_lt class (length built_in)) where
    own : IsMethodOf (classes_of given) owner method
    own = method_of (classes_of given) any_flags name descriptor owner method found

    is : is_interface_at (classes_of given) owner ≡ true
    is = interfaces_only (classes_of given) sound class owner there

    abstract_here : is_abstract_method (classes_of given) method ≡ true
    abstract_here =
        ⊎_elim (λ yes. yes)
        (λ named. absurd (false≢true (sym plain ∙ (bytes_eq-Decides (method_at (classes_of given) method).method.name (codes "<clinit>")).1 named)))
        (subst IsBare (sym (ap (λ (n : OwnedMethod). n.method) own.at)) (interface_bare given supported owner own.place is own.inside))

    of_completed : IsBrought given class owner → is_some (select (classes_of given) class method) ≡ true
    of_completed b =
        let by = completed_by given apart b.above b.completing b.within b.is in
        let plain = plain_completion (class_at built_in b.above) by.file by.completes_it in
        select_up class b.above method b.up
        (not_left (classes_of given) b.above method
        (left_interface (classes_of given) by.file b.above owner method plain.1 plain.0
        (completed_left given apart (none_implemented given main clean) b.above b.completing b.within b.is) b.there
        (own_abstract (classes_of given) any_flags name descriptor owner method found abstract_here)))

    of_file : (j : ℕ) → class ≡ length built_in + j → (o : Option ClassDef) → slice_get given j ≡ o → is_some (select (classes_of given) class method) ≡ true
    of_file j at None e = absurd (let end = past_none given j e in let l = files_counted given in omega (arith, at, end, l, within))
    of_file j at (Some c) e =
        let declared = class_of_file given j c e in
        let here : class_at (classes_of given) class ≡ declared_of declared.number c = ap (class_at (classes_of given)) at ∙ declared.declared in
        let its = objects (omega (arith, at)) in
        let left = ap (left_over (classes_of given) c) (sym (self_has_objects given class its.0))
        ∙ nil_left (left_over (classes_of given) c (self_of (classes_of given) class)) (flat_map (abstract_call (classes_of given) c class) (class_items c))
        (ap (λ k. left_over (classes_of given) c (self_of (classes_of given) k) ++ flat_map (abstract_call (classes_of given) c k) (class_items c)) at
        ∙ file_implemented given j c (none_implemented given main clean) e) in
        let concrete = concrete-declared c (sym (ap (λ (d : DeclaredClass). is_abstract d.flags) here) ∙ its.0) in
        not_left (classes_of given) class method
        (left_interface (classes_of given) c class owner method concrete.0
        (sym (interface-declared c) ∙ sym (ap (λ (d : DeclaredClass). is_interface d.flags) here) ∙ its.1) left there
        (own_abstract (classes_of given) any_flags name descriptor owner method found abstract_here))

    by_place : (class < length built_in) ⊎ (length built_in ≤ class) → is_some (select (classes_of given) class method) ≡ true
    by_place (inl low) =
        ⊎_elim (λ built. absurd (marker_bare given owner own.place built is own.inside)) (λ brought. of_completed brought)
        (low_interfaces given apart sound class owner low there)
    by_place (inr later) = of_file (class - length built_in) (omega (arith, later)) (slice_get given (class - length built_in)) refl

  -- what is reached is completed by what is reached
  pub self_reached : (class owner : ℕ) → self_of (classes_of given) class ≡ class → Reached given class owner → Reached given class (self_of (classes_of given) owner)
  self_reached class owner own (inl among) = inl (self_above given new apart class owner own among)
  self_reached class owner own (inr there) =
      inr (ap (λ k. is_among k (interfaces_of (classes_of given) class)) (interface_self given new apart owner (interfaces_only (classes_of given) sound class owner there))
      ∙ there)

  -- a method is selected of a class whose methods have objects that fit
  target_fits : (of : TypeRef) (r : IsReceiver given of) (owner method target : ℕ) → IsMethodOf classes owner method → Reached given r.class owner
      → select classes r.class method ≡ Some target → fits_type classes of (type_of_class (self_of classes (method_at classes target).class)) ≡ true
  unfolding select
  target_fits of r owner method target own reached is = by_private (is_private m.flags) is where
    m : DeclaredMethod
    m = (method_at (classes_of given) method).method

    completes_none : self_of (classes_of given) r.class ≡ r.class
    completes_none = objects_self given new apart r.class (λ past. (r.objects past).0)

    self : ℕ → ℕ
    self = self_of (classes_of given)

    by_private : (b : Bool)
        → cond b (Some method) (first_found (overriding (classes_of given) (method_at (classes_of given) method)) (chain_of (classes_of given) r.class)) ≡ Some target
        → fits_type (classes_of given) of (type_of_class (self_of (classes_of given) (method_at (classes_of given) target).class)) ≡ true
    by_private true h =
        ap (λ n. fits_type (classes_of given) of (type_of_class (self (method_at (classes_of given) n).class))) (sym (same_Some method target h))
        ∙ ap (λ (n : OwnedMethod). fits_type (classes_of given) of (type_of_class (self n.class))) own.at
        ∙ r.fits (self owner) (self_reached r.class owner completes_none reached)
    by_private false h =
        let its = method_at (classes_of given) method in
        let path = found_among (overriding (classes_of given) its) (chain_of (classes_of given) r.class) target h in
        let found = own_method_found (classes_of given) is_selectable m.name m.descriptor path.0 target (overriding_own (classes_of given) its path.0 target path.1.1).1 in
        ap (λ k. fits_type (classes_of given) of (type_of_class (self k))) found.owner
        ∙ r.fits (self path.0) (self_reached r.class path.0 completes_none (inl path.1.0))

  pub selects : AllByRecursion IsSupported given → (of : TypeRef) (r : IsReceiver given of) (name descriptor : List ℕ) (owner method : ℕ)
      → own_method (classes_of given) any_flags name descriptor owner ≡ Some method → is_static (method_at (classes_of given) method).method.flags ≡ false
      → bytes_eq (method_at (classes_of given) method).method.name (codes "<clinit>") ≡ false → Reached given r.class owner → IsSelected given of r.class method
  selects supported of r name descriptor owner method found static plain reached = by_found (select (classes_of given) r.class method) refl some where
    own : IsMethodOf (classes_of given) owner method
    own = method_of (classes_of given) any_flags name descriptor owner method found

    some : is_some (select (classes_of given) r.class method) ≡ true
    some =
        ⊎_elim (λ among. chain_some r.class owner method own static among)
        (λ there. implemented_some supported name descriptor r.class owner method found r.within r.objects plain there) reached

    by_found : (o : Option ℕ) → select (classes_of given) r.class method ≡ o → is_some o ≡ true → IsSelected given of r.class method
    by_found None e none_found = absurd (false≢true none_found)
    by_found (Some target) e there = record { target = target; selected = e; receives = target_fits of r owner method target own reached e }
