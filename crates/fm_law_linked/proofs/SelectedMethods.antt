-- No abstract method is selected for an object: each one that is left over is refused (JVMS 5.4.5).
use Rattle.std.proofs.Common.{◌≡◌, refl, sym, ◌∙◌, ap, subst, ℕ, zero, suc, ◌+◌, ◌-◌, ◌<◌, ◌≤◌, ◌⊎◌, inl, inr, ◌&&◌, not, Bool, true, false, cond, List, [], ◌∷◌, ◌++◌, length, map, slice_get, get_or, take, position, Option, Some, None, option_map, unwrap_or, length-append, zero-add, arith}
use Rattle.std.specs.Prelude.{is_none, is_some, option_to_list}
use Rattle.std.specs.List.{AllByRecursion, flat_map, list_any}
use Rattle.std.specs.Str.{bytes_eq}
use Rattle.std.proofs.lemmas.Bool.{and_parts, cases_lt, not-true, or_parts}
use Rattle.std.proofs.lemmas.List.{get_or-append-add, get_or-map, get_or_append_left, length-map}
use Rattle.std.proofs.lemmas.List.Quantifiers.{position-Some}
use Rattle.std.proofs.lemmas.List.Sums.{sum_by-cons}
use Rattle.std.proofs.lemmas.Option.{none-some, same_Some}
use Rattle.std.proofs.lemmas.Slice.Eq.{bytes_eq-Decides}
use Rattle.fm_base.proofs.ListFacts.{AllByRecursion-append, AllByRecursion-get_or}
use Rattle.fm_base.specs.declared.kinds.TypeRef.{TypeRef}
use Rattle.fm_code.specs.AccessFlags.{is_abstract, is_interface, is_private, is_static}
use Rattle.fm_code.specs.Spells.{HasSpelling}
use Rattle.fm_code.specs.declared.class_file.ClassDef.{ClassDef}
use Rattle.fm_code.specs.declared.class_file.Member.{Member}
use Rattle.fm_code.specs.declared.constant_pool.Entry.{Entry}
use Rattle.fm_world.proofs.Completions.{all_inside, before_past, chain_completed, completing, concrete-declared, count_is, interface-declared, is_past_table, with_completions}
use Rattle.fm_link_members.proofs.NearestLemmas.{first_found-cons}
use Rattle.fm_link_members.specs.inner.NearestSteps.{or_else}
use Rattle.fm_link_supers.proofs.BuiltInParents.{are_completed, completed_by, plain_completion, self_has_objects, self_of_completion}
use Rattle.fm_link_supers.proofs.Downwards.{among_head, among_right}
use Rattle.fm_link_supers.proofs.ParentRefusals.{tree_object, length-declared, nil_left, none_at, past_none, refused_not}
use Rattle.fm_link_refusals.proofs.LeftOver.{left_over_parts}
use Rattle.fm_link_refusals.specs.inner.Abstracts.{left_over_by, left_over_of}
use Rattle.fm_link_refusals.specs.inner.LeftOver.{is_open}
use Rattle.fm_law_linked.proofs.ClassChains.{completed_above}
use Rattle.fm_law_linked.proofs.FieldOwners.{found_among}
use Rattle.fm_law_linked.proofs.GivenFiles.{class_of_file}
use Rattle.fm_law_linked.proofs.Numbers.{owner_there}
use Rattle.fm_law_linked.proofs.Overriding.{down_overrides, own_overrides, package_same, selected_again}
use Rattle.fm_law_linked.proofs.Rows.{all_methods}
use Rattle.fm_law_linked.proofs.SpecialCalls.{file_implemented}
use Rattle.fm_law_linked.proofs.Steps.{none_abstract, private_there, table_concrete}
use Rattle.fm_world.proofs.OwnedMethods.{IsFound, no_owned, own_method_found}
use Rattle.fm_world.proofs.OverridingLemmas.{either_none, overriding_own}
use Rattle.fm_law_sound.proofs.MadeObjects.{IsPlain}
use Rattle.fm_law_sound.specs.Sound.{HasObjects}
use Rattle.fm_types.proofs.ClassTree.{among_one, chain_past_end}
use Rattle.fm_types.specs.Fits.{AreTree, object_of}
use Rattle.fm_world.specs.BuiltIns.{built_in}
use Rattle.fm_world.specs.Causes.{abstract_call, abstract_from, abstract_methods, declared_name, is_left_over, left_over, method_text, NotImplemented, refused}
use Rattle.fm_world.specs.Chains.{chain_of, class_at, completion_of, first_found, given_number, interfaces_of, is_among, parent_of, self_of, upwards}
use Rattle.fm_world.specs.Declarations.{declared_from, declared_method, declared_of, no_class, no_method}
use Rattle.fm_world.specs.Linking.{refused_built_ins, refused_not_implemented}
use Rattle.fm_world.specs.Lookups.{can_override, is_abstract_method, is_selectable, overriding, own_selectable, select}
use Rattle.fm_world.specs.Members.{first_method, method_at, methods_from, methods_of, own_method, owned_methods, OwnedMethod}
use Rattle.fm_world.specs.Programs.{class_of_type, classes_of, outline_of}
use Rattle.fm_world.specs.Uses.{class_items}
use Rattle.fm_world.specs.inner.Completions.{AreCompleted}
use Rattle.fm_world.specs.declared.declarations.DeclaredClass.{DeclaredClass}
use Rattle.fm_world.specs.declared.declarations.DeclaredMethod.{DeclaredMethod}

-- ---- a method by its number

abbrev pub owned : ℕ → DeclaredMethod → OwnedMethod
owned class m = record { class = class; method = m }

pub methods_at : (number : ℕ) (classes : List DeclaredClass) (class j : ℕ) → j < length (class_at classes class).methods
    → get_or (methods_from number classes) (first_method classes class + j) no_owned ≡ owned (number + class) (get_or (class_at classes class).methods j no_method)
methods_at number [] class j inside = absurd (omega (arith, inside))
methods_at number (c ∷ classes) zero j inside =
    let long = length-map c.methods (owned number) in
    let same : number ≡ number + 0 = omega arith in
    get_or_append_left (owned_methods number c) (methods_from (number + 1) classes) no_owned (0 + j) (omega (arith, long, inside))
    ∙ ap (λ i. get_or (owned_methods number c) i no_owned) (omega arith) ∙ get_or-map (owned number) c.methods j no_method no_owned inside
    ∙ ap (λ n. owned n (get_or c.methods j no_method)) same
methods_at number (c ∷ classes) (suc class) j inside =
    let long = length-map c.methods (owned number) in
    let before = first_method classes class in
    let counted = sum_by-cons (λ (d : DeclaredClass). length d.methods) c (take class classes) in
    let place : first_method (c ∷ classes) (suc class) + j ≡ length (owned_methods number c) + (before + j) = omega (arith, long, counted) in
    let same : number + 1 + class ≡ number + suc class = omega arith in
    ap (λ i. get_or (methods_from number (c ∷ classes)) i no_owned) place
    ∙ get_or-append-add (owned_methods number c) (methods_from (number + 1) classes) (before + j) no_owned
    ∙ methods_at (number + 1) classes class j inside ∙ ap (λ n. owned n (get_or (class_at classes class).methods j no_method)) same

-- ---- abstract methods of a class

abstract_there : (number : ℕ) (methods : List DeclaredMethod) (k : ℕ) → k < length methods → is_abstract (get_or methods k no_method).flags ≡ true
    → is_among (number + k) (abstract_from number methods) ≡ true
abstract_there number [] k within is = absurd (omega (arith, within))
abstract_there number (m ∷ methods) zero within is =
    let rest = abstract_from (number + 1) methods in
    let same : number + 0 ≡ number = omega arith in
    ap (λ b. is_among (number + 0) (cond b (number ∷ []) [] ++ rest)) is ∙ ap (λ n. is_among n (number ∷ rest)) same ∙ among_head number rest
abstract_there number (m ∷ methods) (suc k) within is =
    let same : number + suc k ≡ number + 1 + k = omega arith in
    among_right (number + suc k) (cond (is_abstract m.flags) (number ∷ []) []) (abstract_from (number + 1) methods)
    (ap (λ n. is_among n (abstract_from (number + 1) methods)) same ∙ abstract_there (number + 1) methods k (omega (arith, within)) is)

pub own_abstract : (classes : List DeclaredClass) (passes : ℕ → Bool) (name descriptor : List ℕ) (class target : ℕ)
    → own_method classes passes name descriptor class ≡ Some target
    → is_abstract_method classes target ≡ true
    → is_among target (abstract_methods classes class) ≡ true
unfolding methods_of
own_abstract classes passes name descriptor class target is abstract = by_place (position test methods) refl is where
  methods : List DeclaredMethod
  methods = (class_at classes class).methods

  test : DeclaredMethod → Bool
  test m = bytes_eq m.name name && bytes_eq m.descriptor descriptor && passes m.flags

  by_place : (o : Option ℕ) → position test methods ≡ o → option_map (λ k. first_method classes class + k) o ≡ Some target
      → is_among target (abstract_methods classes class) ≡ true
  by_place None e found = absurd (none-some target found)
  by_place (Some k) e found =
      let inside = (position-Some test methods k no_method e).0 in
      let same : first_method classes class + k ≡ target = same_Some (first_method classes class + k) target found in
      let here : method_at classes target ≡ owned class (get_or methods k no_method) =
      ap (λ n. get_or (methods_from 0 classes) n no_owned) (sym same) ∙ methods_at 0 classes class k inside
      ∙ ap (λ n. owned n (get_or methods k no_method)) (zero-add class) in
      ap (λ n. is_among n (abstract_methods classes class)) (sym same)
      ∙ abstract_there (first_method classes class) methods k inside (sym (ap (λ (m : OwnedMethod). is_abstract m.method.flags) here) ∙ abstract)

-- ---- methods of built-in classes

abbrev IsBuiltInConcrete : OwnedMethod → Type 0
IsBuiltInConcrete m = m.class < length built_in → is_abstract m.method.flags ≡ false

each_built_in : (methods : List OwnedMethod) → none_abstract methods ≡ true → AllByRecursion IsBuiltInConcrete methods
each_built_in [] all = tt
each_built_in (m ∷ methods) all =
    let parts = and_parts (not (is_abstract m.method.flags)) (none_abstract methods) all in
    (λ within. not-true (is_abstract m.method.flags) parts.0, each_built_in methods parts.1)

members_past : (class : ℕ) (entries : List Entry) (members : List Member) → length built_in ≤ class
    → AllByRecursion IsBuiltInConcrete (map (λ m. record { class = class; method = m }) (map (declared_method entries) members))
members_past class entries [] past = tt
members_past class entries (m ∷ members) past = (λ within. absurd (omega (arith, within, past)), members_past class entries members past)

files_past : (class file : ℕ) (given : List ClassDef) → length built_in ≤ class
    → AllByRecursion IsBuiltInConcrete (methods_from class (declared_from file given))
files_past class file [] past = tt
files_past class file (c ∷ given) past =
    AllByRecursion-append IsBuiltInConcrete (map (λ m. record { class = class; method = m }) (map (declared_method c.pool.entries) c.methods))
    (methods_from (class + 1) (declared_from (file + 1) given)) (members_past class c.pool.entries c.methods past)
    (files_past (class + 1) (file + 1) given (omega (arith, past)))

-- a method of a built-in class isn't abstract
built_in_concrete : (given : List ClassDef) (method : ℕ) → (method_at (classes_of given) method).class < length built_in
    → is_abstract_method (classes_of given) method ≡ false
built_in_concrete given method =
    AllByRecursion-get_or IsBuiltInConcrete (methods_of (classes_of given)) (record { class = 0; method = no_method })
    (subst (AllByRecursion IsBuiltInConcrete) (sym (all_methods given))
    (AllByRecursion-append IsBuiltInConcrete (methods_of built_in) (methods_from (length built_in) (declared_from 0 given))
    (each_built_in (methods_of built_in) table_concrete) (files_past (length built_in) 0 given (omega arith))))
    (λ within. refl) method

-- ---- methods of files

pub files_counted : (given : List ClassDef) → length (classes_of given) ≡ length built_in + length given
unfolding classes_of
files_counted given =
    let all = length-append built_in (declared_from 0 given) in let declared = length-declared 0 given in omega (arith, all, declared)

-- of a class with objects no abstract method is left over
left_none : (classes : List DeclaredClass) (c : ClassDef) (class above target : ℕ) → is_abstract c.flags ≡ false → is_interface c.flags ≡ false
    → left_over classes c class ≡ []
    → is_among above (chain_of classes class) ≡ true
    → is_among target (abstract_methods classes above) ≡ true
    → is_left_over classes class target ≡ false
left_none classes c class above target concrete plain left among own =
    let all = nil_left (flat_map (left_over_of classes c class) (chain_of classes class)) (flat_map (left_over_of classes c class) (interfaces_of classes class))
    (sym (left_over_parts classes c class concrete plain) ∙ left) in
    let here = none_at (left_over_of classes c class) (chain_of classes class) above all among in
    refused_not (is_left_over classes class target) (refused NotImplemented c (method_text (declared_name classes target)))
    (none_at (left_over_by classes c class) (abstract_methods classes above) target here own)

-- a method that overrides itself first is selected for itself
selected_itself : (classes : List DeclaredClass) (class target : ℕ) → is_private (method_at classes target).method.flags ≡ false
    → first_found (overriding classes (method_at classes target)) (chain_of classes class) ≡ Some target
    → select classes class target ≡ Some target
unfolding select
selected_itself classes class target other is =
    ap (λ b. cond b (Some target) (first_found (overriding classes (method_at classes target)) (chain_of classes class))) other ∙ is

-- what is selectable isn't private
not_private : (flags : ℕ) → is_selectable flags ≡ true → is_private flags ≡ false
not_private flags passes = not-true (is_private flags) (and_parts (not (is_static flags)) (not (is_private flags)) passes).1

-- ---- objects of built-in classes

-- the second of a list
second_found : (find : ℕ → Option ℕ) (k f : ℕ) (rest : List ℕ) (target : ℕ) → find k ≡ None → find f ≡ Some target → first_found find (k ∷ f ∷ rest) ≡ Some target
second_found find k f rest target none some =
    first_found-cons find k (f ∷ rest) ∙ ap (λ o. or_else o (first_found find (f ∷ rest))) none
    ∙ first_found-cons find f rest ∙ ap (λ o. or_else o (first_found find rest)) some

module _ (given : List ClassDef) (apart : refused_built_ins given ≡ []) (none_refused : refused_not_implemented given ≡ []) where
  -- of the objects of a class that a file completes no abstract method is left over
  pub completed_left : (class f : ℕ) (within : class < length built_in)
      (is : completion_of (classes_of given) (class_at (classes_of given) class) ≡ Some f)
      → left_over (classes_of given) (completed_by given apart class f within is).file class ≡ []
  completed_left class f within is =
      let classes = classes_of given in
      let by = completed_by given apart class f within is in
      ap (left_over classes by.file) (sym (ap (self_of classes) (sym by.is) ∙ self_of_completion given apart class f within is))
      ∙ nil_left (left_over classes by.file (self_of classes (length built_in + by.place)))
      (flat_map (abstract_call classes by.file (length built_in + by.place)) (class_items by.file))
      (file_implemented given by.place by.file none_refused by.at)

  module _ (tree : AreTree (classes_of given)) (m : OwnedMethod) where
    abbrev find : ℕ → Option ℕ
    find = overriding (classes_of given) m

    abbrev first : List DeclaredClass
    first = declared_from 0 given

    completed : AreCompleted (built_in ++ declared_from 0 given)
    unfolding classes_of
    completed = are_completed given apart

    -- what completes a class has its name
    completion_named : (class f : ℕ) → completion_of (classes_of given) (class_at (classes_of given) class) ≡ Some f
        → (class_at (classes_of given) class).name ≡ (class_at (classes_of given) f).name
    completion_named class f is = by_file (is_none (class_at (classes_of given) class).file) is where
      test : DeclaredClass → Bool
      test c = bytes_eq c.name (class_at (classes_of given) class).name && is_some c.file

      by_file : (b : Bool) → cond b (given_number (classes_of given) (class_at (classes_of given) class).name) None ≡ Some f
          → (class_at (classes_of given) class).name ≡ (class_at (classes_of given) f).name
      by_file false h = absurd (none-some f h)
      by_file true h =
          let there = (position-Some test (classes_of given) f no_class h).1 in
          let named = (and_parts (bytes_eq (class_at (classes_of given) f).name (class_at (classes_of given) class).name) (is_some (class_at (classes_of given) f).file) there).0 in
          sym ((bytes_eq-Decides (class_at (classes_of given) f).name (class_at (classes_of given) class).name).0 named)

    -- what is found in the class that completes another one, where that one has none
    at_completion : (class f target : ℕ) → class < length built_in → completion_of (classes_of given) (class_at (classes_of given) class) ≡ Some f
        → find class ≡ None → find f ≡ Some target → is_abstract_method (classes_of given) target ≡ false
    unfolding classes_of chain_of
    at_completion class f target within is none some = by_flag (is_abstract_method classes target) refl where
      classes : List DeclaredClass
      classes = classes_of given

      parts : (can_override (classes_of given) m f ≡ true) × (own_selectable (classes_of given) m f ≡ Some target)
      parts = overriding_own (classes_of given) m f target some

      its : OwnedMethod
      its = method_at (classes_of given) target

      found : IsFound (classes_of given) is_selectable m.method.name m.method.descriptor f target
      found = own_method_found (classes_of given) is_selectable m.method.name m.method.descriptor f target parts.1

      above : is_among f (chain_of (classes_of given) class) ≡ true
      above = completed_above given apart class f within is

      -- the class has none of its own: it would have overridden the method too
      no_own : (o : Option ℕ) → own_selectable (classes_of given) m class ≡ o → o ≡ None
      no_own None e = refl
      no_own (Some k) e =
          let can = down_overrides (classes_of given) tree m class f above
          (package_same (classes_of given) class f (completion_named class f is)) parts.0 in
          absurd (none-some k (sym none ∙ ap (λ b. cond b (own_selectable (classes_of given) m class) None) can ∙ e))

      named : (x : ℕ) → own_selectable (classes_of given) its x ≡ own_selectable (classes_of given) m x
      named x =
          ap (λ a. own_method (classes_of given) is_selectable a its.method.descriptor x) found.name_is
          ∙ ap (λ a. own_method (classes_of given) is_selectable m.method.name a x) found.descriptor_is

      here : overriding (classes_of given) its class ≡ None
      here =
          ap (λ o. cond (can_override (classes_of given) its class) o None) (named class ∙ no_own (own_selectable (classes_of given) m class) refl)
          ∙ either_none (can_override (classes_of given) its class)

      there : overriding (classes_of given) its f ≡ Some target
      there =
          ap (λ b. cond b (own_selectable (classes_of given) its f) None) (own_overrides (classes_of given) tree its f found.owner) ∙ named f ∙ parts.1

      itself : first_found (overriding (classes_of given) its) (chain_of (classes_of given) class) ≡ Some target
      itself =
          let rest = with_completions first completed (upwards (length built_in) built_in (parent_of built_in class)) in
          ap (first_found (overriding (classes_of given) its)) (chain_completed first completed class within)
          ∙ ap (λ o. first_found (overriding (classes_of given) its) ((class ∷ option_to_list o) ++ rest)) is
          ∙ second_found (overriding (classes_of given) its) class f rest target here there

      by_flag : (b : Bool) → is_abstract_method classes target ≡ b → is_abstract_method classes target ≡ false
      by_flag false e = e
      by_flag true e =
          let by = completed_by given apart class f within is in
          let plain = plain_completion (class_at built_in class) by.file by.completes_it in
          let kept = left_none classes by.file class f target plain.1 plain.0 (completed_left class f within is) above
          (own_abstract classes is_selectable m.method.name m.method.descriptor f target parts.1 e) in
          sym (ap (is_open classes) (selected_itself classes class target (not_private its.method.flags found.flags) itself)) ∙ kept

    along : (xs : List ℕ) → list_any is_past_table xs ≡ false → (target : ℕ) → first_found find (with_completions first completed xs) ≡ Some target
        → is_abstract_method (classes_of given) target ≡ false
    unfolding classes_of
    along [] inside target is = absurd (none-some target is)
    along (class ∷ xs) inside target is =
        let parts = or_parts (is_past_table class) (list_any is_past_table xs) inside in
        by_own (before_past class parts.0) (along xs parts.1 target) (find class) refl
        (sym (first_found-cons find class (option_to_list (completing first class) ++ rest)) ∙ is) where
          rest : List ℕ
          rest = with_completions first completed xs

          by_file : class < length built_in → find class ≡ None → (first_found find rest ≡ Some target → is_abstract_method (classes_of given) target ≡ false)
              → (f : ℕ) → completing first class ≡ Some f → (o : Option ℕ) → find f ≡ o → or_else o (first_found find rest) ≡ Some target
              → is_abstract_method (classes_of given) target ≡ false
          by_file within none later f e None there h = later h
          by_file within none later f e (Some t) there h = at_completion class f target within e none (there ∙ h)

          by_completion : class < length built_in → find class ≡ None → (first_found find rest ≡ Some target → is_abstract_method (classes_of given) target ≡ false)
              → (o : Option ℕ) → completing first class ≡ o → first_found find (option_to_list o ++ rest) ≡ Some target
              → is_abstract_method (classes_of given) target ≡ false
          by_completion within none later None e h = later h
          by_completion within none later (Some f) e h = by_file within none later f e (find f) refl (sym (first_found-cons find f rest) ∙ h)

          by_own : class < length built_in → (first_found find rest ≡ Some target → is_abstract_method (classes_of given) target ≡ false)
              → (o : Option ℕ) → find class ≡ o → or_else o (first_found find (option_to_list (completing first class) ++ rest)) ≡ Some target
              → is_abstract_method (classes_of given) target ≡ false
          by_own within later None none h = by_completion within none later (completing first class) refl h
          by_own within later (Some t) there h =
              let found = own_method_found (classes_of given) is_selectable m.method.name m.method.descriptor class target
              (overriding_own (classes_of given) m class target (there ∙ h)).1 in
              built_in_concrete given target (let owner = found.owner in omega (arith, owner, within))

    -- what overrides the method for objects of a built-in class isn't abstract
    pub low_concrete : (class target : ℕ) → class < length built_in
        → first_found (overriding (classes_of given) m) (chain_of (classes_of given) class) ≡ Some target
        → is_abstract_method (classes_of given) target ≡ false
    unfolding classes_of
    low_concrete class target within is =
        along (chain_of built_in class) (all_inside class within) target
        (sym (ap (first_found find) (chain_completed first completed class within)) ∙ is)

-- what overrides a method for objects of a class, of a file or built in, isn't abstract
found_concrete : (given : List ClassDef) → refused_built_ins given ≡ [] → refused_not_implemented given ≡ [] → AreTree (classes_of given)
    → (m : OwnedMethod) (class target : ℕ)
    → (length built_in ≤ class → IsPlain (classes_of given) class)
    → first_found (overriding (classes_of given) m) (chain_of (classes_of given) class) ≡ Some target
    → is_abstract_method (classes_of given) target ≡ false
found_concrete given apart none_refused tree m class target objects is =
    by_flag (is_abstract_method classes target) refl where
      classes : List DeclaredClass
      classes = classes_of given

      path : (above : ℕ) × ((is_among above (chain_of (classes_of given) class) ≡ true) × (overriding (classes_of given) m above ≡ Some target))
      path = found_among (overriding (classes_of given) m) (chain_of (classes_of given) class) target is

      own : own_selectable (classes_of given) m path.0 ≡ Some target
      own = (overriding_own (classes_of given) m path.0 target path.1.1).1

      found : IsFound (classes_of given) is_selectable m.method.name m.method.descriptor path.0 target
      found = own_method_found (classes_of given) is_selectable m.method.name m.method.descriptor path.0 target own

      past : length classes ≤ class → ⊥
      past h =
          let same : path.0 ≡ class = among_one path.0 class (sym (ap (is_among path.0) (chain_past_end classes class h)) ∙ path.1.0) in
          let owner = owner_there given target in
          let its = found.owner in
          omega (arith, same, owner, its, h)

      long : length classes ≡ length built_in + length given
      long = files_counted given

      itself : select classes class target ≡ Some target
      itself = selected_itself classes class target (not_private (method_at classes target).method.flags found.flags) (selected_again classes tree m class target is)

      of_file : (j : ℕ) → class ≡ length built_in + j → is_abstract_method classes target ≡ true → (o : Option ClassDef) → slice_get given j ≡ o
          → is_abstract_method classes target ≡ false
      of_file j place abstract None e = absurd (past (let end = past_none given j e in omega (arith, place, long, end)))
      of_file j place abstract (Some c) e =
          let declared = class_of_file given j c e in
          let here : class_at classes class ≡ declared_of declared.number c = ap (class_at classes) place ∙ declared.declared in
          let its = objects (omega (arith, place)) in
          let left = ap (left_over classes c) (sym (self_has_objects given class its.0))
          ∙ nil_left (left_over classes c (self_of classes class)) (flat_map (abstract_call classes c class) (class_items c))
          (ap (λ k. left_over classes c (self_of classes k) ++ flat_map (abstract_call classes c k) (class_items c)) place
          ∙ file_implemented given j c none_refused e) in
          let concrete = concrete-declared c (sym (ap (λ (d : DeclaredClass). is_abstract d.flags) here) ∙ its.0) in
          let kept = left_none classes c class path.0 target concrete.0
          (sym (interface-declared c) ∙ sym (ap (λ (d : DeclaredClass). is_interface d.flags) here) ∙ its.1) left path.1.0
          (own_abstract classes is_selectable m.method.name m.method.descriptor path.0 target own abstract) in
          sym (ap (is_open classes) itself) ∙ kept

      by_place : is_abstract_method classes target ≡ true → (class < length built_in) ⊎ (length built_in ≤ class) → is_abstract_method classes target ≡ false
      by_place abstract (inl low) = low_concrete given apart none_refused tree m class target low is
      by_place abstract (inr later) = of_file (class - length built_in) (omega (arith, later)) abstract (slice_get given (class - length built_in)) refl

      by_flag : (b : Bool) → is_abstract_method classes target ≡ b → is_abstract_method classes target ≡ false
      by_flag false e = e
      by_flag true e = by_place e (cases_lt class (length built_in))

-- ---- what is selected

selected_concrete : (given : List ClassDef) → AllByRecursion HasSpelling given → refused_built_ins given ≡ [] → refused_not_implemented given ≡ []
    → AreTree (classes_of given) → (class method target : ℕ)
    → (length built_in ≤ class → IsPlain (classes_of given) class)
    → select (classes_of given) class method ≡ Some target
    → is_abstract_method (classes_of given) target ≡ false
unfolding select
selected_concrete given spelled apart none_refused tree class method target objects is =
    by_private (is_private (method_at (classes_of given) method).method.flags) refl is where
      classes : List DeclaredClass
      classes = classes_of given

      by_private : (b : Bool) → is_private (method_at (classes_of given) method).method.flags ≡ b
          → cond b (Some method) (first_found (overriding classes (method_at classes method)) (chain_of classes class)) ≡ Some target
          → is_abstract_method classes target ≡ false
      by_private true e same = sym (ap (is_abstract_method classes) (same_Some method target same)) ∙ private_there given spelled method e
      by_private false e found = found_concrete given apart none_refused tree (method_at classes method) class target objects found

-- what is required of the class of a type, if it has one
abbrev pub OfClass : List DeclaredClass → Option ℕ → Type 0
OfClass classes None = Unit {0}
OfClass classes (Some class) = IsPlain classes class

-- Object is built in
object_first : (given : List ClassDef) → length built_in ≤ object_of (classes_of given) → ⊥
object_first given past =
    let first : object_of (classes_of given) ≡ 0 = ap (λ o. unwrap_or o 0) (tree_object given) in omega (arith, first, past, count_is)

-- no abstract method is selected for an object, be it an array
pub selected_there : (given : List ClassDef) (main : List ℕ) → AllByRecursion HasSpelling given → refused_built_ins given ≡ []
    → refused_not_implemented given ≡ [] → AreTree (classes_of given) → (t : TypeRef) (method target : ℕ) → HasObjects (outline_of given main) t
    → select (outline_of given main).classes (unwrap_or (class_of_type t) (object_of (outline_of given main).classes)) method ≡ Some target
    → is_abstract_method (outline_of given main).classes target ≡ false
unfolding outline_of
selected_there given main spelled apart none_refused tree t method target objects is = by_class (class_of_type t) refl where
  classes : List DeclaredClass
  classes = classes_of given

  by_class : (o : Option ℕ) → class_of_type t ≡ o → is_abstract_method classes target ≡ false
  by_class None e =
      selected_concrete given spelled apart none_refused tree (object_of classes) method target (λ past. absurd (object_first given past))
      (sym (ap (λ c. select classes (unwrap_or c (object_of classes)) method) e) ∙ is)
  by_class (Some class) e =
      selected_concrete given spelled apart none_refused tree class method target (λ past. subst (OfClass classes) e objects)
      (sym (ap (λ c. select classes (unwrap_or c (object_of classes)) method) e) ∙ is)
