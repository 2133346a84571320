-- Calls of linked programs meet objects for which a method is selected, invokespecial leads to methods of the own class and above, and constructors are of exactly
-- the class that is named (JVMS 5.4.5, 6.5.invokespecial).
use Rattle.std.proofs.Common.{◌≡◌, refl, sym, ◌∙◌, ap, subst, ℕ, ◌<◌, ◌⊎◌, inl, inr, ◌==◌, ◌||◌, ◌&&◌, not, cond, Bool, true, false, List, [], ◌∷◌, ◌++◌, length, drop, nat_lt, nat_eq, slice_get, Option, Some, None, option_and_then, option_map, option_to_list, unwrap_or, arith, ⊎_elim}
use Rattle.std.specs.List.{AllByRecursion}
use Rattle.std.specs.Str.{bytes_eq}
use Rattle.std.proofs.lemmas.Bool.{and_parts, eqb-true, false≢true, ltb-true, or_cases, or_parts, or_right}
use Rattle.std.proofs.lemmas.Option.{same_Some}
use Rattle.fm_base.specs.declared.ids.MethodId.{MethodId}
use Rattle.fm_base.specs.declared.ids.TypeId.{TypeId}
use Rattle.fm_base.specs.declared.kinds.Base.{Base}
use Rattle.fm_base.specs.declared.kinds.Base.TheVariants as base
use Rattle.fm_base.specs.declared.kinds.TypeRef.{TypeRef}
use Rattle.fm_code.specs.Profile.{IsSupported}
use Rattle.fm_code.specs.Spells.{HasSpelling}
use Rattle.fm_code.specs.declared.class_file.ClassDef.{ClassDef}
use Rattle.fm_code.specs.declared.code_array.Code.{Code}
use Rattle.fm_code.specs.declared.instructions.Insn.TheVariants as insn
use Rattle.fm_check_program.proofs.Trees.{no_built_in_refused}
use Rattle.fm_world.proofs.Completions.{count_is}
use Rattle.fm_link_supers.proofs.HierarchyLemmas.{interfaces_only, superinterfaces_only}
use Rattle.fm_link_supers.proofs.ParentRefusals.{tree_object_is_class}
use Rattle.fm_law_linked.proofs.Calls.{call_there, IsCall}
use Rattle.fm_law_linked.proofs.CellTypes.{above_built_in, above_seen}
use Rattle.fm_law_linked.proofs.FieldOwners.{binary_found, found_among}
use Rattle.fm_law_linked.proofs.GivenFiles.{no_method_refused}
use Rattle.fm_law_linked.proofs.InterfaceCalls.{binary_type, type_named}
use Rattle.fm_law_linked.proofs.InterfaceSets.{low_supers, marker_bare, object_interfaces}
use Rattle.fm_law_linked.proofs.Messages.{below_inside, below_of}
use Rattle.fm_law_linked.proofs.MethodOwners.{apart, class_fits, first, implemented_reached, IsMethodOf, IsNamedMethod, IsReceiver, method_of, named_method, new, object_top, path_cases, Reached, receiver, selects, self_reached, sound, tree, up_reached}
use Rattle.fm_law_linked.proofs.NamedMethods.{virtual_of_class}
use Rattle.fm_law_linked.proofs.Numbers.{owner_there}
use Rattle.fm_law_linked.proofs.Selves.{self_twice, selves_there}
use Rattle.fm_law_linked.proofs.SpecialCalls.{member_class, number_named}
use Rattle.fm_world.proofs.OwnedMethods.{own_method_found}
use Rattle.fm_law_sound.specs.Resolved.{IsNamed}
use Rattle.fm_types.proofs.ClassTree.{among_own, among-trans, object-within}
use Rattle.fm_types.specs.CallRows.{is_constructor, is_initializer, names_own_or_above}
use Rattle.fm_types.specs.Fits.{fits_type, is_seen_as_object, object_of}
use Rattle.fm_types.specs.Named.{this_class}
use Rattle.fm_law_no_fault.specs.CellsResolved.{CallsFit, IsMet, Selects}
use Rattle.fm_world.specs.BuiltIns.{built_in}
use Rattle.fm_world.specs.Chains.{chain_of, class_at, first_found, interfaces_of, is_above_arrays, is_among, is_sub, is_sub_base, self_of, superclasses_of, superinterfaces_of}
use Rattle.fm_world.specs.Descriptors.{class_number, class_type, of_class, type_in, type_with}
use Rattle.fm_world.specs.Linking.{refusals}
use Rattle.fm_world.specs.Lookups.{any_flags, constructor_name, is_interface_at, method_path, object_number, own_instance, searches_above, select, special_target}
use Rattle.fm_world.specs.Members.{is_instance, method_at, OwnedMethod}
use Rattle.fm_world.specs.Numbers.{type_of_class}
use Rattle.fm_world.specs.Programs.{class_of_type, classes_of, Outline, outline_of, program_of}
use Rattle.fm_world.specs.declared.declarations.DeclaredClass.{DeclaredClass}
use Rattle.fm_world.specs.declared.uses.Use.TheVariants as resolved
use Rattle.fm_link_refusals.proofs.Among.{among_either}

no_class_of : (dims : ℕ) (b : Base) → 0 < dims → class_of_type (record { dims = dims; base = b }) ≡ None
no_class_of dims b positive = by_flag (dims == 0) refl where
  by_flag : (zero_dims : Bool) → (dims == 0) ≡ zero_dims → class_of_type (record { dims = dims; base = b }) ≡ None
  by_flag true is = let none = eqb-true dims 0 is in absurd (omega (arith, positive, none))
  by_flag false is = rw is refl

-- ---- what a call names

module _ (given : List ClassDef) (main : List ℕ) (spelled : AllByRecursion HasSpelling given) (clean : refusals given main ≡ []) where
  abbrev classes : List DeclaredClass
  classes = classes_of given

  abbrev o : Outline
  o = outline_of given main

  module _ (code : Code) (caller index method type : ℕ) (wanted : Bool) (call : IsCall given (outline_of given main) code caller index method type wanted) (named : TypeRef) (at : slice_get (outline_of given main).types type ≡ Some named) where
    -- the class that is named is that of the type
    type_is : (class : ℕ) → class_number (classes_of given) call.at.member.class ≡ Some class → named ≡ type_of_class class
    unfolding outline_of
    type_is class found =
        let entries = call.file.pool.entries in
        let of_type = type_named (outline_of given main) entries index type named call.at.type_is at in
        let same : of_type.name ≡ call.at.member.class =
        same_Some of_type.name call.at.member.class (sym of_type.named ∙ member_class entries index call.at.member call.at.named) in
        sym (same_Some (type_of_class class) named
        (sym (ap (λ n. option_and_then (type_with 0) (option_map of_class n)) found)
        ∙ ap (type_in (classes_of given)) (sym (binary_type call.at.member.class (binary_found given spelled call.at.member.class class found)))
        ∙ ap (λ n. type_in (classes_of given) (class_type n)) (sym same) ∙ of_type.type_is))

    -- and the class of the type is the one that is named
    number_is : (class : ℕ) → class_of_type named ≡ Some class → class_number (classes_of given) call.at.member.class ≡ Some class
    unfolding outline_of
    number_is = number_named given spelled (outline_of given main) code caller index method type wanted call named at

    where_named : IsNamedMethod given call.at.member method
    unfolding outline_of
    where_named = named_method given main spelled clean call.at.member method call.at.found

  -- ---- invokespecial

  among_drop : (x : ℕ) (xs : List ℕ) → is_among x (drop 1 xs) ≡ true → is_among x xs ≡ true
  among_drop x [] among = among
  among_drop x (y ∷ ys) among = or_right (nat_eq x y) (is_among x ys) among

  -- what is called is of the class of the own objects, of one above it or of an interface of it, where the method that is named is
  special_reached : (own method owner : ℕ) (named : Option ℕ) → (method_at classes method).class ≡ owner → Reached given (self_of classes own) owner
      → fits_type classes (type_of_class (self_of classes own)) (type_of_class (self_of classes (method_at classes (special_target classes own named method)).class)) ≡ true
  unfolding special_target
  special_reached own method owner named owner_is reached =
      by_search (searches_above (classes_of given) own named (method_at (classes_of given) method).method.name) where
        this : ℕ
        this = self_of (classes_of given) own

        Fits : ℕ → Type 0
        Fits class = fits_type (classes_of given) (type_of_class this) (type_of_class (self_of (classes_of given) class)) ≡ true

        -- a class that is reached from that of the own objects
        from_this : (class : ℕ) → Reached given this class → Fits class
        from_this class there =
            class_fits given main spelled clean this (self_of (classes_of given) class)
            (self_reached given main spelled clean this class (self_twice given (new given main spelled clean) (apart given main spelled clean) own) there)

        itself : Fits (method_at (classes_of given) method).class
        itself = subst Fits (sym owner_is) (from_this owner reached)

        find : ℕ → Option ℕ
        find = own_instance (classes_of given) method

        by_found : (o : Option ℕ) → first_found find (superclasses_of (classes_of given) own) ≡ o
            → Fits (method_at (classes_of given) (unwrap_or o method)).class
        by_found None e = itself
        by_found (Some target) e =
            let path = found_among find (superclasses_of (classes_of given) own) target e in
            let m = (method_at (classes_of given) method).method in
            let found = own_method_found (classes_of given) is_instance m.name m.descriptor path.0 target path.1.1 in
            subst Fits (sym found.owner)
            (from_this path.0
            (inl (among-trans (classes_of given) (tree given main spelled clean) this own path.0
            (selves_there given (new given main spelled clean) (apart given main spelled clean) own)
            (among_drop path.0 (chain_of (classes_of given) own) path.1.0))))

        by_search : (b : Bool)
            → Fits (method_at (classes_of given) (cond b (unwrap_or (first_found find (superclasses_of (classes_of given) own)) method) method)).class
        by_search true = by_found (first_found find (superclasses_of (classes_of given) own)) refl
        by_search false = itself

  special_fits : (method index : ℕ) (m : MethodId) (t : TypeId) (named : TypeRef) → IsNamed (program_of given main) method (insn.Special index) (resolved.OfMethod m t)
      → slice_get (outline_of given main).types t.0 ≡ Some named → names_own_or_above (outline_of given main) (this_class (outline_of given main) method) named ≡ true
      → fits_type (classes_of given) (type_of_class (self_of (classes_of given) (method_at (classes_of given) method).class))
      (type_of_class (self_of (classes_of given)
      (method_at (classes_of given) (special_target (classes_of given) (method_at (classes_of given) method).class (class_of_type named) m.0)).class)) ≡ true
  unfolding outline_of
  special_fits method index m t named x at above = by_class_of (class_of_type named) refl above where
    own : ℕ
    own = (method_at (classes_of given) method).class

    this : ℕ
    this = self_of (classes_of given) own

    call : IsCall given (outline_of given main) x.code own index m.0 t.0 false
    call =
        call_there given main (no_method_refused given main clean) method x.item x.code (insn.Special index) index m t false x.code_is x.insn_is refl x.use_is refl

    it : IsNamedMethod given call.at.member m.0
    it = where_named x.code own index m.0 t.0 false call named at

    is_above : Option ℕ → Bool
    is_above None = false
    is_above (Some c) = is_among c (chain_of (classes_of given) this)

    by_class_of : (found : Option ℕ) → class_of_type named ≡ found → is_above found ≡ true
        → fits_type (classes_of given) (type_of_class this)
        (type_of_class (self_of (classes_of given) (method_at (classes_of given) (special_target (classes_of given) own (class_of_type named) m.0)).class)) ≡ true
    by_class_of None e up = absurd (false≢true up)
    by_class_of (Some c) e up =
        let searched = it.of_class c (number_is x.code own index m.0 t.0 false call named at c e) in
        let owner_is = (method_of (classes_of given) any_flags call.at.member.name call.at.member.descriptor it.owner m.0 it.own).at in
        special_reached own m.0 it.owner (class_of_type named) (ap (λ (n : OwnedMethod). n.class) owner_is)
        (up_reached given main spelled clean this it.searched it.owner
        (below_inside (classes_of given) this own (selves_there given (new given main spelled clean) (apart given main spelled clean) own) (owner_there given method))
        (ap (λ k. is_among k (chain_of (classes_of given) this)) searched ∙ up) it.path)

  -- a constructor is called itself
  constructor_itself : (own method : ℕ) (named : Option ℕ) → bytes_eq (method_at classes method).method.name constructor_name ≡ true
      → special_target classes own named method ≡ method
  unfolding special_target
  constructor_itself own method None is = refl
  constructor_itself own method (Some c) is =
      ap (λ b. cond (not b && is_among c (superclasses_of (classes_of given) own))
      (unwrap_or (first_found (own_instance (classes_of given) method) (superclasses_of (classes_of given) own)) method) method) is

  constructed_class : (method index : ℕ) (m : MethodId) (t : TypeId) (named : TypeRef) → IsNamed (program_of given main) method (insn.Special index) (resolved.OfMethod m t)
      → slice_get (outline_of given main).types t.0 ≡ Some named → bytes_eq (method_at (classes_of given) m.0).method.name constructor_name ≡ true
      → class_of_type named ≡ Some (self_of (classes_of given)
      (method_at (classes_of given) (special_target (classes_of given) (method_at (classes_of given) method).class (class_of_type named) m.0)).class)
  unfolding outline_of
  constructed_class method index m t named x at constructor =
      let own = (method_at (classes_of given) method).class in
      let call = call_there given main (no_method_refused given main clean) method x.item x.code (insn.Special index) index m t false x.code_is x.insn_is refl x.use_is refl in
      let it = where_named x.code own index m.0 t.0 false call named at in
      let found = own_method_found (classes_of given) any_flags call.at.member.name call.at.member.descriptor it.owner m.0 it.own in
      let number = it.exact (ap (λ n. bytes_eq n constructor_name) (sym found.name_is) ∙ constructor) in
      ap class_of_type (type_is x.code own index m.0 t.0 false call named at (self_of (classes_of given) it.owner) number)
      ∙ ap (λ k. Some (self_of (classes_of given) k)) (sym found.owner)
      ∙ ap (λ n. Some (self_of (classes_of given) (method_at (classes_of given) n).class)) (sym (constructor_itself own m.0 (class_of_type named) constructor))

  -- ---- invokevirtual and invokeinterface

  -- an object that a call meets is of a class from which the method that is named is reached
  virtual_reached : (code : Code) (caller index method type : ℕ) (wanted : Bool) (call : IsCall given (outline_of given main) code caller index method type wanted)
      (named of : TypeRef) → slice_get (outline_of given main).types type ≡ Some named
      → ((class : ℕ) → class_of_type named ≡ Some class → is_interface_at (classes_of given) class ≡ false)
      → fits_type (classes_of given) of named ≡ true → (r : IsReceiver given of) (it : IsNamedMethod given call.at.member method) → Reached given r.class it.owner
  virtual_reached code caller index method type wanted call named of at no_interface fits r it =
      by_number (class_number (classes_of given) call.at.member.class) refl where
        up : (n : ℕ) → it.searched ≡ n → is_among n (chain_of (classes_of given) r.class) ≡ true → Reached given r.class it.owner
        up n same among =
            up_reached given main spelled clean r.class it.searched it.owner r.within
            (ap (λ k. is_among k (chain_of (classes_of given) r.class)) same ∙ among) it.path

        by_seen : (k : ℕ) → it.searched ≡ k → named ≡ type_of_class k → (b : Bool) → is_seen_as_object (classes_of given) k ≡ b → Reached given r.class it.owner
        by_seen k same is true e =
            let plain = no_interface k (ap class_of_type is) in
            let object = eqb-true k (object_of (classes_of given)) (sym (ap (λ b. b || (k == object_of (classes_of given))) plain) ∙ e) in
            up 0 (same ∙ object ∙ first given main spelled clean) (object_top given main spelled clean r.class r.within)
        by_seen k same is false e =
            let below = below_of (classes_of given) of k e (ap (fits_type (classes_of given) of) (sym is) ∙ fits) in
            let class = ap (λ c. unwrap_or c (object_of (classes_of given))) (ap class_of_type below.type_is) in
            up k same (ap (λ c. is_among k (chain_of (classes_of given) c)) (sym r.is ∙ class) ∙ below.among)

        by_number : (found : Option ℕ) → class_number (classes_of given) call.at.member.class ≡ found → Reached given r.class it.owner
        by_number None e = up 0 (it.of_array e) (object_top given main spelled clean r.class r.within)
        by_number (Some k) e =
            by_seen k (it.of_class k e) (type_is code caller index method type wanted call named at k e) (is_seen_as_object (classes_of given) k) refl

  -- a class that arrays are below declares no method, unless it is Object
  above_arrays : (n owner place : ℕ) → is_above_arrays classes n ≡ true → is_among owner (method_path classes n) ≡ true
      → place < length (class_at classes owner).methods → is_among owner (chain_of classes 0) ≡ true
  above_arrays n owner place above among inside = by_seen (or_cases (is_interface_at classes n) (n == object_of classes) seen) where
    low : n < length built_in
    low = let inner = above_built_in given (no_built_in_refused given main clean) n above in let count = count_is in omega (arith, inner, count)

    seen : is_seen_as_object (classes_of given) n ≡ true
    seen = above_seen given (no_built_in_refused given main clean) (tree given main spelled clean) (first given main spelled clean) n above

    some : 0 < length (classes_of given)
    some = let inside_tree = object-within (classes_of given) (tree given main spelled clean) in omega (arith, inside_tree)

    by_seen : (is_interface_at (classes_of given) n ≡ true) ⊎ ((n == object_of (classes_of given)) ≡ true) → is_among owner (chain_of (classes_of given) 0) ≡ true
    by_seen (inl interface) =
        path_cases given main spelled clean n owner interface among (is_among owner (chain_of (classes_of given) 0) ≡ true)
        (λ same. absurd (marker_bare given n place low interface (subst (λ k. place < length (class_at (classes_of given) k).methods) same inside)))
        (λ higher. absurd (marker_bare given owner place (low_supers given n owner low higher)
        (superinterfaces_only (classes_of given) (sound given main spelled clean) n owner higher) inside))
        (λ object. ap (λ k. is_among k (chain_of (classes_of given) 0)) object ∙ among_own (classes_of given) 0 some)
    by_seen (inr object) =
        let is = eqb-true n (object_of (classes_of given)) object ∙ first given main spelled clean in
        ⊎_elim (λ here. here) (λ there. absurd (marker_bare given owner place (object_interfaces given (sound given main spelled clean) owner there)
        (interfaces_only (classes_of given) (sound given main spelled clean) 0 owner there) inside))
        (among_either owner (chain_of (classes_of given) 0) (interfaces_of (classes_of given) 0)
        (sym (ap (λ b. is_among owner (cond b (0 ∷ (superinterfaces_of (classes_of given) 0 ++ option_to_list (object_number (classes_of given))))
        (chain_of (classes_of given) 0 ++ interfaces_of (classes_of given) 0))) (tree_object_is_class given))
        ∙ ap (λ k. is_among owner (method_path (classes_of given) k)) (sym is) ∙ among))

  interface_reached : (code : Code) (caller index method type : ℕ) (wanted : Bool) (call : IsCall given (outline_of given main) code caller index method type wanted)
      (named of : TypeRef) → slice_get (outline_of given main).types type ≡ Some named
      → is_sub (classes_of given) of named ≡ true → (r : IsReceiver given of) (it : IsNamedMethod given call.at.member method) → Reached given r.class it.owner
  unfolding is_sub
  interface_reached code caller index method type wanted call named of at sub r it =
      by_number (class_number (classes_of given) call.at.member.class) refl where
        up : (n : ℕ) → it.searched ≡ n → is_among n (chain_of (classes_of given) r.class) ≡ true → Reached given r.class it.owner
        up n same among =
            up_reached given main spelled clean r.class it.searched it.owner r.within
            (ap (λ k. is_among k (chain_of (classes_of given) r.class)) same ∙ among) it.path

        across : (n : ℕ) → it.searched ≡ n → is_among n (interfaces_of (classes_of given) r.class) ≡ true → Reached given r.class it.owner
        across n same among =
            implemented_reached given main spelled clean r.class it.searched it.owner r.within
            (ap (λ k. is_among k (interfaces_of (classes_of given) r.class)) same ∙ among) it.path

        place : IsMethodOf (classes_of given) it.owner method
        place = method_of (classes_of given) any_flags call.at.member.name call.at.member.descriptor it.owner method it.own

        -- a class at level
        by_base : (k : ℕ) → it.searched ≡ k → (b : Base) → of ≡ record { dims = 0; base = b } → is_sub_base (classes_of given) b (type_of_class k).base ≡ true
            → Reached given r.class it.owner
        by_base k same (base.OfClass c) is h =
            let class : c.0 ≡ r.class = sym (ap (λ t. unwrap_or (class_of_type t) (object_of (classes_of given))) is) ∙ r.is in
            ⊎_elim
            (λ chain. up k same (ap (λ n. is_among k (chain_of (classes_of given) n)) (sym class) ∙ chain))
            (λ implemented. across k same (ap (λ n. is_among k (interfaces_of (classes_of given) n)) (sym class) ∙ implemented))
            (or_cases (is_among k (chain_of (classes_of given) c.0)) (is_among k (interfaces_of (classes_of given) c.0)) h)
        by_base k same base.Boolean is h = absurd (false≢true h)
        by_base k same base.Byte is h = absurd (false≢true h)
        by_base k same base.Char is h = absurd (false≢true h)
        by_base k same base.Short is h = absurd (false≢true h)
        by_base k same base.Int is h = absurd (false≢true h)
        by_base k same base.Long is h = absurd (false≢true h)

        array_class : (dims : ℕ) → of.dims ≡ dims → 0 < dims → r.class ≡ 0
        array_class dims is positive = sym r.is ∙ ap (λ c. unwrap_or c (object_of (classes_of given))) (no_class_of of.dims of.base (omega (arith, is, positive)))
            ∙ first given main spelled clean

        by_dims : (k : ℕ) → it.searched ≡ k → (b : Bool) → (of.dims == 0) ≡ b
            → cond b (is_sub_base (classes_of given) of.base (type_of_class k).base) (nat_lt 0 of.dims && is_above_arrays (classes_of given) k) ≡ true
            → Reached given r.class it.owner
        by_dims k same true e h =
            by_base k same of.base (ap (λ n. record { dims = n; base = of.base }) (eqb-true of.dims 0 e)) h
        by_dims k same false e h =
            let parts = and_parts (nat_lt 0 of.dims) (is_above_arrays (classes_of given) k) h in
            let class = array_class of.dims refl (ltb-true 0 of.dims parts.0) in
            inl (ap (λ c. is_among it.owner (chain_of (classes_of given) c)) class
            ∙ above_arrays k it.owner place.place parts.1 (ap (λ n. is_among it.owner (method_path (classes_of given) n)) (sym same) ∙ it.path) place.inside)

        by_number : (found : Option ℕ) → class_number (classes_of given) call.at.member.class ≡ found → Reached given r.class it.owner
        by_number None e = up 0 (it.of_array e) (object_top given main spelled clean r.class r.within)
        by_number (Some k) e =
            by_dims k (it.of_class k e) (of.dims == 0) refl
            (ap (is_sub (classes_of given) of) (sym (type_is code caller index method type wanted call named at k e)) ∙ sub)

  -- ---- all calls

  not_start : (a b : Bool) → (a || b) ≡ false → b ≡ false
  not_start a b is = (or_parts a b is).1

  selected_by : AllByRecursion IsSupported given → (code : Code) (caller index method type : ℕ) (call : IsCall given (outline_of given main) code caller index method type false) (of : TypeRef)
      → is_initializer (outline_of given main) method ≡ false → (r : IsReceiver given of) (it : IsNamedMethod given call.at.member method)
      → Reached given r.class it.owner → Selects (program_of given main) of method
  unfolding program_of outline_of
  selected_by supported code caller index method type call of plain r it reached =
      let found = selects given main spelled clean supported of r call.at.member.name call.at.member.descriptor it.owner method it.own call.static_is
      (not_start (is_constructor (outline_of given main) method) _ plain) reached in
      record {
        target = found.target;
        selected = ap (λ c. select (classes_of given) c method) r.is ∙ found.selected;
        receives = found.receives;
      }

  met : (of : TypeRef) → IsMet (outline_of given main) of → IsReceiver given of
  unfolding outline_of
  met of there = receiver given main spelled clean of there.0 there.1

pub calls_fit : (given : List ClassDef) (main : List ℕ) → AllByRecursion HasSpelling given → AllByRecursion IsSupported given → refusals given main ≡ [] → CallsFit (program_of given main)
unfolding program_of outline_of
calls_fit given main spelled supported clean =
    let missing = no_method_refused given main clean in
    record {
      virtual = λ method index m t named of x at plain there fits.
          let call = call_there given main missing method x.item x.code (insn.Virtual index) index m t false x.code_is x.insn_is refl x.use_is refl in
          let caller = (method_at (classes_of given) method).class in
          let r = met given main spelled clean of there in
          let it = where_named given main spelled clean x.code caller index m.0 t.0 false call named at in
          selected_by given main spelled clean supported x.code caller index m.0 t.0 call of plain r it
          (virtual_reached given main spelled clean x.code caller index m.0 t.0 false call named of at
          (λ class is. virtual_of_class given main spelled missing method index m t named class x at is) fits r it);
      interface = λ method index m t named of x at plain there sub.
          let call = call_there given main missing method x.item x.code (insn.Interface index) index m t false x.code_is x.insn_is refl x.use_is refl in
          let caller = (method_at (classes_of given) method).class in
          let r = met given main spelled clean of there in
          let it = where_named given main spelled clean x.code caller index m.0 t.0 false call named at in
          selected_by given main spelled clean supported x.code caller index m.0 t.0 call of plain r it
          (interface_reached given main spelled clean x.code caller index m.0 t.0 false call named of at sub r it);
      special = λ method index m t named x at ordinary above. special_fits given main spelled clean method index m t named x at above;
      constructors = λ method index m t named x at constructor. constructed_class given main spelled clean method index m t named x at constructor;
      selves = selves_there given (new given main spelled clean) (apart given main spelled clean);
    }
