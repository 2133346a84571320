-- The class whose objects the methods of a class have as their own: the built-in class that it completes, which is right below it, and else the class
-- itself. No name leads to a class that completes another one.
use Rattle.std.proofs.Common.{◌≡◌, refl, sym, ◌∙◌, ap, subst, ℕ, zero, suc, ◌+◌, ◌-◌, ◌<◌, ◌≤◌, ◌⊎◌, inl, inr, Bool, true, false, cond, List, [], ◌∷◌, ◌++◌, length, map, filter, nat_eq, replicate, slice_get, Option, Some, None, is_none, is_some, option_and_then, unwrap_or, arith, length-append, ⊎_elim}
use Rattle.std.specs.List.{list_any, position_from}
use Rattle.std.specs.Prelude.{option_to_list}
use Rattle.std.specs.Option.{option_or}
use Rattle.std.specs.Str.{bytes_eq}
use Rattle.std.proofs.lemmas.Bool.{cases_lt, eq-eqb, eqb-true, false≢true, or_cases, or_left, or_parts, or_right}
use Rattle.std.proofs.lemmas.List.{get_or_past}
use Rattle.std.proofs.lemmas.List.Quantifiers.{position-Some}
use Rattle.std.proofs.lemmas.Option.{none-some, same_Some}
use Rattle.std.proofs.lemmas.Slice.Eq.{bytes_eq-Decides}
use Rattle.fm_code.specs.AccessFlags.{is_abstract, is_interface}
use Rattle.fm_code.specs.declared.class_file.ClassDef.{ClassDef}
use Rattle.fm_law_linked.proofs.ClassChains.{completed_above}
use Rattle.fm_law_linked.proofs.GivenFiles.{class_of_file}
use Rattle.fm_link_supers.proofs.BuiltInParents.{named_completes, plain_completion, self_has_objects, self_of_completion}
use Rattle.fm_link_supers.proofs.NamedParentLemmas.{number_given}
use Rattle.fm_link_supers.proofs.ParentRefusals.{length-declared, nil_left, nil_right, past_none, refused_not}
use Rattle.fm_types.proofs.ClassTree.{among_one, among_own}
use Rattle.fm_world.proofs.Completions.{class_same, count_is, fails_at, interface-declared, number_first, self_built_in}
use Rattle.fm_world.proofs.Displays.{class_number-within}
use Rattle.fm_world.specs.BuiltIns.{built_in, built_in_classes}
use Rattle.fm_world.specs.Causes.{Duplicate, duplicates, own_name, refused}
use Rattle.fm_world.specs.Chains.{chain_of, class_at, completing_of, completion_of, given_number, is_among, parent_of, self_of, upwards}
use Rattle.fm_world.specs.Declarations.{declared_from, no_class}
use Rattle.fm_world.specs.Descriptors.{class_number}
use Rattle.fm_world.specs.Linking.{refusals, refused_built_ins, refused_duplicates, refused_fields, refused_main, refused_methods, refused_missing_classes, refused_not_implemented, refused_parents}
use Rattle.fm_world.specs.Lookups.{is_interface_at}
use Rattle.fm_world.specs.Programs.{classes_of}
use Rattle.fm_world.specs.declared.declarations.DeclaredClass.{DeclaredClass}
use Rattle.fm_world.specs.inner.Tables.{numbers_below}

-- ---- names of files

abbrev has_name : List ℕ → DeclaredClass → Bool
has_name name c = bytes_eq c.name name

itself : (name : List ℕ) → bytes_eq name name ≡ true
itself name = (bytes_eq-Decides name name).1 refl

turned : (a b : List ℕ) → bytes_eq a b ≡ false → bytes_eq b a ≡ false
turned a b other = by_test (bytes_eq b a) refl where
  by_test : (same : Bool) → bytes_eq b a ≡ same → same ≡ false
  by_test false e = refl
  by_test true e = absurd (false≢true (sym other ∙ (bytes_eq-Decides a b).1 (sym ((bytes_eq-Decides b a).0 e))))

-- a file has none of the names before it
new_name : (earlier : List (List ℕ)) (given : List ClassDef) → duplicates earlier given ≡ [] → (j : ℕ) (c : ClassDef) → slice_get given j ≡ Some c
    → list_any (bytes_eq (own_name c)) earlier ≡ false
new_name earlier [] none j c at = absurd (none-some c at)
new_name earlier (d ∷ given) none zero c at =
    subst (λ (e : ClassDef). list_any (bytes_eq (own_name e)) earlier ≡ false) (same_Some d c at)
    (refused_not (list_any (bytes_eq (own_name d)) earlier) (refused Duplicate d (own_name d)) (nil_left _ (duplicates (own_name d ∷ earlier) given) none))
new_name earlier (d ∷ given) none (suc j) c at =
    (or_parts (bytes_eq (own_name c) (own_name d)) (list_any (bytes_eq (own_name c)) earlier)
    (new_name (own_name d ∷ earlier) given (nil_right _ (duplicates (own_name d ∷ earlier) given) none) j c at)).1

-- so the first class of its name among the files is its own
first_named : (earlier : List (List ℕ)) (given : List ClassDef) → duplicates earlier given ≡ [] → (i n j : ℕ) (c : ClassDef) → slice_get given j ≡ Some c
    → position_from (has_name (own_name c)) i (declared_from n given) ≡ Some (i + j)
first_named earlier [] none i n j c at = absurd (none-some c at)
first_named earlier (d ∷ given) none i n zero c at =
    subst (λ (e : ClassDef). position_from (has_name (own_name e)) i (declared_from n (d ∷ given)) ≡ Some (i + 0)) (same_Some d c at)
    (ap (λ b. cond b (Some i) (position_from (has_name (own_name d)) (i + 1) (declared_from (n + 1) given))) (itself (own_name d))
    ∙ ap (λ k. Some k) (let e : i ≡ i + 0 = omega arith in e))
first_named earlier (d ∷ given) none i n (suc j) c at =
    let rest = nil_right _ (duplicates (own_name d ∷ earlier) given) none in
    let apart = or_parts (bytes_eq (own_name c) (own_name d)) (list_any (bytes_eq (own_name c)) earlier) (new_name (own_name d ∷ earlier) given rest j c at) in
    ap (λ b. cond b (Some i) (position_from (has_name (own_name c)) (i + 1) (declared_from (n + 1) given))) (turned (own_name c) (own_name d) apart.0)
    ∙ first_named (own_name d ∷ earlier) given rest (i + 1) (n + 1) j c at ∙ ap (λ k. Some k) (let e : i + 1 + j ≡ i + suc j = omega arith in e)

files_table : map (λ k. is_some (class_at built_in k).file) (numbers_below built_in_classes) ≡ replicate built_in_classes false
unfolding built_in
files_table = refl

not_some : {X : Type 0} (o : Option X) → is_some o ≡ false → is_none o ≡ true
not_some None e = refl
not_some (Some x) e = absurd (false≢true (sym e))

-- a file with the name of a built-in class completes it
completion_is : (given : List ClassDef) → refused_duplicates given ≡ [] → (j b : ℕ) (c : ClassDef) → slice_get given j ≡ Some c
    → class_number built_in (own_name c) ≡ Some b → completion_of (classes_of given) (class_at (classes_of given) b) ≡ Some (length built_in + j)
unfolding refused_duplicates classes_of
completion_is given new j b c at is =
    let found = position-Some (λ (d : DeclaredClass). bytes_eq d.name (own_name c)) built_in b no_class is in
    let same : class_at (classes_of given) b ≡ class_at built_in b = class_same built_in (declared_from 0 given) b found.0 in
    let name : (class_at built_in b).name ≡ own_name c = (bytes_eq-Decides (class_at built_in b).name (own_name c)).0 found.1 in
    let low : b < built_in_classes = let inside = found.0 in omega (arith, inside, count_is) in
    ap (completion_of (classes_of given)) same
    ∙ ap (λ x. cond x (given_number (classes_of given) (class_at built_in b).name) None)
    (not_some (class_at built_in b).file (fails_at (λ k. is_some (class_at built_in k).file) built_in_classes files_table b low))
    ∙ number_given given (class_at built_in b).name
    ∙ ap (λ n. position_from (has_name n) (length built_in) (declared_from 0 given)) name ∙ first_named [] given new (length built_in) 0 j c at

-- ---- classes and what they complete

module _ (given : List ClassDef) (new : refused_duplicates given ≡ []) (apart : refused_built_ins given ≡ []) where
  -- a class by its place: built in, of a file, or none
  by_place : (class : ℕ) (X : Type 0) → (class < length built_in → X)
      → ((j : ℕ) (c : ClassDef) → slice_get given j ≡ Some c → class ≡ length built_in + j → (class_at (classes_of given) class).name ≡ own_name c
      → is_interface_at (classes_of given) class ≡ is_interface c.flags → X)
      → (length (classes_of given) ≤ class → X) → X
  unfolding classes_of
  by_place class X low file past = either (cases_lt class (length built_in)) where
    at_file : (j : ℕ) → class ≡ length built_in + j → (o : Option ClassDef) → slice_get given j ≡ o → X
    at_file j is None e =
        let end = past_none given j e in
        past (let l = length-append built_in (declared_from 0 given) in let d = length-declared 0 given in omega (arith, is, end, l, d))
    at_file j is (Some c) e =
        let here = ap (class_at (classes_of given)) is ∙ (class_of_file given j c e).declared in
        file j c e is (ap (λ (d : DeclaredClass). d.name) here) (ap (λ (d : DeclaredClass). is_interface d.flags) here ∙ interface-declared c)

    either : (class < length built_in) ⊎ (length built_in ≤ class) → X
    either (inl within) = low within
    either (inr later) = at_file (class - length built_in) (omega (arith, later)) (slice_get given (class - length built_in)) refl

  self_past : (class : ℕ) → length (classes_of given) ≤ class → self_of (classes_of given) class ≡ class
  unfolding built_in
  self_past class past = ap (λ (c : DeclaredClass). unwrap_or (class_number built_in c.name) class) (get_or_past (classes_of given) class no_class past)

  some_classes : 0 < length (classes_of given)
  unfolding classes_of
  some_classes = let many = length-append built_in (declared_from 0 given) in omega (arith, many, count_is)

  low_self : (class : ℕ) → class < length built_in → self_of (classes_of given) class ≡ class
  unfolding classes_of
  low_self class within = self_built_in (declared_from 0 given) class within

  -- a class is the one whose objects its methods have, or right above it
  pub selves_there : (class : ℕ) → is_among class (chain_of (classes_of given) (self_of (classes_of given) class)) ≡ true
  selves_there class =
      by_place class (is_among class (chain_of classes (self_of classes class)) ≡ true) (λ within. same (low_self class within))
      (λ j c at is name sort. at_file j c at is name (class_number built_in (own_name c)) refl) (λ past. same (self_past class past)) where
        classes : List DeclaredClass
        classes = classes_of given

        same : self_of classes class ≡ class → is_among class (chain_of classes (self_of classes class)) ≡ true
        same own = ap (λ k. is_among class (chain_of classes k)) own ∙ among_own classes class some_classes

        at_file : (j : ℕ) (c : ClassDef) → slice_get given j ≡ Some c → class ≡ length built_in + j → (class_at classes class).name ≡ own_name c → (o : Option ℕ)
            → class_number built_in (own_name c) ≡ o → is_among class (chain_of classes (self_of classes class)) ≡ true
        at_file j c at is name None e = same (ap (λ n. unwrap_or (class_number built_in n) class) name ∙ ap (λ o. unwrap_or o class) e)
        at_file j c at is name (Some b) e =
            let self : self_of classes class ≡ b = ap (λ n. unwrap_or (class_number built_in n) class) name ∙ ap (λ o. unwrap_or o class) e in
            ap (λ k. is_among class (chain_of classes k)) self
            ∙ completed_above given apart b class (class_number-within built_in (own_name c) b e)
            (completion_is given new j b c at e ∙ ap (λ k. Some k) (sym is))

  -- the name of what a name leads to
  named_so : (name : List ℕ) (class : ℕ) → class_number (classes_of given) name ≡ Some class → (class_at (classes_of given) class).name ≡ name
  named_so name class is =
      (bytes_eq-Decides (class_at (classes_of given) class).name name).0
      (position-Some (λ (c : DeclaredClass). bytes_eq c.name name) (classes_of given) class no_class is).1

  -- what is named completes nothing
  pub named_self : (name : List ℕ) (class : ℕ) → class_number (classes_of given) name ≡ Some class → self_of (classes_of given) class ≡ class
  unfolding classes_of
  named_self name class is = by_number (class_number built_in (class_at classes class).name) refl where
    classes : List DeclaredClass
    classes = classes_of given

    by_number : (o : Option ℕ) → class_number built_in (class_at classes class).name ≡ o → unwrap_or o class ≡ class
    by_number None e = refl
    by_number (Some b) e =
        same_Some b class
        (sym (number_first built_in (declared_from 0 given) (class_at classes class).name b e) ∙ ap (class_number classes) (named_so name class is) ∙ is)

  -- nor does an interface
  pub interface_self : (class : ℕ) → is_interface_at (classes_of given) class ≡ true → self_of (classes_of given) class ≡ class
  interface_self class is =
      by_place class (self_of (classes_of given) class ≡ class) (λ within. low_self class within)
      (λ j c at place name sort.
      ap (λ n. unwrap_or (class_number built_in n) class) name ∙ by_number j c at (sym sort ∙ is) (class_number built_in (own_name c)) refl)
      (λ past. self_past class past) where
        by_number : (j : ℕ) (c : ClassDef) → slice_get given j ≡ Some c → is_interface c.flags ≡ true → (o : Option ℕ) → class_number built_in (own_name c) ≡ o
            → unwrap_or o class ≡ class
        by_number j c at interface None e = refl
        by_number j c at interface (Some b) e =
            absurd (false≢true (sym (plain_completion (class_at built_in b) c (named_completes given apart j c at b e)).0 ∙ interface))

  -- the superclass of a class has a name that leads to it, or completes that class
  parent_named : (class above : ℕ) → parent_of (classes_of given) class ≡ Some above
      → ((name : List ℕ) × (class_number (classes_of given) name ≡ Some above)) ⊎ (self_of (classes_of given) above ≡ class)
  parent_named class above is = by_superclass (class_at classes class).superclass refl is where
    classes : List DeclaredClass
    classes = classes_of given

    found : Option ℕ
    found = completion_of (classes_of given) (class_at (classes_of given) class)

    no_file : (b : Bool) (o : Option ℕ) → cond b o None ≡ Some above → b ≡ true
    no_file true o e = refl
    no_file false o e = absurd (none-some above e)

    -- what is completed is built in
    inside : (name : List ℕ) → (class_at classes class).superclass ≡ Some name → found ≡ Some above → class < length built_in
    inside name super e =
        by_place class (class < length built_in) (λ within. within)
        (λ j c at place own sort. absurd (false≢true (sym (ap (λ (d : DeclaredClass). is_none d.file) (ap (class_at classes) place ∙ (class_of_file given j c at).declared))
        ∙ no_file (is_none (class_at classes class).file) (given_number classes (class_at classes class).name) e)))
        (λ past. absurd (none-some name (sym (ap (λ (d : DeclaredClass). d.superclass) (get_or_past classes class no_class past)) ∙ super)))

    by_completion : (name : List ℕ) → (class_at classes class).superclass ≡ Some name → (o : Option ℕ) → found ≡ o
        → option_or o (class_number classes name) ≡ Some above
        → ((n : List ℕ) × (class_number classes n ≡ Some above)) ⊎ (self_of classes above ≡ class)
    by_completion name super (Some f) e h =
        let there : found ≡ Some above = e ∙ h in inr (self_of_completion given apart class above (inside name super there) there)
    by_completion name super None e h = inl (name, h)

    by_superclass : (o : Option (List ℕ)) → (class_at classes class).superclass ≡ o
        → option_and_then (λ name. option_or found (class_number classes name)) o ≡ Some above
        → ((n : List ℕ) × (class_number classes n ≡ Some above)) ⊎ (self_of classes above ≡ class)
    by_superclass None super h = absurd (none-some above h)
    by_superclass (Some name) super h = by_completion name super found refl h

  -- it completes nothing, or that class
  parent_self : (class above : ℕ) → parent_of (classes_of given) class ≡ Some above
      → (self_of (classes_of given) above ≡ above) ⊎ (self_of (classes_of given) above ≡ class)
  parent_self class above is = by_name (parent_named class above is) where
    by_name : ((name : List ℕ) × (class_number (classes_of given) name ≡ Some above)) ⊎ (self_of (classes_of given) above ≡ class)
        → (self_of (classes_of given) above ≡ above) ⊎ (self_of (classes_of given) above ≡ class)
    by_name (inl found) = inl (named_self found.0 above found.1)
    by_name (inr completes) = inr completes

  -- what completes a class is its superclass
  pub completing_above : (class above : ℕ) → is_among above (completing_of (classes_of given) class) ≡ true → parent_of (classes_of given) class ≡ Some above
  completing_above class above among = by_parent (parent_of (classes_of given) class) among where
    test : ℕ → Bool
    test p = bytes_eq (class_at (classes_of given) p).name (class_at (classes_of given) class).name

    by_test : (p : ℕ) (b : Bool) → is_among above (cond b (p ∷ []) []) ≡ true → Some p ≡ Some above
    by_test p true h = ap (λ k. Some k) (sym (among_one above p h))
    by_test p false h = absurd (false≢true h)

    by_parent : (o : Option ℕ) → is_among above (filter test (option_to_list o)) ≡ true → o ≡ Some above
    by_parent None h = absurd (false≢true h)
    by_parent (Some p) h = by_test p (test p) h

  completing_named : (class above : ℕ) → is_among above (completing_of (classes_of given) class) ≡ true
      → (class_at (classes_of given) above).name ≡ (class_at (classes_of given) class).name
  completing_named class above among = by_parent (parent_of (classes_of given) class) among where
    name : ℕ → List ℕ
    name k = (class_at (classes_of given) k).name

    by_test : (p : ℕ) (b : Bool) → bytes_eq (name p) (name class) ≡ b → is_among above (cond b (p ∷ []) []) ≡ true → name above ≡ name class
    by_test p true e h = ap name (among_one above p h) ∙ (bytes_eq-Decides (name p) (name class)).0 e
    by_test p false e h = absurd (false≢true h)

    by_parent : (o : Option ℕ) → is_among above (filter (λ k. bytes_eq (name k) (name class)) (option_to_list o)) ≡ true → name above ≡ name class
    by_parent None h = absurd (false≢true h)
    by_parent (Some p) h = by_test p (bytes_eq (name p) (name class)) refl h

  -- what completes a class that is named has the objects of that one
  pub completing_self : (name : List ℕ) (class above : ℕ) → class_number (classes_of given) name ≡ Some class
      → is_among above (completing_of (classes_of given) class) ≡ true → self_of (classes_of given) above ≡ class
  completing_self name class above is among = by_name (parent_named class above (completing_above class above among)) where
    by_name : ((n : List ℕ) × (class_number (classes_of given) n ≡ Some above)) ⊎ (self_of (classes_of given) above ≡ class)
        → self_of (classes_of given) above ≡ class
    by_name (inl found) =
        let alike = sym (named_so found.0 above found.1) ∙ completing_named class above among ∙ named_so name class is in
        let same = same_Some above class (sym found.1 ∙ ap (class_number (classes_of given)) alike ∙ is) in
        ap (self_of (classes_of given)) same ∙ named_self name class is
    by_name (inr completes) = completes

  -- ---- along chains

  up_self : (n class below above : ℕ) → (self_of (classes_of given) class ≡ class) ⊎ (self_of (classes_of given) class ≡ below)
      → is_among above (upwards n (classes_of given) (Some class)) ≡ true
      → is_among (self_of (classes_of given) above) (below ∷ upwards n (classes_of given) (Some class)) ≡ true
  up_self zero class below above own among = absurd (false≢true among)
  up_self (suc n) class below above own among =
      by_head (λ p next. up_self n p class above next) own (or_cases (nat_eq above class) (is_among above (upwards n classes (parent_of classes class))) among) where
        classes : List DeclaredClass
        classes = classes_of given

        self : ℕ
        self = self_of (classes_of given) above

        rest : List ℕ
        rest = upwards n (classes_of given) (parent_of (classes_of given) class)

        head : (self ≡ class) ⊎ (self ≡ below) → is_among self (below ∷ class ∷ rest) ≡ true
        head (inl same) = or_right (nat_eq self below) (is_among self (class ∷ rest)) (or_left (nat_eq self class) (is_among self rest) (eq-eqb self class same))
        head (inr same) = or_left (nat_eq self below) (is_among self (class ∷ rest)) (eq-eqb self below same)

        no_more : (m : ℕ) → is_among above (upwards m classes None) ≡ false
        no_more zero = refl
        no_more (suc m) = refl

        Higher : Type 0
        Higher = (p : ℕ) → (self_of classes p ≡ p) ⊎ (self_of classes p ≡ class) → is_among above (upwards n classes (Some p)) ≡ true
            → is_among self (class ∷ upwards n classes (Some p)) ≡ true

        by_parent : Higher → (o : Option ℕ) → parent_of classes class ≡ o → is_among above (upwards n classes o) ≡ true
            → is_among self (class ∷ upwards n classes o) ≡ true
        by_parent higher None e there = absurd (false≢true (sym (no_more n) ∙ there))
        by_parent higher (Some p) e there = higher p (parent_self class p e) there

        by_head : Higher → (self_of classes class ≡ class) ⊎ (self_of classes class ≡ below)
            → (nat_eq above class ≡ true) ⊎ (is_among above rest ≡ true) → is_among self (below ∷ class ∷ rest) ≡ true
        by_head higher own (inl same) =
            let is = ap (self_of classes) (eqb-true above class same) in
            head (⊎_elim (λ one. inl (is ∙ one)) (λ other. inr (is ∙ other)) own)
        by_head higher own (inr later) =
            or_right (nat_eq self below) (is_among self (class ∷ rest)) (by_parent higher (parent_of classes class) refl later)

  -- above a class that completes nothing, with each class is what that one completes
  pub self_above : (class above : ℕ) → self_of (classes_of given) class ≡ class → is_among above (chain_of (classes_of given) class) ≡ true
      → is_among (self_of (classes_of given) above) (chain_of (classes_of given) class) ≡ true
  unfolding chain_of
  self_above class above own among =
      let self = self_of (classes_of given) above in
      let rest = upwards (length (classes_of given)) (classes_of given) (parent_of (classes_of given) class) in
      ⊎_elim (λ same. or_left (nat_eq self class) (is_among self rest) same) (λ there. there)
      (or_cases (nat_eq self class) (is_among self (class ∷ rest)) (up_self (suc (length (classes_of given))) class class above (inl own) among))

  -- what a class completes completes nothing
  pub self_twice : (class : ℕ) → self_of (classes_of given) (self_of (classes_of given) class) ≡ self_of (classes_of given) class
  self_twice class = by_number (class_number built_in (class_at (classes_of given) class).name) refl where
    by_number : (o : Option ℕ) → class_number built_in (class_at (classes_of given) class).name ≡ o
        → self_of (classes_of given) (self_of (classes_of given) class) ≡ self_of (classes_of given) class
    by_number None e =
        let own : self_of (classes_of given) class ≡ class = ap (λ found. unwrap_or found class) e in ap (self_of (classes_of given)) own
    by_number (Some b) e =
        let own : self_of (classes_of given) class ≡ b = ap (λ found. unwrap_or found class) e in
        ap (self_of (classes_of given)) own ∙ low_self b (class_number-within built_in (class_at (classes_of given) class).name b e) ∙ sym own

  -- nor does a class that has objects
  pub objects_self : (class : ℕ) → (length built_in ≤ class → is_abstract (class_at (classes_of given) class).flags ≡ false)
      → self_of (classes_of given) class ≡ class
  objects_self class concrete = ⊎_elim (λ within. low_self class within) (λ past. self_has_objects given class (concrete past)) (cases_lt class (length built_in))

-- ---- where nothing is refused

pub no_duplicate_refused : (given : List ClassDef) (main : List ℕ) → refusals given main ≡ [] → refused_duplicates given ≡ []
unfolding refusals
no_duplicate_refused given main none =
    let to_built_ins = refused_duplicates given ++ refused_built_ins given in
    let to_classes = to_built_ins ++ refused_missing_classes given in
    let to_parents = to_classes ++ refused_parents given in
    let to_fields = to_parents ++ refused_fields given in
    let to_methods = to_fields ++ refused_methods given in
    nil_left (refused_duplicates given) (refused_built_ins given)
    (nil_left to_built_ins (refused_missing_classes given)
    (nil_left to_classes (refused_parents given)
    (nil_left to_parents (refused_fields given)
    (nil_left to_fields (refused_methods given)
    (nil_left to_methods (refused_not_implemented given)
    (nil_left (to_methods ++ refused_not_implemented given) (refused_main given main) none))))))
