-- Class files with woven codes make a program of the same outline.
use Rattle.std.proofs.Common.{◌≡◌, refl, sym, ◌∙◌, ap, ℕ, ◌+◌, Bool, true, false, not, List, [], ◌∷◌, ◌++◌, length, map, Option, Some, unwrap_or, append_assoc}
use Rattle.std.specs.List.{AllByRecursion, cons_option, filter, filter_map, flat_map, list_any}
use Rattle.std.specs.Str.{bytes_eq}
use Rattle.std.proofs.lemmas.Bool.{false≢true}
use Rattle.std.proofs.lemmas.Grind.{flat_map-append}
use Rattle.std.proofs.lemmas.List.Elements.{filter-append, filter_map-append}
use Rattle.fm_law_relinked.proofs.ClassStays.{declared_same, made_same, texts_same, types_alike}
use Rattle.fm_law_relinked.proofs.FreeMethod.{free_type, free_type_known, type_is}
use Rattle.fm_law_spelled.proofs.Growing.{either_class, grown_class, grows, more}
use Rattle.fm_law_relinked.proofs.PassedOver.{distinct_without}
use Rattle.fm_base.specs.declared.kinds.TypeRef.{TypeRef}
use Rattle.fm_chain.specs.Chaining.{chained_class, chained_classes, chained_from, class_calls, class_has_chain}
use Rattle.fm_code.specs.FreeEntries.{free_class}
use Rattle.fm_code.specs.Spells.{HasSpelling}
use Rattle.fm_code.specs.declared.class_file.ClassDef.{ClassDef}
use Rattle.fm_code.specs.declared.code_array.Item.{Item}
use Rattle.fm_place.specs.Rewriting.{first_given, Plans}
use Rattle.fm_link_refusals.proofs.UsedIndices.{flat_map-kept}
use Rattle.fm_types.proofs.LeastJoins.{same_type-eq}
use Rattle.fm_world.specs.BuiltIns.{built_in}
use Rattle.fm_world.specs.Chains.{distinct, given_number, same_type}
use Rattle.fm_world.specs.Declarations.{declared_from, declared_of}
use Rattle.fm_world.specs.Descriptors.{class_type, type_in}
use Rattle.fm_world.specs.Numbers.{argument_array, arrays_in, class_types, made_arrays, text_units, texts_of, types_of, used_types}
use Rattle.fm_world.specs.Programs.{classes_of, main_of, outline_of}
use Rattle.fm_world.specs.Uses.{class_items, made_array, named_type, uses_in_order}
use Rattle.fm_world.specs.declared.declarations.DeclaredClass.{DeclaredClass}

-- ---- lists

filter_map_mapped : {A B : Type 0} (f : A → Option B) (xs : List A) → filter_map (λ (o : Option B). o) (map f xs) ≡ filter_map f xs
filter_map_mapped f [] = refl
filter_map_mapped f (x ∷ xs) = ap (cons_option (f x)) (filter_map_mapped f xs)

-- ---- what is listed of all classes

module _ (plans : Plans) where
  -- what is listed of each class alike
  pub all_listed : {A : Type 0} (list : ClassDef → List A)
      → ((first : ℕ) (c : ClassDef) → HasSpelling c → list (grown_class plans first c) ≡ list c)
      → (first : ℕ) (given : List ClassDef) → AllByRecursion HasSpelling given → flat_map list (chained_from plans first given) ≡ flat_map list given
  all_listed list same first [] spelled = refl
  all_listed list same first (c ∷ given) spelled =
      let here = either_class plans first c (λ (d : ClassDef). list d ≡ list c) refl (same first c spelled.0) in
      λ k. here k ++ all_listed list same (first + length c.methods) given spelled.1 k

  -- the same, but for what doesn't pass
  filtered_listed : {A : Type 0} (p : A → Bool) (list : ClassDef → List A)
      → ((first : ℕ) (c : ClassDef) → HasSpelling c → filter p (list (grown_class plans first c)) ≡ filter p (list c))
      → (first : ℕ) (given : List ClassDef) → AllByRecursion HasSpelling given
      → filter p (flat_map list (chained_from plans first given)) ≡ filter p (flat_map list given)
  filtered_listed p list same first [] spelled = refl
  filtered_listed p list same first (c ∷ given) spelled =
      let here = either_class plans first c (λ (d : ClassDef). filter p (list d) ≡ filter p (list c)) refl (same first c spelled.0) in
      let others = chained_from plans (first + length c.methods) given in
      filter-append p (list (chained_class plans first c)) (flat_map list others)
      ∙ (λ k. here k ++ filtered_listed p list same (first + length c.methods) given spelled.1 k)
      ∙ sym (filter-append p (list c) (flat_map list given))

  -- the same of options
  options_listed : {A : Type 0} (list : ClassDef → List (Option A))
      → ((first : ℕ) (c : ClassDef) → HasSpelling c
      → filter_map (λ (o : Option A). o) (list (grown_class plans first c)) ≡ filter_map (λ (o : Option A). o) (list c))
      → (first : ℕ) (given : List ClassDef) → AllByRecursion HasSpelling given
      → filter_map (λ (o : Option A). o) (flat_map list (chained_from plans first given)) ≡ filter_map (λ (o : Option A). o) (flat_map list given)
  options_listed list same first [] spelled = refl
  options_listed {A} list same first (c ∷ given) spelled =
      let here =
      either_class plans first c (λ (d : ClassDef). filter_map (λ (o : Option A). o) (list d) ≡ filter_map (λ (o : Option A). o) (list c)) refl
      (same first c spelled.0) in
      let others = chained_from plans (first + length c.methods) given in
      filter_map-append (λ (o : Option A). o) (list (chained_class plans first c)) (flat_map list others)
      ∙ (λ k. here k ++ options_listed list same (first + length c.methods) given spelled.1 k)
      ∙ sym (filter_map-append (λ (o : Option A). o) (list c) (flat_map list given))

  -- ---- classes

  declared_all : (file first : ℕ) (given : List ClassDef) → AllByRecursion HasSpelling given
      → declared_from file (chained_from plans first given) ≡ declared_from file given
  declared_all file first [] spelled = refl
  declared_all file first (c ∷ given) spelled =
      let here =
      either_class plans first c (λ (d : ClassDef). declared_of file d ≡ declared_of file c) refl
      (declared_same (class_has_chain plans first c) (more plans first c) (class_calls plans first c) plans first c (grows plans first c) spelled.0.0 spelled.0.1 file) in
      λ k. here k ∷ declared_all (file + 1) (first + length c.methods) given spelled.1 k

  pub classes_same : (given : List ClassDef) → AllByRecursion HasSpelling given → classes_of (chained_classes plans given) ≡ classes_of given
  unfolding classes_of
  classes_same given spelled = ap (λ l. built_in ++ l) (declared_all 0 first_given given spelled)

  -- ---- texts

  texts_are : (given : List ClassDef) → AllByRecursion HasSpelling given → texts_of (chained_classes plans given) ≡ texts_of given
  unfolding texts_of
  texts_are given spelled =
      ap (distinct bytes_eq)
      (all_listed (λ c. filter_map (text_units c.pool.entries) (uses_in_order c))
      (λ first c known.
      texts_same (class_has_chain plans first c) (more plans first c) (class_calls plans first c) plans first c (grows plans first c) known.0 known.1) first_given given spelled)

  -- ---- types

  module _ (classes : List DeclaredClass) (free_is : type_in classes (class_type free_class) ≡ Some free_type) where
    abbrev unlike : TypeRef → Bool
    unlike t = not (same_type free_type t)

    used_alike : (given : List ClassDef) → AllByRecursion HasSpelling given
        → filter unlike (used_types classes (chained_classes plans given)) ≡ filter unlike (used_types classes given)
    used_alike given spelled =
        filtered_listed unlike (λ c. filter_map (named_type classes c.pool.entries) (uses_in_order c))
        (λ first c known.
        types_alike (class_has_chain plans first c) (more plans first c) (class_calls plans first c) plans first c (grows plans first c) known.0 known.1 classes free_is)
        first_given given spelled

    made_alike : (given : List ClassDef) → AllByRecursion HasSpelling given → made_arrays classes (chained_classes plans given) ≡ made_arrays classes given
    made_alike given spelled =
        ap (cons_option (argument_array classes))
        (options_listed (λ c. map (λ (item : Item). made_array classes c.pool.entries item.insn) (class_items c))
        (λ first c known.
        filter_map_mapped (λ (item : Item). made_array classes (grown_class plans first c).pool.entries item.insn) (class_items (grown_class plans first c))
        ∙ made_same (class_has_chain plans first c) (more plans first c) (class_calls plans first c) plans first c (grows plans first c) known.0 known.1 classes free_is
        ∙ sym (filter_map_mapped (λ (item : Item). made_array classes c.pool.entries item.insn) (class_items c)))
        first_given given spelled)

    -- FreeMe is no array
    no_arrays : (t : TypeRef) → unlike t ≡ false → arrays_in t ≡ []
    no_arrays t is = by_test (same_type free_type t) refl is where
      by_test : (b : Bool) → same_type free_type t ≡ b → not b ≡ false → arrays_in t ≡ []
      by_test true same no_other = ap arrays_in (sym (same_type-eq free_type t same))
      by_test false other no_other = absurd (false≢true (sym no_other))

    elements_same : (given : List ClassDef) → AllByRecursion HasSpelling given
        → flat_map arrays_in (used_types classes (chained_classes plans given) ++ made_arrays classes (chained_classes plans given))
        ≡ flat_map arrays_in (used_types classes given ++ made_arrays classes given)
    elements_same given spelled =
        let used = used_types classes given in
        let new_used = used_types classes (chained_classes plans given) in
        let of_used : flat_map arrays_in new_used ≡ flat_map arrays_in used =
        sym (flat_map-kept arrays_in unlike new_used no_arrays) ∙ ap (flat_map arrays_in) (used_alike given spelled) ∙ flat_map-kept arrays_in unlike used no_arrays in
        flat_map-append arrays_in new_used (made_arrays classes (chained_classes plans given))
        ∙ (λ k. of_used k ++ flat_map arrays_in (made_alike given spelled k))
        ∙ sym (flat_map-append arrays_in used (made_arrays classes given))

    -- what the types of the classes have already isn't met anew
    types_are : (given : List ClassDef) → AllByRecursion HasSpelling given → list_any (same_type free_type) (class_types classes) ≡ true
        → types_of classes (chained_classes plans given) ≡ types_of classes given
    unfolding types_of
    types_are given spelled known =
        let front = class_types classes in
        let used = used_types classes given in
        let new_used = used_types classes (chained_classes plans given) in
        let rest = flat_map arrays_in (used ++ made_arrays classes given) in
        let new_rest = flat_map arrays_in (new_used ++ made_arrays classes (chained_classes plans given)) in
        let without : (us rs : List TypeRef) → distinct same_type ((front ++ us) ++ rs) ≡ distinct same_type (front ++ (filter unlike us ++ filter unlike rs)) =
        λ us rs.
        ap (distinct same_type) (append_assoc front us rs) ∙ distinct_without same_type same_type-eq free_type front (us ++ rs) known
        ∙ ap (λ l. distinct same_type (front ++ l)) (filter-append unlike us rs) in
        without new_used new_rest
        ∙ (λ k. distinct same_type (front ++ (used_alike given spelled k ++ filter unlike (elements_same given spelled k))))
        ∙ sym (without used rest)

  -- ---- all

  pub outline_same : (given : List ClassDef) (main : List ℕ) → AllByRecursion HasSpelling given
      → outline_of (chained_classes plans given) main ≡ outline_of given main
  unfolding outline_of
  outline_same given main spelled =
      let classes = classes_same given spelled in
      let types =
      ap (λ cs. types_of cs (chained_classes plans given)) classes
      ∙ types_are (classes_of given) (type_is given) given spelled (free_type_known given) in
      let texts = texts_are given spelled in
      λ k. record {
        classes = classes k;
        types = types k;
        texts = texts k;
        main_class = unwrap_or (given_number (classes k) main) 0;
        main = unwrap_or (main_of (classes k) (unwrap_or (given_number (classes k) main) 0)) 0;
      }
