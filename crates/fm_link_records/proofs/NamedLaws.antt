-- What files name by the numbers of texts is what their classes name.
use Rattle.std.proofs.Common.{◌≡◌, refl, sym, ◌∙◌, ap, subst, ℕ, suc, ◌+◌, ◌<◌, List, [], ◌∷◌, ◌++◌, length, map, take, get_or, Option, Some, None, slice_get, option_to_list, arith, append_assoc}
use Rattle.std.specs.List.{AllByRecursion, cons_option, filter_map, flat_map}
use Rattle.std.specs.Option.{option_and_then}
use Rattle.std.proofs.lemmas.Grind.{flat_map-append}
use Rattle.std.proofs.lemmas.List.{append-nil, get_or-map, get_or_default, take_more}
use Rattle.std.proofs.lemmas.List.Elements.{filter_map-append}
use Rattle.std.proofs.lemmas.Option.{get_or_from_slice_get, slice_get_within}
use Rattle.fm_base.proofs.ListFacts.{filter_map_agree}
use Rattle.fm_base.specs.declared.kinds.TypeRef.{TypeRef}
use Rattle.fm_code.specs.Spells.{HasSpelling}
use Rattle.fm_code.specs.declared.class_file.ClassDef.{ClassDef}
use Rattle.fm_code.specs.declared.code_array.Item.{Item}
use Rattle.fm_code.specs.declared.instructions.Insn.{Insn}
use Rattle.fm_code.specs.declared.instructions.Insn.TheVariants as insn
use Rattle.fm_link_names.proofs.NameLemmas.{named_class_is}
use Rattle.fm_link_names.proofs.SpelledNames.{named_class-is}
use Rattle.fm_link_names.proofs.SpelledTypes.{type_of_name-is}
use Rattle.fm_link_names.specs.declared.given.GivenFile.{GivenFile}
use Rattle.fm_link_names.specs.inner.DescriptorTypes.{type_of_name}
use Rattle.fm_link_names.specs.inner.Files.{named_class_in, AreFiles, IsFile}
use Rattle.fm_link_names.specs.inner.Numbering.{IsNumberOf}
use Rattle.fm_world.specs.Descriptors.{class_type, type_in}
use Rattle.fm_world.specs.Numbers.{argument_array, made_arrays, used_types}
use Rattle.fm_world.specs.Uses.{array_of, class_items, made_array, named_class, named_type, uses_in_order}
use Rattle.fm_world.specs.declared.declarations.DeclaredClass.{DeclaredClass}
use Rattle.fm_link_records.specs.inner.Named.{made_at, type_at, types_made, types_named}

-- ---- lists

-- lists of files, and those of their classes
pub flat_map-files : {A : Type 0} (texts : List (List ℕ)) (f : GivenFile → List A) (g : ClassDef → List A)
    → ((k : ℕ) (c : ClassDef) (file : GivenFile) → HasSpelling c → IsFile texts k c file → f file ≡ g c)
    → (n : ℕ) (given : List ClassDef) (files : List GivenFile) → AllByRecursion HasSpelling given → length files ≡ length given
    → ((k : ℕ) (c : ClassDef) (file : GivenFile) → slice_get given k ≡ Some c → slice_get files k ≡ Some file → IsFile texts (n + k) c file)
    → flat_map f files ≡ flat_map g given
flat_map-files texts f g same n [] [] spelled long each = refl
flat_map-files texts f g same n [] (file ∷ files) spelled long each = absurd (omega (arith, long))
flat_map-files texts f g same n (c ∷ given) [] spelled long each = absurd (omega (arith, long))
flat_map-files texts f g same n (c ∷ given) (file ∷ files) spelled long each =
    ap (λ ys. ys ++ flat_map f files) (same (n + 0) c file spelled.0 (each 0 c file refl refl))
    ∙ ap (λ ys. g c ++ ys) (flat_map-files texts f g same (n + 1) given files spelled.1 (let l = long in omega (arith, l))
    (λ k d other at there. let e : n + suc k ≡ n + 1 + k = omega arith in
    let P : ℕ → Type 0 = λ j. IsFile texts j d other in subst P e (each (suc k) d other at there)))

pub flat_map-all : {A : Type 0} (texts : List (List ℕ)) (f : GivenFile → List A) (g : ClassDef → List A)
    → ((k : ℕ) (c : ClassDef) (file : GivenFile) → HasSpelling c → IsFile texts k c file → f file ≡ g c)
    → (given : List ClassDef) (files : List GivenFile) → AllByRecursion HasSpelling given → AreFiles texts given files → flat_map f files
    ≡ flat_map g given
flat_map-all texts f g same given files spelled are =
    flat_map-files texts f g same 0 given files spelled are.count
    (λ k c file at there. let e : k ≡ 0 + k = omega arith in let P : ℕ → Type 0 = λ j. IsFile texts j c file in subst P e (are.each k c file at
    there))

-- ---- types

-- what a table by text has for the number of a text
by_number : (texts : List (List ℕ)) (classes : List DeclaredClass) (types : List (Option TypeRef)) (name : Option (List ℕ)) (number : Option ℕ)
    → types ≡ map (type_of_name classes) texts → IsNumberOf texts name number
    → option_and_then (λ n. get_or types n None) number ≡ option_and_then (type_of_name classes) name
by_number texts classes types None None is number = refl
by_number texts classes types None (Some n) is number = absurd number
by_number texts classes types (Some text) None is number = absurd number
by_number texts classes types (Some text) (Some n) is number =
    ap (λ ts. get_or ts n None) is ∙ get_or-map (type_of_name classes) texts n [] None (slice_get_within texts n text number)
    ∙ ap (type_of_name classes) (get_or_from_slice_get texts n text [] number)

known_name : (classes : List DeclaredClass) (c : ClassDef) (index : ℕ) → HasSpelling c → (name : Option (List ℕ))
    → named_class c.pool.entries index ≡ name
    → option_and_then (type_of_name classes) name ≡ option_and_then (λ text. type_in classes (class_type text)) name
known_name classes c index spelled None is = refl
known_name classes c index spelled (Some text) is = type_of_name-is classes text (named_class-is c spelled index text is)

pub type_at-is : (texts : List (List ℕ)) (classes : List DeclaredClass) (types : List (Option TypeRef)) (k : ℕ) (c : ClassDef) (file : GivenFile)
    → types ≡ map (type_of_name classes) texts → HasSpelling c → IsFile texts k c file
    → (index : ℕ) → type_at types file index ≡ named_type classes c.pool.entries index
type_at-is texts classes types k c file are spelled is index =
    by_number texts classes types (named_class c.pool.entries index) (named_class_in file index) are (named_class_is texts k c file is index)
    ∙ known_name classes c index spelled (named_class c.pool.entries index) refl

pub types-used : (texts : List (List ℕ)) (classes : List DeclaredClass) (types : List (Option TypeRef)) (given : List ClassDef) (files : List
    GivenFile)
    → types ≡ map (type_of_name classes) texts → AllByRecursion HasSpelling given → AreFiles texts given files
    → flat_map (types_named types) files ≡ used_types classes given
types-used texts classes types given files are spelled is =
    flat_map-all texts (types_named types) (λ c. filter_map (named_type classes c.pool.entries) (uses_in_order c))
    (λ k c file has file_is. ap (λ (d : ClassDef). filter_map (type_at types file) (uses_in_order d)) file_is.class_is
    ∙ filter_map_agree (type_at types file) (named_type classes c.pool.entries) (type_at-is texts classes types k c file are has file_is)
    (uses_in_order c))
    given files spelled is

-- ---- arrays that are made

made_is : (texts : List (List ℕ)) (classes : List DeclaredClass) (types : List (Option TypeRef)) (k : ℕ) (c : ClassDef) (file : GivenFile)
    → types ≡ map (type_of_name classes) texts → HasSpelling c → IsFile texts k c file
    → (i : Insn) → made_at types file i ≡ made_array classes c.pool.entries i
made_is texts classes types k c file are spelled is (insn.NewArray e) = refl
made_is texts classes types k c file are spelled is (insn.NewRefs index) =
    ap (option_and_then array_of) (type_at-is texts classes types k c file are spelled is index)
made_is texts classes types k c file are spelled is i = refl

cons_option-append : {A : Type 0} (o : Option A) (xs ys : List A) → cons_option o (xs ++ ys) ≡ cons_option o xs ++ ys
cons_option-append None xs ys = refl
cons_option-append (Some x) xs ys = refl

cons_option-list : {A : Type 0} (o : Option A) (xs : List A) → option_to_list o ++ xs ≡ cons_option o xs
cons_option-list None xs = refl
cons_option-list (Some x) xs = refl

filter_map-map : {A B : Type 0} (f : A → Option B) (xs : List A) → filter_map (λ o. o) (map f xs) ≡ filter_map f xs
filter_map-map f [] = refl
filter_map-map f (x ∷ xs) = ap (cons_option (f x)) (filter_map-map f xs)

filter_map-flat : {A B C : Type 0} (f : A → B → Option C) (items : A → List B) (xs : List A)
    → filter_map (λ o. o) (flat_map (λ x. map (f x) (items x)) xs) ≡ flat_map (λ x. filter_map (f x) (items x)) xs
filter_map-flat f items [] = refl
filter_map-flat f items (x ∷ xs) =
    filter_map-append (λ o. o) (map (f x) (items x)) (flat_map (λ y. map (f y) (items y)) xs)
    ∙ ap (λ ys. ys ++ filter_map (λ o. o) (flat_map (λ y. map (f y) (items y)) xs)) (filter_map-map (f x) (items x))
    ∙ ap (λ ys. filter_map (f x) (items x) ++ ys) (filter_map-flat f items xs)

pub types-made : (texts : List (List ℕ)) (classes : List DeclaredClass) (types : List (Option TypeRef)) (given : List ClassDef) (files : List
    GivenFile)
    → types ≡ map (type_of_name classes) texts → AllByRecursion HasSpelling given → AreFiles texts given files
    → option_to_list (argument_array classes) ++ flat_map (types_made types) files ≡ made_arrays classes given
types-made texts classes types given files are spelled is =
    ap (λ ts. option_to_list (argument_array classes) ++ ts)
    (flat_map-all texts (types_made types) (λ c. filter_map (λ item. made_array classes c.pool.entries item.insn) (class_items c))
    (λ k c file has file_is. ap (λ (d : ClassDef). filter_map (λ (item : Item). made_at types file item.insn) (class_items d)) file_is.class_is
    ∙ filter_map_agree (λ (item : Item). made_at types file item.insn) (λ (item : Item). made_array classes c.pool.entries item.insn)
    (λ item. made_is texts classes types k c file are has file_is item.insn) (class_items c))
    given files spelled is
    ∙ sym (filter_map-flat (λ (c : ClassDef) (item : Item). made_array classes c.pool.entries item.insn) class_items given))
    ∙ cons_option-list (argument_array classes)
    (filter_map (λ o. o) (flat_map (λ c. map (λ item. made_array classes c.pool.entries item.insn) (class_items c)) given))

-- one more of which something is made
pub filter_map-more : {A B : Type 0} (f : A → Option B) (xs : List A) (i : ℕ) (x : A) → i < length xs → x ≡ get_or xs i x
    → filter_map f (take (i + 1) xs) ≡ filter_map f (take i xs) ++ option_to_list (f x)
filter_map-more f xs i x within here =
    ap (filter_map f) (take_more xs i x within ∙ ap (λ y. take i xs ++ y ∷ []) (sym here)) ∙ filter_map-append f (take i xs) (x ∷ [])
    ∙ ap (λ ys. filter_map f (take i xs) ++ ys) (sym (cons_option-list (f x) []) ∙ append-nil (option_to_list (f x)))

-- what is made of the items of one member more
pub filter_map-items : {A B C : Type 0} (f : B → Option C) (items : A → List B) (xs : List A) (i : ℕ) (x : A) → i < length xs → x ≡ get_or xs i x
    → filter_map f (flat_map items (take (i + 1) xs)) ≡ filter_map f (flat_map items (take i xs)) ++ filter_map f (items x)
filter_map-items f items xs i x within here =
    ap (λ ys. filter_map f (flat_map items ys)) (take_more xs i x within ∙ ap (λ y. take i xs ++ y ∷ []) (sym here))
    ∙ ap (filter_map f) (flat_map-append items (take i xs) (x ∷ []) ∙ ap (λ ys. flat_map items (take i xs) ++ ys) (append-nil (items x)))
    ∙ filter_map-append f (flat_map items (take i xs)) (items x)

-- what one index more names
pub one_named : {A : Type 0} (f : ℕ → Option A) (indices : List ℕ) (i : ℕ) (before old new : List A) (one : Option A) → i < length indices
    → old ≡ before ++ filter_map f (take i indices) → one ≡ f (get_or indices i 0) → new ≡ old ++ option_to_list one
    → new ≡ before ++ filter_map f (take (i + 1) indices)
one_named f indices i before old new one within so_far is pushed =
    let x = get_or indices i 0 in
    pushed ∙ ap (λ ts. ts ++ option_to_list one) so_far ∙ append_assoc before (filter_map f (take i indices)) (option_to_list one)
    ∙ ap (λ ts. before ++ ts)
    (ap (λ o. filter_map f (take i indices) ++ option_to_list o) is
    ∙ sym (filter_map-more f indices i x within (get_or_default indices i 0 x within)))
