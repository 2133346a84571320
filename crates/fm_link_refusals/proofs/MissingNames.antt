-- The first name of a class that isn't there, as the head of the refusals.
use Rattle.std.proofs.Common.{◌≡◌, refl, sym, ◌∙◌, ap, subst, ℕ, zero, suc, ◌+◌, ◌<◌, Bool, true, false, cond, not, List, [], ◌∷◌, ◌++◌, length, take, map, get_or, Bor, Option, Some, None, is_none, is_some, option_and_then, option_copied, unwrap_or, slice_get, arith}
use Rattle.std.proofs.lemmas.List.{get_or-map, map_more}
use Rattle.std.proofs.Math.ListN.{length-map}
use Rattle.std.specs.List.{flat_map}
use Rattle.std.specs.Option.{option_or}
use Rattle.fm_code.specs.Names.{FieldType}
use Rattle.fm_code.specs.declared.class_file.ClassDef.{ClassDef}
use Rattle.fm_link_names.specs.inner.DescriptorTypes.{absent_name, first_missing, missing_name}
use Rattle.fm_link_names.specs.declared.given.GivenFile.{GivenFile}
use Rattle.fm_code.specs.ConstantPool.{utf8_at}
use Rattle.fm_link_names.specs.inner.Files.{named_class_in, text_in}
use Rattle.fm_world.specs.Declarations.{text_at}
use Rattle.fm_link_names.specs.inner.Numbering.{IsNumberOf, lent, text_of}
use Rattle.fm_world.specs.Causes.{MissingClass, missing, missing_at, own_name, refused, refused_if, refused_where, Cause, Refusal}
use Rattle.fm_world.specs.Descriptors.{class_in, class_number, class_type}
use Rattle.fm_world.specs.Uses.{named_class}
use Rattle.fm_world.specs.declared.declarations.DeclaredClass.{DeclaredClass}
use Rattle.fm_link_refusals.proofs.FileNames.{name_numbered, no_number, number_means}
use Rattle.fm_link_refusals.specs.Refused.{refusal_as}
use Rattle.fm_link_refusals.specs.inner.GivenClasses as given
use Rattle.fm_link_refusals.specs.inner.GivenClasses.{IsNumbered}
use Rattle.fm_link_refusals.specs.declared.error.LinkBad.{LinkBad}

-- ---- refusals

-- a refusal of that name by that class
pub refusal_is : (cause : Cause) (c : ClassDef) (name : List ℕ) (bad : LinkBad) → bad.name ≡ name → bad.user ≡ own_name c → refused cause c name
    ≡ refusal_as cause bad
refusal_is cause c name bad named used =
    ap (λ n. let r : Refusal = record { cause = cause; name = n; user = own_name c } in r) (sym named)
    ∙ ap (λ n. let r : Refusal = record { cause = cause; name = bad.name; user = n } in r) (sym used)

-- ---- one type

pub missing-none : (classes : List DeclaredClass) (c : ClassDef) (t : FieldType) → missing_name classes t ≡ None → missing classes c t ≡ []
missing-none classes c t none = go (class_in t) none where
  either : (b : Bool) (name : List ℕ) → cond b (Some name) None ≡ None → refused_if b (refused MissingClass c name) ≡ []
  either true name e = cc
  either false name e = refl

  go : (o : Option (List ℕ)) → option_and_then (absent_name classes) o ≡ None
      → refused_where (λ name. refused_if (is_none (class_number classes name)) (refused MissingClass c name)) o ≡ []
  go None e = refl
  go (Some name) e = either (is_none (class_number classes name)) name e

pub missing-some : (classes : List DeclaredClass) (c : ClassDef) (t : FieldType) (name : List ℕ) → missing_name classes t ≡ Some name
    → missing classes c t ≡ refused MissingClass c name ∷ []
missing-some classes c t name some = go (class_in t) some where
  either : (b : Bool) (other : List ℕ) → cond b (Some other) None ≡ Some name → refused_if b (refused MissingClass c other)
      ≡ refused MissingClass c name ∷ []
  either true other e = ap (λ n. refused MissingClass c n ∷ []) cc
  either false other e = cc

  go : (o : Option (List ℕ)) → option_and_then (absent_name classes) o ≡ Some name
      → refused_where (λ name. refused_if (is_none (class_number classes name)) (refused MissingClass c name)) o ≡ refused MissingClass c name ∷ []
  go None e = cc
  go (Some other) e = either (is_none (class_number classes other)) other e

-- ---- all types of a descriptor

pub all_missing-none : (classes : List DeclaredClass) (c : ClassDef) (types : List FieldType) → first_missing classes types ≡ None
    → flat_map (missing classes c) types ≡ []
all_missing-none classes c [] none = refl
all_missing-none classes c (t ∷ types) none = go (missing_name classes t) refl none (all_missing-none classes c types) where
  go : (o : Option (List ℕ)) → missing_name classes t ≡ o → option_or o (first_missing classes types) ≡ None
      → (first_missing classes types ≡ None → flat_map (missing classes c) types ≡ []) → missing classes c t ++ flat_map (missing classes c) types
      ≡ []
  go None here e rest = ap (λ ms. ms ++ flat_map (missing classes c) types) (missing-none classes c t here) ∙ rest e
  go (Some name) here e rest = cc

pub all_missing-some : (classes : List DeclaredClass) (c : ClassDef) (types : List FieldType) (name : List ℕ) → first_missing classes types
    ≡ Some name
    → slice_get (flat_map (missing classes c) types) 0 ≡ Some (refused MissingClass c name)
all_missing-some classes c [] name some = cc
all_missing-some classes c (t ∷ types) name some = go (missing_name classes t) refl some (all_missing-some classes c types name) where
  go : (o : Option (List ℕ)) → missing_name classes t ≡ o → option_or o (first_missing classes types) ≡ Some name
      → (first_missing classes types ≡ Some name → slice_get (flat_map (missing classes c) types) 0 ≡ Some (refused MissingClass c name))
      → slice_get (missing classes c t ++ flat_map (missing classes c) types) 0 ≡ Some (refused MissingClass c name)
  go None here e rest = ap (λ ms. slice_get (ms ++ flat_map (missing classes c) types) 0) (missing-none classes c t here) ∙ rest e
  go (Some other) here e rest =
      ap (λ ms. slice_get (ms ++ flat_map (missing classes c) types) 0) (missing-some classes c t other here)
      ∙ ap (λ n. Some (refused MissingClass c n)) cc

-- ---- marks by text

-- a mark that is set shows what its text passes
pub passes_marked : (test : List ℕ → Bool) (marks : List Bool) (texts : List (List ℕ)) (n : ℕ) → marks ≡ map test texts → get_or marks n false ≡ true
    → test (get_or texts n []) ≡ true
passes_marked test marks texts n are set = go texts n (ap (λ ms. get_or ms n false) (sym are) ∙ set) where
  go : (ts : List (List ℕ)) (k : ℕ) → get_or (map test ts) k false ≡ true → test (get_or ts k []) ≡ true
  go [] k e = cc
  go (t ∷ ts) zero e = e
  go (t ∷ ts) (suc k) e = go ts k e

pub is_none-none : {X : Type 0} (o : Option X) → is_none o ≡ true → o ≡ None
is_none-none None e = refl
is_none-none (Some x) e = cc

-- ---- marks made one after the other

pub is_none_from : {X : Type 0} (o : Option X) (b : Bool) → is_some o ≡ not b → b ≡ is_none o
is_none_from o true e = sym (ap not e)
is_none_from o false e = sym (ap not e)

pub none_copied : {X : Type 0} (o : Option (Bor X)) → is_none o ≡ is_none (option_copied o)
none_copied None = refl
none_copied (Some x) = refl

pub met_more : (test : List ℕ → Bool) (texts : List (Bor (List ℕ))) (i : ℕ) (d : Bor (List ℕ)) (met new : List Bool) (b : Bool) → i < length texts
    → new ≡ met ++ b ∷ [] → b ≡ test (get_or texts i d).now → met ≡ map test (take i (lent texts)) → new ≡ map test (take (i + 1) (lent texts))
met_more test texts i d met new b within pushed is so_far =
    let now = λ (x : Bor (List ℕ)). x.now in
    let long = length-map texts now in
    pushed
    ∙ ap (λ ms. ms ++ b ∷ []) so_far
    ∙ ap (λ x. map test (take i (lent texts)) ++ x ∷ []) (is ∙ ap test (sym (get_or-map now texts i d [] within)))
    ∙ sym (map_more test (lent texts) i [] (omega (arith, long)))

-- ---- what is named at an index

pub name_at_index : (texts : List (List ℕ)) (file : GivenFile) → IsNumbered texts file → (i j text : ℕ) (r : Option ℕ) → j ≡ i → r
    ≡ named_class_in file j → r ≡ Some text
    → named_class (given.class_in file).pool.entries i ≡ Some (text_of texts text)
name_at_index texts file is i j text r same found some =
    let o = named_class (given.class_in file).pool.entries i in
    number_means texts o text
    (subst (λ n. IsNumberOf texts o n) (ap (named_class_in file) (sym same) ∙ sym found ∙ some) (name_numbered texts file is i))

pub no_name_at_index : (texts : List (List ℕ)) (file : GivenFile) → IsNumbered texts file → (i j : ℕ) (r : Option ℕ) → j ≡ i → r
    ≡ named_class_in file j → r ≡ None
    → named_class (given.class_in file).pool.entries i ≡ None
no_name_at_index texts file is i j r same found none =
    let o = named_class (given.class_in file).pool.entries i in
    no_number texts o (subst (λ n. IsNumberOf texts o n) (ap (named_class_in file) (sym same) ∙ sym found ∙ none) (name_numbered texts file is i))

pub missing_at-named : (classes : List DeclaredClass) (c : ClassDef) (i : ℕ) (name : List ℕ) → named_class c.pool.entries i ≡ Some name
    → missing_at classes c i ≡ missing classes c (class_type name)
missing_at-named classes c i name named = ap (refused_where (λ n. missing classes c (class_type n))) named

pub missing_at-unnamed : (classes : List DeclaredClass) (c : ClassDef) (i : ℕ) → named_class c.pool.entries i ≡ None → missing_at classes c i ≡ []
missing_at-unnamed classes c i named = ap (refused_where (λ n. missing classes c (class_type n))) named

-- a list that counts only under a test
pub when : (b : Bool) (xs : List Refusal) (P : List Refusal → Type 0) → b ≡ true → P xs → P (cond b xs [])
when b xs P e p = subst (λ v. P (cond v xs [])) (sym e) p

-- the descriptor of a number that a call found
pub descriptor_at : (texts : List (List ℕ)) (file : GivenFile) → IsNumbered texts file → (index text : ℕ) (r : Option ℕ) → r ≡ text_in file index → r
    ≡ Some text
    → text_at (given.class_in file).pool.entries index ≡ text_of texts text
descriptor_at texts file is index text r found some =
    let o = utf8_at (given.class_in file).pool.entries index in
    ap (λ p. unwrap_or p []) (number_means texts o text (subst (λ n. IsNumberOf texts o n) (sym found ∙ some) (is.texts_are index)))
