-- Refusals of one element after the other: what is left of them, and the first one.
use Rattle.std.proofs.Common.{◌≡◌, Result, refl, sym, ◌∙◌, ap, subst, ℕ, ◌+◌, ◌<◌, ◌≤◌, List, [], ◌∷◌, ◌++◌, length, drop, get_or, Option, Some, None, slice_get}
use Rattle.std.specs.List.{flat_map}
use Rattle.std.proofs.Math.ListN.{drop_of_length-le}
use Rattle.fm_world.specs.Causes.{Refusal}
use Rattle.fm_link_names.specs.declared.given.GivenFile.{GivenFile}
use Rattle.fm_link_names.specs.inner.Files.{IsFile}
use Rattle.std.proofs.lemmas.Option.{slice_get_read}
use Rattle.std.specs.Prelude.{Ok, Err, OnOk}
use Rattle.fm_base.proofs.ListFacts.{drop_here}
use Rattle.fm_link_refusals.specs.Refused.{IsFirst, Refuses}
use Rattle.fm_link_refusals.specs.declared.error.LinkFail.{LinkFail}
use Rattle.fm_link_refusals.specs.inner.GivenClasses.{class_in, AreNumbered, IsNumbered}

pub first-append : (mine others : List Refusal) (o : Option Refusal) → IsFirst mine o → IsFirst (mine ++ others) o
first-append mine others None is = tt
first-append [] others (Some r) is = absurd (none_some is) where
  none_some : slice_get [] 0 ≡ Some r → ⊥
  none_some e = cc
first-append (m ∷ mine) others (Some r) is = is

-- ---- one element after the other

pub refuses_none : {X : Type 0} (f : X → List Refusal) (xs : List X) (i : ℕ) (x : X) (all : List Refusal) → i < length xs → x ≡ get_or xs i x → f x
    ≡ []
    → all ≡ flat_map f (drop i xs) → all ≡ flat_map f (drop (i + 1) xs)
refuses_none f xs i x all within is none left =
    left ∙ ap (flat_map f) (drop_here xs i x within is) ∙ ap (λ mine. mine ++ flat_map f (drop (i + 1) xs)) none

pub refuses_first : {X : Type 0} (f : X → List Refusal) (xs : List X) (i : ℕ) (x : X) (all : List Refusal) (o : Option Refusal) → i < length xs → x
    ≡ get_or xs i x
    → IsFirst (f x) o → all ≡ flat_map f (drop i xs) → IsFirst all o
refuses_first f xs i x all o within is first left =
    subst (λ rs. IsFirst rs o) (sym (left ∙ ap (flat_map f) (drop_here xs i x within is))) (first-append (f x) (flat_map f (drop (i + 1) xs)) o first)

pub refuses_end : {X : Type 0} (f : X → List Refusal) (xs : List X) (i : ℕ) (all : List Refusal) → length xs ≤ i → all ≡ flat_map f (drop i xs) → all
    ≡ []
refuses_end f xs i all end left = left ∙ ap (flat_map f) (drop_of_length-le xs end)

-- ---- one phase after the other

pub refuses_after : {X : Type 0} (mine others : List Refusal) (r : Result X LinkFail) → mine ≡ [] → Refuses others r → Refuses (mine ++ others) r
refuses_after mine others r none is = subst (λ ms. Refuses (ms ++ others) r) (sym none) is

pub first_after : (mine others : List Refusal) (o : Option Refusal) → mine ≡ [] → IsFirst others o → IsFirst (mine ++ others) o
first_after mine others o none is = subst (λ ms. IsFirst (ms ++ others) o) (sym none) is

-- what holds anyway
pub on_ok : {X E P : Type 0} → P → (r : Result X E) → OnOk r P
on_ok p (Ok x) = p
on_ok p (Err e) = tt

pub on_ok_then : {X E P Q : Type 0} → (P → Q) → (r : Result X E) → OnOk r P → OnOk r Q
on_ok_then f (Ok x) p = f p
on_ok_then f (Err e) p = tt

-- ---- one file after the other

pub file_here : (texts : List (List ℕ)) (files : List GivenFile) (i : ℕ) (file : GivenFile) → AreNumbered texts files → i < length files → file
    ≡ get_or files i file
    → IsFile texts i (class_in file) file
file_here texts files i file are within is = are.each i file (slice_get_read files (length files) i file refl within is)

pub numbered_here : (texts : List (List ℕ)) (files : List GivenFile) (i : ℕ) (file : GivenFile) → AreNumbered texts files → i < length files → file
    ≡ get_or files i file
    → IsNumbered texts file
numbered_here texts files i file are within is =
    let f = file_here texts files i file are within is in
    record { class_is = refl; number_is = refl; texts_are = f.texts_are }
