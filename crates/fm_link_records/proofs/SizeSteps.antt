-- Sizes along a chain, by the table of what each class gives to its objects.
use Rattle.std.proofs.Common.{◌≡◌, refl, ◌∙◌, ap, ℕ, ◌+◌, ◌<◌, List, [], ◌∷◌, length, map, drop, get_or}
use Rattle.std.specs.List.{fold}
use Rattle.std.proofs.Math.ListN.{get_or-map}
use Rattle.std.proofs.lemmas.List.{get_or_default}
use Rattle.fm_base.proofs.ListFacts.{map_same}
use Rattle.fm_world.specs.Chains.{chain_of, class_at, superclasses_of}
use Rattle.fm_world.specs.Declarations.{no_class}
use Rattle.fm_world.specs.Members.{hidden_fields, own_size, size_among, size_of}
use Rattle.fm_world.specs.declared.declarations.DeclaredClass.{DeclaredClass}
use Rattle.fm_world.specs.inner.Tables.{numbers_below}
use Rattle.fm_link_supers.proofs.ParentTables.{map_twice}
use Rattle.fm_link_records.specs.inner.Sizes.{base_of, size_along}

fold-same : {A : Type 0} (f g : A → ℕ) → ((x : A) → f x ≡ g x) → (n : ℕ) (xs : List A) → fold (λ a x. a + f x) n xs ≡ fold (λ a x. a + g x) n xs
fold-same f g same n [] = refl
fold-same f g same n (x ∷ xs) = ap (λ k. fold (λ a y. a + f y) (n + k) xs) (same x) ∙ fold-same f g same (n + g x) xs

pub size_along-among : (classes : List DeclaredClass) (own chain : List ℕ) → own ≡ map own_size classes → size_along own chain
    ≡ size_among classes chain
size_along-among classes own chain is =
    fold-same (λ class. get_or own class 0) (λ class. own_size (class_at classes class))
    (λ class. ap (λ sizes. get_or sizes class 0) is ∙ get_or-map own_size classes class no_class) 0 chain

-- the sizes of all classes, by their chains
pub sizes-all : (classes : List DeclaredClass) (own sizes : List ℕ) (chains : List (List ℕ)) → own ≡ map own_size classes
    → chains ≡ map (chain_of classes) (numbers_below (length classes)) → sizes ≡ map (size_along own) chains
    → sizes ≡ map (size_of classes) (numbers_below (length classes))
unfolding size_of
sizes-all classes own sizes chains own_is chains_are is =
    is ∙ ap (map (size_along own)) chains_are ∙ map_twice (size_along own) (chain_of classes) (numbers_below (length classes))
    ∙ map_same (λ class. size_along own (chain_of classes class)) (λ class. size_among classes (chain_of classes class))
    (λ class. size_along-among classes own (chain_of classes class) own_is) (numbers_below (length classes))

-- the base of a class's own fields
pub base_is : (classes : List DeclaredClass) (own chain above : List ℕ) (c : DeclaredClass) (place base : ℕ) → place < length classes
    → c ≡ get_or classes place c → own ≡ map own_size classes → chain ≡ chain_of classes place → above ≡ drop 1 chain
    → base ≡ size_along own above + hidden_fields c → base ≡ base_of classes place
base_is classes own chain above c place base within here own_is chain_is above_is is =
    is ∙ ap (λ n. n + hidden_fields c) (size_along-among classes own above own_is ∙ ap (size_among classes) (above_is ∙ ap (drop 1) chain_is))
    ∙ ap (λ d. size_among classes (superclasses_of classes place) + hidden_fields d) (here ∙ get_or_default classes place c no_class within)
