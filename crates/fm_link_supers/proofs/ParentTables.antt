-- The tables of superclasses return what the definitions look up by name.
use Rattle.std.proofs.Common.{◌≡◌, refl, sym, ◌∙◌, ap, ℕ, zero, suc, ◌<◌, ◌≤◌, ◌⊎◌, inl, inr, List, [], ◌∷◌, length, map, get_or, Option, Some, None, arith, zero-add}
use Rattle.std.specs.Global.{Vec}
use Rattle.std.proofs.lemmas.Bool.{cases_lt}
use Rattle.std.proofs.lemmas.List.{get_or_past, get_or-map, length-map}
use Rattle.std.proofs.lemmas.List.FromFn.{fill_by_all, get_or-map-range_with_len, length-map-range_with_len}
use Rattle.fm_base.proofs.ListFacts.{map_same}
use Rattle.fm_world.proofs.TableLemmas.{length-row}
use Rattle.fm_world.specs.Causes.{goes_up}
use Rattle.fm_world.specs.Chains.{chain_of, class_at, parent_of, superclass_in, upwards}
use Rattle.fm_world.specs.Declarations.{no_class}
use Rattle.fm_world.specs.declared.declarations.DeclaredClass.{DeclaredClass}
use Rattle.fm_world.specs.inner.Tables.{numbers_below}
use Rattle.fm_link_supers.specs.inner.ListTables.{list_in, lists}
use Rattle.fm_link_supers.specs.inner.ParentTable.{chain_by, climbs, parent_at, upwards_by}

-- ---- tables by the numbers of the classes

pub map_twice : {X Y Z : Type 0} (f : Y → Z) (g : X → Y) (xs : List X) → map f (map g xs) ≡ map (λ x. f (g x)) xs
map_twice f g [] = refl
map_twice f g (x ∷ xs) = ap (λ ys. f (g x) ∷ ys) (map_twice f g xs)

-- what a table has at a class, where numbers that no class has stand for the table's default
pub row_at : {X : Type 0} (f : ℕ → X) (n : ℕ) (d : X) → ((k : ℕ) → n ≤ k → f k ≡ d) → (rows : List X) → rows ≡ map f (numbers_below n) → (k : ℕ)
    → get_or rows k d ≡ f k
row_at {X} f n d past rows e k = ap (λ r. get_or r k d) e ∙ by_place (cases_lt k n) where
  by_place : (k < n) ⊎ (n ≤ k) → get_or (map f (numbers_below n)) k d ≡ f k
  by_place (inl h) = get_or-map-range_with_len f 0 n k k d h (zero-add k)
  by_place (inr h) = get_or_past (map f (numbers_below n)) k d (let l = length-map-range_with_len f 0 n in omega (arith, h, l)) ∙ sym (past k h)

-- the same below the number of classes alone
pub row_within : {X : Type 0} (f : ℕ → X) (n : ℕ) (d : X) (rows : List X) → rows ≡ map f (numbers_below n) → (k : ℕ) → k < n → get_or rows k d ≡ f k
row_within f n d rows e k h = ap (λ r. get_or r k d) e ∙ get_or-map-range_with_len f 0 n k k d h (zero-add k)

-- a table made class by class
pub map_classes : {X : Type 0} (f : DeclaredClass → X) (classes : List DeclaredClass) → map f classes ≡ map (λ k. f (class_at classes k)) (numbers_below (length classes))
map_classes f classes =
    fill_by_all (λ k. f (class_at classes k)) (map f classes) (length classes) (f no_class) (length-map classes f)
    (λ k h. get_or-map f classes k no_class (f no_class) h)

-- ---- superclasses

pub parent_past : (classes : List DeclaredClass) (k : ℕ) → length classes ≤ k → parent_of classes k ≡ None
parent_past classes k h = ap (superclass_in classes) (get_or_past classes k no_class h)

pub parent_at_is : (classes : List DeclaredClass) (parents : List (Option ℕ)) → parents ≡ map (parent_of classes) (numbers_below (length classes)) → (k : ℕ)
    → parent_at parents k ≡ parent_of classes k
parent_at_is classes parents e k = row_at (parent_of classes) (length classes) None (parent_past classes) parents e k

climbs_by : (classes : List DeclaredClass) (parents : List (Option ℕ)) → ((k : ℕ) → parent_at parents k ≡ parent_of classes k) → (bound : ℕ) (class : Option ℕ)
    → climbs bound parents class ≡ goes_up bound classes class
climbs_by classes parents at zero None = refl
climbs_by classes parents at zero (Some class) = refl
climbs_by classes parents at (suc bound) None = refl
climbs_by classes parents at (suc bound) (Some class) = ap (climbs bound parents) (at class) ∙ climbs_by classes parents at bound (parent_of classes class)

upwards_is : (classes : List DeclaredClass) (parents : List (Option ℕ)) → ((k : ℕ) → parent_at parents k ≡ parent_of classes k) → (bound : ℕ) (class : Option ℕ)
    → upwards_by bound parents class ≡ upwards bound classes class
upwards_is classes parents at zero class = refl
upwards_is classes parents at (suc bound) None = refl
upwards_is classes parents at (suc bound) (Some class) =
    ap (λ xs. class ∷ xs) (ap (upwards_by bound parents) (at class) ∙ upwards_is classes parents at bound (parent_of classes class))

-- what is asked of the table with as many steps as there are classes
pub climbs_is : (classes : List DeclaredClass) (parents : List (Option ℕ)) → parents ≡ map (parent_of classes) (numbers_below (length classes)) → (class : Option ℕ)
    → climbs (length parents) parents class ≡ goes_up (length classes) classes class
climbs_is classes parents e class =
    ap (λ n. climbs n parents class) (length-row (parent_of classes) (length classes) parents e)
    ∙ climbs_by classes parents (parent_at_is classes parents e) (length classes) class

pub chain_by_is : (classes : List DeclaredClass) (parents : List (Option ℕ)) → parents ≡ map (parent_of classes) (numbers_below (length classes)) → (class : ℕ)
    → chain_by parents class ≡ chain_of classes class
unfolding chain_of
chain_by_is classes parents e class =
    ap (λ n. upwards_by (suc n) parents (Some class)) (length-row (parent_of classes) (length classes) parents e)
    ∙ upwards_is classes parents (parent_at_is classes parents e) (suc (length classes)) (Some class)

-- the table of chains that the code makes
pub chains_are : (classes : List DeclaredClass) (parents : List (Option ℕ)) → parents ≡ map (parent_of classes) (numbers_below (length classes))
    → (chains : List (List ℕ)) → chains ≡ map (chain_by parents) (numbers_below (length parents)) → chains ≡ map (chain_of classes) (numbers_below (length classes))
chains_are classes parents e chains made =
    made ∙ ap (λ n. map (chain_by parents) (numbers_below n)) (length-row (parent_of classes) (length classes) parents e)
    ∙ map_same (chain_by parents) (chain_of classes) (chain_by_is classes parents e) (numbers_below (length classes))

-- ---- lists of classes

pub list_in-row : (f : ℕ → List ℕ) (count class : ℕ) (table : List (Vec ℕ)) → lists table ≡ map f (numbers_below count) → class < count
    → list_in table class ≡ f class
list_in-row f count class table e within =
    ap (λ xs. get_or xs class []) e ∙ get_or-map-range_with_len f 0 count class class [] within (zero-add class)
