-- The rounds in which superinterfaces are found: after round k, those of the classes none of whose chains of listed interfaces has k members.
use Rattle.std.specs.Prelude.{◌≡◌, ℕ, zero, suc, ◌<◌, ◌&&◌, not, Bool, false, List, [], ◌∷◌, ◌++◌, length, map, nat_eq, Option, None, Some, slice_index, slice_set, if◌then◌else◌}
use Rattle.std.specs.Global.{Vec}
use Rattle.std.specs.List.{flat_map, slice_index_or}
use Rattle.fm_world.specs.Causes.{goes_deep}
use Rattle.fm_world.specs.Chains.{distinct, listed_interfaces, superinterfaces_of}
use Rattle.fm_world.specs.declared.declarations.DeclaredClass.{DeclaredClass}
use Rattle.fm_world.specs.inner.Tables.{numbers_below}
use Rattle.fm_link_supers.specs.declared.interfaces.Superinterfaces.{Superinterfaces}
use Rattle.fm_link_supers.specs.inner.ListTables.{lists}
use Rattle.fm_link_supers.specs.inner.ParentTable.{parent_at}

-- ---- tables alone

-- a place past the end has no mark
abbrev pub is_set : List Bool → ℕ → Bool
is_set marks place = slice_index_or marks place false

-- of each class a given number of interfaces at the front of its list have no mark
abbrev pub HavePassed : List Bool → List (List ℕ) → List ℕ → Type 0
HavePassed marks listed passed =
    (class i : ℕ) → i < slice_index passed class → i < length (slice_index_or listed class [])
    → is_set marks (slice_index (slice_index_or listed class []) i) ≡ false

-- each of the interfaces and then what the table has at it, each once
abbrev pub above_by : List ℕ → List (List ℕ) → List ℕ
above_by interfaces above = distinct nat_eq (flat_map (λ i. i ∷ slice_index_or above i []) interfaces)

-- the table with what is found of one class
abbrev pub settled_one : List ℕ → Bool → List (List ℕ) → ℕ → List (List ℕ)
settled_one interfaces is_settled above class = if is_settled then slice_set above class (above_by interfaces above) else above

-- the table after a round over a given number of classes, by the marks before it and after it
abbrev pub settled_to : List (List ℕ) → List Bool → List Bool → List (List ℕ) → ℕ → List (List ℕ)
settled_to listed before after above zero = above
settled_to listed before after above (suc class) =
    settled_one (slice_index_or listed class []) (is_set before class && not (is_set after class)) (settled_to listed before after above class) class

-- what a table has at a class's superclass
abbrev pub of_parent : List (List ℕ) → Option ℕ → List ℕ
of_parent all None = []
of_parent all (Some parent) = slice_index_or all parent []

-- the table with what a class has of its own and what its superclass has there, each once
abbrev pub with_inherited : List (Option ℕ) → List (List ℕ) → List (List ℕ) → ℕ → List (List ℕ)
with_inherited parents own all class =
    slice_set all class (distinct nat_eq (slice_index_or own class [] ++ of_parent all (parent_at parents class)))

-- the same for one class after the other
abbrev pub inherited_along : List (Option ℕ) → List (List ℕ) → List ℕ → List (List ℕ) → List (List ℕ)
inherited_along parents own [] all = all
inherited_along parents own (class ∷ order) all = inherited_along parents own order (with_inherited parents own all class)

-- each list with the number of its class in front
abbrev pub with_classes : List (List ℕ) → List (List ℕ)
with_classes own = map (λ class. class ∷ slice_index_or own class []) (numbers_below (length own))

-- ---- tables of classes

-- the table has the listed interfaces of the classes
abbrev pub Lists : List DeclaredClass → List (Vec ℕ) → Type 0
Lists classes listed = lists listed ≡ map (listed_interfaces classes) (numbers_below (length classes))

-- the table has them, each once
abbrev pub ListsOnce : List DeclaredClass → List (Vec ℕ) → Type 0
ListsOnce classes listed = lists listed ≡ map (distinct nat_eq) (map (listed_interfaces classes) (numbers_below (length classes)))

-- the table has the superinterfaces of the classes whose chains have fewer members
pub record IsAboveTo (classes : List DeclaredClass) (round : ℕ) (above : List (List ℕ)) : Type 0 where
  pub one_each : length above ≡ length classes
  pub found : (class : ℕ) → class < length classes → goes_deep round classes class ≡ false
      → slice_index_or above class [] ≡ superinterfaces_of classes class

-- what is found after a given number of rounds
pub record AreFoundTo (classes : List DeclaredClass) (round : ℕ) (found : Superinterfaces) : Type 0 where
  pub goes_on : found.leads_into_cycle.items ≡ map (goes_deep round classes) (numbers_below (length classes))
  pub above : IsAboveTo classes round (lists found.above.items)
