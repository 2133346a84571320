-- What the tables of superclasses and superinterfaces say of the classes.
use Rattle.std.specs.Prelude.{◌≡◌, ℕ, ◌-◌, ◌<◌, ◌&&◌, Bool, true, false, List, length, map, nat_eq, nat_lt, Option, None, Some, option_and_then, slice_get, take, if◌then◌else◌}
use Rattle.std.specs.List.{slice_index_or}
use Rattle.std.specs.Str.{bytes_eq}
use Rattle.fm_world.specs.Acyclic.{IsAcyclic}
use Rattle.fm_world.specs.Causes.{goes_deep}
use Rattle.fm_world.specs.Chains.{chain_of, class_at, distinct, interfaces_of, is_among, listed_interfaces, parent_of, superinterfaces_of}
use Rattle.fm_world.specs.Lookups.{field_path, object_number}
use Rattle.fm_world.specs.declared.declarations.DeclaredClass.{DeclaredClass}
use Rattle.fm_world.specs.inner.Tables.{AreInterfaces, IsLinear, numbers_below}
use Rattle.fm_link_supers.specs.declared.hierarchy.Ancestors.{Ancestors}
use Rattle.fm_link_supers.specs.declared.hierarchy.Hierarchy.{Hierarchy}
use Rattle.fm_link_supers.specs.inner.ListTables.{list_in, lists}

-- what is left once no superclass and no interface is refused: no chain leads into a cycle, and only interfaces are listed
pub record AreSound (classes : List DeclaredClass) : Type 0 where
  pub acyclic : IsAcyclic classes
  pub only_interfaces : (class : ℕ) → AreInterfaces classes (listed_interfaces classes class)

-- each class is in the list, after its superclass
pub record IsDownwards (classes : List DeclaredClass) (order : List ℕ) : Type 0 where
  pub all : (class : ℕ) → class < length classes → is_among class order ≡ true
  pub only : (class : ℕ) → is_among class order ≡ true → class < length classes
  pub after : (place class parent : ℕ) → slice_get order place ≡ Some class → parent_of classes class ≡ Some parent
      → is_among parent (take place order) ≡ true

-- the number is there, and is this one
abbrev pub is_this : ℕ → Option ℕ → Bool
is_this number None = false
is_this number (Some n) = nat_eq n number

-- the number is at this distance from the end of a chain, and isn't the first of it
abbrev pub stands_above : List ℕ → ℕ → ℕ → Bool
stands_above chain far number = nat_lt far (length chain) && is_this number (slice_get chain (length chain - far))

-- the tables before anything is refused: superinterfaces are found where no chain of interfaces leads into a cycle
pub record AreAncestors (classes : List DeclaredClass) (a : Ancestors) : Type 0 where
  pub classes_are : a.classes.now ≡ classes
  pub parents : a.parents.items ≡ map (parent_of classes) (numbers_below (length classes))
  pub listed : lists a.listed.items ≡ map (listed_interfaces classes) (numbers_below (length classes))
  pub cycles : a.leads_into_cycle.items ≡ map (goes_deep (length classes) classes) (numbers_below (length classes))
  pub one_each : length a.above.items ≡ length classes
  pub above : (class : ℕ) → class < length classes → goes_deep (length classes) classes class ≡ false
      → list_in a.above.items class ≡ superinterfaces_of classes class
  pub object : a.object ≡ object_number classes

-- where a field of a class is looked for, each class and each interface once
abbrev pub distinct_path : List DeclaredClass → ℕ → List ℕ
distinct_path classes class = distinct nat_eq (field_path classes class)

-- the second class is in the chain of the first one as far from its end as its own chain is long
abbrev pub is_superclass_in : Hierarchy → ℕ → ℕ → Bool
is_superclass_in h class other = stands_above (list_in h.chains.items class) (length (list_in h.chains.items other)) other

-- the superclass, where it has the class's name
abbrev pub completing_in : Hierarchy → ℕ → Option ℕ
completing_in h class = option_and_then named_alike (slice_index_or h.parents.items class None) where
  named_alike : ℕ → Option ℕ
  named_alike above = if bytes_eq (class_at h.classes.now above).name (class_at h.classes.now class).name then Some above else None

-- the tables of classes of which none is refused
pub record IsHierarchy (classes : List DeclaredClass) (h : Hierarchy) : Type 0 where
  pub classes_are : h.classes.now ≡ classes
  pub linear : IsLinear classes
  pub only_interfaces : (class : ℕ) → AreInterfaces classes (superinterfaces_of classes class)
  pub parents : h.parents.items ≡ map (parent_of classes) (numbers_below (length classes))
  pub listed : lists h.listed.items ≡ map (listed_interfaces classes) (numbers_below (length classes))
  pub chains : lists h.chains.items ≡ map (chain_of classes) (numbers_below (length classes))
  pub order : IsDownwards classes h.order.items
  pub above : lists h.above.items ≡ map (superinterfaces_of classes) (numbers_below (length classes))
  pub interfaces : lists h.interfaces.items ≡ map (interfaces_of classes) (numbers_below (length classes))
  pub paths : lists h.paths.items ≡ map (distinct_path classes) (numbers_below (length classes))
  pub object : h.object ≡ object_number classes
