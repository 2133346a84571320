-- Where no chain leads into a cycle.
use Rattle.std.specs.Prelude.{◌≡◌, ℕ, ◌<◌, false, List, length}
use Rattle.std.specs.List.{list_any}
use Rattle.fm_world.specs.Causes.{goes_deep, goes_up}
use Rattle.fm_world.specs.Chains.{listed_interfaces, parent_of}
use Rattle.fm_world.specs.declared.declarations.DeclaredClass.{DeclaredClass}

-- no chain of superclasses, and no chain of interfaces, leads into a cycle
pub record IsAcyclic (classes : List DeclaredClass) : Type 0 where
  pub superclasses : (class : ℕ) → class < length classes → goes_up (length classes) classes (parent_of classes class) ≡ false
  pub interfaces : (class : ℕ) → class < length classes → list_any (goes_deep (length classes) classes) (listed_interfaces classes class) ≡ false
