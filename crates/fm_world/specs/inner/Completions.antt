-- What each class keeps to that completes a built-in one, so that what is above a built-in class and what its objects have is as in the table.
use Rattle.std.specs.Prelude.{◌≡◌, ℕ, ◌<◌, Bool, true, false, List, [], length, codes, Some, is_some}
use Rattle.std.specs.List.{list_any}
use Rattle.std.specs.Str.{bytes_eq}
use Rattle.fm_world.specs.BuiltIns.{built_in}
use Rattle.fm_world.specs.Chains.{class_at, completion_of, superclasses_of}
use Rattle.fm_world.specs.Lookups.{is_interface_at}
use Rattle.fm_world.specs.Members.{own_kinds}
use Rattle.fm_world.specs.declared.declarations.DeclaredClass.{DeclaredClass}

-- the built-in class is a throwable below Throwable: what completes it may have fields of its own
abbrev pub is_below_throwable : ℕ → Bool
is_below_throwable class = list_any (λ above. bytes_eq (class_at built_in above).name (codes "java/lang/Throwable")) (superclasses_of built_in class)

-- the second class completes the first one, which is built in
pub record Completes (classes : List DeclaredClass) (class completing : ℕ) : Type 0 where
  -- the built-in class is no interface and has a superclass, and the other one has the same
  pub completes_class : is_interface_at classes class ≡ false
  pub has_superclass : is_some (class_at classes class).superclass ≡ true
  pub superclass : (class_at classes completing).superclass ≡ (class_at classes class).superclass
  -- it is no interface
  pub is_class : is_interface_at classes completing ≡ false
  -- it has no hidden field, and its objects have none of its own where the built-in class isn't below Throwable
  pub not_hidden : (class_at classes completing).hidden ≡ false
  pub no_fields : is_below_throwable class ≡ false → own_kinds classes (class_at classes completing) ≡ []

-- each class does that completes a built-in one
abbrev pub AreCompleted : List DeclaredClass → Type 0
AreCompleted classes =
    (class completing : ℕ) → class < length built_in → completion_of classes (class_at classes class) ≡ Some completing → Completes classes class completing
