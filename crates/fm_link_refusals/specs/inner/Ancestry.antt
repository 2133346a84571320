-- By what superclasses and interfaces are judged.
use Rattle.std.specs.Prelude.{◌≡◌, ℕ, List, map}
use Rattle.fm_link_names.specs.inner.ClassNumbering.{NumbersClasses}
use Rattle.fm_link_supers.specs.inner.Hierarchy.{AreAncestors}
use Rattle.fm_world.specs.Descriptors.{class_number}
use Rattle.fm_world.specs.declared.declarations.DeclaredClass.{DeclaredClass}
use Rattle.fm_link_refusals.specs.declared.parents.Ancestry.{Ancestry}

-- the tables are those of the classes, and the texts are numbered so
pub record JudgesParents (classes : List DeclaredClass) (texts : List (List ℕ)) (a : Ancestry) : Type 0 where
  pub ancestors : AreAncestors classes a.ancestors.now
  pub numbers : NumbersClasses classes a.numbers.now.numbers
  pub by_text : a.by_text.now ≡ map (class_number classes) texts
