-- The classes of files have no hidden field.
use Rattle.std.proofs.Common.{◌≡◌, ℕ, ◌+◌, ◌-◌, ◌≤◌, false, List, [], ◌∷◌, length, refl, ◌∙◌, ap}
use Rattle.std.specs.List.{AllByRecursion}
use Rattle.std.proofs.lemmas.List.{get_or-append_right}
use Rattle.fm_base.proofs.ListFacts.{AllByRecursion-get_or}
use Rattle.fm_code.specs.declared.class_file.ClassDef.{ClassDef}
use Rattle.fm_world.specs.BuiltIns.{built_in}
use Rattle.fm_world.specs.Chains.{class_at}
use Rattle.fm_world.specs.Declarations.{declared_from, no_class}
use Rattle.fm_world.specs.Programs.{classes_of}
use Rattle.fm_world.specs.declared.declarations.DeclaredClass.{DeclaredClass}

abbrev HidesNothing : DeclaredClass → Type 0
HidesNothing c = c.hidden ≡ false

each_hides_nothing : (file : ℕ) (given : List ClassDef) → AllByRecursion HidesNothing (declared_from file given)
each_hides_nothing file [] = tt
each_hides_nothing file (c ∷ given) = (refl, each_hides_nothing (file + 1) given)

pub own_hide_nothing : (given : List ClassDef) (class : ℕ) → length built_in ≤ class → (class_at (classes_of given) class).hidden ≡ false
unfolding classes_of
own_hide_nothing given class late =
    ap (λ (c : DeclaredClass). c.hidden) (get_or-append_right built_in (declared_from 0 given) (length built_in) class no_class refl late)
    ∙ AllByRecursion-get_or HidesNothing (declared_from 0 given) no_class (each_hides_nothing 0 given) refl (class - length built_in)
