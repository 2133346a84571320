-- The names under which classes are written.
use Rattle.std.specs.Prelude.{◌≡◌, ℕ, List, [], map, take, Contains, IfSome, slice_get}
use Rattle.std.specs.List.{AllByRecursion}
use Rattle.fm_code.specs.Profile.{NameIsSupported}
use Rattle.fm_code.specs.Spells.{HasSpelling}
use Rattle.fm_code.specs.declared.class_file.ClassDef.{ClassDef}
use Rattle.fm_cli.specs.Printed.{printed}
use Rattle.fm_world.specs.Causes.{own_name}
use Rattle.fm_world.specs.Linking.{refusals}

-- no text is an earlier one
abbrev pub AreNew : List (List ℕ) → Type 0
AreNew texts = (place : ℕ) → IfSome (slice_get texts place) (λ text. ¬ Contains (take place texts) text)

-- class files that link have names of their own, and as texts these are still apart
abbrev pub NamesAreApart : Type 0
NamesAreApart =
    (given : List ClassDef) (main : List ℕ) → AllByRecursion HasSpelling given → AllByRecursion NameIsSupported given → refusals given main ≡ []
    → AreNew (map (λ c. printed (own_name c)) given)
