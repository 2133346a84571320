-- What is planned by the facts of a program is what the definitions insert by them.
use Rattle.std.specs.Prelude.{[], ◌∷◌, ◌+◌, ◌≡◌, ℕ, Bool, List, Some, None}
use Rattle.std.specs.List.{AllByRecursion}
use Rattle.fm_code.specs.Members.{code_of, MethodIsValid}
use Rattle.fm_code.specs.declared.class_file.Member.{Member}
use Rattle.fm_code.specs.declared.class_file.MemberAttr.{MemberAttr}
use Rattle.fm_code.specs.declared.class_file.MemberAttr.TheVariants as attribute
use Rattle.fm_code.specs.declared.code_array.Code.{Code}
use Rattle.fm_code.specs.declared.constant_pool.Entry.{Entry}
use Rattle.fm_conn.specs.Facts.{Facts}
use Rattle.fm_rewrite.specs.Plans.{IsPlannedByFacts}
use Rattle.fm_rewrite.specs.Causes.{plans_for}
use Rattle.fm_place_weave.specs.ClassLaws.{AreAlike, IsAlike}
use Rattle.fm_place_weave.specs.declared.planned.Planned.{Planned}
use Rattle.fm_place_weave.specs.declared.planned.Planned.TheVariants as planned
use Rattle.fm_world.specs.Programs.{code_at, Program}

-- an attribute that is code is this one
abbrev pub IsOwnCode : Code → MemberAttr → Type 0
IsOwnCode code (attribute.Coded name own) = own ≡ code
IsOwnCode code a = Unit {0}

-- what is planned isn't that the method is too long
abbrev pub IsShortEnough : Planned → Type 0
IsShortEnough (planned.TooLong bytes chains) = ⊥
IsShortEnough done = Unit {0}

-- a method of a class file has this number in the program, and is planned by its facts
pub record IsPlannedAt (p : Program) (facts : Facts) (chains : Bool) (method : ℕ) (done : Planned) (m : Member) : Type 0 where
  pub coded : code_at p method ≡ code_of m
  pub by : (code : Code) → code_at p method ≡ Some code → IsPlannedByFacts p facts method code chains done
  pub others : code_at p method ≡ None → done ≡ planned.Same

-- the same of the methods of a class, from a number on
abbrev pub ArePlannedFrom : Program → Facts → (chains : Bool) → (first : ℕ) → List Planned → List Member → Type 0
ArePlannedFrom p facts chains first [] [] = Unit {0}
ArePlannedFrom p facts chains first (d ∷ done) (m ∷ methods) = IsPlannedAt p facts chains first d m × ArePlannedFrom p facts chains (first + 1) done methods
ArePlannedFrom p facts chains first done methods = ⊥

-- a method of a class file, with code or without, that isn't too long already while no branch is widened, is planned as the definitions say
abbrev pub MembersArePlannedAlike : Type 0
MembersArePlannedAlike =
    (in_interface : Bool) (entries : List Entry) (p : Program) (facts : Facts) (chains : Bool) (method : ℕ) (done : Planned) (m : Member) → MethodIsValid in_interface entries m
    → IsPlannedAt p facts chains method done m → IsShortEnough done → IsAlike (plans_for chains p facts method) done m

-- all methods of a class are
abbrev pub ClassesArePlannedAlike : Type 0
ClassesArePlannedAlike =
    (in_interface : Bool) (entries : List Entry) (p : Program) (facts : Facts) (chains : Bool) (first : ℕ) (done : List Planned) (methods : List Member)
    → AllByRecursion (MethodIsValid in_interface entries) methods → ArePlannedFrom p facts chains first done methods → AllByRecursion IsShortEnough done
    → AreAlike (plans_for chains p facts) first done methods
