-- What is planned by the facts of a program is what the definitions insert by them, unless a method is too long already.
use Rattle.std.proofs.Common.{◌+◌, ℕ, Bool, List, [], ◌∷◌, Option, Some, None}
use Rattle.std.specs.List.{AllByRecursion}
use Rattle.fm_code.specs.Members.{MethodIsValid}
use Rattle.fm_code.specs.declared.class_file.Member.{Member}
use Rattle.fm_code.specs.declared.constant_pool.Entry.{Entry}
use Rattle.fm_conn.specs.Facts.{Facts}
use Rattle.fm_place.specs.Insertions.{Insertions}
use Rattle.fm_place.specs.Rewriting.{Plans}
use Rattle.fm_rewrite.proofs.MeantLemmas.{member_meant}
use Rattle.fm_rewrite.specs.Alike.{ArePlannedFrom, ClassesArePlannedAlike, IsShortEnough, MembersArePlannedAlike}
use Rattle.fm_rewrite.specs.Causes.{plans_for}
use Rattle.fm_rewrite.specs.inner.Meant.{AreMeant, IsMeant}
use Rattle.fm_place_weave.specs.ClassLaws.{AreAlike, IsAlike}
use Rattle.fm_place_weave.specs.declared.planned.Planned.{Planned}
use Rattle.fm_place_weave.specs.declared.planned.Planned.TheVariants as planned
use Rattle.fm_world.specs.Programs.{Program}

-- what isn't too long is what the definitions insert
alike : (o : Option Insertions) (d : Planned) (m : Member) → IsMeant o d m → IsShortEnough d → IsAlike o d m
alike None planned.Same m meant short = tt
alike None (planned.Woven plan) m meant short = absurd meant
alike None (planned.TooLong bytes chains) m meant short = absurd meant
alike (Some ins) planned.Same m meant short = absurd meant
alike (Some ins) (planned.Woven plan) m meant short = (meant.plan_is, meant.attributes)
alike (Some ins) (planned.TooLong bytes chains) m meant short = absurd short

pub alike_all : (plans : Plans) (first : ℕ) (done : List Planned) (methods : List Member) → AreMeant plans first done methods → AllByRecursion IsShortEnough done
    → AreAlike plans first done methods
alike_all plans first [] [] meant short = tt
alike_all plans first [] (m ∷ methods) meant short = absurd meant
alike_all plans first (d ∷ done) [] meant short = absurd meant
alike_all plans first (d ∷ done) (m ∷ methods) meant short =
    (alike (plans first) d m meant.0 short.0, alike_all plans (first + 1) done methods meant.1 short.1)

-- the methods of a class
pub members_meant : (in_interface : Bool) (entries : List Entry) (p : Program) (facts : Facts) (chains : Bool) (first : ℕ) (done : List Planned) (methods : List Member)
    → AllByRecursion (MethodIsValid in_interface entries) methods → ArePlannedFrom p facts chains first done methods → AreMeant (plans_for chains p facts) first done methods
members_meant in_interface entries p facts chains first [] [] valid are = tt
members_meant in_interface entries p facts chains first [] (m ∷ methods) valid are = absurd are
members_meant in_interface entries p facts chains first (d ∷ done) [] valid are = absurd are
members_meant in_interface entries p facts chains first (d ∷ done) (m ∷ methods) valid are = (
  member_meant in_interface entries p facts chains first d m valid.0 are.0,
  members_meant in_interface entries p facts chains (first + 1) done methods valid.1 are.1,
)

pub members_planned_alike : MembersArePlannedAlike
members_planned_alike in_interface entries p facts chains method done m valid at_number short =
    alike (plans_for chains p facts method) done m (member_meant in_interface entries p facts chains method done m valid at_number) short

pub classes_planned_alike : ClassesArePlannedAlike
classes_planned_alike in_interface entries p facts chains first done methods valid are short =
    alike_all (plans_for chains p facts) first done methods (members_meant in_interface entries p facts chains first done methods valid are) short
