-- When a class can be woven by what is to be done with its methods and compared with a written one.
use Rattle.std.specs.Prelude.{◌≡◌, ◌≤◌, true, false, List, [], ◌∷◌, length, None}
use Rattle.fm_chain.specs.Chaining.{calls_for}
use Rattle.fm_chain.specs.declared.calls.Calls.{Calls}
use Rattle.fm_code.specs.Fits.{FitsTwo}
use Rattle.fm_code.specs.FreeEntries.{with_free}
use Rattle.fm_code.specs.Spells.{HasSpelling}
use Rattle.fm_code.specs.declared.class_file.ClassDef.{ClassDef}
use Rattle.fm_place.specs.Rewriting.{free_index}
use Rattle.fm_place_weave.specs.ClassByPlan.{class_by, first_long, has_chains, MayDoAll}
use Rattle.fm_place_weave.specs.declared.planned.Planned.{Planned}
use Rattle.std.specs.List.{AllByRecursion}
use Rattle.fm_rewrite.specs.Alike.{IsShortEnough}
use Rattle.fm_rewrite.specs.Plans.{CallsFit}
use Rattle.fm_rewrite.specs.inner.ByPlans.{changes_by, others, own}
use Rattle.fm_audit_classes.specs.inner.Low.{are_low}
use Rattle.fm_audit_classes.specs.inner.Methods.{MayDoEach}

-- No method would be too long, and no holder holds a chain. Where there is room in a method it may be woven. Where there is room in all of them so may the class, and is one that bytes spell, as long as its pool isn't full and no method
-- is too long; and where bytes spell it, no method is.
pub record MayBeCompared (done : List Planned) (c : ClassDef) : Type 0 where
  pub one_each : length done ≡ length c.methods
  pub spelled : HasSpelling c
  pub plain : has_chains done ≡ false
  pub short : AllByRecursion IsShortEnough done
  pub each : (calls : Calls) → CallsFit calls → MayDoEach calls done c.methods
  pub may : are_low done c.methods ≡ true → (calls : Calls) → CallsFit calls → MayDoAll calls done c.methods
  pub woven : are_low done c.methods ≡ true → changes_by done ≡ true → FitsTwo (free_index c) → length (with_free c.pool.entries) ≤ 65535
      → first_long (calls_for false c.pool.entries) 0 done c.methods ≡ None → HasSpelling (class_by done c)
  pub fitting : HasSpelling (class_by done c) → first_long (calls_for false c.pool.entries) 0 done c.methods ≡ None

-- the same of each class
abbrev pub MayBeComparedEach : List Planned → List ClassDef → Type 0
MayBeComparedEach done [] = Unit {0}
MayBeComparedEach done (c ∷ classes) = MayBeCompared (own c done) c × MayBeComparedEach (others c done) classes
