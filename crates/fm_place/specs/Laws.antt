-- What follows of the definitions.
use Rattle.std.specs.Prelude.{◌≡◌, ◌↔◌, ◌+◌, ◌<◌, ◌≤◌, ◌==◌, ℕ, true, false, List, length, Option, Some, None, Contains, if◌then◌else◌}
use Rattle.fm_base.specs.declared.limits.TheConstants.{MAX_LOCAL_WORDS}
use Rattle.fm_code.specs.Fits.{FitsTwo}
use Rattle.fm_code.specs.declared.code_array.Code.{Code}
use Rattle.fm_code.specs.declared.class_file.ClassDef.{ClassDef}
use Rattle.fm_conn.specs.Facts.{Facts}
use Rattle.fm_conn.specs.Classes.{class_of}
use Rattle.fm_conn.specs.Nodes.{IsNode, Node, Slot, TypedMethod}
use Rattle.fm_conn.specs.Summaries.{is_linked}
use Rattle.fm_conn.specs.declared.class_numbers.Classes.{Classes}
use Rattle.fm_conn.specs.declared.ends.End2.{End2}
use Rattle.fm_conn.specs.declared.summaries.Summaries.{Summaries}
use Rattle.fm_layout.specs.Conditions.{AreNewItems, AreOldItems}
use Rattle.fm_layout.specs.Laid.{laid_of}
use Rattle.fm_layout.specs.Tables.{AreAnchors}
use Rattle.fm_layout.specs.declared.laying.TheConstants.{MAX_NEW_ITEMS}
use Rattle.fm_world.specs.Programs.{Program}
use Rattle.fm_place.specs.FactsBy.{facts_by}
use Rattle.fm_place.specs.Insertions.{all_holders, all_insertions, before_at, full_insertions, Insertions}
use Rattle.fm_place.specs.Places.{is_busy, is_place, IsBusy, MayHold}
use Rattle.fm_place.specs.PlansBy.{holders_in, IsPlanOf}
use Rattle.fm_place.specs.Rewriting.{free_count}
use Rattle.fm_place.specs.Safe.{FullOf, SafeOf}
use Rattle.fm_place.specs.Sites.{sites_of}
use Rattle.fm_place.specs.declared.plans.Plan.{Plan}
use Rattle.fm_place.specs.Woven.{anchors_of, woven}

-- a class is busy where there is a witness, as long as no local past the method's own is live
abbrev pub BusyIsByWitness : Type 0
BusyIsByWitness =
    (facts : Facts) (x : TypedMethod) (class j : ℕ) → ((k : ℕ) → facts.live x.number k j ≡ true → k < x.code.max_locals)
    → (is_busy facts x class j ≡ true) ↔ (IsBusy facts x class j)

-- a word of the stack that is a reference makes its class busy, whichever locals are live
abbrev pub WordsKeepBusy : Type 0
WordsKeepBusy =
    (facts : Facts) (x : TypedMethod) (j depth : ℕ) → IsNode x (Slot j depth) → is_busy facts x (facts.class x.number (Slot j depth)) j ≡ true

-- a place of a holder is an item at which its class isn't busy, and at which it may hold something, by a path of any length
abbrev pub PlacesAreByPaths : Type 0
PlacesAreByPaths =
    (facts : Facts) (x : TypedMethod) (site class j : ℕ)
    → (is_place facts x site class j ≡ true) ↔ ((is_busy facts x class j ≡ false) × MayHold facts x site class j)

-- all held sites and all places together are safe
abbrev pub FullIsSafe : Type 0
FullIsSafe = (p : Program) (given written : List ClassDef) (marks : List (List (Option ℕ))) → FullOf p given written marks → SafeOf p given written marks

-- there is room for a plan's holders, and what it frees are its holders; and the index of FreeMe.free fits an instruction
pub record Suits (free : ℕ) (code : Code) (plan : Insertions) : Type 0 where
  pub entry : FitsTwo free
  pub room : code.max_locals + length plan.holders ≤ MAX_LOCAL_WORDS
  pub before : (j number : ℕ) → Contains (before_at plan j) number → number < length plan.holders

-- the woven items are what layout requires
abbrev pub WovenIsLaidOut : Type 0
WovenIsLaidOut =
    (free : ℕ) (code : Code) (plan : Insertions) → AreOldItems code.items → Suits free code plan → length (woven free code plan) < MAX_NEW_ITEMS
    → AreNewItems code.items (woven free code plan)

-- and the anchors are what tables move by
abbrev pub AnchorsAreAnchors : Type 0
AnchorsAreAnchors =
    (free : ℕ) (code : Code) (plan : Insertions) → AreAnchors code (laid_of code.items (woven free code plan)) (anchors_of plan code.items)

-- ---- sites and plans

-- the holders of a method's sites are all its holders
abbrev pub HoldersAreAll : Type 0
HoldersAreAll = (facts : Facts) (x : TypedMethod) → holders_in (sites_of facts x) ≡ all_holders facts x

-- there are no more of them than locals
abbrev pub HoldersAreFew : Type 0
HoldersAreFew = (facts : Facts) (x : TypedMethod) → length (holders_in (sites_of facts x)) ≤ MAX_LOCAL_WORDS

-- facts that agree with the method's classes and the summaries have the sites that these give
abbrev pub SitesAreTold : Type 0
SitesAreTold =
    (facts : Facts) (x : TypedMethod) (classes : Classes) (summaries : Summaries) → ((node : Node) → facts.class x.number node ≡ class_of classes node)
    → ((method : ℕ) (a b : End2) → facts.linked method a b ≡ is_linked summaries method a b)
    → sites_of facts x ≡ sites_of (facts_by classes summaries) x

-- what is inserted into a method suits its code
abbrev pub FullSuits : Type 0
FullSuits =
    (free : ℕ) (facts : Facts) (x : TypedMethod) (plan : Insertions) → FitsTwo free → full_insertions facts x ≡ Some plan → Suits free x.code plan

-- a method without a holder stays as it is
abbrev pub HoldersTellFull : Type 0
HoldersTellFull =
    (facts : Facts) (x : TypedMethod) (plan : Plan) → IsPlanOf (all_insertions facts x) plan
    → full_insertions facts x ≡ (if plan.holders == 0 then None else Some (all_insertions facts x))

-- the pairs of what is freed are as many as the frees that are counted
abbrev pub FreesAreCounted : Type 0
FreesAreCounted = (insertions : Insertions) (plan : Plan) → IsPlanOf insertions plan → length plan.before.items ≡ free_count (Some insertions)
