-- What is to be done with all methods of a program is to insert what is safe by its facts, or nothing.
use Rattle.std.specs.Prelude.{◌≡◌, ◌<◌, ◌≤◌, ℕ, List, length, get_or, Option, Some, None}
use Rattle.fm_code.specs.declared.code_array.Code.{Code}
use Rattle.fm_code.specs.declared.code_array.Item.{Item}
use Rattle.fm_conn.specs.Facts.{AreFacts, Facts}
use Rattle.fm_conn.specs.Links.{typed_method}
use Rattle.fm_conn.specs.declared.summaries.Summaries.{Summaries}
use Rattle.fm_place.specs.Insertions.{Insertions}
use Rattle.fm_place.specs.Rewriting.{Plans}
use Rattle.fm_place.specs.Safe.{AreSafe, HoldsNoChain, IsSafeMethod}
use Rattle.fm_place_weave.specs.declared.planned.Planned.{Planned}
use Rattle.fm_place_weave.specs.declared.planned.Planned.TheVariants as planned
use Rattle.fm_rewrite.specs.Plans.{planned_at}
use Rattle.fm_summ_shapes.specs.Analysed.{AreLeastTypings}
use Rattle.fm_world.specs.Members.{methods_of}
use Rattle.fm_world.specs.Programs.{code_at, Program}
use Rattle.fm_audit.specs.NewCodes.{new_free_of, new_items_of}
use Rattle.fm_audit.specs.ReadBack.{read_by}
use Rattle.fm_audit.specs.Reading.{read}
use Rattle.fm_audit.specs.SafeParts.{FailsPart}
use Rattle.fm_audit.specs.SafePlans.{IsListedIn, IsSafelyJudged}
use Rattle.fm_audit.specs.declared.parts.Part.{Part}
use Rattle.fm_audit.specs.declared.parts.Part.TheVariants as part
use Rattle.fm_audit.specs.declared.methods.NewCode.{NewCode}

-- what is to be done with the method is safely planned and judged for its code, and is nothing where it has none
abbrev pub IsSafelyJudgedIn : Program → Summaries → ℕ → Option Code → (free : ℕ) → (new : List Item) → Part → Planned → Type 0
IsSafelyJudgedIn p summaries method None free new failed done = done ≡ planned.Same
IsSafelyJudgedIn p summaries method (Some code) free new failed done = IsSafelyJudged p summaries method code free new failed done

-- this is safely planned and judged for this method of the program
abbrev pub IsSafelyJudgedAt : Program → Summaries → ℕ → (free : ℕ) → (new : List Item) → Part → Planned → Type 0
IsSafelyJudgedAt p summaries method free new failed done = IsSafelyJudgedIn p summaries method (code_at p method) free new failed done

-- the part that a method fails, by the list of them
abbrev pub failing_at : List Part → ℕ → Part
failing_at failing method = get_or failing method part.Layout

-- there is something to be done with each method of a program, and it is safely planned and judged as the summaries link the ends of methods
pub record AreSafelyPlanned (p : Program) (summaries : Summaries) (new : List NewCode) (failing : List Part) (done : List Planned) : Type 0 where
  pub one_each : length done ≡ length (methods_of p.outline.classes)
  pub each : (method : ℕ) → method < length done
      → IsSafelyJudgedAt p summaries method (new_free_of p new method) (new_items_of p new method) (failing_at failing method) (planned_at done method)

-- What is to be done with each method lists what is inserted, and that is safe by exact facts of the program over least typings. Where the new items of a
-- method are read as insertions that are safe by these facts, that is what is listed.
pub record AreSafelyInserted (p : Program) (new : List NewCode) (done : List Planned) : Type 0 where
  pub facts : Facts
  pub exact : AreFacts p facts
  pub least : AreLeastTypings p facts.typing
  pub plans : Plans
  pub methods : (method : ℕ) (plan : Insertions) → plans method ≡ Some plan → IsSafeMethod p facts method plan
  pub one_each : length done ≡ length (methods_of p.outline.classes)
  pub listed : (method : ℕ) (code : Code) → code_at p method ≡ Some code → IsListedIn code (plans method) (planned_at done method)
  pub others : (method : ℕ) → code_at p method ≡ None → (plans method ≡ None) × (planned_at done method ≡ planned.Same)
  pub whole : (method : ℕ) (code : Code) (ins : Insertions) → code_at p method ≡ Some code → AreSafe facts (typed_method p facts.typing method code) ins
      → HoldsNoChain ins → read (new_free_of p new method) code.max_locals code.items (new_items_of p new method) ≡ Some (read_by code ins)
      → IsListedIn code (Some ins) (planned_at done method)

-- The same, and by these facts that is the least part that a method fails if its new code isn't as it has to be, where it has as many new items as there may
-- be.
pub record AreSafelyJudged (p : Program) (new : List NewCode) (failing : List Part) (done : List Planned) : Type 0 where
  pub safe : AreSafelyInserted p new done
  pub judged : (method : ℕ) (code : Code) → code_at p method ≡ Some code → length (new_items_of p new method) ≤ 65535
      → FailsPart safe.facts (typed_method p safe.facts.typing method code) (new_free_of p new method) code (new_items_of p new method)
      (failing_at failing method)
