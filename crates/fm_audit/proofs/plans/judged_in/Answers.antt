use Rattle.std.proofs.Common.{rules, ◌≡◌, ◌∙◌, ◌==◌, ℕ, false, List, Some, None, length, replicate, ap, subst, sym}
use Rattle.std.specs.Option.{option_map}
use Rattle.fm_audit.proofs.ItemsLemmas.{found_well, items_judged, later_fails, none_listed}
use Rattle.fm_audit.proofs.ListedLemmas.{found_listed, read_is, same_read, some_null}
use Rattle.fm_audit.proofs.WhollyLemmas.{never_empty, never_read, woven_by}
use Rattle.fm_audit.specs.ReadBy.{pairs_in, read_in}
use Rattle.fm_audit.specs.Reading.{Read}
use Rattle.fm_audit.specs.Parts.{planned_of}
use Rattle.fm_audit.specs.SafeParts.{IsJudgedBy}
use Rattle.fm_audit.specs.SafePlans.{IsReadAs, read_of}
use Rattle.fm_audit.specs.inner.Checked.{IsCheckedDone, IsCheckedPlan, IsChecking, IsPartFound, IsSafelyRead, IsWovenBy}
use Rattle.fm_audit.specs.inner.Kept.{least_failed}
use Rattle.fm_audit.specs.inner.Listed.{AreListed}
use Rattle.fm_code.specs.declared.code_array.Item.{Item}
use Rattle.fm_place.specs.declared.plans.Plan.{Plan}
use Rattle.fm_place.specs.inner.PlanRows.{typed_seen}
use Rattle.fm_place_weave.specs.declared.planned.Planned.TheVariants as planned
use Rattle.fm_audit.proofs.plans.judged_in.Goals as goal

-- ---- nothing is read

pub returns-in_default-clause-whole : goal.returns-in_default-clause-whole
returns-in_default-clause-whole c = λ found holders is safe.
    never_read c.args.free c.args.seen.now.method.code.now.max_locals c.deref.result.now c.args.seen.now.method.code.now.items c.args.new.now _ found
    c.in_ok-found.ensures c.in_default.is c.deref.ensures is

-- ---- nothing is null at the start

pub returns-then-is_empty-clause-safe : goal.returns-then-is_empty-clause-safe
returns-then-is_empty-clause-safe c = subst (IsCheckedDone c.args.seen.now c.args.sites.now) (sym c.judged_by-stays.ensures.planned) tt

pub returns-then-is_empty-clause-read : goal.returns-then-is_empty-clause-read
returns-then-is_empty-clause-read c = subst (IsReadAs c.args.free c.args.seen.now.method.code.now c.args.new.now) (sym c.judged_by-stays.ensures.planned) tt

pub returns-then-is_empty-clause-still : goal.returns-then-is_empty-clause-still
returns-then-is_empty-clause-still c = λ none. c.judged_by-stays.ensures.planned

pub returns-then-is_empty-clause-whole : goal.returns-then-is_empty-clause-whole
returns-then-is_empty-clause-whole c = λ found holders is safe.
    let none : length c.in-Some.found.starts.items ≡ 0 = search rules in
    let own = read_is c.args.free c.args.seen.now.method.code.now.max_locals c.deref.result.now c.args.seen.now.method.code.now.items c.args.new.now _
    c.in-Some.found c.in_ok-found.ensures c.in-Some.is c.deref.ensures in
    absurd (never_empty c.args.seen.now c.args.sites.now found holders c.in-Some.found
    (same_read c.args.free c.args.seen.now.method.code.now.max_locals c.args.seen.now.method.code.now.items c.args.new.now c.in-Some.found found own is) none safe)

-- ---- pairs that are safe

pub returns-in_ok-plain-in-Safe-clause-safe : goal.returns-in_ok-plain-in-Safe-clause-safe
returns-in_ok-plain-in-Safe-clause-safe c =
    let checked = subst (IsChecking c.args.seen.now c.args.sites.now (read_in c.in-Some.found)) c.in-Safe.is c.in_ok-outcome.ensures.checking in
    subst (IsCheckedDone c.args.seen.now c.args.sites.now) (sym c.judged_by-woven.ensures.planned) (
      subst (IsCheckedPlan c.args.seen.now c.args.sites.now) (sym c.in_ok-plain-in-Safe.ensures.plan) (record {
        listed =
            subst (λ (items : List Item). AreListed 0 (length items) (pairs_in c.in-Some.found.inserted)) c.deref.ensures
            (found_listed c.args.free c.args.seen.now.method.code.now.max_locals c.deref.result.now c.args.new.now c.in-Some.found
            (sym c.in_ok-found.ensures ∙ ap (option_map read_in) c.in-Some.is));
        checked = checked.checked;
      }),
      c.in_ok-plain-in-Safe.ensures.flags ∙ ap (λ (p : Plan). replicate p.holders false) (sym c.in_ok-plain-in-Safe.ensures.plan),
    )

pub returns-in_ok-plain-in-Safe-clause-read : goal.returns-in_ok-plain-in-Safe-clause-read
returns-in_ok-plain-in-Safe-clause-read c =
    let checked = subst (IsChecking c.args.seen.now c.args.sites.now (read_in c.in-Some.found)) c.in-Safe.is c.in_ok-outcome.ensures.checking in
    let with_starts : List ℕ → Read = λ starts. record { starts = starts; pairs = pairs_in c.in-Some.found.inserted } in
    subst (IsReadAs c.args.free c.args.seen.now.method.code.now c.args.new.now) (sym c.judged_by-woven.ensures.planned)
    (read_is c.args.free c.args.seen.now.method.code.now.max_locals c.deref.result.now c.args.seen.now.method.code.now.items c.args.new.now _
    c.in-Some.found c.in_ok-found.ensures c.in-Some.is c.deref.ensures
    ∙ ap (λ starts. Some (with_starts starts)) checked.starts ∙ ap (λ (p : Plan). Some (read_of p)) (sym c.in_ok-plain-in-Safe.ensures.plan))

pub returns-in_ok-plain-in-Safe-clause-still : goal.returns-in_ok-plain-in-Safe-clause-still
returns-in_ok-plain-in-Safe-clause-still c =
    let some : (length c.in-Some.found.starts.items == 0) ≡ false = search rules in
    λ none. absurd (some_null c.args.free c.args.seen.now.method.code.now.max_locals c.args.seen.now.method.code.now.items c.args.new.now c.in-Some.found
    (read_is c.args.free c.args.seen.now.method.code.now.max_locals c.deref.result.now c.args.seen.now.method.code.now.items c.args.new.now _
    c.in-Some.found c.in_ok-found.ensures c.in-Some.is c.deref.ensures) some none)

pub returns-in_ok-plain-in-Safe-clause-whole : goal.returns-in_ok-plain-in-Safe-clause-whole
returns-in_ok-plain-in-Safe-clause-whole c = λ found holders is safe.
    let checked = subst (IsChecking c.args.seen.now c.args.sites.now (read_in c.in-Some.found)) c.in-Safe.is c.in_ok-outcome.ensures.checking in
    let own = read_is c.args.free c.args.seen.now.method.code.now.max_locals c.deref.result.now c.args.seen.now.method.code.now.items c.args.new.now _
    c.in-Some.found c.in_ok-found.ensures c.in-Some.is c.deref.ensures in
    subst (IsWovenBy found holders) (sym c.judged_by-woven.ensures.planned)
    (woven_by c.args.seen.now c.args.sites.now found holders c.in-Safe.holders c.in-Some.found c.in_ok-plain-in-Safe.plain
    (same_read c.args.free c.args.seen.now.method.code.now.max_locals c.args.seen.now.method.code.now.items c.args.new.now c.in-Some.found found own is)
    checked.starts c.in_ok-plain-in-Safe.ensures.plan c.in_ok-plain-in-Safe.ensures.flags safe)

-- ---- pairs that aren't

pub returns-in-Fails-clause-whole : goal.returns-in-Fails-clause-whole
returns-in-Fails-clause-whole c = λ found holders is safe.
    let own = read_is c.args.free c.args.seen.now.method.code.now.max_locals c.deref.result.now c.args.seen.now.method.code.now.items c.args.new.now _
    c.in-Some.found c.in_ok-found.ensures c.in-Some.is c.deref.ensures in
    let same = same_read c.args.free c.args.seen.now.method.code.now.max_locals c.args.seen.now.method.code.now.items c.args.new.now c.in-Some.found found own is in
    let unsafe = subst (IsChecking c.args.seen.now c.args.sites.now (read_in c.in-Some.found)) c.in-Fails.is c.in_ok-outcome.ensures.checking in
    unsafe holders (subst (λ (r : Read). IsSafelyRead c.args.seen.now c.args.sites.now r holders) same safe)

-- ---- the part that is failed

pub returns-in_default-clause-parts : goal.returns-in_default-clause-parts
returns-in_default-clause-parts c = λ few facts told sites_are found has.
    never_read c.args.free c.args.seen.now.method.code.now.max_locals c.deref.result.now c.args.seen.now.method.code.now.items c.args.new.now _ found
    c.in_ok-found.ensures c.in_default.is c.deref.ensures has.read_is

pub returns-then-is_empty-clause-parts : goal.returns-then-is_empty-clause-parts
returns-then-is_empty-clause-parts c = λ few facts told sites_are.
    let s = c.args.seen.now in
    let code = s.method.code.now in
    let f = c.in-Some.found in
    let own = read_is c.args.free c.args.seen.now.method.code.now.max_locals c.deref.result.now c.args.seen.now.method.code.now.items c.args.new.now _
    c.in-Some.found c.in_ok-found.ensures c.in-Some.is c.deref.ensures in
    let none : length f.starts.items ≡ 0 = search rules in
    subst (λ o. IsJudgedBy facts (typed_seen s) c.args.free code c.args.new.now o (planned_of c.judged_by-stays.result)) (sym c.judged_by-stays.ensures.failed)
    (subst (IsJudgedBy facts (typed_seen s) c.args.free code c.args.new.now (least_failed c.in_ok-well.well None)) (sym c.judged_by-stays.ensures.planned)
    (items_judged facts (typed_seen s) c.args.free code c.args.new.now (read_in f) c.in_ok-well.well None planned.Same (found_well c.args.free code c.args.new.now f c.in_ok-well.well own c.in_ok-well.ensures few)
    (λ has. (read_in f, has, none_listed f.starts.items none))))

pub returns-in_ok-plain-in-Safe-clause-parts : goal.returns-in_ok-plain-in-Safe-clause-parts
returns-in_ok-plain-in-Safe-clause-parts c = λ few facts told sites_are.
    let s = c.args.seen.now in
    let code = s.method.code.now in
    let f = c.in-Some.found in
    let own = read_is c.args.free c.args.seen.now.method.code.now.max_locals c.deref.result.now c.args.seen.now.method.code.now.items c.args.new.now _
    c.in-Some.found c.in_ok-found.ensures c.in-Some.is c.deref.ensures in
    let found = subst (IsPartFound s c.args.sites.now (read_in f)) c.in-Safe.is c.in_ok-outcome.ensures.parts in
    subst (λ o. IsJudgedBy facts (typed_seen s) c.args.free code c.args.new.now o (planned_of c.judged_by-woven.result)) (sym c.judged_by-woven.ensures.failed)
    (subst (IsJudgedBy facts (typed_seen s) c.args.free code c.args.new.now (least_failed c.in_ok-well.well None)) (sym c.judged_by-woven.ensures.planned)
    (items_judged facts (typed_seen s) c.args.free code c.args.new.now (read_in f) c.in_ok-well.well None (planned.Woven c.in_ok-plain-in-Safe.plain) (found_well c.args.free code c.args.new.now f c.in_ok-well.well own c.in_ok-well.ensures few)
    (λ has. (read_in f, has, found (record { listed = found_listed c.args.free code.max_locals code.items c.args.new.now f own; starts = has.starts; once = has.once }) facts told sites_are))))

pub returns-in-Fails-clause-parts : goal.returns-in-Fails-clause-parts
returns-in-Fails-clause-parts c = λ few facts told sites_are.
    let s = c.args.seen.now in
    let code = s.method.code.now in
    let f = c.in-Some.found in
    let own = read_is c.args.free c.args.seen.now.method.code.now.max_locals c.deref.result.now c.args.seen.now.method.code.now.items c.args.new.now _
    c.in-Some.found c.in_ok-found.ensures c.in-Some.is c.deref.ensures in
    let found = subst (IsPartFound s c.args.sites.now (read_in f)) c.in-Fails.is c.in_ok-outcome.ensures.parts in
    subst (λ o. IsJudgedBy facts (typed_seen s) c.args.free code c.args.new.now o planned.Same) (sym c.least.ensures)
    (items_judged facts (typed_seen s) c.args.free code c.args.new.now (read_in f) c.in_ok-well.well (Some c.in-Fails.part) planned.Same
    (found_well c.args.free code c.args.new.now f c.in_ok-well.well own c.in_ok-well.ensures few)
    (λ has. later_fails facts (typed_seen s) c.args.free code c.args.new.now (read_in f) c.in-Fails.part has
    (found (record { listed = found_listed c.args.free code.max_locals code.items c.args.new.now f own; starts = has.starts; once = has.once }) facts told sites_are)))
