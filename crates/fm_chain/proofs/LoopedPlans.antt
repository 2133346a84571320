-- Safe plans stay safe where the holders of sites in loops hold chains.
use Rattle.std.proofs.Common.{◌≡◌, ℕ, ◌+◌, ◌<◌, ◌≤◌, length, Option, Some, None, option_map, sym, ap, subst, ◌∙◌, refl}
use Rattle.std.specs.Prelude.{nat_eq, slice_get}
use Rattle.std.specs.List.{IsDistinct}
use Rattle.std.proofs.lemmas.List.{length-map}
use Rattle.std.proofs.lemmas.Option.{none-some, same_Some, slice_get-map}
use Rattle.fm_base.proofs.ListFacts.{AllByRecursion-mapped, map-map}
use Rattle.fm_base.proofs.OptionFacts.{option_map-some, same_value}
use Rattle.fm_base.specs.declared.limits.TheConstants.{MAX_LOCAL_WORDS}
use Rattle.fm_code.specs.declared.code_array.Code.{Code}
use Rattle.fm_conn.specs.Facts.{Facts}
use Rattle.fm_conn.specs.Links.{typed_method}
use Rattle.fm_conn.specs.Nodes.{TypedMethod}
use Rattle.fm_place.proofs.GroupLemmas.{slice_get-mapped}
use Rattle.fm_place.specs.Insertions.{Holder, Insertions}
use Rattle.fm_place.specs.Places.{is_busy, MayHold}
use Rattle.fm_place.specs.Rewriting.{Plans}
use Rattle.fm_place.specs.Safe.{AreSafe, IsSafeAt, IsSafeHolder, IsSafeMethod, method_in_facts}
use Rattle.fm_world.specs.Programs.{code_at, Program}
use Rattle.fm_chain.specs.Loops.{is_looped}
use Rattle.fm_chain.specs.SafeChains.{looped_plan, looped_plans, with_loops}

-- ---- one plan

-- a holder of its site and its class, with the flag of the site
abbrev pub looped_holder : Code → Holder → Holder
looped_holder code h = record h { looped = is_looped code h.site }

module _ (facts : Facts) (x : TypedMethod) (code : Code) (plan : Insertions) where
  count : length (with_loops code plan).holders ≡ length plan.holders
  count = length-map plan.holders (looped_holder code)

  found : (number : ℕ) (h : Holder) → slice_get (with_loops code plan).holders number ≡ Some h
      → (own : Holder) × (slice_get plan.holders number ≡ Some own) × (looped_holder code own ≡ h)
  found number h at =
      option_map-some (looped_holder code) (slice_get plan.holders number) h (sym (slice_get-map (looped_holder code) plan.holders number) ∙ at)

  item_safe : (j : ℕ) → IsSafeAt facts x plan j → IsSafeAt facts x (with_loops code plan) j
  item_safe j at = record {
    once = at.once;
    may = λ number there.
        let own = at.may number there in
        record {
          holder = looped_holder code own.holder;
          is = slice_get-mapped (looped_holder code) plan.holders number own.holder own.is;
          quiet = own.quiet;
        };
    must = λ number h is quiet may.
        let own = found number h is in
        at.must number own.0 own.1 (ap (λ (g : Holder). is_busy facts x g.class j) own.2 ∙ quiet)
        (subst (λ (g : Holder). MayHold facts x g.site g.class j) (sym own.2) may);
  }

  pub stays_safe : AreSafe facts x plan → AreSafe facts x (with_loops code plan)
  stays_safe safe = record {
    some = subst (λ n. 0 < n) (sym count) safe.some;
    room = subst (λ n. x.code.max_locals + n ≤ MAX_LOCAL_WORDS) (sym count) safe.room;
    holders =
        AllByRecursion-mapped (IsSafeHolder facts x) (IsSafeHolder facts x) (looped_holder code)
        (λ h own. record { captured = own.captured; class = own.class }) plan.holders safe.holders;
    own_sites = subst (λ sites. IsDistinct nat_eq sites) (sym (map-map (looped_holder code) (λ (h : Holder). h.site) plan.holders)) safe.own_sites;
    one_each = safe.one_each;
    items = λ j within. item_safe j (safe.items j within);
  }

-- ---- the plans of a program

-- each plan of a method that has code is safe, whichever of its holders hold chains
abbrev pub ArePlannedSafely : Program → Facts → Plans → Type 0
ArePlannedSafely p facts plans =
    (method : ℕ) (code : Code) (plan : Insertions) → code_at p method ≡ Some code → plans method ≡ Some plan
    → AreSafe facts (typed_method p facts.typing method code) plan

pub planned_safely : (p : Program) (facts : Facts) (plans : Plans)
    → ((method : ℕ) (plan : Insertions) → plans method ≡ Some plan → IsSafeMethod p facts method plan) → ArePlannedSafely p facts plans
planned_safely p facts plans all method code plan is so =
    let own = all method plan so in
    let typed = typed_method p facts.typing method code in
    let there : method_in_facts p facts method ≡ Some typed = ap (option_map (typed_method p facts.typing method)) is in
    subst (λ z. AreSafe facts z plan) (same_value (method_in_facts p facts method) own.x typed own.is there) own.safe

-- the plan of a method with the flags of its code is that of the method, with these
pub record ComesOfPlan (plans : Plans) (code : Code) (method : ℕ) (plan : Insertions) : Type 0 where
  pub own : Insertions
  pub planned : plans method ≡ Some own
  pub is : with_loops code own ≡ plan

pub looped_from : (p : Program) (plans : Plans) (method : ℕ) (code : Code) (plan : Insertions) → code_at p method ≡ Some code
    → looped_plans p plans method ≡ Some plan → ComesOfPlan plans code method plan
looped_from p plans method code plan code_is so = by_plan (plans method) refl (sym (ap (λ o. looped_plan o (plans method)) code_is) ∙ so) where
  by_plan : (o : Option Insertions) → plans method ≡ o → looped_plan (Some code) o ≡ Some plan → ComesOfPlan plans code method plan
  by_plan None planned none = absurd (none-some plan none)
  by_plan (Some own) planned some = record { own = own; planned = planned; is = same_Some (with_loops code own) plan some }

pub looped_safely : (p : Program) (facts : Facts) (plans : Plans) → ArePlannedSafely p facts plans → ArePlannedSafely p facts (looped_plans p plans)
looped_safely p facts plans safe method code plan code_is so =
    let from = looped_from p plans method code plan code_is so in
    let typed = typed_method p facts.typing method code in
    subst (AreSafe facts typed) from.is (stays_safe facts typed code from.own (safe method code from.own code_is from.planned))
