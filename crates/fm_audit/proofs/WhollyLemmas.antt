-- A method is woven by what its new items are read as, where that is safe.
use Rattle.std.proofs.Common.{◌≡◌, ℕ, ◌∙◌, false, List, [], ◌∷◌, length, map, replicate, Option, Some, None, refl, sym, ap, arith}
use Rattle.std.specs.List.{AllByRecursion, flat_map, range_with_len}
use Rattle.std.specs.Option.{option_map}
use Rattle.std.proofs.lemmas.List.FromFn.{length-range_with_len}
use Rattle.std.proofs.lemmas.Option.{none-some}
use Rattle.fm_chain.specs.declared.plans.ChainPlan.{ChainPlan}
use Rattle.fm_code.specs.declared.code_array.Item.{Item}
use Rattle.fm_conn.specs.Facts.{Facts}
use Rattle.fm_place.specs.Insertions.{after_at, before_at, Holder, Insertions}
use Rattle.fm_place.specs.PlansBy.{IsToldBy, paired}
use Rattle.fm_place.specs.Safe.{AreSafe, HoldsNoChain}
use Rattle.fm_place.specs.Sites.{sites_of}
use Rattle.fm_place.specs.declared.busy_rows.Seen.{Seen}
use Rattle.fm_place.specs.declared.found_sites.Site.{Site}
use Rattle.fm_place.specs.declared.plans.Plan.{Plan}
use Rattle.fm_place.specs.inner.PlanRows.{typed_seen}
use Rattle.fm_place_weave.specs.declared.planned.Planned.{Planned}
use Rattle.fm_place_weave.specs.declared.planned.Planned.TheVariants as planned
use Rattle.fm_audit.proofs.FoundAgainLemmas.{held, held_are, own_items, safe_item}
use Rattle.fm_audit.specs.ReadBack.{read_by}
use Rattle.fm_audit.specs.ReadBy.{read_in}
use Rattle.fm_audit.specs.Reading.{Read, read}
use Rattle.fm_audit.specs.SafePlans.{IsListedIn}
use Rattle.fm_audit.specs.declared.reading.Found.{Found}
use Rattle.fm_audit.specs.inner.Checked.{IsSafelyRead, IsWovenBy}

-- ---- as the code finds it

-- the holders of the start are as many as there are
started : (s : Seen) (sites : List Site) (found : Read) (holders : ℕ) → IsSafelyRead s sites found holders → length found.starts ≡ holders
started s sites found holders safe = ap length safe.starts ∙ length-range_with_len 0 holders

-- none is null at the start: that is nothing safe
pub never_empty : (s : Seen) (sites : List Site) (found : Read) (holders : ℕ) (f : Found) → found ≡ read_in f → length f.starts.items ≡ 0
    → IsSafelyRead s sites found holders → ⊥
never_empty s sites found holders f same none safe =
    let count = started s sites found holders safe in
    let empty : length found.starts ≡ 0 = ap (λ (r : Read). length r.starts) same ∙ none in
    let some = safe.some in
    omega (arith, count, empty, some)

-- nothing is read
pub never_read : (free first : ℕ) (old items new : List Item) (o : Option Found) (found : Read) → option_map read_in o ≡ read free first old new → o ≡ None
    → old ≡ items → read free first items new ≡ Some found → ⊥
never_read free first old items new o found returned none same is =
    none-some found (sym (ap (option_map read_in) none) ∙ returned ∙ ap (λ (l : List Item). read free first l new) same ∙ is)

-- the plan is that of what was read, in which no holder holds a chain
pub woven_by : (s : Seen) (sites : List Site) (found : Read) (holders many : ℕ) (f : Found) (plan : ChainPlan) → found ≡ read_in f
    → f.starts.items ≡ range_with_len 0 many
    → plan.plan ≡ (record { holders = many; after = f.inserted.after; before = f.inserted.before }) → plan.looped ≡ replicate many false
    → IsSafelyRead s sites found holders → IsWovenBy found holders (planned.Woven plan)
woven_by s sites found holders many f plan same starts plan_is flags safe =
    let count : many ≡ holders =
    sym (ap length starts ∙ length-range_with_len 0 many) ∙ sym (ap (λ (r : Read). length r.starts) same) ∙ started s sites found holders safe in
    record {
      holders = ap (λ (p : Plan). p.holders) plan_is ∙ count;
      before = ap (λ (p : Plan). p.before.items) plan_is ∙ sym (ap (λ (r : Read). r.pairs.before) same);
      after = ap (λ (p : Plan). p.after.items) plan_is ∙ sym (ap (λ (r : Read). r.pairs.after) same);
      flags = flags ∙ ap (λ n. replicate n false) count;
    }

-- holders of which none holds a chain
unlooped : (holders : List Holder) → AllByRecursion (λ (h : Holder). h.looped ≡ false) holders
    → replicate (length holders) false ≡ map (λ (h : Holder). h.looped) holders
unlooped [] plain = refl
unlooped (h ∷ holders) plain = λ k. sym plain.0 k ∷ unlooped holders plain.1 k

-- ---- by facts that agree with what is known

module _ (s : Seen) (facts : Facts) (sites : List Site) (told : IsToldBy facts s.method.number.0 s.classes.now s.live.now)
    (sites_are : sites ≡ sites_of facts (typed_seen s)) (ins : Insertions) (safe : AreSafe facts (typed_seen s) ins) where
  safely_read : IsSafelyRead s sites (read_by s.method.code.now ins) (length ins.holders)
  safely_read = record {
    held = held s facts sites told sites_are ins safe;
    freed = before_at ins;
    some = safe.some;
    room = safe.room;
    starts = refl;
    held_is = held_are s facts sites told sites_are ins safe;
    own = own_items s facts sites told sites_are ins safe;
    listed = refl;
    items = safe_item s facts sites told sites_are ins safe;
  }

  listed_by : HoldsNoChain ins → (done : Planned) → IsWovenBy (read_by s.method.code.now ins) (length ins.holders) done
      → IsListedIn s.method.code.now (Some ins) done
  listed_by plain planned.Same woven = absurd woven
  listed_by plain (planned.Woven plan) woven = record {
    plan_is = record {
      plan_is = record {
        holders = woven.holders;
        after = woven.after ∙ ap (λ n. flat_map (paired (after_at ins)) (range_with_len 0 n)) (sym safe.one_each);
        before = woven.before ∙ ap (λ n. flat_map (paired (before_at ins)) (range_with_len 0 n)) (sym safe.one_each);
      };
      flags = woven.flags ∙ unlooped ins.holders plain;
    };
    whole = safe.one_each;
  }
  listed_by plain (planned.TooLong bytes chains) woven = absurd woven

  -- the method is woven by safe insertions as which its new items are read
  pub wholly_listed : HoldsNoChain ins → (free : ℕ) (new : List Item) (done : Planned)
      → ((found : Read) (holders : ℕ) → read free s.method.code.now.max_locals s.method.code.now.items new ≡ Some found → IsSafelyRead s sites found holders
      → IsWovenBy found holders done)
      → read free s.method.code.now.max_locals s.method.code.now.items new ≡ Some (read_by s.method.code.now ins) → IsListedIn s.method.code.now (Some ins) done
  wholly_listed plain free new done whole is =
      listed_by plain done (whole (read_by s.method.code.now ins) (length ins.holders) is safely_read)
