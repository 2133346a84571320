-- In each state of a run of each size class as many cells are made as were held at once.
use Rattle.std.proofs.Common.{◌≡◌, ◌⊎◌, ℕ, zero, suc, ◌<◌, ◌≤◌, inl, inr, max, [], Option, sym, ◌∙◌, ap, subst, arith}
use Rattle.std.proofs.lemmas.List.{get_or-replicate}
use Rattle.std.proofs.lemmas.List.FromFn.{fill_by_all}
use Rattle.fm_exec_calls.proofs.BuiltInStarts.{nothing-starts}
use Rattle.fm_cells.proofs.LastReused.{IsLastReused-opened}
use Rattle.fm_cells.specs.Soundness.{IsLastReused}
use Rattle.fm_cells.specs.Stores.{empty_lists, held_count, made_count, opened, Store}
use Rattle.fm_world.specs.Programs.{Program}
use Rattle.fm_frames.specs.Runs.{after, Job}
use Rattle.fm_frames.specs.Starts.{to_start}
use Rattle.fm_frames.specs.States.{Moved, silent}
use Rattle.fm_law_can_step.proofs.Constants.{rows}
use Rattle.fm_law_can_step.specs.Ready.{CanRun}
use Rattle.fm_law_cells_made.proofs.Acts.{choice}
use Rattle.fm_law_cells_made.proofs.Counts.{Follows, Grows, held_within}
use Rattle.fm_law_cells_made.proofs.Openings.{opening_follows}
use Rattle.fm_law_cells_made.proofs.Steps.{AreSettled, step_follows}
use Rattle.fm_law_cells_made.specs.MostHeld.{first_state, MadeIsMostHeld, MadeSinceIsMostHeld, most_held, OpenedIsLastReused, store_after}

-- made before, and made and held after
most_then : (before made held : ℕ) → before ≤ made → held ≤ made → (made ≡ before) ⊎ (made ≡ held) → made ≡ max before held
most_then before made held more within (inl same) = omega arith
most_then before made held more within (inr same) = omega arith

-- at first those that are held were made
most_first : (made held : ℕ) → held ≤ made → made ≡ max made held
most_first made held within = omega arith

-- the most of three numbers
most_joined : (before most held : ℕ) → max (max before most) held ≡ max before (max most held)
most_joined before most held = omega arith

-- what was made at first is among the most that were held, where all of it was held
most_over : (made held most : ℕ) → made ≡ held → held ≤ most → max made most ≡ most
most_over made held most same within = omega arith

-- the classes of built-in methods have started
settled : (p : Program) → CanRun p → AreSettled p.outline
settled p can started class (method, row, is, of) =
    subst (λ c. to_start p.outline started c ≡ []) (sym of) (nothing-starts p started method row can.steps.calls.runnable (rows p can) is)

module _ (p : Program) (ready : AreSettled p.outline) (first : Moved) where
  abbrev at : ℕ → Store
  at count = store_after p first count

  after_last : (count : ℕ) → IsLastReused (at zero) → IsLastReused (at count)
  unfolding after
  after_last zero last = last
  after_last (suc count) last = (step_follows p ready (after p choice count first).state (after_last count last)).last

  follows_at : (count : ℕ) → IsLastReused (at zero) → Follows (at count) (at (suc count))
  unfolding after
  follows_at count last = step_follows p ready (after p choice count first).state (after_last count last)

  since_made : IsLastReused (at zero) → (count k : ℕ) → k < 64 → made_count (at count) k ≡ max (made_count (at zero) k) (most_held p first count k)
  unfolding most_held
  since_made last zero k small = most_first (made_count (at zero) k) (held_count (at zero) k) (held_within (at zero) last k small)
  since_made last (suc count) k small =
      let one : Follows (at count) (at (suc count)) = follows_at count last in
      most_then (made_count (at count) k) (made_count (at (suc count)) k) (held_count (at (suc count)) k) (one.made k small)
      (held_within (at (suc count)) one.last k small) (one.full k small)
      ∙ ap (λ n. max n (held_count (at (suc count)) k)) (since_made last count k small)
      ∙ most_joined (made_count (at zero) k) (most_held p first count k) (held_count (at (suc count)) k)

  -- no fewer than were held at first
  most_more : (count k : ℕ) → held_count (at zero) k ≤ most_held p first count k
  unfolding most_held
  most_more zero k = omega arith
  most_more (suc count) k = let before = most_more count k in omega (arith, before)

  each_made : ((k : ℕ) → k < 64 → made_count (at zero) k ≡ held_count (at zero) k) → IsLastReused (at zero) → (count k : ℕ) → k < 64
      → made_count (at count) k ≡ most_held p first count k
  each_made start last count k small =
      since_made last count k small ∙ most_over (made_count (at zero) k) (held_count (at zero) k) (most_held p first count k) (start k small) (most_more count k)

-- what the run is opened with
opening_grown : (p : Program) (job : Job) (budget : ℕ) (limit : Option ℕ)
    → Grows (opened budget limit empty_lists) (store_after p (first_state p job budget limit) zero)
unfolding after
opening_grown p job budget limit = opening_follows p (opened budget limit empty_lists) job (IsLastReused-opened budget limit)

pub made_is_most_held : MadeIsMostHeld
made_is_most_held p can job budget limit count =
    fill_by_all (most_held p first count) (at p ready first count).made 64 0 (after_last p ready first count opened_last).counts
    (λ k small. each_made p ready first start opened_last count k small) where
      ready : AreSettled p.outline
      ready = settled p can

      none : Store
      none = opened budget limit empty_lists

      first : Moved
      first = first_state p job budget limit

      grown : Grows none (at p ready first zero)
      grown = opening_grown p job budget limit

      opened_last : IsLastReused (at p ready first zero)
      opened_last = grown.last

      start : (k : ℕ) → k < 64 → made_count (at p ready first zero) k ≡ held_count (at p ready first zero) k
      start k small = by_full (grown.full k small) where
        by_full : (made_count (at p ready first zero) k ≡ made_count none k) ⊎ (made_count (at p ready first zero) k ≡ held_count (at p ready first zero) k)
            → made_count (at p ready first zero) k ≡ held_count (at p ready first zero) k
        by_full (inl same) =
            omega (arith, same, get_or-replicate {A = ℕ} 64 k 0 0 small, held_within (at p ready first zero) opened_last k small)
        by_full (inr full) = full

pub made_since : MadeSinceIsMostHeld
unfolding after
made_since p can x last count = record {
  last = after_last p (settled p can) (silent x) count last;
  made = since_made p (settled p can) (silent x) last count;
}

pub opened_is_last_reused : OpenedIsLastReused
unfolding after
opened_is_last_reused p job budget limit = (opening_grown p job budget limit).last
