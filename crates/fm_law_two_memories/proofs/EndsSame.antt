-- Two whole runs within one budget of steps have as many steps, and end alike.
use Rattle.std.proofs.Common.{◌≡◌, ℕ, ◌+◌, ◌<◌, ◌≤◌, ◌⊎◌, inl, inr, Option, None, Some, refl, sym, ◌∙◌, ap, subst, arith}
use Rattle.std.proofs.lemmas.Bool.{cases_lt}
use Rattle.fm_cells.specs.Choices.{lawful}
use Rattle.fm_cells.specs.Stores.{opened}
use Rattle.fm_world.specs.Programs.{Program}
use Rattle.fm_frames.specs.Runs.{after, Goes, opening}
use Rattle.fm_frames.specs.States.{State}
use Rattle.fm_frames.specs.Steps.{cost, stack_of}
use Rattle.fm_frames.specs.declared.ends.Ended.{Ended}
use Rattle.fm_law_two_memories.specs.Hidden.{HiddenComesFirst}
use Rattle.fm_law_two_memories.specs.Pairing.{EndAlike, none_gone, StatesPaired}
use Rattle.fm_law_two_memories.specs.Runs.{AreTheSame, run_after, RunsEndAlike}
use Rattle.fm_law_two_memories.proofs.EffectsSame.{effects_same}
use Rattle.fm_law_two_memories.proofs.RunsSame.{all_seen}
use Rattle.fm_law_two_memories.proofs.TwoMemories.{same_limits}

module _ (p : Program) (hidden : HiddenComesFirst p.outline) (steps : ℕ) (x y : State) (paired : StatesPaired none_gone p.outline x y) where
  same_cost : cost p y ≡ cost p x
  same_cost = (effects_same none_gone p hidden x y paired (all_seen p.outline x.areas.store (stack_of x))).1

  -- the next step of the one is within the budget where that of the other is
  pub goes_forth : Goes p steps x → Goes p steps y
  goes_forth goes = record {
    not_ended = subst (λ ended. EndAlike none_gone x.areas.store y.areas.store ended y.ended) goes.not_ended paired.ended;
    within = subst (λ n. n + cost p y ≤ steps) (sym paired.steps) (subst (λ n. x.steps + n ≤ steps) (sym same_cost) goes.within);
  }

  pub goes_back : Goes p steps y → Goes p steps x
  goes_back goes = by_end x.ended refl where
    by_end : (ended : Option Ended) → x.ended ≡ ended → Goes p steps x
    by_end None is = record {
      not_ended = is;
      within = subst (λ n. n + cost p x ≤ steps) paired.steps (subst (λ n. y.steps + n ≤ steps) same_cost goes.within);
    }
    by_end (Some e) is =
        let others = subst (λ ended. EndAlike none_gone x.areas.store y.areas.store ended y.ended) is paired.ended in
        let no : Some others.0 ≡ None = sym others.1 ∙ goes.not_ended in absurd (cc)

pub ends_alike : RunsEndAlike
ends_alike p typings h first second job given budget limit free freed few roomy steps x y one two =
    by_order (cases_lt one.count two.count) (cases_lt two.count one.count) where
      same_at : (k : ℕ) → AreTheSame p.outline (run_after p first job (opened budget None free) k) (run_after p second job (opened budget limit freed) k)
      same_at = same_limits p typings h first second job given budget limit free freed few roomy

      by_order : (one.count < two.count) ⊎ (two.count ≤ one.count) → (two.count < one.count) ⊎ (one.count ≤ two.count) → AreTheSame p.outline x y
      by_order (inl less) other = absurd (one.stops (goes_back p h.hidden steps _ _ (same_at one.count).0 (two.goes one.count less)))
      by_order (inr more) (inl less) = absurd (two.stops (goes_forth p h.hidden steps _ _ (same_at two.count).0 (one.goes two.count less)))
      by_order (inr more) (inr no_less) =
          let count : two.count ≡ one.count = omega (arith, more, no_less) in
          subst (λ m. AreTheSame p.outline m y) (sym one.is)
          (subst (λ m. AreTheSame p.outline (run_after p first job (opened budget None free) one.count) m)
          (sym (two.is ∙ ap (λ k. after p (lawful second) k (opening p (lawful second) job (opened budget limit freed))) count)) (same_at one.count))
