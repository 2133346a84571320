-- Two memories with limits are compared by a third one without: what is the same on it as on each of them is the same on both.
use Rattle.std.proofs.Common.{◌≡◌, ℕ, ◌+◌, Option, None, Some, refl, sym, ◌∙◌, ap, subst, arith}
use Rattle.fm_cells.specs.Choices.{lawful}
use Rattle.fm_cells.specs.Stores.{opened, Store}
use Rattle.fm_world.specs.Programs.{Outline}
use Rattle.fm_frames.specs.Runs.{IsRun, opening}
use Rattle.fm_frames.specs.States.{Moved}
use Rattle.fm_frames.specs.declared.ends.Ended.{Ended}
use Rattle.fm_frames.specs.declared.ends.Ended.TheVariants as end
use Rattle.fm_law_two_memories.specs.Pairing.{EndAlike, none_gone, SameEnd}
use Rattle.fm_law_two_memories.specs.Reuses.{EndsLike, HaveDoneTheSame, MemoriesServeAlike, WholeRunsServeAlike}
use Rattle.fm_law_two_memories.specs.Runs.{AreTheSame, run_after}
use Rattle.fm_law_two_memories.proofs.EndsSame.{ends_alike, goes_back, goes_forth}
use Rattle.fm_law_two_memories.proofs.TwoMemories.{same_limits}

-- ---- ends

same_ends : (one two first second : Store) (e a b : Ended) → SameEnd none_gone one first e a → SameEnd none_gone two second e b → EndsLike (Some a) (Some b)
same_ends one two first second (end.Fault method offset cell) a b h k =
    subst (λ u. EndsLike (Some u) (Some b)) (sym h.1) (k.0, ap (λ (u : Ended). Some u) k.1)
same_ends one two first second (end.Exhausted live needed) a b h k =
    let less : h.0 + 0 ≡ live = h.2 in
    let fewer : k.0 + 0 ≡ live = k.2 in
    let same : k.0 ≡ h.0 = omega (arith, less, fewer) in
    subst (λ u. EndsLike (Some u) (Some b)) (sym h.1) (ap (λ (u : Ended). Some u) k.1 ∙ ap (λ n. Some (end.Exhausted n needed)) same)
same_ends one two first second e a b h k = subst (λ u. EndsLike (Some u) (Some b)) (sym h) (ap (λ (u : Ended). Some u) k)

ends_like : (one two first second : Store) (e a b : Option Ended) → EndAlike none_gone one first e a → EndAlike none_gone two second e b → EndsLike a b
ends_like one two first second None a b h k = subst (λ u. EndsLike u b) (sym h) k
ends_like one two first second (Some e) a b h k =
    subst (λ u. EndsLike u b) (sym h.1) (subst (λ u. EndsLike (Some h.0) u) (sym k.1) (same_ends one two first second e h.0 k.0 h.2 k.2))

-- ---- states

both_same : (o : Outline) (m x y : Moved) → AreTheSame o m x → AreTheSame o m y → HaveDoneTheSame x y
both_same o m x y first second = record {
  printed = second.1 ∙ sym first.1;
  input = second.0.input ∙ sym first.0.input;
  steps = second.0.steps ∙ sym first.0.steps;
  births = second.0.areas.store.births ∙ sym first.0.areas.store.births;
  ended = ends_like m.state.areas.store m.state.areas.store x.state.areas.store y.state.areas.store m.state.ended x.state.ended y.state.ended
      first.0.ended second.0.ended;
}

pub memories_alike : MemoriesServeAlike
memories_alike p typings h first second job given budget limit other free freed few roomy other_roomy k =
    both_same p.outline (run_after p first job (opened budget None free) k) (run_after p first job (opened budget limit free) k)
    (run_after p second job (opened budget other freed) k)
    (same_limits p typings h first first job given budget limit free free few roomy k)
    (same_limits p typings h first second job given budget other free freed few other_roomy k)

-- ---- whole runs

pub whole_alike : WholeRunsServeAlike
whole_alike p typings h first second job given budget limit other free freed few roomy other_roomy steps x y one two =
    both_same p.outline middle x y
    (ends_alike p typings h first first job given budget limit free free few roomy steps middle x whole one)
    (ends_alike p typings h first second job given budget other free freed few other_roomy steps middle y whole two) where
      same_at : (k : ℕ) → AreTheSame p.outline (run_after p first job (opened budget None free) k) (run_after p first job (opened budget limit free) k)
      same_at = same_limits p typings h first first job given budget limit free free few roomy

      middle : Moved
      middle = run_after p first job (opened budget None free) one.count

      whole : IsRun p (lawful first) steps (opening p (lawful first) job (opened budget None free)) middle
      whole = record {
        count = one.count;
        goes = λ k less. goes_back p h.hidden steps _ _ (same_at k).0 (one.goes k less);
        stops = λ goes. one.stops (goes_forth p h.hidden steps _ _ (same_at one.count).0 goes);
        is = refl;
      }
