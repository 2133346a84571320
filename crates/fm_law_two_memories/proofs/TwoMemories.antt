-- A program goes alike on two memories, from the opening on.
use Rattle.std.proofs.Common.{ℕ, ◌*◌, ◌<◌, ◌≤◌, List, Option, None, refl, arith}
use Rattle.fm_base.specs.declared.limits.TheConstants.{MAX_LIVE_WORDS}
use Rattle.fm_cells.specs.Choices.{lawful}
use Rattle.fm_cells.specs.Stores.{opened}
use Rattle.fm_world.specs.Programs.{Outline, Program}
use Rattle.fm_frames.specs.Acts.{Choose}
use Rattle.fm_frames.specs.Runs.{after, Job, opening}
use Rattle.fm_frames.specs.States.{Moved}
use Rattle.fm_frames.specs.Steps.{stack_of, step}
use Rattle.fm_law_sound.proofs.HiddenFields.{text_first}
use Rattle.fm_law_sound.proofs.Opening.{opening_sound}
use Rattle.fm_law_sound.proofs.OpeningActs.{opening_fits}
use Rattle.fm_law_sound.proofs.StartActs.{start_alone}
use Rattle.fm_law_sound.specs.Laws.{no_frame}
use Rattle.fm_law_sound.specs.Making.{ArgumentsFit}
use Rattle.fm_law_sound.specs.Sound.{Typings}
use Rattle.fm_law_two_memories.specs.Pairing.{none_gone}
use Rattle.fm_law_two_memories.specs.Runs.{Alike, AreTheSame, FirstLacks, GoAlike, IsRoomy, IsWithoutFrees, run_after, RunsAreTheSame, RunsGoAlike, SecondIsFull, SecondLacks}
use Rattle.fm_law_two_memories.specs.Whole.{NextEffectsAreAlike, StepsKeepAlike}
use Rattle.fm_law_two_memories.proofs.NextAlike.{next_alike}
use Rattle.fm_law_two_memories.proofs.OpeningSame.{openings_alike}
use Rattle.fm_law_two_memories.proofs.RunsSame.{all_seen, few_none, runs_alike, told}
use Rattle.fm_law_two_memories.proofs.StepSame.{GoesAlike, IsReady, step_alike}

pub ready_for : (p : Program) (typings : Typings) → IsWithoutFrees p typings → IsReady p
ready_for p typings h = record { steps = h.steps; makes = h.makes; no_free = h.no_free; hidden = h.hidden; constants = h.constants }

pub next_effects_alike : NextEffectsAreAlike
next_effects_alike p typings h z f callers stands =
    next_alike p typings h.typed h.steps h.makes.makeable (text_first p h.makes.makeable.runnable h.makes.makeable.tree) h.no_free h.constants z f callers stands

pub steps_go_alike : StepsKeepAlike
steps_go_alike gone few_gone p typings h first second x y sound paired seen unlimited few going =
    told gone p.outline x.areas.store.budget y.areas.store.budget y.areas.store.limit (step p (lawful first) x) (step p (lawful second) y)
    (step_alike gone few_gone p typings (ready_for p typings h) first second x.areas.store.budget y.areas.store.budget y.areas.store.limit few x y sound
    (record { paired = paired; unlimited = unlimited; budget_is = refl; limit_is = refl; other_is = refl }) seen going)

-- two runs from their openings on, with what is known of the limits of their stores
pub all_go_alike : (p : Program) (typings : Typings) → IsWithoutFrees p typings → (first second : Choose) (job : Job) → ArgumentsFit job.arguments
    → (budget other : ℕ) (limit : Option ℕ) (free freed : List (List ℕ)) → other ≤ MAX_LIVE_WORDS → (k : ℕ)
    → GoesAlike none_gone p.outline budget other limit (run_after p first job (opened budget None free) k) (run_after p second job (opened other limit freed) k)
all_go_alike p typings h first second job given budget other limit free freed few k =
    let begins : Moved = opening p (lawful first) job (opened budget None free) in
    runs_alike none_gone few_none p typings (ready_for p typings h) first second budget other limit few begins
    (opening p (lawful second) job (opened other limit freed))
    (opening_sound p typings h.typed h.steps h.main first job budget None free (record {
      opening = opening_fits p h.makes.makeable (opened budget None free) no_frame job given;
      start = start_alone p h.makes.makeable h.makes.constants (opened budget None free) no_frame;
    }))
    (λ j going. all_seen p.outline (after p (lawful first) j begins).state.areas.store (stack_of (after p (lawful first) j begins).state))
    (openings_alike p (ready_for p typings h) first second job given budget other limit free freed few) k

pub runs_go_alike : RunsGoAlike
runs_go_alike p typings h first second job given budget other limit free freed few k =
    told none_gone p.outline budget other limit (run_after p first job (opened budget None free) k) (run_after p second job (opened other limit freed) k)
    (all_go_alike p typings h first second job given budget other limit free freed few k)

-- neither lacks what the other has
the_same : (o : Outline) (budget : ℕ) (limit : Option ℕ) → IsRoomy limit budget → (x y : Moved) → GoAlike none_gone o budget budget limit x y
    → AreTheSame o x y
the_same o budget limit roomy x y (Alike paired printed) = (paired, printed)
the_same o budget limit roomy x y (FirstLacks less lacks prefix) = absurd (omega (arith, less))
the_same o budget limit roomy x y (SecondLacks less lacks prefix) = absurd (omega (arith, less))
the_same o budget limit roomy x y (SecondIsFull small full prefix) =
    let room = roomy small.0 small.1 in let less : small.0 < 2 * budget = small.3 in absurd (omega (arith, less, room))

pub same_limits : RunsAreTheSame
same_limits p typings h first second job given budget limit free freed few roomy k =
    the_same p.outline budget limit roomy (run_after p first job (opened budget None free) k) (run_after p second job (opened budget limit freed) k)
    (runs_go_alike p typings h first second job given budget budget limit free freed few k)
