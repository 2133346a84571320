-- Classes with chains free all that sites in loops gave: what is shown along the runs holds of matched states, and of the runs of the program that isn't narrowed.
use Rattle.std.proofs.Common.{ℕ, suc, ◌+◌, ◌<◌, List, length, subst, arith}
use Rattle.fm_cells.specs.Choices.{lawful, never_choice}
use Rattle.fm_chain.specs.SafeChains.{full_chains, FullChainsOf}
use Rattle.fm_code.specs.declared.class_file.ClassDef.{ClassDef}
use Rattle.fm_frames.specs.States.{State}
use Rattle.fm_law_chains.proofs.ChainedSame.{are_clear, few_inserted, is_woven, LawsBelow, linked}
use Rattle.fm_law_chains.proofs.ChainsAhead.{ForthLaws, given_collected, stays_collected}
use Rattle.fm_law_chains.proofs.Collecting.{all_freed, collected_in_step, CollectingLaws, IsCollected, IsPaceCollected}
use Rattle.fm_law_chains.proofs.LoopedHolders.{full_have_chains, HaveChains}
use Rattle.fm_law_chains.specs.Chains.{ChainedClassesFreeAll}
use Rattle.fm_law_chains.specs.FreesAll.{AreAllFreed, FreesAll, IsGivenBySite}
use Rattle.fm_law_headline.proofs.Alike.{both_of}
use Rattle.fm_law_headline.proofs.BesideNarrowed.{each_whole, in_all, narrowed_beside}
use Rattle.fm_law_headline.proofs.InStep.{step_matched}
use Rattle.fm_law_lockstep.proofs.CatchUp.{programs_catch_up}
use Rattle.fm_law_lockstep.proofs.NextKept.{at_next_kept, GoingLaws}
use Rattle.fm_law_lockstep.proofs.Paced.{first_goes, keeps_pace, second_goes}
use Rattle.fm_law_lockstep.specs.Both.{Both}
use Rattle.fm_law_lockstep.specs.Known.{IsLinked, StepsStayKnown}
use Rattle.fm_law_lockstep.specs.Limits.{ShallowStepsCost}
use Rattle.fm_law_lockstep.specs.Stepping.{KeptStepsGoTogether}
use Rattle.fm_law_reached.specs.Reached.{HasClosedSets}
use Rattle.fm_law_same_runs.proofs.Openings.{runs_go}
use Rattle.fm_law_same_runs.specs.Beside.{AreMatched, Beside, InAllRuns, Marks, runs_of}
use Rattle.fm_law_same_runs.specs.Programs.{AreTaken}
use Rattle.fm_law_two_memories.specs.Runs.{LacksWords}
use Rattle.fm_law_unwoven.specs.WovenFrom.{IsWovenFrom}
use Rattle.fm_place.specs.Safe.{IsProgramOf}
use Rattle.fm_world.specs.Programs.{Program, program_of}

-- inserted steps collect what sites give, where the second program is the first one with insertions, and held sites in loops have holders of chains
abbrev pub ProgramsCollect : Type 0
ProgramsCollect =
    (b : Both) → IsWovenFrom b.one b.other b.facts b.plans b.marks → IsLinked b.one b.facts → HaveChains b.one b.facts b.plans → CollectingLaws b

module _ (laws : LawsBelow) (collect : ProgramsCollect) (given : List ClassDef) (entry : List ℕ) (taken : AreTaken given entry) (p : Program)
    (is : IsProgramOf given entry p) (closed : HasClosedSets p) (written : List ClassDef) (marks : Marks) (full : FullChainsOf p given written marks) where
  abbrev whole : Program
  whole = program_of given entry

  abbrev other : Program
  other = program_of written entry

  -- in the runs of the program that may be narrowed
  own_freed : InAllRuns p other marks (λ b. (k l : ℕ) → AreMatched b k l → AreAllFreed p full.facts b l)
  own_freed job fits count words other_words within other_within choose free has_words =
      let r : Beside = runs_of p other marks count words other_words job choose free in
      let b : Both = both_of p other full.facts (full_chains p full.facts) marks r in
      let woven = is_woven laws given entry taken p is closed written marks full in
      let links = linked laws given entry taken p is closed written marks full in
      let own = collect b woven links (full_have_chains p full.facts) in
      let costs = laws.costs b woven links in
      let few = few_inserted laws given entry taken p is closed written marks full job fits count words other_words within other_within choose free has_words in
      step_matched r (lawful never_choice) (lawful choose) (runs_go p other marks count words other_words job choose free) has_words
      (IsPaceCollected b own count job choose free)
      (collected_in_step b own count job choose free costs (laws.steps b woven links) (laws.opens b woven links within other_within) fits.arguments has_words few)
      (λ k l. AreAllFreed p full.facts r l)
      (λ k l pace.
      all_freed b own count job choose free k l pace
      (are_clear laws given entry taken p is closed written marks full job fits choose other_words other_within free l
      (keeps_pace b count job choose free costs k l pace.0).second_goes_on))

  -- in those of the one that isn't
  pub whole_freed : FreesAll p whole other full.facts marks
  whole_freed =
      in_all whole other p.made marks (λ b. (k l : ℕ) → AreMatched b k l → AreAllFreed p full.facts b l)
      (λ b. (k l : ℕ) → AreMatched b k l → AreAllFreed p full.facts b l)
      (λ b. each_whole p.made b (λ k l. AreAllFreed p full.facts (narrowed_beside p.made b) l) (λ k l. AreAllFreed p full.facts b l) (λ k l same. same))
      (subst (λ (q : Program). InAllRuns q other marks (λ b. (k l : ℕ) → AreMatched b k l → AreAllFreed p full.facts b l)) is own_freed)

pub chained_free_all : LawsBelow → ProgramsCollect → ChainedClassesFreeAll
chained_free_all = whole_freed

-- ---- inserted steps

-- what a step of both rests on, and what chains and sites are known for
pub record CollectLaws : Type 0 where
  pub kept_go : KeptStepsGoTogether
  pub known_on : StepsStayKnown
  pub step_costs : ShallowStepsCost
  pub forth : ForthLaws

going_laws : CollectLaws → (b : Both) → IsWovenFrom b.one b.other b.facts b.plans b.marks → IsLinked b.one b.facts → GoingLaws b
going_laws laws b from linked = record {
  kept_go = laws.kept_go;
  known_on = laws.known_on;
  costs = laws.step_costs;
  catch_up = programs_catch_up laws.forth.ahead b from linked;
  ahead = laws.forth.ahead;
}

-- they collect it: in the state that is reached it is in a chain, or gone
pub programs_collect : CollectLaws → ProgramsCollect
programs_collect laws b from linked chains = record {
  given = λ steps job choose free k l pace has c depth class birth given lasts.
      let r = runs_of b.one b.other b.marks steps b.words b.other_words job choose free in
      at_next_kept b from linked (going_laws laws b from linked) steps job choose free k l pace
      (subst (λ (s : State). ¬ LacksWords s) (first_goes b steps job choose free k) has) c (λ s w. IsCollected b w depth class birth)
      (λ s.
      given_collected laws.forth b from linked choose (r.xs k).state (r.ys l).state pace.0 s chains depth class birth
      (subst (λ (w : State). IsGivenBySite b.one b.facts b.marks (r.ys l).state w depth class birth) (second_goes b steps job choose free l) given));
  on = λ steps job choose free k l pace has c depth class birth collected lasts.
      let r = runs_of b.one b.other b.marks steps b.words b.other_words job choose free in
      at_next_kept b from linked (going_laws laws b from linked) steps job choose free k l pace
      (subst (λ (s : State). ¬ LacksWords s) (first_goes b steps job choose free k) has) c
      (λ s w. depth < length w.frames → IsCollected b w depth class birth)
      (λ s low. stays_collected laws.forth b from linked choose (r.xs k).state (r.ys l).state pace.0 s depth class birth low collected)
      (lasts (suc l + c.count) (omega arith) (omega arith));
}
