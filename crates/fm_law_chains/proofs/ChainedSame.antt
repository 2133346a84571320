-- Classes with chains do what those given do: the parts of the headline, by the plans whose holders of sites in loops hold chains.
use Rattle.std.proofs.Common.{◌≡◌, ◌≤◌, refl, sym, ◌∙◌, ap, subst, ℕ, suc, ◌+◌, false, List, [], ◌∷◌, length, Option, Some, None, option_and_then, option_map}
use Rattle.std.specs.Prelude.{slice_get}
use Rattle.std.specs.List.{AllByRecursion}
use Rattle.std.proofs.lemmas.Option.{none-some, same_Some, slice_get-map}
use Rattle.fm_base.specs.declared.limits.TheConstants.{MAX_CLASS_FILES, MAX_LIVE_WORDS}
use Rattle.fm_chain.specs.Chaining.{chained_from}
use Rattle.fm_chain.specs.Loops.{is_looped}
use Rattle.fm_chain.specs.SafeChains.{full_chains, FullChainsOf, looped_plan, with_loops}
use Rattle.fm_code.specs.Profile.{IsSupported}
use Rattle.fm_code.specs.Spells.{HasSpelling}
use Rattle.fm_code.specs.declared.class_file.ClassDef.{ClassDef}
use Rattle.fm_code.specs.declared.code_array.Code.{Code}
use Rattle.fm_conn.specs.Facts.{Facts}
use Rattle.fm_conn.specs.Links.{typed_method}
use Rattle.fm_conn.specs.Nodes.{TypedMethod}
use Rattle.fm_frames.specs.Acts.{Choose}
use Rattle.fm_frames.specs.Runs.{Job}
use Rattle.fm_frames.specs.States.{Frame, null, word_at}
use Rattle.fm_law_can_step.specs.Ready.{CanRun}
use Rattle.fm_law_cells_made.specs.MostHeld.{MadeIsMostHeld}
use Rattle.fm_law_chains.proofs.OwnPlans.{own_chains}
use Rattle.fm_law_chains.specs.Chains.{ChainedClassesDoTheSame}
use Rattle.fm_law_headline.proofs.Alike.{are_linked, both_of, woven_alike}
use Rattle.fm_law_headline.proofs.Parts.{make_the_record}
use Rattle.fm_law_headline.proofs.Renamed.{woven_renamed}
use Rattle.fm_law_headline.specs.Headline.{HoldersStayClear}
use Rattle.fm_law_headline.specs.WholeRuns.{SameProgramsEndTheSame}
use Rattle.fm_law_linked.specs.Cells.{CellsOfProgramsAreResolved}
use Rattle.fm_law_linked.specs.Laws.{MainOfProgramsIsReady, ProgramsAreResolved, ProgramsCanRun, StepsOfProgramsAreResolved}
use Rattle.fm_law_linked.specs.Makes.{MakesOfProgramsAreResolved}
use Rattle.fm_law_linked.specs.TwoMemories.{LinkedIsWithoutFrees}
use Rattle.fm_law_lockstep.specs.Composing.{LockstepsStep}
use Rattle.fm_law_lockstep.specs.Known.{IsLinked}
use Rattle.fm_law_lockstep.specs.Opening.{OpeningsAreTogether}
use Rattle.fm_law_lockstep.specs.Renamed.{MatchedAreRenamed, TogetherIsRenamed}
use Rattle.fm_law_lockstep.specs.Together.{TogetherCostsSame}
use Rattle.fm_law_reached.specs.Reached.{HasClosedSets}
use Rattle.fm_law_relinked.specs.Again.{ChainedClassesLink}
use Rattle.fm_law_same_runs.specs.Beside.{AreMatched, FewAreInserted, InAllRuns, IsGiven, Marks, reuse_run, runs_of}
use Rattle.fm_law_same_runs.specs.Programs.{AreClear, AreTaken, IsClear}
use Rattle.fm_law_same_runs.specs.Renaming.{StatesAreRenamed}
use Rattle.fm_law_sound.specs.Making.{MakesAreResolved}
use Rattle.fm_law_sound.specs.Resolved.{MainIsReady, StepsAreResolved}
use Rattle.fm_law_unwoven.proofs.NarrowedLinks.{main_narrowed, makes_narrowed, steps_narrowed}
use Rattle.fm_law_unwoven.specs.Runs.{AllRunsAreCleared, AreCleared, IsCleared, RunsAreCleared}
use Rattle.fm_law_unwoven.specs.WovenFrom.{ChainedProgramsAreWoven, inserted_by, IsWovenFrom}
use Rattle.fm_place.specs.Insertions.{full_insertions, Holder}
use Rattle.fm_place.specs.Places.{is_busy}
use Rattle.fm_place.specs.Rewriting.{first_given, Plans}
use Rattle.fm_place.specs.Safe.{full_plans, IsProgramOf}
use Rattle.fm_place.specs.Woven.{local_of}
use Rattle.fm_same.proofs.DeadRuns.{facts_type}
use Rattle.fm_world.specs.Programs.{code_at, Program, program_of}

-- ---- what is cleared

-- what is cleared by all that is inserted with chains
chained_clear : (p : Program) (facts : Facts) (marks : Marks) (f : Frame) → IsCleared p facts (full_chains p facts) marks f → IsClear p facts marks f
chained_clear p facts marks f cleared j x plan item_is x_is plan_is = by_code (code_at p f.method) refl where
  by_code : (o : Option Code) → code_at p f.method ≡ o → AreClear facts x plan f j
  by_code None none = absurd (none-some x (sym (ap (option_map (typed_method p facts.typing f.method)) none) ∙ x_is))
  by_code (Some code) is = record {
    clear = λ number holder held quiet.
        let same : typed_method p facts.typing f.method code ≡ x =
        same_Some (typed_method p facts.typing f.method code) x (sym (ap (option_map (typed_method p facts.typing f.method)) is) ∙ x_is) in
        let full : full_plans p facts f.method ≡ Some plan = ap (option_and_then (full_insertions facts)) x_is ∙ plan_is in
        let plans : full_chains p facts f.method ≡ Some (with_loops code plan) = (λ k. looped_plan (is k) (full k)) in
        let there : slice_get (with_loops code plan).holders number ≡ Some (record holder { looped = is_looped code holder.site }) =
        slice_get-map (λ (h : Holder). record h { looped = is_looped code h.site }) plan.holders number
        ∙ ap (option_map (λ (h : Holder). record h { looped = is_looped code h.site })) held in
        subst (λ (y : TypedMethod). word_at f.locals (local_of y.code number) ≡ null) same
        (cleared j code number (record holder { looped = is_looped code holder.site }) item_is is
        (subst (λ o. slice_get (inserted_by o).holders number ≡ Some (record holder { looped = is_looped code holder.site })) (sym plans) there)
        (subst (λ (y : TypedMethod). is_busy facts y holder.class j ≡ false) (sym same) quiet));
  }

all_clear : (p : Program) (facts : Facts) (marks : Marks) (frames : List Frame) → AreCleared p facts (full_chains p facts) marks frames
    → AllByRecursion (IsClear p facts marks) frames
all_clear p facts marks [] all = tt
all_clear p facts marks (f ∷ frames) all = (chained_clear p facts marks f all.0, all_clear p facts marks frames all.1)

-- as many classes are written as are given
as_many : (plans : Plans) (first : ℕ) (given : List ClassDef) → length (chained_from plans first given) ≡ length given
as_many plans first [] = refl
as_many plans first (c ∷ given) = ap suc (as_many plans (first + length c.methods) given)

-- ---- what the laws below say

pub record LawsBelow : Type 0 where
  pub woven : ChainedProgramsAreWoven
  pub links : ChainedClassesLink
  -- of linked programs
  pub resolved : ProgramsAreResolved
  pub cells : CellsOfProgramsAreResolved
  pub without : LinkedIsWithoutFrees
  pub steps_resolved : StepsOfProgramsAreResolved
  pub makes : MakesOfProgramsAreResolved
  pub main : MainOfProgramsIsReady
  pub can_run : ProgramsCanRun
  -- of runs
  pub runs : AllRunsAreCleared
  pub opens : OpeningsAreTogether
  pub steps : LockstepsStep
  pub costs : TogetherCostsSame
  pub renamed : TogetherIsRenamed
  pub matched : MatchedAreRenamed
  pub most_held : MadeIsMostHeld
  pub ends : SameProgramsEndTheSame

-- ---- one program with chains

module _ (laws : LawsBelow) (given : List ClassDef) (entry : List ℕ) (taken : AreTaken given entry) (p : Program) (is : IsProgramOf given entry p)
    (closed : HasClosedSets p) (written : List ClassDef) (marks : Marks) (full : FullChainsOf p given written marks) where
  abbrev whole : Program
  whole = program_of given entry

  abbrev other : Program
  other = program_of written entry

  abbrev plans : Plans
  plans = full_chains p full.facts

  pub is_woven : IsWovenFrom p other full.facts plans marks
  is_woven = laws.woven given entry taken p is written marks (own_chains p given written marks full)

  pub linked : IsLinked p full.facts
  linked = are_linked laws.resolved laws.cells laws.without given entry taken p is closed full.facts full.exact

  -- each run of it clears its holders
  runs_clear : (job : Job) → IsGiven job → (choose : Choose) (words : ℕ) → words ≤ MAX_LIVE_WORDS → (free : List (List ℕ))
      → RunsAreCleared p other full.facts plans marks (reuse_run other choose job words free)
  runs_clear job job_given choose words few free =
      laws.runs p other full.facts plans marks is_woven (facts_type p full.facts full.exact)
      (subst StepsAreResolved (sym is) (steps_narrowed whole p.made (laws.steps_resolved given entry taken.spelled taken.supported taken.linked taken.few)))
      (subst MakesAreResolved (sym is) (makes_narrowed whole p.made (laws.makes given entry taken.spelled taken.linked taken.few)))
      (subst MainIsReady (sym is) (main_narrowed whole p.made (laws.main given entry taken.spelled taken.supported taken.linked)))
      choose job job_given.arguments words few free

  pub are_clear : (job : Job) → IsGiven job → (choose : Choose) (words : ℕ) → words ≤ MAX_LIVE_WORDS → (free : List (List ℕ)) (l : ℕ)
      → (reuse_run other choose job words free l).state.ended ≡ None
      → AreCleared p full.facts plans marks (reuse_run other choose job words free l).state.frames
  are_clear job job_given choose words few free = (runs_clear job job_given choose words few free).cleared

  stays_clear : HoldersStayClear p other full.facts marks
  stays_clear job job_given choose words few free l going =
      all_clear p full.facts marks (reuse_run other choose job words free l).state.frames (are_clear job job_given choose words few free l going)

  pub few_inserted : InAllRuns p other marks FewAreInserted
  few_inserted job job_given steps words other_words first few choose free has = (runs_clear job job_given choose other_words few free).few

  objects : InAllRuns p other marks (λ b. (k l : ℕ) → AreMatched b k l → StatesAreRenamed full.facts b k l)
  objects job fits count words other_words within other_within choose free has_words =
      laws.matched (both_of p other full.facts plans marks (runs_of p other marks count words other_words job choose free)) is_woven linked within other_within count
      job choose free fits.arguments has_words

  runs_again : AllByRecursion HasSpelling written → AllByRecursion IsSupported written → CanRun other
  runs_again spelled supported =
      laws.can_run written entry spelled supported (laws.links given entry p written marks taken.spelled taken.linked (own_chains p given written marks full)).links
      (subst (λ n. n ≤ MAX_CLASS_FILES) (sym (ap (λ (classes : List ClassDef). length classes) full.written_is ∙ as_many plans first_given given)) taken.few)

pub chained_do_the_same : LawsBelow → ChainedClassesDoTheSame
chained_do_the_same laws given entry taken p is closed written marks full spelled supported =
    let other = program_of written entry in
    let plans = full_chains p full.facts in
    let woven = is_woven laws given entry taken p is closed written marks full in
    let links = linked laws given entry taken p is closed written marks full in
    let few = few_inserted laws given entry taken p is closed written marks full in
    make_the_record laws.most_held laws.ends given entry taken p is written marks full.facts full.exact
    (woven_alike laws.steps laws.opens laws.costs p other full.facts plans marks woven links few)
    (woven_renamed laws.steps laws.opens laws.costs laws.renamed p other full.facts plans marks woven links few)
    (objects laws given entry taken p is closed written marks full) (stays_clear laws given entry taken p is closed written marks full)
    (runs_again laws given entry taken p is closed written marks full spelled supported)
