-- Classes with safe insertions, and with all of them, have runs in which holders are cleared and few inserted steps follow one another.
use Rattle.std.proofs.Common.{◌≡◌, false, List, [], ◌∷◌, Option, Some, None, option_map, option_and_then, refl, sym, ap, subst, ◌∙◌}
use Rattle.std.specs.Prelude.{slice_get}
use Rattle.std.specs.List.{AllByRecursion}
use Rattle.std.proofs.lemmas.Option.{none-some, same_Some}
use Rattle.fm_code.specs.declared.class_file.ClassDef.{ClassDef}
use Rattle.fm_code.specs.declared.code_array.Code.{Code}
use Rattle.fm_conn.specs.Facts.{Facts}
use Rattle.fm_conn.specs.Links.{typed_method}
use Rattle.fm_conn.specs.Nodes.{TypedMethod}
use Rattle.fm_frames.specs.States.{Frame, null, word_at}
use Rattle.fm_law_linked.specs.Laws.{MainOfProgramsIsReady, StepsOfProgramsAreResolved}
use Rattle.fm_law_linked.specs.Makes.{MakesOfProgramsAreResolved}
use Rattle.fm_law_same_runs.specs.Beside.{Marks, reuse_run}
use Rattle.fm_law_same_runs.specs.Programs.{AreClear, HoldersAreCleared, IsClear}
use Rattle.fm_law_sound.specs.Making.{MakesAreResolved}
use Rattle.fm_law_sound.specs.Resolved.{MainIsReady, StepsAreResolved}
use Rattle.fm_law_unwoven.proofs.NarrowedLinks.{main_narrowed, makes_narrowed, steps_narrowed}
use Rattle.fm_law_unwoven.specs.Runs.{AllRunsAreCleared, AreCleared, FewAreInsertedInRuns, IsCleared, SafeRunsAreCleared}
use Rattle.fm_law_unwoven.specs.WovenFrom.{inserted_by, SafeProgramsAreWoven}
use Rattle.fm_place.proofs.FullLemmas.{method-safe}
use Rattle.fm_place.specs.Insertions.{full_insertions}
use Rattle.fm_place.specs.Places.{is_busy}
use Rattle.fm_place.specs.Safe.{full_plans, FullOf, SafeOf}
use Rattle.fm_place.specs.Woven.{local_of}
use Rattle.fm_world.specs.Programs.{code_at, Program, program_of}
use Rattle.fm_same.proofs.DeadRuns.{facts_type}

pub safe_cleared : AllRunsAreCleared → SafeProgramsAreWoven → StepsOfProgramsAreResolved → MakesOfProgramsAreResolved → MainOfProgramsIsReady → SafeRunsAreCleared
safe_cleared runs woven steps makes main given entry taken p is written marks safe job job_given choose words few free =
    let whole : Program = program_of given entry in
    runs p (program_of written entry) safe.facts safe.plans marks (woven given entry taken p is written marks safe) (facts_type p safe.facts safe.exact)
    (subst StepsAreResolved (sym is) (steps_narrowed whole p.made (steps given entry taken.spelled taken.supported taken.linked taken.few)))
    (subst MakesAreResolved (sym is) (makes_narrowed whole p.made (makes given entry taken.spelled taken.linked taken.few)))
    (subst MainIsReady (sym is) (main_narrowed whole p.made (main given entry taken.spelled taken.supported taken.linked)))
    choose job job_given.arguments words few free

pub few_inserted : SafeRunsAreCleared → FewAreInsertedInRuns
few_inserted runs given main taken p is written marks safe job job_given steps words other_words first few choose free has =
    (runs given main taken p is written marks safe job job_given choose other_words few free).few

-- ---- all insertions

-- what is cleared by all of them
full_clear : (p : Program) (facts : Facts) (marks : Marks) (f : Frame) → IsCleared p facts (full_plans p facts) marks f → IsClear p facts marks f
full_clear p facts marks f cleared j x plan item_is x_is plan_is = by_code (code_at p f.method) refl where
  by_code : (o : Option Code) → code_at p f.method ≡ o → AreClear facts x plan f j
  by_code None none = absurd (none-some x (sym (ap (option_map (typed_method p facts.typing f.method)) none) ∙ x_is))
  by_code (Some code) is = record {
    clear = λ number holder held quiet.
        let same : typed_method p facts.typing f.method code ≡ x =
        same_Some (typed_method p facts.typing f.method code) x (sym (ap (option_map (typed_method p facts.typing f.method)) is) ∙ x_is) in
        let plans : full_plans p facts f.method ≡ Some plan = ap (option_and_then (full_insertions facts)) x_is ∙ plan_is in
        subst (λ (y : TypedMethod). word_at f.locals (local_of y.code number) ≡ null) same
        (cleared j code number holder item_is is
        (subst (λ o. slice_get (inserted_by o).holders number ≡ Some holder) (sym plans) held)
        (subst (λ (y : TypedMethod). is_busy facts y holder.class j ≡ false) (sym same) quiet));
  }

all_clear : (p : Program) (facts : Facts) (marks : Marks) (frames : List Frame) → AreCleared p facts (full_plans p facts) marks frames
    → AllByRecursion (IsClear p facts marks) frames
all_clear p facts marks [] all = tt
all_clear p facts marks (f ∷ frames) all = (full_clear p facts marks f all.0, all_clear p facts marks frames all.1)

-- they are safe, with these facts and plans
unfoldable pub safe_of : (p : Program) (given written : List ClassDef) (marks : Marks) → FullOf p given written marks → SafeOf p given written marks
safe_of p given written marks full = record {
  facts = full.facts;
  exact = full.exact;
  plans = full_plans p full.facts;
  methods = method-safe p full.facts;
  written_is = full.written_is;
  marks_are = full.marks_are;
}

pub full_cleared : SafeRunsAreCleared → HoldersAreCleared
unfolding safe_of
full_cleared runs given main taken p is written marks full job job_given choose words few free l going =
    all_clear p full.facts marks (reuse_run (program_of written main) choose job words free l).state.frames
    ((runs given main taken p is written marks (safe_of p given written marks full) job job_given choose words few free).cleared l going)
