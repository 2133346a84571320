-- Whole runs of a linked program and of another one that does the same.
use Rattle.std.proofs.Common.{sym, subst, ℕ, List, []}
use Rattle.std.specs.Prelude.{None}
use Rattle.fm_cells.specs.Choices.{never_choice}
use Rattle.fm_code.specs.declared.class_file.ClassDef.{ClassDef}
use Rattle.fm_law_headline.proofs.WholeRuns.{IsKnown, whole_runs}
use Rattle.fm_law_headline.specs.WholeRuns.{MatchedStepsGiveEnds, SameProgramsEndTheSame}
use Rattle.fm_law_linked.specs.Laws.{ProgramsAreResolved}
use Rattle.fm_law_linked.specs.TwoMemories.{LinkedDoesTheSame}
use Rattle.fm_law_no_fault.specs.NoFault.{LinkedProgramsNeverFault}
use Rattle.fm_law_same_runs.specs.Beside.{Same}
use Rattle.fm_law_same_runs.specs.Programs.{AreTaken}
use Rattle.fm_law_sound.specs.Sound.{AreTyped, Typings}
use Rattle.fm_world.specs.Programs.{program_of}
use Rattle.fm_same.proofs.DeadRuns.{facts_type}

module _ (resolved : ProgramsAreResolved) (alike : LinkedDoesTheSame) (faultless : LinkedProgramsNeverFault) where
  known_of : (given : List ClassDef) (main : List ℕ) → AreTaken given main → (typings : Typings) → AreTyped (program_of given main) typings
      → IsKnown (program_of given main)
  known_of given main taken typings typed = record {
    runnable = (resolved given main taken.spelled taken.linked taken.few).runnable;
    alike = (alike given main taken.spelled taken.supported taken.linked taken.few typings typed taken.no_free).0;
    running = λ job fits words few k going.
        let whole =
        faultless given main taken.spelled taken.supported taken.linked taken.few typings typed taken.no_free never_choice job fits words None [] few k in
        whole.0.sound.running going;
  }

  pub same_ends : SameProgramsEndTheSame
  same_ends given main taken typings typed other marks same r one_is other_is are =
      let known : IsKnown r.one = subst IsKnown (sym one_is) (known_of given main taken typings typed) in
      let both : Same r.one r.other marks =
      subst (λ p. Same p r.other marks) (sym one_is) (subst (λ q. Same (program_of given main) q marks) (sym other_is) same) in
      whole_runs r are known marks both

  pub matched_ends : MatchedStepsGiveEnds
  matched_ends matched given main taken written marks safe r one_is other_is are =
      same_ends given main taken safe.facts.typing (facts_type (program_of given main) safe.facts safe.exact) (program_of written main) marks
      (matched given main taken written marks safe) r one_is other_is are
