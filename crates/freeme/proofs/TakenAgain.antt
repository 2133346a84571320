-- The classes that are written are taken again.
use Rattle.std.proofs.Common.{◌≡◌, ℕ, Bool, true, false, List, [], Option, Some, None, IsSome, refl}
use Rattle.std.specs.List.{AllByRecursion}
use Rattle.std.proofs.lemmas.Bool.{false≢true}
use Rattle.fm_law_beside_freeme.specs.Lengths.{AcceptedHaveLengthsAlone}
use Rattle.fm_law_beside_freeme.specs.Written.{WrittenHaveLengthsAlone}
use Rattle.fm_law_chains.proofs.OwnPlans.{own_chains}
use Rattle.fm_law_relinked.specs.Again.{ChainedClassesLink, SafeClassesLink}
use Rattle.fm_law_same_runs.specs.Beside.{Marks}
use Rattle.fm_code.specs.Spells.{HasSpelling}
use Rattle.fm_code.specs.declared.class_file.ClassDef.{ClassDef}
use Rattle.fm_code.specs.declared.code_array.Code.{Code}
use Rattle.fm_place.specs.Safe.{IsProgramOf}
use Rattle.fm_law_retyped.specs.Retyped.{ChainedClassesAreTyped, SafeClassesAreTyped}
use Rattle.fm_law_unwoven.proofs.ClearedPrograms.{safe_of}
use Rattle.fm_rewrite.specs.declared.rewriting.Rewritten.{Rewritten}
use Rattle.fm_types.specs.Typed.{Typed}
use Rattle.fm_world.specs.Linking.{refusals}
use Rattle.fm_world.specs.Programs.{code_at, Program, program_of}
use Rattle.freeme.specs.Rewriting.{facts_by, IsFullBy}
use Rattle.freeme.specs.TopCall.{AreTakenAgain}

-- a method that is typed with each code that it may have
typed_if_coded : (p : Program) (method : ℕ) → ((code : Code) → code_at p method ≡ Some code → Typed p method) → IsSome (code_at p method) → Typed p method
typed_if_coded p method with_code some = by (code_at p method) refl some where
  by : (o : Option Code) → code_at p method ≡ o → IsSome o → Typed p method
  by None is none = absurd (false≢true none)
  by (Some code) is some = with_code code is

-- that classes are taken again, with chains and without
pub record AgainLaws : Type 0 where
  pub link : SafeClassesLink
  pub typed : SafeClassesAreTyped
  pub files : WrittenHaveLengthsAlone
  pub chains_link : ChainedClassesLink
  pub chains_typed : ChainedClassesAreTyped
  pub accepted : AcceptedHaveLengthsAlone

pub again_taken : (chains : Bool) (given : List ClassDef) (main : List ℕ) (p : Program) → IsProgramOf given main p → (made : Rewritten) → AllByRecursion HasSpelling given
    → refusals given main ≡ [] → AgainLaws → (marks : Marks) (full : IsFullBy chains p given made.classes.items marks)
    → AreTakenAgain p main made (facts_by chains p given made.classes.items marks full)
unfolding safe_of
again_taken false given main p is made spelled linked laws marks full =
    let written = made.classes.items in
    let safe = safe_of p given written marks full in
    record {
      links = (laws.link given main p written marks spelled linked safe).links;
      typed = λ ready method. typed_if_coded (program_of written main) method (laws.typed given main p is written marks spelled linked safe ready method);
      files = λ ready. laws.files given main p is written marks spelled linked safe ready;
    }
again_taken true given main p is made spelled linked laws marks full =
    let written = made.classes.items in
    let safe = own_chains p given written marks full in
    let links = (laws.chains_link given main p written marks spelled linked safe).links in
    record {
      links = links;
      typed = λ ready method. typed_if_coded (program_of written main) method (laws.chains_typed given main p is written marks spelled linked safe ready method);
      files = λ ready held files are old known.
          laws.accepted held (record { files = files; made = None; main = main }) written refl are links
          (λ method. typed_if_coded (program_of written main) method (laws.chains_typed given main p is written marks spelled linked safe ready method)) old known;
    }
