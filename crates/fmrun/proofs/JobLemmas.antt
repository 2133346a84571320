-- How a job comes out, by what comes of its class files, of its input and of its run.
use Rattle.std.proofs.Common.{◌≡◌, ◌<◌, ◌≤◌, ℕ, inl, inr, List, [], ◌∷◌, ◌++◌, append-nil, append_assoc, length, map, Contains, Option, Some, None, IsSomeAnd, Bor, Ok, Err, refl, sym, ap, ◌∙◌, subst, arith}
use Rattle.std.specs.List.{AllByRecursion, slice_get}
use Rattle.std.specs.declared.alloc.Global.{Global}
use Rattle.std.proofs.lemmas.List.Elements.{Contains-append_left, Contains-append_right}
use Rattle.fm_base.specs.declared.limits.TheConstants.{MAX_ARGUMENTS, MAX_CLASS_FILES, MAX_FILE_BYTES}
use Rattle.fm_code.specs.Profile.{Profile}
use Rattle.fm_code.specs.declared.class_file.ClassDef.{ClassDef}
use Rattle.fm_files.specs.Files.{Bytes, Call, Contents, Disk}
use Rattle.fm_files.specs.Sink.{Output}
use Rattle.fm_load.proofs.ChangesLemmas.{rises_of_kept, rises_then, faultless_then, read_fault_then}
use Rattle.fm_load.proofs.GivenLemmas.{given_accepted, given_few, given_returned, given_spelled}
use Rattle.fm_load.proofs.ReadLemmas.{asked_next, call_behind, in_order_before, reads_next, reads_none, returned_before, same_number}
use Rattle.fm_load.specs.Given.{AreGiven, IsMadeAlone, IsUntouched, IsNotLinked, AreChecked}
use Rattle.fm_load.specs.Judging.{ComesOfProgram}
use Rattle.fm_load.specs.Reading.{ComesOfFiles, ReadsAll}
use Rattle.fm_load.specs.Returned.{ReadsAs, ReadsFirst, ReadsUpTo, returned}
use Rattle.fm_load.specs.inner.Giving.{AreMadeOf}
use Rattle.fm_load.specs.Taking.{AllTaken, ClassIsSpelled}
use Rattle.fm_load.specs.declared.refusal.JobRefusal.{JobRefusal}
use Rattle.fm_load.specs.declared.refusal.JobRefusal.TheVariants as job_refusal
use Rattle.fm_run_job.specs.Reading.{ComesOfInput, IsInputOf, IsInputRead, ReadsInput, and_input}
use Rattle.fm_link_refusals.specs.Refused.{refusal_of}
use Rattle.fm_cli_requests.specs.FmrunRequest.{FmrunJob, job_of}
use Rattle.fm_cli_requests.specs.declared.fmrun_request.FmrunRequest.{FmrunRequest}
use Rattle.fm_cli.specs.Encoding.{modified}
use Rattle.fm_cli.specs.Outside.{HasNoFileFault, HoldsSuch}
use Rattle.fm_cli.specs.declared.command_refusal.CommandRefusal.TheVariants as refusal
use Rattle.fm_world.specs.Causes.{Refusal}
use Rattle.fm_world.specs.Linking.{refusals}
use Rattle.fmrun.specs.Jobs.{given_of, budgets_of, input_files, job_arguments, job_files, IsReady}
use Rattle.fmrun.specs.TopCall.{ComesTo, HasInput, Outcome, ReadsJob, StaysWithin}
use Rattle.fmrun.specs.declared.outcome.JobFail.TheVariants as fail
use Rattle.fmrun.specs.inner.Running.{AreProgram, ComesOfClasses}

-- ---- reads

-- of some files, and so of these and others
reads_among : (files more : List Bytes) (old new : Disk) → ReadsAll files old new → ReadsAll (files ++ more) old new
reads_among files more old new all = record {
  reads = record {
    faults = rises_then (Contains files) (λ _. ⊥) (Contains (files ++ more)) old.read_faults new.read_faults new.read_faults (Contains-append_left files more) (λ n none. absurd none) all.reads.faults
        (rises_of_kept (λ _. ⊥) new.read_faults new.read_faults (λ name. refl));
    widest = rises_then (Contains files) (λ _. ⊥) (Contains (files ++ more)) old.widest_read new.widest_read new.widest_read (Contains-append_left files more) (λ n none. absurd none) all.reads.widest
        (rises_of_kept (λ _. ⊥) new.widest_read new.widest_read (λ name. refl));
    within = all.reads.within;
  };
  writes = all.writes;
  asked = (all.asked.0, all.asked.1, in_order_before all.asked.0 files more all.asked.2);
}

-- the file behind others
last_there : (files : List Bytes) (file : Bytes) → slice_get (files ++ file ∷ []) (length files) ≡ Some file
last_there [] file = refl
last_there (f ∷ files) file = last_there files file

-- of the input after the class files, each of which returned the bytes of a class
input_too : (files : List Bytes) (classes : List ClassDef) (input : Option Bytes) (old between new : Disk) → length classes ≡ length files → ReadsAs files classes old between → ReadsAll files old between
    → ReadsInput input between new → ReadsAll (files ++ input_files input) old new
input_too files classes None old between new same calls all now = let P : Disk → Type 0 = λ d. ReadsAll (files ++ []) old d in subst P (sym now) (reads_among files [] old between all)
input_too files classes (Some file) old between new same calls all (now, keeps, once) =
    let At : ℕ → Type 0 = λ n. slice_get (files ++ file ∷ []) n ≡ Some file in
    let before = calls ∙ ap (λ (first : List Call). old.reads ++ first) (sym (returned_before files (file ∷ []) classes (omega arith))) in
    reads_next (files ++ file ∷ []) file old between new (Contains-append_right files (file ∷ []) file (0, omega arith, refl)) (reads_among files (file ∷ []) old between all) now keeps
    (asked_next (files ++ file ∷ []) classes file old between new (subst At (sym same) (last_there files file)) before once)

-- the reads of the class files are the first
pub files_first : (job : FmrunJob) (classes : List ClassDef) (input : Bytes) (old new : Disk) → ReadsJob job classes input old new → ReadsFirst job.files classes old new
files_first job classes input old new = go job.input where
  go : (named : Option Bytes) → new.reads ≡ and_input (old.reads ++ returned job.files classes) named input → ReadsFirst job.files classes old new
  go None now = ([], now ∙ ap (λ (more : List Call). old.reads ++ more) (sym (append-nil (returned job.files classes))))
  go (Some file) now =
      let call : Call = record { name = file; bytes = Some input } in
      (call ∷ [], now ∙ append_assoc old.reads (returned job.files classes) (call ∷ []))

-- the input changes no contents, and nothing is written
input_keeps : (input : Option Bytes) (old new : Disk) → ReadsInput input old new → new.contents ≡ old.contents
input_keeps None old new now = ap (λ (d : Disk). d.contents) now
input_keeps (Some file) old new (now, keeps, once) = keeps.contents

input_writes : (input : Option Bytes) (old new : Disk) → ReadsInput input old new → new.writes ≡ old.writes
input_writes None old new now = ap (λ (d : Disk). d.writes) now
input_writes (Some file) old new (now, keeps, once) = keeps.calls

-- ---- a job whose classes are given

pub record HasClasses (job : FmrunJob) (classes : List ClassDef) (old between : Disk) : Type 0 where
  pub source : AreGiven (given_of job) old.contents classes
  pub faultless : HasNoFileFault old between
  pub calls : ReadsAs job.files source.read old between
  pub all : ReadsAll job.files old between

-- by the names and the classes as slices
pub classes_of : {names : List (Bor Bytes)} {classes items : List ClassDef} {old between : Disk} (request : FmrunRequest) → IsMadeAlone (given_of (job_of request))
    → names ≡ request.files.items → classes ≡ items → ReadsAll (map (λ n. n.now) names) old between → AreMadeOf (map (λ n. n.now) names) request.made items old between
    → HasClasses (job_of request) classes old between
classes_of {names} {classes} {items} {old} {between} request alone same lent all made =
    let files : map (λ n. n.now) names ≡ (job_of request).files = ap (map (λ n. n.now)) same in
    let P : List Bytes → Type 0 = λ fs. AllTaken old.contents fs made.read in
    let Q : List Bytes → Type 0 = λ fs. ReadsAs fs made.read old between in
    let R : List Bytes → Type 0 = λ fs. ReadsAll fs old between in
    record {
      source = record { read = made.read; taken = subst P files made.are_read.taken; alone = alone; classes_are = lent ∙ made.classes_are };
      faultless = made.are_read.faultless;
      calls = subst Q files made.are_read.reads;
      all = subst R files all;
    }

-- a refusal of the class files by the names
pub unread_of : {names : List (Bor Bytes)} (old between : Disk) (request : FmrunRequest) → names ≡ request.files.items → (r : JobRefusal) → ComesOfFiles {Y = Global} (map (λ n. n.now) names) old between (Err r)
    → ComesOfFiles {Y = Global} (job_of request).files old between (Err r)
unread_of {names} old between request same r now =
    let files : map (λ n. n.now) names ≡ (job_of request).files = ap (map (λ n. n.now)) same in
    let P : List Bytes → Type 0 = λ fs. ComesOfFiles {Y = Global} fs old between (Err r) in subst P files now

-- and what was read
pub all_of_names : {names : List (Bor Bytes)} {old between : Disk} (request : FmrunRequest) → names ≡ request.files.items → ReadsAll (map (λ n. n.now) names) old between → ReadsAll (job_of request).files old between
all_of_names {names} {old} {between} request same all =
    let files : map (λ n. n.now) names ≡ (job_of request).files = ap (map (λ n. n.now)) same in
    let R : List Bytes → Type 0 = λ fs. ReadsAll fs old between in subst R files all

-- the input as a slice
pub input_of : {input items : Bytes} {named : Option Bytes} {between new : Disk} → input ≡ items → IsInputRead named items between new → IsInputRead named input between new
input_of {input} {items} {named} {between} {new} lent = let P : Bytes → Type 0 = λ i. IsInputRead named i between new in subst P (sym lent)

-- the arguments of a job aren't too many, as a slice
pub few_of : {arguments items given : List (List ℕ)} → arguments ≡ items → items ≡ given → length arguments ≤ MAX_ARGUMENTS → length given ≤ MAX_ARGUMENTS
few_of lent are few = let P : List (List ℕ) → Type 0 = λ xs. length xs ≤ MAX_ARGUMENTS in subst P (lent ∙ are) few

-- memory can't be had before anything is read
pub ends_at_once : (job : FmrunJob) (disk : Disk) (out : Output) → ComesTo job disk disk out out (Err (fail.Refused (job_refusal.Shared refusal.OutOfMemory)))
ends_at_once job disk out = inl (record { faultless = record { reads = λ name. refl; writes = λ name. refl }; kept = refl; unwritten = refl }, refl)

-- only the class files were read
pub classes_within : (job : FmrunJob) (old between : Disk) → ReadsAll job.files old between → StaysWithin job old between
classes_within job old between = reads_among job.files (input_files job.input) old between

-- nothing was read
pub none_within : (job : FmrunJob) (disk : Disk) → StaysWithin job disk disk
none_within job disk = reads_none (job_files job) disk

-- a class file isn't taken
pub ends_unread : (job : FmrunJob) (old between : Disk) (out : Output) → length (job_arguments job) ≤ MAX_ARGUMENTS → (r : JobRefusal) → ComesOfFiles {Y = Global} job.files old between (Err r)
    → ComesTo job old between out out (Err (fail.Refused r))
ends_unread job old between out few (job_refusal.TooLong file) now = ((few, inl now), refl)
ends_unread job old between out few (job_refusal.Class file r) now = ((few, now), refl)
ends_unread job old between out few (job_refusal.Shared (refusal.Read file)) now = ((few, inl now), refl)
ends_unread job old between out few (job_refusal.Shared refusal.OutOfMemory) now = inl (now, refl)
ends_unread job old between out few r now = absurd now

module _ {job : FmrunJob} {classes : List ClassDef} {old between : Disk} (has : HasClasses job classes old between) where
  -- the classes are spelled and of the profile, and not too many
  pub spelled : AllByRecursion ClassIsSpelled classes
  spelled = given_spelled has.source

  pub accepted : AllByRecursion Profile classes
  accepted = given_accepted has.source

  pub few_classes : length classes ≤ MAX_CLASS_FILES
  few_classes = given_few has.source

  same_contents : between.contents ≡ old.contents
  same_contents = has.all.writes.contents

  -- what the reads of the class files returned
  returned_classes : between.reads ≡ old.reads ++ returned job.files classes
  returned_classes = has.calls ∙ ap (λ (calls : List Call). old.reads ++ calls) (given_returned old.contents job.files has.source.read classes job.made has.source.taken.taken has.source.classes_are)

  module _ (few : length (job_arguments job) ≤ MAX_ARGUMENTS) (new : Disk) (reads : ReadsInput job.input between new) where
    -- only the class files and the input were read
    pub both_within : StaysWithin job old new
    both_within = input_too job.files has.source.read job.input old between new (same_number old.contents job.files has.source.read has.source.taken.taken) has.calls has.all reads

    kept : new.contents ≡ old.contents
    kept = input_keeps job.input between new reads ∙ same_contents

    unwritten : new.writes ≡ old.writes
    unwritten = input_writes job.input between new reads ∙ has.all.writes.calls

    -- the read of the input, which failed, is behind theirs
    failed_last : (file : Bytes) → new.reads ≡ between.reads ++ record { name = file; bytes = None } ∷ [] → ReadsUpTo job.files has.source.read (record { name = file; bytes = None }) old new
    failed_last file = call_behind old.reads between.reads new.reads (returned job.files has.source.read) (record { name = file; bytes = None }) has.calls

    -- the input can't be had
    pub ends_without_input : (out : Output) (r : JobRefusal) → ComesOfInput {Y = Global} job.input between new (Err r) → ComesTo job old new out out (Err (fail.Refused r))
    ends_without_input out (job_refusal.TooLong file) now = (
      (
        few,
        inr (record {
          named = now.named_is;
          classes = has.source.read;
          taken = has.source.taken;
          long = let P : Contents → Type 0 = λ c. HoldsSuch c file.now (λ bytes. MAX_FILE_BYTES < length bytes) in subst P same_contents now.long;
          seen = now.seen;
          last = failed_last file.now now.reads;
          untouched = record { faultless = faultless_then old between new has.faultless now.faultless; kept = kept; unwritten = unwritten };
        }),
      ),
      refl,
    )
    ends_without_input out (job_refusal.Shared (refusal.Read file)) now = (
      (
        few,
        inr (record {
          named = now.named_is;
          classes = has.source.read;
          taken = has.source.taken;
          fault = read_fault_then file.now old between new has.faultless now.fault;
          kept = kept;
          unwritten = unwritten;
          last = failed_last file.now now.reads;
        }),
      ),
      refl,
    )
    ends_without_input out (job_refusal.Shared refusal.OutOfMemory) now =
        inl (record { faultless = faultless_then old between new has.faultless now; kept = kept; unwritten = unwritten }, refl)
    ends_without_input out r now = absurd now

    module _ {input : Bytes} (read : IsInputRead job.input input between new) where
      untouched : IsUntouched old new
      untouched = record { faultless = faultless_then old between new has.faultless read.faultless; kept = kept; unwritten = unwritten }

      -- what was read
      job_reads : ReadsJob job classes input old new
      job_reads = read.reads ∙ ap (λ (calls : List Call). and_input calls job.input input) returned_classes

      input_is : IsInputOf job.input old.contents input
      input_is = let P : Contents → Type 0 = λ c. IsInputOf job.input c input in subst P same_contents read.input_is

      has_input : HasInput job old.contents
      has_input = record { input = input; input_is = input_is }

      checked : AreProgram classes (modified job.main) → AreChecked (given_of job) old.contents classes
      checked are = record { linked = record { source = has.source; linked = are.linked }; typed = are.typed }

      -- the classes make no program of typed methods
      not_linked : (cause : Option Refusal) → IsSomeAnd cause (λ r. slice_get (refusals classes (modified job.main)) 0 ≡ Some r) → IsNotLinked (given_of job) cause old new
      not_linked None first = absurd first
      not_linked (Some r) first = record { refused = record { classes = classes; source = has.source; reads = files_first job classes input old new job_reads; first = first }; untouched = untouched }

      refused : (out : Output) (r : JobRefusal) → ComesOfProgram classes (modified job.main) (Err r) → ComesTo job old new out out (Err (fail.Refused r))
      refused out (job_refusal.Link link) now = ((few, (has_input, not_linked (refusal_of link) now)), refl)
      refused out (job_refusal.Check name) now = (
        (
          few,
          (
            has_input,
            record {
              classes = classes;
              linked = record { source = has.source; linked = now.0 };
              reads = files_first job classes input old new job_reads;
              untyped = now.1;
              untouched = untouched;
            },
          ),
        ),
        refl,
      )
      refused out (job_refusal.Shared refusal.OutOfMemory) now = inl (untouched, refl)
      refused out r now = absurd now

      ready : AreProgram classes (modified job.main) → IsReady job old.contents classes input
      ready are = record { checked = checked are; few = few; input_is = input_is }

      -- the classes are run, or not
      pub ends_run : (before after : Output) (o : Outcome) → ComesOfClasses classes (modified job.main) (budgets_of job) (job_arguments job) input before after o
          → ComesTo job old new before after o
      ends_run before after (Ok reported) (are, now) = record {
        classes = classes;
        input = input;
        ready = ready are;
        reads = job_reads;
        last = now.reported.last;
        runs = now.reported.runs;
        line_is = now.reported.line_is;
        status_is = now.reported.status_is;
        no_fault = now.no_fault;
        untouched = untouched;
      }
      ends_run before after (Err fail.Output) (are, now) = record {
        classes = classes;
        input = input;
        ready = ready are;
        reads = job_reads;
        fails = now;
        untouched = untouched;
      }
      ends_run before after (Err (fail.Refused (job_refusal.Shared refusal.OutOfMemory))) (inl same) = inl (untouched, same)
      ends_run before after (Err (fail.Refused (job_refusal.Shared refusal.OutOfMemory))) (inr (are, now)) = inr (record {
        classes = classes;
        input = input;
        ready = ready are;
        reads = job_reads;
        breaks = now;
        untouched = untouched;
      })
      ends_run before after (Err (fail.Refused r)) now =
          let P : Output → Type 0 = λ out. ComesTo job old new before out (Err (fail.Refused r)) in subst P (sym now.1) (refused before r now.0)

      -- with the arguments as a slice
      pub ends_run_as : {arguments : List (List ℕ)} → arguments ≡ job_arguments job → (before after : Output) (o : Outcome) → ComesOfClasses classes (modified job.main) (budgets_of job) arguments input before after o
          → ComesTo job old new before after o
      ends_run_as same before after o now =
          let P : List (List ℕ) → Type 0 = λ given. ComesOfClasses classes (modified job.main) (budgets_of job) given input before after o in
          ends_run before after o (subst P same now)
