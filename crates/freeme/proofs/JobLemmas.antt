-- What a job leaves after its files are read, and after its classes are written.
use Rattle.std.specs.declared.alloc.Global.{Global}
use Rattle.std.proofs.Common.{false, ◌≡◌, ◌≢◌, ◌≤◌, ℕ, ◌+◌, inl, inr, ⊎_elim, Bool, true, List, [], ◌∷◌, ◌++◌, length, map, take, Contains, Option, Some, None, IfSome, IsSomeAnd, Bor, Result, Ok, Err, String, string_bytes, refl, sym, ap, ◌∙◌, subst, arith}
use Rattle.std.specs.List.{AllByRecursion, slice_get}
use Rattle.std.proofs.lemmas.List.{take-map}
use Rattle.std.proofs.lemmas.List.Elements.{All-contains, All-from_recursion}
use Rattle.std.proofs.lemmas.Option.{slice_get-map}
use Rattle.std.specs.Option.{option_map}
use Rattle.fm_summ_shapes.specs.Analysed.{AreAnalysable, IsAccepted}
use Rattle.fm_base.proofs.ListFacts.{AllByRecursion-both, AllByRecursion-weaker}
use Rattle.fm_base.proofs.OptionFacts.{Some-from_some_and, IsSome-from_some}
use Rattle.fm_base.proofs.TestFacts.{same_or_other}
use Rattle.fm_files.specs.Files.{Bytes, Call, Contents, Disk}
use Rattle.fm_code.specs.ClassBytes.{class_bytes}
use Rattle.fm_code.specs.ConstantPool.{class_name_at}
use Rattle.fm_code.specs.Profile.{IsSupported, Profile}
use Rattle.fm_code.specs.Spells.{HasSpelling, Spells}
use Rattle.fm_code.specs.declared.class_file.ClassDef.{ClassDef}
use Rattle.fm_cli.specs.Outside.{HasNoFileFault, HasWriteFault}
use Rattle.fm_cli.specs.declared.command_refusal.CommandRefusal.TheVariants as refusal
use Rattle.fm_check_program.specs.Untyped.{AreTyped}
use Rattle.fm_link_refusals.specs.Refused.{refusal_of}
use Rattle.fm_law_chains.specs.FreesAll.{FreesAll}
use Rattle.fm_law_headline.specs.Headline.{DoesTheSame}
use Rattle.fm_law_headline.specs.Taken.{CheckedAreTaken}
use Rattle.fm_place.specs.Safe.{IsProgramOf}
use Rattle.fm_rapid.specs.Opening.{HasOpening}
use Rattle.fm_rewrite.proofs.FreeCallsLemmas.{first_call_is}
use Rattle.fm_rewrite.proofs.JudgedLemmas.{judged_analysable, judged_spelled}
use Rattle.fm_law_same_runs.specs.Programs.{AreTaken}
use Rattle.fm_rewrite.specs.Rewritten.{AreJudged}
use Rattle.fm_rewrite.specs.declared.counts.Count.{Count}
use Rattle.fm_rewrite.specs.declared.error.RewriteFail.{RewriteFail}
use Rattle.fm_rewrite.specs.declared.rewriting.Rewritten.{Rewritten}
use Rattle.fm_world.specs.Causes.{Refusal}
use Rattle.fm_world.specs.Linking.{refusals, IsLinked}
use Rattle.fm_world.specs.Programs.{Program, program_of}
use Rattle.freeme.proofs.AnalysedLemmas.{does_by, DoLaws, frees_by, is_program, opens}
use Rattle.freeme.proofs.WrittenLemmas.{one_count_each, written_accepted, written_apart, written_spelled}
use Rattle.freeme.proofs.TakenAgain.{again_taken, AgainLaws}
use Rattle.freeme.proofs.UnheldLemmas.{are_still}
use Rattle.fm_law_spelled.specs.Changed.{IsShort}
use Rattle.fm_law_spelled.specs.Names.{AreNew}
use Rattle.fm_load.specs.Given.{AreGiven, Given, IsFirstUntypedName, IsMadeAlone, IsUntouched, IsNotLinked, IsNotTyped, AreChecked, given_program, made_classes}
use Rattle.fm_load.specs.Changes.{RisesOnlyAt, ChangesOnlyAt}
use Rattle.fm_cli_requests.specs.FreemeRequest.{FreemeJob, job_of}
use Rattle.freeme.specs.Jobs.{given_of, IsAnalysed, IsJobProgram, main_name}
use Rattle.fm_load.specs.Taking.{AllTaken, ClassIsSpelled}
use Rattle.freeme.specs.Rewriting.{AreRewrittenBy, own_facts}
use Rattle.freeme.specs.TopCall.{AreFreed, AreTakenAgain, IsFirstCause, IsNotFreed, StaysWithin, IsDone, ComesTo, cause_name}
use Rattle.freeme.specs.Writing.{HasName, class_text, written_name, class_lines, IsClassFileIn, IsFileOf, AreWritten, AllWritten, class_writes}
use Rattle.fm_load.specs.Judging.{ComesOfProgram}
use Rattle.fm_load.specs.Reading.{ReadsAll}
use Rattle.fm_load.specs.Returned.{ReadsAs, ReadsFirst}
use Rattle.fm_load.specs.inner.Giving.{AreMadeOf}
use Rattle.freeme.specs.inner.Freeing.{ComesOfFreeing}
use Rattle.freeme.specs.inner.Parts.{AreJudgedAs, ComesOfJudging, ComesOfWriting}
use Rattle.freeme.specs.inner.Writing.{AreApart, KeepsReads, ComesOfClasses}
use Rattle.freeme.specs.declared.refusal.FreeRefusal.{FreeRefusal}
use Rattle.freeme.specs.declared.refusal.FreeRefusal.TheVariants as free_refusal
use Rattle.fm_load.specs.declared.refusal.JobRefusal.{JobRefusal}
use Rattle.fm_load.specs.declared.refusal.JobRefusal.TheVariants as job_refusal
use Rattle.fm_load.proofs.ChangesLemmas.{rises_of_kept, rises_then, changes_of_kept, changes_then, faultless_then, write_fault_then}
use Rattle.fm_cli_requests.specs.declared.freeme_request.WriteRequest.{WriteRequest}
use Rattle.fm_load.proofs.GivenLemmas.{given_accepted, given_returned, given_short, given_spelled}
use Rattle.fm_load.proofs.ReturnedLemmas.{reads_first}

-- ---- classes that are taken

-- and so they have names
pub have_names : (classes : List ClassDef) → AllByRecursion ClassIsSpelled classes → AllByRecursion HasName classes
have_names classes spelled = AllByRecursion-weaker ClassIsSpelled HasName named classes spelled where
  named : (c : ClassDef) → ClassIsSpelled c → HasName c
  named c spells = let found = Some-from_some_and (class_name_at c.pool.entries c.this_class) _ spells.this_class in IsSome-from_some (class_name_at c.pool.entries c.this_class) found.0 found.1

-- they are accepted
accepted_of : (classes : List ClassDef) → AllByRecursion ClassIsSpelled classes → AllByRecursion Profile classes → AllByRecursion IsAccepted classes
accepted_of classes spelled profiles =
    AllByRecursion-weaker (λ c. ClassIsSpelled c × Profile c) IsAccepted
    (λ c both. record { spelled = (class_bytes c, both.0); within = both.1.limits; supported = both.1.supported }) classes
    (AllByRecursion-both ClassIsSpelled Profile classes spelled profiles)

pub accepted_classes : {given : Given} {contents : Contents} {classes : List ClassDef} → AreGiven given contents classes → AllByRecursion IsAccepted classes
accepted_classes {given} {contents} {classes} are = accepted_of classes (given_spelled are) (given_accepted are)

-- the only bytes that spell a class are its own
are_spelled_so : (classes : List ClassDef) → AllByRecursion HasSpelling classes → AllByRecursion ClassIsSpelled classes
are_spelled_so classes = AllByRecursion-weaker HasSpelling ClassIsSpelled (λ c h. subst (λ (bytes : List ℕ). Spells bytes c) h.1.bytes_are h.1) classes

-- classes whose names as texts are new each are apart
apart_of : (classes : List ClassDef) → AreNew (map class_text classes) → AreApart classes
apart_of classes new place = at (slice_get classes place) refl where
  at : (o : Option ClassDef) → slice_get classes place ≡ o → IfSome o (λ c. ¬ Contains (map class_text (take place classes)) (class_text c))
  at None is = tt
  at (Some c) is =
      let there : slice_get (map class_text classes) place ≡ Some (class_text c) = slice_get-map class_text classes place ∙ ap (option_map class_text) is in
      let P : Option (List ℕ) → Type 0 = λ o. IfSome o (λ text. ¬ Contains (take place (map class_text classes)) text) in
      let Q : List (List ℕ) → Type 0 = λ texts. ¬ Contains texts (class_text c) in
      subst Q (take-map class_text place classes) (subst P there (new place))

-- ---- their program, which is judged

module _ (classes : List ClassDef) (profiles : AllByRecursion Profile classes) where
  module _ (spelled : AllByRecursion ClassIsSpelled classes) (main : List ℕ) {whole : Program} (linked : IsLinked classes main (Ok whole) × AreTyped (program_of classes main)) where
    -- the walk over what it reaches may begin
    pub may_be_analysed : AreAnalysable whole
    may_be_analysed = judged_analysable classes whole (record {
      main = main;
      program_is = is_program false classes main whole linked.0.1;
      accepted = accepted_of classes spelled profiles;
      linked = linked.0.0;
      typed = linked.1;
    })

    pub may_open : HasOpening whole.outline
    may_open =
        let may = subst AreAnalysable linked.0.1 may_be_analysed in
        subst (λ (p : Program). HasOpening p.outline) (sym linked.0.1) (opens classes main (accepted_of classes spelled profiles) linked.0.0 may)

    -- so it is judged as it is analysed
    pub judged_as : (rapid : Bool) (p : Program) → IsAnalysed rapid whole p → AreJudgedAs rapid classes main p
    judged_as rapid p is = record { linked = linked.0.0; typed = linked.1; analysed = subst (λ (q : Program). IsAnalysed rapid q p) linked.0.1 is }

-- ---- what is written of them

module _ {classes : List ClassDef} {p : Program} (judged : AreJudged classes p) (short : AllByRecursion IsShort classes) {chains : Bool} {made : Rewritten} (rewritten : AreRewrittenBy chains p classes made) where
  made_spelled : AllByRecursion ClassIsSpelled made.classes.items
  made_spelled = are_spelled_so made.classes.items (written_spelled classes p made judged rewritten short)

  -- by slices of them and of their counts
  module _ {written : List ClassDef} (lent : written ≡ made.classes.items) where
    pub lent_spelled : AllByRecursion ClassIsSpelled written
    lent_spelled = subst (AllByRecursion ClassIsSpelled) (sym lent) made_spelled

    pub lent_named : AllByRecursion HasName written
    lent_named = have_names written lent_spelled

    pub lent_apart : AreApart written
    lent_apart = subst AreApart (sym lent) (apart_of made.classes.items (written_apart classes p made judged rewritten))

    pub lent_counted : {counts : List Count} → counts ≡ made.counts.items → length counts ≡ length written
    lent_counted reported = ap length reported ∙ one_count_each classes made rewritten ∙ ap length (sym lent)

    -- all are written, and these are their lines
    pub freed_in : {counts : List Count} {folder : Bytes} {old new : Disk} (lines : String Global) → counts ≡ made.counts.items
        → string_bytes lines ≡ class_lines written counts → AllWritten folder written old new → ComesOfWriting chains p classes folder old new (Ok lines)
    freed_in {counts} {folder} {old} {new} lines reported is now = record {
      made = made;
      rewritten = rewritten;
      written = subst (λ (cs : List ClassDef). AllWritten folder cs old new) lent now;
      lines_are = is ∙ ap (class_lines written) reported ∙ ap (λ (cs : List ClassDef). class_lines cs made.counts.items) lent;
    }

    -- or not all of them
    pub cut_off : {folder : Bytes} {old new : Disk} (r : JobRefusal) → ComesOfClasses folder written old new (Err r)
        → ComesOfWriting chains p classes folder old new (Err (free_refusal.Job r))
    cut_off {folder} {old} {new} r now = inr (record {
      made = made;
      rewritten = rewritten;
      cause = r;
      refused = refl;
      comes = subst (λ (cs : List ClassDef). ComesOfClasses folder cs old new (Err r)) lent now;
    })

-- ---- after the files are read

module _ (job : FreemeJob) (old new : Disk) (classes : List ClassDef) (source : AreGiven (given_of job) old.contents classes) (faultless : HasNoFileFault old new)
    (calls : ReadsAs job.files classes old new) (all : ReadsAll job.files old new) where
  -- nothing else was done
  pub read_untouched : IsUntouched old new
  read_untouched = record { faultless = faultless; kept = all.writes.contents; unwritten = all.writes.calls }

  -- nothing else was read
  read_first : ReadsFirst job.files classes old new
  read_first = reads_first job.files classes old new calls

  -- they make no program
  pub is_not_linked : (cause : Option Refusal) → IsSomeAnd cause (λ r. slice_get (refusals classes (main_name job)) 0 ≡ Some r) → IsNotLinked (given_of job) cause old new
  is_not_linked None first = absurd first
  is_not_linked (Some r) first = record { refused = record { classes = classes; source = source; reads = read_first; first = first }; untouched = read_untouched }

  -- they make a program, of which a method isn't typed
  pub is_not_typed : (name : Bytes) → refusals classes (main_name job) ≡ [] → IsFirstUntypedName (given_program (given_of job) classes) name → IsNotTyped (given_of job) name old new
  is_not_typed name linked untyped = record {
    classes = classes;
    linked = record { source = source; linked = linked };
    reads = read_first;
    untyped = untyped;
    untouched = read_untouched;
  }

  -- there is a cause not to rewrite it
  pub is_not_freed : (p : Program) → IsJobProgram job classes p → (cause : RewriteFail) (name : Bytes) → AreChecked (given_of job) old.contents classes
      → IsFirstCause job.chains p classes cause → name ≡ cause_name (given_program (given_of job) classes).outline cause → IsNotFreed job cause name old new
  is_not_freed p analysed cause name checked refused is = record {
    classes = classes;
    checked = checked;
    reads = calls;
    program = p;
    analysed = analysed;
    refused = refused;
    name_is = is;
    untouched = read_untouched;
  }

pub reads_within : (job : FreemeJob) (old new : Disk) → ReadsAll job.files old new → StaysWithin job old new
reads_within job old new all = record {
  reads = all.reads;
  asked = all.asked;
  writes = rises_of_kept (IsClassFileIn job.folder) old.write_faults new.write_faults all.writes.faults;
  contents = changes_of_kept (IsClassFileIn job.folder) old.contents new.contents all.writes.contents;
}

-- ---- after the classes are written

-- the files of classes are class files of the folder
pub in_folder : (folder : Bytes) (classes : List ClassDef) (name : Bytes) → IsFileOf folder classes name → IsClassFileIn folder name
in_folder folder classes name among = All-contains (IsClassFileIn folder) (map (written_name folder) classes) name (All-from_recursion (IsClassFileIn folder) (map (written_name folder) classes) (each classes)) among where
  each : (cs : List ClassDef) → AllByRecursion (IsClassFileIn folder) (map (written_name folder) cs)
  each [] = tt
  each (c ∷ cs) = ((class_text c, refl), each cs)

changes_in_folder : (folder : Bytes) (classes : List ClassDef) (old new : Contents) → ChangesOnlyAt (IsFileOf folder classes) old new → ChangesOnlyAt (IsClassFileIn folder) old new
changes_in_folder folder classes old new changes =
    changes_then (IsFileOf folder classes) (λ _. ⊥) (IsClassFileIn folder) old new new (in_folder folder classes) (λ name none. absurd none) changes (changes_of_kept (λ _. ⊥) new new refl)

-- a write that failed was that of a class file of the folder
fault_in_folder : (folder : Bytes) (class : ClassDef) (name : Bytes) (old new : Disk) → name ≡ written_name folder class → HasWriteFault name old new → RisesOnlyAt (IsClassFileIn folder) old.write_faults new.write_faults
fault_in_folder folder class name old new is fault = record {
  never_fall = λ n. ⊎_elim
      (λ (same : n ≡ name). let P : Bytes → Type 0 = λ m. old.write_faults m ≤ new.write_faults m in subst P (sym same) fault.writes.never_falls)
      (λ (other : n ≢ name). let kept = fault.writes.others n other in omega arith)
      (same_or_other n name);
  others = λ n outside. fault.writes.others n (λ same. outside (class_text class, same ∙ is));
}

-- what the writes changed
pub record WritesIn (folder : Bytes) (old new : Disk) : Type 0 where
  pub faults : RisesOnlyAt (IsClassFileIn folder) old.write_faults new.write_faults
  pub contents : ChangesOnlyAt (IsClassFileIn folder) old.contents new.contents

pub writes_in : (folder : Bytes) (classes : List ClassDef) (old new : Disk) (r : Result Unit JobRefusal) → ComesOfClasses folder classes old new r → WritesIn folder old new
writes_in folder classes old new (Ok _) comes = record {
  faults = rises_of_kept (IsClassFileIn folder) old.write_faults new.write_faults comes.faultless.writes;
  contents = changes_in_folder folder classes old.contents new.contents comes.written.others;
}
writes_in folder classes old new (Err (job_refusal.Write name)) comes = record {
  faults = fault_in_folder folder comes.class (string_bytes name) old new comes.name_is comes.fault;
  contents = changes_in_folder folder (take (comes.count + 1) classes) old.contents new.contents comes.written.others;
}
writes_in folder classes old new (Err (job_refusal.Shared refusal.OutOfMemory)) comes = record {
  faults = rises_of_kept (IsClassFileIn folder) old.write_faults new.write_faults comes.faultless.writes;
  contents = changes_in_folder folder (take comes.count classes) old.contents new.contents comes.written.others;
}
writes_in folder classes old new (Err r) comes = absurd comes

module _ (job : FreemeJob) (old between new : Disk) (all : ReadsAll job.files old between) (keeps : KeepsReads between new) where
  same_contents : between.contents ≡ old.contents
  same_contents = all.writes.contents

  -- reads first, and then writes in the folder
  pub writes_within : WritesIn job.folder between new → StaysWithin job old new
  writes_within writes = record {
    reads = record {
      faults = rises_then (Contains job.files) (λ _. ⊥) (Contains job.files) old.read_faults between.read_faults new.read_faults (λ n there. there) (λ n none. absurd none) all.reads.faults (rises_of_kept (λ _. ⊥) between.read_faults new.read_faults keeps.faults);
      widest = rises_then (Contains job.files) (λ _. ⊥) (Contains job.files) old.widest_read between.widest_read new.widest_read (λ n there. there) (λ n none. absurd none) all.reads.widest (rises_of_kept (λ _. ⊥) between.widest_read new.widest_read keeps.widest);
      within = λ name. let first = all.reads.within name in let same = keeps.widest name in omega arith;
    };
    asked = (all.asked.0, keeps.calls ∙ all.asked.1, all.asked.2);
    writes = rises_then (λ _. ⊥) (IsClassFileIn job.folder) (IsClassFileIn job.folder) old.write_faults between.write_faults new.write_faults (λ n none. absurd none) (λ n there. there) (rises_of_kept (λ _. ⊥) old.write_faults between.write_faults all.writes.faults) writes.faults;
    contents = let P : Contents → Type 0 = λ c. ChangesOnlyAt (IsClassFileIn job.folder) c new.contents in subst P same_contents writes.contents;
  }

  -- writes behind none
  writes_behind : (more : List Call) → new.writes ≡ between.writes ++ more → new.writes ≡ old.writes ++ more
  writes_behind more now = now ∙ ap (λ (calls : List Call). calls ++ more) all.writes.calls

  module _ (made : Rewritten) (faultless : HasNoFileFault old between) (freed : AreFreed job old.contents made) (calls : ReadsAs job.files freed.classes old between) where
    written : (begun done : List ClassDef) → AreWritten job.folder done begun between.contents new.contents → AreWritten job.folder done begun old.contents new.contents
    written begun done = let P : Contents → Type 0 = λ c. AreWritten job.folder done begun c new.contents in subst P same_contents

    -- all are written
    pub is_done : (lines : List ℕ) → lines ≡ class_lines made.classes.items made.counts.items → AllWritten job.folder made.classes.items between new → IsDone job lines old new
    is_done lines is now = record {
      made = made;
      freed = freed;
      reads = keeps.calls ∙ calls;
      written = record {
        written = written made.classes.items made.classes.items now.written;
        faultless = faultless_then old between new faultless now.faultless;
        writes = writes_behind (class_writes job.folder made.classes.items) now.writes;
      };
      unheld = are_still freed.classes made job.folder job.files old.contents new.contents freed.checked.linked.source.read (made_classes job.made)
          freed.checked.linked.source.taken.taken freed.checked.linked.source.classes_are freed.rewritten
          (written made.classes.items made.classes.items now.written).hold;
      lines_are = is;
    }

    -- a write didn't come off
    pub write_ended : (r : JobRefusal) → ComesOfClasses job.folder made.classes.items between new (Err r) → ComesTo job old new (Err (free_refusal.Job r))
    write_ended (job_refusal.Write name) now = record {
      made = made;
      freed = freed;
      reads = keeps.calls ∙ calls;
      fails = record {
        count = now.count;
        class = now.class;
        next = now.next;
        name_is = now.name_is;
        written = written (take (now.count + 1) made.classes.items) (take now.count made.classes.items) now.written;
        fault = write_fault_then (string_bytes name) old between new faultless now.fault;
        writes = writes_behind (class_writes job.folder (take now.count made.classes.items) ++ record { name = string_bytes name; bytes = None } ∷ []) now.writes;
      };
    }
    write_ended (job_refusal.Shared refusal.OutOfMemory) now = inr (record {
      made = made;
      freed = freed;
      reads = keeps.calls ∙ calls;
      written = record {
        count = now.count;
        some_left = now.some_left;
        written = written (take now.count made.classes.items) (take now.count made.classes.items) now.written;
        faultless = faultless_then old between new faultless now.faultless;
        writes = writes_behind (class_writes job.folder (take now.count made.classes.items)) now.writes;
      };
    })
    write_ended r now = absurd now

-- ---- a request whose files are read, by their names and their classes as slices

-- the files of the request are these, and these classes were given by them
pub record Reads (request : WriteRequest) (names : List (Bor Bytes)) (classes : List ClassDef) (old between : Disk) : Type 0 where
  pub files_are : map (λ n. n.now) names ≡ (job_of request).files
  pub source : AreGiven (given_of (job_of request)) old.contents classes
  pub faultless : HasNoFileFault old between
  pub calls : ReadsAs (job_of request).files classes old between
  pub all : ReadsAll (job_of request).files old between

pub reads_of : {names : List (Bor Bytes)} {classes items : List ClassDef} {old between : Disk} (request : WriteRequest) → IsMadeAlone (given_of (job_of request))
    → names ≡ request.files.items → classes ≡ items → ReadsAll (map (λ n. n.now) names) old between → AreMadeOf (map (λ n. n.now) names) request.made items old between
    → Reads request names classes old between
reads_of {names} {classes} {items} {old} {between} request alone same lent all made =
    let files : map (λ n. n.now) names ≡ (job_of request).files = ap (map (λ n. n.now)) same in
    let P : List Bytes → Type 0 = λ fs. AllTaken old.contents fs made.read in
    let Q : List Bytes → Type 0 = λ fs. ReadsAs fs made.read old between in
    let R : List Bytes → Type 0 = λ fs. ReadsAll fs old between in
    let taken = subst P files made.are_read.taken in
    record {
      files_are = files;
      source = record { read = made.read; taken = taken; alone = alone; classes_are = lent ∙ made.classes_are };
      faultless = made.are_read.faultless;
      calls = subst Q files made.are_read.reads ∙ ap (λ (calls : List Call). old.reads ++ calls) (given_returned old.contents (job_of request).files made.read classes request.made taken.taken (lent ∙ made.classes_are));
      all = subst R files all;
    }

module _ {request : WriteRequest} {names : List (Bor Bytes)} {classes : List ClassDef} {old between : Disk} (reads : Reads request names classes old between) where
  pub spelled : AllByRecursion ClassIsSpelled classes
  spelled = given_spelled reads.source

  pub profiles : AllByRecursion Profile classes
  profiles = given_accepted reads.source

  pub short : AllByRecursion IsShort classes
  short = given_short reads.source

  pub ends_read : StaysWithin (job_of request) old between
  ends_read = reads_within (job_of request) old between reads.all

  -- the classes make no program, or one of which a method isn't typed, or memory can't be had for it
  pub ends_unjudged : (r : FreeRefusal) → ComesOfJudging request.rapid classes (main_name (job_of request)) (Err r) → ComesTo (job_of request) old between (Err r)
  ends_unjudged (free_refusal.Job (job_refusal.Link fail)) now =
      is_not_linked (job_of request) old between classes reads.source reads.faultless reads.calls reads.all (refusal_of fail) now
  ends_unjudged (free_refusal.Job (job_refusal.Check name)) now =
      is_not_typed (job_of request) old between classes reads.source reads.faultless reads.calls reads.all name now.0 now.1
  ends_unjudged (free_refusal.Job (job_refusal.Shared refusal.OutOfMemory)) now =
      inl (read_untouched (job_of request) old between classes reads.source reads.faultless reads.calls reads.all)
  ends_unjudged r now = absurd now

  -- they make a program whose methods are typed
  module _ {p : Program} (so : AreJudgedAs request.rapid classes (main_name (job_of request)) p) where
    are_checked : AreChecked (given_of (job_of request)) old.contents classes
    are_checked = record { linked = record { source = reads.source; linked = so.linked }; typed = so.typed }

    -- it is that of judged class files
    abbrev of_given : IsProgramOf classes (main_name (job_of request)) p
    of_given = is_program request.rapid classes (main_name (job_of request)) p so.analysed

    abbrev pub judged : AreJudged classes p
    judged = record {
      main = main_name (job_of request);
      program_is = of_given;
      accepted = accepted_classes reads.source;
      linked = so.linked;
      typed = so.typed;
    }

    -- which isn't rewritten
    ends_not_freed : (r : FreeRefusal) → ComesOfFreeing request.chains p classes (Err r) → ComesTo (job_of request) old between (Err r)
    ends_not_freed (free_refusal.Rewrite cause name) now =
        is_not_freed (job_of request) old between classes reads.source reads.faultless reads.calls reads.all p so.analysed cause name are_checked now.0
        (now.1 ∙ ap (λ (q : Program). cause_name q.outline cause) of_given)
    ends_not_freed (free_refusal.Job (job_refusal.Shared refusal.OutOfMemory)) now =
        inl (read_untouched (job_of request) old between classes reads.source reads.faultless reads.calls reads.all)
    ends_not_freed r now = absurd now

    -- the classes that are rewritten, with what is reported of them
    module _ (made : Rewritten) (rewritten : AreRewrittenBy request.chains p classes made) where
      all_spelled : AllByRecursion ClassIsSpelled made.classes.items
      all_spelled = made_spelled judged short rewritten

      taken_again : AgainLaws → AreTakenAgain p (main_name (job_of request)) made (own_facts rewritten)
      taken_again again =
          again_taken request.chains classes (main_name (job_of request)) p of_given made (judged_spelled classes p judged) so.linked
          again rewritten.marks rewritten.full

      made_profiles : AllByRecursion Profile made.classes.items
      made_profiles = written_accepted classes p made judged rewritten profiles

      -- what is tested of the class files is all that the laws require
      are_taken : CheckedAreTaken → AreTaken classes (main_name (job_of request))
      are_taken taken =
          let no_call = sym (first_call_is classes (main_name (job_of request)) p of_given) ∙ rewritten.no_call in
          taken (given_of (job_of request)) old.contents classes are_checked no_call

      does_the_same : CheckedAreTaken → DoLaws
          → DoesTheSame p classes (main_name (job_of request)) made.classes.items rewritten.marks (own_facts rewritten)
      does_the_same taken laws =
          does_by request.chains request.rapid classes (main_name (job_of request)) p so.analysed laws (are_taken taken) made.classes.items rewritten.marks rewritten.full
          (AllByRecursion-weaker ClassIsSpelled HasSpelling (λ c spells. (class_bytes c, spells)) made.classes.items all_spelled)
          (AllByRecursion-weaker Profile IsSupported (λ c profile. profile.supported) made.classes.items made_profiles)

      frees_all : CheckedAreTaken → DoLaws → request.chains ≡ true
          → FreesAll p (program_of classes (main_name (job_of request))) (program_of made.classes.items (main_name (job_of request))) (own_facts rewritten)
          rewritten.marks
      frees_all taken laws =
          frees_by request.chains request.rapid classes (main_name (job_of request)) p so.analysed laws (are_taken taken) made.classes.items rewritten.marks rewritten.full

      abbrev freed : AgainLaws → CheckedAreTaken → DoLaws → AreFreed (job_of request) old.contents made
      freed again taken laws = record {
        classes = classes;
        checked = are_checked;
        program = p;
        analysed = so.analysed;
        rewritten = rewritten;
        spelled = all_spelled;
        profile = made_profiles;
        again = taken_again again;
        does = does_the_same taken laws;
        all = frees_all taken laws;
      }

    -- they are written, or they aren't
    module _ {new : Disk} (keeps : KeepsReads between new) where
      pub ends_within : (r : Result (String Global) FreeRefusal) → ComesOfWriting request.chains p classes request.folder.now between new r
          → StaysWithin (job_of request) old new
      ends_within (Ok lines) now =
          writes_within (job_of request) old between new reads.all keeps
          (writes_in request.folder.now now.made.classes.items between new (Ok tt) now.written)
      ends_within (Err r) (inl now) = subst (StaysWithin (job_of request) old) (sym now.1) ends_read
      ends_within (Err r) (inr now) =
          writes_within (job_of request) old between new reads.all keeps
          (writes_in request.folder.now now.made.classes.items between new (Err now.cause) now.comes)

      pub ends_written : AgainLaws → CheckedAreTaken → DoLaws → (r : Result (String Global) FreeRefusal)
          → ComesOfWriting request.chains p classes request.folder.now between new r → ComesTo (job_of request) old new r
      ends_written again taken laws (Ok lines) now =
          is_done (job_of request) old between new reads.all keeps now.made reads.faultless (freed now.made now.rewritten again taken laws) reads.calls (string_bytes lines)
          now.lines_are now.written
      ends_written again taken laws (Err r) (inl now) =
          subst (λ (disk : Disk). ComesTo (job_of request) old disk (Err r)) (sym now.1) (ends_not_freed r now.0)
      ends_written again taken laws (Err r) (inr now) =
          subst (λ (x : FreeRefusal). ComesTo (job_of request) old new (Err x)) (sym now.refused)
          (write_ended (job_of request) old between new reads.all keeps now.made reads.faultless (freed now.made now.rewritten again taken laws) reads.calls now.cause now.comes)
