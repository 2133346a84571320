-- What an audit leaves after its program is judged, and after what is audited is read.
use Rattle.std.specs.declared.alloc.Global.{Global}
use Rattle.std.proofs.Common.{◌≡◌, ◌≤◌, ◌<◌, ◌⊎◌, ℕ, inl, inr, List, length, map, Contains, Bor, None, Some, Result, Ok, Err, string_bytes, false, append-nil, refl, sym, ap, ◌∙◌, subst, arith}
use Rattle.std.specs.Prelude.{String}
use Rattle.std.specs.List.{AllByRecursion, flat_map}
use Rattle.std.proofs.lemmas.List.{length-map}
use Rattle.fm_audit.specs.Parts.{part_number}
use Rattle.fm_audit_classes.specs.Audited.{ComesOfAudit}
use Rattle.fm_audit_classes.specs.declared.error.AuditFail.{AuditFail}
use Rattle.fm_audit_classes.specs.declared.error.AuditFail.TheVariants as audit_fail
use Rattle.fm_base.specs.declared.ids.MethodId.{MethodId}
use Rattle.fm_base.specs.declared.limits.TheConstants.{MAX_CLASS_FILES}
use Rattle.fm_check_program.specs.Untyped.{AreTyped}
use Rattle.fm_cli.specs.declared.command_refusal.CommandRefusal.TheVariants as refusal
use Rattle.fm_cli_requests.specs.AuditRequest.{Audit, audit_of}
use Rattle.fm_cli_requests.specs.FreemeRequest.{FreemeJob}
use Rattle.fm_cli_requests.specs.declared.audit_request.AuditRequest.{AuditRequest}
use Rattle.fm_code.specs.declared.class_file.ClassDef.{ClassDef}
use Rattle.fm_code.specs.ClassBytes.{class_bytes}
use Rattle.fm_code.specs.Spells.{HasSpelling}
use Rattle.fm_code.specs.Profile.{IsWithinLimits, Profile}
use Rattle.fm_base.proofs.ListFacts.{AllByRecursion-weaker}
use Rattle.fm_files.specs.Files.{Bytes, Counts, Disk}
use Rattle.fm_law_headline.specs.Alike.{SafeClassesDoAlike}
use Rattle.fm_law_headline.specs.Taken.{CheckedAreTaken}
use Rattle.fm_law_reached.specs.Reached.{HasClosedSets}
use Rattle.fm_load.proofs.ChangesLemmas.{faultless_then, rises_then}
use Rattle.fm_load.proofs.GivenLemmas.{given_accepted, given_few, given_short, given_spelled}
use Rattle.fm_load.proofs.ReadLemmas.{same_number}
use Rattle.fm_load.specs.Changes.{RisesOnlyAt}
use Rattle.fm_load.specs.Given.{AreChecked, AreGiven, IsLong, IsRefusedFile, IsUnread, IsUntouched}
use Rattle.fm_load.specs.Judging.{ComesOfProgram}
use Rattle.fm_load.specs.Reading.{AreRead, ComesOfFiles, KeepsWrites, ReadsAll}
use Rattle.fm_load.specs.Taking.{ClassIsSpelled}
use Rattle.fm_load.specs.declared.refusal.JobRefusal.{JobRefusal}
use Rattle.fm_load.specs.declared.refusal.JobRefusal.TheVariants as job_refusal
use Rattle.fm_link_refusals.specs.Refused.{refusal_of}
use Rattle.fm_place.specs.Safe.{IsProgramOf}
use Rattle.fm_rewrite.specs.FreeCalls.{first_call}
use Rattle.fm_rewrite.specs.Rewritten.{AreJudged}
use Rattle.fm_rewrite.specs.declared.error.RewriteFail.{RewriteFail}
use Rattle.fm_world.specs.Causes.{declared_name, method_text}
use Rattle.fm_world.specs.Linking.{IsLinked}
use Rattle.fm_world.specs.Members.{methods_of}
use Rattle.fm_world.specs.Programs.{Program, program_of}
use Rattle.freeme.proofs.JobLemmas.{accepted_classes, have_names, in_folder, is_not_linked, is_not_typed, read_untouched}
use Rattle.freeme.proofs.MeaningLemmas.{read_spelled}
use Rattle.freeme.specs.Audits.{AreAudited, AuditsTo, IsJudged, OnlyReads, audited_files, given_in, named, safe_line}
use Rattle.freeme.specs.Writing.{HasName, IsClassFileIn, written_name}
use Rattle.freeme.specs.declared.auditing.AuditedProgram.{AuditedProgram}
use Rattle.freeme.specs.declared.refusal.FreeRefusal.{FreeRefusal}
use Rattle.freeme.specs.declared.refusal.FreeRefusal.TheVariants as free_refusal
use Rattle.freeme.specs.inner.Auditing.{FindsAs, IsAuditable, IsCallRefused, IsJudgedSo, IsRefusalOf, IsThereIn, JudgesTo, names_in}

-- ---- reads, and nothing else

rises_more : {P Q : Bytes → Type 0} {old new : Counts} → ((n : Bytes) → P n → Q n) → RisesOnlyAt P old new → RisesOnlyAt Q old new
rises_more more rises = record { never_fall = rises.never_fall; others = λ name none. rises.others name (λ p. none (more name p)) }

keeps_then : {old between new : Disk} → KeepsWrites old between → KeepsWrites between new → KeepsWrites old new
keeps_then first second = record {
  contents = second.contents ∙ first.contents;
  faults = λ name. second.faults name ∙ first.faults name;
  calls = second.calls ∙ first.calls;
}

untouched_then : {old between new : Disk} → IsUntouched old between → IsUntouched between new → IsUntouched old new
untouched_then {old} {between} {new} first second = record {
  faultless = faultless_then old between new first.faultless second.faultless;
  kept = second.kept ∙ first.kept;
  unwritten = second.unwritten ∙ first.unwritten;
}

-- the class files of the program are read
pub only_reads : (audit : Audit) (old new : Disk) → ReadsAll audit.files old new → OnlyReads audit old new
only_reads audit old new all = record {
  reads = record {
    faults = rises_more (λ name there. inl there) all.reads.faults;
    widest = rises_more (λ name there. inl there) all.reads.widest;
    within = all.reads.within;
  };
  writes = all.writes;
}

-- and then those that are audited
pub both_read : (audit : Audit) (classes : List ClassDef) (names : List Bytes) (old between new : Disk) → names ≡ audited_files audit classes
    → OnlyReads audit old between → ReadsAll names between new → OnlyReads audit old new
both_read audit classes names old between new same first second =
    let Such : Bytes → Type 0 = λ name. Contains audit.files name ⊎ IsClassFileIn audit.folder name in
    let own : (n : Bytes) → Such n → Such n = λ n such. such in
    let named : (n : Bytes) → Contains names n → Such n = λ n among. inr (in_folder audit.folder classes n (subst (λ (ns : List Bytes). Contains ns n) same among)) in
    record {
      reads = record {
        faults = rises_then Such (Contains names) Such old.read_faults between.read_faults new.read_faults own named first.reads.faults second.reads.faults;
        widest = rises_then Such (Contains names) Such old.widest_read between.widest_read new.widest_read own named first.reads.widest second.reads.widest;
        within = λ name. let one = first.reads.within name in let two = second.reads.within name in omega arith;
      };
      writes = keeps_then first.writes second.writes;
    }

-- ---- the program

-- the job that would write its classes
abbrev job_for : Audit → FreemeJob
job_for audit = record { folder = audit.folder; main = audit.main; files = audit.files; made = None; rapid = false; chains = false }

-- what became of its files by their names and their classes as slices
pub record ReadsAudit (request : AuditRequest) (classes : List ClassDef) (old between : Disk) : Type 0 where
  pub read : AreRead (audit_of request).files classes old between
  pub all : ReadsAll (audit_of request).files old between

pub audit_reads : {names : List (Bor Bytes)} {classes items : List ClassDef} {old between : Disk} (request : AuditRequest) → names ≡ request.files.items → classes ≡ items
    → ReadsAll (map (λ n. n.now) names) old between → AreRead (map (λ n. n.now) names) items old between → ReadsAudit request classes old between
audit_reads {names} {classes} {items} {old} {between} request same lent all read =
    let files : map (λ n. n.now) names ≡ (audit_of request).files = ap (map (λ n. n.now)) same in
    let P : List Bytes → Type 0 = λ fs. AreRead fs items old between in
    let Q : List ClassDef → Type 0 = λ cs. AreRead (audit_of request).files cs old between in
    let R : List Bytes → Type 0 = λ fs. ReadsAll fs old between in
    record { read = subst Q (sym lent) (subst P files read); all = subst R files all }

-- a file of it isn't taken
pub first_refused : (audit : Audit) (old new : Disk) (r : JobRefusal) → ComesOfFiles {Y = Global} audit.files old new (Err r) → AuditsTo audit old new (Err (free_refusal.Job r))
first_refused audit old new (job_refusal.TooLong file) comes = inl comes
first_refused audit old new (job_refusal.Class file r) comes = inl comes
first_refused audit old new (job_refusal.Shared (refusal.Read file)) comes = inl comes
first_refused audit old new (job_refusal.Shared refusal.OutOfMemory) comes = comes
first_refused audit old new r comes = absurd comes

-- the same by the names as a slice
pub audit_only_reads : {names : List (Bor Bytes)} {old new : Disk} (request : AuditRequest) → names ≡ request.files.items → ReadsAll (map (λ n. n.now) names) old new
    → OnlyReads (audit_of request) old new
audit_only_reads {names} {old} {new} request same all =
    let P : List Bytes → Type 0 = λ fs. ReadsAll fs old new in only_reads (audit_of request) old new (subst P (ap (map (λ n. n.now)) same) all)

pub audit_first_refused : {names : List (Bor Bytes)} (old new : Disk) (request : AuditRequest) → names ≡ request.files.items → (r : JobRefusal)
    → ComesOfFiles {Y = Global} (map (λ n. n.now) names) old new (Err r) → AuditsTo (audit_of request) old new (Err (free_refusal.Job r))
audit_first_refused {names} old new request same r comes =
    let P : List Bytes → Type 0 = λ fs. ComesOfFiles {Y = Global} fs old new (Err r) in
    first_refused (audit_of request) old new r (subst P (ap (map (λ n. n.now)) same) comes)

module _ {request : AuditRequest} {classes : List ClassDef} {old between : Disk} (reads : ReadsAudit request classes old between) where
  abbrev audit : Audit
  audit = audit_of request

  source : AreGiven (given_in audit) old.contents classes
  source = record { read = classes; taken = reads.read.taken; alone = tt; classes_are = sym (append-nil classes) }

  pub audit_spelled : AllByRecursion ClassIsSpelled classes
  audit_spelled = given_spelled source

  pub audit_named : AllByRecursion HasName classes
  audit_named = have_names classes audit_spelled

  pub audit_within : AllByRecursion IsWithinLimits classes
  audit_within = AllByRecursion-weaker Profile IsWithinLimits (λ c profile. profile.limits) classes (given_accepted source)

  pub audit_ends_read : OnlyReads audit old between
  audit_ends_read = only_reads audit old between reads.all

  untouched : IsUntouched old between
  untouched = read_untouched (job_for audit) old between classes source reads.read.faultless reads.read.reads reads.all

  -- its classes make no program, or one of which a method isn't typed
  pub audit_ends_refused : (r : JobRefusal) → ComesOfProgram classes (given_in audit).main (Err r) → AuditsTo audit old between (Err (free_refusal.Job r))
  audit_ends_refused (job_refusal.Link fail) now = is_not_linked (job_for audit) old between classes source reads.read.faultless reads.read.reads reads.all (refusal_of fail) now
  audit_ends_refused (job_refusal.Check name) now = is_not_typed (job_for audit) old between classes source reads.read.faultless reads.read.reads reads.all name now.0 now.1
  audit_ends_refused (job_refusal.Shared refusal.OutOfMemory) now = untouched
  audit_ends_refused r now = absurd now

  pub audit_ends_out_of_memory : AuditsTo audit old between (Err (free_refusal.Job (job_refusal.Shared refusal.OutOfMemory)))
  audit_ends_out_of_memory = untouched

  -- they make one whose methods are typed
  module _ {program : Program} (made : IsLinked classes (given_in audit).main (Ok program) × AreTyped (program_of classes (given_in audit).main)) where
    audit_checked : AreChecked (given_in audit) old.contents classes
    audit_checked = record { linked = record { source = source; linked = made.0.0 }; typed = made.1 }

    pub audit_judged : AreJudged classes program
    audit_judged = record {
      main = (given_in audit).main;
      program_is = subst (IsProgramOf classes (given_in audit).main) (sym made.0.1) refl;
      accepted = accepted_classes source;
      linked = made.0.0;
      typed = made.1;
    }

    -- which calls FreeMe, or memory for the name can't be had
    pub audit_ends_calling : (method : MethodId) (offset : ℕ) → first_call program ≡ Some (method.0, offset) → (r : FreeRefusal) → IsCallRefused program.outline method offset r
        → AuditsTo audit old between (Err r)
    audit_ends_calling method offset first (free_refusal.Rewrite cause name) now =
        let P : Program → Type 0 = λ p. first_call p ≡ Some (method.0, offset) in
        let Q : Program → Type 0 = λ p. name ≡ method_text (declared_name p.outline.classes method.0) in
        let R : RewriteFail → Type 0 = λ c. AuditsTo audit old between (Err (free_refusal.Rewrite c name)) in
        subst R (sym now.0) (record {
          classes = classes;
          checked = audit_checked;
          reads = reads.read.reads;
          first = subst P made.0.1 first;
          name_is = subst Q made.0.1 now.1;
          untouched = untouched;
        })
    audit_ends_calling method offset first (free_refusal.Job (job_refusal.Shared refusal.OutOfMemory)) now = untouched
    audit_ends_calling method offset first r now = absurd now

    -- which doesn't
    pub audit_judges : (audited : AuditedProgram) → audited.classes.items ≡ classes → audited.program ≡ program → first_call program ≡ None
        → names_in audited ≡ map (written_name audit.folder) classes → JudgesTo audit old between (Ok audited)
    audit_judges audited same own none named =
        let P : List ClassDef → Type 0 = λ cs. IsJudged audit cs old between in
        let Q : Program → Type 0 = λ p. first_call p ≡ None in
        record {
          judged = subst P (sym same) (record {
            checked = audit_checked;
            no_call = subst Q made.0.1 none;
            reads = reads.read.reads;
            untouched = untouched;
          });
          program_is = own ∙ made.0.1 ∙ ap (λ (cs : List ClassDef). program_of cs (given_in audit).main) (sym same);
          names_are = named ∙ ap (audited_files audit) (sym same);
        }

-- ---- what is audited

module _ {audit : Audit} {audited : AuditedProgram} {old between : Disk} (so : IsJudgedSo audit audited old between) where
  abbrev items : List ClassDef
  items = audited.classes.items

  abbrev its_main : List ℕ
  its_main = (given_in audit).main

  pub is_auditable : IsAuditable audited
  is_auditable =
      let source = so.judged.checked.linked.source in
      let number : length audited.names.items ≡ length items =
      sym (length-map audited.names.items string_bytes) ∙ ap length so.names_are ∙ length-map items (written_name audit.folder) in
      let P : Program → Type 0 = λ p. first_call p ≡ None in
      record {
        main = its_main;
        program_is = so.program_is;
        judged = record {
          main = its_main;
          program_is = subst (IsProgramOf items its_main) (sym so.program_is) refl;
          accepted = accepted_classes source;
          linked = so.judged.checked.linked.linked;
          typed = so.judged.checked.typed;
        };
        short = given_short source;
        have_names = have_names items (given_spelled source);
        no_call = subst P (sym so.program_is) so.judged.no_call;
        few = let few = given_few source in omega (arith, number, few);
        one_each = number;
      }

  module _ (new : Disk) where
    all_audited : (written : List ClassDef) → AreRead (names_in audited) written between new → AreAudited audit items written old new
    all_audited written read =
        let P : List Bytes → Type 0 = λ names. AreRead names written between new in
        record { between = between; judged = so.judged; read = subst P so.names_are read }

    -- so an audit comes out as what is found
    pub found : CheckedAreTaken → SafeClassesDoAlike → (o : Result (String Global) FreeRefusal) → FindsAs audited its_main between new o → AuditsTo audit old new o
    found taken alike (Ok lines) finds =
        let sets : HasClosedSets (program_of items its_main) = unfold program_of in tt in
        record {
          classes = items;
          written = finds.written;
          audited = all_audited finds.written finds.read;
          safely = finds.safely;
          alike = alike items its_main (taken (given_in audit) old.contents items so.judged.checked so.judged.no_call) (program_of items its_main) refl sets finds.written finds.safely.marks finds.safely.safe;
          lines_are = finds.lines_are;
        }
    found taken alike (Err (free_refusal.NotSafe name part)) finds = record {
      classes = items;
      written = finds.written;
      audited = all_audited finds.written finds.read;
      class = finds.class;
      method = finds.method;
      part = finds.part;
      fails = finds.fails;
      name_is = finds.name_is;
      number_is = finds.number_is;
    }
    found taken alike (Err (free_refusal.Rewrite cause name)) finds = absurd finds
    found taken alike (Err (free_refusal.Job (job_refusal.TooLong file))) finds =
        let P : List Bytes → Type 0 = λ names. IsLong names file.now between new in
        inr (record { classes = items; between = between; judged = so.judged; becomes = subst P so.names_are finds })
    found taken alike (Err (free_refusal.Job (job_refusal.Class file r))) finds =
        let P : List Bytes → Type 0 = λ names. IsRefusedFile names file.now r between new in
        inr (record { classes = items; between = between; judged = so.judged; becomes = subst P so.names_are finds })
    found taken alike (Err (free_refusal.Job (job_refusal.Shared (refusal.Read file)))) finds =
        let P : List Bytes → Type 0 = λ names. IsUnread names file.now between new in
        inr (record { classes = items; between = between; judged = so.judged; becomes = subst P so.names_are finds })
    found taken alike (Err (free_refusal.Job (job_refusal.Shared refusal.OutOfMemory))) finds = untouched_then so.judged.untouched finds
    found taken alike (Err (free_refusal.Job r)) finds = absurd finds

-- ---- what is found

-- a file that is audited isn't taken
pub then_refused : (audited : AuditedProgram) (main : List ℕ) (old new : Disk) (r : JobRefusal) → ComesOfFiles {Y = Global} (names_in audited) old new (Err r)
    → FindsAs audited main old new (Err (free_refusal.Job r))
then_refused audited main old new (job_refusal.TooLong file) comes = comes
then_refused audited main old new (job_refusal.Class file r) comes = comes
then_refused audited main old new (job_refusal.Shared (refusal.Read file)) comes = comes
then_refused audited main old new (job_refusal.Shared refusal.OutOfMemory) comes = comes
then_refused audited main old new r comes = absurd comes

-- what a cause names is there, where the program doesn't call FreeMe
pub audit_there : (given written : List ClassDef) (main : List ℕ) (p : Program) (cause : AuditFail) → p ≡ program_of given main → first_call p ≡ None
    → ComesOfAudit given main written (Err cause) → IsThereIn p.outline cause
audit_there given written main p (audit_fail.CallsFree method offset) own none comes =
    let P : Program → Type 0 = λ q. first_call q ≡ None in
    let no = subst P own none in
    absurd (let both : None ≡ Some (method.0, offset) = sym no ∙ comes in cc)
audit_there given written main p (audit_fail.NotSafe class None part) own none comes =
    let P : Program → Type 0 = λ q. class.0 < length q.outline.classes in subst P (sym own) comes.class_inside
audit_there given written main p (audit_fail.NotSafe class (Some method) part) own none comes =
    let P : Program → Type 0 = λ q. method.0 < length (methods_of q.outline.classes) in subst P (sym own) comes.method_inside
audit_there given written main p audit_fail.NoMemory own none comes = tt

-- what an audit of classes that are lent comes to holds of these classes
pub audit_lent : {classes items : List ClassDef} {p : Program} (written : List ClassDef) (r : Result Unit AuditFail) → classes ≡ items
    → ((main : List ℕ) → p ≡ program_of classes main → ComesOfAudit classes main written r) → (main : List ℕ) → p ≡ program_of items main → ComesOfAudit items main written r
audit_lent {classes} {items} {p} written r lent comes =
    let P : List ClassDef → Type 0 = λ cs. (main : List ℕ) → p ≡ program_of cs main → ComesOfAudit cs main written r in subst P lent comes

-- ---- the files that are audited, by their names as a slice

module _ {audited : AuditedProgram} (auditable : IsAuditable audited) (names : List (Bor Bytes)) (same : map (λ n. n.now) names ≡ names_in audited) where
  number : length names ≡ length audited.classes.items
  number =
      sym (length-map names (λ n. n.now)) ∙ ap length same ∙ length-map audited.names.items string_bytes ∙ auditable.one_each

  pub names_few : length names ≤ MAX_CLASS_FILES
  names_few = let few = auditable.few in let one = auditable.one_each in let own = number in omega arith

  module _ (old new : Disk) where
    pub names_read : ReadsAll (map (λ n. n.now) names) old new → ReadsAll (names_in audited) old new
    names_read all = let P : List Bytes → Type 0 = λ fs. ReadsAll fs old new in subst P same all

    pub names_refused : (main : List ℕ) (r : JobRefusal) → ComesOfFiles {Y = Global} (map (λ n. n.now) names) old new (Err r) → FindsAs audited main old new (Err (free_refusal.Job r))
    names_refused main r comes =
        let P : List Bytes → Type 0 = λ fs. ComesOfFiles {Y = Global} fs old new (Err r) in
        then_refused audited main old new r (subst P same comes)

    module _ {written items : List ClassDef} (lent : written ≡ items) (read : AreRead (map (λ n. n.now) names) items old new) where
      names_are_read : AreRead (names_in audited) written old new
      names_are_read =
          let P : List Bytes → Type 0 = λ fs. AreRead fs items old new in
          let Q : List ClassDef → Type 0 = λ cs. AreRead (names_in audited) cs old new in
          subst Q (sym lent) (subst P same read)

      pub written_spelled_so : AllByRecursion HasSpelling written
      written_spelled_so =
          AllByRecursion-weaker ClassIsSpelled HasSpelling (λ c spells. (class_bytes c, spells)) written
          (read_spelled (names_in audited) written old new names_are_read)

      pub written_number : length written ≡ length audited.classes.items
      written_number =
          same_number old.contents (names_in audited) written names_are_read.taken.taken ∙ length-map audited.names.items string_bytes ∙ auditable.one_each

      -- memory can't be had then
      pub finds_memory : ReadsAll (map (λ n. n.now) names) old new → IsUntouched old new
      finds_memory all = record { faultless = names_are_read.faultless; kept = all.writes.contents; unwritten = all.writes.calls }

      -- all are safe
      pub finds_safe : (main : List ℕ) (lines : String Global) → ComesOfAudit audited.classes.items main written (Ok tt)
          → string_bytes lines ≡ flat_map safe_line audited.classes.items → FindsAs audited main old new (Ok lines)
      finds_safe main lines safely are = record { written = written; read = names_are_read; safely = safely; lines_are = are }

      -- one isn't
      pub finds_not_safe : (main : List ℕ) → audited.program ≡ program_of audited.classes.items main → (cause : AuditFail) → ComesOfAudit audited.classes.items main written (Err cause)
          → (r : FreeRefusal) → IsRefusalOf audited.program.outline cause r → FindsAs audited main old new (Err r)
      finds_not_safe main own (audit_fail.CallsFree method offset) comes r is =
          let P : Program → Type 0 = λ p. first_call p ≡ None in
          let no = subst P own auditable.no_call in
          absurd (let both : None ≡ Some (method.0, offset) = sym no ∙ comes in cc)
      finds_not_safe main own (audit_fail.NotSafe class method part) comes r is =
          let P : Program → Type 0 = λ p. r ≡ free_refusal.NotSafe (named p.outline class method) (part_number part) in
          let R : FreeRefusal → Type 0 = λ x. FindsAs audited main old new (Err x) in
          subst R (sym (subst P own is)) (record {
            written = written;
            read = names_are_read;
            class = class;
            method = method;
            part = part;
            fails = comes;
            name_is = refl;
            number_is = refl;
          })
      finds_not_safe main own audit_fail.NoMemory comes r is = absurd is
