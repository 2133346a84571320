-- An audit finds what is audited safe or not where nothing is against it and nothing fails: each other outcome says what can't be then.
use Rattle.std.proofs.Common.{◌≡◌, ◌≢◌, ◌≤◌, ℕ, inl, inr, List, [], ◌∷◌, Contains, length, None, Option, Some, IsSome, Ok, Err, refl, sym, ◌∙◌, subst, arith}
use Rattle.fm_base.proofs.OptionFacts.{Some-from_is_some, Some-from_some_and}
use Rattle.fm_check_program.specs.Untyped.{AreTyped}
use Rattle.fm_cli.specs.Line.{Tells}
use Rattle.fm_cli.specs.declared.command_refusal.CommandRefusal.TheVariants as refusal
use Rattle.fm_cli.specs.declared.status.TheConstants.{DONE, LIMIT, OUT_OF_MEMORY}
use Rattle.fm_cli_requests.proofs.FreemeRequestLemmas.{audits_one}
use Rattle.fm_cli_requests.specs.AuditRequest.{Audit}
use Rattle.fm_code.specs.declared.class_file.ClassDef.{ClassDef}
use Rattle.fm_files.specs.Files.{Bytes, Contents, Disk}
use Rattle.fm_link_refusals.specs.Refused.{refusal_of}
use Rattle.fm_load.proofs.KnownLemmas.{not_empty, not_typed}
use Rattle.fm_load.proofs.RefusalLemmas.{class_status}
use Rattle.fm_load.proofs.ReturnedLemmas.{known_seen}
use Rattle.fm_load.proofs.VerdictLemmas.{Ends, EndsOnce, Stops, one_verdict}
use Rattle.fm_load.specs.ClassRefusal.{class_refusal_status}
use Rattle.fm_load.specs.Given.{AreGiven, AreNotLinked, Given, IsLong, IsRefusedFile, IsUnread, given_program}
use Rattle.fm_load.specs.ProgramCalls.{ProgramCall}
use Rattle.fm_load.specs.Taking.{AllTaken}
use Rattle.fm_load.specs.declared.class_refusal.ClassRefusal.{ClassRefusal}
use Rattle.fm_load.specs.declared.refusal.JobRefusal.TheVariants as job_refusal
use Rattle.fm_rewrite.specs.FreeCalls.{first_call}
use Rattle.fm_rewrite.specs.declared.error.RewriteFail.TheVariants as fail
use Rattle.fm_world.specs.Linking.{refusals}
use Rattle.freeme.proofs.CompleteLemmas.{element, one_sort}
use Rattle.freeme.proofs.JobLemmas.{in_folder}
use Rattle.freeme.proofs.ReportedLemmas.{outcome_line, outcome_status}
use Rattle.freeme.specs.Audits.{AuditsTo, OfAudited, audited_files, given_in}
use Rattle.freeme.specs.Complete.{AuditsComplete, CanBeAudited, NoAuditFails}
use Rattle.freeme.specs.TopCall.{IsAuditCall, Outcome, Reports}
use Rattle.freeme.specs.declared.refusal.FreeRefusal.TheVariants as free_refusal
use Rattle.freeme.specs.declared.status.TheConstants.{NOT_SAFE}

-- ---- files that are taken

-- so none of them stops a call
no_stop : (held : Bytes → Option Bytes) (files : List Bytes) (classes : List ClassDef) (status : ℕ) → AllTaken (Some held) files classes → status ≢ DONE → ¬ Stops held files status
no_stop held files classes status taken other stops =
    let Passed : Ends = λ cs s. s ≡ DONE in
    let once : EndsOnce Passed = λ cs s t a b. a ∙ sym b in
    other (one_verdict Passed once held files status DONE (inr (inl stops)) (inr (inr (record { classes = classes; taken = taken; last = refl }))))

-- the files as they are given
abbrev only_files : List Bytes → Given
only_files files = record { files = files; made = None; main = [] }

module _ (files : List Bytes) (classes : List ClassDef) (old new : Disk) (known : IsSome old.contents) (taken : AllTaken old.contents files classes) where
  not_long : (file : Bytes) → ¬ IsLong files file old new
  not_long file long =
      let held = Some-from_is_some old.contents known in
      let P : Contents → Type 0 = λ c. AllTaken c files classes in
      no_stop held.0 files classes LIMIT (subst P held.1 taken) (λ e. omega arith) ((known_seen (only_files files) held.0 old new held.1).long file long)

  not_refused : (file : Bytes) (r : ClassRefusal) → ¬ IsRefusedFile files file r old new
  not_refused file r refused =
      let held = Some-from_is_some old.contents known in
      let P : Contents → Type 0 = λ c. AllTaken c files classes in
      let c = class_status r in
      let low = c.low in
      no_stop held.0 files classes (class_refusal_status r) (subst P held.1 taken) (λ e. omega arith) ((known_seen (only_files files) held.0 old new held.1).refused file r refused)

not_unread : (files : List Bytes) (file : Bytes) (old new : Disk) → ((f : Bytes) → Contains files f → new.read_faults f ≤ old.read_faults f) → ¬ IsUnread files file old new
not_unread files file old new none unread =
    let rose = unread.fault.rose in
    let kept = none file (element files (length unread.before) file unread.reaches.there) in
    omega arith

-- ---- an audit that nothing is against

module _ (call : ProgramCall) (audit : Audit) (classes others : List ClassDef) (can : CanBeAudited audit call.old.contents classes others) (none : NoAuditFails audit call) where
  abbrev main : List ℕ
  main = (given_in audit).main

  source : AreGiven (given_in audit) call.old.contents classes
  source = can.checked.linked.source

  -- no other classes are given that are of another sort
  sort : (P : List ClassDef → Type 0) (these : List ClassDef) → AreGiven (given_in audit) call.old.contents these → P classes → ¬ ¬ P these
  sort P these are holds fails = one_sort P (given_in audit) call.old.contents can.known classes these source are holds fails

  -- the files of classes that are given are taken
  abbrev Taken : List ClassDef → Type 0
  Taken cs = (ds : List ClassDef) × AllTaken call.old.contents (audited_files audit cs) ds

  module _ (P : List Bytes → Disk → Disk → Type 0) (of : OfAudited audit P call.old call.new) where
    abbrev names : List Bytes
    names = audited_files audit of.classes

    same : of.between.contents ≡ call.old.contents
    same = of.judged.untouched.kept

    known_between : IsSome of.between.contents
    known_between = let Q : Contents → Type 0 = IsSome in subst Q (sym same) can.known

    -- what is taken there isn't so
    never_after : ((ds : List ClassDef) → AllTaken of.between.contents names ds → ⊥) → ⊥
    never_after bad =
        sort Taken of.classes of.judged.checked.linked.source (others, can.taken)
        (λ taken. let Q : Contents → Type 0 = λ c. AllTaken c names taken.0 in bad taken.0 (subst Q (sym same) taken.1))

  not_unread_after : (file : Bytes) → ¬ OfAudited audit (λ files. IsUnread files file) call.old call.new
  not_unread_after file of =
      let rose = of.becomes.fault.rose in
      let first = of.judged.untouched.faultless.reads file in
      let among = element (audited_files audit of.classes) (length of.becomes.before) file of.becomes.reaches.there in
      let kept = none.reads file (inr (in_folder audit.folder of.classes file among)) in
      omega arith

  abbrev Ends3 : ℕ → Type 0
  Ends3 status = Contains (DONE ∷ NOT_SAFE ∷ OUT_OF_MEMORY ∷ []) status

  ends_so : (o : Outcome) → AuditsTo audit call.old call.new o → Ends3 (outcome_status o)
  ends_so (Ok lines) comes = (0, omega arith, refl)
  ends_so (Err (free_refusal.NotSafe name part)) comes = (1, omega arith, refl)
  ends_so (Err (free_refusal.Rewrite (fail.CallsFree method offset) name)) comes =
      let P : List ClassDef → Type 0 = λ cs. first_call (given_program (given_in audit) cs) ≡ None in
      absurd (sort P comes.classes comes.checked.linked.source can.no_call (λ no. let both = sym no ∙ comes.first in cc))
  ends_so (Err (free_refusal.Rewrite (fail.PoolFull class indices) name)) comes = absurd comes
  ends_so (Err (free_refusal.Rewrite (fail.MethodTooLong method bytes) name)) comes = absurd comes
  ends_so (Err (free_refusal.Rewrite fail.NoMemory name)) comes = absurd comes
  ends_so (Err (free_refusal.Job (job_refusal.TooManyFiles count))) comes = absurd (let few = source.taken.few in let many = comes.many in omega arith)
  ends_so (Err (free_refusal.Job (job_refusal.TooManyArguments count))) comes = absurd comes
  ends_so (Err (free_refusal.Job (job_refusal.TooLong file))) (inl long) = absurd (not_long audit.files source.read call.old call.new can.known source.taken file.now long)
  ends_so (Err (free_refusal.Job (job_refusal.TooLong file))) (inr of) =
      absurd (never_after (λ files. IsLong files file.now) of
      (λ ds taken. not_long (audited_files audit of.classes) ds of.between call.new (known_between (λ files. IsLong files file.now) of) taken file.now of.becomes))
  ends_so (Err (free_refusal.Job (job_refusal.Class file r))) (inl refused) = absurd (not_refused audit.files source.read call.old call.new can.known source.taken file.now r refused)
  ends_so (Err (free_refusal.Job (job_refusal.Class file r))) (inr of) =
      absurd (never_after (λ files. IsRefusedFile files file.now r) of
      (λ ds taken. not_refused (audited_files audit of.classes) ds of.between call.new (known_between (λ files. IsRefusedFile files file.now r) of) taken file.now r of.becomes))
  ends_so (Err (free_refusal.Job (job_refusal.Shared (refusal.Read file)))) (inl unread) =
      absurd (not_unread audit.files file.now call.old call.new (λ f among. none.reads f (inl among)) unread)
  ends_so (Err (free_refusal.Job (job_refusal.Shared (refusal.Read file)))) (inr of) = absurd (not_unread_after file.now of)
  ends_so (Err (free_refusal.Job (job_refusal.Shared refusal.OutOfMemory))) comes = (2, omega arith, refl)
  ends_so (Err (free_refusal.Job (job_refusal.Shared refusal.Words))) comes = absurd comes
  ends_so (Err (free_refusal.Job (job_refusal.Link link))) comes =
      let found = Some-from_some_and (refusal_of link) (AreNotLinked (given_in audit) call.old call.new) comes.refused in
      let P : List ClassDef → Type 0 = λ cs. refusals cs main ≡ [] in
      absurd (sort P found.2.classes found.2.source can.checked.linked.linked (not_empty (refusals found.2.classes main) found.0 found.2.first))
  ends_so (Err (free_refusal.Job (job_refusal.Check name))) comes =
      let P : List ClassDef → Type 0 = λ cs. AreTyped (given_program (given_in audit) cs) in
      absurd (sort P comes.classes comes.linked.source can.checked.typed (not_typed (given_program (given_in audit) comes.classes) name comes.untyped))
  ends_so (Err (free_refusal.Job (job_refusal.Write name))) comes = absurd comes

  -- no put failed
  pub ends_reported : (o : Outcome) → Ends3 (outcome_status o) → Reports o call → Ends3 call.status
  ends_reported (Ok lines) ends reports = go reports.0 where
    go : Tells (outcome_line (Ok lines)) (outcome_status (Ok lines)) call.before call.after call.status → Ends3 call.status
    go (inl put) = subst Ends3 (sym put.0) ends
    go (inr (inl failed)) = absurd (let rose = failed.1.fault in let kept = none.puts in omega arith)
    go (inr (inr lacking)) = (2, omega arith, sym lacking.0)
  ends_reported (Err r) ends reports = go reports.0 where
    go : Tells (outcome_line (Err r)) (outcome_status (Err r)) call.report call.reported call.status → Ends3 call.status
    go (inl put) = subst Ends3 (sym put.0) ends
    go (inr (inl failed)) = absurd (let rose = failed.1.fault in let kept = none.reports in omega arith)
    go (inr (inr lacking)) = (2, omega arith, sym lacking.0)

-- ---- the clause

pub audits_complete : (call : ProgramCall) → IsAuditCall call → AuditsComplete call
audits_complete call made audit classes others asked can none =
    let P : Audit → Type 0 = λ a. AuditsTo a call.old call.new made.outcome in
    let comes = subst P (audits_one call.words made.audit audit made.asked asked) made.comes in
    ends_reported call audit classes others can none made.outcome (ends_so call audit classes others can none made.outcome comes) made.reports
