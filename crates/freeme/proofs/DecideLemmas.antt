-- What an audit says of its files it says of the classes that these hold, where contents are known: there are no others.
use Rattle.std.proofs.Common.{◌≡◌, ◌+◌, ◌≤◌, ℕ, cond, List, [], ◌∷◌, ◌++◌, append-nil, map, None, Option, Some, IsSome, is_some, refl, sym, ◌∙◌, ap, subst, arith}
use Rattle.fm_base.proofs.OptionFacts.{Some-from_is_some}
use Rattle.std.proofs.lemmas.Option.{same_Some}
use Rattle.std.specs.List.{AllByRecursion}
use Rattle.fm_audit_classes.proofs.AuditedLemmas.{safe_plain}
use Rattle.fm_audit_classes.specs.Audited.{AreSafelyWritten, HaveStack, NoneIsSafe}
use Rattle.fm_base.specs.declared.limits.TheConstants.{MAX_STACK_WORDS}
use Rattle.fm_chain.proofs.WithoutChains.{classes_are_rewritten}
use Rattle.fm_chain.specs.Chained.{added_words, chained_code}
use Rattle.fm_chain.specs.Chaining.{chained_classes, plan_has_chain}
use Rattle.fm_check_program.proofs.LinkedPrograms.{all_codes, AreAll, code_there}
use Rattle.fm_cli_requests.proofs.FreemeRequestLemmas.{audits_one}
use Rattle.fm_cli_requests.specs.AuditRequest.{Audit}
use Rattle.fm_code.proofs.ClassLaw.{one_record}
use Rattle.fm_code.specs.ClassBytes.{class_bytes}
use Rattle.fm_code.specs.Members.{code_of}
use Rattle.fm_code.specs.Profile.{CodeIsWithin, MethodIsWithin, Profile}
use Rattle.fm_code.specs.Spells.{Spells}
use Rattle.fm_code.specs.declared.class_file.ClassDef.{ClassDef}
use Rattle.fm_code.specs.declared.class_file.Member.{Member}
use Rattle.fm_code.specs.declared.code_array.Code.{Code}
use Rattle.fm_files.specs.Files.{Bytes, Contents, Disk}
use Rattle.fm_law_beside_freeme.specs.Exact.{LeastFactsFindAlikeSafe}
use Rattle.fm_law_relinked.proofs.Codes.{codes_chained}
use Rattle.fm_law_relinked.specs.Codes.{code_with}
use Rattle.fm_load.proofs.GivenLemmas.{given_accepted}
use Rattle.fm_load.specs.Given.{AreGiven, Given, made_classes}
use Rattle.fm_load.specs.ProgramCalls.{ProgramCall}
use Rattle.fm_load.specs.Taking.{AllTaken, AreTaken, IsTaken}
use Rattle.fm_place.specs.Insertions.{Insertions}
use Rattle.fm_place.specs.Rewriting.{Plans}
use Rattle.fm_world.specs.Programs.{code_at, codes_of, Program, program_of}
use Rattle.freeme.specs.Audits.{AreAudited, audited_files, given_in}
use Rattle.freeme.specs.Causes.{IsForNotSafe, IsForSafe}
use Rattle.freeme.specs.Complete.{AuditsDecide, CanBeAudited}

-- ---- files hold one list of classes

taken_once : (held : Bytes → Option Bytes) (files : List Bytes) (cs ds : List ClassDef) → AreTaken (Some held) files cs → AreTaken (Some held) files ds → cs ≡ ds
taken_once held [] [] [] first second = refl
taken_once held [] [] (d ∷ ds) first second = absurd second
taken_once held [] (c ∷ cs) ds first second = absurd first
taken_once held (file ∷ files) [] ds first second = absurd first
taken_once held (file ∷ files) (c ∷ cs) [] first second = absurd second
taken_once held (file ∷ files) (c ∷ cs) (d ∷ ds) first second =
    let same : class_bytes d ≡ class_bytes c = same_Some (class_bytes d) (class_bytes c) (sym second.0.holds ∙ first.0.holds) in
    let Spelled : Bytes → Type 0 = λ bytes. Spells bytes d in
    let one : c ≡ d = one_record (class_bytes c) c d first.0.spelled (subst Spelled same second.0.spelled) in
    λ k. one k ∷ taken_once held files cs ds first.1 second.1 k

module _ (contents : Contents) (known : IsSome contents) where
  all_once : (files : List Bytes) (cs ds : List ClassDef) → AreTaken contents files cs → AreTaken contents files ds → cs ≡ ds
  all_once files cs ds first second =
      let held = Some-from_is_some contents known in
      let P : List ClassDef → Contents → Type 0 = λ these c. AreTaken c files these in
      taken_once held.0 files cs ds (subst (P cs) held.1 first) (subst (P ds) held.1 second)

  given_once : (given : Given) (cs ds : List ClassDef) → AreGiven given contents cs → AreGiven given contents ds → cs ≡ ds
  given_once given cs ds first second =
      first.classes_are
      ∙ ap (λ (read : List ClassDef). read ++ made_classes given.made) (all_once given.files first.read second.read first.taken.taken second.taken.taken)
      ∙ sym second.classes_are

-- they are accepted
are_accepted : (files : List Bytes) (contents : Contents) (classes : List ClassDef) → AllTaken contents files classes → AllByRecursion Profile classes
are_accepted files contents classes taken =
    let given : Given = record { files = files; made = None; main = [] } in
    given_accepted {given = given} {contents = contents} {classes = classes} (record { read = classes; taken = taken; alone = tt; classes_are = sym (append-nil classes) })

-- the classes of an audit, and those that are audited
record AreTheSame (classes others these those : List ClassDef) : Type 0 where
  given : these ≡ classes
  written : those ≡ others

same_audited : (audit : Audit) (classes others these those : List ClassDef) (old new : Disk) → CanBeAudited audit old.contents classes others
    → AreAudited audit these those old new → AreTheSame classes others these those
same_audited audit classes others these those old new can audited =
    let given : these ≡ classes =
    given_once old.contents can.known (given_in audit) these classes audited.judged.checked.linked.source can.checked.linked.source in
    let P : Contents → Type 0 = λ c. AreTaken c (audited_files audit these) those in
    let read : AreTaken old.contents (audited_files audit these) those = subst P audited.judged.untouched.kept audited.read.taken.taken in
    let Q : List ClassDef → Type 0 = λ cs. AreTaken old.contents (audited_files audit cs) those in
    record {
      given = given;
      written = all_once old.contents can.known (audited_files audit classes) those others (subst Q given read) can.taken.taken;
    }

-- ---- what is written is within the limits, so there was room on the stacks

members_within : (members : List Member) → AllByRecursion MethodIsWithin members → AreAll CodeIsWithin (map code_of members)
members_within [] within = tt
members_within (m ∷ members) within = (within.0, members_within members within.1)

classes_within : (classes : List ClassDef) → AllByRecursion Profile classes → AllByRecursion (λ (c : ClassDef). AreAll CodeIsWithin (map code_of c.methods)) classes
classes_within [] accepted = tt
classes_within (c ∷ classes) accepted = (members_within c.methods accepted.0.limits, classes_within classes accepted.1)

code_within : (classes : List ClassDef) (main : List ℕ) → AllByRecursion Profile classes → (method : ℕ) (code : Code)
    → code_at (program_of classes main) method ≡ Some code → CodeIsWithin code
unfolding program_of
code_within classes main accepted method code is =
    (code_there CodeIsWithin (codes_of classes) method code (all_codes CodeIsWithin classes (classes_within classes accepted)) is).1

stack_written : (given : List ClassDef) (main : List ℕ) (written : List ClassDef) (safely : AreSafelyWritten given main written)
    → AllByRecursion Profile written → HaveStack (program_of given main) safely.safe.plans
stack_written given main written safely accepted method plan code planned coded =
    let safe = safely.safe in
    let none = safe_plain (program_of given main) safe.facts safe.plans safe.methods in
    let own = codes_chained given main safe.plans method in
    let same : written ≡ chained_classes safe.plans given = safe.written_is ∙ sym (classes_are_rewritten safe.plans none given).classes_are in
    let new_is : code_at (program_of written main) method ≡ Some (chained_code own.calls code plan) =
    ap (λ (cs : List ClassDef). code_at (program_of cs main) method) same ∙ own.new_is ∙ (λ k. code_with own.calls (planned k) (coded k)) in
    let most : code.max_stack + added_words plan ≤ MAX_STACK_WORDS = (code_within written main accepted method (chained_code own.calls code plan) new_is).stack in
    let word : added_words plan ≡ 1 = ap (λ b. cond b 2 1) (ap plan_has_chain (sym planned) ∙ none method) in
    omega (arith, most, word)

-- ---- what is safe by some facts isn't found to be unsafe by others

again_inside : (o again : Option Insertions) → is_some again ≡ is_some o → (plan : Insertions) → again ≡ Some plan → (old : Insertions) × (o ≡ Some old)
again_inside o again same plan is = Some-from_is_some o (sym same ∙ ap is_some is)

stack_again : (p : Program) (plans again : Plans) → ((method : ℕ) → is_some (again method) ≡ is_some (plans method)) → HaveStack p plans → HaveStack p again
stack_again p plans again same stack method plan code planned coded =
    let old = again_inside (plans method) (again method) (same method) plan planned in stack method old.0 code old.1 coded

never_unsafe : LeastFactsFindAlikeSafe → (given : List ClassDef) (main : List ℕ) (written : List ClassDef) → AllByRecursion Profile written
    → AreSafelyWritten given main written → NoneIsSafe (program_of given main) given written → ⊥
never_unsafe alike given main written accepted safely unsafe =
    let p = program_of given main in
    let safe = safely.safe in
    let found = alike given p safe.facts unsafe.facts (record { exact = safe.exact; least = safely.least })
    (record { exact = unsafe.exact; least = unsafe.least }) safe.plans safe.methods in
    unsafe.none found.again found.safe (stack_again p safe.plans found.again found.methods (stack_written given main written safely accepted))
    (safe.written_is ∙ found.alike.written)

-- ---- the clause

pub audits_decide : (call : ProgramCall) → LeastFactsFindAlikeSafe → IsForSafe call → IsForNotSafe call → AuditsDecide call
audits_decide call alike safe not_safe audit classes others asked can = record {
  safe = λ is.
      let says = (safe audit asked is).safe in
      let same = same_audited audit classes others says.classes says.written call.old call.new can says.audited in
      let P : List ClassDef × List ClassDef → Type 0 = λ q. AreSafelyWritten q.0 (given_in audit).main q.1 in
      subst P (λ k. (same.given k, same.written k)) says.safely;
  not_safe = λ is are.
      let says = not_safe is in
      let A : Audit → Type 0 = λ a. CanBeAudited a call.old.contents classes others × AreSafelyWritten classes (given_in a).main others in
      let own = subst A (audits_one call.words audit says.audit asked says.asked) (can, are) in
      let found = says.not_safe in
      let same = same_audited says.audit classes others found.classes found.written call.old call.new own.0 found.audited in
      let P : List ClassDef × List ClassDef → Type 0 = λ q. NoneIsSafe (program_of q.0 (given_in says.audit).main) q.0 q.1 in
      never_unsafe alike classes (given_in says.audit).main others (are_accepted (audited_files says.audit classes) call.old.contents others own.0.taken) own.1
      (subst P (λ k. (same.given k, same.written k)) found.fails.unsafe);
}
