use Rattle.std.proofs.Common.{rules, ◌≡◌, ◌∙◌, ℕ, None, refl, sym}
use Rattle.std.proofs.lemmas.Result.{err_from_is_err_and}
use Rattle.fm_rewrite.proofs.CallOffsetLemmas.{call_offset}
use Rattle.fm_rewrite.proofs.JudgedLemmas.{judged_analysable}
use Rattle.fm_rewrite.specs.FreeCalls.{first_call}
use Rattle.freeme.proofs.AuditJobLemmas.{audit_ends_calling, audit_ends_out_of_memory, audit_ends_read, audit_ends_refused, audit_first_refused, audit_judged, audit_judges, audit_named, audit_only_reads, audit_reads, audit_spelled, audit_within}
use Rattle.freeme.proofs.FreeingLemmas.{call_inside}
use Rattle.freeme.proofs.auditing.audited_program.Goals as goal

pub returns-in_err-read-clause-within : goal.returns-in_err-read-clause-within
returns-in_err-read-clause-within g c = audit_only_reads c.args.request.now c.deref-files_read.ensures.value c.read_classes.ensures.within

pub returns-in_err-read-clause-comes : goal.returns-in_err-read-clause-comes
returns-in_err-read-clause-comes g c =
    let handed = err_from_is_err_and c.from_residual.result c.from_residual.ensures.1 in
    rw (handed.1, handed.2) (audit_first_refused (g.F.Files.disk c.args.files.now) (g.F.Files.disk c.read_classes.new.files) c.args.request.now c.deref-files_read.ensures.value c.in_err-read.field-0.0 c.in_err-read.ensures.comes)

pub judge_program-requires-clause-spelled : goal.judge_program-requires-clause-spelled
judge_program-requires-clause-spelled g c =
    audit_spelled (audit_reads c.args.request.now c.deref-files_read.ensures.value c.deref-classes.ensures.value c.read_classes.ensures.within c.in_ok-read.ensures.comes)

pub judge_program-requires-clause-within : goal.judge_program-requires-clause-within
judge_program-requires-clause-within g c =
    audit_within (audit_reads c.args.request.now c.deref-files_read.ensures.value c.deref-classes.ensures.value c.read_classes.ensures.within c.in_ok-read.ensures.comes)

pub returns-in_err-judged-clause-within : goal.returns-in_err-judged-clause-within
returns-in_err-judged-clause-within g c =
    audit_ends_read (audit_reads c.args.request.now c.deref-files_read.ensures.value c.deref-classes.ensures.value c.read_classes.ensures.within c.in_ok-read.ensures.comes)

pub returns-in_err-judged-clause-comes : goal.returns-in_err-judged-clause-comes
returns-in_err-judged-clause-comes g c =
    let reads = audit_reads c.args.request.now c.deref-files_read.ensures.value c.deref-classes.ensures.value c.read_classes.ensures.within c.in_ok-read.ensures.comes in
    let handed = err_from_is_err_and c.from_residual-in_err-judged.result c.from_residual-in_err-judged.ensures.1 in
    rw (handed.1, handed.2) (audit_ends_refused reads c.in_err-judged.field-0.0 c.in_err-judged.ensures)

pub returns-in_err-program-clause-within : goal.returns-in_err-program-clause-within
returns-in_err-program-clause-within g c =
    audit_ends_read (audit_reads c.args.request.now c.deref-files_read.ensures.value c.deref-classes.ensures.value c.read_classes.ensures.within c.in_ok-read.ensures.comes)

pub returns-in_err-program-clause-comes : goal.returns-in_err-program-clause-comes
returns-in_err-program-clause-comes g c =
    let reads = audit_reads c.args.request.now c.deref-files_read.ensures.value c.deref-classes.ensures.value c.read_classes.ensures.within c.in_ok-read.ensures.comes in
    let handed = err_from_is_err_and c.from_residual-in_err-program.result c.from_residual-in_err-program.ensures.1 in
    rw (handed.1, handed.2) (audit_ends_out_of_memory reads)

pub first_free_call-requires : goal.first_free_call-requires
first_free_call-requires g c =
    let reads = audit_reads c.args.request.now c.deref-files_read.ensures.value c.deref-classes.ensures.value c.read_classes.ensures.within c.in_ok-read.ensures.comes in
    (judged_analysable _ _ (audit_judged reads ((c.in_ok-judged.ensures.0.0, c.in_ok-program.ensures ∙ c.in_ok-judged.ensures.0.1), c.in_ok-judged.ensures.1))).uses

pub calls_free-requires-clause-there : goal.calls_free-requires-clause-there
calls_free-requires-clause-there g c =
    let call : ℕ × ℕ = (c.in-Some.method.0, c.in-Some.offset) in call_inside c.in_ok-program.program call (sym c.in-Some.ensures)

pub calls_free-requires-clause-fits : goal.calls_free-requires-clause-fits
calls_free-requires-clause-fits g c =
    let reads = audit_reads c.args.request.now c.deref-files_read.ensures.value c.deref-classes.ensures.value c.read_classes.ensures.within c.in_ok-read.ensures.comes in
    let call : ℕ × ℕ = (c.in-Some.method.0, c.in-Some.offset) in
    call_offset c.in_ok-program.program call (judged_analysable _ _ (audit_judged reads ((c.in_ok-judged.ensures.0.0, c.in_ok-program.ensures ∙ c.in_ok-judged.ensures.0.1), c.in_ok-judged.ensures.1))) (sym c.in-Some.ensures)

pub returns-in-Some-clause-within : goal.returns-in-Some-clause-within
returns-in-Some-clause-within g c =
    audit_ends_read (audit_reads c.args.request.now c.deref-files_read.ensures.value c.deref-classes.ensures.value c.read_classes.ensures.within c.in_ok-read.ensures.comes)

pub returns-in-Some-clause-comes : goal.returns-in-Some-clause-comes
returns-in-Some-clause-comes g c =
    let reads = audit_reads c.args.request.now c.deref-files_read.ensures.value c.deref-classes.ensures.value c.read_classes.ensures.within c.in_ok-read.ensures.comes in
    audit_ends_calling reads ((c.in_ok-judged.ensures.0.0, c.in_ok-program.ensures ∙ c.in_ok-judged.ensures.0.1), c.in_ok-judged.ensures.1) c.in-Some.method c.in-Some.offset (sym c.in-Some.ensures) c.calls_free.result c.calls_free.ensures

pub written_names-requires : goal.written_names-requires
written_names-requires g c =
    audit_named (audit_reads c.args.request.now c.deref-files_read.ensures.value c.deref-classes.ensures.value c.read_classes.ensures.within c.in_ok-read.ensures.comes)

pub returns-in_err-names-clause-within : goal.returns-in_err-names-clause-within
returns-in_err-names-clause-within g c =
    audit_ends_read (audit_reads c.args.request.now c.deref-files_read.ensures.value c.deref-classes.ensures.value c.read_classes.ensures.within c.in_ok-read.ensures.comes)

pub returns-in_err-names-clause-comes : goal.returns-in_err-names-clause-comes
returns-in_err-names-clause-comes g c =
    let reads = audit_reads c.args.request.now c.deref-files_read.ensures.value c.deref-classes.ensures.value c.read_classes.ensures.within c.in_ok-read.ensures.comes in
    let handed = err_from_is_err_and c.from_residual-in_err-names.result c.from_residual-in_err-names.ensures.1 in
    rw (handed.1, handed.2) (audit_ends_out_of_memory reads)

pub returns-clause-within : goal.returns-clause-within
returns-clause-within g c =
    audit_ends_read (audit_reads c.args.request.now c.deref-files_read.ensures.value c.deref-classes.ensures.value c.read_classes.ensures.within c.in_ok-read.ensures.comes)

pub returns-clause-comes : goal.returns-clause-comes
returns-clause-comes g c =
    let reads = audit_reads c.args.request.now c.deref-files_read.ensures.value c.deref-classes.ensures.value c.read_classes.ensures.within c.in_ok-read.ensures.comes in
    let none : first_call c.in_ok-program.program ≡ None = search rules in
    audit_judges reads ((c.in_ok-judged.ensures.0.0, c.in_ok-program.ensures ∙ c.in_ok-judged.ensures.0.1), c.in_ok-judged.ensures.1) _ (sym c.deref-classes.ensures.value) refl none c.in_ok-names.ensures
