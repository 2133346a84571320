use Rattle.std.proofs.Common.{◌∙◌, Err, List, Ok, ap, length, map, refl, string_bytes, subst, sym}
use Rattle.std.specs.List.{AllByRecursion, flat_map}
use Rattle.std.proofs.lemmas.Result.{err_from_is_err_and}
use Rattle.fm_cli.proofs.OutsideLemmas.{no_fault_where_same}
use Rattle.fm_code.specs.declared.class_file.ClassDef.{ClassDef}
use Rattle.fm_law_spelled.specs.Changed.{IsShort}
use Rattle.fm_load.proofs.ReadLemmas.{reads_none}
use Rattle.fm_rewrite.specs.Rewritten.{AreJudged}
use Rattle.freeme.proofs.AuditJobLemmas.{audit_lent, audit_there, finds_memory, finds_not_safe, finds_safe, names_few, names_read, names_refused, written_number, written_spelled_so}
use Rattle.fm_world.specs.Programs.{program_of}
use Rattle.freeme.specs.Audits.{safe_line}
use Rattle.freeme.specs.Writing.{HasName}
use Rattle.freeme.specs.inner.Auditing.{names_in}
use Rattle.freeme.proofs.auditing.audit_program.Goals as goal

pub returns-in_err-texts-clause-within : goal.returns-in_err-texts-clause-within
returns-in_err-texts-clause-within g c = reads_none (names_in c.args.audited.now) (g.F.Files.disk c.args.files.now)

pub returns-in_err-texts-clause-finds : goal.returns-in_err-texts-clause-finds
returns-in_err-texts-clause-finds g c =
    let old = g.F.Files.disk c.args.files.now in
    let handed = err_from_is_err_and c.from_residual.result c.from_residual.ensures.1 in
    rw (handed.1, handed.2) (λ main own. record { faultless = no_fault_where_same old old refl; kept = refl; unwritten = refl })

pub read_classes-requires : goal.read_classes-requires
read_classes-requires g c =
    names_few c.requires c.deref-names.result.now (ap (map (λ n. n.now)) c.deref-names.ensures.value ∙ c.in_ok-texts.ensures ∙ ap (map string_bytes) c.deref-paths.ensures.value)

pub returns-in_err-read-clause-within : goal.returns-in_err-read-clause-within
returns-in_err-read-clause-within g c =
    names_read c.requires c.deref-names.result.now (ap (map (λ n. n.now)) c.deref-names.ensures.value ∙ c.in_ok-texts.ensures ∙ ap (map string_bytes) c.deref-paths.ensures.value) (g.F.Files.disk c.args.files.now) (g.F.Files.disk c.read_classes.new.files)
    c.read_classes.ensures.within

pub returns-in_err-read-clause-finds : goal.returns-in_err-read-clause-finds
returns-in_err-read-clause-finds g c =
    let same = ap (map (λ n. n.now)) c.deref-names.ensures.value ∙ c.in_ok-texts.ensures ∙ ap (map string_bytes) c.deref-paths.ensures.value in
    let handed = err_from_is_err_and c.from_residual-in_err-read.result c.from_residual-in_err-read.ensures.1 in
    rw (handed.1, handed.2) (λ main own. names_refused c.requires c.deref-names.result.now same (g.F.Files.disk c.args.files.now) (g.F.Files.disk c.read_classes.new.files) main c.in_err-read.field-0.0 c.in_err-read.ensures.comes)

pub audit-requires-clause-judged : goal.audit-requires-clause-judged
audit-requires-clause-judged g c =
    let P : List ClassDef → Type 0 = λ cs. AreJudged cs c.args.audited.now.program in subst P (sym c.deref-classes.ensures.value) c.requires.judged

pub audit-requires-clause-short : goal.audit-requires-clause-short
audit-requires-clause-short g c = subst (AllByRecursion IsShort) (sym c.deref-classes.ensures.value) c.requires.short

pub audit-requires-clause-spelled : goal.audit-requires-clause-spelled
audit-requires-clause-spelled g c =
    written_spelled_so c.requires c.deref-names.result.now (ap (map (λ n. n.now)) c.deref-names.ensures.value ∙ c.in_ok-texts.ensures ∙ ap (map string_bytes) c.deref-paths.ensures.value) (g.F.Files.disk c.args.files.now) (g.F.Files.disk c.read_classes.new.files)
    c.deref-written.ensures.value c.in_ok-read.ensures.comes

pub audit-requires-clause-one_each : goal.audit-requires-clause-one_each
audit-requires-clause-one_each g c =
    let same = ap (map (λ n. n.now)) c.deref-names.ensures.value ∙ c.in_ok-texts.ensures ∙ ap (map string_bytes) c.deref-paths.ensures.value in
    written_number c.requires c.deref-names.result.now same (g.F.Files.disk c.args.files.now) (g.F.Files.disk c.read_classes.new.files) c.deref-written.ensures.value c.in_ok-read.ensures.comes ∙ ap length (sym c.deref-classes.ensures.value)

pub safe_lines-requires : goal.safe_lines-requires
safe_lines-requires g c = subst (AllByRecursion HasName) (sym c.deref-classes.ensures.value) c.requires.have_names

pub returns-in_err-safe_lines-in-Ok-clause-within : goal.returns-in_err-safe_lines-in-Ok-clause-within
returns-in_err-safe_lines-in-Ok-clause-within g c =
    names_read c.requires c.deref-names.result.now (ap (map (λ n. n.now)) c.deref-names.ensures.value ∙ c.in_ok-texts.ensures ∙ ap (map string_bytes) c.deref-paths.ensures.value) (g.F.Files.disk c.args.files.now) (g.F.Files.disk c.read_classes.new.files)
    c.read_classes.ensures.within

pub returns-in_err-safe_lines-in-Ok-clause-finds : goal.returns-in_err-safe_lines-in-Ok-clause-finds
returns-in_err-safe_lines-in-Ok-clause-finds g c =
    let same = ap (map (λ n. n.now)) c.deref-names.ensures.value ∙ c.in_ok-texts.ensures ∙ ap (map string_bytes) c.deref-paths.ensures.value in
    let handed = err_from_is_err_and c.from_residual-in_err-safe_lines-in-Ok.result c.from_residual-in_err-safe_lines-in-Ok.ensures.1 in
    rw (handed.1, handed.2) (λ main own. finds_memory c.requires c.deref-names.result.now same (g.F.Files.disk c.args.files.now) (g.F.Files.disk c.read_classes.new.files) c.deref-written.ensures.value c.in_ok-read.ensures.comes c.read_classes.ensures.within)

pub returns-in-Ok-clause-within : goal.returns-in-Ok-clause-within
returns-in-Ok-clause-within g c =
    names_read c.requires c.deref-names.result.now (ap (map (λ n. n.now)) c.deref-names.ensures.value ∙ c.in_ok-texts.ensures ∙ ap (map string_bytes) c.deref-paths.ensures.value) (g.F.Files.disk c.args.files.now) (g.F.Files.disk c.read_classes.new.files)
    c.read_classes.ensures.within

pub returns-in-Ok-clause-finds : goal.returns-in-Ok-clause-finds
returns-in-Ok-clause-finds g c =
    let same = ap (map (λ n. n.now)) c.deref-names.ensures.value ∙ c.in_ok-texts.ensures ∙ ap (map string_bytes) c.deref-paths.ensures.value in
    let lent = c.deref-classes.ensures.value in
    λ main own.
    finds_safe c.requires c.deref-names.result.now same (g.F.Files.disk c.args.files.now) (g.F.Files.disk c.read_classes.new.files) c.deref-written.ensures.value c.in_ok-read.ensures.comes main c.in_ok-safe_lines-in-Ok.field-0
    (audit_lent c.deref-written.result.now (Ok tt) lent c.in-Ok.ensures main own)
    (c.in_ok-safe_lines-in-Ok.ensures ∙ ap (flat_map safe_line) lent)

pub audit_refusal-requires : goal.audit_refusal-requires
audit_refusal-requires g c =
    let own = c.requires.program_is ∙ ap (λ (cs : List ClassDef). program_of cs c.requires.main) (sym c.deref-classes.ensures.value) in
    audit_there c.deref-classes.result.now c.deref-written.result.now c.requires.main c.args.audited.now.program c.in-Err.fail own c.requires.no_call (c.in-Err.ensures c.requires.main own)

pub returns-in_err-audit_refusal-in-Err-clause-within : goal.returns-in_err-audit_refusal-in-Err-clause-within
returns-in_err-audit_refusal-in-Err-clause-within g c =
    names_read c.requires c.deref-names.result.now (ap (map (λ n. n.now)) c.deref-names.ensures.value ∙ c.in_ok-texts.ensures ∙ ap (map string_bytes) c.deref-paths.ensures.value) (g.F.Files.disk c.args.files.now) (g.F.Files.disk c.read_classes.new.files)
    c.read_classes.ensures.within

pub returns-in_err-audit_refusal-in-Err-clause-finds : goal.returns-in_err-audit_refusal-in-Err-clause-finds
returns-in_err-audit_refusal-in-Err-clause-finds g c =
    let same = ap (map (λ n. n.now)) c.deref-names.ensures.value ∙ c.in_ok-texts.ensures ∙ ap (map string_bytes) c.deref-paths.ensures.value in
    let handed = err_from_is_err_and c.from_residual-in_err-audit_refusal-in-Err.result c.from_residual-in_err-audit_refusal-in-Err.ensures.1 in
    rw (handed.1, handed.2) (λ main own. finds_memory c.requires c.deref-names.result.now same (g.F.Files.disk c.args.files.now) (g.F.Files.disk c.read_classes.new.files) c.deref-written.ensures.value c.in_ok-read.ensures.comes c.read_classes.ensures.within)

pub returns-clause-within : goal.returns-clause-within
returns-clause-within g c =
    names_read c.requires c.deref-names.result.now (ap (map (λ n. n.now)) c.deref-names.ensures.value ∙ c.in_ok-texts.ensures ∙ ap (map string_bytes) c.deref-paths.ensures.value) (g.F.Files.disk c.args.files.now) (g.F.Files.disk c.read_classes.new.files)
    c.read_classes.ensures.within

pub returns-clause-finds : goal.returns-clause-finds
returns-clause-finds g c =
    let same = ap (map (λ n. n.now)) c.deref-names.ensures.value ∙ c.in_ok-texts.ensures ∙ ap (map string_bytes) c.deref-paths.ensures.value in
    let lent = c.deref-classes.ensures.value in
    λ main own.
    finds_not_safe c.requires c.deref-names.result.now same (g.F.Files.disk c.args.files.now) (g.F.Files.disk c.read_classes.new.files) c.deref-written.ensures.value c.in_ok-read.ensures.comes main own c.in-Err.fail
    (audit_lent c.deref-written.result.now (Err c.in-Err.fail) lent c.in-Err.ensures main own)
    _ c.in_ok-audit_refusal-in-Err.ensures
