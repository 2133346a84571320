use Rattle.std.proofs.lemmas.Result.{err_from_is_err_and}
use Rattle.fm_base.proofs.TestFacts.{refuted}
use Rattle.fm_code.specs.ConstantPool.{entry_at}
use Rattle.fm_code.specs.Members.{IsValue}
use Rattle.fm_read.proofs.AttributesLemmas.{IsValueOf-from_number, no_number, not_all, not_value, nothing_left, something_left}
use Rattle.fm_code.proofs.FailureLemmas.{handed_out, none_read}
use Rattle.fm_read.proofs.attributes.value_of.Goals as goal

pub returns-in_err-value-clause-malformed : goal.returns-in_err-value-clause-malformed
returns-in_err-value-clause-malformed c = λ e.
    let p = err_from_is_err_and c.from_residual.result c.from_residual.ensures.1 in
    let malformed = handed_out c.from_residual.result p.0 c.in_err-value.field-0.0 p.1 p.2 e in
    no_number c.args.known.now.entries c.args.bytes.now (none_read c.in_err-value.field-0.0 _ malformed c.in_err-value.ensures.taken)

pub returns-clause-found : goal.returns-clause-found
returns-clause-found c =
    let nothing = nothing_left c.in_ok-value.rest.now c.is_empty.result c.is_empty.ensures c.if-not-is_empty.false in
    IsValueOf-from_number c.args.known.now.entries c.args.bytes.now c.in_ok-value.value c.in_ok-value.rest.now c.requires c.in_ok-value.ensures.taken nothing (c.is_value.ensures.0 c.if-not-is_value.false)

pub returns-then-not-is_empty-clause-malformed : goal.returns-then-not-is_empty-clause-malformed
returns-then-not-is_empty-clause-malformed c = λ _.
    let more = something_left c.in_ok-value.rest.now c.is_empty.result c.is_empty.ensures c.if-not-is_empty.true in
    not_all c.args.known.now.entries c.args.bytes.now c.in_ok-value.value c.in_ok-value.rest.now c.in_ok-value.ensures.taken more

pub returns-then-not-is_value-clause-malformed : goal.returns-then-not-is_value-clause-malformed
returns-then-not-is_value-clause-malformed c = λ _.
    let index = c.in_ok-value.value in
    let entries = c.args.known.now.entries in
    not_value entries c.args.bytes.now index c.in_ok-value.rest.now c.in_ok-value.ensures.taken
    (refuted c.is_value.result (IsValue (entry_at entries index)) c.is_value.ensures c.if-not-is_value.true)
