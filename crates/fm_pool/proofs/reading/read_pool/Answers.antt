use Rattle.std.proofs.Common.{◌≡◌, false, arith, rules}
use Rattle.std.proofs.lemmas.Result.{err_from_is_err_and}
use Rattle.std.specs.List.{AllByRecursion}
use Rattle.fm_base.proofs.TestFacts.{refuted}
use Rattle.fm_code.specs.ConstantPool.{EntryIsValid}
use Rattle.fm_code.proofs.Pieces.{all_bytes}
use Rattle.fm_pool.proofs.ReadingLemmas.{only_no_memory, same_pool, valid_entries, rest_within, is_spelled, not_refused}
use Rattle.fm_pool.proofs.reading.read_pool.Goals as goal

pub returns-in_err-entries-clause-read : goal.returns-in_err-entries-clause-read
returns-in_err-entries-clause-read c = λ pool n spells.
    let p = err_from_is_err_and c.from_residual.result c.from_residual.ensures.1 in
    rw (p.1, p.2) (only_no_memory c.args.bytes.now pool n c.in_err-entries.field-0.0 c.in_err-entries.ensures spells)

pub returns-in_err-entries-clause-malformed : goal.returns-in_err-entries-clause-malformed
returns-in_err-entries-clause-malformed c = λ e pool n spells. not_refused c.from_residual.result pool (returns-in_err-entries-clause-read c pool n spells) e

pub returns-then-not-valid-clause-read : goal.returns-then-not-valid-clause-read
returns-then-not-valid-clause-read c = λ pool n spells.
    let entries = c.in_ok-entries.entries.items in
    let no : c.in_ok-valid.valid ≡ false = search rules in
    let valid = valid_entries c.args.bytes.now pool n entries c.in_ok-entries.rest.now c.in_ok-entries.ensures spells in
    absurd (refuted c.in_ok-valid.valid (AllByRecursion (EntryIsValid c.as_slice.result.now) c.as_slice.result.now) c.in_ok-valid.ensures no (rw c.as_slice.ensures.value valid))

pub returns-then-not-valid-clause-malformed : goal.returns-then-not-valid-clause-malformed
returns-then-not-valid-clause-malformed c = λ e pool n spells. absurd (let wrong = returns-then-not-valid-clause-read c pool n spells in cc)

pub overflow_sub-result : goal.overflow_sub-result
overflow_sub-result c =
    rest_within c.args.bytes.now c.in_ok-entries.entries.items c.in_ok-entries.rest.now (all_bytes c.args.bytes.now (λ i. omega (arith, c.type_inv.bytes i))) c.in_ok-entries.ensures

pub returns-clause-found : goal.returns-clause-found
returns-clause-found c =
    let bytes = c.args.bytes.now in
    let entries = c.in_ok-entries.entries.items in
    let valid : AllByRecursion (EntryIsValid entries) entries = rw (← c.as_slice.ensures.value) (c.in_ok-valid.ensures.0 (search rules)) in
    rw c.new.ensures (is_spelled bytes entries c.in_ok-entries.rest.now (all_bytes bytes (λ i. omega (arith, c.type_inv.bytes i))) c.in_ok-entries.ensures valid)

pub returns-clause-read : goal.returns-clause-read
returns-clause-read c = λ pool n spells.
    rw c.new.ensures (same_pool c.args.bytes.now pool n c.in_ok-entries.entries.items c.in_ok-entries.rest.now c.in_ok-entries.ensures spells)
