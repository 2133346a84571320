use Rattle.std.proofs.Common.{◌≡◌, List, length, Err, refl, sym, ap, subst, ◌∙◌, arith}
use Rattle.std.proofs.lemmas.Result.{err_from_is_err_and}
use Rattle.fm_code.specs.declared.code_array.Code.{Code}
use Rattle.fm_code.specs.declared.code_array.Item.{Item}
use Rattle.fm_code.specs.declared.error.PieceFail.TheVariants as fail
use Rattle.fm_code.proofs.CodeItems.{AreLaid-code}
use Rattle.fm_code.proofs.Pieces.{all_bytes}
use Rattle.fm_decode.specs.inner.Targets.{AreRising}
use Rattle.fm_read.specs.inner.Places.{offsets_of}
use Rattle.fm_read.specs.inner.ReadingCode.{head_at, head_view, tables_of, tables_view}
use Rattle.fm_read.proofs.CodeLaws.{code_found, head_at-code, head_length, items_there, not_malformed, tables_there, tables_in, tables_bytes, head_of}
use Rattle.fm_read.proofs.PlaceLaws.{AreRising-laid}
use Rattle.fm_read.proofs.code.code_of.Goals as goal

pub returns-in_err-head-clause-malformed : goal.returns-in_err-head-clause-malformed
returns-in_err-head-clause-malformed c = λ e code is.
    let p = err_from_is_err_and c.from_residual.result c.from_residual.ensures.1 in
    let why : c.in_err-head.field-0.0 ≡ fail.Malformed = cc in
    not_malformed c.in_err-head.field-0.0 (head_at c.args.bytes.now) (head_of code, tables_bytes code (tables_in code)) c.in_err-head.ensures
    (head_at-code c.args.known.now.entries c.args.bytes.now code is) why

pub items_of-requires : goal.items_of-requires
items_of-requires c =
    head_length c.args.bytes.now (head_view c.in_ok-head.head) c.in_ok-head.rest.now (all_bytes c.args.bytes.now (λ i. omega (arith, c.type_inv.bytes i))) c.in_ok-head.ensures

pub returns-in_err-items-clause-malformed : goal.returns-in_err-items-clause-malformed
returns-in_err-items-clause-malformed c = λ e code is.
    let p = err_from_is_err_and c.from_residual-in_err-items.result c.from_residual-in_err-items.ensures.1 in
    let why : c.in_err-items.field-0.0 ≡ fail.Malformed = cc in
    c.in_err-items.ensures.malformed (ap Err why) code.items
    (items_there c.args.known.now.entries c.args.bytes.now code (head_view c.in_ok-head.head) c.in_ok-head.rest.now c.in_ok-head.ensures is)

pub overflow_cast-length : goal.overflow_cast-length
overflow_cast-length c =
    let short = head_length c.args.bytes.now (head_view c.in_ok-head.head) c.in_ok-head.rest.now (all_bytes c.args.bytes.now (λ i. omega (arith, c.type_inv.bytes i))) c.in_ok-head.ensures in
    omega arith

pub of-requires : goal.of-requires
of-requires c =
    let code = c.in_ok-head.head.code.now in
    let items = c.in_ok-items.items.items in
    subst (λ (is : List Item). AreRising (offsets_of is (length code))) (sym c.as_slice.ensures.value) (AreRising-laid items (length code) (AreLaid-code code items c.in_ok-items.ensures.found.spelled))

pub returns-in_err-tables-clause-malformed : goal.returns-in_err-tables-clause-malformed
returns-in_err-tables-clause-malformed c = λ e code is.
    let entries = c.args.known.now.entries in
    let h = head_view c.in_ok-head.head in
    let rest = c.in_ok-head.rest.now in
    let items = c.in_ok-items.items.items in
    let offsets = c.in_ok-places.places in
    let p = err_from_is_err_and c.from_residual-in_err-tables.result c.from_residual-in_err-tables.ensures.1 in
    let why : c.in_err-tables.field-0.0 ≡ fail.Malformed = cc in
    let places : offsets ≡ offsets_of items (length h.code) = c.in_ok-places.ensures.ok ∙ ap (λ (is : List Item). offsets_of is (length h.code)) c.as_slice.ensures.value in
    not_malformed c.in_err-tables.field-0.0 (tables_of entries offsets rest) (tables_in code) c.in_err-tables.ensures
    (tables_there entries c.args.bytes.now code h rest items offsets c.in_ok-head.ensures c.in_ok-items.ensures.found places is) why

pub returns-clause-found : goal.returns-clause-found
returns-clause-found c =
    let entries = c.args.known.now.entries in
    let bytes = c.args.bytes.now in
    let h = head_view c.in_ok-head.head in
    let rest = c.in_ok-head.rest.now in
    let items = c.in_ok-items.items.items in
    let offsets = c.in_ok-places.places in
    let t = tables_view c.in_ok-tables.tables in
    let code : Code = record {
      max_stack = h.max_stack;
      max_locals = h.max_locals;
      items = c.new.result;
      length = length h.code;
      handlers = c.new-2.result;
      attributes = c.new-3.result;
    } in
    let places : offsets ≡ offsets_of items (length h.code) = c.in_ok-places.ensures.ok ∙ ap (λ (is : List Item). offsets_of is (length h.code)) c.as_slice.ensures.value in
    let tables : tables_in code ≡ t = λ k. record { handlers = c.new-2.ensures k; attributes = c.new-3.ensures k } in
    code_found entries bytes code h rest items offsets t (all_bytes bytes (λ i. omega (arith, c.type_inv.bytes i))) c.requires
    c.in_ok-head.ensures c.in_ok-items.ensures.found places c.in_ok-tables.ensures refl refl c.new.ensures refl tables
