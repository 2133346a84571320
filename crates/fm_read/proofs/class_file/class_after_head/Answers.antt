use Rattle.std.proofs.Common.{◌≡◌, ◌++◌, ap, arith, None, Err, sym, subst}
use Rattle.std.proofs.lemmas.Result.{err_from_is_err_and, IfOk-weaker}
use Rattle.fm_code.specs.Spells.{Spells}
use Rattle.fm_code.specs.Fits.{AreBytes}
use Rattle.fm_code.specs.inner.Reading.{Fails}
use Rattle.fm_code.specs.declared.constant_pool.Pool.{Pool}
use Rattle.fm_code.specs.declared.error.PieceFail.{PieceFail}
use Rattle.fm_code.specs.declared.error.PieceFail.TheVariants as piece
use Rattle.fm_code.proofs.Pieces.{all_bytes}
use Rattle.fm_read.specs.inner.ClassParts.{IsClassOf}
use Rattle.fm_read.specs.inner.Head.{head_bytes}
use Rattle.fm_read.specs.inner.Parts.{body_view, raw_of_class}
use Rattle.fm_read.specs.inner.Reading.{body_at}
use Rattle.fm_read.proofs.PartsPieces.{body_takes, raw_body_bytes}
use Rattle.fm_read.proofs.PoolLemmas.{rest_bytes}
use Rattle.fm_read.proofs.WholeClass.{is_class_of, is_spelled, no_parts, spells_parts}
use Rattle.fm_read.proofs.class_file.class_after_head.Goals as goal

pub returns-in_err-pool-clause-malformed : goal.returns-in_err-pool-clause-malformed
returns-in_err-pool-clause-malformed c = λ e d spells.
    let p = err_from_is_err_and c.from_residual.result c.from_residual.ensures.1 in
    let malformed : c.in_err-pool.field-0.0 ≡ piece.Malformed = cc (p.1, p.2) in
    let parts = spells_parts c.args.version c.args.bytes.now d c.requires spells in
    c.in_err-pool.ensures.malformed (ap (λ f. Err f) malformed) d.pool (raw_body_bytes (raw_of_class d)) parts.starts

pub returns-in_err-body-clause-malformed : goal.returns-in_err-body-clause-malformed
returns-in_err-body-clause-malformed c = λ e d spells.
    let p = err_from_is_err_and c.from_residual-in_err-body.result c.from_residual-in_err-body.ensures.1 in
    let malformed : c.in_err-body.field-0.0 ≡ piece.Malformed = cc (p.1, p.2) in
    let rest = c.in_ok-pool.rest.now in
    let none : body_at rest ≡ None = subst (λ (f : PieceFail). Fails f (body_at rest)) malformed c.in_err-body.ensures in
    no_parts c.args.version c.args.bytes.now c.in_ok-pool.pool rest d c.requires c.in_ok-pool.ensures.found none spells

-- what is after the pool is bytes
rest_is_bytes : (c : goal.In_ok-known) → AreBytes c.in_ok-pool.rest.now
rest_is_bytes c =
    let bytes = c.args.bytes.now in
    rest_bytes bytes c.in_ok-pool.pool c.in_ok-pool.rest.now (all_bytes bytes (λ i. omega (arith, c.type_inv.bytes i))) c.in_ok-pool.ensures.found

pub class_of_parts-requires : goal.class_of_parts-requires
class_of_parts-requires c = (body_takes c.in_ok-pool.rest.now (body_view c.in_ok-body.body) (rest_is_bytes c) c.in_ok-body.ensures).1

pub returns-clause-found : goal.returns-clause-found
returns-clause-found c =
    let version = c.args.version in
    let bytes = c.args.bytes.now in
    let pool = c.in_ok-pool.pool in
    let rest = c.in_ok-pool.rest.now in
    let body = body_view c.in_ok-body.body in
    IfOk-weaker c.class_of_parts.result (IsClassOf version c.in_ok-known.known body) (Spells (head_bytes version ++ bytes)) (
    λ class is_class.
    is_spelled version bytes pool rest body class c.requires c.in_ok-pool.ensures.found
    (rest_bytes bytes pool rest (all_bytes bytes (λ i. omega (arith, c.type_inv.bytes i))) c.in_ok-pool.ensures.found) c.in_ok-body.ensures
    (subst (λ (p : Pool). IsClassOf version p body class) c.in_ok-known.ensures is_class)
    ) c.class_of_parts.ensures.found

pub returns-clause-malformed : goal.returns-clause-malformed
returns-clause-malformed c = λ e d spells.
    let body = body_view c.in_ok-body.body in
    let is_class = is_class_of c.args.version c.args.bytes.now c.in_ok-pool.pool c.in_ok-pool.rest.now body d c.requires c.in_ok-pool.ensures.found c.in_ok-body.ensures spells in
    c.class_of_parts.ensures.malformed e d (subst (λ (p : Pool). IsClassOf c.args.version p body d) (sym c.in_ok-known.ensures) is_class)
