use Rattle.std.proofs.Common.{◌≡◌, ℕ, ap, List, Err, sym, subst}
use Rattle.std.proofs.lemmas.Result.{err_from_is_err_and}
use Rattle.fm_code.specs.Profile.{IsAcceptedVersion}
use Rattle.fm_code.specs.Spells.{Spells}
use Rattle.fm_code.proofs.ClassLaw.{one_record}
use Rattle.fm_read.specs.declared.error.ReadFail.TheVariants as read
use Rattle.fm_read.specs.declared.head.Version.{Version}
use Rattle.fm_read.proofs.WholeClass.{spells_parts}
use Rattle.fm_read.proofs.WholeFile.{is_malformed, only_no_memory}
use Rattle.fm_read.proofs.class_file.read_class.Goals as goal

pub returns-in_err-version-clause-read : goal.returns-in_err-version-clause-read
returns-in_err-version-clause-read c = λ d spells accepted.
    let p = err_from_is_err_and c.from_residual.result c.from_residual.ensures.1 in
    let refused = c.in_err-version.ensures in
    rw (p.1, p.2) (only_no_memory c.args.bytes.now d c.in_err-version.field-0.0 (λ e. refused.malformed (ap (λ f. Err f) e)) (λ major minor e. refused.version major minor (ap (λ f. Err f) e)) spells accepted)

pub returns-in_err-version-clause-version : goal.returns-in_err-version-clause-version
returns-in_err-version-clause-version c = λ major minor e.
    let p = err_from_is_err_and c.from_residual.result c.from_residual.ensures.1 in
    let version : c.in_err-version.field-0.0 ≡ read.Version major minor = cc (p.1, p.2) in
    c.in_err-version.ensures.version major minor (ap (λ f. Err f) version)

pub returns-in_err-version-clause-malformed : goal.returns-in_err-version-clause-malformed
returns-in_err-version-clause-malformed c = λ e.
    let p = err_from_is_err_and c.from_residual.result c.from_residual.ensures.1 in
    let malformed : c.in_err-version.field-0.0 ≡ read.Malformed = cc (p.1, p.2) in
    is_malformed c.args.bytes.now (c.in_err-version.ensures.malformed (ap (λ f. Err f) malformed))

pub returns-clause-accepted : goal.returns-clause-accepted
returns-clause-accepted c =
    let class = c.in_ok-class.class in
    let parts = spells_parts c.in_ok-version.version c.in_ok-version.rest.now class c.in_ok-version.ensures.found.fits c.in_ok-class.ensures.found in
    subst (λ (v : Version). IsAcceptedVersion v.major v.minor) parts.version_is c.in_ok-version.ensures.accepted

pub returns-clause-read : goal.returns-clause-read
returns-clause-read c = λ d spells accepted.
    let bytes = c.args.bytes.now in
    let class = c.in_ok-class.class in
    let found : Spells bytes class = subst (λ (w : List ℕ). Spells w class) (sym c.in_ok-version.ensures.found.bytes_are) c.in_ok-class.ensures.found in
    one_record bytes class d found spells
