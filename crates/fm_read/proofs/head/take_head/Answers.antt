use Rattle.std.proofs.Common.{◌≡◌, Err, ap, subst, arith, rules}
use Rattle.fm_base.proofs.TestFacts.{refuted}
use Rattle.fm_code.specs.Profile.{HasOtherVersion, IsAcceptedVersion}
use Rattle.fm_code.proofs.Pieces.{all_bytes}
use Rattle.fm_read.specs.declared.head.Version.{Version}
use Rattle.fm_read.specs.declared.error.ReadFail.TheVariants as read
use Rattle.fm_read.specs.inner.Head.{head_at}
use Rattle.fm_read.proofs.HeadLemmas.{none_told, nothing_read, same_version, is_other, has_head}
use Rattle.fm_read.proofs.head.take_head.Goals as goal

pub returns-in_err-version-clause-other_version : goal.returns-in_err-version-clause-other_version
returns-in_err-version-clause-other_version c = λ major minor other.
    let nothing = nothing_read c.in_err-version.field-0.0 (head_at c.args.bytes.now) c.in_err-version.ensures.taken
    (λ memory. c.in_err-version.ensures.malformed_alone (ap (λ f. Err f) memory)) in
    absurd (none_told c.args.bytes.now major minor nothing other.version)

pub returns-in_err-version-clause-malformed : goal.returns-in_err-version-clause-malformed
returns-in_err-version-clause-malformed c = λ e major minor has.
    let nothing = nothing_read c.in_err-version.field-0.0 (head_at c.args.bytes.now) c.in_err-version.ensures.taken
    (λ memory. c.in_err-version.ensures.malformed_alone (ap (λ f. Err f) memory)) in
    none_told c.args.bytes.now major minor nothing has

pub returns-then-not-is_accepted-clause-version : goal.returns-then-not-is_accepted-clause-version
returns-then-not-is_accepted-clause-version c = λ major minor e.
    let v = c.in_ok-version.version in
    let other : HasOtherVersion c.args.bytes.now v.major v.minor =
    is_other c.args.bytes.now v c.in_ok-version.rest.now (all_bytes c.args.bytes.now (λ i. omega (arith, c.type_inv.bytes i))) c.in_ok-version.ensures.taken
    (refuted c.is_accepted.result (IsAcceptedVersion v.major v.minor) c.is_accepted.ensures (search rules)) in
    let major_is : v.major ≡ major = cc in
    let minor_is : v.minor ≡ minor = cc in
    rw (← major_is, ← minor_is) other

pub returns-then-not-is_accepted-clause-other_version : goal.returns-then-not-is_accepted-clause-other_version
returns-then-not-is_accepted-clause-other_version c = λ major minor other.
    let same = same_version c.args.bytes.now c.in_ok-version.version c.in_ok-version.rest.now major minor c.in_ok-version.ensures.taken other.version in
    ap (λ (v : Version). Err (read.Version v.major v.minor)) same

pub returns-clause-found : goal.returns-clause-found
returns-clause-found c =
    has_head c.args.bytes.now c.in_ok-version.version c.in_ok-version.rest.now (all_bytes c.args.bytes.now (λ i. omega (arith, c.type_inv.bytes i))) c.in_ok-version.ensures.taken

pub returns-clause-other_version : goal.returns-clause-other_version
returns-clause-other_version c = λ major minor other.
    let v = c.in_ok-version.version in
    let same = same_version c.args.bytes.now v c.in_ok-version.rest.now major minor c.in_ok-version.ensures.taken other.version in
    let accepted : IsAcceptedVersion v.major v.minor = c.is_accepted.ensures.0 (search rules) in
    absurd (other.other (subst (λ (w : Version). IsAcceptedVersion w.major w.minor) same accepted))
