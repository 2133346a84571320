use Rattle.std.proofs.Common.{◌<◌, arith, length, subst, sym}
use Rattle.fm_link_members.proofs.StartLemmas.{place_fits, start_added}
use Rattle.fm_link_members.specs.inner.MemberTables.{IsStart}
use Rattle.fm_link_members.proofs.search_starts.SearchStarts.add.Goals as goal

pub returns : goal.returns
returns c = λ f finding list places are.
    let rows = c.args.finding.members.now.rows.items in
    let signatures = c.args.finding.signatures.now.of_members.items in
    let below : c.args.signature < length rows = omega (arith, c.if-signature-finding.false, finding.signatures.count) in
    start_added f rows signatures c.args.self.now (record { places = c.add_signature.new.numbers }) c.args.class c.args.signature c.first_place-place.result
    c.in_ok-add_signature.field-0 c.in_ok-add_signature.ensures.updates c.in_ok-add_signature.ensures.number
    (subst (λ xs. IsStart xs rows signatures c.args.signature c.first_place-place.result) (sym list)
    (place_fits rows signatures c.args.list.now c.args.places.now c.args.signature c.first_place-place.result places
    (λ k within signed. c.first_place-place.ensures k finding below within signed)))
    are
