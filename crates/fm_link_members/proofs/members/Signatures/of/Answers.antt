use Rattle.std.proofs.Common.{◌≡◌, ◌∙◌, ◌<◌, sym, ap, arith, get_or, length, map, take}
use Rattle.std.specs.List.{position_from}
use Rattle.std.proofs.lemmas.Iterator.Adapters.{position_from-zero}
use Rattle.std.proofs.lemmas.List.{get_or_default, take_all}
use Rattle.fm_link_members.proofs.SignatureSteps.{numbers_one, of_members_one, signature_one}
use Rattle.fm_link_members.specs.declared.members.MemberRow.{MemberRow}
use Rattle.fm_link_members.specs.inner.MemberRows.{no_row}
use Rattle.fm_link_members.specs.inner.MemberTables.{has_key, signature_of}
use Rattle.fm_link_members.proofs.members.Signatures.of.Goals as goal

pub loop-place-preserved : goal.loop-place-preserved
loop-place-preserved c =
    let rows = c.args.rows.now in
    let place = c.loop-place.place in
    let row = c.row_at-row.result in
    let within : place < length rows = omega (arith, c.loop-place-test.true, c.in_ok-count.ensures) in
    let here : row ≡ get_or rows place row = c.row_at-row.ensures ∙ get_or_default rows place no_row row within in
    let all = numbers_one rows place row c.loop-place.numbers c.add_signature.new.numbers c.in_ok-signature.signature within here
    c.loop-place.invariant.numbered c.in_ok-signature.ensures.number c.in_ok-signature.ensures.updates in
    let own = signature_one rows place row c.loop-place.numbers c.add_signature.new.numbers c.in_ok-signature.signature all
    c.in_ok-signature.ensures.updates in
    record {
      numbered = all;
      of_members =
          of_members_one rows place row c.loop-place.of_members.items c.push.new.self.items c.in_ok-signature.signature within here
          c.in_ok-push.ensures.items own c.loop-place.invariant.of_members;
    }

pub returns : goal.returns
returns c =
    let rows = c.args.rows.now in
    let done : take c.loop-place.place rows ≡ rows =
    take_all c.loop-place.place rows (omega (arith, c.loop-place-test.false, c.in_ok-count.ensures)) in
    record {
      numbered = λ name descriptor.
          c.loop-place.invariant.numbered name descriptor ∙ ap (position_from (has_key name descriptor) 0) done
          ∙ sym (position_from-zero (has_key name descriptor) rows);
      of_members = c.loop-place.invariant.of_members ∙ ap (map (λ (r : MemberRow). signature_of rows r.name r.descriptor)) done;
      count = c.in_ok-count.ensures;
    }
