use Rattle.std.proofs.Common.{◌∙◌, ap, arith, get_or, length, length-set, List, [], ◌∷◌, ◌++◌, ℕ}
use Rattle.std.proofs.lemmas.List.{length-replicate}
use Rattle.fm_link_supers.specs.inner.ListTables.{lists}
use Rattle.fm_link_members.proofs.NearestLemmas.{signature_below}
use Rattle.fm_link_members.proofs.OwnerLemmas.{owners_more}
use Rattle.fm_link_members.proofs.SignatureLemmas.{count_of_signatures}
use Rattle.fm_link_members.specs.inner.MemberRows.{no_row}
use Rattle.fm_link_members.specs.inner.Owners.{pushed}
use Rattle.fm_link_members.proofs.owners.owners_of.Goals as goal

pub loop-member-init : goal.loop-member-init
loop-member-init c = record {
  long = let none : List ℕ = [] in ap length c.in_ok-owners.ensures ∙ length-replicate c.args.signatures.now.count none;
  have = λ k below. absurd (omega (arith, below));
}

pub loop-member-preserved : goal.loop-member-preserved
loop-member-preserved c =
    let rows = c.args.members.now.rows.items in
    let signatures = c.args.signatures.now.of_members.items in
    let old = lists c.loop-member.owners.items in
    let member = c.loop-member.member in
    let long = c.loop-member.invariant.long in
    let count = c.requires.count in
    let signed = count_of_signatures rows c.args.signatures.now c.requires in
    let below = signature_below rows c.args.signatures.now c.requires member (omega (arith, c.loop-member-test.true, count, signed)) in
    record {
      long = ap length c.in_ok-push_at.ensures
          ∙ length-set old c.of_member.result (get_or old c.of_member.result [] ++ c.row_at-class.result.class ∷ []) ∙ long;
      have = owners_more rows signatures c.loop-member.owners.items c.push_at.new.table.items member (omega (arith, below, long, count))
          (c.in_ok-push_at.ensures ∙ ap (λ n. pushed old n c.row_at-class.result.class) c.of_member.ensures
          ∙ ap (λ r. pushed old (get_or signatures member 0) r.class) (c.row_at-class.ensures ∙ ap (λ xs. get_or xs member no_row) c.as_slice.ensures.value))
          c.loop-member.invariant.have;
    }

pub returns : goal.returns
returns c = λ k below.
    let count = c.requires.count in
    c.loop-member.invariant.have k (omega (arith, below, c.loop-member-test.false, count))
