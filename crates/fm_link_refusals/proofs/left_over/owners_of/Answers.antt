use Rattle.std.proofs.Common.{◌∙◌, ap, arith, cond, get_or, length, List, [], ℕ}
use Rattle.std.proofs.lemmas.List.{length-replicate}
use Rattle.fm_link_supers.specs.inner.ListTables.{lists}
use Rattle.fm_link_names.specs.inner.Numbering.{texts_in}
use Rattle.fm_link_members.proofs.SectionRows.{AreSections-methods}
use Rattle.fm_link_refusals.proofs.LeftOverCounts.{signed_below}
use Rattle.fm_link_refusals.proofs.Owners.{length-pushed, owners-all, owners-more, owners-none}
use Rattle.fm_link_members.specs.inner.Owners.{pushed}
use Rattle.fm_link_refusals.proofs.left_over.owners_of.Goals as goal

pub loop-method-init : goal.loop-method-init
loop-method-init c = record {
  long = let none : List ℕ = [] in ap length c.in_ok-owners.ensures ∙ length-replicate c.args.linking.methods.now.signatures.count none;
  are = λ classes linked. owners-none classes c.args.linking.methods.now _ c.in_ok-owners.owners.items c.in_ok-owners.ensures;
}

pub loop-method-preserved : goal.loop-method-preserved
loop-method-preserved c =
    let m = c.args.linking.methods.now in
    let old = lists c.loop-method.owners.items in
    let method = c.loop-method.method in
    let test = c.can_be_met-is_met.result in
    record {
      long = ap length c.in_ok-push_if.ensures ∙ length-pushed test old c.of_member-signature.result c.class_of-class.result
          ∙ c.loop-method.invariant.long;
      are = λ classes linked.
          let count = linked.methods.signatures.count in
          let below = signed_below (texts_in c.args.linking.texts.now) classes m linked.methods method (omega (arith, c.loop-method-test.true, count)) in
          let long = c.loop-method.invariant.long in
          owners-more classes m c.loop-method.owners.items c.push_if.new.table.items method test
          (AreSections-methods (texts_in c.args.linking.texts.now) classes m.members linked.methods.rows)
          (omega (arith, c.loop-method-test.true, count)) (omega (arith, below, long, count)) (c.can_be_met-is_met.ensures classes linked)
          (c.in_ok-push_if.ensures ∙ ap (λ n. cond test (pushed old n c.class_of-class.result) old) c.of_member-signature.ensures
          ∙ ap (λ n. cond test (pushed old (get_or m.signatures.of_members.items method 0) n) old) c.class_of-class.ensures)
          (c.loop-method.invariant.are classes linked);
    }

pub returns : goal.returns
returns c = λ classes linked.
    let m = c.args.linking.methods.now in
    let count = linked.methods.signatures.count in
    owners-all classes m c.loop-method.owners.items c.loop-method.method
    (AreSections-methods (texts_in c.args.linking.texts.now) classes m.members linked.methods.rows)
    (omega (arith, c.loop-method-test.false, count)) (c.loop-method.invariant.are classes linked)
