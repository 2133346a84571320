use Rattle.std.proofs.Common.{sym, subst, length}
use Rattle.fm_link_refusals.specs.inner.LeftOver.{AreAskedOf, AreOwners}
use Rattle.fm_link_refusals.proofs.left_over.LeftOver.of.Goals as goal

pub returns : goal.returns
returns c =
    let m = c.args.linking.methods.now in
    let h = c.args.linking.hierarchy.now in
    record {
      counts = λ classes linked.
          c.in_ok-found.ensures.counts classes
          (record {
            linking = linked;
            owners = subst (AreOwners classes m (length m.members.rows.items)) (sym c.as_slice.ensures.value) (c.in_ok-owners.ensures classes linked);
            asked = subst (AreAskedOf classes h.order.items) (sym c.as_slice-2.ensures.value) (c.in_ok-asked.ensures classes linked);
          });
      rows = λ classes linked.
          c.in_ok-found.ensures.rows classes
          (record {
            linking = linked;
            owners = subst (AreOwners classes m (length m.members.rows.items)) (sym c.as_slice.ensures.value) (c.in_ok-owners.ensures classes linked);
            asked = subst (AreAskedOf classes h.order.items) (sym c.as_slice-2.ensures.value) (c.in_ok-asked.ensures classes linked);
          });
    }
