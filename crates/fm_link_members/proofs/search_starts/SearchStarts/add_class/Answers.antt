use Rattle.std.proofs.Common.{sym, subst}
use Rattle.fm_link_members.specs.inner.SearchStarts.{ArePlaces}
use Rattle.fm_link_members.proofs.search_starts.SearchStarts.add_class.Goals as goal

pub loop-signature-init : goal.loop-signature-init
loop-signature-init c = λ f finding list are. are

pub loop-signature-preserved : goal.loop-signature-preserved
loop-signature-preserved c = λ f finding list are.
    c.in_ok-add.ensures f finding list
    (subst (ArePlaces c.args.list.now) (sym c.as_slice.ensures.value) c.in_ok-places.ensures)
    (c.loop-signature.invariant f finding list are)

pub returns : goal.returns
returns c = λ f finding list are. c.loop-signature.invariant f finding list are
