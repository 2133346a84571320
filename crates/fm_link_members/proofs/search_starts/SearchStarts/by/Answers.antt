use Rattle.std.proofs.Common.{sym}
use Rattle.fm_link_members.proofs.StartLemmas.{none_noted}
use Rattle.fm_link_members.specs.inner.SearchStarts.{list_along}
use Rattle.fm_link_members.proofs.search_starts.SearchStarts.by.Goals as goal

pub loop-class-init : goal.loop-class-init
loop-class-init c = λ finding.
    none_noted (list_along c.args.hierarchy.now c.args.along) c.args.finding.members.now.rows.items
    c.args.finding.signatures.now.of_members.items (record { places = c.new.result }) c.new.ensures.empty

pub loop-class-preserved : goal.loop-class-preserved
loop-class-preserved c = λ finding.
    c.in_ok-add_class.ensures (list_along c.args.hierarchy.now c.args.along) finding (sym c.list_along-list.ensures)
    (c.loop-class.invariant finding)

pub returns : goal.returns
returns c = λ finding. c.loop-class.invariant finding
