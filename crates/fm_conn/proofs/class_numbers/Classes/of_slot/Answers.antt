use Rattle.std.proofs.Common.{◌∙◌, ap, sym, arith}
use Rattle.fm_conn.proofs.TableLemmas.{class_read, slot_class, slot_numbered}
use Rattle.fm_conn.specs.Nodes.{Slot}
use Rattle.fm_conn.specs.inner.NodeTables.{class_at, class_in}
use Rattle.fm_conn.proofs.class_numbers.Classes.of_slot.Goals as goal

pub index-requires : goal.index-requires
index-requires c =
    let near = slot_numbered c.args.self.now.nodes c.args.j c.from.result c.in_ok-number.number (sym c.slot.ensures ∙ c.in_ok-number.was) in
    let below = near.below in
    omega (arith, c.args.self.now.one_each)

pub returns-clause-class : goal.returns-clause-class
returns-clause-class c =
    let t = c.args.self.now.nodes in
    let least = c.args.self.now.least.items in
    let near = slot_numbered t c.args.j c.from.result c.in_ok-number.number (sym c.slot.ensures ∙ c.in_ok-number.was) in
    let below = near.below in
    class_read least c.in_ok-number.number c.index.result.now (omega (arith, c.args.self.now.one_each)) c.index.ensures
    ∙ ap (class_at least) (sym near.is)
    ∙ slot_class t least c.args.j c.from.result near.here
    ∙ ap (λ d. class_in t least (Slot c.args.j d)) c.from.ensures
