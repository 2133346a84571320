use Rattle.std.proofs.Common.{◌∙◌, ◌<◌, length, get_or, ap, sym, arith}
use Rattle.std.proofs.lemmas.Bool.{ltb-true}
use Rattle.fm_conn.proofs.TableLemmas.{slot_read, starts_count, SlotRead}
use Rattle.fm_conn.specs.inner.NodeTables.{slot_number, table_in}
use Rattle.fm_conn.proofs.nodes.Nodes.slot.Goals as goal

pub index-requires : goal.index-requires
index-requires c =
    let t = table_in c.self.inside.locals c.self.inside.words.items in
    let inside : c.args.item < length c.deref.result.now = ltb-true c.args.item (length c.deref.result.now) (sym c.in_ok-words.ensures.lookup.0) in
    omega (arith, starts_count t c.self.inside.starts.items c.self.invariant, ap length c.deref.ensures.value)

-- what was read
read : (c : goal.After-row_known-1) →
    SlotRead (table_in c.self.inside.locals c.self.inside.words.items) c.self.inside.starts.items c.args.item c.args.depth c.index.result.now
read c =
    let t = table_in c.self.inside.locals c.self.inside.words.items in
    let w = c.in_ok-words.words.now in
    let inside : c.args.item < length c.deref.result.now = ltb-true c.args.item (length c.deref.result.now) (sym c.in_ok-words.ensures.lookup.0) in
    let low : c.args.depth < length w = ltb-true c.args.depth (length w) (sym c.in_ok-get.ensures.0) in
    slot_read t c.self.inside.starts.items c.args.item c.args.depth w c.in_ok-get.field-0.now c.index.result.now c.self.invariant
    (omega (arith, ap length c.deref.ensures.value))
    (c.in_ok-words.ensures.lookup.1 ∙ ap (λ list. get_or list c.args.item w) c.deref.ensures.value)
    low c.in_ok-get.ensures.1 c.if-branch.true c.index.ensures

pub overflow_cast-result : goal.overflow_cast-result
overflow_cast-result c = let fits = (read c).start_fits in omega arith

pub overflow_add-result : goal.overflow_add-result
overflow_add-result c = let fits = (read c).start_fits in omega arith

pub returns-then-branch : goal.returns-then-branch
returns-then-branch c = sym (read c).number ∙ ap (λ t. slot_number t c.args.item c.args.depth) c.self.view_is
