use Rattle.std.proofs.Common.{arith, ap, sym, ◌∙◌, ◌+◌, drop}
use Rattle.fm_base.proofs.ListFacts.{drop_here}
use Rattle.fm_layout.proofs.RoomsLemmas.{end_grows}
use Rattle.fm_layout.specs.Rooms.{end_from, rooms_of, size_at}
use Rattle.fm_layout.proofs.rounds.narrow_length.Goals as goal

pub overflow_add-end : goal.overflow_add-end
overflow_add-end c =
    let old = c.args.old.now in
    let items = c.args.items.now in
    let k = c.loop-new.new-index in
    let step = sym (ap (λ news. end_from c.loop-new.end (rooms_of old news)) (drop_here items k c.new-item.result c.loop-new-test.true c.new-item.is)) ∙ c.loop-new.invariant in
    let room = ap (λ r. size_at c.loop-new.end r) c.of.ensures in
    let size = c.size_at-end.ensures in
    let later = end_grows (c.loop-new.end + size_at c.loop-new.end c.of.result) (rooms_of old (drop (k + 1) items)) in
    let same = ap (λ r. end_from (c.loop-new.end + size_at c.loop-new.end r) (rooms_of old (drop (k + 1) items))) c.of.ensures in
    omega arith
