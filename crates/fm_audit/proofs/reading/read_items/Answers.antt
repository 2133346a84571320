use Rattle.std.proofs.Common.{rules, ◌≡◌, ◌==◌, ◌+◌, true, false, List, length, drop, subst, sym}
use Rattle.std.specs.Option.{option_map}
use Rattle.fm_code.specs.declared.code_array.Item.{Item}
use Rattle.fm_audit.proofs.ReadingLemmas.{cut_at, read_more, read_stops}
use Rattle.fm_audit.specs.Reading.{read_from, with_pairs}
use Rattle.fm_audit.proofs.reading.read_items.Goals as goal

pub returns-then-is_empty : goal.returns-then-is_empty
returns-then-is_empty c =
    let none : (length c.in_ok-here.here.now == 0) ≡ true = search rules in
    sym (read_stops c.args.free c.args.first c.loop-index.index c.loop-index.index c.args.old.now c.loop-index.rest.now c.in_ok-here.here.now
    c.loop-index.before.items c.loop-index.after.items (read_from c.args.free c.args.first 0 c.args.old.now c.args.new.now)
    c.loop-index-test.true c.in_ok-here.ensures.rest none c.loop-index.invariant)

pub loop-index-preserved : goal.loop-index-preserved
loop-index-preserved c =
    let some : (length c.in_ok-here.here.now == 0) ≡ false = search rules in
    let whole = read_from c.args.free c.args.first 0 c.args.old.now c.args.new.now in
    let i = c.loop-index.index in
    read_more c.args.free c.args.first i c.index-old-index.result (drop (i + 1) c.args.old.now) c.loop-index.rest.now c.in_ok-here.here.now
    c.after_kept-next.result.now c.in_ok-rest.rest.now c.loop-index.before.items c.loop-index.after.items c.put_frees.new.before.items
    c.put_taken.new.after.items whole c.in_ok-here.ensures.rest some c.after_kept-next.ensures c.in_ok-rest.ensures.rest c.in_ok-here.ensures.put
    c.in_ok-rest.ensures.put
    (subst (λ (items : List Item). option_map (with_pairs c.loop-index.before.items c.loop-index.after.items)
    (read_from c.args.free c.args.first i items c.loop-index.rest.now) ≡ whole)
    (cut_at c.args.old.now i c.index-old-index.result c.loop-index-test.true c.index-old-index.is) c.loop-index.invariant)
