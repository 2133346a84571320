use Rattle.std.proofs.Common.{◌≡◌, ℕ, ◌+◌, ◌<◌, List, map, length, get_or, subst, sym, ap, ◌∙◌, arith}
use Rattle.std.proofs.Math.ListN.{set}
use Rattle.std.proofs.lemmas.List.{get_or-map}
use Rattle.fm_code.specs.declared.code_array.Item.{Item}
use Rattle.fm_decode.specs.inner.Targets.{item_offset}
use Rattle.fm_decode.proofs.TargetsLemmas.{AreStartsUpTo, rising_le, starts_more, starts_all, length-offsets}
use Rattle.fm_decode.proofs.targets.ItemStarts.of.Goals as goal

pub overflow_cast-number : goal.overflow_cast-number
overflow_cast-number c =
    let offsets = map item_offset c.args.items.now in
    let size = length-offsets c.args.items.now in
    let below = rising_le offsets c.loop-number.number c.requires.rising (omega arith) in
    let within = c.requires.within c.loop-number.number (omega arith) in
    let short = c.requires.short in
    omega arith

-- where the item starts
start_is : (items : List Item) (k : ℕ) (item : Item) → k < length items → item ≡ get_or items k item → item.offset ≡ get_or (map item_offset items) k 0
start_is items k item within is = ap item_offset is ∙ sym (get_or-map item_offset items k item 0 within)

pub index_mut-requires : goal.index_mut-requires
index_mut-requires c =
    let size = length-offsets c.args.items.now in
    let here = start_is c.args.items.now c.loop-number.number c.index-items-number.result c.loop-number-test.true c.index-items-number.is in
    let within = c.requires.within c.loop-number.number (omega arith) in
    omega (arith, c.loop-number.numbers.ok, c.loop-number.invariant.size)

pub loop-number-preserved : goal.loop-number-preserved
loop-number-preserved c =
    let offsets = map item_offset c.args.items.now in
    let k = c.loop-number.number in
    let size = length-offsets c.args.items.now in
    let here = start_is c.args.items.now k c.index-items-number.result c.loop-number-test.true c.index-items-number.is in
    let more = starts_more offsets c.args.length c.loop-number.numbers.items k c.requires.rising c.requires.within (omega arith) c.loop-number.invariant in
    subst (λ (n : ℕ). AreStartsUpTo offsets c.args.length (set c.loop-number.numbers.items n k) (k + 1)) (sym here) more

pub returns-clause-ok : goal.returns-clause-ok
returns-clause-ok c =
    let offsets = map item_offset c.args.items.now in
    let size = length-offsets c.args.items.now in
    let all : c.loop-number.number ≡ length offsets = omega (arith, c.loop-number.auto.number-end, c.loop-number-test.false) in
    starts_all offsets c.args.length c.loop-number.numbers.items c.loop-number.number c.requires.rising c.requires.within c.requires.short all c.loop-number.invariant
