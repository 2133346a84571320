use Rattle.std.proofs.Common.{◌≡◌, ◌+◌, ◌-◌, ◌<◌, arith, length}
use Rattle.fm_link_members.proofs.StartLemmas.{placed_one}
use Rattle.fm_link_members.proofs.search_starts.places_of.Goals as goal

pub loop-left-init : goal.loop-left-init
loop-left-init c = record {
  below = omega (arith, c.in_ok-end.ensures);
  placed = λ i from within. absurd (omega (arith, from, within, c.in_ok-end.ensures));
}

pub bounds-list-left : goal.bounds-list-left
bounds-list-left c = omega (arith, c.loop-left-test.true, c.loop-left.invariant.below)

pub loop-left-preserved : goal.loop-left-preserved
loop-left-preserved c =
    let list = c.args.list.now in
    let left = c.loop-left.left - 1 in
    let here : c.loop-left.left ≡ left + 1 = omega (arith, c.loop-left-test.true) in
    let within : left < length list = omega (arith, here, c.loop-left.invariant.below) in
    record {
      below = omega (arith, within);
      placed = placed_one list c.loop-left.places.items c.put_number.new.numbers.items left
          c.put_number.ensures
          (λ i from inside. c.loop-left.invariant.placed i (omega (arith, from, here)) inside);
    }

pub returns : goal.returns
returns c = λ i within. c.loop-left.invariant.placed i (omega (arith, c.loop-left-test.false)) within
