use Rattle.std.proofs.Common.{◌≡◌, ◌∙◌, ap, false, filter, get_or, length, arith}
use Rattle.std.specs.List.{range_with_len}
use Rattle.fm_link_records.proofs.MarkedPlaces.{places_more}
use Rattle.fm_link_records.proofs.named.marked_places.Goals as goal

pub loop-place-preserved : goal.loop-place-preserved
loop-place-preserved c =
    places_more (λ k. get_or c.args.marks.now k false) c.loop-place.place c.loop-place.places.items c.push_if.new.uses.items c.in_ok-index.index
    c.loop-place.invariant c.in_ok-index.ensures c.in_ok-push_if.ensures

pub returns : goal.returns
returns c =
    let end = c.loop-place.auto.place-end in
    let all : c.loop-place.place ≡ length c.args.marks.now = omega (arith, c.loop-place-test.false, end) in
    c.loop-place.invariant ∙ ap (λ n. filter (λ k. get_or c.args.marks.now k false) (range_with_len 0 n)) all
