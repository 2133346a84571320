use Rattle.std.proofs.Common.{◌∙◌, ap, filter, false, get_or, length}
use Rattle.std.specs.List.{range_with_len}
use Rattle.fm_world.specs.Uses.{is_used}
use Rattle.fm_link_records.proofs.MarkedPlaces.{places_of}
use Rattle.fm_link_records.proofs.named.uses_in_order.Goals as goal

pub returns : goal.returns
returns c =
    places_of (is_used c.args.class.now) (length c.args.class.now.pool.entries) c.in_ok-used.used.items c.in_ok-uses.uses.items c.in_ok-used.ensures
    (c.in_ok-uses.ensures ∙ ap (λ ms. filter (λ k. get_or ms k false) (range_with_len 0 (length ms))) c.as_slice.ensures.value)
