use Rattle.std.proofs.Common.{arith}
use Rattle.fm_layout.specs.inner.Spots.{room_at}
use Rattle.fm_layout.proofs.ChangeLemmas.{fits_all, growth_le, one_change, one_moved, one_widened}
use Rattle.fm_layout.proofs.rounds.widen_one.Goals as goal

pub change_of-change-requires : goal.change_of-change-requires
change_of-change-requires c = let bound = growth_le (room_at c.args.rooms.now c.args.item) in omega (arith, c.growth.ensures)

pub move_spots-requires : goal.move_spots-requires
move_spots-requires c =
    fits_all c.args.rooms.now c.args.spots.now c.change_of-change.result c.requires.tracks
    (one_change c.args.rooms.now c.args.spots.now c.args.item c.growth.result c.change_of-change.result c.requires.tracks c.requires.within c.growth.ensures c.change_of-change.ensures).0

pub returns-clause-widened : goal.returns-clause-widened
returns-clause-widened c = one_widened c.args.rooms.now c.args.item c.widened-wider.result c.widened-wider.ensures

pub returns-clause-tracks : goal.returns-clause-tracks
returns-clause-tracks c =
    one_moved c.args.rooms.now c.args.spots.now c.args.item c.change_of-change.result c.widened-wider.result c.move_spots.new.spots c.requires.tracks
    (one_change c.args.rooms.now c.args.spots.now c.args.item c.growth.result c.change_of-change.result c.requires.tracks c.requires.within c.growth.ensures c.change_of-change.ensures)
    c.widened-wider.ensures c.move_spots.ensures
