use Rattle.fm_frames.proofs.ValueLists.{top-read, int-read, long-read, ref-read}
use Rattle.fm_frames.proofs.value_list.value_of.Goals as goal

pub returns-in-Top : goal.returns-in-Top
returns-in-Top c = top-read c.args.kind c.args.bits c.in-Top.is

pub returns-in-Int : goal.returns-in-Int
returns-in-Int c =
    int-read c.args.kind c.args.bits c.low_half.result c.cast_signed.result c.in-Int.is c.low_half.ensures c.cast_signed.ensures

pub returns-in-Long : goal.returns-in-Long
returns-in-Long c = long-read c.args.kind c.args.bits c.cast_signed-in-Long.result c.in-Long.is c.cast_signed-in-Long.ensures c.ranges.bits.fits

pub returns-in-Ref : goal.returns-in-Ref
returns-in-Ref c = ref-read c.args.kind c.args.bits c.low_half-in-Ref.result c.in-Ref.is c.low_half-in-Ref.ensures
