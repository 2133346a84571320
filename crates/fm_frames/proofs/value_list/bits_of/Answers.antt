use Rattle.std.proofs.Common.{rules}
use Rattle.fm_frames.proofs.ValueLists.{top-kept, int-kept, long-kept, ref-kept}
use Rattle.fm_frames.proofs.value_list.bits_of.Goals as goal

pub returns-in-Top : goal.returns-in-Top
returns-in-Top c = top-kept c.args.value 0 c.in-Top.is

pub returns-in-Int : goal.returns-in-Int
returns-in-Int c = int-kept c.args.value c.in-Int.n c.cast_unsigned.result c.in-Int.is c.cast_unsigned.ensures (search rules)

pub returns-in-Long : goal.returns-in-Long
returns-in-Long c = long-kept c.args.value c.in-Long.n c.cast_unsigned-in-Long.result c.in-Long.is c.cast_unsigned-in-Long.ensures (search rules)

pub returns-in-Ref : goal.returns-in-Ref
returns-in-Ref c = ref-kept c.args.value c.in-Ref.cell.0 c.in-Ref.is (search rules)
