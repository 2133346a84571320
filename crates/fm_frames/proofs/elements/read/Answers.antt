use Rattle.fm_frames.proofs.Bits.{boolean-read, byte-read, char-read, int-read, long-read, ref-read, short-read}
use Rattle.fm_frames.proofs.elements.read.Goals as goal

pub returns-in-Boolean : goal.returns-in-Boolean
returns-in-Boolean c = boolean-read c.args.kind c.args.element c.in-Boolean.is c.requires

pub returns-in-Byte : goal.returns-in-Byte
returns-in-Byte c = byte-read c.args.kind c.args.element c.cast_signed.result c.in-Byte.is c.requires c.cast_signed.ensures

pub returns-in-Char : goal.returns-in-Char
returns-in-Char c = char-read c.args.kind c.args.element c.in-Char.is c.requires

pub returns-in-Short : goal.returns-in-Short
returns-in-Short c =
    short-read c.args.kind c.args.element c.cast_signed-in-Short.result c.in-Short.is c.requires c.cast_signed-in-Short.ensures

pub returns-in-Int : goal.returns-in-Int
returns-in-Int c = int-read c.args.kind c.args.element c.cast_signed-in-Int.result c.in-Int.is c.requires c.cast_signed-in-Int.ensures

pub returns-in-Long : goal.returns-in-Long
returns-in-Long c =
    long-read c.args.kind c.args.element c.cast_signed-in-Long.result c.in-Long.is c.requires c.cast_signed-in-Long.ensures

pub returns-in-Ref : goal.returns-in-Ref
returns-in-Ref c = ref-read c.args.kind c.in-Ref.field-0 c.args.element c.in-Ref.is
