use Rattle.std.proofs.Common.{arith}
use Rattle.fm_base.specs.declared.kinds.Kind.TheVariants as kind
use Rattle.fm_frames.proofs.Bits.{bits-kept, long-kept}
use Rattle.fm_frames.proofs.elements.low_bits.Goals as goal

pub returns-in-Boolean : goal.returns-in-Boolean
returns-in-Boolean c =
    bits-kept c.args.kind kind.Boolean c.args.n c.cast_unsigned-bits.result c.in-Boolean.is c.cast_unsigned-bits.ensures c.ranges.n (omega arith)

pub returns-in-Byte : goal.returns-in-Byte
returns-in-Byte c =
    bits-kept c.args.kind kind.Byte c.args.n c.cast_unsigned-bits.result c.in-Byte.is c.cast_unsigned-bits.ensures c.ranges.n (omega arith)

pub returns-in-Char : goal.returns-in-Char
returns-in-Char c =
    bits-kept c.args.kind kind.Char c.args.n c.cast_unsigned-bits.result c.in-Char.is c.cast_unsigned-bits.ensures c.ranges.n (omega arith)

pub returns-in-Short : goal.returns-in-Short
returns-in-Short c =
    bits-kept c.args.kind kind.Short c.args.n c.cast_unsigned-bits.result c.in-Short.is c.cast_unsigned-bits.ensures c.ranges.n (omega arith)

pub returns-in-Int : goal.returns-in-Int
returns-in-Int c =
    bits-kept c.args.kind kind.Int c.args.n c.cast_unsigned-bits.result c.in-Int.is c.cast_unsigned-bits.ensures c.ranges.n (omega arith)

pub returns-in-Long : goal.returns-in-Long
returns-in-Long c = long-kept c.args.kind c.args.n c.cast_unsigned-bits.result c.in-Long.is c.cast_unsigned-bits.ensures c.ranges.n

pub returns-in-Ref : goal.returns-in-Ref
returns-in-Ref c =
    bits-kept c.args.kind (kind.Ref c.in-Ref.field-0) c.args.n c.cast_unsigned-bits.result c.in-Ref.is c.cast_unsigned-bits.ensures c.ranges.n (omega arith)
