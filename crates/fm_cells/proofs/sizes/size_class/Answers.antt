use Rattle.std.proofs.Common.{◌-◌, ◌^◌, ◌<◌, arith}
use Rattle.fm_cells.proofs.SizeLaws.{size_class-up_to_32, size_class-power, exponent_below, pow-next}
use Rattle.fm_cells.proofs.sizes.size_class.Goals as goal

pub returns-then-words-le32 : goal.returns-then-words-le32
returns-then-words-le32 c = size_class-up_to_32 c.args.words (omega arith)

pub overflow_add-class : goal.overflow_add-class
overflow_add-class c =
    let small : 2 ^ (c.loop-cell.class - 27) < 2 ^ 32 = omega arith in
    let exponent : c.loop-cell.class - 27 < 32 = exponent_below _ 32 small in
    omega arith

pub loop-cell-preserved : goal.loop-cell-preserved
loop-cell-preserved c = record {
  above = omega arith;
  cell_is = pow-next c.loop-cell.cell c.loop-cell.class (omega arith) c.loop-cell.invariant.cell_is;
  half_is_small = omega arith;
}

pub returns : goal.returns
returns c =
    let small : 2 ^ (c.loop-cell.class - 27) < 2 ^ 33 = omega arith in
    let exponent : c.loop-cell.class - 27 < 33 = exponent_below _ 33 small in
    size_class-power c.args.words c.loop-cell.class (omega arith) (omega arith) (omega arith) (omega arith) (omega arith)
