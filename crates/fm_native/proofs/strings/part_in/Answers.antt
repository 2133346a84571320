use Rattle.std.proofs.Common.{◌≡◌, ◌-◌, ◌||◌, int_lt, pos, codes, drop, take, if◌then◌else◌, ap, sym, ◌∙◌, arith, w32, to_z, of_z}
use Rattle.std.specs.Prelude.{unsigned_abs}
use Rattle.std.proofs.lemmas.Int.{ints, to_z-of_z}
use Rattle.fm_frames.proofs.Throwing.{told-ok}
use Rattle.fm_frames.specs.Effects.{making}
use Rattle.fm_frames.specs.NativeRows.{part_of, text_made, thrown_outside}
use Rattle.fm_native.proofs.BuiltIns.{index-is}
use Rattle.fm_native.proofs.Rows.{carried-one}
use Rattle.fm_native.proofs.strings.part_in.Goals as goal
use Rattle.fm_native.specs.inner.Asked.{units_in}

pub returns-then-is_no_part : goal.returns-then-is_no_part
returns-then-is_no_part g c =
    let p = c.args.program.now in
    let o = p.outline in
    let x = c.args.machine.now in
    let units = units_in x.areas.store c.args.text in
    let first : to_z w32 (of_z w32 c.args.begin) ≡ c.args.begin = grind (arith, ints, to_z-of_z) in
    let last : to_z w32 (of_z w32 c.args.end) ≡ c.args.end = grind (arith, ints, to_z-of_z) in
    let outside =
    (λ i. int_lt (sym first i) (pos 0) || int_lt (sym last i) (sym first i) || int_lt (pos (c.requires.text.len i)) (sym last i))
    ∙ sym c.is_no_part.ensures ∙ c.if-is_no_part.true in
    told-ok c.throw_new.result _ _
    (λ thrown.
    carried-one p g.M.Memory.choose x c.throw_new.new.self (part_of o units c.args.begin c.args.end) (thrown_outside o)
    (ap (λ b. if b then thrown_outside o
    else making 3 (text_made o (take (unsigned_abs c.args.end - unsigned_abs c.args.begin) (drop (unsigned_abs c.args.begin) units)))) outside)
    (thrown (codes "java/lang/StringIndexOutOfBoundsException") (index-is p c.requires.can.runnable)))
    c.throw_new.ensures
