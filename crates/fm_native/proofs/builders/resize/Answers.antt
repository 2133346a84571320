use Rattle.std.proofs.Common.{◌≡◌, int_lt, pos, codes, false, true, if◌then◌else◌, ap, sym, ◌∙◌, arith, rules, w32, to_z, of_z}
use Rattle.std.specs.Prelude.{unsigned_abs}
use Rattle.std.proofs.lemmas.Int.{ints, to_z-of_z}
use Rattle.fm_frames.proofs.Throwing.{told-ok}
use Rattle.fm_frames.specs.Effects.{acting}
use Rattle.fm_frames.specs.NativeRows.{has_text, resized, thrown_outside, with_length}
use Rattle.fm_native.proofs.BuiltIns.{index-is}
use Rattle.fm_native.proofs.Rows.{carried-one}
use Rattle.fm_native.proofs.builders.resize.Goals as goal
use Rattle.fm_native.specs.inner.Hidden.{units_so_far}

pub returns-then-is_negative : goal.returns-then-is_negative
returns-then-is_negative g c =
    let p = c.args.program.now in
    let o = p.outline in
    let x = c.args.machine.now in
    let units = units_so_far x.areas.store c.args.built.text in
    let same : to_z w32 (of_z w32 c.args.len) ≡ c.args.len = grind (arith, ints, to_z-of_z) in
    let negative : int_lt c.args.len (pos 0) ≡ true = ap (λ n. int_lt n (pos 0)) (sym same) ∙ sym c.is_negative.ensures ∙ c.if-is_negative.true in
    told-ok c.throw_new.result _ _
    (λ thrown.
    carried-one p g.M.Memory.choose x c.throw_new.new.self (with_length o units c.args.len) (thrown_outside o)
    (ap (λ b. if b then thrown_outside o else acting 2 (has_text o 1 (resized units (unsigned_abs c.args.len)))) negative)
    (thrown (codes "java/lang/StringIndexOutOfBoundsException") (index-is p c.requires.can.runnable)))
    c.throw_new.ensures

pub returns : goal.returns
returns g c =
    let p = c.args.program.now in
    let o = p.outline in
    let x = c.args.machine.now in
    let units = units_so_far x.areas.store c.args.built.text in
    let same : to_z w32 (of_z w32 c.args.len) ≡ c.args.len = grind (arith, ints, to_z-of_z) in
    let whole : int_lt c.args.len (pos 0) ≡ false = ap (λ n. int_lt n (pos 0)) (sym same) ∙ sym c.is_negative.ensures ∙ c.if-is_negative.false in
    let count : unsigned_abs c.args.len ≡ c.unsigned_abs.result = search rules in
    told-ok c.keep_resized.result _ _
    (carried-one p g.M.Memory.choose x c.keep_resized.new.machine (with_length o units c.args.len)
    (acting 2 (has_text o 1 (resized units c.unsigned_abs.result)))
    (ap (λ b. if b then thrown_outside o else acting 2 (has_text o 1 (resized units (unsigned_abs c.args.len)))) whole
    ∙ ap (λ n. acting 2 (has_text o 1 (resized units n))) count))
    c.keep_resized.ensures
