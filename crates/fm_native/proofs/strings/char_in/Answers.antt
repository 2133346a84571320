use Rattle.std.proofs.Common.{◌≡◌, ◌||◌, int_lt, not, pos, codes, if◌then◌else◌, ap, sym, ◌∙◌, arith, w32, to_z, of_z}
use Rattle.std.specs.List.{slice_index_or}
use Rattle.std.specs.Prelude.{unsigned_abs}
use Rattle.std.proofs.lemmas.Int.{ints, to_z-of_z}
use Rattle.fm_frames.proofs.Throwing.{told-ok}
use Rattle.fm_frames.specs.Effects.{int_word, words}
use Rattle.fm_frames.specs.NativeRows.{char_at, thrown_outside}
use Rattle.fm_native.proofs.BuiltIns.{index-is}
use Rattle.fm_native.proofs.Rows.{carried-one}
use Rattle.fm_native.proofs.strings.char_in.Goals as goal
use Rattle.fm_native.specs.inner.Asked.{units_in}

pub returns-then-is_outside : goal.returns-then-is_outside
returns-then-is_outside g c =
    let p = c.args.program.now in
    let o = p.outline in
    let x = c.args.machine.now in
    let units = units_in x.areas.store c.args.text in
    let same : to_z w32 (of_z w32 c.args.place) ≡ c.args.place = grind (arith, ints, to_z-of_z) in
    let outside =
    (λ i. int_lt (sym same i) (pos 0) || not (int_lt (sym same i) (pos (c.requires.text.len i)))) ∙ sym c.is_outside.ensures ∙ c.if-is_outside.true in
    told-ok c.throw_new.result _ _
    (λ thrown.
    carried-one p g.M.Memory.choose x c.throw_new.new.self (char_at o units c.args.place) (thrown_outside o)
    (ap (λ b. if b then thrown_outside o else words 2 (int_word (pos (slice_index_or units (unsigned_abs c.args.place) 0)))) outside)
    (thrown (codes "java/lang/StringIndexOutOfBoundsException") (index-is p c.requires.can.runnable)))
    c.throw_new.ensures
