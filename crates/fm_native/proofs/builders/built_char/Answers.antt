use Rattle.std.proofs.Common.{◌≡◌, codes, ap, sym, ◌∙◌, arith, w32, to_z, of_z}
use Rattle.std.proofs.lemmas.Int.{ints, to_z-of_z}
use Rattle.fm_frames.proofs.Throwing.{told-ok}
use Rattle.fm_frames.specs.NativeRows.{char_at, thrown_outside}
use Rattle.fm_native.proofs.BuiltIns.{index-is}
use Rattle.fm_native.proofs.HiddenRows.{none-there}
use Rattle.fm_native.proofs.Rows.{carried-one}
use Rattle.fm_native.proofs.builders.built_char.Goals as goal
use Rattle.fm_native.specs.inner.Asked.{units_in}
use Rattle.fm_native.specs.inner.Hidden.{units_so_far}

pub returns-in-Some : goal.returns-in-Some
returns-in-Some g c =
    let p = c.args.program.now in
    let o = p.outline in
    let x = c.args.machine.now in
    let same : to_z w32 (of_z w32 c.args.place) ≡ c.args.place = grind (arith, ints, to_z-of_z) in
    told-ok c.char_in.result _ _
    (λ did.
    carried-one p g.M.Memory.choose x c.char_in.new.machine (char_at o (units_so_far x.areas.store c.args.text) c.args.place)
    (char_at o (units_in x.areas.store c.in-Some.text) (to_z w32 (of_z w32 c.args.place)))
    (λ i. char_at o (units_so_far x.areas.store (c.in-Some.is i)) (sym same i)) did)
    c.char_in.ensures

pub returns-in-None : goal.returns-in-None
returns-in-None g c =
    let p = c.args.program.now in
    let o = p.outline in
    let x = c.args.machine.now in
    told-ok c.throw_new.result _ _
    (λ thrown.
    carried-one p g.M.Memory.choose x c.throw_new.new.self (char_at o (units_so_far x.areas.store c.args.text) c.args.place) (thrown_outside o)
    (ap (λ text. char_at o (units_so_far x.areas.store text) c.args.place) c.in-None.is ∙ none-there o c.args.place)
    (thrown (codes "java/lang/StringIndexOutOfBoundsException") (index-is p c.requires.can.runnable)))
    c.throw_new.ensures
