use Rattle.std.proofs.Common.{pos, negsuc, true, Some, None, slice_get, rules}
use Rattle.fm_frames.proofs.Throwing.{told-ok}
use Rattle.fm_frames.specs.Effects.{Plain, int_word, words}
use Rattle.fm_frames.specs.NativeRows.{native_effect}
use Rattle.fm_frames.specs.declared.natives.Native.TheVariants.{Read}
use Rattle.fm_frames.specs.declared.values.Value.TheVariants as value
use Rattle.fm_native.proofs.Rows.{carried-one, read-is}
use Rattle.fm_native.proofs.streams.read.Goals as goal
use Rattle.fm_frames.specs.inner.Doings.{seen}

pub returns-in-Some : goal.returns-in-Some
returns-in-Some g c =
    let p = c.args.program.now in
    let x = c.args.machine.now in
    let byte = slice_get x.input 0 in
    told-ok c.read.result _ _
    (λ given.
    carried-one p g.M.Memory.choose x c.read.new.self (native_effect p.outline Read byte (seen p x))
    (record (words 1 (int_word (pos c.in-Some.byte))) { reads = true }) (read-is p.outline byte (Some c.in-Some.byte) (seen p x) c.in-Some.ensures)
    (given (Plain (value.Int (pos c.in-Some.byte))) (search rules) p g.M.Memory.choose))
    c.read.ensures

pub returns-in-None : goal.returns-in-None
returns-in-None g c =
    let p = c.args.program.now in
    let x = c.args.machine.now in
    let byte = slice_get x.input 0 in
    told-ok c.give.result _ _
    (λ given.
    carried-one p g.M.Memory.choose x c.give.new.self (native_effect p.outline Read byte (seen p x)) (words 1 (int_word (negsuc 0)))
    (read-is p.outline byte None (seen p x) c.in-None.ensures) (given (Plain (value.Int (negsuc 0))) (search rules) p g.M.Memory.choose))
    c.give.ensures
