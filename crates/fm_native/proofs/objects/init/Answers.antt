use Rattle.std.proofs.Common.{[]}
use Rattle.fm_frames.specs.Effects.{words}
use Rattle.fm_frames.specs.declared.natives.Native.TheVariants.{ObjectInit}
use Rattle.fm_native.proofs.Rows.{carried, init-is}
use Rattle.fm_native.proofs.objects.init.Goals as goal
use Rattle.fm_frames.specs.inner.Doings.{seen}

pub returns : goal.returns
returns g c =
    let p = c.args.program.now in
    let x = c.args.machine.now in
    carried p g.M.Memory.choose x c.take.new.self ObjectInit (words 1 []) (λ byte. init-is p.outline byte (seen p x))
    (c.take.ensures p g.M.Memory.choose)
