use Rattle.std.proofs.Common.{ap}
use Rattle.fm_code.specs.declared.operations.Conv.TheVariants as conv
use Rattle.fm_exec.proofs.Seen.{carried}
use Rattle.fm_exec.proofs.numbers.convert.Goals as goal
use Rattle.fm_exec.specs.Steps.{seen}
use Rattle.fm_frames.proofs.Throwing.{told-ok}
use Rattle.fm_frames.specs.NumberRows.{convert_effect}

pub returns-in-IntToLong : goal.returns-in-IntToLong
unfolding convert_effect
returns-in-IntToLong g c =
    told-ok c.widen.result _ _
    (carried c.args.program.now g.M.Memory.choose c.args.machine.now c.widen.new.machine (convert_effect c.args.to (seen c.args.program.now c.args.machine.now))
    (convert_effect conv.IntToLong (seen c.args.program.now c.args.machine.now))
    (ap (λ to. convert_effect to (seen c.args.program.now c.args.machine.now)) c.in-IntToLong.is))
    c.widen.ensures

pub returns-in-LongToInt : goal.returns-in-LongToInt
unfolding convert_effect
returns-in-LongToInt g c =
    told-ok c.narrow.result _ _
    (carried c.args.program.now g.M.Memory.choose c.args.machine.now c.narrow.new.machine (convert_effect c.args.to (seen c.args.program.now c.args.machine.now))
    (convert_effect conv.LongToInt (seen c.args.program.now c.args.machine.now))
    (ap (λ to. convert_effect to (seen c.args.program.now c.args.machine.now)) c.in-LongToInt.is))
    c.narrow.ensures

pub returns-in-IntToByte : goal.returns-in-IntToByte
unfolding convert_effect
returns-in-IntToByte g c =
    told-ok c.convert_int.result _ _
    (carried c.args.program.now g.M.Memory.choose c.args.machine.now c.convert_int.new.machine (convert_effect c.args.to (seen c.args.program.now c.args.machine.now))
    (convert_effect conv.IntToByte (seen c.args.program.now c.args.machine.now))
    (ap (λ to. convert_effect to (seen c.args.program.now c.args.machine.now)) c.in-IntToByte.is))
    c.convert_int.ensures

pub returns-in-IntToChar : goal.returns-in-IntToChar
unfolding convert_effect
returns-in-IntToChar g c =
    told-ok c.convert_int-in-IntToChar.result _ _
    (carried c.args.program.now g.M.Memory.choose c.args.machine.now c.convert_int-in-IntToChar.new.machine (convert_effect c.args.to (seen c.args.program.now c.args.machine.now))
    (convert_effect conv.IntToChar (seen c.args.program.now c.args.machine.now))
    (ap (λ to. convert_effect to (seen c.args.program.now c.args.machine.now)) c.in-IntToChar.is))
    c.convert_int-in-IntToChar.ensures

pub returns-in-IntToShort : goal.returns-in-IntToShort
unfolding convert_effect
returns-in-IntToShort g c =
    told-ok c.convert_int-in-IntToShort.result _ _
    (carried c.args.program.now g.M.Memory.choose c.args.machine.now c.convert_int-in-IntToShort.new.machine (convert_effect c.args.to (seen c.args.program.now c.args.machine.now))
    (convert_effect conv.IntToShort (seen c.args.program.now c.args.machine.now))
    (ap (λ to. convert_effect to (seen c.args.program.now c.args.machine.now)) c.in-IntToShort.is))
    c.convert_int-in-IntToShort.ensures
