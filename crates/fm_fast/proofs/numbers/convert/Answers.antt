use Rattle.std.proofs.Common.{ap, subst}
use Rattle.fm_code.specs.declared.operations.Conv.TheVariants as conv
use Rattle.fm_exec.proofs.Seen.{carried}
use Rattle.fm_exec.specs.Steps.{seen}
use Rattle.fm_fast.proofs.numbers.convert.Goals as goal
use Rattle.fm_fast.specs.Flows.{on, stepped_on}
use Rattle.fm_fast.specs.Operands.{AsksOfConversion}
use Rattle.fm_frames.specs.NumberRows.{convert_effect}

pub widen-requires-clause-int : goal.widen-requires-clause-int
widen-requires-clause-int c = subst (λ to. AsksOfConversion to c.args.frames.now) c.in-IntToLong.is c.requires.number

pub returns-in-IntToLong-clause-did : goal.returns-in-IntToLong-clause-did
unfolding convert_effect
returns-in-IntToLong-clause-did c told p choose x =
    let s = seen p (on x c.args.frames.now) in
    carried p choose (on x c.args.frames.now) (stepped_on x c.widen.new.frames) (convert_effect c.args.to s) (convert_effect conv.IntToLong s)
    (ap (λ to. convert_effect to s) c.in-IntToLong.is) (c.widen.ensures.did told p choose x)

pub narrow-requires-clause-long : goal.narrow-requires-clause-long
narrow-requires-clause-long c = subst (λ to. AsksOfConversion to c.args.frames.now) c.in-LongToInt.is c.requires.number

pub returns-in-LongToInt-clause-did : goal.returns-in-LongToInt-clause-did
unfolding convert_effect
returns-in-LongToInt-clause-did c told p choose x =
    let s = seen p (on x c.args.frames.now) in
    carried p choose (on x c.args.frames.now) (stepped_on x c.narrow.new.frames) (convert_effect c.args.to s) (convert_effect conv.LongToInt s)
    (ap (λ to. convert_effect to s) c.in-LongToInt.is) (c.narrow.ensures.did told p choose x)

pub convert_int-requires-clause-int : goal.convert_int-requires-clause-int
convert_int-requires-clause-int c = subst (λ to. AsksOfConversion to c.args.frames.now) c.in-IntToByte.is c.requires.number

pub returns-in-IntToByte-clause-did : goal.returns-in-IntToByte-clause-did
unfolding convert_effect
returns-in-IntToByte-clause-did c told p choose x =
    let s = seen p (on x c.args.frames.now) in
    carried p choose (on x c.args.frames.now) (stepped_on x c.convert_int.new.frames) (convert_effect c.args.to s) (convert_effect conv.IntToByte s)
    (ap (λ to. convert_effect to s) c.in-IntToByte.is) (c.convert_int.ensures.did told p choose x)

pub convert_int-requires-in-IntToChar-clause-int : goal.convert_int-requires-in-IntToChar-clause-int
convert_int-requires-in-IntToChar-clause-int c = subst (λ to. AsksOfConversion to c.args.frames.now) c.in-IntToChar.is c.requires.number

pub returns-in-IntToChar-clause-did : goal.returns-in-IntToChar-clause-did
unfolding convert_effect
returns-in-IntToChar-clause-did c told p choose x =
    let s = seen p (on x c.args.frames.now) in
    carried p choose (on x c.args.frames.now) (stepped_on x c.convert_int-in-IntToChar.new.frames) (convert_effect c.args.to s) (convert_effect conv.IntToChar s)
    (ap (λ to. convert_effect to s) c.in-IntToChar.is) (c.convert_int-in-IntToChar.ensures.did told p choose x)

pub convert_int-requires-in-IntToShort-clause-int : goal.convert_int-requires-in-IntToShort-clause-int
convert_int-requires-in-IntToShort-clause-int c = subst (λ to. AsksOfConversion to c.args.frames.now) c.in-IntToShort.is c.requires.number

pub returns-in-IntToShort-clause-did : goal.returns-in-IntToShort-clause-did
unfolding convert_effect
returns-in-IntToShort-clause-did c told p choose x =
    let s = seen p (on x c.args.frames.now) in
    carried p choose (on x c.args.frames.now) (stepped_on x c.convert_int-in-IntToShort.new.frames) (convert_effect c.args.to s) (convert_effect conv.IntToShort s)
    (ap (λ to. convert_effect to s) c.in-IntToShort.is) (c.convert_int-in-IntToShort.ensures.did told p choose x)
