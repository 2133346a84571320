use Rattle.std.proofs.Common.{[], refl, subst}
use Rattle.fm_frames.proofs.Throwing.{made-given, told-ok, type-request}
use Rattle.fm_frames.proofs.machine.Machine.make.Goals as goal
use Rattle.fm_frames.specs.Effects.{Make, Plain, making}
use Rattle.fm_frames.specs.States.{ref}
use Rattle.fm_frames.specs.inner.Doings.{MakesOne}

pub returns-in_default : goal.returns-in_default
returns-in_default g c =
    subst (MakesOne c.args.program.now g.M.Memory.choose c.args.self.now c.make_one.new.self (making c.args.takes (Make c.args.t c.args.len [])))
    c.in_default.is
    (c.in_ok-cell.ensures.makes c.args.program.now c.args.t (making c.args.takes (Make c.args.t c.args.len []))
    (type-request c.args.program.now.outline c.args.t c.type_id-id.result.0 c.args.len c.pack_of-pack.result c.type_id-id.ensures.number
    (c.pack_of-pack.ensures.value c.requires.can.runnable)) refl refl)

pub returns : goal.returns
returns g c =
    told-ok c.give.result _ _
    (λ given.
    made-given c.args.program.now g.M.Memory.choose c.args.self.now c.make_one.new.self c.give.new.self c.args.takes c.args.t c.args.len
    c.in-Some.cell c.requires.can.ready.next_fits
    (subst (MakesOne c.args.program.now g.M.Memory.choose c.args.self.now c.make_one.new.self (making c.args.takes (Make c.args.t c.args.len [])))
    c.in-Some.is
    (c.in_ok-cell.ensures.makes c.args.program.now c.args.t (making c.args.takes (Make c.args.t c.args.len []))
    (type-request c.args.program.now.outline c.args.t c.type_id-id.result.0 c.args.len c.pack_of-pack.result c.type_id-id.ensures.number
    (c.pack_of-pack.ensures.value c.requires.can.runnable)) refl refl))
    (given (Plain (ref c.in-Some.cell.0)) refl c.args.program.now g.M.Memory.choose))
    c.give.ensures
