use Rattle.std.proofs.Common.{ap, subst}
use Rattle.fm_code.specs.declared.operations.Reg.TheVariants as reg
use Rattle.fm_exec.proofs.Seen.{carried}
use Rattle.fm_fast.proofs.locals.store.Goals as goal
use Rattle.fm_fast.specs.Flows.{on, stepped_on}
use Rattle.fm_fast.specs.Operands.{HasWordOf}
use Rattle.fm_frames.specs.NumberRows.{store_effect}

pub store_int-requires-clause-there : goal.store_int-requires-clause-there
store_int-requires-clause-there c = subst (λ r. HasWordOf r c.args.frames.now) c.in-Int.is c.requires.there

pub store_long-requires-clause-there : goal.store_long-requires-clause-there
store_long-requires-clause-there c = subst (λ r. HasWordOf r c.args.frames.now) c.in-Long.is c.requires.there

pub store_cell-requires-clause-there : goal.store_cell-requires-clause-there
store_cell-requires-clause-there c = subst (λ r. HasWordOf r c.args.frames.now) c.in-Ref.is c.requires.there

pub returns-in-Int-clause-did : goal.returns-in-Int-clause-did
returns-in-Int-clause-did c told p choose x =
    carried p choose (on x c.args.frames.now) (stepped_on x c.store_int.new.frames) (store_effect c.args.kind c.args.place) (store_effect reg.Int c.args.place)
    (ap (λ r. store_effect r c.args.place) c.in-Int.is) (c.store_int.ensures.did told p choose x)

pub returns-in-Long-clause-did : goal.returns-in-Long-clause-did
returns-in-Long-clause-did c told p choose x =
    carried p choose (on x c.args.frames.now) (stepped_on x c.store_long.new.frames) (store_effect c.args.kind c.args.place) (store_effect reg.Long c.args.place)
    (ap (λ r. store_effect r c.args.place) c.in-Long.is) (c.store_long.ensures.did told p choose x)

pub returns-in-Ref-clause-did : goal.returns-in-Ref-clause-did
unfolding store_effect
returns-in-Ref-clause-did c told p choose x =
    carried p choose (on x c.args.frames.now) (stepped_on x c.store_cell.new.frames) (store_effect c.args.kind c.args.place) (store_effect reg.Ref c.args.place)
    (ap (λ r. store_effect r c.args.place) c.in-Ref.is) (c.store_cell.ensures.did told p choose x)
