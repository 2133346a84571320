use Rattle.std.proofs.Common.{◌+◌, [], ◌∷◌, sym}
use Rattle.fm_exec.proofs.NumberSteps.{store-int, store-long, store-ref}
use Rattle.fm_exec.proofs.Seen.{carried}
use Rattle.fm_exec.proofs.locals.store.Goals as goal
use Rattle.fm_frames.specs.Effects.{OfOperand, Plain, words}
use Rattle.fm_frames.specs.NumberRows.{store_effect}
use Rattle.fm_frames.specs.declared.values.Value.TheVariants as value

pub returns-in-Int : goal.returns-in-Int
returns-in-Int g c =
    carried c.args.program.now g.M.Memory.choose c.args.machine.now c.store.new.self (store_effect c.args.kind c.args.place)
    (record (words 1 []) { writes = (c.args.place, OfOperand 0) ∷ [] }) (store-int c.args.kind c.args.place c.in-Int.is)
    (c.store.ensures (OfOperand 0) (sym c.word-value.ensures) c.args.program.now g.M.Memory.choose)

pub returns-in-Long : goal.returns-in-Long
returns-in-Long g c =
    carried c.args.program.now g.M.Memory.choose c.args.machine.now c.store_wide.new.self (store_effect c.args.kind c.args.place)
    (record (words 2 []) { writes = (c.args.place, OfOperand 1) ∷ (c.args.place + 1, Plain value.Top) ∷ [] })
    (store-long c.args.kind c.args.place c.in-Long.is)
    (c.store_wide.ensures (OfOperand 1) (sym c.word-value-in-Long.ensures) c.args.program.now g.M.Memory.choose)

pub returns-in-Ref : goal.returns-in-Ref
returns-in-Ref g c =
    carried c.args.program.now g.M.Memory.choose c.args.machine.now c.store-in-Ref.new.self (store_effect c.args.kind c.args.place)
    (record (words 1 []) { writes = (c.args.place, OfOperand 0) ∷ [] }) (store-ref c.args.kind c.args.place c.in-Ref.is)
    (c.store-in-Ref.ensures (OfOperand 0) (sym c.word-value-in-Ref.ensures) c.args.program.now g.M.Memory.choose)
