use Rattle.std.proofs.Common.{[], ◌∷◌, sym}
use Rattle.fm_exec.proofs.NumberSteps.{load-int, load-long, load-ref}
use Rattle.fm_exec.proofs.Seen.{carried}
use Rattle.fm_exec.proofs.locals.load.Goals as goal
use Rattle.fm_frames.proofs.Throwing.{told-ok}
use Rattle.fm_frames.specs.Effects.{OfLocal, Plain, words}
use Rattle.fm_frames.specs.NumberRows.{load_effect}
use Rattle.fm_frames.specs.declared.values.Value.TheVariants as value

pub returns-in-Int : goal.returns-in-Int
returns-in-Int g c =
    told-ok c.give.result _ _
    (λ given.
    carried c.args.program.now g.M.Memory.choose c.args.machine.now c.give.new.self (load_effect c.args.kind c.args.place)
    (words 0 (OfLocal c.args.place ∷ [])) (load-int c.args.kind c.args.place c.in-Int.is)
    (given (OfLocal c.args.place) (sym c.local-value.ensures) c.args.program.now g.M.Memory.choose))
    c.give.ensures

pub returns-in-Long : goal.returns-in-Long
returns-in-Long g c =
    told-ok c.give_wide.result _ _
    (λ given.
    carried c.args.program.now g.M.Memory.choose c.args.machine.now c.give_wide.new.self (load_effect c.args.kind c.args.place)
    (words 0 (Plain value.Top ∷ OfLocal c.args.place ∷ [])) (load-long c.args.kind c.args.place c.in-Long.is)
    (given (OfLocal c.args.place) (sym c.local-value.ensures) c.args.program.now g.M.Memory.choose))
    c.give_wide.ensures

pub returns-in-Ref : goal.returns-in-Ref
returns-in-Ref g c =
    told-ok c.give-in-Ref.result _ _
    (λ given.
    carried c.args.program.now g.M.Memory.choose c.args.machine.now c.give-in-Ref.new.self (load_effect c.args.kind c.args.place)
    (words 0 (OfLocal c.args.place ∷ [])) (load-ref c.args.kind c.args.place c.in-Ref.is)
    (given (OfLocal c.args.place) (sym c.local-value.ensures) c.args.program.now g.M.Memory.choose))
    c.give-in-Ref.ensures
