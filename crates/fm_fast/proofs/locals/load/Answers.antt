use Rattle.std.proofs.Common.{◌≡◌, [], ◌∷◌, ap, sym, ◌∙◌, arith, to_z, of_z, w32}
use Rattle.std.proofs.lemmas.Int.{ints, to_z-of_z}
use Rattle.fm_exec.proofs.NumberSteps.{load-int, load-long, load-ref}
use Rattle.fm_exec.proofs.Seen.{carried}
use Rattle.fm_fast.proofs.FlowSteps.{gave, gave-wide, local-on}
use Rattle.fm_fast.proofs.locals.load.Goals as goal
use Rattle.fm_fast.specs.Flows.{on, stepped_on}
use Rattle.fm_frames.specs.Effects.{OfLocal, Plain, words}
use Rattle.fm_frames.specs.NumberRows.{load_effect}
use Rattle.fm_frames.specs.declared.values.Value.TheVariants as value

pub returns-in-Int-clause-did : goal.returns-in-Int-clause-did
returns-in-Int-clause-did c told p choose x =
    let n = c.local_int-n.result in
    let same : to_z w32 (of_z w32 n) ≡ n = grind (arith, ints, to_z-of_z) in
    carried p choose (on x c.args.frames.now) (stepped_on x c.push.new.frames) (load_effect c.args.kind c.args.place)
    (words 0 (OfLocal c.args.place ∷ [])) (load-int c.args.kind c.args.place c.in-Int.is)
    (gave p choose x c.args.frames.now c.push.new.frames 0 _ (OfLocal c.args.place) c.requires.fits (c.push.ensures.did told)
    (local-on x c.args.frames.now c.args.place _ c.local_int-n.ensures ∙ ap value.Int (sym same)))

pub returns-in-Long-clause-did : goal.returns-in-Long-clause-did
returns-in-Long-clause-did c told p choose x =
    carried p choose (on x c.args.frames.now) (stepped_on x c.give_wide.new.frames) (load_effect c.args.kind c.args.place)
    (words 0 (Plain value.Top ∷ OfLocal c.args.place ∷ [])) (load-long c.args.kind c.args.place c.in-Long.is)
    (gave-wide p choose x c.args.frames.now c.give_wide.new.frames 0 _ (OfLocal c.args.place) c.requires.fits (c.give_wide.ensures.did told)
    (local-on x c.args.frames.now c.args.place _ c.local_there-value.ensures))

pub returns-in-Ref-clause-did : goal.returns-in-Ref-clause-did
returns-in-Ref-clause-did c told p choose x =
    carried p choose (on x c.args.frames.now) (stepped_on x c.push-in-Ref.new.frames) (load_effect c.args.kind c.args.place)
    (words 0 (OfLocal c.args.place ∷ [])) (load-ref c.args.kind c.args.place c.in-Ref.is)
    (gave p choose x c.args.frames.now c.push-in-Ref.new.frames 0 _ (OfLocal c.args.place) c.requires.fits (c.push-in-Ref.ensures.did told)
    (local-on x c.args.frames.now c.args.place _ c.local_cell-cell.ensures))
