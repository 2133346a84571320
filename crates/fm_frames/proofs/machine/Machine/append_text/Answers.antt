use Rattle.std.proofs.Common.{[], ◌∷◌, refl, subst}
use Rattle.fm_frames.proofs.Throwing.{told-ok}
use Rattle.fm_frames.proofs.Underways.{ended-one}
use Rattle.fm_frames.proofs.machine.Machine.append_text.Goals as goal
use Rattle.fm_frames.specs.Effects.{OfOperand, Plain, acting}
use Rattle.fm_frames.specs.NativeRows.{has_text}
use Rattle.fm_frames.specs.States.{ref}
use Rattle.fm_frames.specs.inner.Doings.{IsKept}

pub returns-then-not-branch : goal.returns-then-not-branch
returns-then-not-branch g c operand at =
    let p = c.args.program.now in
    let e = record (acting c.args.takes (has_text p.outline operand c.args.units.now)) { gives = OfOperand operand ∷ [] } in
    subst (IsKept p g.M.Memory.choose c.args.self.now c.keep_units.new.self e) c.if-not-branch.true
    (c.in_ok-keep_units.ensures.told operand e at refl refl)

pub give-requires : goal.give-requires
give-requires g c = c.in_ok-keep_units.ensures.ready c.if-not-branch.false

pub returns : goal.returns
returns g c =
    told-ok c.give.result _ _
    (λ given operand at.
    let p = c.args.program.now in
    let actions = has_text p.outline operand c.args.units.now in
    let e = record (acting c.args.takes actions) { gives = OfOperand operand ∷ [] } in
    let kept = subst (IsKept p g.M.Memory.choose c.args.self.now c.keep_units.new.self e) c.if-not-branch.false
    (c.in_ok-keep_units.ensures.told operand e at refl refl) in
    ended-one p g.M.Memory.choose c.args.self.now c.keep_units.new.self c.give.new.self (kept.0 ∷ []) c.args.takes actions (OfOperand operand)
    (ref c.args.cell.0) c.requires.can.ready.next_fits refl kept.1 at (given (Plain (ref c.args.cell.0)) refl p g.M.Memory.choose))
    c.give.ensures
