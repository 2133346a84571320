use Rattle.std.proofs.Common.{[], ◌∷◌, refl, subst}
use Rattle.fm_frames.proofs.Underways.{ended-none}
use Rattle.fm_frames.proofs.machine.Machine.keep_text.Goals as goal
use Rattle.fm_frames.specs.Effects.{acting}
use Rattle.fm_frames.specs.NativeRows.{has_text}
use Rattle.fm_frames.specs.inner.Doings.{IsKept}

pub returns-then-not-branch : goal.returns-then-not-branch
returns-then-not-branch g c operand at =
    let p = c.args.program.now in
    let e = acting c.args.takes (has_text p.outline operand c.args.units.now) in
    subst (IsKept p g.M.Memory.choose c.args.self.now c.keep_units.new.self e) c.if-not-branch.true
    (c.in_ok-keep_units.ensures.told operand e at refl refl)

pub take-requires : goal.take-requires
take-requires g c = c.in_ok-keep_units.ensures.ready c.if-not-branch.false

pub returns : goal.returns
returns g c operand at =
    let p = c.args.program.now in
    let actions = has_text p.outline operand c.args.units.now in
    let e = acting c.args.takes actions in
    let kept = subst (IsKept p g.M.Memory.choose c.args.self.now c.keep_units.new.self e) c.if-not-branch.false
    (c.in_ok-keep_units.ensures.told operand e at refl refl) in
    ended-none p g.M.Memory.choose c.args.self.now c.keep_units.new.self c.take.new.self (kept.0 ∷ []) c.args.takes actions
    c.requires.can.ready.next_fits refl kept.1 (c.take.ensures p g.M.Memory.choose)
