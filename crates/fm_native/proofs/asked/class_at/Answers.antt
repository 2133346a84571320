use Rattle.std.proofs.Common.{sym, ◌∙◌, subst}
use Rattle.fm_frames.specs.inner.Doings.{seen}
use Rattle.fm_native.proofs.BuiltIns.{class-is}
use Rattle.fm_native.proofs.asked.class_at.Goals as goal
use Rattle.fm_native.specs.inner.Asked.{AsksUnitsOf}

pub returns-clause-value : goal.returns-clause-value
returns-clause-value g c =
    let p = c.args.program.now in
    let x = c.args.machine.now in
    subst (λ t. AsksUnitsOf p.outline x.areas.store t (seen p x) c.args.place c.units_held_at.result)
    (c.type_of_class.ensures ∙ sym (class-is p c.requires.runnable)) c.units_held_at.ensures.value
