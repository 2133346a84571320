use Rattle.std.proofs.Common.{ap, refl, subst}
use Rattle.fm_code.specs.declared.instructions.Insn.TheVariants as insn
use Rattle.fm_code.specs.declared.operations.Elem.TheVariants as elem
use Rattle.fm_exec.specs.Holding.{TakesElement}
use Rattle.fm_frames.specs.Rows.{effect_of}
use Rattle.fm_law_can_step.proofs.Puts.{takes_element}
use Rattle.fm_run.proofs.NextSteps.{next-at, row-done}
use Rattle.fm_run.proofs.plain.element_put.Goals as goal
use Rattle.fm_types.specs.Typed.{use_by}

pub reference_store-requires-clause-takes : goal.reference_store-requires-clause-takes
reference_store-requires-clause-takes g c =
    subst (TakesElement c.args.program.now c.args.machine.now) c.in-Ref.is
    (takes_element c.args.program.now c.args.machine.now c.args.e (use_by c.args.program.now c.requires.at.frame.method (insn.ArrayStore c.args.e)) c.requires.run c.requires.going
    (next-at c.args.program.now c.args.machine.now (insn.ArrayStore c.args.e) c.requires.at))

pub returns-in-Ref : goal.returns-in-Ref
unfolding effect_of
returns-in-Ref g c =
    row-done c.args.program.now g.M.Memory.choose c.args.machine.now c.reference_store.new.machine (insn.ArrayStore c.args.e) (insn.ArrayStore elem.Ref)
    c.reference_store.result c.requires.at (ap insn.ArrayStore c.in-Ref.is) c.reference_store.ensures

pub array_store-requires-clause-takes : goal.array_store-requires-clause-takes
array_store-requires-clause-takes g c =
    takes_element c.args.program.now c.args.machine.now c.args.e (use_by c.args.program.now c.requires.at.frame.method (insn.ArrayStore c.args.e)) c.requires.run c.requires.going
    (next-at c.args.program.now c.args.machine.now (insn.ArrayStore c.args.e) c.requires.at)

pub returns-in_default : goal.returns-in_default
unfolding effect_of
returns-in_default g c =
    row-done c.args.program.now g.M.Memory.choose c.args.machine.now c.array_store.new.machine (insn.ArrayStore c.args.e) (insn.ArrayStore c.args.e)
    c.array_store.result c.requires.at refl c.array_store.ensures
