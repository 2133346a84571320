use Rattle.std.proofs.Common.{◌≡◌, true, subst, sym}
use Rattle.fm_code.specs.declared.instructions.Insn.TheVariants as insn
use Rattle.fm_run.proofs.Resolving.{is-method, is-wanted}
use Rattle.fm_law_can_step.specs.Ready.{is_constant}
use Rattle.fm_run.proofs.named.constant.Goals as goal

pub used-named-requires : goal.used-named-requires
used-named-requires g c = is-method c.args.program.now c.args.machine.now c.args.method.0 (insn.LoadPool c.args.index) c.requires.run c.requires.at

pub constant_of-requires-clause-is : goal.constant_of-requires-clause-is
constant_of-requires-clause-is g c = sym c.used-named.ensures

pub constant_of-requires-clause-wanted : goal.constant_of-requires-clause-wanted
constant_of-requires-clause-wanted g c =
    subst (λ u. is_constant u ≡ true) (sym c.used-named.ensures)
    (is-wanted c.args.program.now c.args.machine.now c.args.method.0 (insn.LoadPool c.args.index) c.requires.run c.requires.going c.requires.at)
