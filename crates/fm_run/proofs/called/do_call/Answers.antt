use Rattle.std.proofs.Common.{◌≡◌, None, Some, ap, subst}
use Rattle.fm_code.specs.declared.instructions.Insn.TheVariants as insn
use Rattle.fm_code.specs.declared.operations.Reg.TheVariants as reg
use Rattle.fm_exec_nests.specs.inner.Costs.{nest_of}
use Rattle.fm_fast.specs.Flows.{resumed}
use Rattle.fm_run.proofs.Naming.{quick-stands}
use Rattle.fm_run.proofs.QuickSteps.{insn-is, insn_for}
use Rattle.fm_run.proofs.called.do_call.Goals as goal
use Rattle.fm_run.specs.declared.quick.Quick.TheVariants as quick
use Rattle.fm_run.specs.inner.Flats.{IsFlatNext}

pub virtual_called-requires-clause-next : goal.virtual_called-requires-clause-next
virtual_called-requires-clause-next g c =
    let i = c.requires.next.0 in
    (i, quick-stands c.args.program.now c.args.method.0 i c.args.quick.now (quick.Invokevirtual c.in-Invokevirtual.words c.in-Invokevirtual.named c.in-Invokevirtual.m) c.requires.next.1 c.in-Invokevirtual.is, c.requires.next.2)

pub returns-in-Invokevirtual-clause-did : goal.returns-in-Invokevirtual-clause-did
returns-in-Invokevirtual-clause-did g c told i has =
    let names = quick-stands c.args.program.now c.args.method.0 i c.args.quick.now (quick.Invokevirtual c.in-Invokevirtual.words c.in-Invokevirtual.named c.in-Invokevirtual.m) has c.in-Invokevirtual.is in
    (ap nest_of names.1.insn_is, c.virtual_called.ensures.did told)

pub special_called-requires-clause-next : goal.special_called-requires-clause-next
special_called-requires-clause-next g c =
    let i = c.requires.next.0 in
    (i, quick-stands c.args.program.now c.args.method.0 i c.args.quick.now (quick.Invokespecial c.in-Invokespecial.words c.in-Invokespecial.target) c.requires.next.1 c.in-Invokespecial.is, c.requires.next.2)

pub returns-in-Invokespecial-clause-did : goal.returns-in-Invokespecial-clause-did
returns-in-Invokespecial-clause-did g c told i has =
    let names = quick-stands c.args.program.now c.args.method.0 i c.args.quick.now (quick.Invokespecial c.in-Invokespecial.words c.in-Invokespecial.target) has c.in-Invokespecial.is in
    (ap nest_of names.2.insn_is, c.special_called.ensures.did told)

pub static_called-requires-clause-next : goal.static_called-requires-clause-next
static_called-requires-clause-next g c =
    let i = c.requires.next.0 in
    (i, quick-stands c.args.program.now c.args.method.0 i c.args.quick.now (quick.Invokestatic c.in-Invokestatic.words c.in-Invokestatic.m) c.requires.next.1 c.in-Invokestatic.is, c.requires.next.2)

pub returns-in-Invokestatic-clause-did : goal.returns-in-Invokestatic-clause-did
returns-in-Invokestatic-clause-did g c told i has =
    let names = quick-stands c.args.program.now c.args.method.0 i c.args.quick.now (quick.Invokestatic c.in-Invokestatic.words c.in-Invokestatic.m) has c.in-Invokestatic.is in
    (ap nest_of names.1.insn_is, c.static_called.ensures.did told)

pub interface_called-requires-clause-next : goal.interface_called-requires-clause-next
interface_called-requires-clause-next g c =
    let i = c.requires.next.0 in
    let is : i ≡ insn.Interface c.in-Invokeinterface.index = subst (λ q. i ≡ insn_for q i) c.in-Invokeinterface.is (insn-is c.args.program.now c.args.method.0 i c.args.quick.now c.requires.next.1) in
    subst (IsFlatNext c.args.program.now c.args.steps (resumed c.args.machine.now c.args.frames.now c.args.counted) c.args.method.0) is c.requires.next.2

pub returns-in-Invokeinterface-clause-did : goal.returns-in-Invokeinterface-clause-did
returns-in-Invokeinterface-clause-did g c told i has =
    let is : i ≡ insn.Interface c.in-Invokeinterface.index = subst (λ q. i ≡ insn_for q i) c.in-Invokeinterface.is (insn-is c.args.program.now c.args.method.0 i c.args.quick.now has) in
    (ap nest_of is, c.interface_called.ensures.did told)

pub left-requires : goal.left-requires
left-requires g c =
    let i = c.requires.next.0 in
    let is : i ≡ insn.Return None = subst (λ q. i ≡ insn_for q i) c.in-Return.is (insn-is c.args.program.now c.args.method.0 i c.args.quick.now c.requires.next.1) in record {
      next = subst (IsFlatNext c.args.program.now c.args.steps (resumed c.args.machine.now c.args.frames.now c.args.counted) c.args.method.0) is c.requires.next.2;
    }

pub returns-in-Return-clause-did : goal.returns-in-Return-clause-did
returns-in-Return-clause-did g c told i has =
    let is : i ≡ insn.Return None = subst (λ q. i ≡ insn_for q i) c.in-Return.is (insn-is c.args.program.now c.args.method.0 i c.args.quick.now has) in
    (ap nest_of is, c.left.ensures.did told)

pub left-requires-in-Ireturn : goal.left-requires-in-Ireturn
left-requires-in-Ireturn g c =
    let i = c.requires.next.0 in
    let is : i ≡ insn.Return (Some reg.Int) = subst (λ q. i ≡ insn_for q i) c.in-Ireturn.is (insn-is c.args.program.now c.args.method.0 i c.args.quick.now c.requires.next.1) in record {
      next = subst (IsFlatNext c.args.program.now c.args.steps (resumed c.args.machine.now c.args.frames.now c.args.counted) c.args.method.0) is c.requires.next.2;
    }

pub returns-in-Ireturn-clause-did : goal.returns-in-Ireturn-clause-did
returns-in-Ireturn-clause-did g c told i has =
    let is : i ≡ insn.Return (Some reg.Int) = subst (λ q. i ≡ insn_for q i) c.in-Ireturn.is (insn-is c.args.program.now c.args.method.0 i c.args.quick.now has) in
    (ap nest_of is, c.left-in-Ireturn.ensures.did told)

pub left-requires-in-Lreturn : goal.left-requires-in-Lreturn
left-requires-in-Lreturn g c =
    let i = c.requires.next.0 in
    let is : i ≡ insn.Return (Some reg.Long) = subst (λ q. i ≡ insn_for q i) c.in-Lreturn.is (insn-is c.args.program.now c.args.method.0 i c.args.quick.now c.requires.next.1) in record {
      next = subst (IsFlatNext c.args.program.now c.args.steps (resumed c.args.machine.now c.args.frames.now c.args.counted) c.args.method.0) is c.requires.next.2;
    }

pub returns-in-Lreturn-clause-did : goal.returns-in-Lreturn-clause-did
returns-in-Lreturn-clause-did g c told i has =
    let is : i ≡ insn.Return (Some reg.Long) = subst (λ q. i ≡ insn_for q i) c.in-Lreturn.is (insn-is c.args.program.now c.args.method.0 i c.args.quick.now has) in
    (ap nest_of is, c.left-in-Lreturn.ensures.did told)

pub left-requires-in-Areturn : goal.left-requires-in-Areturn
left-requires-in-Areturn g c =
    let i = c.requires.next.0 in
    let is : i ≡ insn.Return (Some reg.Ref) = subst (λ q. i ≡ insn_for q i) c.in-Areturn.is (insn-is c.args.program.now c.args.method.0 i c.args.quick.now c.requires.next.1) in record {
      next = subst (IsFlatNext c.args.program.now c.args.steps (resumed c.args.machine.now c.args.frames.now c.args.counted) c.args.method.0) is c.requires.next.2;
    }

pub returns-in-Areturn-clause-did : goal.returns-in-Areturn-clause-did
returns-in-Areturn-clause-did g c told i has =
    let is : i ≡ insn.Return (Some reg.Ref) = subst (λ q. i ≡ insn_for q i) c.in-Areturn.is (insn-is c.args.program.now c.args.method.0 i c.args.quick.now has) in
    (ap nest_of is, c.left-in-Areturn.ensures.did told)
