use Rattle.std.proofs.Common.{◌≡◌, ap, sym, subst}
use Rattle.fm_code.specs.declared.instructions.Insn.TheVariants as insn
use Rattle.fm_exec_nests.specs.inner.Costs.{nest_of}
use Rattle.fm_fast.specs.Flows.{resumed}
use Rattle.fm_run.proofs.Naming.{quick-stands}
use Rattle.fm_run.proofs.QuickSteps.{insn-is, insn_for}
use Rattle.fm_run.proofs.quick_rows.do_field.Goals as goal
use Rattle.fm_run.specs.declared.quick.Quick.TheVariants as quick
use Rattle.fm_run.specs.inner.Flats.{IsFlatNext}
use Rattle.fm_run.specs.inner.Operands.{NamesField, NamesStatic}

pub field_read-requires-clause-next : goal.field_read-requires-clause-next
field_read-requires-clause-next g c =
    let i = c.requires.next.0 in
    let is : i ≡ insn.GetField c.in-Getfield.index = subst (λ q. i ≡ insn_for q i) c.in-Getfield.is (insn-is c.args.program.now c.args.method.0 i c.args.quick.now c.requires.next.1) in
    subst (IsFlatNext c.args.program.now c.args.steps (resumed c.args.machine.now c.args.frames.now c.args.counted) c.args.method.0) is c.requires.next.2

pub returns-in-Getfield-clause-did : goal.returns-in-Getfield-clause-did
returns-in-Getfield-clause-did g c told i has =
    let is : i ≡ insn.GetField c.in-Getfield.index = subst (λ q. i ≡ insn_for q i) c.in-Getfield.is (insn-is c.args.program.now c.args.method.0 i c.args.quick.now has) in
    (ap nest_of is, c.field_read.ensures.did told)

pub static_read-requires-clause-next : goal.static_read-requires-clause-next
static_read-requires-clause-next g c =
    let i = c.requires.next.0 in
    let is : i ≡ insn.GetStatic c.in-Getstatic.index = subst (λ q. i ≡ insn_for q i) c.in-Getstatic.is (insn-is c.args.program.now c.args.method.0 i c.args.quick.now c.requires.next.1) in
    subst (IsFlatNext c.args.program.now c.args.steps (resumed c.args.machine.now c.args.frames.now c.args.counted) c.args.method.0) is c.requires.next.2

pub returns-in-Getstatic-clause-did : goal.returns-in-Getstatic-clause-did
returns-in-Getstatic-clause-did g c told i has =
    let is : i ≡ insn.GetStatic c.in-Getstatic.index = subst (λ q. i ≡ insn_for q i) c.in-Getstatic.is (insn-is c.args.program.now c.args.method.0 i c.args.quick.now has) in
    (ap nest_of is, c.static_read.ensures.did told)

pub field_written-requires-clause-next : goal.field_written-requires-clause-next
field_written-requires-clause-next g c =
    let i = c.requires.next.0 in
    let is : i ≡ insn.PutField c.in-Putfield.index = subst (λ q. i ≡ insn_for q i) c.in-Putfield.is (insn-is c.args.program.now c.args.method.0 i c.args.quick.now c.requires.next.1) in
    subst (IsFlatNext c.args.program.now c.args.steps (resumed c.args.machine.now c.args.frames.now c.args.counted) c.args.method.0) is c.requires.next.2

pub returns-in-Putfield-clause-did : goal.returns-in-Putfield-clause-did
returns-in-Putfield-clause-did g c told i has =
    let is : i ≡ insn.PutField c.in-Putfield.index = subst (λ q. i ≡ insn_for q i) c.in-Putfield.is (insn-is c.args.program.now c.args.method.0 i c.args.quick.now has) in
    (ap nest_of is, c.field_written.ensures.did told)

pub field_read_at-requires-clause-next : goal.field_read_at-requires-clause-next
field_read_at-requires-clause-next g c =
    let i = c.requires.next.0 in
    (i, quick-stands c.args.program.now c.args.method.0 i c.args.quick.now (quick.GetfieldInt c.in-GetfieldInt.place c.in-GetfieldInt.named) c.requires.next.1 c.in-GetfieldInt.is, c.requires.next.2)

pub returns-in-GetfieldInt-clause-did : goal.returns-in-GetfieldInt-clause-did
returns-in-GetfieldInt-clause-did g c told i has =
    let names = quick-stands c.args.program.now c.args.method.0 i c.args.quick.now (quick.GetfieldInt c.in-GetfieldInt.place c.in-GetfieldInt.named) has c.in-GetfieldInt.is in
    (ap nest_of names.insn_is, c.field_read_at.ensures.did told)

pub field_read_at-requires-in-GetfieldRef-clause-next : goal.field_read_at-requires-in-GetfieldRef-clause-next
field_read_at-requires-in-GetfieldRef-clause-next g c =
    let i = c.requires.next.0 in
    (i, subst (λ k. NamesField c.args.program.now c.args.method.0 insn.GetField k c.in-GetfieldRef.place c.in-GetfieldRef.named i) (sym c.reference_kind.ensures.1) (quick-stands c.args.program.now c.args.method.0 i c.args.quick.now (quick.GetfieldRef c.in-GetfieldRef.place c.in-GetfieldRef.named) c.requires.next.1 c.in-GetfieldRef.is c.reference_kind.ensures.0), c.requires.next.2)

pub returns-in-GetfieldRef-clause-did : goal.returns-in-GetfieldRef-clause-did
returns-in-GetfieldRef-clause-did g c told i has =
    let names = quick-stands c.args.program.now c.args.method.0 i c.args.quick.now (quick.GetfieldRef c.in-GetfieldRef.place c.in-GetfieldRef.named) has c.in-GetfieldRef.is c.reference_kind.ensures.0 in
    (ap nest_of names.insn_is, c.field_read_at-in-GetfieldRef.ensures.did told)

pub field_written_at-requires-clause-next : goal.field_written_at-requires-clause-next
field_written_at-requires-clause-next g c =
    let i = c.requires.next.0 in
    (i, quick-stands c.args.program.now c.args.method.0 i c.args.quick.now (quick.PutfieldInt c.in-PutfieldInt.place c.in-PutfieldInt.named) c.requires.next.1 c.in-PutfieldInt.is, c.requires.next.2)

pub returns-in-PutfieldInt-clause-did : goal.returns-in-PutfieldInt-clause-did
returns-in-PutfieldInt-clause-did g c told i has =
    let names = quick-stands c.args.program.now c.args.method.0 i c.args.quick.now (quick.PutfieldInt c.in-PutfieldInt.place c.in-PutfieldInt.named) has c.in-PutfieldInt.is in
    (ap nest_of names.insn_is, c.field_written_at.ensures.did told)

pub field_written_at-requires-in-PutfieldRef-clause-next : goal.field_written_at-requires-in-PutfieldRef-clause-next
field_written_at-requires-in-PutfieldRef-clause-next g c =
    let i = c.requires.next.0 in
    (i, subst (λ k. NamesField c.args.program.now c.args.method.0 insn.PutField k c.in-PutfieldRef.place c.in-PutfieldRef.named i) (sym c.reference_kind-in-PutfieldRef.ensures.1) (quick-stands c.args.program.now c.args.method.0 i c.args.quick.now (quick.PutfieldRef c.in-PutfieldRef.place c.in-PutfieldRef.named) c.requires.next.1 c.in-PutfieldRef.is c.reference_kind-in-PutfieldRef.ensures.0), c.requires.next.2)

pub returns-in-PutfieldRef-clause-did : goal.returns-in-PutfieldRef-clause-did
returns-in-PutfieldRef-clause-did g c told i has =
    let names = quick-stands c.args.program.now c.args.method.0 i c.args.quick.now (quick.PutfieldRef c.in-PutfieldRef.place c.in-PutfieldRef.named) has c.in-PutfieldRef.is c.reference_kind-in-PutfieldRef.ensures.0 in
    (ap nest_of names.insn_is, c.field_written_at-in-PutfieldRef.ensures.did told)

pub static_read_at-requires-clause-next : goal.static_read_at-requires-clause-next
static_read_at-requires-clause-next g c =
    let i = c.requires.next.0 in
    (i, quick-stands c.args.program.now c.args.method.0 i c.args.quick.now (quick.GetstaticInt c.in-GetstaticInt.place c.in-GetstaticInt.class) c.requires.next.1 c.in-GetstaticInt.is, c.requires.next.2)

pub returns-in-GetstaticInt-clause-did : goal.returns-in-GetstaticInt-clause-did
returns-in-GetstaticInt-clause-did g c told i has =
    let names = quick-stands c.args.program.now c.args.method.0 i c.args.quick.now (quick.GetstaticInt c.in-GetstaticInt.place c.in-GetstaticInt.class) has c.in-GetstaticInt.is in
    (ap nest_of names.insn_is, c.static_read_at.ensures.did told)

pub static_read_at-requires-in-GetstaticRef-clause-next : goal.static_read_at-requires-in-GetstaticRef-clause-next
static_read_at-requires-in-GetstaticRef-clause-next g c =
    let i = c.requires.next.0 in
    (i, subst (λ k. NamesStatic c.args.program.now c.args.method.0 k c.in-GetstaticRef.place c.in-GetstaticRef.class i) (sym c.reference_kind-in-GetstaticRef.ensures.1) (quick-stands c.args.program.now c.args.method.0 i c.args.quick.now (quick.GetstaticRef c.in-GetstaticRef.place c.in-GetstaticRef.class) c.requires.next.1 c.in-GetstaticRef.is c.reference_kind-in-GetstaticRef.ensures.0), c.requires.next.2)

pub returns-in-GetstaticRef-clause-did : goal.returns-in-GetstaticRef-clause-did
returns-in-GetstaticRef-clause-did g c told i has =
    let names = quick-stands c.args.program.now c.args.method.0 i c.args.quick.now (quick.GetstaticRef c.in-GetstaticRef.place c.in-GetstaticRef.class) has c.in-GetstaticRef.is c.reference_kind-in-GetstaticRef.ensures.0 in
    (ap nest_of names.insn_is, c.static_read_at-in-GetstaticRef.ensures.did told)
