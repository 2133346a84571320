use Rattle.std.proofs.Common.{◌≡◌, ◌+◌, ap, refl, subst}
use Rattle.fm_code.specs.declared.instructions.Insn.TheVariants as insn
use Rattle.fm_code.specs.declared.operations.Elem.TheVariants as elem
use Rattle.fm_exec_nests.specs.inner.Costs.{nest_of}
use Rattle.fm_fast.specs.Flows.{resumed}
use Rattle.fm_fast.specs.Operands.{AsksOf}
use Rattle.fm_frames.specs.Rows.{effect_of}
use Rattle.fm_law_can_step.proofs.Heap.{holds_elements, holds_length}
use Rattle.fm_run.proofs.FlatSteps.{cheap-next}
use Rattle.fm_run.proofs.NextSteps.{row-does}
use Rattle.fm_run.proofs.QuickSteps.{insn-is, insn_for}
use Rattle.fm_run.proofs.quick_rows.do_array_load.Goals as goal

pub array_load-requires-clause-array : goal.array_load-requires-clause-array
array_load-requires-clause-array g c =
    let i = c.requires.next.0 in
    let is : i ≡ insn.ArrayLoad elem.Byte = subst (λ q. i ≡ insn_for q i) c.in-Baload.is (insn-is c.args.program.now c.args.method.0 i c.args.quick.now c.requires.next.1) in
    (subst (λ i. AsksOf i c.args.frames.now) is c.requires.next.2.asks).0

pub array_load-requires-clause-index : goal.array_load-requires-clause-index
array_load-requires-clause-index g c =
    let i = c.requires.next.0 in
    let is : i ≡ insn.ArrayLoad elem.Byte = subst (λ q. i ≡ insn_for q i) c.in-Baload.is (insn-is c.args.program.now c.args.method.0 i c.args.quick.now c.requires.next.1) in
    (subst (λ i. AsksOf i c.args.frames.now) is c.requires.next.2.asks).1

pub array_load-requires-clause-holds : goal.array_load-requires-clause-holds
array_load-requires-clause-holds g c =
    let i = c.requires.next.0 in
    let is : i ≡ insn.ArrayLoad elem.Byte = subst (λ q. i ≡ insn_for q i) c.in-Baload.is (insn-is c.args.program.now c.args.method.0 i c.args.quick.now c.requires.next.1) in
    holds_elements c.args.program.now (resumed c.args.machine.now c.args.frames.now c.args.counted) elem.Byte c.requires.run
    (cheap-next c.args.program.now c.args.steps (resumed c.args.machine.now c.args.frames.now c.args.counted) c.args.method.0 i (insn.ArrayLoad elem.Byte) c.requires.next.2 is refl).going

pub returns-in-Baload-clause-did : goal.returns-in-Baload-clause-did
unfolding effect_of
returns-in-Baload-clause-did g c told i has =
    let it = c.requires.next.0 in
    let it_is : it ≡ insn.ArrayLoad elem.Byte = subst (λ q. it ≡ insn_for q it) c.in-Baload.is (insn-is c.args.program.now c.args.method.0 it c.args.quick.now c.requires.next.1) in
    let is : i ≡ insn.ArrayLoad elem.Byte = subst (λ q. i ≡ insn_for q i) c.in-Baload.is (insn-is c.args.program.now c.args.method.0 i c.args.quick.now has) in (
      ap nest_of is,
      row-does c.args.program.now g.M.Memory.choose (resumed c.args.machine.now c.args.frames.now c.args.counted)
          (resumed c.args.machine.now c.array_load.new.frames (c.args.counted + 1)) it (insn.ArrayLoad elem.Byte) c.requires.next.2.at.at it_is (c.array_load.ensures.did told c.args.counted),
    )

pub array_load-requires-in-Caload-clause-array : goal.array_load-requires-in-Caload-clause-array
array_load-requires-in-Caload-clause-array g c =
    let i = c.requires.next.0 in
    let is : i ≡ insn.ArrayLoad elem.Char = subst (λ q. i ≡ insn_for q i) c.in-Caload.is (insn-is c.args.program.now c.args.method.0 i c.args.quick.now c.requires.next.1) in
    (subst (λ i. AsksOf i c.args.frames.now) is c.requires.next.2.asks).0

pub array_load-requires-in-Caload-clause-index : goal.array_load-requires-in-Caload-clause-index
array_load-requires-in-Caload-clause-index g c =
    let i = c.requires.next.0 in
    let is : i ≡ insn.ArrayLoad elem.Char = subst (λ q. i ≡ insn_for q i) c.in-Caload.is (insn-is c.args.program.now c.args.method.0 i c.args.quick.now c.requires.next.1) in
    (subst (λ i. AsksOf i c.args.frames.now) is c.requires.next.2.asks).1

pub array_load-requires-in-Caload-clause-holds : goal.array_load-requires-in-Caload-clause-holds
array_load-requires-in-Caload-clause-holds g c =
    let i = c.requires.next.0 in
    let is : i ≡ insn.ArrayLoad elem.Char = subst (λ q. i ≡ insn_for q i) c.in-Caload.is (insn-is c.args.program.now c.args.method.0 i c.args.quick.now c.requires.next.1) in
    holds_elements c.args.program.now (resumed c.args.machine.now c.args.frames.now c.args.counted) elem.Char c.requires.run
    (cheap-next c.args.program.now c.args.steps (resumed c.args.machine.now c.args.frames.now c.args.counted) c.args.method.0 i (insn.ArrayLoad elem.Char) c.requires.next.2 is refl).going

pub returns-in-Caload-clause-did : goal.returns-in-Caload-clause-did
unfolding effect_of
returns-in-Caload-clause-did g c told i has =
    let it = c.requires.next.0 in
    let it_is : it ≡ insn.ArrayLoad elem.Char = subst (λ q. it ≡ insn_for q it) c.in-Caload.is (insn-is c.args.program.now c.args.method.0 it c.args.quick.now c.requires.next.1) in
    let is : i ≡ insn.ArrayLoad elem.Char = subst (λ q. i ≡ insn_for q i) c.in-Caload.is (insn-is c.args.program.now c.args.method.0 i c.args.quick.now has) in (
      ap nest_of is,
      row-does c.args.program.now g.M.Memory.choose (resumed c.args.machine.now c.args.frames.now c.args.counted)
          (resumed c.args.machine.now c.array_load-in-Caload.new.frames (c.args.counted + 1)) it (insn.ArrayLoad elem.Char) c.requires.next.2.at.at it_is (c.array_load-in-Caload.ensures.did told c.args.counted),
    )

pub array_load-requires-in-Saload-clause-array : goal.array_load-requires-in-Saload-clause-array
array_load-requires-in-Saload-clause-array g c =
    let i = c.requires.next.0 in
    let is : i ≡ insn.ArrayLoad elem.Short = subst (λ q. i ≡ insn_for q i) c.in-Saload.is (insn-is c.args.program.now c.args.method.0 i c.args.quick.now c.requires.next.1) in
    (subst (λ i. AsksOf i c.args.frames.now) is c.requires.next.2.asks).0

pub array_load-requires-in-Saload-clause-index : goal.array_load-requires-in-Saload-clause-index
array_load-requires-in-Saload-clause-index g c =
    let i = c.requires.next.0 in
    let is : i ≡ insn.ArrayLoad elem.Short = subst (λ q. i ≡ insn_for q i) c.in-Saload.is (insn-is c.args.program.now c.args.method.0 i c.args.quick.now c.requires.next.1) in
    (subst (λ i. AsksOf i c.args.frames.now) is c.requires.next.2.asks).1

pub array_load-requires-in-Saload-clause-holds : goal.array_load-requires-in-Saload-clause-holds
array_load-requires-in-Saload-clause-holds g c =
    let i = c.requires.next.0 in
    let is : i ≡ insn.ArrayLoad elem.Short = subst (λ q. i ≡ insn_for q i) c.in-Saload.is (insn-is c.args.program.now c.args.method.0 i c.args.quick.now c.requires.next.1) in
    holds_elements c.args.program.now (resumed c.args.machine.now c.args.frames.now c.args.counted) elem.Short c.requires.run
    (cheap-next c.args.program.now c.args.steps (resumed c.args.machine.now c.args.frames.now c.args.counted) c.args.method.0 i (insn.ArrayLoad elem.Short) c.requires.next.2 is refl).going

pub returns-in-Saload-clause-did : goal.returns-in-Saload-clause-did
unfolding effect_of
returns-in-Saload-clause-did g c told i has =
    let it = c.requires.next.0 in
    let it_is : it ≡ insn.ArrayLoad elem.Short = subst (λ q. it ≡ insn_for q it) c.in-Saload.is (insn-is c.args.program.now c.args.method.0 it c.args.quick.now c.requires.next.1) in
    let is : i ≡ insn.ArrayLoad elem.Short = subst (λ q. i ≡ insn_for q i) c.in-Saload.is (insn-is c.args.program.now c.args.method.0 i c.args.quick.now has) in (
      ap nest_of is,
      row-does c.args.program.now g.M.Memory.choose (resumed c.args.machine.now c.args.frames.now c.args.counted)
          (resumed c.args.machine.now c.array_load-in-Saload.new.frames (c.args.counted + 1)) it (insn.ArrayLoad elem.Short) c.requires.next.2.at.at it_is (c.array_load-in-Saload.ensures.did told c.args.counted),
    )

pub array_load-requires-in-Iaload-clause-array : goal.array_load-requires-in-Iaload-clause-array
array_load-requires-in-Iaload-clause-array g c =
    let i = c.requires.next.0 in
    let is : i ≡ insn.ArrayLoad elem.Int = subst (λ q. i ≡ insn_for q i) c.in-Iaload.is (insn-is c.args.program.now c.args.method.0 i c.args.quick.now c.requires.next.1) in
    (subst (λ i. AsksOf i c.args.frames.now) is c.requires.next.2.asks).0

pub array_load-requires-in-Iaload-clause-index : goal.array_load-requires-in-Iaload-clause-index
array_load-requires-in-Iaload-clause-index g c =
    let i = c.requires.next.0 in
    let is : i ≡ insn.ArrayLoad elem.Int = subst (λ q. i ≡ insn_for q i) c.in-Iaload.is (insn-is c.args.program.now c.args.method.0 i c.args.quick.now c.requires.next.1) in
    (subst (λ i. AsksOf i c.args.frames.now) is c.requires.next.2.asks).1

pub array_load-requires-in-Iaload-clause-holds : goal.array_load-requires-in-Iaload-clause-holds
array_load-requires-in-Iaload-clause-holds g c =
    let i = c.requires.next.0 in
    let is : i ≡ insn.ArrayLoad elem.Int = subst (λ q. i ≡ insn_for q i) c.in-Iaload.is (insn-is c.args.program.now c.args.method.0 i c.args.quick.now c.requires.next.1) in
    holds_elements c.args.program.now (resumed c.args.machine.now c.args.frames.now c.args.counted) elem.Int c.requires.run
    (cheap-next c.args.program.now c.args.steps (resumed c.args.machine.now c.args.frames.now c.args.counted) c.args.method.0 i (insn.ArrayLoad elem.Int) c.requires.next.2 is refl).going

pub returns-in-Iaload-clause-did : goal.returns-in-Iaload-clause-did
unfolding effect_of
returns-in-Iaload-clause-did g c told i has =
    let it = c.requires.next.0 in
    let it_is : it ≡ insn.ArrayLoad elem.Int = subst (λ q. it ≡ insn_for q it) c.in-Iaload.is (insn-is c.args.program.now c.args.method.0 it c.args.quick.now c.requires.next.1) in
    let is : i ≡ insn.ArrayLoad elem.Int = subst (λ q. i ≡ insn_for q i) c.in-Iaload.is (insn-is c.args.program.now c.args.method.0 i c.args.quick.now has) in (
      ap nest_of is,
      row-does c.args.program.now g.M.Memory.choose (resumed c.args.machine.now c.args.frames.now c.args.counted)
          (resumed c.args.machine.now c.array_load-in-Iaload.new.frames (c.args.counted + 1)) it (insn.ArrayLoad elem.Int) c.requires.next.2.at.at it_is (c.array_load-in-Iaload.ensures.did told c.args.counted),
    )

pub array_load-requires-in-Laload-clause-array : goal.array_load-requires-in-Laload-clause-array
array_load-requires-in-Laload-clause-array g c =
    let i = c.requires.next.0 in
    let is : i ≡ insn.ArrayLoad elem.Long = subst (λ q. i ≡ insn_for q i) c.in-Laload.is (insn-is c.args.program.now c.args.method.0 i c.args.quick.now c.requires.next.1) in
    (subst (λ i. AsksOf i c.args.frames.now) is c.requires.next.2.asks).0

pub array_load-requires-in-Laload-clause-index : goal.array_load-requires-in-Laload-clause-index
array_load-requires-in-Laload-clause-index g c =
    let i = c.requires.next.0 in
    let is : i ≡ insn.ArrayLoad elem.Long = subst (λ q. i ≡ insn_for q i) c.in-Laload.is (insn-is c.args.program.now c.args.method.0 i c.args.quick.now c.requires.next.1) in
    (subst (λ i. AsksOf i c.args.frames.now) is c.requires.next.2.asks).1

pub array_load-requires-in-Laload-clause-holds : goal.array_load-requires-in-Laload-clause-holds
array_load-requires-in-Laload-clause-holds g c =
    let i = c.requires.next.0 in
    let is : i ≡ insn.ArrayLoad elem.Long = subst (λ q. i ≡ insn_for q i) c.in-Laload.is (insn-is c.args.program.now c.args.method.0 i c.args.quick.now c.requires.next.1) in
    holds_elements c.args.program.now (resumed c.args.machine.now c.args.frames.now c.args.counted) elem.Long c.requires.run
    (cheap-next c.args.program.now c.args.steps (resumed c.args.machine.now c.args.frames.now c.args.counted) c.args.method.0 i (insn.ArrayLoad elem.Long) c.requires.next.2 is refl).going

pub returns-in-Laload-clause-did : goal.returns-in-Laload-clause-did
unfolding effect_of
returns-in-Laload-clause-did g c told i has =
    let it = c.requires.next.0 in
    let it_is : it ≡ insn.ArrayLoad elem.Long = subst (λ q. it ≡ insn_for q it) c.in-Laload.is (insn-is c.args.program.now c.args.method.0 it c.args.quick.now c.requires.next.1) in
    let is : i ≡ insn.ArrayLoad elem.Long = subst (λ q. i ≡ insn_for q i) c.in-Laload.is (insn-is c.args.program.now c.args.method.0 i c.args.quick.now has) in (
      ap nest_of is,
      row-does c.args.program.now g.M.Memory.choose (resumed c.args.machine.now c.args.frames.now c.args.counted)
          (resumed c.args.machine.now c.array_load-in-Laload.new.frames (c.args.counted + 1)) it (insn.ArrayLoad elem.Long) c.requires.next.2.at.at it_is (c.array_load-in-Laload.ensures.did told c.args.counted),
    )

pub array_load-requires-in-Aaload-clause-array : goal.array_load-requires-in-Aaload-clause-array
array_load-requires-in-Aaload-clause-array g c =
    let i = c.requires.next.0 in
    let is : i ≡ insn.ArrayLoad elem.Ref = subst (λ q. i ≡ insn_for q i) c.in-Aaload.is (insn-is c.args.program.now c.args.method.0 i c.args.quick.now c.requires.next.1) in
    (subst (λ i. AsksOf i c.args.frames.now) is c.requires.next.2.asks).0

pub array_load-requires-in-Aaload-clause-index : goal.array_load-requires-in-Aaload-clause-index
array_load-requires-in-Aaload-clause-index g c =
    let i = c.requires.next.0 in
    let is : i ≡ insn.ArrayLoad elem.Ref = subst (λ q. i ≡ insn_for q i) c.in-Aaload.is (insn-is c.args.program.now c.args.method.0 i c.args.quick.now c.requires.next.1) in
    (subst (λ i. AsksOf i c.args.frames.now) is c.requires.next.2.asks).1

pub array_load-requires-in-Aaload-clause-holds : goal.array_load-requires-in-Aaload-clause-holds
array_load-requires-in-Aaload-clause-holds g c =
    let i = c.requires.next.0 in
    let is : i ≡ insn.ArrayLoad elem.Ref = subst (λ q. i ≡ insn_for q i) c.in-Aaload.is (insn-is c.args.program.now c.args.method.0 i c.args.quick.now c.requires.next.1) in
    holds_elements c.args.program.now (resumed c.args.machine.now c.args.frames.now c.args.counted) elem.Ref c.requires.run
    (cheap-next c.args.program.now c.args.steps (resumed c.args.machine.now c.args.frames.now c.args.counted) c.args.method.0 i (insn.ArrayLoad elem.Ref) c.requires.next.2 is refl).going

pub returns-in-Aaload-clause-did : goal.returns-in-Aaload-clause-did
unfolding effect_of
returns-in-Aaload-clause-did g c told i has =
    let it = c.requires.next.0 in
    let it_is : it ≡ insn.ArrayLoad elem.Ref = subst (λ q. it ≡ insn_for q it) c.in-Aaload.is (insn-is c.args.program.now c.args.method.0 it c.args.quick.now c.requires.next.1) in
    let is : i ≡ insn.ArrayLoad elem.Ref = subst (λ q. i ≡ insn_for q i) c.in-Aaload.is (insn-is c.args.program.now c.args.method.0 i c.args.quick.now has) in (
      ap nest_of is,
      row-does c.args.program.now g.M.Memory.choose (resumed c.args.machine.now c.args.frames.now c.args.counted)
          (resumed c.args.machine.now c.array_load-in-Aaload.new.frames (c.args.counted + 1)) it (insn.ArrayLoad elem.Ref) c.requires.next.2.at.at it_is (c.array_load-in-Aaload.ensures.did told c.args.counted),
    )

pub array_length-requires-clause-array : goal.array_length-requires-clause-array
array_length-requires-clause-array g c =
    let i = c.requires.next.0 in
    let is : i ≡ insn.Length = subst (λ q. i ≡ insn_for q i) c.in-Arraylength.is (insn-is c.args.program.now c.args.method.0 i c.args.quick.now c.requires.next.1) in
    subst (λ i. AsksOf i c.args.frames.now) is c.requires.next.2.asks

pub array_length-requires-clause-holds : goal.array_length-requires-clause-holds
array_length-requires-clause-holds g c =
    let i = c.requires.next.0 in
    let is : i ≡ insn.Length = subst (λ q. i ≡ insn_for q i) c.in-Arraylength.is (insn-is c.args.program.now c.args.method.0 i c.args.quick.now c.requires.next.1) in
    holds_length c.args.program.now (resumed c.args.machine.now c.args.frames.now c.args.counted) c.requires.run
    (cheap-next c.args.program.now c.args.steps (resumed c.args.machine.now c.args.frames.now c.args.counted) c.args.method.0 i insn.Length c.requires.next.2 is refl).going

pub returns-in-Arraylength-clause-did : goal.returns-in-Arraylength-clause-did
unfolding effect_of
returns-in-Arraylength-clause-did g c told i has =
    let it = c.requires.next.0 in
    let it_is : it ≡ insn.Length = subst (λ q. it ≡ insn_for q it) c.in-Arraylength.is (insn-is c.args.program.now c.args.method.0 it c.args.quick.now c.requires.next.1) in
    let is : i ≡ insn.Length = subst (λ q. i ≡ insn_for q i) c.in-Arraylength.is (insn-is c.args.program.now c.args.method.0 i c.args.quick.now has) in (
      ap nest_of is,
      row-does c.args.program.now g.M.Memory.choose (resumed c.args.machine.now c.args.frames.now c.args.counted)
          (resumed c.args.machine.now c.array_length.new.frames (c.args.counted + 1)) it insn.Length c.requires.next.2.at.at it_is (c.array_length.ensures.did told c.args.counted),
    )
