use Rattle.std.proofs.Common.{◌≡◌, ◌+◌, ap, refl, subst}
use Rattle.fm_code.specs.declared.instructions.Insn.TheVariants as insn
use Rattle.fm_code.specs.declared.operations.Elem.TheVariants as elem
use Rattle.fm_exec_nests.specs.inner.Costs.{nest_of}
use Rattle.fm_fast.specs.Flows.{resumed}
use Rattle.fm_fast.specs.Operands.{AsksOf}
use Rattle.fm_frames.specs.Rows.{effect_of}
use Rattle.fm_law_can_step.proofs.Puts.{takes_element}
use Rattle.fm_run.proofs.FlatSteps.{cheap-next}
use Rattle.fm_run.proofs.NextSteps.{here, next-at, row-does}
use Rattle.fm_run.proofs.QuickSteps.{insn-is, insn_for}
use Rattle.fm_run.proofs.quick_rows.do_array_store.Goals as goal
use Rattle.fm_types.specs.Typed.{use_by}

pub array_store-requires-clause-asks : goal.array_store-requires-clause-asks
array_store-requires-clause-asks g c =
    let i = c.requires.next.0 in
    let is : i ≡ insn.ArrayStore elem.Byte = subst (λ q. i ≡ insn_for q i) c.in-Bastore.is (insn-is c.args.program.now c.args.method.0 i c.args.quick.now c.requires.next.1) in
    subst (λ i. AsksOf i c.args.frames.now) is c.requires.next.2.asks

pub array_store-requires-clause-takes : goal.array_store-requires-clause-takes
array_store-requires-clause-takes g c =
    let i = c.requires.next.0 in
    let is : i ≡ insn.ArrayStore elem.Byte = subst (λ q. i ≡ insn_for q i) c.in-Bastore.is (insn-is c.args.program.now c.args.method.0 i c.args.quick.now c.requires.next.1) in
    let p = c.args.program.now in
    let x = resumed c.args.machine.now c.args.frames.now c.args.counted in
    let at = here p x i (insn.ArrayStore elem.Byte) c.requires.next.2.at.at is in
    takes_element p x elem.Byte (use_by p at.frame.method (insn.ArrayStore elem.Byte)) c.requires.run
    (cheap-next p c.args.steps x c.args.method.0 i (insn.ArrayStore elem.Byte) c.requires.next.2 is refl).going (next-at p x (insn.ArrayStore elem.Byte) at)

pub returns-in-Bastore-clause-did : goal.returns-in-Bastore-clause-did
unfolding effect_of
returns-in-Bastore-clause-did g c told i has =
    let it = c.requires.next.0 in
    let it_is : it ≡ insn.ArrayStore elem.Byte = subst (λ q. it ≡ insn_for q it) c.in-Bastore.is (insn-is c.args.program.now c.args.method.0 it c.args.quick.now c.requires.next.1) in
    let is : i ≡ insn.ArrayStore elem.Byte = subst (λ q. i ≡ insn_for q i) c.in-Bastore.is (insn-is c.args.program.now c.args.method.0 i c.args.quick.now has) in (
      ap nest_of is,
      row-does c.args.program.now g.M.Memory.choose (resumed c.args.machine.now c.args.frames.now c.args.counted)
          (resumed c.array_store.new.machine c.array_store.new.frames (c.args.counted + 1)) it (insn.ArrayStore elem.Byte) c.requires.next.2.at.at it_is (c.array_store.ensures.did told c.args.counted),
    )

pub array_store-requires-in-Castore-clause-asks : goal.array_store-requires-in-Castore-clause-asks
array_store-requires-in-Castore-clause-asks g c =
    let i = c.requires.next.0 in
    let is : i ≡ insn.ArrayStore elem.Char = subst (λ q. i ≡ insn_for q i) c.in-Castore.is (insn-is c.args.program.now c.args.method.0 i c.args.quick.now c.requires.next.1) in
    subst (λ i. AsksOf i c.args.frames.now) is c.requires.next.2.asks

pub array_store-requires-in-Castore-clause-takes : goal.array_store-requires-in-Castore-clause-takes
array_store-requires-in-Castore-clause-takes g c =
    let i = c.requires.next.0 in
    let is : i ≡ insn.ArrayStore elem.Char = subst (λ q. i ≡ insn_for q i) c.in-Castore.is (insn-is c.args.program.now c.args.method.0 i c.args.quick.now c.requires.next.1) in
    let p = c.args.program.now in
    let x = resumed c.args.machine.now c.args.frames.now c.args.counted in
    let at = here p x i (insn.ArrayStore elem.Char) c.requires.next.2.at.at is in
    takes_element p x elem.Char (use_by p at.frame.method (insn.ArrayStore elem.Char)) c.requires.run
    (cheap-next p c.args.steps x c.args.method.0 i (insn.ArrayStore elem.Char) c.requires.next.2 is refl).going (next-at p x (insn.ArrayStore elem.Char) at)

pub returns-in-Castore-clause-did : goal.returns-in-Castore-clause-did
unfolding effect_of
returns-in-Castore-clause-did g c told i has =
    let it = c.requires.next.0 in
    let it_is : it ≡ insn.ArrayStore elem.Char = subst (λ q. it ≡ insn_for q it) c.in-Castore.is (insn-is c.args.program.now c.args.method.0 it c.args.quick.now c.requires.next.1) in
    let is : i ≡ insn.ArrayStore elem.Char = subst (λ q. i ≡ insn_for q i) c.in-Castore.is (insn-is c.args.program.now c.args.method.0 i c.args.quick.now has) in (
      ap nest_of is,
      row-does c.args.program.now g.M.Memory.choose (resumed c.args.machine.now c.args.frames.now c.args.counted)
          (resumed c.array_store-in-Castore.new.machine c.array_store-in-Castore.new.frames (c.args.counted + 1)) it (insn.ArrayStore elem.Char) c.requires.next.2.at.at it_is (c.array_store-in-Castore.ensures.did told c.args.counted),
    )

pub array_store-requires-in-Sastore-clause-asks : goal.array_store-requires-in-Sastore-clause-asks
array_store-requires-in-Sastore-clause-asks g c =
    let i = c.requires.next.0 in
    let is : i ≡ insn.ArrayStore elem.Short = subst (λ q. i ≡ insn_for q i) c.in-Sastore.is (insn-is c.args.program.now c.args.method.0 i c.args.quick.now c.requires.next.1) in
    subst (λ i. AsksOf i c.args.frames.now) is c.requires.next.2.asks

pub array_store-requires-in-Sastore-clause-takes : goal.array_store-requires-in-Sastore-clause-takes
array_store-requires-in-Sastore-clause-takes g c =
    let i = c.requires.next.0 in
    let is : i ≡ insn.ArrayStore elem.Short = subst (λ q. i ≡ insn_for q i) c.in-Sastore.is (insn-is c.args.program.now c.args.method.0 i c.args.quick.now c.requires.next.1) in
    let p = c.args.program.now in
    let x = resumed c.args.machine.now c.args.frames.now c.args.counted in
    let at = here p x i (insn.ArrayStore elem.Short) c.requires.next.2.at.at is in
    takes_element p x elem.Short (use_by p at.frame.method (insn.ArrayStore elem.Short)) c.requires.run
    (cheap-next p c.args.steps x c.args.method.0 i (insn.ArrayStore elem.Short) c.requires.next.2 is refl).going (next-at p x (insn.ArrayStore elem.Short) at)

pub returns-in-Sastore-clause-did : goal.returns-in-Sastore-clause-did
unfolding effect_of
returns-in-Sastore-clause-did g c told i has =
    let it = c.requires.next.0 in
    let it_is : it ≡ insn.ArrayStore elem.Short = subst (λ q. it ≡ insn_for q it) c.in-Sastore.is (insn-is c.args.program.now c.args.method.0 it c.args.quick.now c.requires.next.1) in
    let is : i ≡ insn.ArrayStore elem.Short = subst (λ q. i ≡ insn_for q i) c.in-Sastore.is (insn-is c.args.program.now c.args.method.0 i c.args.quick.now has) in (
      ap nest_of is,
      row-does c.args.program.now g.M.Memory.choose (resumed c.args.machine.now c.args.frames.now c.args.counted)
          (resumed c.array_store-in-Sastore.new.machine c.array_store-in-Sastore.new.frames (c.args.counted + 1)) it (insn.ArrayStore elem.Short) c.requires.next.2.at.at it_is (c.array_store-in-Sastore.ensures.did told c.args.counted),
    )

pub array_store-requires-in-Iastore-clause-asks : goal.array_store-requires-in-Iastore-clause-asks
array_store-requires-in-Iastore-clause-asks g c =
    let i = c.requires.next.0 in
    let is : i ≡ insn.ArrayStore elem.Int = subst (λ q. i ≡ insn_for q i) c.in-Iastore.is (insn-is c.args.program.now c.args.method.0 i c.args.quick.now c.requires.next.1) in
    subst (λ i. AsksOf i c.args.frames.now) is c.requires.next.2.asks

pub array_store-requires-in-Iastore-clause-takes : goal.array_store-requires-in-Iastore-clause-takes
array_store-requires-in-Iastore-clause-takes g c =
    let i = c.requires.next.0 in
    let is : i ≡ insn.ArrayStore elem.Int = subst (λ q. i ≡ insn_for q i) c.in-Iastore.is (insn-is c.args.program.now c.args.method.0 i c.args.quick.now c.requires.next.1) in
    let p = c.args.program.now in
    let x = resumed c.args.machine.now c.args.frames.now c.args.counted in
    let at = here p x i (insn.ArrayStore elem.Int) c.requires.next.2.at.at is in
    takes_element p x elem.Int (use_by p at.frame.method (insn.ArrayStore elem.Int)) c.requires.run
    (cheap-next p c.args.steps x c.args.method.0 i (insn.ArrayStore elem.Int) c.requires.next.2 is refl).going (next-at p x (insn.ArrayStore elem.Int) at)

pub returns-in-Iastore-clause-did : goal.returns-in-Iastore-clause-did
unfolding effect_of
returns-in-Iastore-clause-did g c told i has =
    let it = c.requires.next.0 in
    let it_is : it ≡ insn.ArrayStore elem.Int = subst (λ q. it ≡ insn_for q it) c.in-Iastore.is (insn-is c.args.program.now c.args.method.0 it c.args.quick.now c.requires.next.1) in
    let is : i ≡ insn.ArrayStore elem.Int = subst (λ q. i ≡ insn_for q i) c.in-Iastore.is (insn-is c.args.program.now c.args.method.0 i c.args.quick.now has) in (
      ap nest_of is,
      row-does c.args.program.now g.M.Memory.choose (resumed c.args.machine.now c.args.frames.now c.args.counted)
          (resumed c.array_store-in-Iastore.new.machine c.array_store-in-Iastore.new.frames (c.args.counted + 1)) it (insn.ArrayStore elem.Int) c.requires.next.2.at.at it_is (c.array_store-in-Iastore.ensures.did told c.args.counted),
    )

pub array_store-requires-in-Lastore-clause-asks : goal.array_store-requires-in-Lastore-clause-asks
array_store-requires-in-Lastore-clause-asks g c =
    let i = c.requires.next.0 in
    let is : i ≡ insn.ArrayStore elem.Long = subst (λ q. i ≡ insn_for q i) c.in-Lastore.is (insn-is c.args.program.now c.args.method.0 i c.args.quick.now c.requires.next.1) in
    subst (λ i. AsksOf i c.args.frames.now) is c.requires.next.2.asks

pub array_store-requires-in-Lastore-clause-takes : goal.array_store-requires-in-Lastore-clause-takes
array_store-requires-in-Lastore-clause-takes g c =
    let i = c.requires.next.0 in
    let is : i ≡ insn.ArrayStore elem.Long = subst (λ q. i ≡ insn_for q i) c.in-Lastore.is (insn-is c.args.program.now c.args.method.0 i c.args.quick.now c.requires.next.1) in
    let p = c.args.program.now in
    let x = resumed c.args.machine.now c.args.frames.now c.args.counted in
    let at = here p x i (insn.ArrayStore elem.Long) c.requires.next.2.at.at is in
    takes_element p x elem.Long (use_by p at.frame.method (insn.ArrayStore elem.Long)) c.requires.run
    (cheap-next p c.args.steps x c.args.method.0 i (insn.ArrayStore elem.Long) c.requires.next.2 is refl).going (next-at p x (insn.ArrayStore elem.Long) at)

pub returns-in-Lastore-clause-did : goal.returns-in-Lastore-clause-did
unfolding effect_of
returns-in-Lastore-clause-did g c told i has =
    let it = c.requires.next.0 in
    let it_is : it ≡ insn.ArrayStore elem.Long = subst (λ q. it ≡ insn_for q it) c.in-Lastore.is (insn-is c.args.program.now c.args.method.0 it c.args.quick.now c.requires.next.1) in
    let is : i ≡ insn.ArrayStore elem.Long = subst (λ q. i ≡ insn_for q i) c.in-Lastore.is (insn-is c.args.program.now c.args.method.0 i c.args.quick.now has) in (
      ap nest_of is,
      row-does c.args.program.now g.M.Memory.choose (resumed c.args.machine.now c.args.frames.now c.args.counted)
          (resumed c.array_store-in-Lastore.new.machine c.array_store-in-Lastore.new.frames (c.args.counted + 1)) it (insn.ArrayStore elem.Long) c.requires.next.2.at.at it_is (c.array_store-in-Lastore.ensures.did told c.args.counted),
    )
