use Rattle.std.proofs.Common.{◌≡◌, refl, subst}
use Rattle.fm_code.specs.declared.instructions.Insn.TheVariants as insn
use Rattle.fm_code.specs.declared.operations.Op.TheVariants as op
use Rattle.fm_fast.specs.Operands.{AsksOf}
use Rattle.fm_frames.specs.Rows.{effect_of}
use Rattle.fm_run.proofs.FlatSteps.{row-flows}
use Rattle.fm_run.proofs.QuickSteps.{insn-is, insn_for}
use Rattle.fm_run.proofs.quick_rows.do_int_op.Goals as goal

pub int_op-requires-clause-first : goal.int_op-requires-clause-first
int_op-requires-clause-first c =
    let i = c.requires.asks.2 in
    let is : i ≡ insn.IntOp op.Add = subst (λ q. i ≡ insn_for q i) c.in-Iadd.is (insn-is c.requires.asks.0 c.requires.asks.1 i c.args.quick.now c.requires.asks.3) in
    (subst (λ i. AsksOf i c.args.frames.now) is c.requires.asks.4).0

pub int_op-requires-clause-second : goal.int_op-requires-clause-second
int_op-requires-clause-second c =
    let i = c.requires.asks.2 in
    let is : i ≡ insn.IntOp op.Add = subst (λ q. i ≡ insn_for q i) c.in-Iadd.is (insn-is c.requires.asks.0 c.requires.asks.1 i c.args.quick.now c.requires.asks.3) in
    (subst (λ i. AsksOf i c.args.frames.now) is c.requires.asks.4).1

pub returns-in-Iadd-clause-did : goal.returns-in-Iadd-clause-did
unfolding effect_of
returns-in-Iadd-clause-did c told p method i has =
    let is : i ≡ insn.IntOp op.Add = subst (λ q. i ≡ insn_for q i) c.in-Iadd.is (insn-is p method i c.args.quick.now has) in
    row-flows p method c.args.frames.now c.int_op.new.frames i (insn.IntOp op.Add) is refl
    (λ choose x at. c.int_op.ensures.did told p choose x)

pub int_op-requires-in-Isub-clause-first : goal.int_op-requires-in-Isub-clause-first
int_op-requires-in-Isub-clause-first c =
    let i = c.requires.asks.2 in
    let is : i ≡ insn.IntOp op.Sub = subst (λ q. i ≡ insn_for q i) c.in-Isub.is (insn-is c.requires.asks.0 c.requires.asks.1 i c.args.quick.now c.requires.asks.3) in
    (subst (λ i. AsksOf i c.args.frames.now) is c.requires.asks.4).0

pub int_op-requires-in-Isub-clause-second : goal.int_op-requires-in-Isub-clause-second
int_op-requires-in-Isub-clause-second c =
    let i = c.requires.asks.2 in
    let is : i ≡ insn.IntOp op.Sub = subst (λ q. i ≡ insn_for q i) c.in-Isub.is (insn-is c.requires.asks.0 c.requires.asks.1 i c.args.quick.now c.requires.asks.3) in
    (subst (λ i. AsksOf i c.args.frames.now) is c.requires.asks.4).1

pub returns-in-Isub-clause-did : goal.returns-in-Isub-clause-did
unfolding effect_of
returns-in-Isub-clause-did c told p method i has =
    let is : i ≡ insn.IntOp op.Sub = subst (λ q. i ≡ insn_for q i) c.in-Isub.is (insn-is p method i c.args.quick.now has) in
    row-flows p method c.args.frames.now c.int_op-in-Isub.new.frames i (insn.IntOp op.Sub) is refl
    (λ choose x at. c.int_op-in-Isub.ensures.did told p choose x)

pub int_op-requires-in-Imul-clause-first : goal.int_op-requires-in-Imul-clause-first
int_op-requires-in-Imul-clause-first c =
    let i = c.requires.asks.2 in
    let is : i ≡ insn.IntOp op.Mul = subst (λ q. i ≡ insn_for q i) c.in-Imul.is (insn-is c.requires.asks.0 c.requires.asks.1 i c.args.quick.now c.requires.asks.3) in
    (subst (λ i. AsksOf i c.args.frames.now) is c.requires.asks.4).0

pub int_op-requires-in-Imul-clause-second : goal.int_op-requires-in-Imul-clause-second
int_op-requires-in-Imul-clause-second c =
    let i = c.requires.asks.2 in
    let is : i ≡ insn.IntOp op.Mul = subst (λ q. i ≡ insn_for q i) c.in-Imul.is (insn-is c.requires.asks.0 c.requires.asks.1 i c.args.quick.now c.requires.asks.3) in
    (subst (λ i. AsksOf i c.args.frames.now) is c.requires.asks.4).1

pub returns-in-Imul-clause-did : goal.returns-in-Imul-clause-did
unfolding effect_of
returns-in-Imul-clause-did c told p method i has =
    let is : i ≡ insn.IntOp op.Mul = subst (λ q. i ≡ insn_for q i) c.in-Imul.is (insn-is p method i c.args.quick.now has) in
    row-flows p method c.args.frames.now c.int_op-in-Imul.new.frames i (insn.IntOp op.Mul) is refl
    (λ choose x at. c.int_op-in-Imul.ensures.did told p choose x)

pub int_op-requires-in-Idiv-clause-first : goal.int_op-requires-in-Idiv-clause-first
int_op-requires-in-Idiv-clause-first c =
    let i = c.requires.asks.2 in
    let is : i ≡ insn.IntOp op.Div = subst (λ q. i ≡ insn_for q i) c.in-Idiv.is (insn-is c.requires.asks.0 c.requires.asks.1 i c.args.quick.now c.requires.asks.3) in
    (subst (λ i. AsksOf i c.args.frames.now) is c.requires.asks.4).0

pub int_op-requires-in-Idiv-clause-second : goal.int_op-requires-in-Idiv-clause-second
int_op-requires-in-Idiv-clause-second c =
    let i = c.requires.asks.2 in
    let is : i ≡ insn.IntOp op.Div = subst (λ q. i ≡ insn_for q i) c.in-Idiv.is (insn-is c.requires.asks.0 c.requires.asks.1 i c.args.quick.now c.requires.asks.3) in
    (subst (λ i. AsksOf i c.args.frames.now) is c.requires.asks.4).1

pub returns-in-Idiv-clause-did : goal.returns-in-Idiv-clause-did
unfolding effect_of
returns-in-Idiv-clause-did c told p method i has =
    let is : i ≡ insn.IntOp op.Div = subst (λ q. i ≡ insn_for q i) c.in-Idiv.is (insn-is p method i c.args.quick.now has) in
    row-flows p method c.args.frames.now c.int_op-in-Idiv.new.frames i (insn.IntOp op.Div) is refl
    (λ choose x at. c.int_op-in-Idiv.ensures.did told p choose x)

pub int_op-requires-in-Irem-clause-first : goal.int_op-requires-in-Irem-clause-first
int_op-requires-in-Irem-clause-first c =
    let i = c.requires.asks.2 in
    let is : i ≡ insn.IntOp op.Rem = subst (λ q. i ≡ insn_for q i) c.in-Irem.is (insn-is c.requires.asks.0 c.requires.asks.1 i c.args.quick.now c.requires.asks.3) in
    (subst (λ i. AsksOf i c.args.frames.now) is c.requires.asks.4).0

pub int_op-requires-in-Irem-clause-second : goal.int_op-requires-in-Irem-clause-second
int_op-requires-in-Irem-clause-second c =
    let i = c.requires.asks.2 in
    let is : i ≡ insn.IntOp op.Rem = subst (λ q. i ≡ insn_for q i) c.in-Irem.is (insn-is c.requires.asks.0 c.requires.asks.1 i c.args.quick.now c.requires.asks.3) in
    (subst (λ i. AsksOf i c.args.frames.now) is c.requires.asks.4).1

pub returns-in-Irem-clause-did : goal.returns-in-Irem-clause-did
unfolding effect_of
returns-in-Irem-clause-did c told p method i has =
    let is : i ≡ insn.IntOp op.Rem = subst (λ q. i ≡ insn_for q i) c.in-Irem.is (insn-is p method i c.args.quick.now has) in
    row-flows p method c.args.frames.now c.int_op-in-Irem.new.frames i (insn.IntOp op.Rem) is refl
    (λ choose x at. c.int_op-in-Irem.ensures.did told p choose x)

pub int_op-requires-in-Iand-clause-first : goal.int_op-requires-in-Iand-clause-first
int_op-requires-in-Iand-clause-first c =
    let i = c.requires.asks.2 in
    let is : i ≡ insn.IntOp op.And = subst (λ q. i ≡ insn_for q i) c.in-Iand.is (insn-is c.requires.asks.0 c.requires.asks.1 i c.args.quick.now c.requires.asks.3) in
    (subst (λ i. AsksOf i c.args.frames.now) is c.requires.asks.4).0

pub int_op-requires-in-Iand-clause-second : goal.int_op-requires-in-Iand-clause-second
int_op-requires-in-Iand-clause-second c =
    let i = c.requires.asks.2 in
    let is : i ≡ insn.IntOp op.And = subst (λ q. i ≡ insn_for q i) c.in-Iand.is (insn-is c.requires.asks.0 c.requires.asks.1 i c.args.quick.now c.requires.asks.3) in
    (subst (λ i. AsksOf i c.args.frames.now) is c.requires.asks.4).1

pub returns-in-Iand-clause-did : goal.returns-in-Iand-clause-did
unfolding effect_of
returns-in-Iand-clause-did c told p method i has =
    let is : i ≡ insn.IntOp op.And = subst (λ q. i ≡ insn_for q i) c.in-Iand.is (insn-is p method i c.args.quick.now has) in
    row-flows p method c.args.frames.now c.int_op-in-Iand.new.frames i (insn.IntOp op.And) is refl
    (λ choose x at. c.int_op-in-Iand.ensures.did told p choose x)

pub int_op-requires-in-Ior-clause-first : goal.int_op-requires-in-Ior-clause-first
int_op-requires-in-Ior-clause-first c =
    let i = c.requires.asks.2 in
    let is : i ≡ insn.IntOp op.Or = subst (λ q. i ≡ insn_for q i) c.in-Ior.is (insn-is c.requires.asks.0 c.requires.asks.1 i c.args.quick.now c.requires.asks.3) in
    (subst (λ i. AsksOf i c.args.frames.now) is c.requires.asks.4).0

pub int_op-requires-in-Ior-clause-second : goal.int_op-requires-in-Ior-clause-second
int_op-requires-in-Ior-clause-second c =
    let i = c.requires.asks.2 in
    let is : i ≡ insn.IntOp op.Or = subst (λ q. i ≡ insn_for q i) c.in-Ior.is (insn-is c.requires.asks.0 c.requires.asks.1 i c.args.quick.now c.requires.asks.3) in
    (subst (λ i. AsksOf i c.args.frames.now) is c.requires.asks.4).1

pub returns-in-Ior-clause-did : goal.returns-in-Ior-clause-did
unfolding effect_of
returns-in-Ior-clause-did c told p method i has =
    let is : i ≡ insn.IntOp op.Or = subst (λ q. i ≡ insn_for q i) c.in-Ior.is (insn-is p method i c.args.quick.now has) in
    row-flows p method c.args.frames.now c.int_op-in-Ior.new.frames i (insn.IntOp op.Or) is refl
    (λ choose x at. c.int_op-in-Ior.ensures.did told p choose x)

pub int_op-requires-in-Ixor-clause-first : goal.int_op-requires-in-Ixor-clause-first
int_op-requires-in-Ixor-clause-first c =
    let i = c.requires.asks.2 in
    let is : i ≡ insn.IntOp op.Xor = subst (λ q. i ≡ insn_for q i) c.in-Ixor.is (insn-is c.requires.asks.0 c.requires.asks.1 i c.args.quick.now c.requires.asks.3) in
    (subst (λ i. AsksOf i c.args.frames.now) is c.requires.asks.4).0

pub int_op-requires-in-Ixor-clause-second : goal.int_op-requires-in-Ixor-clause-second
int_op-requires-in-Ixor-clause-second c =
    let i = c.requires.asks.2 in
    let is : i ≡ insn.IntOp op.Xor = subst (λ q. i ≡ insn_for q i) c.in-Ixor.is (insn-is c.requires.asks.0 c.requires.asks.1 i c.args.quick.now c.requires.asks.3) in
    (subst (λ i. AsksOf i c.args.frames.now) is c.requires.asks.4).1

pub returns-in-Ixor-clause-did : goal.returns-in-Ixor-clause-did
unfolding effect_of
returns-in-Ixor-clause-did c told p method i has =
    let is : i ≡ insn.IntOp op.Xor = subst (λ q. i ≡ insn_for q i) c.in-Ixor.is (insn-is p method i c.args.quick.now has) in
    row-flows p method c.args.frames.now c.int_op-in-Ixor.new.frames i (insn.IntOp op.Xor) is refl
    (λ choose x at. c.int_op-in-Ixor.ensures.did told p choose x)
