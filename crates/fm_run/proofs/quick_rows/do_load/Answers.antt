use Rattle.std.proofs.Common.{◌≡◌, refl, subst}
use Rattle.fm_code.specs.declared.instructions.Insn.TheVariants as insn
use Rattle.fm_code.specs.declared.operations.Reg.TheVariants as reg
use Rattle.fm_fast.specs.Operands.{AsksOf}
use Rattle.fm_frames.specs.Rows.{effect_of}
use Rattle.fm_run.proofs.FlatSteps.{row-flows}
use Rattle.fm_run.proofs.QuickSteps.{insn-is, insn_for}
use Rattle.fm_run.proofs.quick_rows.do_load.Goals as goal

pub load-requires-clause-there : goal.load-requires-clause-there
load-requires-clause-there c =
    let i = c.requires.asks.2 in
    let is : i ≡ insn.Load reg.Int c.in-Iload.place = subst (λ q. i ≡ insn_for q i) c.in-Iload.is (insn-is c.requires.asks.0 c.requires.asks.1 i c.args.quick.now c.requires.asks.3) in
    subst (λ i. AsksOf i c.args.frames.now) is c.requires.asks.4

pub returns-in-Iload-clause-did : goal.returns-in-Iload-clause-did
unfolding effect_of
returns-in-Iload-clause-did c told p method i has =
    let is : i ≡ insn.Load reg.Int c.in-Iload.place = subst (λ q. i ≡ insn_for q i) c.in-Iload.is (insn-is p method i c.args.quick.now has) in
    row-flows p method c.args.frames.now c.load.new.frames i (insn.Load reg.Int c.in-Iload.place) is refl
    (λ choose x at. c.load.ensures.did told p choose x)

pub load-requires-in-Lload-clause-there : goal.load-requires-in-Lload-clause-there
load-requires-in-Lload-clause-there c =
    let i = c.requires.asks.2 in
    let is : i ≡ insn.Load reg.Long c.in-Lload.place = subst (λ q. i ≡ insn_for q i) c.in-Lload.is (insn-is c.requires.asks.0 c.requires.asks.1 i c.args.quick.now c.requires.asks.3) in
    subst (λ i. AsksOf i c.args.frames.now) is c.requires.asks.4

pub returns-in-Lload-clause-did : goal.returns-in-Lload-clause-did
unfolding effect_of
returns-in-Lload-clause-did c told p method i has =
    let is : i ≡ insn.Load reg.Long c.in-Lload.place = subst (λ q. i ≡ insn_for q i) c.in-Lload.is (insn-is p method i c.args.quick.now has) in
    row-flows p method c.args.frames.now c.load-in-Lload.new.frames i (insn.Load reg.Long c.in-Lload.place) is refl
    (λ choose x at. c.load-in-Lload.ensures.did told p choose x)

pub load-requires-in-Aload-clause-there : goal.load-requires-in-Aload-clause-there
load-requires-in-Aload-clause-there c =
    let i = c.requires.asks.2 in
    let is : i ≡ insn.Load reg.Ref c.in-Aload.place = subst (λ q. i ≡ insn_for q i) c.in-Aload.is (insn-is c.requires.asks.0 c.requires.asks.1 i c.args.quick.now c.requires.asks.3) in
    subst (λ i. AsksOf i c.args.frames.now) is c.requires.asks.4

pub returns-in-Aload-clause-did : goal.returns-in-Aload-clause-did
unfolding effect_of
returns-in-Aload-clause-did c told p method i has =
    let is : i ≡ insn.Load reg.Ref c.in-Aload.place = subst (λ q. i ≡ insn_for q i) c.in-Aload.is (insn-is p method i c.args.quick.now has) in
    row-flows p method c.args.frames.now c.load-in-Aload.new.frames i (insn.Load reg.Ref c.in-Aload.place) is refl
    (λ choose x at. c.load-in-Aload.ensures.did told p choose x)
