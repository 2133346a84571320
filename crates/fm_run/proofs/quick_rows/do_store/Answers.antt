use Rattle.std.proofs.Common.{◌≡◌, refl, subst}
use Rattle.fm_code.specs.declared.instructions.Insn.TheVariants as insn
use Rattle.fm_code.specs.declared.operations.Reg.TheVariants as reg
use Rattle.fm_fast.specs.Operands.{AsksOf}
use Rattle.fm_frames.specs.Rows.{effect_of}
use Rattle.fm_run.proofs.FlatSteps.{row-flows}
use Rattle.fm_run.proofs.QuickSteps.{insn-is, insn_for}
use Rattle.fm_run.proofs.quick_rows.do_store.Goals as goal

pub store-requires-clause-there : goal.store-requires-clause-there
store-requires-clause-there c =
    let i = c.requires.asks.2 in
    let is : i ≡ insn.Store reg.Int c.in-Istore.place = subst (λ q. i ≡ insn_for q i) c.in-Istore.is (insn-is c.requires.asks.0 c.requires.asks.1 i c.args.quick.now c.requires.asks.3) in
    subst (λ i. AsksOf i c.args.frames.now) is c.requires.asks.4

pub returns-in-Istore-clause-did : goal.returns-in-Istore-clause-did
unfolding effect_of
returns-in-Istore-clause-did c told p method i has =
    let is : i ≡ insn.Store reg.Int c.in-Istore.place = subst (λ q. i ≡ insn_for q i) c.in-Istore.is (insn-is p method i c.args.quick.now has) in
    row-flows p method c.args.frames.now c.store.new.frames i (insn.Store reg.Int c.in-Istore.place) is refl
    (λ choose x at. c.store.ensures.did told p choose x)

pub store-requires-in-Lstore-clause-there : goal.store-requires-in-Lstore-clause-there
store-requires-in-Lstore-clause-there c =
    let i = c.requires.asks.2 in
    let is : i ≡ insn.Store reg.Long c.in-Lstore.place = subst (λ q. i ≡ insn_for q i) c.in-Lstore.is (insn-is c.requires.asks.0 c.requires.asks.1 i c.args.quick.now c.requires.asks.3) in
    subst (λ i. AsksOf i c.args.frames.now) is c.requires.asks.4

pub returns-in-Lstore-clause-did : goal.returns-in-Lstore-clause-did
unfolding effect_of
returns-in-Lstore-clause-did c told p method i has =
    let is : i ≡ insn.Store reg.Long c.in-Lstore.place = subst (λ q. i ≡ insn_for q i) c.in-Lstore.is (insn-is p method i c.args.quick.now has) in
    row-flows p method c.args.frames.now c.store-in-Lstore.new.frames i (insn.Store reg.Long c.in-Lstore.place) is refl
    (λ choose x at. c.store-in-Lstore.ensures.did told p choose x)

pub store-requires-in-Astore-clause-there : goal.store-requires-in-Astore-clause-there
store-requires-in-Astore-clause-there c =
    let i = c.requires.asks.2 in
    let is : i ≡ insn.Store reg.Ref c.in-Astore.place = subst (λ q. i ≡ insn_for q i) c.in-Astore.is (insn-is c.requires.asks.0 c.requires.asks.1 i c.args.quick.now c.requires.asks.3) in
    subst (λ i. AsksOf i c.args.frames.now) is c.requires.asks.4

pub returns-in-Astore-clause-did : goal.returns-in-Astore-clause-did
unfolding effect_of
returns-in-Astore-clause-did c told p method i has =
    let is : i ≡ insn.Store reg.Ref c.in-Astore.place = subst (λ q. i ≡ insn_for q i) c.in-Astore.is (insn-is p method i c.args.quick.now has) in
    row-flows p method c.args.frames.now c.store-in-Astore.new.frames i (insn.Store reg.Ref c.in-Astore.place) is refl
    (λ choose x at. c.store-in-Astore.ensures.did told p choose x)
