use Rattle.std.proofs.Common.{◌≡◌, refl, subst}
use Rattle.fm_code.specs.declared.instructions.Insn.TheVariants as insn
use Rattle.fm_code.specs.declared.operations.Test.TheVariants as test
use Rattle.fm_fast.specs.Flows.{on}
use Rattle.fm_fast.specs.Operands.{AsksOf}
use Rattle.fm_frames.specs.Rows.{effect_of}
use Rattle.fm_run.proofs.FlatSteps.{row-flows}
use Rattle.fm_run.proofs.NextSteps.{at-row}
use Rattle.fm_run.proofs.QuickSteps.{insn-is, insn_for}
use Rattle.fm_run.proofs.quick_rows.do_if_int.Goals as goal

pub if_int-requires-clause-int : goal.if_int-requires-clause-int
if_int-requires-clause-int c =
    let i = c.requires.asks.2 in
    let is : i ≡ insn.IfInt test.Eq c.in-Ifeq.target = subst (λ q. i ≡ insn_for q i) c.in-Ifeq.is (insn-is c.requires.asks.0 c.requires.asks.1 i c.args.quick.now c.requires.asks.3) in
    subst (λ i. AsksOf i c.args.frames.now) is c.requires.asks.4

pub returns-in-Ifeq-clause-did : goal.returns-in-Ifeq-clause-did
unfolding effect_of
returns-in-Ifeq-clause-did c told p method i has =
    let is : i ≡ insn.IfInt test.Eq c.in-Ifeq.target = subst (λ q. i ≡ insn_for q i) c.in-Ifeq.is (insn-is p method i c.args.quick.now has) in
    row-flows p method c.args.frames.now c.if_int.new.frames i (insn.IfInt test.Eq c.in-Ifeq.target) is refl
    (λ choose x at. c.if_int.ensures.did told p choose x (at-row p (on x c.args.frames.now) i (insn.IfInt test.Eq c.in-Ifeq.target) at is))

pub if_int-requires-in-Ifne-clause-int : goal.if_int-requires-in-Ifne-clause-int
if_int-requires-in-Ifne-clause-int c =
    let i = c.requires.asks.2 in
    let is : i ≡ insn.IfInt test.Ne c.in-Ifne.target = subst (λ q. i ≡ insn_for q i) c.in-Ifne.is (insn-is c.requires.asks.0 c.requires.asks.1 i c.args.quick.now c.requires.asks.3) in
    subst (λ i. AsksOf i c.args.frames.now) is c.requires.asks.4

pub returns-in-Ifne-clause-did : goal.returns-in-Ifne-clause-did
unfolding effect_of
returns-in-Ifne-clause-did c told p method i has =
    let is : i ≡ insn.IfInt test.Ne c.in-Ifne.target = subst (λ q. i ≡ insn_for q i) c.in-Ifne.is (insn-is p method i c.args.quick.now has) in
    row-flows p method c.args.frames.now c.if_int-in-Ifne.new.frames i (insn.IfInt test.Ne c.in-Ifne.target) is refl
    (λ choose x at. c.if_int-in-Ifne.ensures.did told p choose x (at-row p (on x c.args.frames.now) i (insn.IfInt test.Ne c.in-Ifne.target) at is))

pub if_int-requires-in-Iflt-clause-int : goal.if_int-requires-in-Iflt-clause-int
if_int-requires-in-Iflt-clause-int c =
    let i = c.requires.asks.2 in
    let is : i ≡ insn.IfInt test.Lt c.in-Iflt.target = subst (λ q. i ≡ insn_for q i) c.in-Iflt.is (insn-is c.requires.asks.0 c.requires.asks.1 i c.args.quick.now c.requires.asks.3) in
    subst (λ i. AsksOf i c.args.frames.now) is c.requires.asks.4

pub returns-in-Iflt-clause-did : goal.returns-in-Iflt-clause-did
unfolding effect_of
returns-in-Iflt-clause-did c told p method i has =
    let is : i ≡ insn.IfInt test.Lt c.in-Iflt.target = subst (λ q. i ≡ insn_for q i) c.in-Iflt.is (insn-is p method i c.args.quick.now has) in
    row-flows p method c.args.frames.now c.if_int-in-Iflt.new.frames i (insn.IfInt test.Lt c.in-Iflt.target) is refl
    (λ choose x at. c.if_int-in-Iflt.ensures.did told p choose x (at-row p (on x c.args.frames.now) i (insn.IfInt test.Lt c.in-Iflt.target) at is))

pub if_int-requires-in-Ifge-clause-int : goal.if_int-requires-in-Ifge-clause-int
if_int-requires-in-Ifge-clause-int c =
    let i = c.requires.asks.2 in
    let is : i ≡ insn.IfInt test.Ge c.in-Ifge.target = subst (λ q. i ≡ insn_for q i) c.in-Ifge.is (insn-is c.requires.asks.0 c.requires.asks.1 i c.args.quick.now c.requires.asks.3) in
    subst (λ i. AsksOf i c.args.frames.now) is c.requires.asks.4

pub returns-in-Ifge-clause-did : goal.returns-in-Ifge-clause-did
unfolding effect_of
returns-in-Ifge-clause-did c told p method i has =
    let is : i ≡ insn.IfInt test.Ge c.in-Ifge.target = subst (λ q. i ≡ insn_for q i) c.in-Ifge.is (insn-is p method i c.args.quick.now has) in
    row-flows p method c.args.frames.now c.if_int-in-Ifge.new.frames i (insn.IfInt test.Ge c.in-Ifge.target) is refl
    (λ choose x at. c.if_int-in-Ifge.ensures.did told p choose x (at-row p (on x c.args.frames.now) i (insn.IfInt test.Ge c.in-Ifge.target) at is))

pub if_int-requires-in-Ifgt-clause-int : goal.if_int-requires-in-Ifgt-clause-int
if_int-requires-in-Ifgt-clause-int c =
    let i = c.requires.asks.2 in
    let is : i ≡ insn.IfInt test.Gt c.in-Ifgt.target = subst (λ q. i ≡ insn_for q i) c.in-Ifgt.is (insn-is c.requires.asks.0 c.requires.asks.1 i c.args.quick.now c.requires.asks.3) in
    subst (λ i. AsksOf i c.args.frames.now) is c.requires.asks.4

pub returns-in-Ifgt-clause-did : goal.returns-in-Ifgt-clause-did
unfolding effect_of
returns-in-Ifgt-clause-did c told p method i has =
    let is : i ≡ insn.IfInt test.Gt c.in-Ifgt.target = subst (λ q. i ≡ insn_for q i) c.in-Ifgt.is (insn-is p method i c.args.quick.now has) in
    row-flows p method c.args.frames.now c.if_int-in-Ifgt.new.frames i (insn.IfInt test.Gt c.in-Ifgt.target) is refl
    (λ choose x at. c.if_int-in-Ifgt.ensures.did told p choose x (at-row p (on x c.args.frames.now) i (insn.IfInt test.Gt c.in-Ifgt.target) at is))

pub if_int-requires-in-Ifle-clause-int : goal.if_int-requires-in-Ifle-clause-int
if_int-requires-in-Ifle-clause-int c =
    let i = c.requires.asks.2 in
    let is : i ≡ insn.IfInt test.Le c.in-Ifle.target = subst (λ q. i ≡ insn_for q i) c.in-Ifle.is (insn-is c.requires.asks.0 c.requires.asks.1 i c.args.quick.now c.requires.asks.3) in
    subst (λ i. AsksOf i c.args.frames.now) is c.requires.asks.4

pub returns-in-Ifle-clause-did : goal.returns-in-Ifle-clause-did
unfolding effect_of
returns-in-Ifle-clause-did c told p method i has =
    let is : i ≡ insn.IfInt test.Le c.in-Ifle.target = subst (λ q. i ≡ insn_for q i) c.in-Ifle.is (insn-is p method i c.args.quick.now has) in
    row-flows p method c.args.frames.now c.if_int-in-Ifle.new.frames i (insn.IfInt test.Le c.in-Ifle.target) is refl
    (λ choose x at. c.if_int-in-Ifle.ensures.did told p choose x (at-row p (on x c.args.frames.now) i (insn.IfInt test.Le c.in-Ifle.target) at is))
