use Rattle.std.proofs.Common.{◌≡◌, refl, subst}
use Rattle.fm_code.specs.declared.instructions.Insn.TheVariants as insn
use Rattle.fm_code.specs.declared.operations.Test.TheVariants as test
use Rattle.fm_fast.specs.Flows.{on}
use Rattle.fm_fast.specs.Operands.{AsksOf}
use Rattle.fm_frames.specs.Rows.{effect_of}
use Rattle.fm_run.proofs.FlatSteps.{row-flows}
use Rattle.fm_run.proofs.NextSteps.{at-row}
use Rattle.fm_run.proofs.QuickSteps.{insn-is, insn_for}
use Rattle.fm_run.proofs.quick_rows.do_if_pair.Goals as goal

pub if_pair-requires-clause-first : goal.if_pair-requires-clause-first
if_pair-requires-clause-first c =
    let i = c.requires.asks.2 in
    let is : i ≡ insn.IfPair test.Eq c.in-IfIcmpeq.target = subst (λ q. i ≡ insn_for q i) c.in-IfIcmpeq.is (insn-is c.requires.asks.0 c.requires.asks.1 i c.args.quick.now c.requires.asks.3) in
    (subst (λ i. AsksOf i c.args.frames.now) is c.requires.asks.4).0

pub if_pair-requires-clause-second : goal.if_pair-requires-clause-second
if_pair-requires-clause-second c =
    let i = c.requires.asks.2 in
    let is : i ≡ insn.IfPair test.Eq c.in-IfIcmpeq.target = subst (λ q. i ≡ insn_for q i) c.in-IfIcmpeq.is (insn-is c.requires.asks.0 c.requires.asks.1 i c.args.quick.now c.requires.asks.3) in
    (subst (λ i. AsksOf i c.args.frames.now) is c.requires.asks.4).1

pub returns-in-IfIcmpeq-clause-did : goal.returns-in-IfIcmpeq-clause-did
unfolding effect_of
returns-in-IfIcmpeq-clause-did c told p method i has =
    let is : i ≡ insn.IfPair test.Eq c.in-IfIcmpeq.target = subst (λ q. i ≡ insn_for q i) c.in-IfIcmpeq.is (insn-is p method i c.args.quick.now has) in
    row-flows p method c.args.frames.now c.if_pair.new.frames i (insn.IfPair test.Eq c.in-IfIcmpeq.target) is refl
    (λ choose x at. c.if_pair.ensures.did told p choose x (at-row p (on x c.args.frames.now) i (insn.IfPair test.Eq c.in-IfIcmpeq.target) at is))

pub if_pair-requires-in-IfIcmpne-clause-first : goal.if_pair-requires-in-IfIcmpne-clause-first
if_pair-requires-in-IfIcmpne-clause-first c =
    let i = c.requires.asks.2 in
    let is : i ≡ insn.IfPair test.Ne c.in-IfIcmpne.target = subst (λ q. i ≡ insn_for q i) c.in-IfIcmpne.is (insn-is c.requires.asks.0 c.requires.asks.1 i c.args.quick.now c.requires.asks.3) in
    (subst (λ i. AsksOf i c.args.frames.now) is c.requires.asks.4).0

pub if_pair-requires-in-IfIcmpne-clause-second : goal.if_pair-requires-in-IfIcmpne-clause-second
if_pair-requires-in-IfIcmpne-clause-second c =
    let i = c.requires.asks.2 in
    let is : i ≡ insn.IfPair test.Ne c.in-IfIcmpne.target = subst (λ q. i ≡ insn_for q i) c.in-IfIcmpne.is (insn-is c.requires.asks.0 c.requires.asks.1 i c.args.quick.now c.requires.asks.3) in
    (subst (λ i. AsksOf i c.args.frames.now) is c.requires.asks.4).1

pub returns-in-IfIcmpne-clause-did : goal.returns-in-IfIcmpne-clause-did
unfolding effect_of
returns-in-IfIcmpne-clause-did c told p method i has =
    let is : i ≡ insn.IfPair test.Ne c.in-IfIcmpne.target = subst (λ q. i ≡ insn_for q i) c.in-IfIcmpne.is (insn-is p method i c.args.quick.now has) in
    row-flows p method c.args.frames.now c.if_pair-in-IfIcmpne.new.frames i (insn.IfPair test.Ne c.in-IfIcmpne.target) is refl
    (λ choose x at. c.if_pair-in-IfIcmpne.ensures.did told p choose x (at-row p (on x c.args.frames.now) i (insn.IfPair test.Ne c.in-IfIcmpne.target) at is))

pub if_pair-requires-in-IfIcmplt-clause-first : goal.if_pair-requires-in-IfIcmplt-clause-first
if_pair-requires-in-IfIcmplt-clause-first c =
    let i = c.requires.asks.2 in
    let is : i ≡ insn.IfPair test.Lt c.in-IfIcmplt.target = subst (λ q. i ≡ insn_for q i) c.in-IfIcmplt.is (insn-is c.requires.asks.0 c.requires.asks.1 i c.args.quick.now c.requires.asks.3) in
    (subst (λ i. AsksOf i c.args.frames.now) is c.requires.asks.4).0

pub if_pair-requires-in-IfIcmplt-clause-second : goal.if_pair-requires-in-IfIcmplt-clause-second
if_pair-requires-in-IfIcmplt-clause-second c =
    let i = c.requires.asks.2 in
    let is : i ≡ insn.IfPair test.Lt c.in-IfIcmplt.target = subst (λ q. i ≡ insn_for q i) c.in-IfIcmplt.is (insn-is c.requires.asks.0 c.requires.asks.1 i c.args.quick.now c.requires.asks.3) in
    (subst (λ i. AsksOf i c.args.frames.now) is c.requires.asks.4).1

pub returns-in-IfIcmplt-clause-did : goal.returns-in-IfIcmplt-clause-did
unfolding effect_of
returns-in-IfIcmplt-clause-did c told p method i has =
    let is : i ≡ insn.IfPair test.Lt c.in-IfIcmplt.target = subst (λ q. i ≡ insn_for q i) c.in-IfIcmplt.is (insn-is p method i c.args.quick.now has) in
    row-flows p method c.args.frames.now c.if_pair-in-IfIcmplt.new.frames i (insn.IfPair test.Lt c.in-IfIcmplt.target) is refl
    (λ choose x at. c.if_pair-in-IfIcmplt.ensures.did told p choose x (at-row p (on x c.args.frames.now) i (insn.IfPair test.Lt c.in-IfIcmplt.target) at is))

pub if_pair-requires-in-IfIcmpge-clause-first : goal.if_pair-requires-in-IfIcmpge-clause-first
if_pair-requires-in-IfIcmpge-clause-first c =
    let i = c.requires.asks.2 in
    let is : i ≡ insn.IfPair test.Ge c.in-IfIcmpge.target = subst (λ q. i ≡ insn_for q i) c.in-IfIcmpge.is (insn-is c.requires.asks.0 c.requires.asks.1 i c.args.quick.now c.requires.asks.3) in
    (subst (λ i. AsksOf i c.args.frames.now) is c.requires.asks.4).0

pub if_pair-requires-in-IfIcmpge-clause-second : goal.if_pair-requires-in-IfIcmpge-clause-second
if_pair-requires-in-IfIcmpge-clause-second c =
    let i = c.requires.asks.2 in
    let is : i ≡ insn.IfPair test.Ge c.in-IfIcmpge.target = subst (λ q. i ≡ insn_for q i) c.in-IfIcmpge.is (insn-is c.requires.asks.0 c.requires.asks.1 i c.args.quick.now c.requires.asks.3) in
    (subst (λ i. AsksOf i c.args.frames.now) is c.requires.asks.4).1

pub returns-in-IfIcmpge-clause-did : goal.returns-in-IfIcmpge-clause-did
unfolding effect_of
returns-in-IfIcmpge-clause-did c told p method i has =
    let is : i ≡ insn.IfPair test.Ge c.in-IfIcmpge.target = subst (λ q. i ≡ insn_for q i) c.in-IfIcmpge.is (insn-is p method i c.args.quick.now has) in
    row-flows p method c.args.frames.now c.if_pair-in-IfIcmpge.new.frames i (insn.IfPair test.Ge c.in-IfIcmpge.target) is refl
    (λ choose x at. c.if_pair-in-IfIcmpge.ensures.did told p choose x (at-row p (on x c.args.frames.now) i (insn.IfPair test.Ge c.in-IfIcmpge.target) at is))

pub if_pair-requires-in-IfIcmpgt-clause-first : goal.if_pair-requires-in-IfIcmpgt-clause-first
if_pair-requires-in-IfIcmpgt-clause-first c =
    let i = c.requires.asks.2 in
    let is : i ≡ insn.IfPair test.Gt c.in-IfIcmpgt.target = subst (λ q. i ≡ insn_for q i) c.in-IfIcmpgt.is (insn-is c.requires.asks.0 c.requires.asks.1 i c.args.quick.now c.requires.asks.3) in
    (subst (λ i. AsksOf i c.args.frames.now) is c.requires.asks.4).0

pub if_pair-requires-in-IfIcmpgt-clause-second : goal.if_pair-requires-in-IfIcmpgt-clause-second
if_pair-requires-in-IfIcmpgt-clause-second c =
    let i = c.requires.asks.2 in
    let is : i ≡ insn.IfPair test.Gt c.in-IfIcmpgt.target = subst (λ q. i ≡ insn_for q i) c.in-IfIcmpgt.is (insn-is c.requires.asks.0 c.requires.asks.1 i c.args.quick.now c.requires.asks.3) in
    (subst (λ i. AsksOf i c.args.frames.now) is c.requires.asks.4).1

pub returns-in-IfIcmpgt-clause-did : goal.returns-in-IfIcmpgt-clause-did
unfolding effect_of
returns-in-IfIcmpgt-clause-did c told p method i has =
    let is : i ≡ insn.IfPair test.Gt c.in-IfIcmpgt.target = subst (λ q. i ≡ insn_for q i) c.in-IfIcmpgt.is (insn-is p method i c.args.quick.now has) in
    row-flows p method c.args.frames.now c.if_pair-in-IfIcmpgt.new.frames i (insn.IfPair test.Gt c.in-IfIcmpgt.target) is refl
    (λ choose x at. c.if_pair-in-IfIcmpgt.ensures.did told p choose x (at-row p (on x c.args.frames.now) i (insn.IfPair test.Gt c.in-IfIcmpgt.target) at is))

pub if_pair-requires-in-IfIcmple-clause-first : goal.if_pair-requires-in-IfIcmple-clause-first
if_pair-requires-in-IfIcmple-clause-first c =
    let i = c.requires.asks.2 in
    let is : i ≡ insn.IfPair test.Le c.in-IfIcmple.target = subst (λ q. i ≡ insn_for q i) c.in-IfIcmple.is (insn-is c.requires.asks.0 c.requires.asks.1 i c.args.quick.now c.requires.asks.3) in
    (subst (λ i. AsksOf i c.args.frames.now) is c.requires.asks.4).0

pub if_pair-requires-in-IfIcmple-clause-second : goal.if_pair-requires-in-IfIcmple-clause-second
if_pair-requires-in-IfIcmple-clause-second c =
    let i = c.requires.asks.2 in
    let is : i ≡ insn.IfPair test.Le c.in-IfIcmple.target = subst (λ q. i ≡ insn_for q i) c.in-IfIcmple.is (insn-is c.requires.asks.0 c.requires.asks.1 i c.args.quick.now c.requires.asks.3) in
    (subst (λ i. AsksOf i c.args.frames.now) is c.requires.asks.4).1

pub returns-in-IfIcmple-clause-did : goal.returns-in-IfIcmple-clause-did
unfolding effect_of
returns-in-IfIcmple-clause-did c told p method i has =
    let is : i ≡ insn.IfPair test.Le c.in-IfIcmple.target = subst (λ q. i ≡ insn_for q i) c.in-IfIcmple.is (insn-is p method i c.args.quick.now has) in
    row-flows p method c.args.frames.now c.if_pair-in-IfIcmple.new.frames i (insn.IfPair test.Le c.in-IfIcmple.target) is refl
    (λ choose x at. c.if_pair-in-IfIcmple.ensures.did told p choose x (at-row p (on x c.args.frames.now) i (insn.IfPair test.Le c.in-IfIcmple.target) at is))
