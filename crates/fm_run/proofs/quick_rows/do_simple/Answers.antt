use Rattle.std.proofs.Common.{◌≡◌, arith, ap, refl, subst, sym, ◌∙◌, to_z, of_z, w32}
use Rattle.std.proofs.lemmas.Int.{ints, to_z-of_z}
use Rattle.std.specs.Int.{w16}
use Rattle.fm_code.specs.declared.instructions.Insn.TheVariants as insn
use Rattle.fm_fast.specs.Operands.{AsksOf}
use Rattle.fm_frames.specs.Rows.{effect_of}
use Rattle.fm_run.proofs.FlatSteps.{row-flows}
use Rattle.fm_run.proofs.QuickSteps.{insn-is, insn_for}
use Rattle.fm_run.proofs.quick_rows.do_simple.Goals as goal

pub returns-in-Iconst-clause-did : goal.returns-in-Iconst-clause-did
unfolding effect_of
returns-in-Iconst-clause-did c told p method i has =
    let is : i ≡ insn.Const c.in-Iconst.n = subst (λ q. i ≡ insn_for q i) c.in-Iconst.is (insn-is p method i c.args.quick.now has) in
    let same : to_z w32 (of_z w32 c.in-Iconst.n) ≡ c.in-Iconst.n = grind (arith, ints, to_z-of_z) in
    row-flows p method c.args.frames.now c.int_constant.new.frames i (insn.Const (to_z w32 (of_z w32 c.in-Iconst.n))) (is ∙ ap insn.Const (sym same)) refl
    (λ choose x at. c.int_constant.ensures.did told p choose x)

pub increment-requires-clause-int : goal.increment-requires-clause-int
increment-requires-clause-int c =
    let i = c.requires.asks.2 in
    let is : i ≡ insn.Inc c.in-Iinc.place c.in-Iinc.by = subst (λ q. i ≡ insn_for q i) c.in-Iinc.is (insn-is c.requires.asks.0 c.requires.asks.1 i c.args.quick.now c.requires.asks.3) in
    subst (λ i. AsksOf i c.args.frames.now) is c.requires.asks.4

pub returns-in-Iinc-clause-did : goal.returns-in-Iinc-clause-did
unfolding effect_of
returns-in-Iinc-clause-did c told p method i has =
    let is : i ≡ insn.Inc c.in-Iinc.place c.in-Iinc.by = subst (λ q. i ≡ insn_for q i) c.in-Iinc.is (insn-is p method i c.args.quick.now has) in
    let same : to_z w16 (of_z w16 c.in-Iinc.by) ≡ c.in-Iinc.by = grind (arith, ints, to_z-of_z) in
    row-flows p method c.args.frames.now c.increment.new.frames i (insn.Inc c.in-Iinc.place (to_z w16 (of_z w16 c.in-Iinc.by))) (is ∙ ap (insn.Inc c.in-Iinc.place) (sym same)) refl
    (λ choose x at. c.increment.ensures.did told p choose x)

pub dup-requires-clause-there : goal.dup-requires-clause-there
dup-requires-clause-there c =
    let i = c.requires.asks.2 in
    let is : i ≡ insn.Dup = subst (λ q. i ≡ insn_for q i) c.in-Dup.is (insn-is c.requires.asks.0 c.requires.asks.1 i c.args.quick.now c.requires.asks.3) in
    subst (λ i. AsksOf i c.args.frames.now) is c.requires.asks.4

pub returns-in-Dup-clause-did : goal.returns-in-Dup-clause-did
unfolding effect_of
returns-in-Dup-clause-did c told p method i has =
    let is : i ≡ insn.Dup = subst (λ q. i ≡ insn_for q i) c.in-Dup.is (insn-is p method i c.args.quick.now has) in
    row-flows p method c.args.frames.now c.dup.new.frames i insn.Dup is refl
    (λ choose x at. c.dup.ensures.did told p choose x)
