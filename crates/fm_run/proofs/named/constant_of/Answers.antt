use Rattle.fm_frames.specs.NumberRows.{constant_effect}
use Rattle.std.proofs.Common.{◌≡◌, refl, sym, ap, ◌∙◌, arith, to_z, of_z, w32, w64}
use Rattle.fm_code.specs.declared.instructions.Insn.TheVariants as insn
use Rattle.fm_frames.specs.Literals.{class_literal}
use Rattle.fm_frames.specs.Rows.{effect_of}
use Rattle.fm_law_can_step.proofs.Named.{literal_inside, name_units}
use Rattle.fm_run.proofs.Resolving.{is-inside}
use Rattle.fm_run.proofs.NextSteps.{named-done, next-of}
use Rattle.fm_world.specs.declared.uses.Use.TheVariants as used
use Rattle.std.proofs.lemmas.Int.{ints, to_z-of_z}
use Rattle.fm_run.proofs.named.constant_of.Goals as goal

pub returns-in-OfInt : goal.returns-in-OfInt
unfolding effect_of constant_effect
returns-in-OfInt g c =
    let same : to_z w32 (of_z w32 c.in-OfInt.n) ≡ c.in-OfInt.n = grind (arith, ints, to_z-of_z) in
    named-done c.args.program.now g.M.Memory.choose c.args.machine.now c.int_constant.new.machine c.args.method.0 (insn.LoadPool c.args.index) (used.OfInt (to_z w32 (of_z w32 c.in-OfInt.n))) c.int_constant.result c.requires.at
    (c.requires.is ∙ c.in-OfInt.is ∙ ap used.OfInt (sym same)) c.int_constant.ensures

pub returns-in-OfLong : goal.returns-in-OfLong
unfolding effect_of constant_effect
returns-in-OfLong g c =
    let same : to_z w64 (of_z w64 c.in-OfLong.n) ≡ c.in-OfLong.n = grind (arith, ints, to_z-of_z) in
    named-done c.args.program.now g.M.Memory.choose c.args.machine.now c.long_constant.new.machine c.args.method.0 (insn.LoadPool c.args.index) (used.OfLong (to_z w64 (of_z w64 c.in-OfLong.n))) c.long_constant.result c.requires.at
    (c.requires.is ∙ c.in-OfLong.is ∙ ap used.OfLong (sym same)) c.long_constant.ensures

pub returns-in-OfText : goal.returns-in-OfText
unfolding effect_of
returns-in-OfText g c =
    named-done c.args.program.now g.M.Memory.choose c.args.machine.now c.text_constant.new.machine c.args.method.0 (insn.LoadPool c.args.index) (used.OfText c.in-OfText.text) c.text_constant.result c.requires.at
    (c.requires.is ∙ c.in-OfText.is) c.text_constant.ensures

pub text_constant-requires-clause-text : goal.text_constant-requires-clause-text
text_constant-requires-clause-text g c =
    is-inside c.args.program.now c.args.machine.now c.args.method.0 (insn.LoadPool c.args.index) (used.OfText c.in-OfText.text) c.requires.run c.requires.at (c.requires.is ∙ c.in-OfText.is)

pub text_constant-requires-clause-literals : goal.text_constant-requires-clause-literals
text_constant-requires-clause-literals g c =
    literal_inside c.args.program.now c.args.machine.now (insn.LoadPool c.args.index) (used.OfText c.in-OfText.text) c.in-OfText.text c.requires.run c.requires.going
    (next-of c.args.program.now c.args.machine.now c.args.method.0 (insn.LoadPool c.args.index) (used.OfText c.in-OfText.text) c.requires.at (c.requires.is ∙ c.in-OfText.is)) refl

pub returns-in-OfType : goal.returns-in-OfType
unfolding effect_of
returns-in-OfType g c =
    named-done c.args.program.now g.M.Memory.choose c.args.machine.now c.class_constant.new.machine c.args.method.0 (insn.LoadPool c.args.index) (used.OfType c.in-OfType.t) c.class_constant.result c.requires.at
    (c.requires.is ∙ c.in-OfType.is) c.class_constant.ensures

pub class_constant-requires-clause-inside : goal.class_constant-requires-clause-inside
class_constant-requires-clause-inside g c =
    is-inside c.args.program.now c.args.machine.now c.args.method.0 (insn.LoadPool c.args.index) (used.OfType c.in-OfType.t) c.requires.run c.requires.at (c.requires.is ∙ c.in-OfType.is)

pub class_constant-requires-clause-literals : goal.class_constant-requires-clause-literals
class_constant-requires-clause-literals g c =
    literal_inside c.args.program.now c.args.machine.now (insn.LoadPool c.args.index) (used.OfType c.in-OfType.t) (class_literal c.args.program.now.outline c.in-OfType.t.0) c.requires.run c.requires.going
    (next-of c.args.program.now c.args.machine.now c.args.method.0 (insn.LoadPool c.args.index) (used.OfType c.in-OfType.t) c.requires.at (c.requires.is ∙ c.in-OfType.is)) refl

pub class_constant-requires-clause-name : goal.class_constant-requires-clause-name
class_constant-requires-clause-name g c = name_units c.args.program.now c.requires.run c.in-OfType.t.0
