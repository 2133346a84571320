use Rattle.std.proofs.Common.{◌<◌, ◌^◌, [], refl, ap, sym, ◌∙◌, subst, arith}
use Rattle.fm_exec_calls.proofs.UseSteps.{class-inside}
use Rattle.fm_exec_calls.proofs.first_uses.new_object.Goals as goal
use Rattle.fm_exec_calls.specs.inner.Starting.{StartsBefore}
use Rattle.fm_cells.specs.Sizes.{packed_words}
use Rattle.fm_exec.proofs.ObjectSteps.{new-array, new-class}
use Rattle.fm_exec.proofs.Seen.{carried}
use Rattle.fm_exec.specs.Steps.{Steps}
use Rattle.fm_frames.proofs.Programs.{class-size}
use Rattle.fm_frames.proofs.Throwing.{told-ok}
use Rattle.fm_frames.specs.Effects.{Make, making, stuck}
use Rattle.fm_frames.specs.ObjectRows.{new_effect}
use Rattle.fm_world.specs.declared.records.ClassInfo.{ClassInfo}
use Rattle.fm_world.specs.declared.uses.Use.TheVariants as used

pub returns-in_default : goal.returns-in_default
returns-in_default g c =
    let o = c.args.program.now.outline in
    carried c.args.program.now g.M.Memory.choose c.args.machine.now c.stuck.new.self (new_effect o (used.OfType c.args.t)) stuck
    (new-array o c.args.t c.type_of-named.result c.type_of-named.ensures c.in_default.ensures)
    (c.stuck.ensures c.requires.can.runnable g.M.Memory.choose)

pub class-requires : goal.class-requires
class-requires g c =
    class-inside c.args.program.now.outline.classes c.type_of-named.result c.in-Some.class.0 c.in-Some.ensures
    (c.requires.can.runnable.types c.args.t.0 c.type_of-named.result c.type_of-named.ensures)

pub start-requires-clause-class : goal.start-requires-clause-class
start-requires-clause-class g c =
    class-inside c.args.program.now.outline.classes c.type_of-named.result c.in-Some.class.0 c.in-Some.ensures
    (c.requires.can.runnable.types c.args.t.0 c.type_of-named.result c.type_of-named.ensures)

pub object_words-words-requires-clause-len_fits : goal.object_words-words-requires-clause-len_fits
object_words-words-requires-clause-len_fits g c =
    subst (λ n. n < 2 ^ 31) (sym (ap (λ (k : ClassInfo). k.size) c.class.ensures ∙ class-size c.args.program.now.outline c.in-Some.class.0))
    (c.requires.can.runnable.sizes c.in-Some.class.0)

pub returns-then-not-branch : goal.returns-then-not-branch
returns-then-not-branch g c =
    let p = c.args.program.now in
    let o = p.outline in
    let x = c.args.machine.now in
    let y = c.start.new.machine in
    let size = c.class.result.now.size in
    let e = making 0 (Make c.type_of-named.result size []) in
    let words = c.object_words-words.ensures ∙ ap (packed_words size) (c.pack_of.ensures.value c.requires.can.runnable) in
    let all = ap (λ (k : ClassInfo). k.size) c.class.ensures ∙ class-size o c.in-Some.class.0 in
    let named =
    new-class o c.args.t c.type_of-named.result c.in-Some.class.0 size c.type_of-named.ensures c.in-Some.ensures all in
    subst (λ e. Steps p g.M.Memory.choose x y e) (sym named)
    (subst (StartsBefore p g.M.Memory.choose x y c.in-Some.class.0 e) c.if-not-branch.true (c.in_ok-start.ensures e tt (λ a l. omega (arith, words)) refl))

pub make-requires-clause-can : goal.make-requires-clause-can
make-requires-clause-can g c =
    let p = c.args.program.now in
    let o = p.outline in
    let x = c.args.machine.now in
    let y = c.start.new.machine in
    let size = c.class.result.now.size in
    let e = making 0 (Make c.type_of-named.result size []) in
    let words = c.object_words-words.ensures ∙ ap (packed_words size) (c.pack_of.ensures.value c.requires.can.runnable) in
    let all = ap (λ (k : ClassInfo). k.size) c.class.ensures ∙ class-size o c.in-Some.class.0 in
    let named =
    new-class o c.args.t c.type_of-named.result c.in-Some.class.0 size c.type_of-named.ensures c.in-Some.ensures all in
    let so = subst (StartsBefore p g.M.Memory.choose x y c.in-Some.class.0 e) c.if-not-branch.false (c.in_ok-start.ensures e tt (λ a l. omega (arith, words)) refl) in
    so.0

pub make-requires-clause-len_fits : goal.make-requires-clause-len_fits
make-requires-clause-len_fits g c =
    subst (λ n. n < 2 ^ 31) (sym (ap (λ (k : ClassInfo). k.size) c.class.ensures ∙ class-size c.args.program.now.outline c.in-Some.class.0))
    (c.requires.can.runnable.sizes c.in-Some.class.0)

pub returns : goal.returns
returns g c =
    let p = c.args.program.now in
    let o = p.outline in
    let x = c.args.machine.now in
    let y = c.start.new.machine in
    let size = c.class.result.now.size in
    let e = making 0 (Make c.type_of-named.result size []) in
    let words = c.object_words-words.ensures ∙ ap (packed_words size) (c.pack_of.ensures.value c.requires.can.runnable) in
    let all = ap (λ (k : ClassInfo). k.size) c.class.ensures ∙ class-size o c.in-Some.class.0 in
    let named =
    new-class o c.args.t c.type_of-named.result c.in-Some.class.0 size c.type_of-named.ensures c.in-Some.ensures all in
    let so = subst (StartsBefore p g.M.Memory.choose x y c.in-Some.class.0 e) c.if-not-branch.false (c.in_ok-start.ensures e tt (λ a l. omega (arith, words)) refl) in
    told-ok c.make.result _ _
    (λ made. subst (λ e. Steps p g.M.Memory.choose x c.make.new.self e) (sym named) (so.2 c.make.new.self made))
    c.make.ensures
