use Rattle.std.proofs.Common.{◌≡◌, codes, None, Some, option_map, sym, ap, ◌∙◌, subst}
use Rattle.fm_exec.proofs.Exceptions.{negative-is}
use Rattle.fm_exec.proofs.Seen.{carried}
use Rattle.fm_exec.specs.Steps.{seen}
use Rattle.fm_frames.proofs.Throwing.{told-ok}
use Rattle.fm_frames.specs.ArrayRows.{multi_array_effect, thrown_negative}
use Rattle.fm_frames.specs.Effects.{stuck}
use Rattle.fm_frames.specs.Steps.{stack_of}
use Rattle.fm_exec_nests.proofs.NestRows.{row-can, row-nest, row-stuck, row-throws}
use Rattle.fm_exec_nests.proofs.rows.multi_array.Goals as goal
use Rattle.fm_exec_nests.specs.inner.Counts.{ints_on, Lens}
use Rattle.fm_exec_nests.specs.inner.Nests.{nest_effect}
use Rattle.fm_world.specs.declared.uses.Use.TheVariants as used

pub returns-in_default : goal.returns-in_default
returns-in_default g c =
    let p = c.args.program.now in
    let x = c.args.machine.now in
    let none : ints_on (stack_of x) c.args.dimensions ≡ None = sym c.in_ok-counts.ensures ∙ ap (option_map (λ counts. counts.items)) c.in_default.is in
    carried p g.M.Memory.choose x c.stuck.new.self (multi_array_effect p.outline (used.OfType c.args.t) c.args.dimensions (seen p x)) stuck
    (row-stuck p x c.args.t c.type_of-named.result c.args.dimensions c.type_of-named.ensures none)
    (c.stuck.ensures c.requires.can.runnable g.M.Memory.choose)

pub give_nest-requires-clause-fits : goal.give_nest-requires-clause-fits
give_nest-requires-clause-fits g c =
    let p = c.args.program.now in
    let x = c.args.machine.now in
    let counts = c.in-Some.counts.items in
    let lens = c.in-Some-2.lens.items in
    let found : ints_on (stack_of x) c.args.dimensions ≡ Some counts = sym c.in_ok-counts.ensures ∙ ap (option_map (λ counts. counts.items)) c.in-Some.is in
    let are : Lens c.deref.result.now (Some lens) = subst (λ f. Lens c.deref.result.now (option_map (λ lens. lens.items) f)) c.in-Some-2.is c.in_ok-lens.ensures in
    row-can p x c.args.t c.type_of-named.result c.args.dimensions counts c.deref.result.now lens c.deref-in-Some-2.result.now c.requires.fits
    c.type_of-named.ensures found c.deref.ensures.value are c.deref-in-Some-2.ensures.value

pub returns-in-Some-2 : goal.returns-in-Some-2
returns-in-Some-2 g c =
    let p = c.args.program.now in
    let x = c.args.machine.now in
    let counts = c.in-Some.counts.items in
    let lens = c.in-Some-2.lens.items in
    let found : ints_on (stack_of x) c.args.dimensions ≡ Some counts = sym c.in_ok-counts.ensures ∙ ap (option_map (λ counts. counts.items)) c.in-Some.is in
    let are : Lens c.deref.result.now (Some lens) = subst (λ f. Lens c.deref.result.now (option_map (λ lens. lens.items) f)) c.in-Some-2.is c.in_ok-lens.ensures in
    told-ok c.give_nest.result _ _
    (carried p g.M.Memory.choose x c.give_nest.new.machine (multi_array_effect p.outline (used.OfType c.args.t) c.args.dimensions (seen p x))
    (nest_effect c.args.dimensions c.type_of-named.result c.deref-in-Some-2.result.now)
    (row-nest p x c.args.t c.type_of-named.result c.args.dimensions counts c.deref.result.now lens c.deref-in-Some-2.result.now
    c.type_of-named.ensures found c.deref.ensures.value are c.deref-in-Some-2.ensures.value))
    c.give_nest.ensures

pub returns : goal.returns
returns g c =
    let p = c.args.program.now in
    let x = c.args.machine.now in
    let counts = c.in-Some.counts.items in
    let found : ints_on (stack_of x) c.args.dimensions ≡ Some counts = sym c.in_ok-counts.ensures ∙ ap (option_map (λ counts. counts.items)) c.in-Some.is in
    let are : Lens c.deref.result.now None = subst (λ f. Lens c.deref.result.now (option_map (λ lens. lens.items) f)) c.in-None.is c.in_ok-lens.ensures in
    told-ok c.throw_new.result _ _
    (λ thrown. carried p g.M.Memory.choose x c.throw_new.new.self (multi_array_effect p.outline (used.OfType c.args.t) c.args.dimensions (seen p x))
    (thrown_negative p.outline)
    (row-throws p x c.args.t c.type_of-named.result c.args.dimensions counts c.deref.result.now c.type_of-named.ensures found c.deref.ensures.value are)
    (thrown (codes "java/lang/NegativeArraySizeException") (negative-is p c.requires.can.runnable)))
    c.throw_new.ensures
