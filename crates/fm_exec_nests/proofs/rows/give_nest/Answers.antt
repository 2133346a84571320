use Rattle.std.proofs.Common.{◌-◌, [], ◌∷◌, refl, sym, ◌∙◌, subst}
use Rattle.fm_frames.proofs.Throwing.{told-ok}
use Rattle.fm_frames.specs.Effects.{Plain}
use Rattle.fm_frames.specs.States.{ref}
use Rattle.fm_frames.specs.inner.Doings.{Underway}
use Rattle.fm_exec_nests.proofs.NestEnds.{nest-count, nest-done, nest-made, nest-ready, nest-steps, nest-stopped, nest-whole}
use Rattle.fm_exec_nests.proofs.rows.give_nest.Goals as goal
use Rattle.fm_exec_nests.specs.inner.Nests.{IsNest, nest_effect, Nests}

pub returns-then-not-reserve : goal.returns-then-not-reserve
returns-then-not-reserve g c =
    let p = c.args.program.now in
    let x = c.args.machine.now in
    c.if-not-reserve.ensures.told p g.M.Memory.choose (nest_effect c.args.takes c.args.t c.args.lens.now) refl
    (nest-made p.outline x.areas c.args.takes c.args.t c.args.lens.now ∙ sym c.nest_words-words.ensures)

pub returns-in_default : goal.returns-in_default
returns-in_default g c =
    let p = c.args.program.now in
    let x = c.args.machine.now in
    let b = c.reserve.new.self in
    let t = c.args.t in
    let lens = c.args.lens.now in
    let e = nest_effect c.args.takes t lens in
    let begun : Underway p g.M.Memory.choose x b e [] e.actions =
    c.if-not-reserve.ensures.told p g.M.Memory.choose e refl (nest-made p.outline x.areas c.args.takes t lens ∙ sym c.nest_words-words.ensures) in
    nest-stopped p g.M.Memory.choose x b c.make_nest.new.machine c.args.takes t lens begun
    (subst (Nests p g.M.Memory.choose b c.make_nest.new.machine t lens) c.in_default.is c.in_ok-array.ensures)

pub count_steps-requires : goal.count_steps-requires
count_steps-requires g c =
    let p = c.args.program.now in
    let x = c.args.machine.now in
    let b = c.reserve.new.self in
    let y = c.make_nest.new.machine in
    let t = c.args.t in
    let lens = c.args.lens.now in
    let e = nest_effect c.args.takes t lens in
    let begun : Underway p g.M.Memory.choose x b e [] e.actions =
    c.if-not-reserve.ensures.told p g.M.Memory.choose e refl (nest-made p.outline x.areas c.args.takes t lens ∙ sym c.nest_words-words.ensures) in
    let nest : IsNest p g.M.Memory.choose b y t lens c.in-Some.array.0 = subst (Nests p g.M.Memory.choose b y t lens) c.in-Some.is c.in_ok-array.ensures in
    nest-steps p g.M.Memory.choose x y e (c.in-Some.array.0 ∷ nest.others) [] t lens (c.births.result - c.births-before.result) c.requires.fits
    (nest-done p g.M.Memory.choose x b y c.args.takes t lens c.in-Some.array.0 begun nest)
    (nest-count p g.M.Memory.choose b y t lens c.in-Some.array.0 c.births-before.result c.births.result nest c.births-before.ensures.value c.births.ensures.value)

pub give-requires : goal.give-requires
give-requires g c =
    let p = c.args.program.now in
    let x = c.args.machine.now in
    let b = c.reserve.new.self in
    let y = c.make_nest.new.machine in
    let t = c.args.t in
    let lens = c.args.lens.now in
    let e = nest_effect c.args.takes t lens in
    let begun : Underway p g.M.Memory.choose x b e [] e.actions =
    c.if-not-reserve.ensures.told p g.M.Memory.choose e refl (nest-made p.outline x.areas c.args.takes t lens ∙ sym c.nest_words-words.ensures) in
    let nest : IsNest p g.M.Memory.choose b y t lens c.in-Some.array.0 = subst (Nests p g.M.Memory.choose b y t lens) c.in-Some.is c.in_ok-array.ensures in
    nest-ready p g.M.Memory.choose x y c.count_steps.new.self e (c.in-Some.array.0 ∷ nest.others) [] t lens (c.births.result - c.births-before.result)
    c.requires.can.ready.next_fits c.requires.fits
    (nest-done p g.M.Memory.choose x b y c.args.takes t lens c.in-Some.array.0 begun nest)
    (nest-count p g.M.Memory.choose b y t lens c.in-Some.array.0 c.births-before.result c.births.result nest c.births-before.ensures.value c.births.ensures.value)
    c.count_steps.ensures

pub returns : goal.returns
returns g c =
    let p = c.args.program.now in
    let x = c.args.machine.now in
    let b = c.reserve.new.self in
    let y = c.make_nest.new.machine in
    let t = c.args.t in
    let lens = c.args.lens.now in
    let e = nest_effect c.args.takes t lens in
    let begun : Underway p g.M.Memory.choose x b e [] e.actions =
    c.if-not-reserve.ensures.told p g.M.Memory.choose e refl (nest-made p.outline x.areas c.args.takes t lens ∙ sym c.nest_words-words.ensures) in
    let nest : IsNest p g.M.Memory.choose b y t lens c.in-Some.array.0 = subst (Nests p g.M.Memory.choose b y t lens) c.in-Some.is c.in_ok-array.ensures in
    told-ok c.give.result _ _
    (λ given. nest-whole p g.M.Memory.choose x y c.count_steps.new.self c.give.new.self c.args.takes t lens c.in-Some.array.0 nest.others
    (c.births.result - c.births-before.result) c.requires.can.ready.next_fits c.requires.fits.are.some
    (nest-done p g.M.Memory.choose x b y c.args.takes t lens c.in-Some.array.0 begun nest)
    (nest-count p g.M.Memory.choose b y t lens c.in-Some.array.0 c.births-before.result c.births.result nest c.births-before.ensures.value c.births.ensures.value)
    c.count_steps.ensures
    (given (Plain (ref c.in-Some.array.0)) refl p g.M.Memory.choose))
    c.give.ensures
