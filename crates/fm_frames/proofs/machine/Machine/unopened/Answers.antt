use Rattle.std.proofs.Common.{◌≡◌, ◌∙◌, [], ap, false, length, List, refl, replicate, rules}
use Rattle.fm_cells.specs.declared.answers.Cell.{Cell}
use Rattle.fm_frames.proofs.OpeningMain.{unopened-is}
use Rattle.fm_frames.proofs.machine.Machine.unopened.Goals as goal
use Rattle.fm_frames.specs.Literals.{literal_count}

pub returns : goal.returns
returns g c =
    let p = c.args.program.now in
    let cells : List Cell = replicate (literal_count p.outline) (record { 0 = 0 }) in
    let started : c.in_ok-started.started ≡ replicate (length p.outline.classes) false =
    c.in_ok-started.ensures ∙ ap (λ n. replicate n false) c.classes.ensures in
    let literals : c.in_ok-literals.literals.items ≡ cells =
    c.in_ok-literals.ensures.items_if_clones_equal (λ y e. e) ∙ ap (λ n. replicate {A = Cell} n (record { 0 = 0 })) c.literal_count.ensures in
    let read : c.in_ok-input.input.items ≡ c.args.input.now = search rules in
    unopened-is p (record { arguments = []; input = c.args.input.now; depth = c.args.frames }) (g.M.Memory.store c.args.memory) c.new-2.result
    c.in_ok-statics.statics.items c.in_ok-started.started c.in_ok-literals.literals.items c.in_ok-input.input.items c.args.frames c.new-2.ensures
    c.in_ok-statics.ensures started literals read refl
