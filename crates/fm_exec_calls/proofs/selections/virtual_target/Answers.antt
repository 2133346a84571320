use Rattle.std.proofs.Common.{◌≡◌, true, false, Some, None, get_or, refl, ap, sym, ◌∙◌, subst, rules}
use Rattle.std.proofs.lemmas.Option.{slice_get-get_or}
use Rattle.fm_exec_calls.proofs.SelectSteps.{virtual-named, virtual-selected, virtual-told, virtual_of}
use Rattle.fm_exec_calls.proofs.selections.virtual_target.Goals as goal
use Rattle.fm_exec.proofs.HeldSteps.{object-found, Seen}
use Rattle.fm_exec.proofs.Seen.{carried}
use Rattle.fm_exec.specs.Steps.{seen, Steps}
use Rattle.fm_frames.specs.Acts.{cell_of}
use Rattle.fm_frames.specs.CallRows.{virtual_effect, words_of_arguments}
use Rattle.fm_frames.specs.Effects.{OfOperand, faulty, stuck}
use Rattle.fm_frames.specs.Operands.{on_any}
use Rattle.fm_frames.specs.Sights.{type_numbered}
use Rattle.fm_frames.specs.Steps.{stack_of}
use Rattle.fm_types.specs.Fits.{fits_type}
use Rattle.fm_world.specs.Numbers.{type_of_class}
use Rattle.fm_world.specs.declared.uses.Use.TheVariants as used

pub returns-in_default : goal.returns-in_default
returns-in_default g c byte =
    let p = c.args.program.now in
    let o = p.outline in
    let x = c.args.machine.now in
    let t = get_or o.types c.args.named.0 (type_of_class 0) in
    subst (λ e. Steps p g.M.Memory.choose x c.refuse.new.machine e)
    (sym (virtual-named o c.args.m c.args.named t byte (seen p x) (slice_get-get_or o.types c.args.named.0 (type_of_class 0) c.requires.named)))
    (subst (λ n. Steps p g.M.Memory.choose x c.refuse.new.machine (on_any o (seen p x) n (virtual_of o c.args.m t byte (seen p x)))) c.words_of_arguments-words.ensures
    (c.in_ok-refuse.ensures (sym c.in_default.ensures.value) (virtual_of o c.args.m t byte (seen p x))))

pub returns-then-not-fits : goal.returns-then-not-fits
returns-then-not-fits g c byte =
    let p = c.args.program.now in
    let o = p.outline in
    let x = c.args.machine.now in
    let n = words_of_arguments o c.args.m.0 in
    let it = subst (λ n. Seen o x.areas.store (stack_of x) n c.in-Some.cell c.in-Some.head) c.words_of_arguments-words.ensures
    (object-found o x.areas.store (stack_of x) c.words_of_arguments-words.result c.in-Some.cell c.in-Some.head c.in-Some.ensures.value) in
    let t = type_numbered o c.args.named.0 in
    let at = slice_get-get_or o.types c.args.named.0 (type_of_class 0) c.requires.named in
    let told : false ≡ fits_type o.classes (type_numbered o c.in-Some.head.class) t = search rules in
    carried p g.M.Memory.choose x c.fault.new.self (virtual_effect o (used.OfMethod c.args.m c.args.named) byte (seen p x)) (faulty n)
    (virtual-told o x.areas.store (stack_of x) c.args.m c.args.named t byte c.in-Some.cell c.in-Some.head (type_numbered o c.in-Some.head.class) false
    at it refl told)
    (c.fault.ensures c.requires.can.runnable g.M.Memory.choose (OfOperand n) (ap cell_of it.word))

pub returns-in_default-selected : goal.returns-in_default-selected
returns-in_default-selected g c byte =
    let p = c.args.program.now in
    let o = p.outline in
    let x = c.args.machine.now in
    let it = subst (λ n. Seen o x.areas.store (stack_of x) n c.in-Some.cell c.in-Some.head) c.words_of_arguments-words.ensures
    (object-found o x.areas.store (stack_of x) c.words_of_arguments-words.result c.in-Some.cell c.in-Some.head c.in-Some.ensures.value) in
    let t = type_numbered o c.args.named.0 in
    let at = slice_get-get_or o.types c.args.named.0 (type_of_class 0) c.requires.named in
    let fits : true ≡ fits_type o.classes (type_numbered o c.in-Some.head.class) t = search rules in
    let told = fits ∙ ap (λ a. fits_type o.classes a t) (sym c.type_in-t.ensures.value) in
    carried p g.M.Memory.choose x c.stuck.new.self (virtual_effect o (used.OfMethod c.args.m c.args.named) byte (seen p x)) stuck
    (virtual-selected o x.areas.store (stack_of x) c.args.m c.args.named t byte c.in-Some.cell c.in-Some.head c.type_in-t.result None
    at it c.type_in-t.ensures.value told c.in_default-selected.ensures)
    (c.stuck.ensures c.requires.can.runnable g.M.Memory.choose)

pub returns : goal.returns
returns g c =
    let p = c.args.program.now in
    let o = p.outline in
    let x = c.args.machine.now in
    let it = subst (λ n. Seen o x.areas.store (stack_of x) n c.in-Some.cell c.in-Some.head) c.words_of_arguments-words.ensures
    (object-found o x.areas.store (stack_of x) c.words_of_arguments-words.result c.in-Some.cell c.in-Some.head c.in-Some.ensures.value) in
    let t = type_numbered o c.args.named.0 in
    let at = slice_get-get_or o.types c.args.named.0 (type_of_class 0) c.requires.named in
    let fits : true ≡ fits_type o.classes (type_numbered o c.in-Some.head.class) t = search rules in
    let told = fits ∙ ap (λ a. fits_type o.classes a t) (sym c.type_in-t.ensures.value) in (
      refl,
      λ byte. virtual-selected o x.areas.store (stack_of x) c.args.m c.args.named t byte c.in-Some.cell c.in-Some.head c.type_in-t.result
          (Some c.in-Some-selected.target.0) at it c.type_in-t.ensures.value told c.in-Some-selected.ensures,
    )
