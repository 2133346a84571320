use Rattle.std.proofs.Common.{◌≡◌, true, false, Some, None, codes, get_or, refl, sym, subst, rules}
use Rattle.std.proofs.lemmas.Option.{slice_get-get_or}
use Rattle.fm_exec_calls.proofs.SelectSteps.{interface-named, interface-selected, interface-told, interface_of}
use Rattle.fm_exec_calls.proofs.selections.interface_target.Goals as goal
use Rattle.fm_exec.proofs.Exceptions.{change-is}
use Rattle.fm_exec.proofs.HeldSteps.{object-found, Seen}
use Rattle.fm_exec.proofs.Seen.{carried}
use Rattle.fm_exec.specs.Steps.{seen, Steps}
use Rattle.fm_frames.specs.CallRows.{interface_effect}
use Rattle.fm_frames.specs.Effects.{stuck}
use Rattle.fm_frames.specs.Operands.{on_any, thrown}
use Rattle.fm_frames.specs.Steps.{stack_of}
use Rattle.fm_world.specs.Chains.{is_sub}
use Rattle.fm_world.specs.Numbers.{type_of_class}
use Rattle.fm_world.specs.declared.uses.Use.TheVariants as used

pub returns-in_default : goal.returns-in_default
returns-in_default g c byte =
    let p = c.args.program.now in
    let o = p.outline in
    let x = c.args.machine.now in
    let t = get_or o.types c.args.named.0 (type_of_class 0) in
    subst (λ e. Steps p g.M.Memory.choose x c.refuse.new.machine e)
    (sym (interface-named o c.args.m c.args.named t byte (seen p x) (slice_get-get_or o.types c.args.named.0 (type_of_class 0) c.requires.named)))
    (subst (λ n. Steps p g.M.Memory.choose x c.refuse.new.machine (on_any o (seen p x) n (interface_of o c.args.m t byte (seen p x)))) c.words_of_arguments-words.ensures
    (c.in_ok-refuse.ensures (sym c.in_default.ensures.value) (interface_of o c.args.m t byte (seen p x))))

pub returns-then-not-implements : goal.returns-then-not-implements
returns-then-not-implements g c byte =
    let p = c.args.program.now in
    let o = p.outline in
    let x = c.args.machine.now in
    let it = subst (λ n. Seen o x.areas.store (stack_of x) n c.in-Some.field-0-0 c.in-Some.head) c.words_of_arguments-words.ensures
    (object-found o x.areas.store (stack_of x) c.words_of_arguments-words.result c.in-Some.field-0-0 c.in-Some.head c.in-Some.ensures.value) in
    let told : false ≡ is_sub o.classes c.type_in-t.result c.type_of.result = search rules in
    carried p g.M.Memory.choose x c.throw_new.new.self (interface_effect o (used.OfMethod c.args.m c.args.named) byte (seen p x))
    (thrown o (codes "java/lang/IncompatibleClassChangeError"))
    (interface-told o x.areas.store (stack_of x) c.args.m c.args.named c.type_of.result byte c.in-Some.field-0-0 c.in-Some.head c.type_in-t.result false
    c.type_of.ensures it c.type_in-t.ensures.value told)
    (c.in_ok-throw_new.ensures (codes "java/lang/IncompatibleClassChangeError") (change-is p c.requires.can.runnable))

pub returns-in_default-selected : goal.returns-in_default-selected
returns-in_default-selected g c byte =
    let p = c.args.program.now in
    let o = p.outline in
    let x = c.args.machine.now in
    let it = subst (λ n. Seen o x.areas.store (stack_of x) n c.in-Some.field-0-0 c.in-Some.head) c.words_of_arguments-words.ensures
    (object-found o x.areas.store (stack_of x) c.words_of_arguments-words.result c.in-Some.field-0-0 c.in-Some.head c.in-Some.ensures.value) in
    let told : true ≡ is_sub o.classes c.type_in-t.result c.type_of.result = search rules in
    carried p g.M.Memory.choose x c.stuck.new.self (interface_effect o (used.OfMethod c.args.m c.args.named) byte (seen p x)) stuck
    (interface-selected o x.areas.store (stack_of x) c.args.m c.args.named c.type_of.result byte c.in-Some.field-0-0 c.in-Some.head c.type_in-t.result None
    c.type_of.ensures it c.type_in-t.ensures.value told c.in_default-selected.ensures)
    (c.stuck.ensures c.requires.can.runnable g.M.Memory.choose)

pub returns : goal.returns
returns g c =
    let p = c.args.program.now in
    let o = p.outline in
    let x = c.args.machine.now in
    let it = subst (λ n. Seen o x.areas.store (stack_of x) n c.in-Some.field-0-0 c.in-Some.head) c.words_of_arguments-words.ensures
    (object-found o x.areas.store (stack_of x) c.words_of_arguments-words.result c.in-Some.field-0-0 c.in-Some.head c.in-Some.ensures.value) in
    let told : true ≡ is_sub o.classes c.type_in-t.result c.type_of.result = search rules in (
      refl,
      λ byte. interface-selected o x.areas.store (stack_of x) c.args.m c.args.named c.type_of.result byte c.in-Some.field-0-0 c.in-Some.head c.type_in-t.result
          (Some c.in-Some-selected.found.0) c.type_of.ensures it c.type_in-t.ensures.value told c.in-Some-selected.ensures,
    )
