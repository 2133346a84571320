use Rattle.std.proofs.Common.{ap, sym, ◌∙◌, ◌<◌, length, unwrap_or, arith}
use Rattle.fm_check_rows.proofs.NameLemmas.{from_first, from_found, from_next, from_past}
use Rattle.fm_world.specs.Numbers.{type_of_class}
use Rattle.fm_check_rows.proofs.method.built_in_type.Goals as goal

pub loop-number-init : goal.loop-number-init
loop-number-init c = from_first c.args.program.now.outline.classes c.args.name.now

pub returns-then-is_named : goal.returns-then-is_named
returns-then-is_named c =
    let classes = c.args.program.now.outline.classes in
    let k = c.loop-number.number in
    let inside : k < length classes = omega arith in
    c.type_of_class.ensures
    ∙ ap (λ o. type_of_class (unwrap_or o 0))
    (sym (from_found classes c.args.name.now k inside c.loop-number.invariant (sym c.is_named.ensures ∙ c.if-is_named.true)))

pub loop-number-preserved : goal.loop-number-preserved
loop-number-preserved c =
    let classes = c.args.program.now.outline.classes in
    let k = c.loop-number.number in
    let inside : k < length classes = omega arith in
    from_next classes c.args.name.now k inside c.loop-number.invariant (sym c.is_named.ensures ∙ c.if-is_named.false)

pub returns : goal.returns
returns c =
    let classes = c.args.program.now.outline.classes in
    c.type_of_class-2.ensures
    ∙ ap (λ o. type_of_class (unwrap_or o 0))
    (sym (from_past classes c.args.name.now c.loop-number.number (omega arith) c.loop-number.invariant))
