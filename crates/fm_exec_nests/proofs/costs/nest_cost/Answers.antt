use Rattle.std.proofs.Common.{◌≡◌, max, min, None, Some, option_map, ap, sym, ◌∙◌, rules}
use Rattle.fm_frames.proofs.Programs.{method-class}
use Rattle.fm_frames.specs.Steps.{most_words, stack_of}
use Rattle.fm_exec.specs.Steps.{seen}
use Rattle.fm_exec_nests.proofs.NestPrices.{no-type, none-price, some-price, type-price}
use Rattle.fm_exec_nests.proofs.costs.nest_cost.Goals as goal
use Rattle.fm_exec_nests.specs.inner.Costs.{is_type}
use Rattle.fm_exec_nests.specs.inner.Counts.{arrays_on}
use Rattle.fm_types.specs.Named.{class_of_method}
use Rattle.fm_types.specs.Typed.{use_in}
use Rattle.fm_world.specs.Programs.{use_of}
use Rattle.fm_world.specs.declared.records.MethodInfo.{MethodInfo}

pub returns-then-not-is_type : goal.returns-then-not-is_type
returns-then-not-is_type g c =
    let p = c.args.program.now in
    let x = c.args.machine.now in
    let named : c.use_of-resolved.result ≡ use_in p c.args.method.0 c.args.index =
    c.use_of-resolved.ensures
    ∙ ap (λ class. use_of p class c.args.index) (ap (λ (m : MethodInfo). m.class.0) c.method.ensures ∙ method-class p c.args.method.0) in
    no-type p.outline (use_in p c.args.method.0 c.args.index) c.args.dimensions (seen p x) (c.if-not-is_type.ensures ∙ ap is_type named)

pub returns-in-Some : goal.returns-in-Some
returns-in-Some g c =
    let p = c.args.program.now in
    let x = c.args.machine.now in
    let u = use_in p c.args.method.0 c.args.index in
    let named : c.use_of-resolved.result ≡ u =
    c.use_of-resolved.ensures
    ∙ ap (λ class. use_of p class c.args.index) (ap (λ (m : MethodInfo). m.class.0) c.method.ensures ∙ method-class p c.args.method.0) in
    let told : Some c.in-Some.made ≡ option_map (λ n. min n most_words) (arrays_on (stack_of x) c.args.dimensions) = search rules in
    let most : c.max.result ≡ max 1 c.in-Some.made = search rules in
    most ∙ some-price (arrays_on (stack_of x) c.args.dimensions) c.in-Some.made told
    ∙ ap (λ n. min n most_words)
    (sym (type-price p x u c.args.dimensions (c.if-not-is_type.ensures ∙ ap is_type named) (c.requires.runnable.uses (class_of_method p.outline c.args.method.0) c.args.index)))

pub returns-in-None : goal.returns-in-None
returns-in-None g c =
    let p = c.args.program.now in
    let x = c.args.machine.now in
    let u = use_in p c.args.method.0 c.args.index in
    let named : c.use_of-resolved.result ≡ u =
    c.use_of-resolved.ensures
    ∙ ap (λ class. use_of p class c.args.index) (ap (λ (m : MethodInfo). m.class.0) c.method.ensures ∙ method-class p c.args.method.0) in
    let told : None ≡ option_map (λ n. min n most_words) (arrays_on (stack_of x) c.args.dimensions) = search rules in
    none-price (arrays_on (stack_of x) c.args.dimensions) told
    ∙ ap (λ n. min n most_words)
    (sym (type-price p x u c.args.dimensions (c.if-not-is_type.ensures ∙ ap is_type named) (c.requires.runnable.uses (class_of_method p.outline c.args.method.0) c.args.index)))
