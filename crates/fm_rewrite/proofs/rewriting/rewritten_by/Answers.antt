use Rattle.std.proofs.Common.{rules, ◌≡◌, ◌∙◌, sym, ap, subst, ℕ, ◌-◌, List, drop, take, length, Ok, Err, arith}
use Rattle.fm_place.specs.Rewriting.{first_given}
use Rattle.fm_rewrite.proofs.JudgedLemmas.{comes_as, comes_full, comes_long, judged_spelled, own_done, parts_of}
use Rattle.fm_rewrite.specs.declared.rewriting.Rewritten.{Rewritten}
use Rattle.fm_rewrite.specs.inner.ByPlans.{AreMadeBy, ComesBy, HaveCounts, HaveFlags, MayDoEach}
use Rattle.fm_place_weave.specs.declared.planned.Planned.{Planned}
use Rattle.fm_world.specs.BuiltIns.{built_in}
use Rattle.fm_rewrite.proofs.rewriting.rewritten_by.Goals as goal

pub method_count-requires : goal.method_count-requires
method_count-requires c =
    let parts = parts_of c.args.classes.now c.args.program.now c.args.planned.now c.requires.judged c.requires.planned in
    let all = parts.methods in
    omega (arith, all, c.methods-methods.ensures, c.methods-methods.type_inv)

pub overflow_sub-first_method : goal.overflow_sub-first_method
overflow_sub-first_method c =
    let parts = parts_of c.args.classes.now c.args.program.now c.args.planned.now c.requires.judged c.requires.planned in
    let all = parts.methods in
    omega (arith, all, c.methods-methods.ensures, c.method_count.ensures)

pub overflow_cast-first_class : goal.overflow_cast-first_class
overflow_cast-first_class c =
    let parts = parts_of c.args.classes.now c.args.program.now c.args.planned.now c.requires.judged c.requires.planned in
    let all = parts.classes in
    omega (arith, all, c.classes.ensures, c.classes.type_inv)

pub overflow_sub-first_class : goal.overflow_sub-first_class
overflow_sub-first_class c =
    let parts = parts_of c.args.classes.now c.args.program.now c.args.planned.now c.requires.judged c.requires.planned in
    let all = parts.classes in
    omega (arith, all, c.classes.ensures)

pub free_pools-requires-clause-spelled : goal.free_pools-requires-clause-spelled
free_pools-requires-clause-spelled c = judged_spelled c.args.classes.now c.args.program.now c.requires.judged

pub free_pools-requires-clause-one_each : goal.free_pools-requires-clause-one_each
free_pools-requires-clause-one_each c =
    let parts = parts_of c.args.classes.now c.args.program.now c.args.planned.now c.requires.judged c.requires.planned in
    let all = parts.methods in
    let first : c.methods-methods.result - c.method_count.result ≡ first_given = omega (arith, all, c.methods-methods.ensures, c.method_count.ensures) in
    ap length (own_done c.args.planned.now (c.methods-methods.result - c.method_count.result) first) ∙ parts.one_each

pub free_pools-requires-clause-flags : goal.free_pools-requires-clause-flags
free_pools-requires-clause-flags c =
    let parts = parts_of c.args.classes.now c.args.program.now c.args.planned.now c.requires.judged c.requires.planned in
    let all = parts.methods in
    let first : c.methods-methods.result - c.method_count.result ≡ first_given = omega (arith, all, c.methods-methods.ensures, c.method_count.ensures) in
    subst (λ (d : List Planned). HaveFlags d c.args.classes.now)
    (sym (own_done c.args.planned.now (c.methods-methods.result - c.method_count.result) first)) parts.flags

pub free_pools-requires-clause-numbers : goal.free_pools-requires-clause-numbers
free_pools-requires-clause-numbers c =
    let parts = parts_of c.args.classes.now c.args.program.now c.args.planned.now c.requires.judged c.requires.planned in
    let all = parts.classes in
    omega (arith, all, c.classes.ensures, c.classes.type_inv)

pub woven_classes-requires-clause-one_each : goal.woven_classes-requires-clause-one_each
woven_classes-requires-clause-one_each c =
    let parts = parts_of c.args.classes.now c.args.program.now c.args.planned.now c.requires.judged c.requires.planned in
    let all = parts.methods in
    let first : c.methods-methods.result - c.method_count.result ≡ first_given = omega (arith, all, c.methods-methods.ensures, c.method_count.ensures) in
    ap length (own_done c.args.planned.now (c.methods-methods.result - c.method_count.result) first) ∙ parts.one_each

pub woven_classes-requires-clause-may : goal.woven_classes-requires-clause-may
woven_classes-requires-clause-may c =
    let parts = parts_of c.args.classes.now c.args.program.now c.args.planned.now c.requires.judged c.requires.planned in
    let all = parts.methods in
    let first : c.methods-methods.result - c.method_count.result ≡ first_given = omega (arith, all, c.methods-methods.ensures, c.method_count.ensures) in
    subst (λ (d : List Planned). MayDoEach d c.args.classes.now)
    (sym (own_done c.args.planned.now (c.methods-methods.result - c.method_count.result) first)) parts.may

pub counts_of-requires-clause-one_each : goal.counts_of-requires-clause-one_each
counts_of-requires-clause-one_each c =
    let parts = parts_of c.args.classes.now c.args.program.now c.args.planned.now c.requires.judged c.requires.planned in
    let all = parts.methods in
    let first : c.methods-methods.result - c.method_count.result ≡ first_given = omega (arith, all, c.methods-methods.ensures, c.method_count.ensures) in
    ap length (own_done c.args.planned.now (c.methods-methods.result - c.method_count.result) first) ∙ parts.one_each

pub counts_of-requires-clause-counts : goal.counts_of-requires-clause-counts
counts_of-requires-clause-counts c =
    let parts = parts_of c.args.classes.now c.args.program.now c.args.planned.now c.requires.judged c.requires.planned in
    let all = parts.methods in
    let first : c.methods-methods.result - c.method_count.result ≡ first_given = omega (arith, all, c.methods-methods.ensures, c.method_count.ensures) in
    subst (λ (d : List Planned). HaveCounts d c.args.classes.now)
    (sym (own_done c.args.planned.now (c.methods-methods.result - c.method_count.result) first)) parts.counts

pub returns-in_err-pools : goal.returns-in_err-pools
returns-in_err-pools c =
    let parts = parts_of c.args.classes.now c.args.program.now c.args.planned.now c.requires.judged c.requires.planned in
    let all = parts.methods in
    let classes = parts.classes in
    let k : ℕ = c.methods-methods.result - c.method_count.result in
    let own : List Planned = take (length c.args.planned.now - k) (drop k c.args.planned.now) in
    let first : k ≡ first_given = omega (arith, all, c.methods-methods.ensures, c.method_count.ensures) in
    let class : c.classes.result - length c.args.classes.now ≡ length built_in = omega (arith, classes, c.classes.ensures) in
    let e = c.in_err-pools.field-0.0 in
    let told : c.from_residual.result ≡ Err e = search rules in
    subst (ComesBy (length built_in) first_given (drop first_given c.args.planned.now) c.args.classes.now) (sym told)
    (comes_as (c.classes.result - length c.args.classes.now) (length built_in) k first_given own (drop first_given c.args.planned.now) c.args.classes.now (Err e)
    class first (own_done c.args.planned.now k first)
    (comes_full (c.classes.result - length c.args.classes.now) k own c.args.classes.now e c.in_err-pools.ensures.refused))

pub returns-in_err-made : goal.returns-in_err-made
returns-in_err-made c =
    let parts = parts_of c.args.classes.now c.args.program.now c.args.planned.now c.requires.judged c.requires.planned in
    let all = parts.methods in
    let classes = parts.classes in
    let k : ℕ = c.methods-methods.result - c.method_count.result in
    let own : List Planned = take (length c.args.planned.now - k) (drop k c.args.planned.now) in
    let first : k ≡ first_given = omega (arith, all, c.methods-methods.ensures, c.method_count.ensures) in
    let class : c.classes.result - length c.args.classes.now ≡ length built_in = omega (arith, classes, c.classes.ensures) in
    let e = c.in_err-made.field-0.0 in
    let told : c.from_residual-in_err-made.result ≡ Err e = search rules in
    subst (ComesBy (length built_in) first_given (drop first_given c.args.planned.now) c.args.classes.now) (sym told)
    (comes_as (c.classes.result - length c.args.classes.now) (length built_in) k first_given own (drop first_given c.args.planned.now) c.args.classes.now (Err e)
    class first (own_done c.args.planned.now k first)
    (comes_long (c.classes.result - length c.args.classes.now) k own c.args.classes.now e c.in_ok-pools.ensures.fit c.in_err-made.ensures.refused))

pub returns : goal.returns
returns c =
    let parts = parts_of c.args.classes.now c.args.program.now c.args.planned.now c.requires.judged c.requires.planned in
    let all = parts.methods in
    let classes = parts.classes in
    let k : ℕ = c.methods-methods.result - c.method_count.result in
    let own : List Planned = take (length c.args.planned.now - k) (drop k c.args.planned.now) in
    let first : k ≡ first_given = omega (arith, all, c.methods-methods.ensures, c.method_count.ensures) in
    let class : c.classes.result - length c.args.classes.now ≡ length built_in = omega (arith, classes, c.classes.ensures) in
    let made : Rewritten = record { classes = c.in_ok-made.made; counts = c.in_ok-counts.counts } in
    let by : AreMadeBy (c.classes.result - length c.args.classes.now) k own c.args.classes.now made = record {
      fit = c.in_ok-pools.ensures.fit;
      short = c.in_ok-made.ensures.fit;
      classes = c.in_ok-made.ensures.woven;
      counts = c.in_ok-counts.ensures;
    } in
    comes_as (c.classes.result - length c.args.classes.now) (length built_in) k first_given own (drop first_given c.args.planned.now) c.args.classes.now (Ok made)
    class first (own_done c.args.planned.now k first) by
