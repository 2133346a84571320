use Rattle.std.proofs.Common.{◌∙◌, ◌≤◌, ℕ, List, Contains, length, subst, arith}
use Rattle.fm_flow.proofs.UsesLemmas.{Using-none, Using-more, AreUsesOf-all, loaded_listed, loaded_fits, stored_fits, locals_fit}
use Rattle.fm_flow.specs.inner.LiveWalks.{AddsToEach}
use Rattle.fm_flow.proofs.uses.uses_of.Goals as goal

pub insn_at-insn-requires : goal.insn_at-insn-requires
insn_at-insn-requires c = omega (arith, c.item_count-j-end.ensures.count)

pub loop-j-init : goal.loop-j-init
loop-j-init c = rw (c.in_ok-loads.ensures, c.in_ok-stores.ensures, c.from.ensures, c.from-2.ensures) (Using-none c.args.code.now)

pub add_to_each-requires : goal.add_to_each-requires
add_to_each-requires c = λ k found.
    let code = c.args.code.now in
    let loads = (loaded_listed code c.loop-j.j c.insn_at-insn.result.now c.insn_at-insn.ensures k).0
    (subst (λ (xs : List ℕ). Contains xs k) (c.as_slice.ensures.value ∙ c.in_ok-loaded.ensures) found) in
    let fits = loaded_fits code c.loop-j.j k c.requires loads in
    let count = c.loop-j.invariant.loaded.one_each in omega arith

pub add_to_each-requires-in-loop-j : goal.add_to_each-requires-in-loop-j
add_to_each-requires-in-loop-j c = λ k found.
    let code = c.args.code.now in
    let insn = c.insn_at-insn.result.now in
    let fits = stored_fits code.max_locals k insn (locals_fit code c.loop-j.j insn c.requires c.insn_at-insn.ensures)
    (subst (λ (xs : List ℕ). Contains xs k) (c.as_slice-in-loop-j.ensures.value ∙ c.in_ok-stored.ensures) found) in
    let count = c.loop-j.invariant.stored.one_each in omega arith

pub loop-j-preserved : goal.loop-j-preserved
loop-j-preserved c =
    let code = c.args.code.now in
    let j = c.loop-j.j in
    let insn = c.insn_at-insn.result.now in
    let load = subst (λ (list : List ℕ). AddsToEach list j c.loop-j.loads.items c.add_to_each.new.lists.items) (c.as_slice.ensures.value ∙ c.in_ok-loaded.ensures) c.in_ok-add_to_each.ensures in
    let store = subst (λ (list : List ℕ). AddsToEach list j c.loop-j.stores.items c.add_to_each-in-loop-j.new.lists.items) (c.as_slice-in-loop-j.ensures.value ∙ c.in_ok-stored.ensures) c.in_ok-add_to_each-2.ensures in
    Using-more code c.loop-j.loads.items c.loop-j.stores.items c.add_to_each.new.lists.items c.add_to_each-in-loop-j.new.lists.items j insn c.loop-j.invariant c.insn_at-insn.ensures load store

pub returns : goal.returns
returns c =
    let past : length c.args.code.now.items ≤ c.loop-j.j = omega (arith, c.item_count-j-end.ensures.count) in
    AreUsesOf-all c.args.code.now c.loop-j.loads.items c.loop-j.stores.items c.loop-j.j past c.loop-j.invariant
