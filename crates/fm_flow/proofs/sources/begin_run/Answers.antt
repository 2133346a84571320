use Rattle.std.proofs.Common.{◌≡◌, ◌∙◌, ◌++◌, ◌∷◌, [], ℕ, List, Contains, length, ap, subst, arith}
use Rattle.std.specs.List.{Any}
use Rattle.fm_code.specs.Edges.{Catches}
use Rattle.fm_code.specs.declared.code_array.Handler.{Handler}
use Rattle.fm_flow.proofs.EdgesOfLemmas.{handler_inside}
use Rattle.fm_flow.specs.inner.Walks.{AreHandlersAt, IsRisingListOf}
use Rattle.fm_flow.specs.inner.LiveWalks.{AddsToEach}
use Rattle.fm_flow.proofs.sources.begin_run.Goals as goal

pub add_to_each-requires : goal.add_to_each-requires
add_to_each-requires c = λ x found.
    let Handlers : List Handler → Type 0 = λ hs. IsRisingListOf (λ y. Any (Catches c.args.j y) hs) c.in_ok-handlers.handlers.items in
    let are : AreHandlersAt c.args.code.now c.args.j c.in_ok-handlers.handlers.items = subst Handlers c.as_slice.ensures c.in_ok-handlers.ensures in
    let inside = handler_inside c.args.code.now c.requires.spelled c.args.j x ((are.members x).0 (subst (λ (list : List ℕ). Contains list x) c.as_slice-2.ensures.value found)) in
    let count = c.requires.one_each in omega arith

pub returns : goal.returns
returns c =
    let Handlers : List Handler → Type 0 = λ hs. IsRisingListOf (λ y. Any (Catches c.args.j y) hs) c.in_ok-handlers.handlers.items in
    let ok = c.args.items.now.ok.0 in
    let count : c.len.result ≡ length c.args.items.now.items = omega (arith, c.len.ensures, ok) in
    let list : AddsToEach c.in_ok-handlers.handlers.items c.len.result c.args.by_handler.now.items c.add_to_each.new.lists.items =
    subst (λ (xs : List ℕ). AddsToEach xs c.len.result c.args.by_handler.now.items c.add_to_each.new.lists.items) c.as_slice-2.ensures.value c.in_ok-add_to_each.ensures in
    let adds = subst (λ (n : ℕ). AddsToEach c.in_ok-handlers.handlers.items n c.args.by_handler.now.items c.add_to_each.new.lists.items) count list in
    record {
      handlers = c.in_ok-handlers.handlers.items;
      are = subst Handlers c.as_slice.ensures c.in_ok-handlers.ensures;
      adds = adds;
      pushed = c.in_ok-push.ensures.items ∙ ap (λ (x : List ℕ). c.args.items.now.items ++ x ∷ []) c.empty.ensures;
    }
