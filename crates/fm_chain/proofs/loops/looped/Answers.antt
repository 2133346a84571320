use Rattle.std.proofs.Common.{◌≡◌, ◌∙◌, ℕ, Bool, false, List, [], length, replicate, ap, sym, subst, arith}
use Rattle.std.proofs.lemmas.List.{length-replicate, nil_from_length}
use Rattle.fm_chain.proofs.LoopLemmas.{looping_all, looping_first, looping_inside, looping_more}
use Rattle.fm_chain.specs.inner.LoopWalks.{Looping}
use Rattle.fm_flow.proofs.CodeFacts.{items_counted}
use Rattle.fm_flow.specs.Flow.{edges_at}
use Rattle.fm_flow.specs.Marking.{Marks}
use Rattle.fm_chain.proofs.loops.looped.Goals as goal

pub item_count-requires : goal.item_count-requires
item_count-requires c = let few = (items_counted c.args.code.now c.requires.flow.spelled).1 in omega (arith, few)

pub no_marks-requires : goal.no_marks-requires
no_marks-requires c = c.requires.flow.edges.within

pub mark_edges-requires : goal.mark_edges-requires
mark_edges-requires c =
    let all = c.requires.flow.edges.one_each in
    let inside = c.requires.inside in
    let bits = ap (λ (row : List Bool). length row) c.in_ok-reached.ensures in
    record {
      item = omega (arith, all, inside);
      row = omega (arith, all, bits, length-replicate c.item_count.result false, c.item_count.ensures);
      within = c.requires.flow.edges.within;
      marked = c.in_ok-done.ensures c.in_ok-reached.reached;
    }

pub loop-j-init : goal.loop-j-init
loop-j-init c =
    let code = c.args.code.now in
    let flow = c.args.flow.now in
    let item = c.args.item in
    let row = c.mark_edges.new.row in
    let waiting = c.mark_edges.new.waiting.items in
    let row_is : c.in_ok-reached.reached ≡ replicate (length code.items) false =
    c.in_ok-reached.ensures ∙ ap (λ n. replicate n false) c.item_count.ensures in
    let marks : Marks (edges_at flow item) (replicate (length code.items) false) row [] waiting =
    subst (λ (old : List Bool). Marks (edges_at flow item) old row [] waiting) row_is
    (subst (λ (items : List ℕ). Marks (edges_at flow item) c.in_ok-reached.reached row items waiting) c.new-waiting.ensures.items c.in_ok-mark_edges.ensures.marks) in
    record {
      looping = looping_first code item (edges_at flow item) (λ x. c.requires.flow.edges.each item x c.requires.inside) row waiting marks;
      covered = c.in_ok-mark_edges.ensures.marked;
    }

pub mark_edges-requires-in-Some : goal.mark_edges-requires-in-Some
mark_edges-requires-in-Some c =
    let code = c.args.code.now in
    let before = subst (λ (waiting : List ℕ). Looping code c.args.item c.loop-j.reached waiting) c.in-Some.ensures.items c.loop-j.invariant.looping in
    let inside = looping_inside code c.args.item c.loop-j.reached c.pop.new.self.items c.in-Some.j before in
    let all = c.requires.flow.edges.one_each in
    record {
      item = omega (arith, inside, all);
      row = c.loop-j.invariant.looping.bits ∙ sym all;
      within = c.requires.flow.edges.within;
      marked = c.loop-j.invariant.covered;
    }

pub loop-j-preserved : goal.loop-j-preserved
loop-j-preserved c =
    let code = c.args.code.now in
    let j = c.in-Some.j in
    let before = subst (λ (waiting : List ℕ). Looping code c.args.item c.loop-j.reached waiting) c.in-Some.ensures.items c.loop-j.invariant.looping in
    let inside = looping_inside code c.args.item c.loop-j.reached c.pop.new.self.items j before in
    record {
      looping = looping_more code c.args.item c.loop-j.reached c.pop.new.self.items j before (edges_at c.args.flow.now j) c.mark_edges-in-Some.new.row
          c.mark_edges-in-Some.new.waiting.items (λ x. c.requires.flow.edges.each j x inside) c.in_ok-mark_edges-2.ensures.marks;
      covered = c.in_ok-mark_edges-2.ensures.marked;
    }

pub returns : goal.returns
returns c =
    let empty : c.loop-j.waiting.items ≡ [] = nil_from_length c.loop-j.waiting.items (let ok = c.loop-j.waiting.ok.0 in omega (arith, c.in_default.ensures.cases.0)) in
    c.get.ensures
    ∙ looping_all c.args.code.now c.args.item c.loop-j.reached
    (subst (λ (waiting : List ℕ). Looping c.args.code.now c.args.item c.loop-j.reached waiting) empty c.loop-j.invariant.looping)
