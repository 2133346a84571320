use Rattle.std.proofs.Common.{◌≡◌, ◌∙◌, ◌+◌, [], List, ℕ, length, ap, sym, subst, arith}
use Rattle.std.proofs.lemmas.List.{nil_from_length, length_push}
use Rattle.fm_flow.proofs.ReachLemmas.{Reaching-first, Reaching-more, AreReachableOf-all, waiting_inside}
use Rattle.fm_flow.proofs.RunLemmas.{Covers-none}
use Rattle.fm_flow.specs.Tables.{ends_of}
use Rattle.fm_flow.specs.inner.Walks.{Reaching}
use Rattle.fm_flow.specs.Marking.{unset}
use Rattle.fm_flow.proofs.reach.reached_items.Goals as goal

pub run_count-requires : goal.run_count-requires
run_count-requires c = c.requires.edges.within.few

pub loop-j-init : goal.loop-j-init
loop-j-init c =
    let n = c.item_count.result in
    let reaching : Reaching c.args.code.now c.set.new.self c.push.new.self.items =
    rw (c.set.ensures, c.in_ok-reached.ensures, c.in_ok-push.ensures.items, c.new-waiting.ensures.items)
    (Reaching-first c.args.code.now n c.item_count.ensures.some c.item_count.ensures.count) in
    record {
      reaching = reaching;
      covers = rw c.in_ok-done.ensures (Covers-none c.args.edges.now.caught c.run_count.result c.set.new.self c.run_count.ensures);
    }

pub mark_from-requires : goal.mark_from-requires
mark_from-requires c =
    let before = subst (λ (waiting : List ℕ). Reaching c.args.code.now c.loop-j.reached waiting) c.in-Some.ensures.items c.loop-j.invariant.reaching in
    let inside = waiting_inside c.args.code.now c.loop-j.reached c.pop.new.self.items c.in-Some.j before in
    let count = c.requires.edges.one_each in
    record {
      item = omega arith;
      row = c.loop-j.invariant.reaching.bits ∙ sym count;
      within = c.requires.edges.within;
      covers = c.loop-j.invariant.covers;
    }

pub loop-j-preserved : goal.loop-j-preserved
loop-j-preserved c =
    let code = c.args.code.now in
    let j = c.in-Some.j in
    let before = subst (λ (waiting : List ℕ). Reaching code c.loop-j.reached waiting) c.in-Some.ensures.items c.loop-j.invariant.reaching in
    let inside = waiting_inside code c.loop-j.reached c.pop.new.self.items j before in
    record {
      reaching = Reaching-more code (ends_of c.args.edges.now j) c.loop-j.reached c.mark_from.new.row c.pop.new.self.items c.mark_from.new.waiting.items j
          (λ x. c.requires.edges.each j x inside) before c.in_ok-mark_from.ensures.marks;
      covers = c.in_ok-mark_from.ensures.covers;
    }

pub loop-j-smaller : goal.loop-j-smaller
loop-j-smaller c =
    let work : unset c.mark_from.new.row + length c.mark_from.new.waiting.items ≡ unset c.loop-j.reached + length c.pop.new.self.items = c.in_ok-mark_from.ensures.marks.work in
    let longer : length c.loop-j.waiting.items ≡ length c.pop.new.self.items + 1 =
    ap length c.in-Some.ensures.items ∙ length_push c.pop.new.self.items c.in-Some.j in
    omega arith

pub returns : goal.returns
returns c =
    let empty : c.loop-j.waiting.items ≡ [] = nil_from_length c.loop-j.waiting.items (let ok = c.loop-j.waiting.ok.0 in omega (arith, c.in_default.ensures.cases.0)) in
    AreReachableOf-all c.args.code.now c.loop-j.reached
    (subst (λ (waiting : List ℕ). Reaching c.args.code.now c.loop-j.reached waiting) empty c.loop-j.invariant.reaching)
