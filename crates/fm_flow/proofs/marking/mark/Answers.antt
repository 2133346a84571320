use Rattle.std.proofs.Common.{◌∙◌, List, get_or, sym, subst, arith, ℕ}
use Rattle.std.proofs.lemmas.List.{take_all}
use Rattle.std.proofs.lemmas.List.Elements.{Contains-get_or}
use Rattle.fm_flow.proofs.ReachLemmas.{Marks-none, Marks-new, Marks-known}
use Rattle.fm_flow.specs.Marking.{Marks}
use Rattle.fm_flow.proofs.marking.mark.Goals.{then-not-get+in_ok-push, else-not-get}
use Rattle.fm_flow.proofs.marking.mark.Goals as goal

pub get-requires : goal.get-requires
get-requires c =
    let below = c.requires (get_or c.args.list.now c.loop-j.j-index 0) (Contains-get_or c.args.list.now c.loop-j.j-index 0 c.loop-j-test.true) in
    let same = c.loop-j.invariant.same_length in omega arith

pub set-requires : goal.set-requires
set-requires c =
    let below = c.requires (get_or c.args.list.now c.loop-j.j-index 0) (Contains-get_or c.args.list.now c.loop-j.j-index 0 c.loop-j-test.true) in
    let same = c.loop-j.invariant.same_length in omega arith

pub loop-j-init : goal.loop-j-init
loop-j-init c = Marks-none c.args.reached.now c.args.waiting.now.items

pub loop-j-preserved : goal.loop-j-preserved
loop-j-preserved c =
    let list = c.args.list.now in
    let i = c.loop-j.j-index in
    let below = c.requires (get_or list i 0) (Contains-get_or list i 0 c.loop-j-test.true) in
    let same = c.loop-j.invariant.same_length in
    elim c.if-not-get.branch [
      | then-not-get+in_ok-push w ↦
          rw (w.reached-is, w.waiting-is, w.set.ensures, w.in_ok-push.ensures.items)
          (Marks-new list i c.args.reached.now c.loop-j.reached c.args.waiting.now.items c.loop-j.waiting.items c.loop-j-test.true c.loop-j.invariant (omega arith)
          (sym c.get.ensures ∙ w.if-not-get.true))
      | else-not-get w ↦
          rw (w.reached-is, w.waiting-is)
          (Marks-known list i c.args.reached.now c.loop-j.reached c.args.waiting.now.items c.loop-j.waiting.items c.loop-j-test.true c.loop-j.invariant
          (sym c.get.ensures ∙ w.if-not-get.false))
    ]

pub returns : goal.returns
returns c =
    let Done : List ℕ → Type 0 = λ list. Marks list c.args.reached.now c.loop-j.reached c.args.waiting.now.items c.loop-j.waiting.items in
    subst Done (take_all c.loop-j.j-index c.args.list.now c.loop-j-test.false) c.loop-j.invariant
