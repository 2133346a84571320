use Rattle.std.proofs.Common.{◌≡◌, ◌∙◌, sym, ap, subst, arith, get_or, length, List, Some}
use Rattle.std.proofs.lemmas.Bool.{false≢true}
use Rattle.std.proofs.lemmas.Option.{same_Some}
use Rattle.fm_code.specs.Edges.{insn_of}
use Rattle.fm_code.specs.declared.code_array.Item.{Item}
use Rattle.fm_conn.specs.inner.PairLists.{method_in}
use Rattle.fm_flow.proofs.EdgesOfLemmas.{insn_of-get_or}
use Rattle.fm_rapid.proofs.WalkSteps.{Goes-none}
use Rattle.fm_rapid.specs.inner.Walks.{sets_of, IsGone}
use Rattle.fm_rapid.proofs.walk.Walk.follow_item.Goals as goal

pub reachable-requires : goal.reachable-requires
reachable-requires c = let size = c.requires.flow.edges.one_each in omega (arith, c.requires.item, size)

pub returns-then-not-reachable-clause-goes : goal.returns-then-not-reachable-clause-goes
returns-then-not-reachable-clause-goes c = Goes-none c.args.at.now.program.now (sets_of c.args.self.now) c.requires.walk

pub returns-then-not-reachable-clause-gone : goal.returns-then-not-reachable-clause-gone
returns-then-not-reachable-clause-gone c = λ i reached is.
    absurd (false≢true (sym (sym c.reachable.ensures ∙ c.if-not-reachable.true) ∙ (c.requires.flow.reachable.each c.args.item).1 reached))

pub bounds-items-item : goal.bounds-items-item
bounds-items-item c = omega (arith, c.requires.item, ap length c.as_slice-items.ensures)

pub follow_insn-requires-clause-needed : goal.follow_insn-requires-clause-needed
follow_insn-requires-clause-needed c =
    let code = c.args.at.now.code.now in
    let j = c.args.item in
    let item = c.index-items-item.result in
    let insn : insn_of code j ≡ Some (get_or c.as_slice-items.result.now j item).insn =
    insn_of-get_or code j item c.requires.item ∙ ap (λ (list : List Item). Some (get_or list j item).insn) (sym c.as_slice-items.ensures) in
    c.requires.needed j (get_or c.as_slice-items.result.now j item).insn
    ((c.requires.flow.reachable.each j).0 (sym c.reachable.ensures ∙ c.if-not-reachable.false)) insn

pub returns-clause-gone : goal.returns-clause-gone
returns-clause-gone c = λ i reached insn_is.
    let code = c.args.at.now.code.now in
    let j = c.args.item in
    let item = c.index-items-item.result in
    let insn : insn_of code j ≡ Some (get_or c.as_slice-items.result.now j item).insn =
    insn_of-get_or code j item c.requires.item ∙ ap (λ (list : List Item). Some (get_or list j item).insn) (sym c.as_slice-items.ensures) in
    subst (IsGone (sets_of c.follow_insn.new.self) (method_in c.args.at.now))
    (same_Some (get_or c.as_slice-items.result.now j item).insn i (sym insn ∙ insn_is)) c.in_ok-follow_insn.ensures.gone
