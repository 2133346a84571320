use Rattle.std.proofs.Common.{◌≡◌, ◌∙◌, ◌<◌, ℕ, arith, length, ap, sym, subst, Some, get_or}
use Rattle.std.specs.List.{AllByRecursion}
use Rattle.std.proofs.lemmas.List.Elements.{All-get_or, All-from_recursion}
use Rattle.std.proofs.lemmas.Result.{IfOk-weaker}
use Rattle.fm_code.specs.Edges.{insn_of, IsNormalEdge}
use Rattle.fm_code.specs.SpellsCode.{targets_of}
use Rattle.fm_code.specs.declared.code_array.Item.{Item}
use Rattle.fm_flow.proofs.CodeFacts.{targets_inside}
use Rattle.fm_flow.proofs.EdgesOfLemmas.{insn_of-get_or, IsRisingListOf-normal}
use Rattle.fm_flow.proofs.OnwardLemmas.{Onward}
use Rattle.fm_flow.specs.inner.Walks.{IsRisingListOf}
use Rattle.fm_flow.proofs.item_edges.normal_at.Goals as goal

pub normal_edges-requires : goal.normal_edges-requires
normal_edges-requires c =
    let items = c.args.code.now.items in
    let Inside : Item → Type 0 = λ item. AllByRecursion (λ target. target < length items) (targets_of item.insn) in
    let item = c.index-as_slice-j.result in
    let is : item ≡ get_or items c.args.j item = c.index-as_slice-j.is ∙ ap (λ list. get_or list c.args.j item) c.as_slice.ensures in
    let at : Inside (get_or items c.args.j item) =
    All-get_or Inside items c.args.j item c.requires.inside (All-from_recursion Inside items (targets_inside c.args.code.now c.requires.spelled)) in
    let targets : Inside item = subst Inside (sym is) at in
    record { inside = omega (arith, c.item_count.ensures.count, c.requires.inside); targets = rw c.item_count.ensures.count targets }

pub returns : goal.returns
returns c =
    let code = c.args.code.now in
    let j = c.args.j in
    let item = c.index-as_slice-j.result in
    let is : item ≡ get_or code.items j item = c.index-as_slice-j.is ∙ ap (λ list. get_or list j item) c.as_slice.ensures in
    let insn : insn_of code j ≡ Some item.insn = insn_of-get_or code j item c.requires.inside ∙ ap (λ (it : Item). Some it.insn) (sym is) in
    IfOk-weaker c.normal_edges.result (λ list. IsRisingListOf (Onward item.insn j c.item_count.result) list.items)
    (λ list. IsRisingListOf (IsNormalEdge code j) list.items)
    (λ list lists.
    let Normal : ℕ → Type 0 = λ n. IsRisingListOf (Onward item.insn j n) list.items in
    IsRisingListOf-normal code j item.insn list.items insn (subst Normal c.item_count.ensures.count lists))
    c.normal_edges.ensures
