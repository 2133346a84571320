use Rattle.std.proofs.Common.{◌≡◌, ◌∙◌, sym, ap, reverse, take, true, false, unwrap_or, arith}
use Rattle.std.specs.List.{find}
use Rattle.fm_world.specs.Chains.{chain_of, is_among}
use Rattle.fm_types.proofs.ClassTree.{common-alone, common-none}
use Rattle.fm_types.proofs.joins.common_class.Goals as goal

pub returns : goal.returns
returns c =
    let classes = c.args.program.now.outline.classes in
    let lower = c.display-lower.result.now in
    let looked_through : c.loop-depth.depth ≡ 0 = omega arith in
    common-none classes c.args.c.0 c.args.d.0 c.object-object.result.0 lower c.display-lower.ensures.value
    (sym c.loop-depth.invariant.same ∙ ap (λ k. find (λ above. is_among above (chain_of classes c.args.d.0)) (reverse (take k lower))) looked_through)
    c.object-object.ensures.number

pub returns-then-is_in_chain : goal.returns-then-is_in_chain
returns-then-is_in_chain c =
    common-alone c.args.program.now.outline.classes c.args.c.0 c.args.d.0 true (omega arith) (sym c.is_in_chain.ensures ∙ c.if-is_in_chain.true)

pub returns-else-is_in_chain : goal.returns-else-is_in_chain
returns-else-is_in_chain c =
    let classes = c.args.program.now.outline.classes in
    sym (ap (λ found. unwrap_or found 0) c.object-object.ensures.number)
    ∙ common-alone classes c.args.c.0 c.args.d.0 false (omega arith) (sym c.is_in_chain.ensures ∙ c.if-is_in_chain.false)
