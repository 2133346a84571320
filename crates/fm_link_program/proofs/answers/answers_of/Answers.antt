use Rattle.std.proofs.Common.{◌∙◌, ap, map, reverse, arith}
use Rattle.fm_link_supers.specs.inner.ListTables.{lists}
use Rattle.fm_link_program.proofs.AnswerSteps.{firsts-rising, firsts-some, own-tables}
use Rattle.fm_link_program.specs.inner.MemberLists.{flags_in}
use Rattle.fm_link_program.proofs.answers.answers_of.Goals as goal

pub own_tables-requires-clause-some : goal.own_tables-requires-clause-some
own_tables-requires-clause-some c =
    let e = firsts-some c.args.hierarchy.now.classes.now c.as_slice-first.result.now (c.as_slice-first.ensures.value ∙ c.requires.first) in
    omega (arith, e)

pub own_tables-requires-clause-rising : goal.own_tables-requires-clause-rising
own_tables-requires-clause-rising c =
    firsts-rising c.args.hierarchy.now.classes.now c.as_slice-first.result.now (c.as_slice-first.ensures.value ∙ c.requires.first)

pub returns : goal.returns
returns c = record {
  displays = c.in_ok-displays.ensures ∙ ap (λ vs. map reverse (lists vs)) c.as_slice-chains.ensures.value;
  interfaces = c.in_ok-interfaces.ensures ∙ ap lists c.as_slice-above.ensures.value;
  signatures = c.in_ok-signatures.ensures.items ∙ c.as_slice-of_members.ensures.value;
  nodes = c.in_ok-selected.ensures.nodes;
  levels = c.in_ok-selected.ensures.levels;
  tops = c.in_ok-tops.ensures.items ∙ c.as_slice-roots.ensures.value;
  one_each = search (c.in_ok-own.ensures.count, c.as_slice-first.ensures.value);
  own = own-tables _ _ _ _ _ _ _ (c.as_slice-first.ensures.value) (c.as_slice-of_members.ensures.value)
      (c.as_slice-flags.ensures.value ∙ c.in_ok-listed.ensures ∙ ap flags_in c.as_slice-rows.ensures.value) c.in_ok-own.ensures.own;
  object = c.object_of-object.ensures;
}
