use Rattle.std.proofs.Common.{◌≡◌, ◌∙◌, ap, arith, get_or, subst, true}
use Rattle.std.proofs.lemmas.List.{take_all}
use Rattle.fm_link_supers.specs.inner.ListTables.{list_in}
use Rattle.fm_world.specs.Chains.{is_among}
use Rattle.fm_link_members.proofs.OwnerLemmas.{low-more, low-start}
use Rattle.fm_link_members.specs.inner.MemberRows.{no_row}
use Rattle.fm_link_members.proofs.search_starts.first_place.Goals as goal

pub loop-class-init : goal.loop-class-init
loop-class-init c = low-start c.args.places.now c.list_at-owners.result.now c.args.end

pub loop-class-preserved : goal.loop-class-preserved
loop-class-preserved c =
    low-more c.args.places.now c.list_at-owners.result.now c.loop-class.first c.min-first.result c.loop-class.class-index c.loop-class-test.true
    (omega (arith, c.min-first.ensures)) (omega (arith, c.min-first.ensures, c.number_at.ensures)) c.loop-class.invariant

pub returns : goal.returns
returns c = λ k finding below within signed.
    let class = (get_or c.args.finding.members.now.rows.items k no_row).class in
    let owners = c.args.finding.owners.now in
    c.loop-class.invariant class
    (ap (is_among class) (take_all c.loop-class.class-index c.list_at-owners.result.now c.loop-class-test.false ∙ c.list_at-owners.ensures)
    ∙ subst (λ s. is_among class (list_in owners s) ≡ true) signed (finding.owners k within))
