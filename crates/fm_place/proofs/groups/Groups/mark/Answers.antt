use Rattle.std.proofs.Common.{rules, ◌≡◌, ◌||◌, ◌&&◌, ℕ, Option, Some, sym, subst}
use Rattle.std.specs.Prelude.{nat_eq}
use Rattle.fm_place.proofs.GroupLemmas.{rows_marked}
use Rattle.fm_place.specs.inner.PlanRows.{AreRowsIn, is_class, number_in}
use Rattle.fm_place.proofs.groups.Groups.mark.Goals as goal

pub returns : goal.returns
returns c = λ count test are.
    let g = c.args.self.now in
    let class = c.in-Some.class in
    let number = c.in-Some-get.number.now in
    let there : number_in g.numbers class ≡ Some number = search rules in
    subst (λ (o : Option ℕ). AreRowsIn g count (λ j x. test j x || (is_class o x && nat_eq c.args.item j)) c.set_at.new.rows.items) (sym c.in-Some.is)
    (rows_marked g count test c.args.rows.now.items class number c.args.item c.set_at.new.rows.items c.requires.groups there c.set_at.ensures are)
