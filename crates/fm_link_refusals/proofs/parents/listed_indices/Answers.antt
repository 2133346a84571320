use Rattle.std.proofs.Common.{◌≡◌, ◌∙◌, ap, length, false, replicate, rules}
use Rattle.fm_link_names.proofs.MarkLemmas.{marked-none}
use Rattle.fm_base.specs.Rows.{marked}
use Rattle.fm_link_refusals.specs.inner.GivenClasses.{class_in}
use Rattle.fm_link_refusals.proofs.parents.listed_indices.Goals as goal

pub returns : goal.returns
returns c =
    let class = class_in c.args.file.now in
    let none : c.in_ok-listed.listed.items ≡ replicate (length class.pool.entries) false = search rules in
    c.mark_indices.ensures
    ∙ ap (marked c.in_ok-listed.listed.items) c.as_slice.ensures
    ∙ ap (λ marks. marked marks class.interfaces) none
    ∙ marked-none (length class.pool.entries) class.interfaces
