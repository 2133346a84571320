use Rattle.std.proofs.Common.{sym, ◌∙◌, ap, ℕ, List, ◌++◌, ◌∷◌, [], map, zero-add}
use Rattle.std.specs.List.{slice_index_or}
use Rattle.std.proofs.lemmas.List.FromFn.{map-range_with_len_more}
use Rattle.fm_link_supers.proofs.TableSteps.{lists_push}
use Rattle.fm_link_supers.specs.inner.ListTables.{lists}
use Rattle.fm_world.specs.inner.Tables.{numbers_below}
use Rattle.fm_link_supers.proofs.interfaces.with_classes.Goals as goal

pub loop-class-preserved : goal.loop-class-preserved
loop-class-preserved c =
    let class = c.loop-class.class in
    let fronted : ℕ → List ℕ = λ k. k ∷ slice_index_or (lists c.args.own.now) k [] in
    let made = c.in_ok-with_class.field-0 in
    lists_push c.loop-class.made.items c.push.new.self.items made c.in_ok-push.ensures.items
    ∙ ap (λ xs. xs ++ made.items ∷ []) c.loop-class.invariant
    ∙ ap (λ x. map fronted (numbers_below class) ++ x ∷ []) (c.in_ok-with_class.ensures ∙ ap (λ xs. class ∷ xs) c.list_at.ensures)
    ∙ sym (map-range_with_len_more fronted 0 class class (zero-add class))
