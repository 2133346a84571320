use Rattle.std.proofs.Common.{◌∙◌, sym, ap, arith, set, [], ◌∷◌, ◌++◌, ℕ}
use Rattle.std.proofs.lemmas.List.{get_or-map, map-set}
use Rattle.std.specs.Global.{Vec}
use Rattle.fm_link_supers.specs.inner.ListTables.{lists}
use Rattle.fm_link_members.proofs.owners.push_at.Goals as goal

pub returns-in_ok-push : goal.returns-in_ok-push
returns-in_ok-push c =
    let table = c.args.table.now.items in
    let was = c.index_mut.result.now in
    map-set (λ (v : Vec ℕ). v.items) table c.args.place c.push.new.self
    ∙ ap (set (lists table) c.args.place)
    (c.in_ok-push.ensures.items ∙ ap (λ list. list ++ c.args.number ∷ [])
    (ap (λ (v : Vec ℕ). v.items) c.index_mut.ensures.value ∙ sym (get_or-map (λ (v : Vec ℕ). v.items) table c.args.place was []
    (let ok = c.args.table.now.ok.0 in omega (arith, c.if-place-len.true, c.len.ensures)))))
