use Rattle.std.proofs.Common.{◌≡◌, ◌∙◌, ◌<◌, ◌+◌, ◌-◌, [], length, get_or, ap, sym, arith}
use Rattle.std.proofs.lemmas.List.{get_or_read}
use Rattle.std.specs.List.{slice_range}
use Rattle.fm_flow.proofs.EdgeListsLemmas.{get_or-lists_of, length-lists_of}
use Rattle.fm_flow.proofs.edge_lists.EdgeLists.list.Goals as goal

pub index-requires : goal.index-requires
index-requires c = omega (arith, length-lists_of c.self.inside.items.items c.self.inside.starts.items, ap length c.self.view_is, c.requires)

pub overflow_add-j : goal.overflow_add-j
overflow_add-j c = omega (arith, length-lists_of c.self.inside.items.items c.self.inside.starts.items, ap length c.self.view_is, c.requires)

pub index-requires-2 : goal.index-requires-2
index-requires-2 c = omega (arith, length-lists_of c.self.inside.items.items c.self.inside.starts.items, ap length c.self.view_is, c.requires)

pub part-requires : goal.part-requires
part-requires c =
    let items = c.self.inside.items.items in
    let starts = c.self.inside.starts.items in
    let below : c.args.j < length starts - 1 = omega (arith, length-lists_of items starts, ap length c.self.view_is, c.requires) in
    let first : c.index.result.now ≡ get_or starts c.args.j 0 = get_or_read starts c.args.j c.index.result.now (omega arith) c.index.ensures 0 in
    let second : c.index-2.result.now ≡ get_or starts (c.args.j + 1) 0 =
    get_or_read starts (c.args.j + 1) c.index-2.result.now (omega arith) c.index-2.ensures 0 in
    let rising = c.self.invariant.rising c.args.j (omega arith) in
    let within = c.self.invariant.within (c.args.j + 1) in
    record { rising = omega arith; within = omega (arith, ap length c.as_slice.ensures.value) }

pub returns : goal.returns
returns c =
    let items = c.self.inside.items.items in
    let starts = c.self.inside.starts.items in
    let below : c.args.j < length starts - 1 = omega (arith, length-lists_of items starts, ap length c.self.view_is, c.requires) in
    let first : c.index.result.now ≡ get_or starts c.args.j 0 = get_or_read starts c.args.j c.index.result.now (omega arith) c.index.ensures 0 in
    let second : c.index-2.result.now ≡ get_or starts (c.args.j + 1) 0 =
    get_or_read starts (c.args.j + 1) c.index-2.result.now (omega arith) c.index-2.ensures 0 in
    c.part.ensures ∙ (λ k. slice_range (c.as_slice.ensures.value k) (first k) (second k)) ∙ sym (get_or-lists_of items starts c.args.j below)
    ∙ ap (λ lists. get_or lists c.args.j []) c.self.view_is
