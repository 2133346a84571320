use Rattle.std.proofs.Common.{◌≡◌, ◌∙◌, [], length, set, ap, sym, subst, arith, eqb-true, eq-eqb}
use Rattle.std.proofs.lemmas.Bool.{false≢true}
use Rattle.std.proofs.lemmas.List.{get_or_read, length-map, nil_from_length}
use Rattle.std.specs.Vec.{vec_len}
use Rattle.fm_conn.specs.declared.shapes.Shape.{Shape}
use Rattle.fm_flow.specs.inner.LiveWalks.{list_of}
use Rattle.fm_summ.specs.Exact.{no_shape, shape_at}
use Rattle.fm_summ.specs.inner.Callers.{called_by, lists_of}
use Rattle.fm_summ.specs.inner.Lists.{targets_of}
use Rattle.fm_summ.specs.inner.Numbers.{Merges}
use Rattle.fm_summ.specs.inner.Passed.{is_changed, method_pairs, renumbered}
use Rattle.fm_summ.specs.inner.Renumberings.{renumber}
use Rattle.fm_summ.proofs.LoopLemmas.{passes_none, passes_some}
use Rattle.fm_summ.proofs.linked.pass_on.Goals as goal

pub pairs_of-requires : goal.pairs_of-requires
pairs_of-requires c =
    let shape : c.index-shape.result.now ≡ shape_at c.args.so_far.now.items c.args.method =
    get_or_read c.args.so_far.now.items c.args.method c.index-shape.result.now c.requires.inside c.index-shape.ensures no_shape in
    let numbers = c.list_at.ensures ∙ ap (λ list. list_of (lists_of list) c.args.method) c.as_slice-4.ensures.value in
    let lists = lists_of c.args.calls.now.known.lists.items in
    ap length numbers ∙ sym (length-map (list_of (lists_of c.args.calls.now.of_methods.items) c.args.method) (list_of lists))
    ∙ c.requires.targets ∙ sym (ap length (c.as_slice-2.ensures ∙ ap (λ (s : Shape). s.calls) shape))

pub returns-then-is_empty : goal.returns-then-is_empty
returns-then-is_empty c =
    let shapes = c.args.so_far.now.items in
    let ts = targets_of c.args.calls.now c.args.method in
    let shape : c.index-shape.result.now ≡ shape_at shapes c.args.method =
    get_or_read shapes c.args.method c.index-shape.result.now c.requires.inside c.index-shape.ensures no_shape in
    let calls = c.as_slice-2.ensures ∙ ap (λ (s : Shape). s.calls) shape in
    let numbers = c.list_at.ensures ∙ ap (λ list. list_of (lists_of list) c.args.method) c.as_slice-4.ensures.value in
    let pairs : c.in_ok-pairs.pairs.items ≡ method_pairs shapes ts (shape_at shapes c.args.method).calls =
    c.in_ok-pairs.ensures
    ∙ (λ i. method_pairs (c.as_slice.ensures.value i) (called_by (lists_of (c.as_slice-3.ensures.value i)) (numbers i)) (calls i)) in
    let zero : vec_len c.in_ok-pairs.pairs ≡ 0 = eqb-true (vec_len c.in_ok-pairs.pairs) 0 (sym c.is_empty.ensures ∙ c.if-is_empty.true) in
    let none : c.in_ok-pairs.pairs.items ≡ [] = nil_from_length _ (let ok = c.in_ok-pairs.pairs.ok.0 in omega (arith, zero)) in
    passes_none ts shapes c.args.method (sym pairs ∙ none)

pub returns : goal.returns
returns c =
    let shapes = c.args.so_far.now.items in
    let ts = targets_of c.args.calls.now c.args.method in
    let f = renumber c.in_ok-by.by in
    let shape : c.index-shape.result.now ≡ shape_at shapes c.args.method =
    get_or_read shapes c.args.method c.index-shape.result.now c.requires.inside c.index-shape.ensures no_shape in
    let calls = c.as_slice-2.ensures ∙ ap (λ (s : Shape). s.calls) shape in
    let numbers = c.list_at.ensures ∙ ap (λ list. list_of (lists_of list) c.args.method) c.as_slice-4.ensures.value in
    let pairs : c.in_ok-pairs.pairs.items ≡ method_pairs shapes ts (shape_at shapes c.args.method).calls =
    c.in_ok-pairs.ensures
    ∙ (λ i. method_pairs (c.as_slice.ensures.value i) (called_by (lists_of (c.as_slice-3.ensures.value i)) (numbers i)) (calls i)) in
    passes_some ts shapes (set shapes c.args.method c.in_ok-made.made) c.args.method f c.is_changed-changed.result c.requires.inside
    (λ none.
    let length_zero : length c.in_ok-pairs.pairs.items ≡ 0 = ap length (pairs ∙ none) in
    let zero : vec_len c.in_ok-pairs.pairs ≡ 0 = let ok = c.in_ok-pairs.pairs.ok.0 in omega (arith, length_zero) in
    false≢true (sym c.if-is_empty.false ∙ c.is_empty.ensures ∙ eq-eqb (vec_len c.in_ok-pairs.pairs) 0 zero))
    (subst (λ list. Merges list f) (c.as_slice-5.ensures.value ∙ pairs) c.in_ok-by.ensures.merges)
    (ap (set shapes c.args.method) (c.in_ok-made.ensures ∙ ap (renumbered f) shape))
    (c.is_changed-changed.ensures ∙ ap (is_changed f) (c.as_slice-6.ensures ∙ ap (λ (s : Shape). s.ends) shape))
