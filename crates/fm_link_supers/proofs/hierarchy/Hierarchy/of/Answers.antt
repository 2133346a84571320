use Rattle.std.proofs.Common.{◌≡◌, sym, ◌∙◌, ap, get_or, ℕ, length, [], ◌∷◌, map, nat_eq, replicate, reverse}
use Rattle.std.specs.Global.{Vec}
use Rattle.std.specs.List.{flat_map}
use Rattle.std.proofs.lemmas.List.{length-map}
use Rattle.std.proofs.lemmas.List.FromFn.{length-map-range_with_len}
use Rattle.fm_link_supers.proofs.Downwards.{order_is}
use Rattle.fm_link_supers.proofs.HierarchyLemmas.{above_are, superinterfaces_only}
use Rattle.fm_link_supers.proofs.Inherited.{inherited_are, interfaces_are, with_classes-is}
use Rattle.fm_link_supers.proofs.ParentTables.{chains_are, parent_at_is, row_within}
use Rattle.fm_link_supers.specs.inner.InterfaceRounds.{inherited_along, with_classes}
use Rattle.fm_link_supers.specs.inner.ListTables.{lists}
use Rattle.fm_link_supers.specs.inner.ParentTable.{chain_by}
use Rattle.fm_world.proofs.Acyclic.{IsLinear-acyclic}
use Rattle.fm_world.specs.Chains.{distinct, superinterfaces_of}
use Rattle.fm_world.specs.inner.Tables.{numbers_below}
use Rattle.fm_link_supers.proofs.hierarchy.Hierarchy.of.Goals as goal

pub returns : goal.returns
returns c classes are sound =
    let parents = c.args.ancestors.parents.items in
    let chains = lists c.in_ok-chains.chains.items in
    let above = lists c.args.ancestors.above.items in
    let chains_found =
    chains_are classes parents are.parents chains (c.in_ok-chains.ensures ∙ ap (λ t. map (chain_by t) (numbers_below (length t))) c.as_slice.ensures.value) in
    let above_found =
    above_are classes above sound (length-map c.args.ancestors.above.items (λ (v : Vec ℕ). v.items) ∙ are.one_each) are.above in
    let linear = IsLinear-acyclic classes sound.acyclic.superclasses in
    let order =
    order_is classes sound.acyclic.superclasses chains chains_found c.in_ok-order.order.items
    (c.in_ok-order.ensures ∙ ap (λ t. distinct nat_eq (reverse (flat_map (λ chain. chain) (lists t)))) c.as_slice-2.ensures.value) in
    let parent_at = parent_at_is classes parents are.parents in
    let above_at = row_within (superinterfaces_of classes) (length classes) [] above above_found in
    let fronted : lists c.in_ok-fronted.fronted.items ≡ with_classes above =
    c.in_ok-fronted.ensures ∙ ap (λ t. with_classes (lists t)) c.as_slice-above.ensures.value in
    let fronted_count : length c.in_ok-fronted.fronted.items ≡ length c.args.ancestors.above.items =
    sym (length-map c.in_ok-fronted.fronted.items (λ (v : Vec ℕ). v.items)) ∙ ap length fronted
    ∙ length-map-range_with_len (λ class. class ∷ get_or above class []) 0 (length above) ∙ length-map c.args.ancestors.above.items (λ (v : Vec ℕ). v.items) in
    record {
      classes_are = are.classes_are;
      linear = linear;
      only_interfaces = superinterfaces_only classes sound;
      parents = are.parents;
      listed = are.listed;
      chains = chains_found;
      order = order;
      above = above_found;
      interfaces = interfaces_are classes (lists c.in_ok-interfaces.interfaces.items)
          (inherited_are classes (superinterfaces_of classes) parents above (lists c.in_ok-interfaces.interfaces.items) c.in_ok-order.order.items
          (length c.args.ancestors.above.items) linear parent_at above_at order are.one_each
          (c.in_ok-interfaces.ensures
          ∙ ap (λ t. inherited_along t (lists c.as_slice-above.result.now) c.as_slice-3.result.now (replicate (length c.as_slice-above.result.now) [])) c.as_slice-parents.ensures.value
          ∙ ap (λ t. inherited_along parents (lists t) c.as_slice-3.result.now (replicate (length t) [])) c.as_slice-above.ensures.value
          ∙ ap (λ t. inherited_along parents above t (replicate (length c.args.ancestors.above.items) [])) c.as_slice-3.ensures.value));
      paths =
          inherited_are classes (λ class. class ∷ superinterfaces_of classes class) parents (with_classes above) (lists c.in_ok-paths.paths.items)
          c.in_ok-order.order.items (length c.in_ok-fronted.fronted.items) linear parent_at (with_classes-is classes above above_found) order
          (fronted_count ∙ are.one_each)
          (c.in_ok-paths.ensures
          ∙ ap (λ t. inherited_along t (lists c.as_slice-5.result.now) c.as_slice-4.result.now (replicate (length c.as_slice-5.result.now) [])) c.as_slice-parents.ensures.value
          ∙ ap (λ t. inherited_along parents (lists c.as_slice-5.result.now) t (replicate (length c.as_slice-5.result.now) [])) c.as_slice-4.ensures.value
          ∙ ap (λ t. inherited_along parents (lists t) c.in_ok-order.order.items (replicate (length t) [])) c.as_slice-5.ensures.value
          ∙ ap (λ t. inherited_along parents t c.in_ok-order.order.items (replicate (length c.in_ok-fronted.fronted.items) [])) fronted);
      object = are.object;
    }
