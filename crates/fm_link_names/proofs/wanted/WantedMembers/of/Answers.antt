use Rattle.std.proofs.Common.{◌≡◌, sym, ◌∙◌, ap, rules, [], length, replicate}
use Rattle.std.specs.List.{flat_map}
use Rattle.std.proofs.lemmas.List.{drop_all}
use Rattle.fm_link_names.proofs.WantLemmas.{noted_all, noted_step}
use Rattle.fm_link_names.specs.inner.Wanting.{noted_among, wanted_of}
use Rattle.fm_world.specs.Causes.{static_field_wanted, static_method_wanted}
use Rattle.fm_world.specs.Uses.{class_items, items_of}
use Rattle.fm_link_names.proofs.wanted.WantedMembers.of.Goals as goal

pub loop-method-init : goal.loop-method-init
loop-method-init c =
    let class = c.args.class.now in
    let methods : c.as_slice-method-items.result.now ≡ class.methods = c.as_slice-method-items.ensures in
    let no_field : c.in_ok-fields.fields.items ≡ replicate (length class.pool.entries) (wanted_of []) = search rules in
    let no_method : c.in_ok-methods.methods.items ≡ replicate (length class.pool.entries) (wanted_of []) = search rules in
    record {
      fields = ap (λ w. noted_among static_field_wanted w (flat_map items_of c.as_slice-method-items.result.now)) no_field
          ∙ ap (λ ms. noted_among static_field_wanted (replicate (length class.pool.entries) (wanted_of [])) (flat_map items_of ms)) methods;
      methods = ap (λ w. noted_among static_method_wanted w (flat_map items_of c.as_slice-method-items.result.now)) no_method
          ∙ ap (λ ms. noted_among static_method_wanted (replicate (length class.pool.entries) (wanted_of [])) (flat_map items_of ms)) methods;
    }

pub loop-method-preserved : goal.loop-method-preserved
loop-method-preserved c =
    let class = c.args.class.now in
    let methods = c.as_slice-method-items.result.now in
    let i = c.loop-method.method-index in
    let m = c.method-item.result in
    let items = c.items_of-items.result.now in
    let none = replicate (length class.pool.entries) (wanted_of []) in
    record {
      fields = noted_step static_field_wanted methods i m items c.loop-method.fields.items c.note_fields.new.wanted.items
          (noted_among static_field_wanted none (class_items class))
          c.loop-method-test.true c.method-item.is c.items_of-items.ensures c.note_fields.ensures c.loop-method.invariant.fields;
      methods = noted_step static_method_wanted methods i m items c.loop-method.methods.items c.note_methods.new.wanted.items
          (noted_among static_method_wanted none (class_items class))
          c.loop-method-test.true c.method-item.is c.items_of-items.ensures c.note_methods.ensures c.loop-method.invariant.methods;
    }

pub returns-clause-fields : goal.returns-clause-fields
returns-clause-fields c =
    sym (ap (λ ms. noted_among static_field_wanted c.loop-method.fields.items (flat_map items_of ms))
    (drop_all c.loop-method.method-index c.as_slice-method-items.result.now c.loop-method-test.false))
    ∙ c.loop-method.invariant.fields ∙ noted_all static_field_wanted c.args.class.now

pub returns-clause-methods : goal.returns-clause-methods
returns-clause-methods c =
    sym (ap (λ ms. noted_among static_method_wanted c.loop-method.methods.items (flat_map items_of ms))
    (drop_all c.loop-method.method-index c.as_slice-method-items.result.now c.loop-method-test.false))
    ∙ c.loop-method.invariant.methods ∙ noted_all static_method_wanted c.args.class.now
