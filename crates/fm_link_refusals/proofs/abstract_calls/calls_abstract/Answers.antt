use Rattle.std.proofs.Common.{◌≡◌, sym, ◌∙◌, ap, ◌||◌, Some}
use Rattle.fm_link_names.specs.inner.Numbering.{texts_in}
use Rattle.fm_world.specs.Descriptors.{class_number}
use Rattle.fm_world.specs.Lookups.{is_abstract_method, resolved_method, special_target}
use Rattle.fm_link_refusals.proofs.CallsOfAbstracts.{calls_some, resolved_within}
use Rattle.fm_link_refusals.proofs.abstract_calls.calls_abstract.Goals as goal

pub returns-then-is_abstract : goal.returns-then-is_abstract
returns-then-is_abstract c = λ classes name linked within member.
    let method = c.in-Some.method in
    let found = sym (c.resolved_method.ensures classes name linked member) ∙ c.in-Some.is in
    let target = special_target classes c.args.class (class_number classes name.class) method in
    ap (λ b. b || is_abstract_method classes target) (sym (sym (c.is_abstract.ensures classes linked) ∙ c.if-is_abstract.true))
    ∙ sym (calls_some classes c.args.class name method found)

pub returns : goal.returns
returns c = λ classes name linked within member.
    let texts = texts_in c.args.linking.texts.now in
    let method = c.in-Some.method in
    let found : resolved_method classes name ≡ Some method = sym (c.resolved_method.ensures classes name linked member) ∙ c.in-Some.is in
    let named = c.class_named-named.ensures classes name.class linked member.class in
    let target = special_target classes c.args.class (class_number classes name.class) method in
    let called = c.special_target-target.ensures texts classes linked.methods linked.hierarchy within (resolved_within classes name method found) in
    c.is_abstract-2.ensures classes linked
    ∙ ap (is_abstract_method classes) (called ∙ ap (λ o. special_target classes c.args.class o method) named)
    ∙ ap (λ b. b || is_abstract_method classes target) (sym (sym (c.is_abstract.ensures classes linked) ∙ c.if-is_abstract.false))
    ∙ sym (calls_some classes c.args.class name method found)
