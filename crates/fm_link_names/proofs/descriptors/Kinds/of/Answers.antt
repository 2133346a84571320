use Rattle.std.proofs.Common.{◌∙◌, List, ap, arith, length, map, option_and_then, slice_get, unwrap_or}
use Rattle.std.specs.Vec.{vec_len}
use Rattle.fm_base.specs.declared.kinds.Kind.{Kind}
use Rattle.fm_base.specs.declared.kinds.Kind.TheVariants as kind
use Rattle.fm_link_names.proofs.KindLemmas.{declares}
use Rattle.fm_link_names.specs.inner.DescriptorTypes.{few_kind, few_kind_in, last_of}
use Rattle.fm_link_names.specs.inner.NamedTypes.{type_named}
use Rattle.fm_link_names.proofs.descriptors.Kinds.of.Goals as goal

pub returns : goal.returns
returns c = λ classes are few.
    declares classes c.args.descriptor.now c.in_ok-types.types.items c.in_ok-kinds.kinds.items
    (record { params = c.in_ok-params.params; result = c.result_of-result.result; field = c.field_of-field.result })
    (record {
      types_are = c.in_ok-types.ensures;
      few = few;
      kinds_are = c.in_ok-kinds.ensures classes are ∙ ap (map (λ t. few_kind classes (type_named t))) c.as_slice.ensures.value;
      count = vec_len c.in_ok-kinds.kinds;
      count_is = omega (arith, ap (λ (ks : List Kind). length ks) c.as_slice-3.ensures.value, c.as_slice-3.ensures.len);
      params_are = c.in_ok-params.ensures ∙ c.pop.ensures.rest;
      result_is = c.result_of-result.ensures classes are
          ∙ ap (λ ts. option_and_then (λ t. few_kind_in classes (type_named t)) (last_of ts)) c.as_slice-2.ensures.value;
      field_is = c.field_of-field.ensures ∙ ap (λ ks. unwrap_or (slice_get ks 0) kind.Int) c.as_slice-3.ensures.value;
    })
