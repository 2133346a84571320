use Rattle.std.proofs.Common.{◌≡◌, ◌-◌, ◌∙◌, ap, sym, subst, true, rules}
use Rattle.fm_base.specs.declared.kinds.Kind.TheVariants as kind
use Rattle.fm_base.specs.declared.kinds.TypeRef.{TypeRef}
use Rattle.fm_code.specs.declared.operations.Elem.TheVariants as elem
use Rattle.fm_fast.proofs.Packing.{reference-elements}
use Rattle.fm_fast.proofs.arrays.reference_kind.Goals as goal
use Rattle.fm_frames.specs.ArrayRows.{element_kind}
use Rattle.fm_types.specs.ArrayRows.{is_array_of}

pub returns : goal.returns
returns c =
    let t = c.type_there-t.result in
    let array : is_array_of elem.Ref t ≡ true = subst (λ (t : TypeRef). is_array_of elem.Ref t ≡ true) (sym c.type_there-t.ensures) c.requires.array in
    let less : c.saturating_sub-dims.result ≡ t.dims - 1 = search rules in
    ap (λ n. kind.Ref (record { dims = n; base = t.base })) less
    ∙ sym (ap element_kind (sym c.type_there-t.ensures) ∙ reference-elements t array)
