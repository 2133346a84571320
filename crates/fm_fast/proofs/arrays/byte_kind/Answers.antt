use Rattle.std.proofs.Common.{◌≡◌, ◌∙◌, ap, sym, subst, true}
use Rattle.fm_base.specs.declared.kinds.TypeRef.{TypeRef}
use Rattle.fm_code.specs.declared.operations.Elem.TheVariants as elem
use Rattle.fm_fast.proofs.Packing.{boolean-elements, byte-elements}
use Rattle.fm_fast.proofs.arrays.byte_kind.Goals as goal
use Rattle.fm_frames.specs.ArrayRows.{element_kind}
use Rattle.fm_types.specs.ArrayRows.{is_array_of}

pub returns-in-Boolean : goal.returns-in-Boolean
returns-in-Boolean c =
    let t = c.type_there.result in
    let array : is_array_of elem.Byte t ≡ true = subst (λ (t : TypeRef). is_array_of elem.Byte t ≡ true) (sym c.type_there.ensures) c.requires.array in
    sym (ap element_kind (sym c.type_there.ensures) ∙ boolean-elements t array c.in-Boolean.is)

pub returns-in_default : goal.returns-in_default
returns-in_default c =
    let t = c.type_there.result in
    let array : is_array_of elem.Byte t ≡ true = subst (λ (t : TypeRef). is_array_of elem.Byte t ≡ true) (sym c.type_there.ensures) c.requires.array in
    sym (ap element_kind (sym c.type_there.ensures) ∙ byte-elements t array c.in_default.not-Boolean)
