use Rattle.std.proofs.Common.{◌≡◌, ◌∙◌, ap, sym, subst, true}
use Rattle.fm_code.specs.declared.operations.Elem.{Elem}
use Rattle.fm_fast.proofs.Packing.{int-elements}
use Rattle.fm_fast.proofs.arrays.kind_of_elements.Goals as goal
use Rattle.fm_frames.specs.ArrayRows.{element_kind}
use Rattle.fm_frames.specs.Sights.{type_numbered}
use Rattle.fm_types.specs.ArrayRows.{is_array_of}

pub returns-in-Int : goal.returns-in-Int
returns-in-Int c =
    let t = type_numbered c.args.program.now.outline c.args.head.class in
    sym (int-elements t (subst (λ (e : Elem). is_array_of e t ≡ true) c.in-Int.is c.requires.array))

pub byte_kind-requires-clause-array : goal.byte_kind-requires-clause-array
byte_kind-requires-clause-array c =
    let t = type_numbered c.args.program.now.outline c.args.head.class in
    subst (λ (e : Elem). is_array_of e t ≡ true) c.in-Byte.is c.requires.array

pub reference_kind-requires-clause-array : goal.reference_kind-requires-clause-array
reference_kind-requires-clause-array c =
    let t = type_numbered c.args.program.now.outline c.args.head.class in
    subst (λ (e : Elem). is_array_of e t ≡ true) c.in-Ref.is c.requires.array

pub returns-in_default : goal.returns-in_default
returns-in_default c = c.element_kind.ensures ∙ ap element_kind c.type_there.ensures
