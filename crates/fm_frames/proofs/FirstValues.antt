-- What static fields hold at first.
use Rattle.std.proofs.Common.{◌≡◌, ℕ, ◌+◌, ◌<◌, ◌≤◌, List, [], ◌∷◌, ◌++◌, length, take, ap, sym, ◌∙◌, take_all, arith}
use Rattle.std.proofs.lemmas.Grind.{flat_map-append}
use Rattle.std.proofs.lemmas.List.{append-nil, take_more}
use Rattle.std.specs.List.{flat_map}
use Rattle.fm_base.specs.declared.kinds.Kind.{Kind}
use Rattle.fm_base.specs.declared.kinds.Kind.TheVariants as kind
use Rattle.fm_code.specs.AccessFlags.{is_static}
use Rattle.fm_world.specs.Members.{field_at, field_kind, fields_of, OwnedField}
use Rattle.fm_world.specs.Programs.{field_info, Outline}
use Rattle.fm_world.specs.declared.records.FieldInfo.{FieldInfo}
use Rattle.fm_frames.proofs.ClassStarts.{no_owner}
use Rattle.fm_frames.specs.Runs.{first_statics}
use Rattle.fm_frames.specs.declared.values.Value.{Value}
use Rattle.fm_frames.specs.inner.Opening.{first_by}
use Rattle.fm_frames.specs.inner.Places.{IsOfKind}

pub zero-fits : (k : Kind) → IsOfKind k 0
zero-fits kind.Boolean = omega arith
zero-fits kind.Byte = omega arith
zero-fits kind.Char = omega arith
zero-fits kind.Short = omega arith
zero-fits kind.Int = omega arith
zero-fits kind.Long = omega arith
zero-fits (kind.Ref t) = omega arith

-- what a field holds at first, if it is static
abbrev pub firsts_in : Outline → OwnedField → List Value
firsts_in o f = first_by (is_static f.field.flags) (field_kind o.classes f.field)

firsts-told : (o : Outline) (field : ℕ) (info : FieldInfo) → info ≡ field_info o field
    → first_by info.is_static info.kind ≡ firsts_in o (field_at o.classes field)
unfolding field_info
firsts-told o field info is = ap (λ (i : FieldInfo). first_by i.is_static i.kind) is

pub firsts-more : (o : Outline) (field : ℕ) (info : FieldInfo) (before after : List Value) → field < length (fields_of o.classes) → info ≡ field_info o field
    → before ≡ flat_map (firsts_in o) (take field (fields_of o.classes)) → after ≡ before ++ first_by info.is_static info.kind
    → after ≡ flat_map (firsts_in o) (take (field + 1) (fields_of o.classes))
firsts-more o field info before after inside is so_far added =
    let done = take field (fields_of o.classes) in
    let one = field_at o.classes field in
    added ∙ (λ i. so_far i ++ firsts-told o field info is i)
    ∙ sym (ap (flat_map (firsts_in o)) (take_more (fields_of o.classes) field no_owner inside) ∙ flat_map-append (firsts_in o) done (one ∷ [])
    ∙ ap (λ vs. flat_map (firsts_in o) done ++ vs) (append-nil (firsts_in o one)))

pub firsts-all : (o : Outline) (n : ℕ) (statics : List Value) → length (fields_of o.classes) ≤ n
    → statics ≡ flat_map (firsts_in o) (take n (fields_of o.classes)) → statics ≡ first_statics o
firsts-all o n statics done is = is ∙ ap (flat_map (firsts_in o)) (take_all n (fields_of o.classes) done)
