use Rattle.std.proofs.Common.{◌≡◌, ◌<◌, length}
use Rattle.fm_world.proofs.TableLemmas.{row_within, row_is, to_parts, from_parts}
use Rattle.fm_world.specs.Members.{fields_of}
use Rattle.fm_world.specs.Programs.{field_info}
use Rattle.fm_world.specs.inner.Tables.{outline_in}
use Rattle.fm_world.proofs.program.Program.field.Goals as goal

pub bounds-as_slice-f : goal.bounds-as_slice-f
bounds-as_slice-f c =
    let x = c.self.inside.parts in
    let within = to_parts (λ p. c.args.f.0 < length (fields_of p.outline.classes)) x c.args.self.now c.self.view_is c.requires in
    row_within (field_info (outline_in x)) (length (fields_of x.declared)) c.args.f.0 c.as_slice.result.now x.fields c.as_slice.ensures
    c.self.invariant.fields within

pub returns : goal.returns
returns c =
    let x = c.self.inside.parts in
    let within = to_parts (λ p. c.args.f.0 < length (fields_of p.outline.classes)) x c.args.self.now c.self.view_is c.requires in
    from_parts (λ p. c.index-as_slice-f.result ≡ field_info p.outline c.args.f.0) x c.args.self.now c.self.view_is
    (row_is (field_info (outline_in x)) (length (fields_of x.declared)) c.args.f.0 c.as_slice.result.now x.fields c.index-as_slice-f.result
    c.as_slice.ensures c.self.invariant.fields within c.index-as_slice-f.is)
