use Rattle.std.proofs.Common.{◌≡◌, ◌∙◌, length}
use Rattle.fm_world.proofs.TableLemmas.{length-row, from_parts}
use Rattle.fm_world.specs.Members.{fields_of}
use Rattle.fm_world.specs.Programs.{field_info}
use Rattle.fm_world.specs.inner.Tables.{outline_in}
use Rattle.fm_world.proofs.program.Program.fields.Goals as goal

pub returns : goal.returns
returns c =
    let x = c.self.inside.parts in
    from_parts (λ p. c.len.result ≡ length (fields_of p.outline.classes)) x c.args.self.now c.self.view_is
    (c.len.ensures ∙ length-row (field_info (outline_in x)) (length (fields_of x.declared)) x.fields c.self.invariant.fields)
