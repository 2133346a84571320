use Rattle.std.proofs.Common.{◌≡◌, ◌∙◌, length}
use Rattle.fm_world.proofs.TableLemmas.{length-row, from_parts}
use Rattle.fm_world.specs.Members.{methods_of}
use Rattle.fm_world.specs.Programs.{method_info}
use Rattle.fm_world.specs.inner.Tables.{program_in}
use Rattle.fm_world.proofs.program.Program.methods.Goals as goal

pub returns : goal.returns
returns c =
    let x = c.self.inside.parts in
    from_parts (λ p. c.len.result ≡ length (methods_of p.outline.classes)) x c.args.self.now c.self.view_is
    (c.len.ensures ∙ length-row (method_info (program_in x)) (length (methods_of x.declared)) x.methods c.self.invariant.methods)
