use Rattle.std.proofs.Common.{◌≡◌, ◌<◌, length}
use Rattle.fm_world.proofs.TableLemmas.{row_within, row_is, to_parts, from_parts}
use Rattle.fm_world.specs.Members.{methods_of}
use Rattle.fm_world.specs.Programs.{method_info}
use Rattle.fm_world.specs.inner.Tables.{program_in}
use Rattle.fm_world.proofs.program.Program.method.Goals as goal

pub bounds-as_slice-m : goal.bounds-as_slice-m
bounds-as_slice-m c =
    let x = c.self.inside.parts in
    let within = to_parts (λ p. c.args.m.0 < length (methods_of p.outline.classes)) x c.args.self.now c.self.view_is c.requires in
    row_within (method_info (program_in x)) (length (methods_of x.declared)) c.args.m.0 c.as_slice.result.now x.methods c.as_slice.ensures
    c.self.invariant.methods within

pub returns : goal.returns
returns c =
    let x = c.self.inside.parts in
    let within = to_parts (λ p. c.args.m.0 < length (methods_of p.outline.classes)) x c.args.self.now c.self.view_is c.requires in
    from_parts (λ p. c.index-as_slice-m.result ≡ method_info p c.args.m.0) x c.args.self.now c.self.view_is
    (row_is (method_info (program_in x)) (length (methods_of x.declared)) c.args.m.0 c.as_slice.result.now x.methods c.index-as_slice-m.result
    c.as_slice.ensures c.self.invariant.methods within c.index-as_slice-m.is)
