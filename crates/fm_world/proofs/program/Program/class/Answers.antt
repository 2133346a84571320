use Rattle.std.proofs.Common.{◌≡◌, ◌<◌, length}
use Rattle.fm_world.proofs.TableLemmas.{row_within, row_is, to_parts, from_parts}
use Rattle.fm_world.specs.Programs.{class_info}
use Rattle.fm_world.specs.inner.Tables.{outline_in}
use Rattle.fm_world.proofs.program.Program.class.Goals as goal

pub bounds-as_slice-c : goal.bounds-as_slice-c
bounds-as_slice-c c =
    let x = c.self.inside.parts in
    let within = to_parts (λ p. c.args.c.0 < length p.outline.classes) x c.args.self.now c.self.view_is c.requires in
    row_within (class_info (outline_in x)) (length x.declared) c.args.c.0 c.as_slice.result.now x.classes c.as_slice.ensures
    c.self.invariant.classes within

pub returns : goal.returns
returns c =
    let x = c.self.inside.parts in
    let within = to_parts (λ p. c.args.c.0 < length p.outline.classes) x c.args.self.now c.self.view_is c.requires in
    from_parts (λ p. c.index-as_slice-c.result ≡ class_info p.outline c.args.c.0) x c.args.self.now c.self.view_is
    (row_is (class_info (outline_in x)) (length x.declared) c.args.c.0 c.as_slice.result.now x.classes c.index-as_slice-c.result c.as_slice.ensures
    c.self.invariant.classes within c.index-as_slice-c.is)
