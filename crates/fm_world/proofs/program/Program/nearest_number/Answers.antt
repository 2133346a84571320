use Rattle.std.proofs.Common.{◌∙◌, get_or}
use Rattle.std.proofs.lemmas.List.{get_or_default}
use Rattle.fm_world.proofs.Selected.{selected_by_table, selected_within}
use Rattle.fm_world.proofs.program.Program.nearest_number.Goals as goal

pub bounds-as_slice-c : goal.bounds-as_slice-c
bounds-as_slice-c c =
    selected_within c.self.inside.parts c.args.self.now c.args.c.0 c.args.m.0 c.as_slice-2.result.now c.self.view_is c.self.invariant c.requires.class
    c.requires.method c.as_slice-2.ensures

pub returns : goal.returns
returns c =
    let tops = c.as_slice-2.result.now in
    let within = selected_within c.self.inside.parts c.args.self.now c.args.c.0 c.args.m.0 tops c.self.view_is c.self.invariant c.requires.class
    c.requires.method c.as_slice-2.ensures in
    let table = get_or tops c.args.c.0 0 in
    c.get.ensures
    ∙ selected_by_table c.self.inside.parts c.args.self.now c.args.c.0 c.args.m.0 tops table c.as_slice.result.now c.self.view_is c.self.invariant
    c.requires.class c.requires.method c.as_slice-2.ensures c.as_slice.ensures (get_or_default tops c.args.c.0 0 table within)
