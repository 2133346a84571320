use Rattle.std.proofs.Common.{[], length, replicate}
use Rattle.fm_link_names.specs.inner.Numbering.{texts_in}
use Rattle.fm_link_refusals.proofs.FirstRefusals.{numbered_here}
use Rattle.fm_link_program.proofs.UseSteps.{files_end, files_step, spelled_here}
use Rattle.fm_link_program.specs.inner.Resolved.{outline_by}
use Rattle.fm_world.specs.BuiltIns.{built_in}
use Rattle.fm_link_program.proofs.uses.uses_of.Goals as goal

pub uses_of_file-requires-clause-numbered : goal.uses_of_file-requires-clause-numbered
uses_of_file-requires-clause-numbered c =
    numbered_here (texts_in c.args.resolving.linking.texts.now) c.args.files.now c.loop-file.file-index c.file-item.result c.requires.numbered
    c.loop-file-test.true c.file-item.is

pub uses_of_file-requires-clause-spelled : goal.uses_of_file-requires-clause-spelled
uses_of_file-requires-clause-spelled c =
    spelled_here c.args.files.now c.loop-file.file-index c.file-item.result c.requires.spelled c.loop-file-test.true c.file-item.is

pub loop-file-preserved : goal.loop-file-preserved
loop-file-preserved c =
    files_step (outline_by c.args.resolving) (replicate (length built_in) []) c.args.files.now c.loop-file.file-index c.file-item.result
    c.loop-file.uses.items c.push.new.self.items c.in_ok-one.one c.loop-file-test.true c.file-item.is c.loop-file.invariant c.in_ok-one.ensures
    c.in_ok-push.ensures.items

pub returns : goal.returns
returns c =
    files_end (outline_by c.args.resolving) (replicate (length built_in) []) c.args.files.now c.loop-file.file-index c.loop-file.uses.items
    c.loop-file-test.false c.loop-file.invariant
