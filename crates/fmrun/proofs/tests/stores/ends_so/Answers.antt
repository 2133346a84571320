use Rattle.std.proofs.Common.{List, [], None, sym}
use Rattle.std.proofs.lemmas.List.{append-nil}
use Rattle.fm_code.specs.declared.class_file.ClassDef.{ClassDef}
use Rattle.fm_files.specs.Files.{Bytes, Contents}
use Rattle.fm_load.proofs.GivenLemmas.{given_accepted, given_few, given_spelled}
use Rattle.fm_load.specs.Given.{AreGiven}
use Rattle.fm_load.specs.Taking.{AllTaken}
use Rattle.fmrun.proofs.tests.stores.ends_so.Goals as goal

-- classes of files alone are given
of_files : {contents : Contents} {files : List Bytes} {classes : List ClassDef} → AllTaken contents files classes
    → AreGiven (record { files = files; made = None; main = [] }) contents classes
of_files {contents} {files} {classes} all = record { read = classes; taken = all; alone = tt; classes_are = sym (append-nil classes) }

pub run_ends_so-requires-clause-spelled : goal.run_ends_so-requires-clause-spelled
run_ends_so-requires-clause-spelled c = given_spelled (of_files c.in-Ok.ensures.comes.taken)

pub run_ends_so-requires-clause-accepted : goal.run_ends_so-requires-clause-accepted
run_ends_so-requires-clause-accepted c = given_accepted (of_files c.in-Ok.ensures.comes.taken)

pub run_ends_so-requires-clause-few : goal.run_ends_so-requires-clause-few
run_ends_so-requires-clause-few c = given_few (of_files c.in-Ok.ensures.comes.taken)
