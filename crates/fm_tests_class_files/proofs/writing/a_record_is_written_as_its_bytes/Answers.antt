use Rattle.std.proofs.Common.{sym, subst}
use Rattle.fm_code.specs.Example.{example_bytes}
use Rattle.fm_code.specs.Spells.{HasSpelling}
use Rattle.fm_code.proofs.Example.{example_spelled}
use Rattle.fm_tests_class_files.proofs.writing.a_record_is_written_as_its_bytes.Goals as goal

pub write_class-requires : goal.write_class-requires
write_class-requires g c = subst HasSpelling (sym c.in_ok-class.ensures) (example_bytes, example_spelled)
