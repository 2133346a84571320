use Rattle.fm_tests_class_files.proofs.writing.written_again.Goals as goal

pub write_class-requires : goal.write_class-requires
write_class-requires c = (c.args.bytes.now, c.in_ok-class.ensures.found)
