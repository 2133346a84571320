use Rattle.std.proofs.lemmas.Result.{IfOk-weaker}
use Rattle.fm_write.proofs.WritableLemmas.{class_writable, class_spelled}
use Rattle.fm_write.proofs.class_file.write_class.Goals as goal

pub bytes_of-requires : goal.bytes_of-requires
bytes_of-requires c = class_writable c.requires.0 c.args.class.now c.requires.1

pub returns-clause-spells : goal.returns-clause-spells
returns-clause-spells c =
    IfOk-weaker c.bytes_of.result _ _ (λ bytes e. class_spelled c.requires.0 bytes.items c.args.class.now c.requires.1 e) c.bytes_of.ensures
