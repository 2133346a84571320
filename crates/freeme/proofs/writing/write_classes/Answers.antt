use Rattle.std.proofs.Common.{◌∙◌, arith}
use Rattle.std.proofs.lemmas.Result.{err_from_is_err_and}
use Rattle.fm_load.proofs.ListLemmas.{item_at}
use Rattle.freeme.proofs.WriteLemmas.{write_next, write_ends}
use Rattle.freeme.proofs.writing.write_classes.Goals as goal

pub returns-in_err-write_one-clause-comes : goal.returns-in_err-write_one-clause-comes
returns-in_err-write_one-clause-comes g c =
    let classes = c.args.classes.now in
    let there = item_at classes c.loop-class.class-index c.class-item.result (omega (arith, c.loop-class-test.true)) c.class-item.is in
    let handed = err_from_is_err_and c.from_residual.result c.from_residual.ensures.1 in
    rw (handed.1, handed.2)
    (write_ends (g.F.Files.disk c.write_one.new.files) c.args.folder.now classes c.loop-class.class-index c.class-item.result there c.requires.apart c.in_err-write_one.field-0.0 c.loop-class.invariant.written c.in_err-write_one.ensures.comes)

pub loop-class-preserved : goal.loop-class-preserved
loop-class-preserved g c =
    let classes = c.args.classes.now in
    let there = item_at classes c.loop-class.class-index c.class-item.result (omega (arith, c.loop-class-test.true)) c.class-item.is in
    record {
      keeps = record {
        faults = λ name. c.write_one.ensures.keeps.faults name ∙ c.loop-class.invariant.keeps.faults name;
        widest = λ name. c.write_one.ensures.keeps.widest name ∙ c.loop-class.invariant.keeps.widest name;
        calls = c.write_one.ensures.keeps.calls ∙ c.loop-class.invariant.keeps.calls;
      };
      written = write_next c.args.folder.now classes c.loop-class.class-index c.class-item.result there c.requires.apart c.loop-class.invariant.written c.in_ok-write_one.ensures.comes;
    }
