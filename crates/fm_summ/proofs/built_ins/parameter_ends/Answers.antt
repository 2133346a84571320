use Rattle.std.proofs.Common.{rules}
use Rattle.fm_conn.proofs.ListLemmas.{flat_range_next}
use Rattle.fm_summ.specs.inner.BuiltIns.{parameter_end}
use Rattle.fm_summ.proofs.CodeLemmas.{parameter_pushed, parameter_not}
use Rattle.fm_summ.proofs.built_ins.parameter_ends.Goals.{then-is_reference+in_ok-push, else-is_reference}
use Rattle.fm_summ.proofs.built_ins.parameter_ends.Goals as goal

pub loop-index-preserved : goal.loop-index-preserved
loop-index-preserved c =
    let words = c.args.words.now in
    flat_range_next (parameter_end words) c.loop-index.index c.loop-index.ends.items c.if-is_reference.ends.items c.loop-index.invariant
    (elim c.if-is_reference.branch [
      | then-is_reference+in_ok-push w ↦
          rw (w.ends-is) (parameter_pushed words c.loop-index.index c.in_ok-local.local c.loop-index.ends.items w.push.new.self.items c.is_reference.result
          (search rules) w.if-is_reference.true c.in_ok-local.ensures w.in_ok-push.ensures.items)
      | else-is_reference w ↦
          rw (w.ends-is) (parameter_not words c.loop-index.index c.loop-index.ends.items c.is_reference.result (search rules) w.if-is_reference.false)
    ])
