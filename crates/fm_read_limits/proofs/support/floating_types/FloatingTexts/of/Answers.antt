use Rattle.std.proofs.Common.{refl, subst, ◌<◌, length, ◌∙◌, arith, List}
use Rattle.std.proofs.lemmas.List.{length-set, take_all}
use Rattle.fm_code.specs.declared.constant_pool.Entry.{Entry}
use Rattle.fm_read_limits.specs.inner.FloatingTypes.{AreMarks}
use Rattle.fm_read_limits.proofs.MarkLemmas.{no_marks, next_mark}
use Rattle.fm_read_limits.proofs.support.floating_types.FloatingTexts.of.Goals as goal

pub loop-index-init : goal.loop-index-init
loop-index-init c = record { size = refl; marked = no_marks 65536 }

pub loop-index-preserved : goal.loop-index-preserved
loop-index-preserved c =
    let w = c.loop-index in
    let within : w.index < length w.marks = omega (arith, c.requires, c.loop-index-test.true, w.invariant.size) in
    record {
      size = length-set w.marks w.index c.is_floating_text.result ∙ w.invariant.size;
      marked = next_mark c.args.entries.now w.marks w.index c.index-entries-index.result c.is_floating_text.result c.loop-index-test.true within c.index-entries-index.is c.is_floating_text.ensures w.invariant.marked;
    }

pub returns : goal.returns
returns c = subst (λ (entries : List Entry). AreMarks entries c.loop-index.marks) (take_all c.loop-index.index c.args.entries.now c.loop-index-test.false) c.loop-index.invariant.marked
