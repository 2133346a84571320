use Rattle.std.proofs.Common.{inl, refl}
use Rattle.std.proofs.lemmas.Result.{err_from_is_err_and}
use Rattle.freeme.proofs.JobLemmas.{cut_off, freed_in, lent_apart, lent_counted, lent_named, lent_spelled}
use Rattle.freeme.proofs.freeing.write_freed.Goals as goal

pub freed_classes-requires : goal.freed_classes-requires
freed_classes-requires g c = c.requires.judged

pub returns-in_err-made-clause-keeps : goal.returns-in_err-made-clause-keeps
returns-in_err-made-clause-keeps g c = record { faults = λ name. refl; widest = λ name. refl; calls = refl }

pub returns-in_err-made-clause-comes : goal.returns-in_err-made-clause-comes
returns-in_err-made-clause-comes g c =
    let handed = err_from_is_err_and c.from_residual.result c.from_residual.ensures.1 in
    rw (handed.1, handed.2) (inl (c.in_err-made.ensures, refl))

pub class_lines-requires-clause-named : goal.class_lines-requires-clause-named
class_lines-requires-clause-named g c = lent_named c.requires.judged c.requires.short c.in_ok-made.ensures c.deref-written.ensures.value

pub class_lines-requires-clause-one_each : goal.class_lines-requires-clause-one_each
class_lines-requires-clause-one_each g c =
    lent_counted c.requires.judged c.requires.short c.in_ok-made.ensures c.deref-written.ensures.value c.deref-counts.ensures.value

pub returns-in_err-lines-clause-keeps : goal.returns-in_err-lines-clause-keeps
returns-in_err-lines-clause-keeps g c = record { faults = λ name. refl; widest = λ name. refl; calls = refl }

pub returns-in_err-lines-clause-comes : goal.returns-in_err-lines-clause-comes
returns-in_err-lines-clause-comes g c =
    let handed = err_from_is_err_and c.from_residual-in_err-lines.result c.from_residual-in_err-lines.ensures.1 in
    rw (handed.1, handed.2) (inl (tt, refl))

pub write_classes-requires-clause-spelled : goal.write_classes-requires-clause-spelled
write_classes-requires-clause-spelled g c = lent_spelled c.requires.judged c.requires.short c.in_ok-made.ensures c.deref-written.ensures.value

pub write_classes-requires-clause-apart : goal.write_classes-requires-clause-apart
write_classes-requires-clause-apart g c = lent_apart c.requires.judged c.requires.short c.in_ok-made.ensures c.deref-written.ensures.value

pub returns-in_err-write_classes-clause-keeps : goal.returns-in_err-write_classes-clause-keeps
returns-in_err-write_classes-clause-keeps g c = c.write_classes.ensures.keeps

pub returns-in_err-write_classes-clause-comes : goal.returns-in_err-write_classes-clause-comes
returns-in_err-write_classes-clause-comes g c =
    let handed = err_from_is_err_and c.from_residual-in_err-write_classes.result c.from_residual-in_err-write_classes.ensures.1 in
    rw (handed.1, handed.2)
    (cut_off c.requires.judged c.requires.short c.in_ok-made.ensures c.deref-written.ensures.value c.in_err-write_classes.field-0.0 c.in_err-write_classes.ensures.comes)

pub returns-clause-keeps : goal.returns-clause-keeps
returns-clause-keeps g c = c.write_classes.ensures.keeps

pub returns-clause-comes : goal.returns-clause-comes
returns-clause-comes g c =
    freed_in c.requires.judged c.requires.short c.in_ok-made.ensures c.deref-written.ensures.value c.in_ok-lines.lines c.deref-counts.ensures.value c.in_ok-lines.ensures
    c.in_ok-write_classes.ensures.comes
