use Rattle.std.specs.List.{AllByRecursion}
use Rattle.fm_summ_shapes.specs.Analysed.{IsAccepted}
use Rattle.fm_tests_linked.proofs.analysis.classes_of.Given as goal

abbrev pub invariant-loop-bytes : goal.invariant-loop-bytes
invariant-loop-bytes l = AllByRecursion IsAccepted l.classes.items
