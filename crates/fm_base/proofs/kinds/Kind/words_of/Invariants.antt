use Rattle.std.proofs.Common.{◌≡◌, ◌*◌, ◌≤◌, take, sum_by}
use Rattle.fm_base.specs.Kinds.{kind_words}
use Rattle.fm_base.proofs.kinds.Kind.words_of.Given as goal

abbrev pub invariant-loop-kind : goal.invariant-loop-kind
invariant-loop-kind l = record { sum : l.words ≡ sum_by kind_words (take l.kind-index l.kinds); few : l.words ≤ 2 * l.kind-index }
