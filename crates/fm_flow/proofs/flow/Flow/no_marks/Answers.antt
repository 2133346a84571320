use Rattle.std.proofs.Common.{◌≡◌, Bool, List, false, replicate, sym, subst}
use Rattle.std.proofs.lemmas.Result.{IfOk-weaker}
use Rattle.fm_flow.proofs.RunLemmas.{Covers-none}
use Rattle.fm_flow.specs.Flow.{IsMarkedBy}
use Rattle.fm_flow.specs.Marking.{Covers}
use Rattle.fm_flow.proofs.flow.Flow.no_marks.Goals as goal

pub run_count-requires : goal.run_count-requires
run_count-requires c = c.requires.few

pub returns : goal.returns
returns c =
    let caught = c.args.self.now.edges.caught in
    IfOk-weaker c.new.result (λ done. done ≡ replicate c.run_count.result false) (λ done. (row : List Bool) → IsMarkedBy c.args.self.now done row)
    (λ done is row. subst (λ (bits : List Bool). Covers caught bits row) (sym is) (Covers-none caught c.run_count.result row c.run_count.ensures))
    c.new.ensures
