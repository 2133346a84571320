use Rattle.std.proofs.Common.{◌+◌, List, ℕ, Some, get_or, drop, sym, ap, ◌∙◌}
use Rattle.std.proofs.Math.ListN.{drop_of_length-le}
use Rattle.std.proofs.lemmas.Result.{err_from_is_err_and}
use Rattle.fm_decode.specs.inner.Targets.{number_in, numbers_of}
use Rattle.fm_decode.proofs.GivesLemmas.{fails_from}
use Rattle.fm_decode.proofs.SwitchesLoops.{behind}
use Rattle.fm_decode.proofs.TargetsLemmas.{next_target, numbers_more, numbers_none, numbers_end}
use Rattle.fm_decode.proofs.targets.ItemStarts.numbers_of.Goals as goal

pub returns-in_err-number_of : goal.returns-in_err-number_of
returns-in_err-number_of c =
    let p = err_from_is_err_and c.from_residual-in_err-number_of.result c.from_residual-in_err-number_of.ensures.1 in
    let numbers = c.args.self.now.numbers.items in
    let targets = c.args.targets.now in
    let k = c.loop-target.target-index in
    let so_far = c.loop-target.invariant ∙ ap (λ (ts : List ℕ). behind c.loop-target.numbers.items (numbers_of numbers ts)) (next_target targets k c.loop-target-test.true) in
    rw (p.1, p.2)
    (fails_from c.in_err-number_of.field-0.0 (number_in numbers (get_or targets k 0)) (numbers_of numbers targets)
    (λ none. numbers_none numbers (numbers_of numbers targets) c.loop-target.numbers.items (get_or targets k 0) (drop (k + 1) targets) so_far none)
    c.in_err-number_of.ensures)

pub loop-target-preserved : goal.loop-target-preserved
loop-target-preserved c =
    let numbers = c.args.self.now.numbers.items in
    let targets = c.args.targets.now in
    let k = c.loop-target.target-index in
    let so_far = c.loop-target.invariant ∙ ap (λ (ts : List ℕ). behind c.loop-target.numbers.items (numbers_of numbers ts)) (next_target targets k c.loop-target-test.true) in
    rw c.in_ok-push.ensures.items
    (numbers_more numbers (numbers_of numbers targets) c.loop-target.numbers.items (get_or targets k 0) (drop (k + 1) targets) c.in_ok-number_of.field-0 so_far c.in_ok-number_of.ensures)

pub returns : goal.returns
returns c =
    let numbers = c.args.self.now.numbers.items in
    let targets = c.args.targets.now in
    let so_far = c.loop-target.invariant
    ∙ ap (λ (ts : List ℕ). behind c.loop-target.numbers.items (numbers_of numbers ts)) (drop_of_length-le targets c.loop-target-test.false) in
    numbers_end numbers (numbers_of numbers targets) c.loop-target.numbers.items so_far ∙ ap Some (sym c.in_ok-new.ensures)
