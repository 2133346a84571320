use Rattle.std.proofs.Common.{◌≡◌, List, subst, sym, ◌∙◌}
use Rattle.std.specs.List.{AllByRecursion}
use Rattle.fm_base.proofs.TestFacts.{refuted}
use Rattle.fm_code.specs.declared.code_array.Item.{Item}
use Rattle.fm_code.proofs.CodeItems.{one_code}
use Rattle.fm_read.specs.inner.Items.{ItemIsValid}
use Rattle.fm_read.proofs.code.items_of.Goals as goal

pub returns-else-items_are_valid-clause-malformed : goal.returns-else-items_are_valid-clause-malformed
returns-else-items_are_valid-clause-malformed c = λ e items are.
    let valid : List Item → _ = AllByRecursion (ItemIsValid c.args.known.now.entries c.args.max_locals) in
    let same : items ≡ c.as_slice.result.now = one_code c.args.code.now items c.in_ok-items.items.items are.spelled c.in_ok-items.ensures.found ∙ sym c.as_slice.ensures.value in
    refuted c.items_are_valid.result (valid c.as_slice.result.now) c.items_are_valid.ensures c.if-items_are_valid.false (subst valid same are.valid)
