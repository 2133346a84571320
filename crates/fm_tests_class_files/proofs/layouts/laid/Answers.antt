use Rattle.std.proofs.Common.{◌∙◌, List, subst, sym}
use Rattle.fm_code.specs.declared.code_array.Item.{Item}
use Rattle.fm_layout.proofs.ExampleLemmas.{popped_old_ready, popped_new_ready}
use Rattle.fm_layout.specs.Conditions.{AreNewItems, AreOldItems}
use Rattle.fm_layout.specs.Example.{popped_old}
use Rattle.fm_layout.specs.declared.new_items.NewItem.{NewItem}
use Rattle.fm_tests_class_files.proofs.layouts.laid.Goals as goal

pub layout-requires : goal.layout-requires
layout-requires c =
    let old = c.as_slice.ensures.value ∙ c.in_ok-old.ensures in
    let items = c.as_slice-2.ensures.value ∙ c.in_ok-items.ensures in
    record {
      old_items = subst (λ (xs : List Item). AreOldItems xs) (sym old) popped_old_ready;
      new_items = subst (λ (xs : List Item). AreNewItems xs c.as_slice-2.result.now) (sym old) (subst (λ (xs : List NewItem). AreNewItems popped_old xs) (sym items) popped_new_ready);
    }
