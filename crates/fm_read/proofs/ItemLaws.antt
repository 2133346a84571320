-- The items of a code array and their rules.
use Rattle.std.proofs.Common.{ℕ, ◌≤◌, List, length, arith, subst, Option, Some, None, IsSomeAnd}
use Rattle.std.proofs.Math.ListN.{get_or-eq_default}
use Rattle.fm_code.specs.ConstantPool.{MemberName, interface_method_ref_at}
use Rattle.fm_code.specs.Operands.{TakesWords}
use Rattle.fm_code.specs.declared.constant_pool.Entry.{Entry}
use Rattle.fm_code.specs.declared.code_array.Item.{Item}
use Rattle.fm_read.specs.inner.Items.{TakesCounted}

-- no method takes no words
takes_some : (descriptor : List ℕ) → TakesWords 0 descriptor → ⊥
takes_some descriptor (m, (is, (same, words))) = omega arith

none_takes : (o : Option MemberName) → IsSomeAnd o (λ m. TakesWords 0 m.descriptor) → ⊥
none_takes None takes = takes
none_takes (Some m) takes = takes_some m.descriptor takes

-- an item without the byte for the words takes none
pub takes_not_counted : (entries : List Entry) (item : Item) (index : ℕ) → length item.bytes ≤ 3 → TakesCounted entries item index → ⊥
takes_not_counted entries item index short takes =
    none_takes (interface_method_ref_at entries index)
    (subst (λ (words : ℕ). IsSomeAnd (interface_method_ref_at entries index) (λ m. TakesWords words m.descriptor)) (get_or-eq_default item.bytes 0 short) takes)
