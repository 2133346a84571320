-- An old item is woven.
use Rattle.std.proofs.Common.{◌≡◌, List, ◌++◌, ap, ◌∙◌, append_assoc}
use Rattle.fm_layout.specs.declared.new_items.NewItem.{NewItem}

-- what is inserted before an item, the item, and what is inserted after it, one after the other
pub joined : (before kept after front one two three : List NewItem) → one ≡ front ++ before → two ≡ one ++ kept → three ≡ two ++ after
    → three ≡ front ++ (before ++ (kept ++ after))
joined before kept after front one two three a b c =
    c ∙ ap (λ l. l ++ after) (b ∙ ap (λ l. l ++ kept) a) ∙ append_assoc (front ++ before) kept after ∙ append_assoc front before (kept ++ after)
