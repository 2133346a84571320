-- Offsets of items.
use Rattle.std.proofs.Common.{◌≡◌, ℕ, zero, suc, ◌<◌, ◌≤◌, List, [], ◌∷◌, length, get_or, refl, arith}
use Rattle.fm_code.specs.ClassBytes.{offset_in}
use Rattle.fm_code.specs.declared.code_array.Item.{Item}

-- the offset of the item at an index
pub offset_in-item : (items : List Item) (end index : ℕ) (item : Item) → index < length items → item ≡ get_or items index item → item.offset ≡ offset_in items end index
offset_in-item [] end index item within e = absurd (omega arith)
offset_in-item (first ∷ items) end zero item within e = λ k. (e k).offset
offset_in-item (first ∷ items) end (suc index) item within e = offset_in-item items end index item (omega arith) e

-- past the last one
pub offset_in-past : (items : List Item) (end index : ℕ) → length items ≤ index → end ≡ offset_in items end index
offset_in-past [] end index past = refl
offset_in-past (first ∷ items) end zero past = absurd (omega arith)
offset_in-past (first ∷ items) end (suc index) past = offset_in-past items end index (omega arith)
