-- Numbers for the texts of a constant pool.
use Rattle.std.specs.Prelude.{◌≡◌, ◌↔◌, ℕ, List, [], ◌∷◌, slice_index}
use Rattle.std.specs.List.{AllByRecursion}
use Rattle.fm_code.specs.ConstantPool.{utf8_at}
use Rattle.fm_code.specs.declared.constant_pool.Entry.{Entry}
use Rattle.fm_code.specs.declared.class_file.Member.{Member}

-- two indices have one number exactly where they have one text, or both have none
abbrev pub NumbersTexts : List Entry → List ℕ → Type 0
NumbersTexts entries numbers = (i j : ℕ) → (slice_index numbers i ≡ slice_index numbers j) ↔ (utf8_at entries i ≡ utf8_at entries j)

-- two members that differ in the numbers of their names or of their descriptors
abbrev pub AreKeysDifferent : List ℕ → Member → Member → Type 0
AreKeysDifferent numbers m n = ¬ ((slice_index numbers m.name ≡ slice_index numbers n.name) × (slice_index numbers m.descriptor ≡ slice_index numbers n.descriptor))

-- each member differs so from each later one
abbrev pub AreKeysDistinct : List ℕ → List Member → Type 0
AreKeysDistinct numbers [] = Unit {0}
AreKeysDistinct numbers (m ∷ members) = AllByRecursion (AreKeysDifferent numbers m) members × AreKeysDistinct numbers members
