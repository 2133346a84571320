-- What is known of the pool and of the members of a class that is spelled.
use Rattle.std.specs.Prelude.{◌≡◌, ℕ, List, slice_get, IsSomeAnd}
use Rattle.std.specs.List.{AllByRecursion}
use Rattle.fm_code.specs.ConstantPool.{utf8_at, EntryIsValid}
use Rattle.fm_code.specs.Members.{code_of}
use Rattle.fm_code.specs.Names.{MethodType, IsMethodType, method_descriptor, IsFieldDescriptor}
use Rattle.fm_code.specs.Profile.{IsFirstOver}
use Rattle.fm_code.specs.declared.class_file.Member.{Member}
use Rattle.fm_code.specs.declared.constant_pool.Entry.{Entry}
use Rattle.fm_code.specs.declared.profile.OverLimit.{OverLimit}

-- each entry of the pool is valid
abbrev pub PoolIsValid : List Entry → Type 0
PoolIsValid entries = AllByRecursion (EntryIsValid entries) entries

-- the descriptor of a method, however many words its arguments take
abbrev pub IsMethodText : List ℕ → Type 0
IsMethodText descriptor = (m : MethodType) × (IsMethodType m × (descriptor ≡ method_descriptor m))

-- a member has the descriptor of a field, or of a method
abbrev pub DeclaresField : List Entry → Member → Type 0
DeclaresField entries m = IsSomeAnd (utf8_at entries m.descriptor) IsFieldDescriptor

abbrev pub DeclaresMethod : List Entry → Member → Type 0
DeclaresMethod entries m = IsSomeAnd (utf8_at entries m.descriptor) IsMethodText

-- the method of this number has this count above its limit
abbrev pub IsOverAt : List Member → OverLimit → Type 0
IsOverAt methods over = IsSomeAnd (slice_get methods over.method) (λ m. IsSomeAnd (code_of m) (IsFirstOver over.what over.count))
