-- Why a class file is refused by its bytes, and how that is reported.
use Rattle.std.specs.Prelude.{◌≡◌, ℕ, List, [], ◌∷◌, ◌++◌, codes, IsSome, Some, IsSomeAnd, slice_get}
use Rattle.std.specs.Fmt.{decimal}
use Rattle.fm_code.specs.ConstantPool.{utf8_at}
use Rattle.fm_code.specs.Profile.{IsAcceptedVersion, HasOtherVersion, IsMalformed, IsFirstOverLimit, IsWithinLimits, IsFirstUnsupported}
use Rattle.fm_code.specs.Spells.{Spells}
use Rattle.fm_code.specs.declared.constant_pool.Entry.{Entry}
use Rattle.fm_code.specs.declared.class_file.ClassDef.{ClassDef}
use Rattle.fm_code.specs.declared.class_file.Member.{Member}
use Rattle.fm_code.specs.declared.profile.What.{What}
use Rattle.fm_code.specs.declared.profile.What.TheVariants as what
use Rattle.fm_code.specs.declared.profile.Place.{Place}
use Rattle.fm_code.specs.declared.profile.Place.TheVariants as place
use Rattle.fm_cli.specs.Printed.{printed}
use Rattle.fm_cli.specs.declared.status.TheConstants.{MALFORMED, VERSION, LIMIT, UNSUPPORTED}
use Rattle.fm_load.specs.declared.class_refusal.ClassRefusal.{ClassRefusal}
use Rattle.fm_load.specs.declared.class_refusal.ClassRefusal.TheVariants as refused
use Rattle.fm_load.specs.declared.judging.ClassFail.{ClassFail}
use Rattle.fm_load.specs.declared.judging.ClassFail.TheVariants as class_fail

-- ---- names

-- the field or the method at this index has this name
abbrev pub IsNameAt : List Entry → List Member → ℕ → List ℕ → Type 0
IsNameAt entries members index name = IsSomeAnd (slice_get members index) (λ m. utf8_at entries m.name ≡ Some name)

-- a place is reported by the name of the field or the method, by the word class where it is the class's own name, and by the word
-- pool where it is an entry of the constant pool
abbrev pub IsPlaceName : ClassDef → Place → List ℕ → Type 0
IsPlaceName c place.OfClass name = name ≡ codes "class"
IsPlaceName c (place.OfField index) name = IsNameAt c.pool.entries c.fields index name
IsPlaceName c (place.OfMethod index) name = IsNameAt c.pool.entries c.methods index name
IsPlaceName c place.OfPool name = name ≡ codes "pool"

-- there is such a name
abbrev pub HasNameAt : List Entry → List Member → ℕ → Type 0
HasNameAt entries members index = IsSomeAnd (slice_get members index) (λ m. IsSome (utf8_at entries m.name))

-- the field or the method in a place has a name
abbrev pub PlaceHasName : ClassDef → Place → Type 0
PlaceHasName c place.OfClass = Unit {0}
PlaceHasName c (place.OfField index) = HasNameAt c.pool.entries c.fields index
PlaceHasName c (place.OfMethod index) = HasNameAt c.pool.entries c.methods index
PlaceHasName c place.OfPool = Unit {0}

-- ---- causes

-- the method of this name is the first with a count above its limit, and this is its first such count
pub record IsOverLimit (c : ClassDef) (kind : What) (name : List ℕ) (count : ℕ) : Type 0 where
  pub method : ℕ
  pub first : IsFirstOverLimit c (record { what = kind; method = method; count = count })
  pub named : IsNameAt c.pool.entries c.methods method name

-- all counts are within their limits, and the first place that isn't supported has this name and this offset
pub record IsUnsupported (c : ClassDef) (name : List ℕ) (offset : ℕ) : Type 0 where
  pub limits : IsWithinLimits c
  pub place : Place
  pub first : IsFirstUnsupported c (record { place = place; offset = offset })
  pub named : IsPlaceName c place name

-- the bytes spell such a record of an accepted version
abbrev pub SpellSuch : List ℕ → (ClassDef → Type 0) → Type 0
SpellSuch bytes P = (c : ClassDef) × Spells bytes c × IsAcceptedVersion c.major c.minor × P c

-- the bytes are refused so: no record spells them, or their version isn't accepted, or a count of a method is above its limit, or a place isn't
-- supported, in this order
abbrev pub IsRefusedAs : List ℕ → ClassRefusal → Type 0
IsRefusedAs bytes refused.Malformed = IsMalformed bytes
IsRefusedAs bytes (refused.Version major minor) = HasOtherVersion bytes major minor
IsRefusedAs bytes (refused.Limit kind name count) = SpellSuch bytes (λ c. IsOverLimit c kind name count)
IsRefusedAs bytes (refused.Unsupported name offset) = SpellSuch bytes (λ c. IsUnsupported c name offset)

-- why there is no class of these bytes; want of memory needs no cause
abbrev pub FailsByBytes : List ℕ → ClassFail → Type 0
FailsByBytes bytes (class_fail.Refused refusal) = IsRefusedAs bytes refusal
FailsByBytes bytes class_fail.NoMemory = Unit {0}

-- why a record of an accepted version is refused
abbrev pub FailsByRecord : ClassDef → ClassFail → Type 0
FailsByRecord c (class_fail.Refused (refused.Limit kind name count)) = IsOverLimit c kind name count
FailsByRecord c (class_fail.Refused (refused.Unsupported name offset)) = IsUnsupported c name offset
FailsByRecord c (class_fail.Refused refused.Malformed) = ⊥
FailsByRecord c (class_fail.Refused (refused.Version major minor)) = ⊥
FailsByRecord c class_fail.NoMemory = Unit {0}

-- ---- lines and statuses

-- the word for a count
abbrev pub count_word : What → List ℕ
count_word what.Stack = codes "stack"
count_word what.Locals = codes "locals"
count_word what.Handlers = codes "handlers"

-- the line of a class file that is refused, with its line end
abbrev pub class_refusal_line : List ℕ → ClassRefusal → List ℕ
class_refusal_line file refused.Malformed = codes "refused: malformed " ++ (file ++ 10 ∷ [])
class_refusal_line file (refused.Version major minor) =
    codes "refused: version " ++ (file ++ (codes " " ++ (decimal major ++ (codes "." ++ (decimal minor ++ 10 ∷ [])))))
class_refusal_line file (refused.Limit kind name count) =
    codes "refused: limit " ++ (count_word kind ++ (codes " " ++ (file ++ (codes " " ++ (printed name ++ (codes " " ++ (decimal count ++ 10 ∷ [])))))))
class_refusal_line file (refused.Unsupported name offset) =
    codes "refused: unsupported " ++ (file ++ (codes " " ++ (printed name ++ (codes " " ++ (decimal offset ++ 10 ∷ [])))))

-- its status
abbrev pub class_refusal_status : ClassRefusal → ℕ
class_refusal_status refused.Malformed = MALFORMED
class_refusal_status (refused.Version major minor) = VERSION
class_refusal_status (refused.Limit kind name count) = LIMIT
class_refusal_status (refused.Unsupported name offset) = UNSUPPORTED
