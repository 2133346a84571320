-- The places of a class that is spelled have names.
use Rattle.std.proofs.Common.{◌≡◌, ℕ, List, Option, Some, IsSome, IsSomeAnd}
use Rattle.std.specs.List.{slice_get}
use Rattle.fm_base.proofs.ListFacts.{AllByRecursion-at}
use Rattle.fm_base.proofs.OptionFacts.{Some-from_some_and, IsSome-from_some, IsSomeAnd-from_some}
use Rattle.fm_code.specs.AccessFlags.{is_interface}
use Rattle.fm_code.specs.ConstantPool.{utf8_at}
use Rattle.fm_code.specs.Members.{FieldIsValid, MethodIsValid}
use Rattle.fm_code.specs.Profile.{IsFirstOverLimit, IsFirstUnsupported}
use Rattle.fm_code.specs.Spells.{Spells}
use Rattle.fm_code.specs.declared.constant_pool.Entry.{Entry}
use Rattle.fm_code.specs.declared.class_file.ClassDef.{ClassDef}
use Rattle.fm_code.specs.declared.class_file.Member.{Member}
use Rattle.fm_code.specs.declared.profile.Place.{Place}
use Rattle.fm_code.specs.declared.profile.Place.TheVariants as place
use Rattle.fm_code.specs.declared.profile.OverLimit.{OverLimit}
use Rattle.fm_load.specs.ClassRefusal.{HasNameAt, PlaceHasName}

-- what is there and has a property is there
there : {X : Type 0} (o : Option X) (P : X → Type 0) → IsSomeAnd o P → IsSome o
there o P holds = let found = Some-from_some_and o P holds in IsSome-from_some o found.0 found.1

-- a member that is there has a name, where all members have one
name_at : (entries : List Entry) (members : List Member) (index : ℕ) (P : Member → Type 0) → ((k : ℕ) (m : Member) → slice_get members k ≡ Some m → IsSome (utf8_at entries m.name)) →
    IsSomeAnd (slice_get members index) P → HasNameAt entries members index
name_at entries members index P named holds =
    let found = Some-from_some_and (slice_get members index) P holds in
    IsSomeAnd-from_some (slice_get members index) (λ m. IsSome (utf8_at entries m.name)) found.0 found.1 (named index found.0 found.1)

fields_named : (bytes : List ℕ) (c : ClassDef) → Spells bytes c → (k : ℕ) (m : Member) → slice_get c.fields k ≡ Some m → IsSome (utf8_at c.pool.entries m.name)
fields_named bytes c spells k m at =
    let valid = AllByRecursion-at (FieldIsValid (is_interface c.flags) c.pool.entries) c.fields k m spells.fields at in there (utf8_at c.pool.entries m.name) _ valid.name

methods_named : (bytes : List ℕ) (c : ClassDef) → Spells bytes c → (k : ℕ) (m : Member) → slice_get c.methods k ≡ Some m → IsSome (utf8_at c.pool.entries m.name)
methods_named bytes c spells k m at =
    let valid = AllByRecursion-at (MethodIsValid (is_interface c.flags) c.pool.entries) c.methods k m spells.methods at in there (utf8_at c.pool.entries m.name) _ valid.name

-- the first method above a limit has a name
pub method_has_name : (bytes : List ℕ) (c : ClassDef) (over : OverLimit) → Spells bytes c → IsFirstOverLimit c over → HasNameAt c.pool.entries c.methods over.method
method_has_name bytes c over spells first = name_at c.pool.entries c.methods over.method _ (methods_named bytes c spells) first.there

-- and so has the first place that isn't supported
pub place_has_name : (bytes : List ℕ) (c : ClassDef) (at : Place) (offset : ℕ) → Spells bytes c → IsFirstUnsupported c (record { place = at; offset = offset }) → PlaceHasName c at
place_has_name bytes c place.OfClass offset spells first = tt
place_has_name bytes c (place.OfField index) offset spells first = name_at c.pool.entries c.fields index _ (fields_named bytes c spells) first.0.there
place_has_name bytes c (place.OfMethod index) offset spells first = name_at c.pool.entries c.methods index _ (methods_named bytes c spells) first.there
place_has_name bytes c place.OfPool offset spells first = tt
