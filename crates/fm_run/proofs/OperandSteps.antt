-- What the operands of quick code stand for.
use Rattle.std.proofs.Common.{◌≡◌, ℕ, ◌+◌, nat_lt, Bool, true, false, cond, Option, Some, None, refl, sym, ap, ◌∙◌}
use Rattle.std.proofs.lemmas.Option.{none-some, same_Some}
use Rattle.fm_base.specs.declared.ids.MethodId.{MethodId}
use Rattle.fm_base.specs.declared.ids.TypeId.{TypeId}
use Rattle.fm_base.specs.declared.kinds.Kind.{Kind}
use Rattle.fm_base.specs.declared.kinds.Kind.TheVariants as kind
use Rattle.fm_base.specs.declared.kinds.TypeRef.{TypeRef}
use Rattle.fm_run.specs.declared.quick.Quick.{Quick}
use Rattle.fm_run.specs.declared.quick.Quick.TheVariants as quick
use Rattle.fm_run.specs.inner.Operands.{as_byte, as_short, getfield_at, getstatic_at, putfield_at, special_at, static_at, virtual_at}

-- ---- numbers that there is room for

if_some : (b : Bool) (n m : ℕ) → cond b (Some n) None ≡ Some m → n ≡ m
if_some true n m is = same_Some n m is
if_some false n m is = absurd (none-some m is)

pub short-is : (n place : ℕ) → as_short n ≡ Some place → n ≡ place
short-is n place is = if_some (nat_lt n 65536) n place is

pub byte-is : (n words : ℕ) → as_byte n ≡ Some words → n ≡ words
byte-is n words is = if_some (nat_lt n 256) n words is

-- ---- the quick code of an instruction that names something: what holds of each that it may be

pub by_getfield : (P : Quick → Type 0) (k : Kind) (named : TypeId) (index : ℕ) (at : Option ℕ) → P (quick.Getfield index)
    → ((place : ℕ) → at ≡ Some place → k ≡ kind.Int → P (quick.GetfieldInt place named))
    → ((place : ℕ) → at ≡ Some place → (t : TypeRef) → k ≡ kind.Ref t → P (quick.GetfieldRef place named)) → P (getfield_at k named index at)
by_getfield P k named index None other int reference = other
by_getfield P kind.Int named index (Some place) other int reference = int place refl refl
by_getfield P (kind.Ref t) named index (Some place) other int reference = reference place refl t refl
by_getfield P k named index (Some place) other int reference = other

pub by_putfield : (P : Quick → Type 0) (k : Kind) (named : TypeId) (index : ℕ) (at : Option ℕ) → P (quick.Putfield index)
    → ((place : ℕ) → at ≡ Some place → k ≡ kind.Int → P (quick.PutfieldInt place named))
    → ((place : ℕ) → at ≡ Some place → (t : TypeRef) → k ≡ kind.Ref t → P (quick.PutfieldRef place named)) → P (putfield_at k named index at)
by_putfield P k named index None other int reference = other
by_putfield P kind.Int named index (Some place) other int reference = int place refl refl
by_putfield P (kind.Ref t) named index (Some place) other int reference = reference place refl t refl
by_putfield P k named index (Some place) other int reference = other

pub by_getstatic : (P : Quick → Type 0) (k : Kind) (class index : ℕ) (at : Option ℕ) → P (quick.Getstatic index)
    → ((place : ℕ) → at ≡ Some place → k ≡ kind.Int → P (quick.GetstaticInt place class))
    → ((place : ℕ) → at ≡ Some place → (t : TypeRef) → k ≡ kind.Ref t → P (quick.GetstaticRef place class)) → P (getstatic_at k class index at)
by_getstatic P k class index None other int reference = other
by_getstatic P kind.Int class index (Some place) other int reference = int place refl refl
by_getstatic P (kind.Ref t) class index (Some place) other int reference = reference place refl t refl
by_getstatic P k class index (Some place) other int reference = other

pub by_static : (P : Quick → Type 0) (m : MethodId) (at : Option ℕ) → P quick.Other → ((words : ℕ) → at ≡ Some words → P (quick.Invokestatic words m))
    → P (static_at m at)
by_static P m None other call = other
by_static P m (Some words) other call = call words refl

pub by_special : (P : Quick → Type 0) (target : ℕ) (at : Option ℕ) → P quick.Other
    → ((words : ℕ) → at ≡ Some words → P (quick.Invokespecial words target)) → P (special_at target at)
by_special P target None other call = other
by_special P target (Some words) other call = call words refl

pub by_virtual : (P : Quick → Type 0) (m : MethodId) (type at : Option ℕ) → P quick.Other
    → ((named words : ℕ) → type ≡ Some named → at ≡ Some words → P (quick.Invokevirtual words named m)) → P (virtual_at m type at)
by_virtual P m None at other call = other
by_virtual P m (Some named) None other call = other
by_virtual P m (Some named) (Some words) other call = call named words refl refl
