-- The test by which a set finds a type is that of the definitions; and types that are those of classes.
use Rattle.std.proofs.Common.{◌≡◌, refl, ap, sym, ◌∙◌, ℕ, ◌==◌, cond, Bool, List, Option, Some, None, true, false, nat_eq}
use Rattle.std.proofs.lemmas.Bool.{and_parts, eqb-true}
use Rattle.std.proofs.lemmas.Option.{same_Some}
use Rattle.std.specs.List.{position}
use Rattle.std.proofs.Math.Path.{fun_ext}
use Rattle.fm_base.specs.contracts.kinds.TypeRefPartialEq.TheImpl.{ghosts}
use Rattle.fm_base.specs.declared.kinds.Base.{Base}
use Rattle.fm_base.specs.declared.kinds.Base.TheVariants as base
use Rattle.fm_base.specs.declared.kinds.TypeRef.{TypeRef}
use Rattle.fm_world.proofs.TableLemmas.{same_base-eq}
use Rattle.fm_world.specs.Chains.{same_base, same_type}
use Rattle.fm_world.specs.Numbers.{type_number, type_of_class}
use Rattle.fm_world.specs.Programs.{class_of_type}

tested : (m n : ℕ) (b c : Base)
    → ghosts.eq (record { dims = m; base = b }) (record { dims = n; base = c })
    ≡ same_type (record { dims = m; base = b }) (record { dims = n; base = c })
tested m n base.Boolean base.Boolean = refl
tested m n base.Byte base.Byte = refl
tested m n base.Char base.Char = refl
tested m n base.Short base.Short = refl
tested m n base.Int base.Int = refl
tested m n base.Long base.Long = refl
tested m n (base.OfClass c) (base.OfClass d) = refl
tested m n b c = refl

pub tested_type : (a : TypeRef) → ghosts.eq a ≡ same_type a
tested_type a = fun_ext (λ b. tested a.dims b.dims a.base b.base)

-- the index of a type in a set is its number
pub index_of_type : (types : List TypeRef) (t : TypeRef) → position (ghosts.eq t) types ≡ type_number types t
index_of_type types t = ap (λ test. position test types) (tested_type t)

-- types that are tested to be the same are so
pub same_type-eq : (a b : TypeRef) → same_type a b ≡ true → a ≡ b
same_type-eq a b h =
    let parts = and_parts (nat_eq a.dims b.dims) (same_base a.base b.base) h in
    let first : a ≡ record a { dims = b.dims } = ap (λ n. record a { dims = n }) (eqb-true a.dims b.dims parts.0) in
    let second : record a { dims = b.dims } ≡ b = ap (λ x. record b { base = x }) (same_base-eq a.base b.base parts.1) in
    first ∙ second

pub tested_same : (a b : TypeRef) → ghosts.eq a b ≡ true → a ≡ b
tested_same a b h = same_type-eq a b (sym (ap (λ test. test b) (tested_type a)) ∙ h)

-- a type with a class is the type of that class
pub class_type : (t : TypeRef) (class : ℕ) → class_of_type t ≡ Some class → t ≡ type_of_class class
class_type t class is = by_type t.dims t.base (t.dims == 0) refl is where
  of_base : Base → Option ℕ
  of_base (base.OfClass c) = Some c.0
  of_base b = None

  by_type : (dims : ℕ) (b : Base) (test : Bool) → (dims == 0) ≡ test → cond test (of_base b) None ≡ Some class
      → record { dims = dims; base = b } ≡ type_of_class class
  by_type dims (base.OfClass c) true none h =
      ap (λ n. record { dims = n; base = base.OfClass c }) (eqb-true dims 0 none) ∙ ap type_of_class (same_Some c.0 class h)
  by_type dims b true none h = absurd (cc)
  by_type dims b false none h = absurd (cc)
