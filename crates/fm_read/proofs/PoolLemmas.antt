-- The constant pool at the front of bytes.
use Rattle.std.proofs.Common.{◌≡◌, ℕ, List, length, take, drop, refl, sym, ap, subst, ◌∙◌}
use Rattle.std.proofs.lemmas.List.{take_at, drop_at}
use Rattle.fm_code.specs.ClassBytes.{pool_bytes}
use Rattle.fm_code.specs.ConstantPool.{SpellsPool}
use Rattle.fm_code.specs.Fits.{AreBytes}
use Rattle.fm_code.specs.declared.constant_pool.Pool.{Pool}
use Rattle.fm_code.proofs.Bytes.{AreBytes-drop}
use Rattle.fm_code.proofs.PoolPrefixes.{Cancels-pool}
use Rattle.fm_read.specs.inner.ClassParts.{StartsWithPool}

-- a pool at the front is spelled by the bytes up to its length
pub prefix_spells : (bytes : List ℕ) (pool : Pool) (rest : List ℕ) → StartsWithPool bytes pool rest → SpellsPool (take (length (pool_bytes pool)) bytes) pool
prefix_spells bytes pool rest starts =
    let front : take (length (pool_bytes pool)) bytes ≡ pool_bytes pool = ap (take (length (pool_bytes pool))) starts.bytes_are ∙ take_at (pool_bytes pool) rest (length (pool_bytes pool)) refl in
    subst (λ (w : List ℕ). SpellsPool w pool) (sym front) starts.spelled

-- the bytes begin with one pool alone
pub one_pool : (bytes : List ℕ) (p q : Pool) (r s : List ℕ) → StartsWithPool bytes p r → StartsWithPool bytes q s → (p ≡ q) × (r ≡ s)
one_pool bytes p q r s first second =
    Cancels-pool p q r s (record { entries = first.spelled.fits; slots = first.spelled.slots }) (record { entries = second.spelled.fits; slots = second.spelled.slots })
    (sym first.bytes_are ∙ second.bytes_are)

-- what is after a pool in bytes is bytes
pub rest_bytes : (bytes : List ℕ) (pool : Pool) (rest : List ℕ) → AreBytes bytes → StartsWithPool bytes pool rest → AreBytes rest
rest_bytes bytes pool rest all starts =
    let after : drop (length (pool_bytes pool)) bytes ≡ rest = ap (drop (length (pool_bytes pool))) starts.bytes_are ∙ drop_at (pool_bytes pool) rest (length (pool_bytes pool)) refl in
    subst AreBytes after (AreBytes-drop (length (pool_bytes pool)) bytes all)
