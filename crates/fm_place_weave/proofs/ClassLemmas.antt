-- When the entries of FreeMe.free have room in a pool.
use Rattle.std.proofs.Common.{◌≡◌, ℕ, ◌<◌, ◌≤◌, List, length, Bool, true, false, Err, Ok, Result, refl}
use Rattle.std.specs.Prelude.{◌↔◌, nat_lt}
use Rattle.std.proofs.lemmas.Bool.{ltb-false, ltb-true}
use Rattle.fm_code.specs.declared.constant_pool.Entry.{Entry}
use Rattle.fm_pool.specs.declared.error.AddFail.{AddFail}
use Rattle.fm_pool.specs.declared.error.AddFail.TheVariants as add_fail
use Rattle.fm_place_weave.specs.ClassByPlan.{IsFull}

-- what is refused is full
pub full_from : (entries : List Entry) (result : Result ℕ AddFail) (e : AddFail) → result ≡ Err e
    → ((n : ℕ) → (result ≡ Err (add_fail.Full n)) ↔ ((65535 < length entries) × (n ≡ length entries))) → IsFull entries e
full_from entries result (add_fail.Full n) is exactly = (exactly n).0 is
full_from entries result add_fail.NoMemory is exactly = tt

-- and what isn't refused has room
pub room_from : (entries : List Entry) (result : Result ℕ AddFail) (index : ℕ) → result ≡ Ok index
    → ((n : ℕ) → (result ≡ Err (add_fail.Full n)) ↔ ((65535 < length entries) × (n ≡ length entries))) → length entries ≤ 65535
room_from entries result index is exactly = go (nat_lt 65535 (length entries)) refl where
  go : (b : Bool) → nat_lt 65535 (length entries) ≡ b → length entries ≤ 65535
  go true e = let refused : result ≡ Err (add_fail.Full (length entries)) = (exactly (length entries)).1 (ltb-true 65535 (length entries) e, refl) in cc
  go false e = ltb-false 65535 (length entries) e
