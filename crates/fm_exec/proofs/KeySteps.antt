-- The keys of a lookupswitch, where the code names the key in another way.
use Rattle.std.proofs.Common.{◌≡◌, ℕ, ℤ, List, ◌∷◌, length, min, take, position, get_or, Some, None, slice_get, subst}
use Rattle.std.specs.Ordering.{int_eq}
use Rattle.fm_exec.proofs.PlainSteps.{key-found, key-missing}
use Rattle.fm_frames.specs.JumpRows.{key_target}

-- the item of a key among this many keys and targets
abbrev Leads : List ℤ → List ℕ → ℕ → ℕ → ℤ → Type 0
Leads keys targets others item key =
    slice_get (others ∷ targets) (key_target (position (int_eq key) (take (length targets) keys))) ≡ Some item

pub key-known : (key k : ℤ) (keys : List ℤ) (others item : ℕ) (targets : List ℕ)
    → slice_get (others ∷ targets) (key_target (position (int_eq k) (take (length targets) keys))) ≡ Some item → k ≡ key
    → slice_get (others ∷ targets) (key_target (position (int_eq key) (take (length targets) keys))) ≡ Some item
key-known key k keys others item targets leads same = subst (Leads keys targets others item) same leads

pub found-of : (key k : ℤ) (keys : List ℤ) (others few place d : ℕ) (targets : List ℕ) → few ≡ min (length targets) (length keys)
    → Some place ≡ position (int_eq k) (take few keys) → k ≡ key
    → slice_get (others ∷ targets) (key_target (position (int_eq key) (take (length targets) keys))) ≡ Some (get_or targets place d)
found-of key k keys others few place d targets many is same =
    key-known key k keys others (get_or targets place d) targets (key-found (int_eq k) keys others few place d targets many is) same

pub missing-of : (key k : ℤ) (keys : List ℤ) (others few : ℕ) (targets : List ℕ) → few ≡ min (length targets) (length keys)
    → None ≡ position (int_eq k) (take few keys) → k ≡ key
    → slice_get (others ∷ targets) (key_target (position (int_eq key) (take (length targets) keys))) ≡ Some others
missing-of key k keys others few targets many is same =
    key-known key k keys others others targets (key-missing (int_eq k) keys others few targets many is) same
