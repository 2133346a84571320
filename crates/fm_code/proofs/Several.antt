-- Reading pieces one after the other, as a loop does.
use Rattle.std.proofs.Common.{◌≡◌, ℕ, suc, ◌-◌, ◌+◌, ◌≤◌, ◌<◌, List, [], ◌∷◌, ◌++◌, Option, Some, None, refl, sym, ap, ◌∙◌, append_assoc, arith}
use Rattle.std.proofs.lemmas.List.{append-nil}
use Rattle.fm_code.specs.declared.error.PieceFail.{PieceFail}
use Rattle.fm_code.specs.declared.error.PieceFail.TheVariants as fail
use Rattle.fm_code.specs.inner.Reading.{◌>>=◌, Fails, counted_at, number_at, several_at, with_prefix}

-- a piece that was read goes to those before
pub regroup : {X : Type 0} (prefix : List X) (x : X) (reading : Option (List X × List ℕ)) → with_prefix prefix (reading >>= λ others. Some (x ∷ others.0, others.1)) ≡ with_prefix (prefix ++ x ∷ []) reading
regroup prefix x (Some others) = ap (λ (xs : List _). Some (xs, others.1)) (simp append_assoc)
regroup prefix x None = refl

-- nothing is in front of what is read
with_no_prefix : {X : Type 0} (reading : Option (List X × List ℕ)) → with_prefix [] reading ≡ reading
with_no_prefix (Some x) = refl
with_no_prefix None = refl

-- the number was read, and no piece yet
pub begins : {X : Type 0} (piece_at : List ℕ → Option (X × List ℕ)) (prefix : List X) (bytes : List ℕ) (count : ℕ) (rest : List ℕ) → prefix ≡ [] → number_at 2 bytes ≡ Some (count, rest)
    → with_prefix prefix (several_at piece_at (count - 0) rest) ≡ counted_at piece_at bytes
unfolding counted_at
begins piece_at prefix bytes count rest none e =
    let all : count - 0 ≡ count = omega arith in
    rw (none, e, all) (with_no_prefix (several_at piece_at count rest))

-- one more piece was read
pub goes_on : {X : Type 0} (piece_at : List ℕ → Option (X × List ℕ)) (prefix : List X) (count i : ℕ) (bytes : List ℕ) (x : X) (after : List ℕ) (total : Option (List X × List ℕ)) → i < count → piece_at bytes ≡ Some (x, after)
    → with_prefix prefix (several_at piece_at (count - i) bytes) ≡ total → with_prefix (prefix ++ x ∷ []) (several_at piece_at (count - (i + 1)) after) ≡ total
unfolding several_at
goes_on piece_at prefix count i bytes x after total lt h so_far =
    let k : count - i ≡ suc (count - (i + 1)) = omega arith in
    let one : with_prefix prefix (several_at piece_at (count - i) bytes) ≡ with_prefix (prefix ++ x ∷ []) (several_at piece_at (count - (i + 1)) after) = rw (k, h) (regroup prefix x (several_at piece_at (count - (i + 1)) after)) in
    sym one ∙ so_far

-- where a piece isn't read, all of them aren't
pub ends : {X : Type 0} (piece_at : List ℕ → Option (X × List ℕ)) (e : PieceFail) (prefix : List X) (count i : ℕ) (bytes : List ℕ) (total : Option (List X × List ℕ)) → i < count → Fails e (piece_at bytes)
    → with_prefix prefix (several_at piece_at (count - i) bytes) ≡ total → Fails e total
unfolding several_at
ends piece_at fail.NoMemory prefix count i bytes total lt h so_far = tt
ends piece_at fail.Malformed prefix count i bytes total lt h so_far =
    let k : count - i ≡ suc (count - (i + 1)) = omega arith in
    let one : with_prefix prefix (several_at piece_at (count - i) bytes) ≡ None = rw (k, h) refl in
    sym so_far ∙ one

-- after the last piece
pub is_done : {X : Type 0} (piece_at : List ℕ → Option (X × List ℕ)) (prefix : List X) (count i : ℕ) (bytes : List ℕ) (total : Option (List X × List ℕ)) → count ≤ i → with_prefix prefix (several_at piece_at (count - i) bytes) ≡ total → total ≡ Some (prefix, bytes)
unfolding several_at
is_done piece_at prefix count i bytes total le so_far =
    let k : count - i ≡ 0 = omega arith in
    let one : with_prefix prefix (several_at piece_at (count - i) bytes) ≡ Some (prefix, bytes) = rw k (ap (λ (xs : List _). Some (xs, bytes)) (append-nil prefix)) in
    sym so_far ∙ one
