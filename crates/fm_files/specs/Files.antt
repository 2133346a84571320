-- Files by name, as the trait `Files` shows them, and what one call changes.
use Rattle.std.specs.Prelude.{◌≡◌, ◌≢◌, ◌<◌, ◌≤◌, ℕ, List, [], ◌∷◌, ◌++◌, length, Option, Some, None, MatchOption, IfSome, IsSomeAnd}

-- a name, or what it holds
abbrev pub Bytes : Type 0
Bytes = List ℕ

-- a number for each name
abbrev pub Counts : Type 0
Counts = Bytes → ℕ

-- what is known of the contents: nothing, or for each name its bytes, or that it isn't there
abbrev pub Contents : Type 0
Contents = Option (Bytes → Option Bytes)

-- a read or a write, with its name: the bytes that it returned or wrote, and none where it failed
pub record Call : Type 0 where
  pub name : Bytes
  pub bytes : Option Bytes

-- calls in order, and one more
abbrev pub and_call : List Call → Bytes → Option Bytes → List Call
and_call calls name bytes = calls ++ record { name = name; bytes = bytes } ∷ []

-- the files: for each name how many reads and how many writes of it failed, and the most bytes that one
-- read saw in it; what the names hold, where that is known; and the reads and the writes of all names, in
-- order, but those that were out of memory
pub record Disk : Type 0 where
  pub read_faults : Counts
  pub write_faults : Counts
  pub widest_read : Counts
  pub contents : Contents
  pub reads : List Call
  pub writes : List Call

-- the number of every name is as before
abbrev pub AreKept : Counts → Counts → Type 0
AreKept old new = (name : Bytes) → new name ≡ old name

-- the number of this name doesn't fall, and that of every other name is as before
pub record RisesAt (this : Bytes) (old new : Counts) : Type 0 where
  pub never_falls : old this ≤ new this
  pub others : (name : Bytes) → name ≢ this → new name ≡ old name

-- where contents are known, they still are, and every other name holds what it held
abbrev pub OthersAreKept : Bytes → Contents → Contents → Type 0
OthersAreKept this old new = MatchOption old (new ≡ None) (λ before. IsSomeAnd new (λ after. (name : Bytes) → name ≢ this → after name ≡ before name))

-- where contents are known, the name is there and holds these bytes
abbrev pub Holds : Contents → Bytes → Bytes → Type 0
Holds contents name bytes = IfSome contents (λ held. held name ≡ Some bytes)

-- where contents are known, the name is there and holds more bytes than this
abbrev pub HoldsMoreThan : Contents → Bytes → ℕ → Type 0
HoldsMoreThan contents name limit = IfSome contents (λ held. IsSomeAnd (held name) (λ bytes. limit < length bytes))
