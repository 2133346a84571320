-- The outcome of the put of the one line of a call.
use Rattle.std.specs.Prelude.{◌≡◌, ℕ, ◌⊎◌, List}
use Rattle.fm_files.specs.Sink.{Output, FailsPut, with_piece}
use Rattle.fm_cli.specs.declared.status.TheConstants.{WRITE, OUT_OF_MEMORY}

-- the line is put, as one piece, and the result is its status
abbrev pub IsPut : List ℕ → ℕ → Output → Output → ℕ → Type 0
IsPut line status old new result = (result ≡ status) × (new ≡ with_piece line old)

-- the put fails, and the result is the status of a failed write
abbrev pub IsNotPut : List ℕ → Output → Output → ℕ → Type 0
IsNotPut line old new result = (result ≡ WRITE) × FailsPut line old new

-- memory can't be had, which leaves the sink as it was
abbrev pub LacksMemory : Output → Output → ℕ → Type 0
LacksMemory old new result = (result ≡ OUT_OF_MEMORY) × (new ≡ old)

-- one of the three, and nothing else
abbrev pub Tells : List ℕ → ℕ → Output → Output → ℕ → Type 0
Tells line status old new result = IsPut line status old new result ⊎ (IsNotPut line old new result ⊎ LacksMemory old new result)
