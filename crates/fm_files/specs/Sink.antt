-- A sink of bytes, as the trait `Sink` shows it, and what puts change.
use Rattle.std.specs.Prelude.{◌≡◌, ◌<◌, ◌⊎◌, ℕ, ◌+◌, List, [], ◌∷◌, ◌++◌, length, take, Option, option_map}
use Rattle.std.specs.List.{AllByRecursion, concat}

-- what a sink got: the pieces that were put whole, and all bytes that came in, among them the first bytes
-- of pieces whose put failed
pub record Got : Type 0 where
  pub pieces : List (List ℕ)
  pub bytes : List ℕ

-- a sink: how many puts failed, and what it got, where that is known
pub record Output : Type 0 where
  pub faults : ℕ
  pub got : Option Got

-- what was got, and one piece more
abbrev pub got_piece : Got → List ℕ → Got
got_piece got piece = record { pieces = got.pieces ++ piece ∷ []; bytes = got.bytes ++ piece }

-- what was got, and these pieces more
abbrev pub got_pieces : Got → List (List ℕ) → Got
got_pieces got pieces = record { pieces = got.pieces ++ pieces; bytes = got.bytes ++ concat pieces }

-- after these pieces were put one after the other
abbrev pub with_pieces : List (List ℕ) → Output → Output
with_pieces pieces output = record output { got = option_map (λ got. got_pieces got pieces) output.got }

-- after one piece was put
abbrev pub with_piece : List ℕ → Output → Output
with_piece piece output = record output { got = option_map (λ got. got_piece got piece) output.got }

-- the put of the piece failed, once: the faults rose by one, and the first bytes of the piece came in, maybe none
pub record FailsPut (piece : List ℕ) (old new : Output) : Type 0 where
  pub fault : new.faults ≡ old.faults + 1
  pub part : (n : ℕ) × (new.got ≡ option_map (λ (got : Got). record got { bytes = got.bytes ++ take n piece }) old.got)

-- a piece that has bytes was put
abbrev pub GetsPiece : List ℕ → Output → Output → Type 0
GetsPiece piece old new = (0 < length piece) × (new ≡ with_piece piece old)

-- the put of a piece that has bytes failed
abbrev pub FailsPiece : List ℕ → Output → Output → Type 0
FailsPiece piece old new = (0 < length piece) × FailsPut piece old new

-- at most one piece was put, which has bytes: whole, or in part where its put failed
abbrev pub GetsAtMostOne : Output → Output → Type 0
GetsAtMostOne old new = (new ≡ old) ⊎ ((piece : List ℕ) × (GetsPiece piece old new ⊎ FailsPiece piece old new))

-- pieces that have bytes were put, and then the put of one more may have failed, behind which nothing was put
pub record GetsPieces (old new : Output) : Type 0 where
  pub pieces : List (List ℕ)
  pub some : AllByRecursion (λ piece. 0 < length piece) pieces
  pub last : (new ≡ with_pieces pieces old) ⊎ ((piece : List ℕ) × FailsPiece piece (with_pieces pieces old) new)
