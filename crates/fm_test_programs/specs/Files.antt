-- The bytes of a class file in which a piece may occur many times.
use Rattle.std.specs.Prelude.{ℕ, zero, suc, List, [], ◌++◌}
use Rattle.fm_test_programs.specs.declared.files.Repeated.{Repeated}

-- a piece, a given number of times
abbrev pub pieces : ℕ → List ℕ → List ℕ
pieces zero piece = []
pieces (suc count) piece = pieces count piece ++ piece

-- the start, the pieces, and the end
abbrev pub bytes_of : Repeated → List ℕ
bytes_of r = (r.start.now ++ pieces r.count r.piece.now) ++ r.end.now
