-- The line and the status that report a refusal.
use Rattle.std.specs.Prelude.{ℕ, List, [], ◌∷◌, ◌++◌, codes}
use Rattle.fm_cli.specs.declared.command_refusal.CommandRefusal.{CommandRefusal}
use Rattle.fm_cli.specs.declared.command_refusal.CommandRefusal.TheVariants as refusal
use Rattle.fm_cli.specs.declared.status.TheConstants.{WORDS, READ, OUT_OF_MEMORY}

-- the lines, each with its line end: of words that aren't of the form,
abbrev pub words_line : List ℕ
words_line = codes "refused: words" ++ 10 ∷ []

-- of a file that couldn't be read,
abbrev pub read_line : List ℕ → List ℕ
read_line file = codes "refused: read " ++ (file ++ 10 ∷ [])

-- and of memory that couldn't be had
abbrev pub memory_line : List ℕ
memory_line = codes "refused: memory" ++ 10 ∷ []

-- the line of a refusal
abbrev pub refusal_line : CommandRefusal → List ℕ
refusal_line refusal.Words = words_line
refusal_line (refusal.Read file) = read_line file.now
refusal_line refusal.OutOfMemory = memory_line

-- the status of a refusal
abbrev pub refusal_status : CommandRefusal → ℕ
refusal_status refusal.Words = WORDS
refusal_status (refusal.Read file) = READ
refusal_status refusal.OutOfMemory = OUT_OF_MEMORY
