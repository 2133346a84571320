use Rattle.std.proofs.Common.{◌≡◌, ◌++◌, drop}
use Rattle.std.specs.Option.{option_map}
use Rattle.fm_types.specs.Moves.{words_at}
use Rattle.fm_check_rows.proofs.moves.words_at.Given as goal

abbrev pub invariant-loop-place : goal.invariant-loop-place
invariant-loop-place l =
    words_at l.stack l.places ≡ option_map (λ rest. l.words.items ++ rest) (words_at l.stack (drop l.place-index l.places))
