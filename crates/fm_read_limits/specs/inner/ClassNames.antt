-- How a class's name is searched for U+0000 and for units of surrogate pairs that are left alone.
use Rattle.std.specs.Prelude.{ℕ, ◌==◌, ◌&&◌, not, Bool, List, [], ◌∷◌, if◌then◌else◌}
use Rattle.std.specs.Char.Utf16.{is_high_surrogate, is_low_surrogate}

-- a unit may come next; the flag: whether the one before was the first one of a surrogate pair
abbrev pub may_follow : Bool → ℕ → Bool
may_follow high unit = if high then is_low_surrogate unit else not (is_low_surrogate unit)

-- no unit is 0, and each unit of a surrogate pair has its partner
abbrev pub are_whole : Bool → List ℕ → Bool
are_whole high [] = not high
are_whole high (u ∷ us) = not (u == 0) && (may_follow high u && are_whole (is_high_surrogate u) us)
