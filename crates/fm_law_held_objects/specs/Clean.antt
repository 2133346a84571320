-- Colours in which no object has an own region of a frame that isn't there any longer.
use Rattle.std.specs.Prelude.{◌≡◌, ◌<◌, ℕ, length, nat_lt, if◌then◌else◌}
use Rattle.fm_conn.specs.Facts.{Facts}
use Rattle.fm_frames.specs.States.{State}
use Rattle.fm_same.specs.Colours.{Colour, Coloured}
use Rattle.fm_same.specs.Regions.{Everywhere, Given, Own, Region, Retired}
use Rattle.fm_world.specs.Programs.{Program}

-- own regions of frames with this many others below them, or more, are retired
abbrev pub cleaned : ℕ → Region → Region
cleaned frames Everywhere = Everywhere
cleaned frames Given = Given
cleaned frames (Own depth class) = if nat_lt depth frames then Own depth class else Retired
cleaned frames Retired = Retired

-- each own region is one of a frame that is there
abbrev pub IsClean : ℕ → Colour → Type 0
IsClean frames colour = (birth depth class : ℕ) → colour birth ≡ Own depth class → depth < frames

-- Colours of a state can be cleaned: they are colours of it still, and what has a region of a frame that is there keeps it.
abbrev pub ColoursAreCleaned : Type 0
ColoursAreCleaned =
    (p : Program) (facts : Facts) (x : State) (colour : Colour) → Coloured p facts x colour
    → Coloured p facts x (λ birth. cleaned (length x.frames) (colour birth)) × IsClean (length x.frames) (λ birth. cleaned (length x.frames) (colour birth))
    × ((birth depth class : ℕ) → depth < length x.frames → colour birth ≡ Own depth class → cleaned (length x.frames) (colour birth) ≡ colour birth)
