-- The head of a class file: the magic number and the version.
use Rattle.std.specs.Prelude.{◌≡◌, ◌==◌, ℕ, List, ◌++◌, Option, Some, None, if◌then◌else◌}
use Rattle.fm_code.specs.ClassBytes.{magic}
use Rattle.fm_code.specs.Fits.{FitsTwo}
use Rattle.fm_code.specs.Numbers.{two}
use Rattle.fm_code.specs.inner.Reading.{◌>>=◌, number_at}
use Rattle.fm_code.specs.declared.class_file.TheConstants.{MAGIC}
use Rattle.fm_read.specs.declared.head.Version.{Version}

-- the bytes of the head
abbrev pub head_bytes : Version → List ℕ
head_bytes v = magic ++ (two v.minor ++ two v.major)

-- its numbers fit their bytes
pub record VersionFits (v : Version) : Type 0 where
  pub major : FitsTwo v.major
  pub minor : FitsTwo v.minor

-- the bytes begin with the head of that version, and go on with the rest
pub record HasHead (bytes : List ℕ) (v : Version) (rest : List ℕ) : Type 0 where
  pub bytes_are : bytes ≡ head_bytes v ++ rest
  pub fits : VersionFits v

-- the version after the magic number
unfoldable pub head_at : List ℕ → Option (Version × List ℕ)
head_at bytes = do
  magic ← number_at 4 bytes
  minor ← number_at 2 magic.1
  major ← number_at 2 minor.1
  if magic.0 == MAGIC then Some (record { major = major.0; minor = minor.0 }, major.1) else None
