-- The tables of nearest members while they are made, each over the one of its superclass.
use Rattle.std.specs.Prelude.{◌≡◌, ℕ, ◌-◌, ◌<◌, ◌≤◌, ◌&&◌, Bool, List, length, nat_eq, Option, Some, None, if◌then◌else◌}
use Rattle.std.specs.List.{slice_index_or}
use Rattle.fm_world.specs.declared.layers.Layers.{Layers}
use Rattle.fm_world.specs.inner.Layers.{value_at, HasRoom, IsTable}
use Rattle.fm_link_members.specs.declared.members.MemberRow.{MemberRow}
use Rattle.fm_link_members.specs.declared.members.Nearest.{Nearest}
use Rattle.fm_link_members.specs.inner.MemberRows.{no_row}
use Rattle.fm_link_members.specs.inner.MemberTables.{first_from}

-- the first one, or else the other one
abbrev pub or_else : Option ℕ → Option ℕ → Option ℕ
or_else None other = other
or_else (Some n) other = Some n

-- the table of a class; the empty one where there is none
abbrev pub top_of : List ℕ → Option ℕ → ℕ
top_of tops None = 0
top_of tops (Some class) = slice_index_or tops class 0

-- each class has a table
abbrev pub AreTops : Nearest → Type 0
AreTops n = (class : ℕ) → IsTable n.layers (slice_index_or n.tops.items class 0)

-- there is room for a given number of keys
abbrev pub HasRooms : Layers → ℕ → Type 0
HasRooms layers count = (signature : ℕ) → signature < count → HasRoom layers signature

-- the member has the signature, and flags that pass
abbrev pub is_signed : List MemberRow → List ℕ → (ℕ → Bool) → ℕ → ℕ → Bool
is_signed rows signatures passes signature member =
    nat_eq (slice_index_or signatures member 0) signature && passes (slice_index_or rows member no_row).flags

-- the new table has the member, where its flags pass, over the other table
pub record PutsMember (old new : Layers) (rows : List MemberRow) (signatures : List ℕ) (passes : ℕ → Bool) (table member fresh : ℕ) : Type 0 where
  pub is_table : IsTable new fresh
  pub puts : (signature : ℕ) → HasRoom old signature → member < length rows
      → value_at new fresh signature
      ≡ or_else (if is_signed rows signatures passes signature member then Some member else None) (value_at old table signature)

-- the new table has the first member of each signature in a section, where flags pass, over the other table
pub record PutsSection (old new : Layers) (rows : List MemberRow) (signatures : List ℕ) (passes : ℕ → Bool) (section : ℕ × ℕ) (table fresh : ℕ)
    : Type 0 where
  pub is_table : IsTable new fresh
  pub puts : (signature : ℕ) → HasRoom old signature → section.0 ≤ section.1 → section.1 ≤ length rows
      → value_at new fresh signature
      ≡ or_else (first_from (is_signed rows signatures passes signature) (section.1 - section.0) section.0) (value_at old table signature)
