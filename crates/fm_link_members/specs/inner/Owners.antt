-- For each signature the classes of its members.
use Rattle.std.specs.Prelude.{◌≡◌, ℕ, ◌<◌, true, List, [], ◌∷◌, ◌++◌, slice_index, slice_set}
use Rattle.std.specs.Global.{Vec}
use Rattle.std.specs.List.{slice_index_or}
use Rattle.fm_link_supers.specs.inner.ListTables.{list_in}
use Rattle.fm_world.specs.Chains.{is_among}
use Rattle.fm_link_members.specs.declared.members.MemberRow.{MemberRow}
use Rattle.fm_link_members.specs.inner.MemberRows.{no_row}

-- a number more at the end of the list at a place
abbrev pub pushed : List (List ℕ) → ℕ → ℕ → List (List ℕ)
pushed table place number = slice_set table place (slice_index_or table place [] ++ number ∷ [])

-- the class of each member below a number is in the list of its signature
abbrev pub HaveOwners : List MemberRow → List ℕ → ℕ → List (Vec ℕ) → Type 0
HaveOwners rows signatures end owners =
    (k : ℕ) → k < end → is_among (slice_index_or rows k no_row).class (list_in owners (slice_index signatures k)) ≡ true
