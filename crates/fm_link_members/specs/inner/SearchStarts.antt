-- How the places are found from which on members are looked for.
use Rattle.std.specs.Prelude.{ℕ, ◌<◌, ◌≤◌, List, length, slice_index, if◌then◌else◌}
use Rattle.std.specs.List.{slice_index_or}
use Rattle.fm_world.specs.Lookups.{is_interface_at}
use Rattle.fm_link_supers.specs.declared.hierarchy.Hierarchy.{Hierarchy}
use Rattle.fm_link_members.specs.declared.members.MemberRow.{MemberRow}
use Rattle.fm_link_members.specs.declared.search_starts.Along.{Along}
use Rattle.fm_link_members.specs.declared.search_starts.Along.TheVariants as along
use Rattle.fm_link_members.specs.declared.search_starts.Finding.{Finding}
use Rattle.fm_link_supers.specs.inner.ListTables.{list_in}
use Rattle.fm_link_members.specs.inner.MemberRows.{no_row}
use Rattle.fm_link_members.specs.inner.MemberTables.{AreSignatures}
use Rattle.fm_link_members.specs.inner.Owners.{HaveOwners}

-- the superinterfaces where a method of a class is looked for; of an interface those by its own list
abbrev pub interfaces_along : Hierarchy → ℕ → List ℕ
interfaces_along h class = if is_interface_at h.classes.now class then list_in h.above.items class else list_in h.interfaces.items class

-- the classes along which members are looked for from a class on
abbrev pub list_along : Hierarchy → Along → ℕ → List ℕ
list_along h along.Paths class = list_in h.paths.items class
list_along h along.Interfaces class = interfaces_along h class

-- each class of the list has its place there, or one before it
abbrev pub ArePlaces : List ℕ → List ℕ → Type 0
ArePlaces list places = (i : ℕ) → i < length list → slice_index places (slice_index list i) ≤ i

-- the place of a member's class
abbrev pub place_in : List MemberRow → List ℕ → ℕ → ℕ
place_in rows places member = slice_index places (slice_index_or rows member no_row).class

-- the signatures are those of the members, and the class of each member is in the list of its signature
pub record IsFinding (f : Finding) : Type 0 where
  pub signatures : AreSignatures f.members.now.rows.items f.signatures.now
  pub owners : HaveOwners f.members.now.rows.items f.signatures.now.of_members.items (length f.members.now.rows.items) f.owners.now
