-- Which methods override one, by the tables of members and of superclasses.
use Rattle.std.specs.Prelude.{ℕ, ◌&&◌, ◌||◌, not, Bool, false, Option, Some, None, if◌then◌else◌}
use Rattle.std.specs.List.{list_any, slice_index_or}
use Rattle.fm_code.specs.AccessFlags.{is_package_private}
use Rattle.fm_world.specs.Chains.{is_among}
use Rattle.fm_world.specs.Lookups.{is_interface_at, same_package}
use Rattle.fm_link_supers.specs.declared.hierarchy.Hierarchy.{Hierarchy}
use Rattle.fm_link_supers.specs.inner.ListTables.{list_in}
use Rattle.fm_link_members.specs.declared.lookups.Methods.{Methods}
use Rattle.fm_link_members.specs.inner.MemberRows.{no_row}
use Rattle.fm_link_members.specs.inner.MemberTables.{flags_of, own_in}

-- the class of a method
abbrev pub owner_in : Methods → ℕ → ℕ
owner_in m method = (slice_index_or m.members.rows.items method no_row).class

-- the class's own method of a signature that can override
abbrev pub own_selectable_in : Methods → ℕ → ℕ → Option ℕ
own_selectable_in m signature class = own_in m.selectable m.members.rows.items signature class

-- the method is overridden in its own package first
abbrev pub is_restricted_in : Methods → Hierarchy → ℕ → Bool
is_restricted_in m h method = is_package_private (flags_of m.members.rows.items method) && not (is_interface_at h.classes.now (owner_in m method))

-- there is a method, and it isn't restricted
abbrev pub is_free_in : Methods → Hierarchy → Option ℕ → Bool
is_free_in m h None = false
is_free_in m h (Some method) = not (is_restricted_in m h method)

-- the class is that of the method or below it
abbrev pub is_below_in : Methods → Hierarchy → ℕ → ℕ → Bool
is_below_in m h method class = is_among (owner_in m method) (list_in h.chains.items class)

-- the class opens the method, which has the signature, for all packages
abbrev pub opens_in : Methods → Hierarchy → ℕ → ℕ → ℕ → Bool
opens_in m h method signature class =
    is_below_in m h method class
    && (same_package h.classes.now class (owner_in m method) && is_free_in m h (own_selectable_in m signature class))

-- the class's method of the signature overrides the method
abbrev pub can_override_in : Methods → Hierarchy → ℕ → ℕ → ℕ → Bool
can_override_in m h method signature class =
    not (is_restricted_in m h method)
    || (is_below_in m h method class
    && (same_package h.classes.now class (owner_in m method) || list_any (opens_in m h method signature) (list_in h.chains.items class)))

-- the class's own method of the signature by which it overrides the method
abbrev pub overriding_in : Methods → Hierarchy → ℕ → ℕ → ℕ → Option ℕ
overriding_in m h method signature class = if can_override_in m h method signature class then own_selectable_in m signature class else None
