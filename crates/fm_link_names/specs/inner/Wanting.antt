-- What instructions want of members, static ones or others.
use Rattle.std.specs.Prelude.{ℕ, Bool, ◌||◌, not, List, [], ◌∷◌, map, Option, Some, None, slice_set, if◌then◌else◌}
use Rattle.std.specs.List.{list_any, slice_index_or}
use Rattle.fm_code.specs.declared.class_file.ClassDef.{ClassDef}
use Rattle.fm_code.specs.declared.code_array.Item.{Item}
use Rattle.fm_code.specs.declared.instructions.Insn.{Insn}
use Rattle.fm_link_names.specs.declared.wanted.Wanted.{Wanted}
use Rattle.fm_world.specs.Causes.{wanted_at}
use Rattle.fm_code.specs.Operands.{pool_index}
use Rattle.fm_world.specs.Uses.{pool_indices}

-- what these flags together want of one member, each flag for a static one or another one
abbrev pub wanted_of : List Bool → Wanted
wanted_of flags = record { in_class = list_any (λ b. b) flags; in_object = list_any not flags }

-- whether something is wanted
abbrev pub is_something : Wanted → Bool
is_something w = w.in_class || w.in_object

-- whether another flag is wanted than that of the member
abbrev pub differs_from : Wanted → Bool → Bool
differs_from w is_static = if is_static then w.in_object else w.in_class

-- what is wanted at each index of the pool
abbrev pub wanted_by : (Insn → Option Bool) → ClassDef → List Wanted
wanted_by wanted c = map (λ index. wanted_of (wanted_at wanted c index)) (pool_indices c)

-- ---- one after the other

-- with one flag more
abbrev pub with_flag : Wanted → Bool → Wanted
with_flag w is_static = record { in_class = w.in_class || is_static; in_object = w.in_object || not is_static }

-- with what is wanted at an index
abbrev pub noted : List Wanted → ℕ → Bool → List Wanted
noted wanted index is_static = slice_set wanted index (with_flag (slice_index_or wanted index (wanted_of [])) is_static)

-- the same where an index is named and something is wanted
abbrev pub noted_if : List Wanted → Option ℕ → Option Bool → List Wanted
noted_if wanted None is_static = wanted
noted_if wanted (Some index) None = wanted
noted_if wanted (Some index) (Some is_static) = noted wanted index is_static

-- with what items want
abbrev pub noted_among : (Insn → Option Bool) → List Wanted → List Item → List Wanted
noted_among flag wanted [] = wanted
noted_among flag wanted (item ∷ items) = noted_among flag (noted_if wanted (pool_index item.insn) (flag item.insn)) items
