-- The new codes of the methods of given classes, by class files that were written.
use Rattle.std.specs.Prelude.{ℕ, List, [], ◌∷◌, ◌++◌, length, map, Option, Some, None, nat_lt, slice_get, if◌then◌else◌}
use Rattle.std.specs.List.{range_with_len}
use Rattle.fm_code.specs.FreeEntries.{with_free}
use Rattle.fm_code.specs.Members.{code_of}
use Rattle.fm_code.specs.declared.class_file.ClassDef.{ClassDef}
use Rattle.fm_code.specs.declared.class_file.Member.{Member}
use Rattle.fm_code.specs.declared.code_array.Item.{Item}
use Rattle.fm_place.specs.Rewriting.{free_index}
use Rattle.fm_audit.specs.declared.methods.NewCode.{NewCode}
use Rattle.fm_audit_classes.specs.Parts.{code_items}

-- the index of FreeMe.free, and the items
abbrev pub pair_of : NewCode → ℕ × List Item
pair_of new = (new.free, new.items.now)

-- of a method, if there is one
abbrev pub method_items : Option Member → List Item
method_items None = []
method_items (Some m) = code_items (code_of m)

-- the index of FreeMe.free in a class that has its entries, or 0 where its pool is full
abbrev pub free_for : ClassDef → ℕ
free_for c = if nat_lt 65535 (length (with_free c.pool.entries)) then 0 else free_index c

-- the new code at a place, by the methods that were written
abbrev pub code_in : (free : ℕ) → List Member → (place : ℕ) → ℕ × List Item
code_in free methods place = (free, method_items (slice_get methods place))

-- this many of them
abbrev pub codes_in : (free count : ℕ) → List Member → List (ℕ × List Item)
codes_in free count methods = map (code_in free methods) (range_with_len 0 count)

-- the new codes of the methods of all given classes
abbrev pub written_codes : (given written : List ClassDef) → List (ℕ × List Item)
written_codes (c ∷ given) (w ∷ written) = codes_in (free_for c) (length c.methods) w.methods ++ written_codes given written
written_codes given written = []
