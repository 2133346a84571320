-- The ends of methods that have no code.
use Rattle.std.specs.Prelude.{ℕ, ◌+◌, ◌-◌, ◌==◌, Bool, false, List, [], ◌∷◌, ◌++◌, length, map, Option, Some, None, if◌then◌else◌}
use Rattle.std.specs.List.{flat_map, list_any, range_with_len, slice_index_or}
use Rattle.fm_base.specs.declared.kinds.Kind.{Kind}
use Rattle.fm_code.specs.AccessFlags.{is_static}
use Rattle.fm_types.specs.States.{is_reference, local_slots}
use Rattle.fm_types.specs.declared.slots.Slot.{Slot}
use Rattle.fm_types.specs.declared.slots.Slot.TheVariants as slot
use Rattle.fm_world.specs.BuiltIns.{builder_row, free_me_row, string_row, throwable_row}
use Rattle.fm_world.specs.declared.records.Body.{Body}
use Rattle.fm_world.specs.declared.records.Body.TheVariants as body
use Rattle.fm_world.specs.declared.records.MethodInfo.{MethodInfo}
use Rattle.fm_conn.specs.Rows.{is_reference_kind}
use Rattle.fm_conn.specs.declared.ends.End2.{End2}
use Rattle.fm_conn.specs.declared.ends.End2.TheVariants as end

-- ---- ends

-- the locals that hold the receiver and the parameters
abbrev pub entry_words : MethodInfo → List Slot
entry_words m = (if is_static m.flags then [] else slot.UninitThis ∷ []) ++ flat_map local_slots m.params

-- the end of a word that is a reference
abbrev pub parameter_end : List Slot → ℕ → List End2
parameter_end words k = if is_reference (slice_index_or words k slot.Top) then end.Parameter k ∷ [] else []

-- the ends of all words that are references
abbrev pub parameter_ends : List Slot → List End2
parameter_ends words = flat_map (parameter_end words) (range_with_len 0 (length words))

-- the end of a result that is a reference
abbrev pub result_end : Option Kind → List End2
result_end None = []
result_end (Some k) = if is_reference_kind k then end.Return ∷ [] else []

-- the ends of a method that has no code
abbrev pub bare_ends : MethodInfo → List End2
bare_ends m = parameter_ends (entry_words m) ++ result_end m.result ++ end.Global ∷ []

-- ---- numbers

-- the row of a built-in method's body
abbrev pub row_in : Body → Option ℕ
row_in (body.Native row) = Some row
row_in b = None

-- whether a row is one of these
abbrev pub is_one_of : List ℕ → ℕ → Bool
is_one_of rows row = list_any (λ n. n == row) rows

-- the rows whose result is the receiver by itself, by their places among the methods of their classes: toString of a text, and append
abbrev pub giving_itself : List ℕ → List ℕ
giving_itself more =
    (string_row + 5) ∷ (builder_row + 1) ∷ (builder_row + 2) ∷ (builder_row + 3) ∷ (builder_row + 4) ∷ (builder_row + 5) ∷ more

-- the constructor of a throwable with a message
abbrev pub init_of_row : ℕ
init_of_row = throwable_row + 1

-- getMessage
abbrev pub get_message_row : ℕ
get_message_row = throwable_row + 2

-- link of FreeMe
abbrev pub link_row : ℕ
link_row = free_me_row + 1

-- getClass, the last method of Object but one
abbrev pub get_class_row : ℕ
get_class_row = string_row - 2

-- clone, the last one
abbrev pub clone_row : ℕ
clone_row = string_row - 1

-- the rows that link the end with others
abbrev pub linking_rows : End2 → List ℕ
linking_rows end.Return = giving_itself (get_message_row ∷ link_row ∷ get_class_row ∷ clone_row ∷ [])
linking_rows (end.Parameter k) =
    if k == 0 then giving_itself (init_of_row ∷ get_message_row ∷ link_row ∷ clone_row ∷ []) else if k == 1 then init_of_row ∷ link_row ∷ [] else []
linking_rows end.Global = get_class_row ∷ []

-- whether a built-in method links an end with others
abbrev pub is_linked_by : Option ℕ → End2 → Bool
is_linked_by None e = false
is_linked_by (Some row) e = is_one_of (linking_rows e) row

-- a number for each end by itself
abbrev pub own_number : End2 → ℕ
own_number end.Return = 1
own_number end.Global = 2
own_number (end.Parameter k) = k + 3

-- those that are linked have one number
abbrev pub entry_number : Option ℕ → End2 → ℕ
entry_number row e = if is_linked_by row e then 0 else own_number e

-- the ends of a method that has no code, with their classes
abbrev pub bare_entries : MethodInfo → List (End2 × ℕ)
bare_entries m = map (λ e. (e, entry_number (row_in m.body) e)) (bare_ends m)
