-- The effects of rows of arrays as wholes, by what the operands are.
use Rattle.std.proofs.Common.{◌≡◌, ℕ, ℤ, pos, Bool, true, false, if◌then◌else◌, List, [], nat_lt, Option, Some, None, option_map, slice_get, refl, ap, sym, ◌∙◌}
use Rattle.std.specs.Prelude.{int_lt, unsigned_abs}
use Rattle.std.proofs.lemmas.Option.{none-some, same_Some}
use Rattle.fm_base.specs.declared.ids.TypeId.{TypeId}
use Rattle.fm_base.specs.declared.kinds.Base.{Base}
use Rattle.fm_base.specs.declared.kinds.TypeRef.{TypeRef}
use Rattle.fm_cells.specs.Stores.{Store}
use Rattle.fm_cells.specs.declared.answers.Cell.{Cell}
use Rattle.fm_cells.specs.declared.answers.Head.{Head}
use Rattle.fm_code.specs.declared.operations.Elem.{Elem}
use Rattle.fm_exec.proofs.HeldSteps.{looks-len, looks-type, Seen}
use Rattle.fm_frames.specs.ArrayRows.{array_made, length_effect, new_array_effect, new_references_effect, thrown_negative}
use Rattle.fm_frames.specs.Effects.{Effect, Make, faulty, int_word, making, words}
use Rattle.fm_frames.specs.Operands.{on_any, thrown_null}
use Rattle.fm_frames.specs.Sights.{looks, Looks, Sight, sights, type_numbered}
use Rattle.fm_frames.specs.Uses.{by_type}
use Rattle.fm_frames.specs.declared.values.Value.{Value}
use Rattle.fm_world.specs.Programs.{Outline}
use Rattle.fm_world.specs.Uses.{array_of, base_of_elem}
use Rattle.fm_world.specs.declared.uses.Use.TheVariants as used

-- how many elements a count means
abbrev pub len_of : ℤ → Option ℕ
len_of count = if int_lt count (pos 0) then None else Some (unsigned_abs count)

-- what follows of a count
abbrev pub counted : Outline → TypeRef → ℤ → Effect
counted o t count = if int_lt count (pos 0) then thrown_negative o else making 1 (Make t (unsigned_abs count) [])

pub count-made : (o : Outline) (t : TypeRef) (count : ℤ) (len : ℕ) → len_of count ≡ Some len → counted o t count ≡ making 1 (Make t len [])
count-made o t count len some = by_sign (int_lt count (pos 0)) some where
  by_sign : (negative : Bool) → (if negative then None else Some (unsigned_abs count)) ≡ Some len
      → (if negative then thrown_negative o else making 1 (Make t (unsigned_abs count) [])) ≡ making 1 (Make t len [])
  by_sign true some = absurd (none-some _ some)
  by_sign false some = ap (λ n. making 1 (Make t n [])) (same_Some _ _ some)

pub count-refused : (o : Outline) (t : TypeRef) (count : ℤ) → len_of count ≡ None → counted o t count ≡ thrown_negative o
count-refused o t count none = by_sign (int_lt count (pos 0)) none where
  by_sign : (negative : Bool) → (if negative then None else Some (unsigned_abs count)) ≡ None
      → (if negative then thrown_negative o else making 1 (Make t (unsigned_abs count) [])) ≡ thrown_negative o
  by_sign true none = refl
  by_sign false none = absurd (none-some _ (sym none))

-- the array of such elements; none of references
abbrev pub array_with : Option Base → Option TypeRef
array_with None = None
array_with (Some b) = Some (record { dims = 1; base = b })

pub new_array-is : (o : Outline) (e : Elem) (found : Option Base) (s : List Sight) → base_of_elem e ≡ found
    → new_array_effect o e s ≡ array_made o (array_with found) s
unfolding new_array_effect
new_array-is o e found s is =
    ap (λ b. array_made o (option_map (λ (b : Base). record { dims = 1; base = b }) b) s) is ∙ by_base found where
      by_base : (found : Option Base) → array_made o (option_map (λ (b : Base). record { dims = 1; base = b }) found) s ≡ array_made o (array_with found) s
      by_base None = refl
      by_base (Some b) = refl

pub new_references-is : (o : Outline) (t : TypeId) (named : TypeRef) (found : Option TypeRef) (s : List Sight) → slice_get o.types t.0 ≡ Some named
    → array_of named ≡ found → new_references_effect o (used.OfType t) s ≡ array_made o found s
unfolding new_references_effect
new_references-is o t named found s at is =
    ap (λ f. by_type f (λ t. array_made o (array_of t) s)) at ∙ ap (λ f. array_made o f s) is

-- what follows of the object whose length is asked for
abbrev pub length_of : Looks → Effect
length_of it = if nat_lt 0 it.type.dims then words 1 (int_word (pos it.len)) else faulty 0

pub length-is : (o : Outline) (s : List Sight) → length_effect o s ≡ on_any o s 0 length_of
unfolding length_effect
length-is o s = refl

pub length-told : (o : Outline) (store : Store) (stack : List Value) (cell : Cell) (head : Head) (array : Bool)
    → Seen o store stack 0 cell head → array ≡ nat_lt 0 (type_numbered o head.class).dims
    → length_effect o (sights o store stack) ≡ (if array then words 1 (int_word (pos head.len)) else faulty 0)
unfolding length_effect
length-told o store stack cell head array it is =
    it.any (thrown_null o) (λ l. if nat_lt 0 l.type.dims then words 1 (int_word (pos l.len)) else faulty 0)
    ∙ ap (λ (t : TypeRef). if nat_lt 0 t.dims then words 1 (int_word (pos (looks o store it.object).len)) else faulty 0)
    (looks-type o store it.object ∙ ap (λ (h : Head). type_numbered o h.class) it.head_is)
    ∙ ap (λ n. if nat_lt 0 (type_numbered o head.class).dims then words 1 (int_word (pos n)) else faulty 0)
    (looks-len o store it.object ∙ ap (λ (h : Head). h.len) it.head_is)
    ∙ ap (λ b. if b then words 1 (int_word (pos head.len)) else faulty 0) (sym is)
