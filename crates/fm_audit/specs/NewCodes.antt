-- Which new items methods get, and that a method at whose new start no holder is null stays as it is.
use Rattle.std.specs.Prelude.{◌≡◌, ◌-◌, ◌<◌, ℕ, List, [], length, Option, Some, None, nat_lt, slice_get, ⊤, if◌then◌else◌}
use Rattle.fm_code.specs.declared.code_array.Code.{Code}
use Rattle.fm_code.specs.declared.code_array.Item.{Item}
use Rattle.fm_place_weave.specs.declared.planned.Planned.{Planned}
use Rattle.fm_place_weave.specs.declared.planned.Planned.TheVariants as planned
use Rattle.fm_rewrite.specs.Plans.{planned_at}
use Rattle.fm_world.specs.Members.{methods_of}
use Rattle.fm_world.specs.Programs.{code_at, Program}
use Rattle.fm_audit.specs.Reading.{nulls}
use Rattle.fm_audit.specs.declared.methods.NewCode.{NewCode}

-- the items of new code, if there is some
abbrev pub items_in : Option NewCode → List Item
items_in None = []
items_in (Some new) = new.items.now

-- the index of FreeMe.free in its class
abbrev pub free_in : Option NewCode → ℕ
free_in None = 0
free_in (Some new) = new.free

-- the new code of a method by its number, where the first one that has some has that number
abbrev pub new_code : List NewCode → (first method : ℕ) → Option NewCode
new_code new first method = if nat_lt method first then None else slice_get new (method - first)

-- that of a method of the program, whose last methods have some
abbrev pub new_code_of : Program → List NewCode → ℕ → Option NewCode
new_code_of p new method = new_code new (length (methods_of p.outline.classes) - length new) method

-- its items
abbrev pub new_items_of : Program → List NewCode → ℕ → List Item
new_items_of p new method = items_in (new_code_of p new method)

-- its index
abbrev pub new_free_of : Program → List NewCode → ℕ → ℕ
new_free_of p new method = free_in (new_code_of p new method)

-- where no holder is null at the start of its new items, a method that has this code stays as it is
abbrev pub StaysIn : Option Code → (new : List Item) → Planned → Type 0
StaysIn None new done = ⊤
StaysIn (Some code) new done = nulls code.max_locals new ≡ [] → done ≡ planned.Same

-- the same of a method of the program
abbrev pub StaysAt : Program → ℕ → (new : List Item) → Planned → Type 0
StaysAt p method new done = StaysIn (code_at p method) new done

-- and of each method
abbrev pub AllStay : Program → List NewCode → List Planned → Type 0
AllStay p new done = (method : ℕ) → method < length done → StaysAt p method (new_items_of p new method) (planned_at done method)
