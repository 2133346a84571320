-- At which sites the holders of a method take their objects, by what its new items are read as.
use Rattle.std.specs.Prelude.{ℕ, ◌+◌, ◌-◌, ◌==◌, ◌&&◌, Bool, true, false, List, [], ◌∷◌, Option, Some, None, nat_lt, slice_get, if◌then◌else◌}
use Rattle.std.specs.List.{list_all}
use Rattle.std.specs.Option.{option_map}
use Rattle.fm_base.specs.declared.limits.TheConstants.{MAX_LOCAL_WORDS}
use Rattle.fm_place.specs.declared.found_sites.Site.{Site}

-- the numbers count up from this one
abbrev pub counts_up : ℕ → List ℕ → Bool
counts_up n [] = true
counts_up n (k ∷ numbers) = (k == n) && counts_up (n + 1) numbers

-- the item after which a holder takes its object: the first one
abbrev pub item_of : (after : List (ℕ × ℕ)) → ℕ → Option ℕ
item_of [] h = None
item_of (p ∷ after) h = if p.1 == h then Some p.0 else item_of after h

-- the class of the object of a site, if it is captured
abbrev pub captured_class : Site → Option ℕ
captured_class s = if s.captured then Some s.class else None

-- the class of an item's object, if the item is a captured site
abbrev pub class_at : List Site → ℕ → Option ℕ
class_at [] j = None
class_at (s ∷ sites) j = if s.item == j then captured_class s else class_at sites j

-- an item with its class
abbrev pub with_class : Option ℕ → ℕ → Option (ℕ × ℕ)
with_class None j = None
with_class (Some class) j = Some (j, class)

-- an item, if there is one, with the class of its object
abbrev pub site_with_class : List Site → Option ℕ → Option (ℕ × ℕ)
site_with_class sites None = None
site_with_class sites (Some j) = with_class (class_at sites j) j

-- the item of a holder and the class of its object
abbrev pub held_by : List Site → (after : List (ℕ × ℕ)) → ℕ → Option (ℕ × ℕ)
held_by sites after h = site_with_class sites (item_of after h)

-- one more, if there are both
abbrev pub and_those : Option (ℕ × ℕ) → Option (List (ℕ × ℕ)) → Option (List (ℕ × ℕ))
and_those None more = None
and_those (Some p) more = option_map (λ ps. p ∷ ps) more

-- the same of these holders, if each has one
abbrev pub held_by_all : List Site → (after : List (ℕ × ℕ)) → List ℕ → Option (List (ℕ × ℕ))
held_by_all sites after [] = Some []
held_by_all sites after (h ∷ holders) = and_those (held_by sites after h) (held_by_all sites after holders)

-- there is a pair, and it is of this item
abbrev pub is_of_item : Option (ℕ × ℕ) → ℕ → Bool
is_of_item None j = false
is_of_item (Some p) j = p.0 == j

-- the holder of a pair has the pair's item as its own
abbrev pub is_own_item : (held : List (ℕ × ℕ)) → ℕ × ℕ → Bool
is_own_item held p = is_of_item (slice_get held p.1) p.0

-- each holder that takes an object takes it after its own item
abbrev pub are_own_items : (held after : List (ℕ × ℕ)) → Bool
are_own_items held after = list_all (is_own_item held) after

-- ---- locals

-- a holder has a local that there may be, where the first one has this local
abbrev pub is_local : (first holder : ℕ) → Bool
is_local first holder = nat_lt (first + holder) MAX_LOCAL_WORDS

-- ---- how many there are

-- this many holders, if there are some, and locals left for them
abbrev pub holders_for : (max_locals count : ℕ) → Option ℕ
holders_for max_locals count =
    if count == 0 then None else
    if nat_lt (MAX_LOCAL_WORDS - max_locals) count then None else
    Some count
