-- What is inserted into a method: which sites have a local that holds their object, and before which items such locals are freed.
use Rattle.std.specs.Prelude.{ℕ, ◌+◌, ◌==◌, Bool, false, List, [], ◌∷◌, length, map, Option, Some, None, if◌then◌else◌}
use Rattle.std.specs.List.{range_with_len, slice_index_or}
use Rattle.fm_conn.specs.Facts.{Facts}
use Rattle.fm_conn.specs.Nodes.{TypedMethod}
use Rattle.fm_place.specs.Places.{is_place}
use Rattle.fm_place.specs.Sites.{held_sites, site_class}

-- A new local for the objects of a site, by the item of the site and the class of its objects. It holds the last one, or a chain of them where it is looped;
-- without chains none is looped.
pub record Holder : Type 0 where
  pub site : ℕ
  pub class : ℕ
  pub looped : Bool

-- the holders of a method in the order of their locals, and for each item the numbers of those that are freed before it, in the order of freeing
pub record Insertions : Type 0 where
  pub holders : List Holder
  pub before : List (List ℕ)

-- what is freed before an item
abbrev pub before_at : Insertions → ℕ → List ℕ
before_at plan j = slice_index_or plan.before j []

-- the numbers, from one on, of the holders that pass a test, rising
abbrev pub numbers_of : (Holder → Bool) → ℕ → List Holder → List ℕ
numbers_of test number [] = []
numbers_of test number (h ∷ holders) = let rest = numbers_of test (number + 1) holders in if test h then number ∷ rest else rest

-- the holders of the object that an item gives: one for a site, at most
abbrev pub after_at : Insertions → ℕ → List ℕ
after_at plan j = numbers_of (λ h. h.site == j) 0 plan.holders

-- ---- all of them

-- a holder for each held site, by their offsets
abbrev pub all_holders : Facts → TypedMethod → List Holder
all_holders facts x = map (λ j. record { site = j; class = site_class facts x j; looped = false }) (held_sites facts x)

-- before each item the holders of which it is a place, rising
abbrev pub all_insertions : Facts → TypedMethod → Insertions
all_insertions facts x =
    let holders = all_holders facts x in
    record {
      holders = holders;
      before = map (λ j. numbers_of (λ h. is_place facts x h.site h.class j) 0 holders) (range_with_len 0 (length x.code.items));
    }

-- a method without a held site stays as it is
abbrev pub full_insertions : Facts → TypedMethod → Option Insertions
full_insertions facts x = of_sites (held_sites facts x) where
  of_sites : List ℕ → Option Insertions
  of_sites [] = None
  of_sites (site ∷ sites) = Some (all_insertions facts x)
