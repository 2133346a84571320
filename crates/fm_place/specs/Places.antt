-- Where the objects of a class are still in use in a method, and where a holder may hold one that no longer is (after Free-Me, as `Sites`).
use Rattle.std.specs.Prelude.{◌≡◌, ℕ, zero, suc, ◌+◌, ◌==◌, ◌&&◌, ◌||◌, not, Bool, true, false, List, [], ◌∷◌, length, Option, Some, None, is_some}
use Rattle.std.specs.List.{list_any, range_with_len}
use Rattle.fm_code.specs.Edges.{IsEdge, edges_listed}
use Rattle.fm_conn.specs.Facts.{Facts}
use Rattle.fm_conn.specs.Nodes.{depth_at, IsNode, Local, Slot, TypedMethod, word_at}
use Rattle.fm_types.specs.States.{is_reference}
use Rattle.fm_types.specs.Typed.{state_at}
use Rattle.fm_types.specs.declared.slots.Slot as slots

-- ---- busy

-- whether there is a word, and it is a reference
abbrev pub is_reference_word : Option slots.Slot → Bool
is_reference_word None = false
is_reference_word (Some s) = is_reference s

-- whether the word of the stack is a reference, and in the class
abbrev pub is_word_in : Facts → TypedMethod → ℕ → ℕ → ℕ → Bool
is_word_in facts x class j depth = is_reference_word (word_at x j depth) && (facts.class x.number (Slot j depth) == class)

-- whether the local is live, and in the class
abbrev pub is_local_in : Facts → TypedMethod → ℕ → ℕ → ℕ → Bool
is_local_in facts x class j k = facts.live x.number k j && (facts.class x.number (Local k) == class)

-- A class is busy at an item that can be reached where a word of the stack is in it, or a local that is live.
abbrev pub is_busy : Facts → TypedMethod → (class j : ℕ) → Bool
is_busy facts x class j =
    is_some (state_at x.states j)
    && (list_any (is_word_in facts x class j) (range_with_len 0 (depth_at x j))
    || list_any (is_local_in facts x class j) (range_with_len 0 x.code.max_locals))

-- the same by a witness
pub data IsBusy (facts : Facts) (x : TypedMethod) (class j : ℕ) : Type 0 where
  InWord : (depth : ℕ) → is_some (state_at x.states j) ≡ true → IsNode x (Slot j depth) → facts.class x.number (Slot j depth) ≡ class
      → IsBusy facts x class j
  InLocal : (k : ℕ) → is_some (state_at x.states j) ≡ true → facts.live x.number k j ≡ true → facts.class x.number (Local k) ≡ class
      → IsBusy facts x class j

-- ---- what a holder may hold

-- The items lead from one end to the other, each with an edge to the next, and the class is busy at each of them but the last.
abbrev pub IsBusyPath : Facts → TypedMethod → (class j : ℕ) → List ℕ → ℕ → Type 0
IsBusyPath facts x class j [] last = j ≡ last
IsBusyPath facts x class j (next ∷ rest) last = (is_busy facts x class j ≡ true) × (IsEdge x.code j next × IsBusyPath facts x class next rest last)

-- A holder of a site, whose object is in this class, may hold something at an item to which such a path leads from the item after the site, where the
-- holder has just taken the object: as long as the class is busy nothing frees it.
abbrev pub MayHold : Facts → TypedMethod → (site class j : ℕ) → Type 0
MayHold facts x site class j = (path : List ℕ) × IsBusyPath facts x class (site + 1) path j

-- whether such a path of at most this many edges leads from one item to another
abbrev pub leads_busily : Facts → TypedMethod → (class edges j last : ℕ) → Bool
leads_busily facts x class zero j last = j == last
leads_busily facts x class (suc edges) j last =
    j == last || (is_busy facts x class j && list_any (λ next. leads_busily facts x class edges next last) (edges_listed x.code j))

-- the same by paths that are no longer than the code: what goes past no item twice has fewer edges than there are items
abbrev pub may_hold : Facts → TypedMethod → (site class j : ℕ) → Bool
may_hold facts x site class j = leads_busily facts x class (length x.code.items) (site + 1) j

-- ---- places

-- a holder may hold something where its class isn't busy: what its object leads to is of no more use
abbrev pub is_place : Facts → TypedMethod → (site class j : ℕ) → Bool
is_place facts x site class j = not (is_busy facts x class j) && may_hold facts x site class j
