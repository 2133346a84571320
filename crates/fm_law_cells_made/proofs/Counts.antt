-- How many cells of each size class are held and made after each change of a store.
use Rattle.std.proofs.Common.{◌≡◌, ◌≢◌, ℕ, ◌+◌, ◌<◌, ◌≤◌, ◌⊎◌, inl, inr, Bool, true, false, cond, List, [], ◌∷◌, length, Option, Some, None, refl, sym, ◌∙◌, ap, subst, arith, get_or, set, get_or-set_same, get_or-set_other}
use Rattle.std.specs.Prelude.{slice_index}
use Rattle.std.proofs.lemmas.Bool.{cases_eq}
use Rattle.fm_cells.specs.Changes.{RefuseStore, Take, chained_by, freed_by, made_by, put_by, with_chain, with_element, with_object, without_object}
use Rattle.fm_cells.specs.Choices.{last_choice, last_choice_among, MayReuse}
use Rattle.fm_cells.specs.Objects.{Object, object_words, Request, request_size_class}
use Rattle.fm_cells.specs.Sizes.{packed_words}
use Rattle.fm_cells.specs.Soundness.{IsLastReused}
use Rattle.fm_cells.specs.Stores.{Store, free_cells, held_count, made_count, object_at, passes_limit}
use Rattle.fm_cells.proofs.Changes.{held_count-made_by, held_count-with_object, object_words-with_element}
use Rattle.fm_cells.proofs.Elements.{chained_by-none, chained_by-some, freed_by-none, freed_by-some, put_by-none, put_by-some}
use Rattle.fm_cells.proofs.LastReused.{free_cells-fresh, IsLastReused-fresh, IsLastReused-head, IsLastReused-with_object, IsLastReused-without_object, MayReuse-after, MayReuse-head}
use Rattle.fm_cells.proofs.Soundness.{request_size_class-lt}
use Rattle.fm_frames.specs.Acts.{with_content}

-- ---- what grows, and what shrinks

-- nothing was freed: no fewer cells are held, and where some were made, all of that size class are held
pub record Grows (x y : Store) : Type 0 where
  pub last : IsLastReused y
  pub held : (k : ℕ) → held_count x k ≤ held_count y k
  pub made : (k : ℕ) → k < 64 → made_count x k ≤ made_count y k
  pub full : (k : ℕ) → k < 64 → (made_count y k ≡ made_count x k) ⊎ (made_count y k ≡ held_count y k)

-- nothing was made
pub record Shrinks (x y : Store) : Type 0 where
  pub last : IsLastReused y
  pub made : y.made ≡ x.made

-- one of both
pub record Follows (x y : Store) : Type 0 where
  pub last : IsLastReused y
  pub made : (k : ℕ) → k < 64 → made_count x k ≤ made_count y k
  pub full : (k : ℕ) → k < 64 → (made_count y k ≡ made_count x k) ⊎ (made_count y k ≡ held_count y k)

-- no more cells are held than were made
pub held_within : (x : Store) → IsLastReused x → (k : ℕ) → k < 64 → held_count x k ≤ made_count x k
held_within x last k small = omega (arith, last.balance k small)

pub grows_follow : (x y : Store) → Grows x y → Follows x y
grows_follow x y h = record { last = h.last; made = h.made; full = h.full }

same_made : (x y : Store) → y.made ≡ x.made → (k : ℕ) → made_count y k ≡ made_count x k
same_made x y made k = ap (λ counts. slice_index counts k) made

pub shrinks_follow : (x y : Store) → Shrinks x y → Follows x y
shrinks_follow x y h = record {
  last = h.last;
  made = λ k small. let same = same_made x y h.made k in omega arith;
  full = λ k small. inl (same_made x y h.made k);
}

pub same_grows : (x : Store) → IsLastReused x → Grows x x
same_grows x last = record { last = last; held = λ k. omega arith; made = λ k small. omega arith; full = λ k small. inl refl }

pub same_shrinks : (x : Store) → IsLastReused x → Shrinks x x
same_shrinks x last = record { last = last; made = refl }

-- numbers of cells made in three stores one after the other, and of those held in the last two
full_then : (a b c held later : ℕ) → held ≤ later → later ≤ c → (b ≡ a) ⊎ (b ≡ held) → (c ≡ b) ⊎ (c ≡ later) → (c ≡ a) ⊎ (c ≡ later)
full_then a b c held later more within (inl first) (inl second) = inl (second ∙ first)
full_then a b c held later more within (inr first) (inl second) = inr (omega arith)
full_then a b c held later more within first (inr second) = inr second

pub then_grows : (x y z : Store) → Grows x y → Grows y z → Grows x z
then_grows x y z first second = record {
  last = second.last;
  held = λ k. let one = first.held k in let two = second.held k in omega arith;
  made = λ k small. let one = first.made k small in let two = second.made k small in omega arith;
  full = λ k small.
      full_then (made_count x k) (made_count y k) (made_count z k) (held_count y k) (held_count z k) (second.held k) (held_within z second.last k small)
      (first.full k small) (second.full k small);
}

pub then_shrinks : (x y z : Store) → Shrinks x y → Shrinks y z → Shrinks x z
then_shrinks x y z first second = record { last = second.last; made = second.made ∙ first.made }

-- ---- objects that change

-- the cells stay, and the words of each object
with_grows : (store : Store) (cell : ℕ) (old object : Object) → IsLastReused store → object_at store cell ≡ Some old → object.birth ≡ old.birth
    → object_words object ≡ object_words old → Grows store (with_object store cell object)
with_grows store cell old object last held birth words = record {
  last = IsLastReused-with_object store cell old object last held birth words;
  held = λ k. let same = held_count-with_object store cell old object k held words in omega arith;
  made = λ k small. omega arith;
  full = λ k small. inl refl;
}

pub put_grows : (store : Store) (cell place element : ℕ) → IsLastReused store → Grows store (put_by store cell place element)
put_grows store cell place element last = by_object (object_at store cell) refl where
  by_object : (found : Option Object) → object_at store cell ≡ found → Grows store (put_by store cell place element)
  by_object None is = subst (Grows store) (sym (put_by-none store cell place element is)) (same_grows store last)
  by_object (Some object) is =
      subst (Grows store) (sym (put_by-some store cell place element object is))
      (with_grows store cell object (with_element object place element) last is refl (object_words-with_element object place element))

pub chain_grows : (store : Store) (cell to : ℕ) → IsLastReused store → Grows store (chained_by store cell to)
chain_grows store cell to last = by_object (object_at store cell) refl where
  by_object : (found : Option Object) → object_at store cell ≡ found → Grows store (chained_by store cell to)
  by_object None is = subst (Grows store) (sym (chained_by-none store cell to is)) (same_grows store last)
  by_object (Some object) is =
      subst (Grows store) (sym (chained_by-some store cell to object is)) (with_grows store cell object (with_chain object to) last is refl refl)

-- ---- objects that are freed

pub freed_shrinks : (store : Store) (cell : ℕ) → IsLastReused store → Shrinks store (freed_by store cell)
freed_shrinks store cell last = by_object (object_at store cell) refl where
  by_fixed : (fixed : Bool) (object : Object) → object_at store cell ≡ Some object → Shrinks store (cond fixed store (without_object store cell object))
  by_fixed true object held = same_shrinks store last
  by_fixed false object held = record { last = IsLastReused-without_object store cell object last held; made = refl }

  by_object : (found : Option Object) → object_at store cell ≡ found → Shrinks store (freed_by store cell)
  by_object None is = subst (Shrinks store) (sym (freed_by-none store cell is)) (same_shrinks store last)
  by_object (Some object) is = subst (Shrinks store) (sym (freed_by-some store cell object is)) (by_fixed object.fixed object is)

-- ---- objects that are made

-- a freed cell of the size class is taken
head_grows : (store : Store) (request : Request) (cell : ℕ) (rest : List ℕ) → IsLastReused store
    → free_cells store (request_size_class request) ≡ cell ∷ rest → Grows store (made_by store request (Take cell false))
head_grows store request cell rest last is =
    let may = MayReuse-head store request cell rest false last is in record {
      last = IsLastReused-head store request cell rest last is;
      held = λ k. let more = held_count-made_by store request cell false k may.1 in omega arith;
      made = λ k small. omega arith;
      full = λ k small. inl refl;
    }

-- there is none, so all cells of the size class are held, and one more is made
fresh_grows : (store : Store) (request : Request) → IsLastReused store → passes_limit store request ≡ false
    → free_cells store (request_size_class request) ≡ [] → Grows store (made_by store request (Take (store.made_words + 1) true))
fresh_grows store request last within none = record {
  last = later;
  held = λ k. let more = held_count-made_by store request cell true k may.1 in omega arith;
  made = λ k small. by_class k (cases_eq k class);
  full = λ k small. full_by k small (cases_eq k class);
} where
  class : ℕ
  class = request_size_class request

  cell : ℕ
  cell = store.made_words + 1

  next : Store
  next = made_by store request (Take cell true)

  may : MayReuse store request (Take cell true)
  may = MayReuse-after store request true last

  later : IsLastReused next
  later = IsLastReused-fresh store request last within none

  below : class < length store.made
  below = omega (arith, request_size_class-lt request, last.counts)

  here : (k : ℕ) → k ≡ class → made_count next k ≡ made_count store k + 1
  here k same =
      ap (λ j. get_or (set store.made class (made_count store class + 1)) j 0) same
      ∙ get_or-set_same store.made class (made_count store class + 1) 0 below ∙ ap (λ j. made_count store j + 1) (sym same)

  elsewhere : (k : ℕ) → k ≢ class → made_count next k ≡ made_count store k
  elsewhere k other = get_or-set_other store.made class k (made_count store class + 1) 0 other

  by_class : (k : ℕ) → (k ≡ class) ⊎ (k ≢ class) → made_count store k ≤ made_count next k
  by_class k (inl same) = let more = here k same in omega arith
  by_class k (inr other) = let kept = elsewhere k other in omega arith

  full_by : (k : ℕ) → k < 64 → (k ≡ class) ⊎ (k ≢ class) → (made_count next k ≡ made_count store k) ⊎ (made_count next k ≡ held_count next k)
  full_by k small (inl same) =
      let empty : free_cells next k ≡ [] = free_cells-fresh store request last none k ∙ ap (free_cells store) same ∙ none in
      inr (omega (arith, later.balance k small, ap length empty))
  full_by k small (inr other) = inl (elsewhere k other)

-- whatever cell is taken, and where the store is full
pub made_grows : (store : Store) (request : Request) → IsLastReused store → Grows store (made_by store request (last_choice store request))
made_grows store request last = by_cells (free_cells store (request_size_class request)) refl where
  by_limit : (full : Bool) → passes_limit store request ≡ full → free_cells store (request_size_class request) ≡ []
      → Grows store (made_by store request (cond full RefuseStore (Take (store.made_words + 1) true)))
  by_limit true is none = same_grows store last
  by_limit false is none = fresh_grows store request last is none

  by_cells : (cells : List ℕ) → free_cells store (request_size_class request) ≡ cells
      → Grows store (made_by store request (last_choice_among cells store request))
  by_cells [] is = by_limit (passes_limit store request) refl is
  by_cells (cell ∷ rest) is = head_grows store request cell rest last is

-- ---- the elements of what is made

-- the content that is named has the length of the object; with none named its elements stay
abbrev pub HasContent : ℕ → List ℕ → Type 0
HasContent len [] = Unit {0}
HasContent len (element ∷ elements) = length (element ∷ elements) ≡ len

-- what `with_content` makes of the object that it finds
abbrev content_in : Store → ℕ → ℕ → List ℕ → Option Object → Store
content_in store cell element elements None = store
content_in store cell element elements (Some object) = with_object store cell (record object { elements = element ∷ elements })

pub content_grows : (store : Store) (cell : ℕ) (object : Object) (content : List ℕ) → IsLastReused store → object_at store cell ≡ Some object
    → HasContent (length object.elements) content → Grows store (with_content store cell content)
content_grows store cell object [] last held has = same_grows store last
content_grows store cell object (element ∷ elements) last held has =
    subst (Grows store) (sym (ap (content_in store cell element elements) held))
    (with_grows store cell object (record object { elements = element ∷ elements }) last held refl (ap (λ len. packed_words len object.pack) has))
