-- What is held before actions is held after them, but for what they free: and the cells of that are operands or chains, which lead within the range of cells.
use Rattle.std.proofs.Common.{◌≡◌, ℕ, zero, suc, ◌+◌, ◌^◌, ◌<◌, ◌⊎◌, Bool, true, false, cond, nat_eq, List, [], ◌∷◌, ◌++◌, length, Option, Some, None, is_some, refl, sym, ◌∙◌, ap, subst, inl, inr, slice_set, arith, ⊎_elim}
use Rattle.std.specs.Prelude.{IsSome, option_map}
use Rattle.std.specs.List.{AllByRecursion}
use Rattle.std.proofs.lemmas.Bool.Decides.{nat_tests}
use Rattle.std.proofs.lemmas.Option.{same_Some}
use Rattle.std.proofs.lemmas.Bool.{cases_lt}
use Rattle.std.proofs.lemmas.List.{get_or_past}
use Rattle.std.specs.List.{All}
use Rattle.fm_base.proofs.OptionFacts.{option_map-some}
use Rattle.fm_cells.proofs.Changes.{object_at-made_by, object_at-with_object, object_at-without_object}
use Rattle.fm_cells.proofs.Elements.{chained_by-none, chained_by-some, freed_by-some, put_by-none, put_by-some}
use Rattle.fm_cells.specs.Changes.{Choice, chained_by, freed_by, made_by, put_by, RefuseStore, Take, with_chain, with_element, with_object, without_object}
use Rattle.fm_cells.specs.Objects.{new_object, Object, object_words, Request}
use Rattle.fm_cells.specs.Stores.{IsHeld, object_at, Store}
use Rattle.fm_world.specs.Programs.{Outline}
use Rattle.fm_frames.specs.Acts.{all_freed, cell_of, cells_with, chain_cells, chain_freed, chain_from, chained, Choose, copied, Did, freed, freed_object, FullAt, is_there, literal_made, literal_text, literal_type, LostAt, made_then, performed, Performed, requested, set_static, value_of, with_content}
use Rattle.fm_frames.specs.Effects.{Action, Make, MakeFixed, MakeLiteral, Put, SetStatic, Start, Free, SetChain, FreeChain, Copy}
use Rattle.fm_frames.specs.Elements.{kept}
use Rattle.fm_frames.specs.States.{Areas, Frame, word_at}
use Rattle.fm_frames.specs.declared.values.Value.{Value}
use Rattle.fm_frames.specs.declared.values.Value.TheVariants as value
use Rattle.fm_law_sound.specs.HeldCells.{FrameLeadsWithin, LeadsWithin}
use Rattle.fm_law_sound.specs.Leading.{sources_of}
use Rattle.fm_law_sound.proofs.ActsKeep.{content_in, heap_put}

-- a word of a stack or a local
pub word_within : (words : List Value) → All LeadsWithin words → (n : ℕ) → LeadsWithin (word_at words n)
word_within words all n = elim (cases_lt n (length words)) as (λ _. LeadsWithin (word_at words n)) [
  | inl inside ↦ all n value.Top inside
  | inr past ↦ subst LeadsWithin (sym (get_or_past words n value.Top past)) (omega arith)
]

-- ---- stores

-- each object that is held is chained to a cell within the range
abbrev pub ChainsFit : Store → Type 0
ChainsFit store = (cell : ℕ) (object : Object) → object_at store cell ≡ Some object → object.chain < 2 ^ 32

-- what was held is held, or its cell is within the range; and chains stay so
pub record Stays (store later : Store) : Type 0 where
  pub held : (cell : ℕ) → IsHeld store cell → IsHeld later cell ⊎ (cell < 2 ^ 32)
  pub chains : ChainsFit store → ChainsFit later

same_stays : (store : Store) → Stays store store
same_stays store = record { held = λ cell held. inl held; chains = λ chains. chains }

pub then_stays : (store middle later : Store) → Stays store middle → Stays middle later → Stays store later
then_stays store middle later first second = record {
  held = λ cell held. ⊎_elim (λ still. second.held cell still) (λ small. inr small) (first.held cell held);
  chains = λ chains. second.chains (first.chains chains);
}

-- an object that is put into a cell
put_stays : (store later : Store) (cell : ℕ) (object : Object) → (ChainsFit store → object.chain < 2 ^ 32)
    → ((q : ℕ) → object_at later q ≡ cond (nat_eq q cell) (Some object) (object_at store q)) → Stays store later
put_stays store later cell object fits at = record {
  held = λ q held. inl (by_test q (nat_eq q cell) (at q) held);
  chains = λ chains. heap_put (λ y. y.chain < 2 ^ 32) store later cell object (fits chains) at chains;
} where
  by_test : (q : ℕ) (b : Bool) → object_at later q ≡ cond b (Some object) (object_at store q) → IsHeld store q → IsHeld later q
  by_test q true is held = ap is_some is
  by_test q false is held = subst IsSome (sym is) held

made_stays : (store : Store) (request : Request) (cell : ℕ) (grows : Bool) → Stays store (made_by store request (Take cell grows))
made_stays store request cell grows =
    put_stays store (made_by store request (Take cell grows)) cell (new_object store.births request) (λ chains. omega arith)
    (object_at-made_by store request cell grows)

content_stays : (store : Store) (cell : ℕ) (content : List ℕ) → Stays store (with_content store cell content)
content_stays store cell [] = same_stays store
content_stays store cell (unit ∷ units) = by_object (object_at store cell) refl where
  by_object : (found : Option Object) → object_at store cell ≡ found → Stays store (content_in store cell unit units found)
  by_object None is = same_stays store
  by_object (Some object) is =
      let object_now : Object = record object { elements = unit ∷ units } in
      put_stays store (with_object store cell object_now) cell object_now (λ chains. chains cell object is) (object_at-with_object store cell object_now)

pub filled_stays : (store : Store) (request : Request) (cell : ℕ) (grows : Bool) (content : List ℕ)
    → Stays store (with_content (made_by store request (Take cell grows)) cell content)
filled_stays store request cell grows content =
    let middle : Store = made_by store request (Take cell grows) in
    then_stays store middle (with_content middle cell content) (made_stays store request cell grows) (content_stays middle cell content)

pub element_stays : (store : Store) (cell place element : ℕ) → Stays store (put_by store cell place element)
element_stays store cell place element = by_object (object_at store cell) refl where
  by_object : (found : Option Object) → object_at store cell ≡ found → Stays store (put_by store cell place element)
  by_object None is = subst (Stays store) (sym (put_by-none store cell place element is)) (same_stays store)
  by_object (Some object) is =
      let now : Object = with_element object place element in
      subst (Stays store) (sym (put_by-some store cell place element object is))
      (put_stays store (with_object store cell now) cell now (λ chains. chains cell object is) (object_at-with_object store cell now))

chain_stays : (store : Store) (cell to : ℕ) → to < 2 ^ 32 → Stays store (chained_by store cell to)
chain_stays store cell to fits = by_object (object_at store cell) refl where
  by_object : (found : Option Object) → object_at store cell ≡ found → Stays store (chained_by store cell to)
  by_object None is = subst (Stays store) (sym (chained_by-none store cell to is)) (same_stays store)
  by_object (Some object) is =
      let now : Object = with_chain object to in
      subst (Stays store) (sym (chained_by-some store cell to object is))
      (put_stays store (with_object store cell now) cell now (λ chains. fits) (object_at-with_object store cell now))

-- ---- frees

gone_stays : (store : Store) (cell : ℕ) (object : Object) → cell < 2 ^ 32 → Stays store (without_object store cell object)
gone_stays store cell object fits = record {
  held = λ q held. by_test q (nat_eq q cell) refl (object_at-without_object store cell object q) held;
  chains = λ chains q found is. by_there q found (nat_eq q cell) (sym (object_at-without_object store cell object q) ∙ is) chains;
} where
  by_test : (q : ℕ) (b : Bool) → nat_eq q cell ≡ b → object_at (without_object store cell object) q ≡ cond b None (object_at store q) → IsHeld store q
      → IsHeld (without_object store cell object) q ⊎ (q < 2 ^ 32)
  by_test q true e is held = let here : q ≡ cell = grind (arith, nat_tests, e) in inr (subst (λ n. n < 2 ^ 32) (sym here) fits)
  by_test q false e is held = inl (subst IsSome (sym is) held)

  by_there : (q : ℕ) (found : Object) (b : Bool) → cond b None (object_at store q) ≡ Some found → ChainsFit store → found.chain < 2 ^ 32
  by_there q found true is chains = absurd (cc)
  by_there q found false is chains = chains q found is

freed_stays : (x : Areas) (cell : ℕ) → cell < 2 ^ 32 → Stays x.store (freed x cell).store
freed_stays x cell fits = by_object (object_at x.store cell) refl where
  by_fixed : (b : Bool) (object : Object) → object_at x.store cell ≡ Some object → object.fixed ≡ b
      → Stays x.store (cond b x (record x { store = freed_by x.store cell; frees = x.frees + 1; freed_words = x.freed_words + object_words object })).store
  by_fixed true object held is = same_stays x.store
  by_fixed false object held is =
      let after : freed_by x.store cell ≡ without_object x.store cell object =
      freed_by-some x.store cell object held ∙ ap (λ b. cond b x.store (without_object x.store cell object)) is in
      subst (Stays x.store) (sym after) (gone_stays x.store cell object fits)

  by_object : (found : Option Object) → object_at x.store cell ≡ found → Stays x.store (freed_object x cell found).store
  by_object None held = same_stays x.store
  by_object (Some object) held = by_fixed object.fixed object held refl

all_freed_stay : (x : Areas) (cells : List ℕ) → AllByRecursion (λ cell. cell < 2 ^ 32) cells → Stays x.store (all_freed x cells).store
all_freed_stay x [] fits = same_stays x.store
all_freed_stay x (cell ∷ cells) fits =
    then_stays x.store (freed x cell).store (all_freed (freed x cell) cells).store (freed_stays x cell fits.0) (all_freed_stay (freed x cell) cells fits.1)

-- the cells of a chain are within the range
pub chain_within : (bound : ℕ) (store : Store) (cell : ℕ) (cells : List ℕ) → ChainsFit store → cell < 2 ^ 32 → chain_cells bound store cell ≡ Some cells
    → AllByRecursion (λ c. c < 2 ^ 32) cells
unfolding chain_cells
chain_within bound store zero cells chains fits is = subst (AllByRecursion (λ c. c < 2 ^ 32)) (same_Some [] cells is) tt
chain_within zero store (suc cell) cells chains fits is = absurd (cc)
chain_within (suc bound) store (suc cell) cells chains fits is =
    by_object (object_at store (suc cell)) refl is (λ to rest within more. chain_within bound store to rest chains within more) where
      by_fixed : (b : Bool) (to : ℕ) → to < 2 ^ 32 → cond b (Some []) (option_map (λ others. suc cell ∷ others) (chain_cells bound store to)) ≡ Some cells
          → ((to : ℕ) (rest : List ℕ) → to < 2 ^ 32 → chain_cells bound store to ≡ Some rest → AllByRecursion (λ c. c < 2 ^ 32) rest)
          → AllByRecursion (λ c. c < 2 ^ 32) cells
      by_fixed true to within found more = subst (AllByRecursion (λ c. c < 2 ^ 32)) (same_Some [] cells found) tt
      by_fixed false to within found more =
          let parts = option_map-some (λ others. suc cell ∷ others) (chain_cells bound store to) cells found in
          subst (AllByRecursion (λ c. c < 2 ^ 32)) parts.2 (fits, more to parts.0 within parts.1)

      by_object : (found : Option Object) → object_at store (suc cell) ≡ found
          → cells_with (suc cell) found (λ object. chain_cells bound store object.chain) ≡ Some cells
          → ((to : ℕ) (rest : List ℕ) → to < 2 ^ 32 → chain_cells bound store to ≡ Some rest → AllByRecursion (λ c. c < 2 ^ 32) rest)
          → AllByRecursion (λ c. c < 2 ^ 32) cells
      by_object None held found more = absurd (cc)
      by_object (Some object) held found more = by_fixed object.fixed object.chain (chains (suc cell) object held) found more

-- ---- along the actions

-- the cell is held where all actions were done or the store was full, or it is within the range
abbrev pub IsIn : ℕ → Performed → Type 0
IsIn cell (Did x made) = IsHeld x.store cell ⊎ (cell < 2 ^ 32)
IsIn cell (FullAt x needed) = IsHeld x.store cell ⊎ (cell < 2 ^ 32)
IsIn cell (LostAt v) = Unit {0}

small_in : (cell : ℕ) (result : Performed) → cell < 2 ^ 32 → IsIn cell result
small_in cell (Did x made) small = inr small
small_in cell (FullAt x needed) small = inr small
small_in cell (LostAt v) small = tt

onto : (store later : Store) (result : Performed) (cell : ℕ) → Stays store later → ChainsFit store → IsHeld store cell
    → (ChainsFit later → IsHeld later cell → IsIn cell result) → IsIn cell result
onto store later result cell stays chains held rest =
    ⊎_elim (λ still. rest (stays.chains chains) still) (λ small. small_in cell result small) (stays.held cell held)

made_stay : (x : Areas) (request : Request) (content : List ℕ) (choice : Choice) (follows : Areas → ℕ → Performed) (cell : ℕ) → ChainsFit x.store
    → IsHeld x.store cell → ((later : Store) (made : ℕ) → ChainsFit later → IsHeld later cell → IsIn cell (follows (record x { store = later }) made))
    → IsIn cell (made_then x request content choice follows)
made_stay x request content RefuseStore follows cell chains held rest = inl held
made_stay x request content (Take made grows) follows cell chains held rest =
    let later : Store = with_content (made_by x.store request (Take made grows)) made content in
    onto x.store later (follows (record x { store = later }) made) cell (filled_stays x.store request made grows content) chains held (rest later made)

either_in : (cell : ℕ) (b : Bool) (one other : Performed) → IsIn cell one → IsIn cell other → IsIn cell (cond b one other)
either_in cell true one other first second = first
either_in cell false one other first second = second

module _ (o : Outline) (choose : Choose) (f : Frame) (within : FrameLeadsWithin f) where
  pub acts_stay : (actions : List Action) (x : Areas) (made : List ℕ) → ChainsFit x.store → (cell : ℕ) → IsHeld x.store cell
      → IsIn cell (performed o choose f.locals f.stack actions x made)
  unfolding performed
  acts_stay [] x made chains cell held = inl held
  acts_stay (Make t len content ∷ more) x made chains cell held =
      made_stay x (requested o t len false) content (choose x.store (requested o t len false))
      (λ y c. performed o choose f.locals f.stack more y (made ++ c ∷ [])) cell chains held
      (λ later c fits still. acts_stay more (record x { store = later }) (made ++ c ∷ []) fits cell still)
  acts_stay (MakeFixed t ∷ more) x made chains cell held =
      made_stay x (requested o t 0 true) [] (choose x.store (requested o t 0 true))
      (λ y c. performed o choose f.locals f.stack more y (made ++ c ∷ [])) cell chains held
      (λ later c fits still. acts_stay more (record x { store = later }) (made ++ c ∷ []) fits cell still)
  acts_stay (MakeLiteral text ∷ more) x made chains cell held =
      let request : Request = requested o (literal_type o text) (length (literal_text o text)) true in
      either_in cell (is_there x text) _ _ (acts_stay more x made chains cell held)
      (made_stay x request (literal_text o text) (choose x.store request)
      (λ y c. performed o choose f.locals f.stack more (literal_made y text c) made) cell chains held
      (λ later c fits still. acts_stay more (literal_made (record x { store = later }) text c) made fits cell still))
  acts_stay (Put object place k v ∷ more) x made chains cell held =
      let target : ℕ = cell_of (value_of (sources_of f x made) object) in
      let element : ℕ = kept k (value_of (sources_of f x made) v) in
      onto x.store (put_by x.store target place element) (performed o choose f.locals f.stack (Put object place k v ∷ more) x made) cell
      (element_stays x.store target place element) chains held
      (λ fits still. acts_stay more (record x { store = put_by x.store target place element }) made fits cell still)
  acts_stay (SetStatic slot k v ∷ more) x made chains cell held =
      acts_stay more (set_static x slot k (value_of (sources_of f x made) v)) made chains cell held
  acts_stay (Start class ∷ more) x made chains cell held =
      acts_stay more (record x { started = slice_set x.started class true }) made chains cell held
  acts_stay (Free operand ∷ more) x made chains cell held =
      let target : ℕ = cell_of (word_at f.stack operand) in
      onto x.store (freed x target).store (performed o choose f.locals f.stack more (freed x target) made) cell
      (freed_stays x target (word_within f.stack within.stack operand)) chains held
      (λ fits still. acts_stay more (freed x target) made fits cell still)
  acts_stay (SetChain operand to ∷ more) x made chains cell held =
      let target : ℕ = cell_of (word_at f.stack operand) in
      let end : ℕ = cell_of (word_at f.stack to) in
      onto x.store (chained_by x.store target end) (performed o choose f.locals f.stack more (chained x target end) made) cell
      (chain_stays x.store target end (word_within f.stack within.stack to)) chains held
      (λ fits still. acts_stay more (chained x target end) made fits cell still)
  acts_stay (FreeChain operand ∷ more) x made chains cell held =
      by_chain (chain_from x.store (cell_of (word_at f.stack operand))) refl (λ y fits still. acts_stay more y made fits cell still) where
        by_chain : (cells : Option (List ℕ)) → chain_from x.store (cell_of (word_at f.stack operand)) ≡ cells
            → ((y : Areas) → ChainsFit y.store → IsHeld y.store cell → IsIn cell (performed o choose f.locals f.stack more y made))
            → IsIn cell (chain_freed x (word_at f.stack operand) cells (λ y. performed o choose f.locals f.stack more y made))
        by_chain None is rest = tt
        by_chain (Some cells) is rest =
            onto x.store (all_freed x cells).store (performed o choose f.locals f.stack more (all_freed x cells) made) cell
            (all_freed_stay x cells (chain_within _ x.store (cell_of (word_at f.stack operand)) cells chains (word_within f.stack within.stack operand) is))
            chains held (λ fits still. rest (all_freed x cells) fits still)
  acts_stay (Copy t len operand ∷ more) x made chains cell held =
      made_stay x (requested o t len false) (copied x.store (cell_of (word_at f.stack operand)) len) (choose x.store (requested o t len false))
      (λ y c. performed o choose f.locals f.stack more y (made ++ c ∷ [])) cell chains held
      (λ later c fits still. acts_stay more (record x { store = later }) (made ++ c ∷ []) fits cell still)
