-- What actions do to the cells of each size class: those that free nothing let them grow, those that only free let them shrink.
use Rattle.std.proofs.Common.{◌≡◌, ℕ, ◌+◌, nat_eq, arith, Bool, true, false, cond, List, [], ◌∷◌, ◌++◌, length, Option, Some, None, refl, sym, ◌∙◌, ap, subst, slice_set}
use Rattle.std.specs.List.{AllByRecursion}
use Rattle.std.proofs.lemmas.Bool.Decides.{nat_tests}
use Rattle.std.proofs.lemmas.List.{length-replicate}
use Rattle.fm_cells.specs.Changes.{Choice, freed_by, made_by, put_by, RefuseStore, Take}
use Rattle.fm_cells.specs.Choices.{last_choice, lawful}
use Rattle.fm_cells.specs.Objects.{new_object, Object, object_words, Request}
use Rattle.fm_cells.specs.Soundness.{IsLastReused}
use Rattle.fm_cells.specs.Stores.{elements_at, object_at, Store}
use Rattle.fm_cells.proofs.Changes.{object_at-made_by}
use Rattle.fm_cells.proofs.Choices.{lawful_choice-left, MayReuse-last_choice}
use Rattle.fm_world.specs.Programs.{Outline}
use Rattle.fm_frames.specs.Acts.{all_freed, cell_of, chain_freed, chain_from, chained, Choose, copied, Did, freed, freed_object, FullAt, is_there, literal_made, literal_text, literal_type, LostAt, made_then, performed, Performed, requested, set_static, value_of, with_content}
use Rattle.fm_frames.proofs.Resized.{length-resized}
use Rattle.fm_frames.specs.Acts as acts
use Rattle.fm_frames.specs.Effects.{Action, Copy, Free, FreeChain, Make, MakeFixed, MakeLiteral, Put, SetChain, SetStatic, Start}
use Rattle.fm_frames.specs.Elements.{kept}
use Rattle.fm_frames.specs.States.{Areas, word_at}
use Rattle.fm_frames.specs.declared.values.Value.{Value}
use Rattle.fm_law_cells_made.proofs.Counts.{chain_grows, content_grows, Follows, freed_shrinks, Grows, HasContent, made_grows, put_grows, same_shrinks, Shrinks, then_grows, then_shrinks}

-- how the memory meets requests
abbrev pub choice : Choose
choice = lawful last_choice

-- ---- actions

-- frees nothing, and gives each object that it makes as many elements as are named
abbrev pub IsGrowing : Action → Type 0
IsGrowing (Make t len content) = HasContent len content
IsGrowing (Free operand) = ⊥
IsGrowing (FreeChain operand) = ⊥
IsGrowing action = Unit {0}

-- frees
abbrev pub IsFreeing : Action → Type 0
IsFreeing (Free operand) = Unit {0}
IsFreeing (FreeChain operand) = Unit {0}
IsFreeing action = ⊥

-- as many elements as there are
pub own_content : (content : List ℕ) → HasContent (length content) content
own_content [] = tt
own_content (element ∷ elements) = refl

-- as many as are asked for
long_content : (len : ℕ) (content : List ℕ) → length content ≡ len → HasContent len content
long_content len [] all = tt
long_content len (element ∷ elements) all = all

-- ---- their results

-- wherever the actions led, from this store on
abbrev pub LeadsBy : (Store → Store → Type 0) → Store → Performed → Type 0
LeadsBy R store (Did x made) = R store x.store
LeadsBy R store (FullAt x needed) = R store x.store
LeadsBy R store (LostAt v) = Unit {0}

pub leads_follow : (R : Store → Store → Type 0) → ((x y : Store) → R x y → Follows x y) → (store : Store) (result : Performed) → LeadsBy R store result
    → LeadsBy Follows store result
leads_follow R each store (Did x made) h = each store x.store h
leads_follow R each store (FullAt x needed) h = each store x.store h
leads_follow R each store (LostAt v) h = tt

-- the object that is made, with its content
pub filled_grows : (store : Store) (request : Request) (content : List ℕ) (cell : ℕ) (grows : Bool) → IsLastReused store → HasContent request.len content
    → lawful last_choice store request ≡ Take cell grows → Grows store (with_content (made_by store request (Take cell grows)) cell content)
filled_grows store request content cell grows last has takes =
    let is : last_choice store request ≡ Take cell grows =
    sym (lawful_choice-left store request (last_choice store request) (MayReuse-last_choice store request last)) ∙ takes in
    let middle : Store = made_by store request (Take cell grows) in
    let object : Object = new_object store.births request in
    let first : Grows store middle = subst (λ c. Grows store (made_by store request c)) is (made_grows store request last) in
    let there : object_at middle cell ≡ Some object = object_at-made_by store request cell grows cell ∙ ap (λ b. cond b (Some object) (object_at store cell)) (same_cell cell) in
    let long : length object.elements ≡ request.len = length-replicate request.len 0 in
    then_grows store middle (with_content middle cell content) first
    (content_grows middle cell object content first.last there (subst (λ len. HasContent len content) (sym long) has)) where
      same_cell : (n : ℕ) → nat_eq n n ≡ true
      same_cell n = grind (arith, nat_tests)

-- ---- making

module _ (o : Outline) (locals stack : List Value) where
  abbrev Goes : Store → Performed → Type 0
  Goes store result = LeadsBy Grows store result

  goes_on : (store : Store) (x : Areas) (request : Request) (content : List ℕ) (chosen : Choice) (follows : Areas → ℕ → Performed) → IsLastReused x.store
      → HasContent request.len content → Grows store x.store → choice x.store request ≡ chosen
      → ((later : Store) (cell : ℕ) → Grows store later → Goes store (follows (record x { store = later }) cell))
      → Goes store (made_then x request content chosen follows)
  goes_on store x request content RefuseStore follows last has h is rest = h
  goes_on store x request content (Take cell grows) follows last has h is rest =
      let later : Store = with_content (made_by x.store request (Take cell grows)) cell content in
      rest later cell (then_grows store x.store later h (filled_grows x.store request content cell grows last has is))

  either_goes : (store : Store) (b : Bool) (one other : Performed) → Goes store one → Goes store other → Goes store (cond b one other)
  either_goes store true one other first second = first
  either_goes store false one other first second = second

  pub acts_grow : (store : Store) (actions : List Action) (x : Areas) (made : List ℕ) → AllByRecursion IsGrowing actions → Grows store x.store
      → Goes store (performed o choice locals stack actions x made)
  unfolding performed
  acts_grow store [] x made all h = h
  acts_grow store (Make t len content ∷ more) x made all h =
      goes_on store x (requested o t len false) content (choice x.store (requested o t len false))
      (λ y cell. performed o choice locals stack more y (made ++ cell ∷ [])) h.last all.0 h refl
      (λ later cell goes. acts_grow store more (record x { store = later }) (made ++ cell ∷ []) all.1 goes)
  acts_grow store (MakeFixed t ∷ more) x made all h =
      goes_on store x (requested o t 0 true) [] (choice x.store (requested o t 0 true))
      (λ y cell. performed o choice locals stack more y (made ++ cell ∷ [])) h.last tt h refl
      (λ later cell goes. acts_grow store more (record x { store = later }) (made ++ cell ∷ []) all.1 goes)
  acts_grow store (MakeLiteral text ∷ more) x made all h =
      let request : Request = requested o (literal_type o text) (length (literal_text o text)) true in
      either_goes store (is_there x text) _ _ (acts_grow store more x made all.1 h)
      (goes_on store x request (literal_text o text) (choice x.store request)
      (λ y cell. performed o choice locals stack more (literal_made y text cell) made) h.last (own_content (literal_text o text)) h refl
      (λ later cell goes. acts_grow store more (literal_made (record x { store = later }) text cell) made all.1 goes))
  acts_grow store (Put object place k v ∷ more) x made all h =
      let from : acts.Sources = record { locals = locals; stack = stack; areas = x; made = made } in
      let target : ℕ = cell_of (value_of from object) in
      let element : ℕ = kept k (value_of from v) in
      let later : Store = put_by x.store target place element in
      acts_grow store more (record x { store = later }) made all.1
      (then_grows store x.store later h (put_grows x.store target place element h.last))
  acts_grow store (SetStatic slot k v ∷ more) x made all h =
      let from : acts.Sources = record { locals = locals; stack = stack; areas = x; made = made } in
      acts_grow store more (set_static x slot k (value_of from v)) made all.1 h
  acts_grow store (Start class ∷ more) x made all h = acts_grow store more (record x { started = slice_set x.started class true }) made all.1 h
  acts_grow store (SetChain operand to ∷ more) x made all h =
      let target : ℕ = cell_of (word_at stack operand) in
      let end : ℕ = cell_of (word_at stack to) in
      acts_grow store more (chained x target end) made all.1
      (then_grows store x.store (chained x target end).store h (chain_grows x.store target end h.last))
  acts_grow store (Free operand ∷ more) x made all h = absurd all.0
  acts_grow store (FreeChain operand ∷ more) x made all h = absurd all.0
  acts_grow store (Copy t len operand ∷ more) x made all h =
      let content : List ℕ = copied x.store (cell_of (word_at stack operand)) len in
      goes_on store x (requested o t len false) content (choice x.store (requested o t len false))
      (λ y cell. performed o choice locals stack more y (made ++ cell ∷ [])) h.last
      (long_content len content (length-resized (elements_at x.store (cell_of (word_at stack operand))) len)) h refl
      (λ later cell goes. acts_grow store more (record x { store = later }) (made ++ cell ∷ []) all.1 goes)

-- ---- freeing

one_freed : (x : Areas) (cell : ℕ) → IsLastReused x.store → Shrinks x.store (freed x cell).store
one_freed x cell last = by_object (object_at x.store cell) where
  by_fixed : (fixed : Bool) (object : Object)
      → Shrinks x.store (cond fixed x (record x { store = freed_by x.store cell; frees = x.frees + 1; freed_words = x.freed_words + object_words object })).store
  by_fixed true object = same_shrinks x.store last
  by_fixed false object = freed_shrinks x.store cell last

  by_object : (found : Option Object) → Shrinks x.store (freed_object x cell found).store
  by_object None = same_shrinks x.store last
  by_object (Some object) = by_fixed object.fixed object

all_freed_shrink : (x : Areas) (cells : List ℕ) → IsLastReused x.store → Shrinks x.store (all_freed x cells).store
all_freed_shrink x [] last = same_shrinks x.store last
all_freed_shrink x (cell ∷ cells) last =
    let first : Shrinks x.store (freed x cell).store = one_freed x cell last in
    then_shrinks x.store (freed x cell).store (all_freed (freed x cell) cells).store first (all_freed_shrink (freed x cell) cells first.last)

pub acts_shrink : (o : Outline) (locals stack : List Value) (store : Store) (actions : List Action) (x : Areas) (made : List ℕ)
    → AllByRecursion IsFreeing actions → Shrinks store x.store → LeadsBy Shrinks store (performed o choice locals stack actions x made)
unfolding performed
acts_shrink o locals stack store [] x made all h = h
acts_shrink o locals stack store (Free operand ∷ more) x made all h =
    let cell : ℕ = cell_of (word_at stack operand) in
    acts_shrink o locals stack store more (freed x cell) made all.1 (then_shrinks store x.store (freed x cell).store h (one_freed x cell h.last))
acts_shrink o locals stack store (FreeChain operand ∷ more) x made all h =
    by_chain (chain_from x.store (cell_of (word_at stack operand)))
    (λ y shrinks. acts_shrink o locals stack store more y made all.1 (then_shrinks store x.store y.store h shrinks)) where
      by_chain : (cells : Option (List ℕ))
          → ((y : Areas) → Shrinks x.store y.store → LeadsBy Shrinks store (performed o choice locals stack more y made))
          → LeadsBy Shrinks store (chain_freed x (word_at stack operand) cells (λ y. performed o choice locals stack more y made))
      by_chain None rest = tt
      by_chain (Some cells) rest = rest (all_freed x cells) (all_freed_shrink x cells h.last)
acts_shrink o locals stack store (action ∷ more) x made all h = absurd all.0
