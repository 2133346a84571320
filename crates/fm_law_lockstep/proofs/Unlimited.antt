-- A store without a limit is never full, whatever is done; and a chain leads nowhere only where one is freed.
use Rattle.std.proofs.Common.{◌≡◌, ℕ, ◌+◌, Bool, true, false, cond, List, [], ◌∷◌, ◌++◌, length, Option, Some, None, refl, ◌∙◌, subst}
use Rattle.std.specs.List.{AllByRecursion}
use Rattle.fm_base.proofs.ListFacts.{AllByRecursion-from_every}
use Rattle.fm_cells.proofs.Choices.{lawful_choice-may}
use Rattle.fm_cells.specs.Changes.{chained_by, Choice, freed_by, made_by, on_object, RefuseStore, Take, with_chain, with_object, without_object}
use Rattle.fm_cells.specs.Choices.{lawful, MayReuse}
use Rattle.fm_cells.specs.Objects.{Object, object_words, Request}
use Rattle.fm_cells.specs.Stores.{object_at, Store}
use Rattle.fm_frames.specs.Acts.{all_freed, cell_of, chain_freed, chain_from, chained, Choose, class_started, copied, Did, freed, freed_object, FullAt, is_there, literal_made, literal_text, literal_type, LostAt, made_then, performed, Performed, put_value, requested, set_static, Sources, value_of, with_content}
use Rattle.fm_frames.specs.Effects.{Action, Copy, Free, FreeChain, Make, MakeFixed, MakeLiteral, Put, SetChain, SetStatic, Start}
use Rattle.fm_frames.specs.Elements.{kept}
use Rattle.fm_frames.specs.States.{Areas, word_at}
use Rattle.fm_frames.specs.declared.values.Value.{Value}
use Rattle.fm_law_lockstep.specs.Limits.{UnlimitedIsNeverFull}
use Rattle.fm_law_two_memories.proofs.Limits.{limits_filled, limits_put, unlimited}
use Rattle.fm_world.specs.Programs.{Outline}

-- ---- stores

either_limit : (b : Bool) (one other : Store) (limit : Option ℕ) → one.limit ≡ limit → other.limit ≡ limit → (cond b one other).limit ≡ limit
either_limit true one other limit first second = first
either_limit false one other limit first second = second

freed_by_limit : (store : Store) (cell : ℕ) → (freed_by store cell).limit ≡ store.limit
freed_by_limit store cell = by_object (object_at store cell) where
  by_object : (found : Option Object)
      → (on_object found (λ (object : Object). cond object.fixed store (without_object store cell object)) store).limit ≡ store.limit
  by_object None = refl
  by_object (Some object) = either_limit object.fixed store (without_object store cell object) store.limit refl refl

chained_by_limit : (store : Store) (cell to : ℕ) → (chained_by store cell to).limit ≡ store.limit
chained_by_limit store cell to = by_object (object_at store cell) where
  by_object : (found : Option Object) → (on_object found (λ (object : Object). with_object store cell (with_chain object to)) store).limit ≡ store.limit
  by_object None = refl
  by_object (Some object) = refl

freed_limit : (x : Areas) (cell : ℕ) → (freed x cell).store.limit ≡ x.store.limit
freed_limit x cell = by_object (object_at x.store cell) where
  by_fixed : (object : Object) (b : Bool)
      → (cond b x (record x { store = freed_by x.store cell; frees = x.frees + 1; freed_words = x.freed_words + object_words object })).store.limit ≡ x.store.limit
  by_fixed object true = refl
  by_fixed object false = freed_by_limit x.store cell

  by_object : (found : Option Object) → (freed_object x cell found).store.limit ≡ x.store.limit
  by_object None = refl
  by_object (Some object) = by_fixed object object.fixed

all_freed_limit : (x : Areas) (cells : List ℕ) → (all_freed x cells).store.limit ≡ x.store.limit
all_freed_limit x [] = refl
all_freed_limit x (cell ∷ cells) = all_freed_limit (freed x cell) cells ∙ freed_limit x cell

-- ---- all actions

-- it isn't full, and has no limit; a chain leads nowhere only where that may be
abbrev pub HasRoom : (lossy : Bool) → Performed → Type 0
HasRoom lossy (Did x made) = x.store.limit ≡ None
HasRoom lossy (FullAt x needed) = ⊥
HasRoom lossy (LostAt v) = lossy ≡ true

-- a chain is freed only where that may be
abbrev pub MayLose : (lossy : Bool) → Action → Type 0
MayLose lossy (FreeChain operand) = lossy ≡ true
MayLose lossy action = Unit {0}

any_loses : (action : Action) → MayLose true action
any_loses (FreeChain operand) = refl
any_loses action = tt

made_room : (lossy : Bool) (x : Areas) (request : Request) (content : List ℕ) (choice : Choice) → MayReuse x.store request choice → (follows : Areas → ℕ → Performed)
    → x.store.limit ≡ None → ((later : Store) (cell : ℕ) → later.limit ≡ None → HasRoom lossy (follows (record x { store = later }) cell))
    → HasRoom lossy (made_then x request content choice follows)
made_room lossy x request content RefuseStore may follows is rest = absurd (unlimited x.store request is may)
made_room lossy x request content (Take cell grows) may follows is rest =
    rest (with_content (made_by x.store request (Take cell grows)) cell content) cell ((limits_filled x.store request cell grows content).limit ∙ is)

chain_room : (lossy : Bool) → lossy ≡ true → (x : Areas) (v : Value) (cells : Option (List ℕ)) (follows : Areas → Performed) → x.store.limit ≡ None
    → ((y : Areas) → y.store.limit ≡ None → HasRoom lossy (follows y)) → HasRoom lossy (chain_freed x v cells follows)
chain_room lossy loses x v None follows is rest = loses
chain_room lossy loses x v (Some cells) follows is rest = rest (all_freed x cells) (all_freed_limit x cells ∙ is)

either_room : (lossy b : Bool) (one other : Performed) → HasRoom lossy one → HasRoom lossy other → HasRoom lossy (cond b one other)
either_room lossy true one other first second = first
either_room lossy false one other first second = second

module _ (lossy : Bool) (o : Outline) (choose : Choose) (locals stack : List Value) where
  abbrev may : (store : Store) (request : Request) → MayReuse store request (lawful choose store request)
  may store request = lawful_choice-may store request (choose store request)

  pub acts_room : (actions : List Action) → AllByRecursion (MayLose lossy) actions → (x : Areas) (made : List ℕ) → x.store.limit ≡ None
      → HasRoom lossy (performed o (lawful choose) locals stack actions x made)
  unfolding performed
  acts_room [] fine x made is = is
  acts_room (Make t len content ∷ more) fine x made is =
      let request : Request = requested o t len false in
      made_room lossy x request content (lawful choose x.store request) (may x.store request)
      (λ y cell. performed o (lawful choose) locals stack more y (made ++ cell ∷ [])) is
      (λ later cell none. acts_room more fine.1 (record x { store = later }) (made ++ cell ∷ []) none)
  acts_room (MakeFixed t ∷ more) fine x made is =
      let request : Request = requested o t 0 true in
      made_room lossy x request [] (lawful choose x.store request) (may x.store request)
      (λ y cell. performed o (lawful choose) locals stack more y (made ++ cell ∷ [])) is
      (λ later cell none. acts_room more fine.1 (record x { store = later }) (made ++ cell ∷ []) none)
  acts_room (MakeLiteral text ∷ more) fine x made is =
      let request : Request = requested o (literal_type o text) (length (literal_text o text)) true in
      let follows : Areas → ℕ → Performed = λ y cell. performed o (lawful choose) locals stack more (literal_made y text cell) made in
      either_room lossy (is_there x text) (performed o (lawful choose) locals stack more x made)
      (made_then x request (literal_text o text) (lawful choose x.store request) follows) (acts_room more fine.1 x made is)
      (made_room lossy x request (literal_text o text) (lawful choose x.store request) (may x.store request) follows is
      (λ later cell none. acts_room more fine.1 (literal_made (record x { store = later }) text cell) made none))
  acts_room (Put object place k v ∷ more) fine x made is =
      let from : Sources = record { locals = locals; stack = stack; areas = x; made = made } in
      acts_room more fine.1 (put_value x (value_of from object) place k (value_of from v)) made
      ((limits_put x.store (cell_of (value_of from object)) place (kept k (value_of from v))).limit ∙ is)
  acts_room (SetStatic slot k v ∷ more) fine x made is =
      let from : Sources = record { locals = locals; stack = stack; areas = x; made = made } in
      acts_room more fine.1 (set_static x slot k (value_of from v)) made is
  acts_room (Start class ∷ more) fine x made is = acts_room more fine.1 (class_started x class) made is
  acts_room (Free operand ∷ more) fine x made is =
      acts_room more fine.1 (freed x (cell_of (word_at stack operand))) made (freed_limit x (cell_of (word_at stack operand)) ∙ is)
  acts_room (SetChain operand to ∷ more) fine x made is =
      acts_room more fine.1 (chained x (cell_of (word_at stack operand)) (cell_of (word_at stack to))) made
      (chained_by_limit x.store (cell_of (word_at stack operand)) (cell_of (word_at stack to)) ∙ is)
  acts_room (FreeChain operand ∷ more) fine x made is =
      chain_room lossy fine.0 x (word_at stack operand) (chain_from x.store (cell_of (word_at stack operand)))
      (λ y. performed o (lawful choose) locals stack more y made) is (λ y none. acts_room more fine.1 y made none)
  acts_room (Copy t len operand ∷ more) fine x made is =
      let request : Request = requested o t len false in
      made_room lossy x request (copied x.store (cell_of (word_at stack operand)) len) (lawful choose x.store request) (may x.store request)
      (λ y cell. performed o (lawful choose) locals stack more y (made ++ cell ∷ [])) is
      (λ later cell none. acts_room more fine.1 (record x { store = later }) (made ++ cell ∷ []) none)

pub unlimited_is_never_full : UnlimitedIsNeverFull
unlimited_is_never_full o choose locals stack actions x made is y words full =
    subst (HasRoom true) full
    (acts_room true o choose locals stack actions (AllByRecursion-from_every (MayLose true) any_loses actions) x made is)
