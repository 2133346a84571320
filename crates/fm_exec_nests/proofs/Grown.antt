-- How many objects a step makes: no more than it costs, and one for each text that gets its literal.
use Rattle.std.proofs.Common.{◌≡◌, ℕ, ◌+◌, ◌<◌, ◌≤◌, ◌==◌, Bool, true, false, cond, nat_lt, if◌then◌else◌, List, [], ◌∷◌, ◌++◌, length, max, set, Option, Some, None, refl, ap, sym, ◌∙◌, subst, arith}
use Rattle.std.specs.List.{AllByRecursion, slice_index_or}
use Rattle.std.proofs.lemmas.Bool.{eq-eqb, ltb-false, ne_eqb}
use Rattle.std.proofs.lemmas.List.{length-set}
use Rattle.std.proofs.lemmas.List.Sums.{sum_by-cons, sum_by-set}
use Rattle.std.proofs.lemmas.Option.{none-some}
use Rattle.fm_exec_calls.proofs.StartRoom.{one_if}
use Rattle.fm_exec_calls.specs.inner.Actions.{unmade}
use Rattle.fm_cells.specs.Changes.{chained_by, Choice, freed_by, made_by, on_object, RefuseStore, Take, with_chain, with_object, without_object}
use Rattle.fm_cells.specs.Choices.{IsLawful, MayReuse}
use Rattle.fm_cells.specs.Objects.{Object, object_words, Request}
use Rattle.fm_cells.specs.Stores.{object_at, Store}
use Rattle.fm_frames.proofs.Contents.{content_in}
use Rattle.fm_frames.proofs.OpeningSteps.{put_kept}
use Rattle.fm_frames.proofs.StepCounts.{step_is, stepped}
use Rattle.fm_frames.specs.Acts.{all_freed, cell_of, chain_freed, chain_from, chained, Choose, class_started, copied, Did, freed, freed_object, FullAt, is_there, literal_made, literal_text, literal_type, LostAt, made_then, performed, Performed, put_value, requested, set_static, Sources, value_of, with_content}
use Rattle.fm_frames.specs.Effects.{Action, Effect, Make, MakeFixed, MakeLiteral, Put, SetStatic, Start, Free, SetChain, FreeChain, Copy}
use Rattle.fm_frames.specs.Elements.{kept}
use Rattle.fm_frames.specs.States.{Areas, Frame, Moved, State, word_at}
use Rattle.fm_frames.specs.Steps.{attempted, cost, finished, input_after, is_deep, is_done, is_over, next_effect, objects_made, step}
use Rattle.fm_frames.specs.declared.ends.Ended.{Ended}
use Rattle.fm_frames.specs.declared.values.Value.{Value}
use Rattle.fm_exec_nests.proofs.CostSteps.{next-made}
use Rattle.fm_exec_nests.proofs.RowMakes.{IsMade}
use Rattle.fm_frames.specs.Literals.{literal_count}
use Rattle.fm_law_sound.proofs.Following.{continued_is, followed_areas}
use Rattle.fm_law_sound.specs.Leading.{sources_of}
use Rattle.fm_law_sound.specs.Making.{MakesAreResolved}
use Rattle.fm_law_sound.specs.Resolved.{StepsAreResolved}
use Rattle.fm_law_sound.specs.Sound.{IsSound}
use Rattle.fm_world.specs.Programs.{Outline, Program}

-- how many objects were made, and how many literals may still be
abbrev pub counted : Areas → ℕ
counted x = x.store.births + unmade x.literals

-- no more than this many were made beside the literals
pub record IsGrown (x y : Areas) (n : ℕ) : Type 0 where
  pub few : counted y ≤ counted x + n
  pub many : length y.literals ≡ length x.literals

-- where all actions are done
abbrev pub Grown : Areas → ℕ → Performed → Type 0
Grown x n (Did y made) = IsGrown x y n
Grown x n (FullAt y needed) = Unit {0}
Grown x n (LostAt v) = Unit {0}

grown-then : (x later : Areas) (m n k : ℕ) (result : Performed) → IsGrown x later m → k ≡ m + n → Grown later n result → Grown x k result
grown-then x later m n k (Did y made) first sum second =
    let one = first.few in
    let other = second.few in
    record { few = omega (arith, one, other, sum); many = second.many ∙ first.many }
grown-then x later m n k (FullAt y needed) first sum second = tt
grown-then x later m n k (LostAt v) first sum second = tt

still-grown : (x later : Areas) → later.store.births ≡ x.store.births → later.literals ≡ x.literals → IsGrown x later 0
still-grown x later births literals =
    let marked : unmade later.literals ≡ unmade x.literals = ap unmade literals in
    record { few = omega (arith, births, marked); many = ap length literals }

either-grown : (x : Areas) (n : ℕ) (b : Bool) (one other : Performed) → (b ≡ true → Grown x n one) → (b ≡ false → Grown x n other) → Grown x n (cond b one other)
either-grown x n true one other first second = first refl
either-grown x n false one other first second = second refl

-- ---- stores

content-births : (store : Store) (cell : ℕ) (content : List ℕ) → (with_content store cell content).births ≡ store.births
content-births store cell [] = refl
content-births store cell (unit ∷ units) = by_object (object_at store cell) where
  by_object : (found : Option Object) → (content_in store cell (unit ∷ units) found).births ≡ store.births
  by_object None = refl
  by_object (Some object) = refl

chained-births : (store : Store) (cell to : ℕ) → (chained_by store cell to).births ≡ store.births
chained-births store cell to = by_object (object_at store cell) where
  by_object : (found : Option Object) → (on_object found (λ object. with_object store cell (with_chain object to)) store).births ≡ store.births
  by_object None = refl
  by_object (Some object) = refl

either-births : (store : Store) (cell : ℕ) (object : Object) (fixed : Bool) → (cond fixed store (without_object store cell object)).births ≡ store.births
either-births store cell object true = refl
either-births store cell object false = refl

freed-store : (store : Store) (cell : ℕ) → (freed_by store cell).births ≡ store.births
freed-store store cell = by_object (object_at store cell) where
  by_object : (found : Option Object)
      → (on_object found (λ object. (if object.fixed then store else without_object store cell object)) store).births ≡ store.births
  by_object None = refl
  by_object (Some object) = either-births store cell object object.fixed

freed-areas : (x : Areas) (cell : ℕ) → ((freed x cell).store.births ≡ x.store.births) × ((freed x cell).literals ≡ x.literals)
freed-areas x cell = by_object (object_at x.store cell) where
  after : Object → Areas
  after object = record x { store = freed_by x.store cell; frees = x.frees + 1; freed_words = x.freed_words + object_words object }

  by_fixed : (fixed : Bool) (object : Object) → ((cond fixed x (after object)).store.births ≡ x.store.births) × ((cond fixed x (after object)).literals ≡ x.literals)
  by_fixed true object = (refl, refl)
  by_fixed false object = (freed-store x.store cell, refl)

  by_object : (found : Option Object) → ((freed_object x cell found).store.births ≡ x.store.births) × ((freed_object x cell found).literals ≡ x.literals)
  by_object None = (refl, refl)
  by_object (Some object) = by_fixed object.fixed object

all-freed : (x : Areas) (cells : List ℕ) → ((all_freed x cells).store.births ≡ x.store.births) × ((all_freed x cells).literals ≡ x.literals)
all-freed x [] = (refl, refl)
all-freed x (cell ∷ cells) =
    let one = freed-areas x cell in
    let rest = all-freed (freed x cell) cells in (rest.0 ∙ one.0, rest.1 ∙ one.1)

one-unmade : (literals : List ℕ) (text cell : ℕ) → text < length literals → nat_lt 0 (slice_index_or literals text 0) ≡ false → 0 < cell
    → unmade (set literals text cell) + 1 ≡ unmade literals
one-unmade literals text cell inside none some =
    let old : ℕ = slice_index_or literals text 0 in
    let no_cell : old ≡ 0 = (let zero = ltb-false 0 old none in omega (arith, zero)) in
    let before : one_if (old == 0) ≡ one_if true = ap one_if (eq-eqb old 0 no_cell) in
    let after : one_if (cell == 0) ≡ one_if false = ap one_if (ne_eqb cell 0 (λ e. omega (arith, e, some))) in
    let sum : unmade (set literals text cell) + one_if (old == 0) ≡ unmade literals + one_if (cell == 0) =
    sum_by-set (λ n. one_if (n == 0)) literals text cell 0 inside in
    omega (arith, before, after, sum)

-- an object that is made is one more
made-grown : (x : Areas) (n : ℕ) (request : Request) (content : List ℕ) (choice : Choice) (follows : Areas → ℕ → Performed) → MayReuse x.store request choice
    → ((later : Store) (cell : ℕ) → later.births ≡ x.store.births + 1 → 0 < cell → Grown x n (follows (record x { store = later }) cell))
    → Grown x n (made_then x request content choice follows)
made-grown x n request content RefuseStore follows may rest = tt
made-grown x n request content (Take cell grows) follows may rest =
    rest (with_content (made_by x.store request (Take cell grows)) cell content) cell
    (content-births (made_by x.store request (Take cell grows)) cell content) may.0

-- ---- along the actions

module _ (o : Outline) (choose : Choose) (lawful : IsLawful choose) (locals stack : List Value) where
  abbrev result : List Action → Areas → List ℕ → Performed
  result actions x made = performed o choose locals stack actions x made

  abbrev from : Areas → List ℕ → Sources
  from x made = record { locals = locals; stack = stack; areas = x; made = made }

  -- an action that makes nothing, before others
  quiet : (x later : Areas) (action : Action) (more : List Action) (made : List ℕ) → objects_made (action ∷ more) ≡ 0 + objects_made more
      → later.store.births ≡ x.store.births → later.literals ≡ x.literals → (literal_count o ≤ length later.literals → Grown later (objects_made more) (result more later made))
      → literal_count o ≤ length x.literals → Grown x (objects_made (action ∷ more)) (result more later made)
  quiet x later action more made none births literals rest room =
      let grown = still-grown x later births literals in
      let many = grown.many in
      grown-then x later 0 (objects_made more) (objects_made (action ∷ more)) (result more later made) grown none (rest (omega (arith, room, many)))

  pub acts-grown : (actions : List Action) (x : Areas) (made : List ℕ) → AllByRecursion (IsMade o) actions → literal_count o ≤ length x.literals
      → Grown x (objects_made actions) (performed o choose locals stack actions x made)
  unfolding performed
  acts-grown [] x made all room = record { few = omega arith; many = refl }
  acts-grown (Make t len content ∷ more) x made all room =
      let request : Request = requested o t len false in
      let count : objects_made (Make t len content ∷ more) ≡ 1 + objects_made more = sum_by-cons _ (Make t len content) more in
      made-grown x (objects_made (Make t len content ∷ more)) request content (choose x.store request) (λ y cell. result more y (made ++ cell ∷ [])) (lawful x.store request)
      (λ later cell born some.
      grown-then x (record x { store = later }) 1 (objects_made more) (objects_made (Make t len content ∷ more)) (result more (record x { store = later }) (made ++ cell ∷ []))
      (record { few = omega (arith, born); many = refl }) count (acts-grown more (record x { store = later }) (made ++ cell ∷ []) all.1 room))
  acts-grown (MakeFixed t ∷ more) x made all room = absurd all.0
  acts-grown (MakeLiteral text ∷ more) x made all room =
      let request : Request = requested o (literal_type o text) (length (literal_text o text)) true in
      let count : objects_made (MakeLiteral text ∷ more) ≡ 0 + objects_made more = sum_by-cons _ (MakeLiteral text) more in
      let inside : text < length x.literals = (let there = all.0 in omega (arith, there, room)) in
      either-grown x (objects_made (MakeLiteral text ∷ more)) (is_there x text) (result more x made)
      (made_then x request (literal_text o text) (choose x.store request) (λ y cell. result more (literal_made y text cell) made))
      (λ there. quiet x x (MakeLiteral text) more made count refl refl (acts-grown more x made all.1) room)
      (λ none. made-grown x (objects_made (MakeLiteral text ∷ more)) request (literal_text o text) (choose x.store request)
      (λ y cell. result more (literal_made y text cell) made) (lawful x.store request)
      (λ later cell born some.
      let now : Areas = literal_made (record x { store = later }) text cell in
      let long : length now.literals ≡ length x.literals = length-set x.literals text cell in
      let fewer = one-unmade x.literals text cell inside none some in
      grown-then x now 0 (objects_made more) (objects_made (MakeLiteral text ∷ more)) (result more now made)
      (record { few = omega (arith, born, fewer); many = long }) count (acts-grown more now made all.1 (omega (arith, room, long)))))
  acts-grown (Put object place kind v ∷ more) x made all room =
      let later : Areas = put_value x (value_of (from x made) object) place kind (value_of (from x made) v) in
      quiet x later (Put object place kind v) more made (sum_by-cons _ (Put object place kind v) more)
      (put_kept x.store (cell_of (value_of (from x made) object)) place (kept kind (value_of (from x made) v))).0 refl (acts-grown more later made all.1) room
  acts-grown (SetStatic slot kind v ∷ more) x made all room =
      let later : Areas = set_static x slot kind (value_of (from x made) v) in
      quiet x later (SetStatic slot kind v) more made (sum_by-cons _ (SetStatic slot kind v) more) refl refl (acts-grown more later made all.1) room
  acts-grown (Start class ∷ more) x made all room =
      let later : Areas = class_started x class in
      quiet x later (Start class) more made (sum_by-cons _ (Start class) more) refl refl (acts-grown more later made all.1) room
  acts-grown (Free operand ∷ more) x made all room =
      let kept_so = freed-areas x (cell_of (word_at stack operand)) in
      let later : Areas = freed x (cell_of (word_at stack operand)) in
      quiet x later (Free operand) more made (sum_by-cons _ (Free operand) more) kept_so.0 kept_so.1 (acts-grown more later made all.1) room
  acts-grown (SetChain operand to ∷ more) x made all room =
      let later : Areas = chained x (cell_of (word_at stack operand)) (cell_of (word_at stack to)) in
      quiet x later (SetChain operand to) more made (sum_by-cons _ (SetChain operand to) more)
      (chained-births x.store (cell_of (word_at stack operand)) (cell_of (word_at stack to))) refl (acts-grown more later made all.1) room
  acts-grown (FreeChain operand ∷ more) x made all room =
      let count : objects_made (FreeChain operand ∷ more) ≡ 0 + objects_made more = sum_by-cons _ (FreeChain operand) more in
      by_chain count (λ later enough. acts-grown more later made all.1 enough) (chain_from x.store (cell_of (word_at stack operand))) where
        by_chain : objects_made (FreeChain operand ∷ more) ≡ 0 + objects_made more
            → ((later : Areas) → literal_count o ≤ length later.literals → Grown later (objects_made more) (result more later made))
            → (cells : Option (List ℕ))
            → Grown x (objects_made (FreeChain operand ∷ more)) (chain_freed x (word_at stack operand) cells (λ y. result more y made))
        by_chain count rest None = tt
        by_chain count rest (Some cells) =
            let kept_so = all-freed x cells in
            quiet x (all_freed x cells) (FreeChain operand) more made count kept_so.0 kept_so.1 (rest (all_freed x cells)) room
  acts-grown (Copy t len operand ∷ more) x made all room =
      let request : Request = requested o t len false in
      let content : List ℕ = copied x.store (cell_of (word_at stack operand)) len in
      let count : objects_made (Copy t len operand ∷ more) ≡ 1 + objects_made more = sum_by-cons _ (Copy t len operand) more in
      made-grown x (objects_made (Copy t len operand ∷ more)) request content (choose x.store request) (λ y cell. result more y (made ++ cell ∷ [])) (lawful x.store request)
      (λ later cell born some.
      grown-then x (record x { store = later }) 1 (objects_made more) (objects_made (Copy t len operand ∷ more)) (result more (record x { store = later }) (made ++ cell ∷ []))
      (record { few = omega (arith, born); many = refl }) count (acts-grown more (record x { store = later }) (made ++ cell ∷ []) all.1 room))

-- ---- a step

-- what holds of the state after a step that doesn't end the run
record IsCounted (x : State) (n : ℕ) (y : State) : Type 0 where
  few : y.ended ≡ None → counted y.areas ≤ counted x.areas + n

moved-by : (x : State) (n : ℕ) (b : Bool) (one other : Moved) → IsCounted x n one.state → IsCounted x n other.state → IsCounted x n (cond b one other).state
moved-by x n true one other first second = first
moved-by x n false one other first second = second

module _ (p : Program) (z : State) (f : Frame) (callers : List Frame) (e : Effect) where
  abbrev x : State
  x = record z { frames = f ∷ callers }

  -- the state after all actions are done, before what comes next
  abbrev done : ℕ → Areas → State
  done price areas = record x { areas = areas; input = input_after e.reads z.input; steps = cond (is_done e.next) (z.steps + price) z.steps }

  areas-are : (price : ℕ) (areas : Areas) (cells : List ℕ) → (finished p price e x (Did areas cells)).areas ≡ areas
  areas-are price areas cells =
      let from : Sources = sources_of f areas cells in
      ap (λ (y : State). y.areas) (continued_is p from e f callers (done price areas)) ∙ followed_areas p from e f callers (done price areas) e.next

  finished-grown : (price n : ℕ) (result : Performed) → Grown z.areas n result → n ≤ price → IsCounted x price (finished p price e x result)
  finished-grown price n (Did areas cells) grown within =
      let few = grown.few in
      let same : counted (finished p price e x (Did areas cells)).areas ≡ counted areas = ap counted (areas-are price areas cells) in
      record { few = λ goes. omega (arith, few, same, within) }
  finished-grown price n (FullAt areas needed) grown within = record { few = λ goes. absurd (none-some _ (sym goes)) }
  finished-grown price n (LostAt v) grown within = record { few = λ goes. absurd (none-some _ (sym goes)) }

frame-grown : (p : Program) (choose : Choose) → IsLawful choose → (z : State) (f : Frame) (callers : List Frame) (e : Effect) → AllByRecursion (IsMade p.outline) e.actions
    → literal_count p.outline ≤ length z.areas.literals
    → IsCounted (record z { frames = f ∷ callers }) (max 1 (objects_made e.actions)) (attempted p choose (record z { frames = f ∷ callers }) e).state
frame-grown p choose lawful z f callers e made room =
    let x : State = record z { frames = f ∷ callers } in
    let price : ℕ = max 1 (objects_made e.actions) in
    let within : objects_made e.actions ≤ price = omega arith in
    moved-by x price (is_deep x e.next) _ _ (record { few = λ goes. absurd (none-some _ (sym goes)) })
    (moved-by x price (is_over p.outline z.areas e.actions) _ _ (record { few = λ goes. absurd (none-some _ (sym goes)) })
    (finished-grown p z f callers e price (objects_made e.actions) (performed p.outline choose f.locals f.stack e.actions z.areas [])
    (acts-grown p.outline choose lawful f.locals f.stack e.actions z.areas [] made room) within))

frames-grown : (p : Program) (choose : Choose) → IsLawful choose → (z : State) (frames : List Frame) → 0 < length frames
    → AllByRecursion (IsMade p.outline) (next_effect p (record z { frames = frames })).actions → literal_count p.outline ≤ length z.areas.literals
    → IsCounted (record z { frames = frames }) (cost p (record z { frames = frames })) (attempted p choose (record z { frames = frames }) (next_effect p (record z { frames = frames }))).state
unfolding cost
frames-grown p choose lawful z [] some made room = absurd (omega (arith, some))
frames-grown p choose lawful z (f ∷ callers) some made room =
    frame-grown p choose lawful z f callers (next_effect p (record z { frames = f ∷ callers })) made room

-- A step that doesn't end the run makes no more objects than it costs, beside the literals of texts that had none.
pub step-makes : (p : Program) (x : State) (choose : Choose) → IsLawful choose → StepsAreResolved p → MakesAreResolved p → IsSound p x
    → (step p choose x).state.ended ≡ None
    → (step p choose x).state.areas.store.births + unmade (step p choose x).state.areas.literals ≤ x.areas.store.births + unmade x.areas.literals + cost p x
step-makes p x choose lawful ready makes sound goes =
    (subst (λ (m : Moved). IsCounted x (cost p x) m.state) (sym (step_is p choose x)) (by_end x.ended refl)).few goes where
      by_end : (ended : Option Ended) → x.ended ≡ ended → IsCounted x (cost p x) (stepped p choose x ended).state
      by_end (Some ended) is = record { few = λ goes. omega arith }
      by_end None is =
          let parts = sound.1 in
          let many = parts.areas.literals in
          frames-grown p choose lawful x x.frames (parts.running is) (next-made p x ready.calls.runnable) (omega (arith, many))
