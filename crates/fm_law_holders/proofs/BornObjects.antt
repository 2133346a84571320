-- What a step makes was born in it, and what was held before stays where it is, as long as nothing is freed or chained.
use Rattle.std.proofs.Common.{◌≡◌, ℕ, zero, suc, ◌<◌, ◌≤◌, ◌⊎◌, Bool, true, false, cond, List, [], ◌∷◌, ◌++◌, length, Option, Some, None, refl, sym, ap, subst, ◌∙◌, inl, inr, slice_set, slice_index_or, arith, ⊎_elim}
use Rattle.std.specs.List.{AllByRecursion}
use Rattle.fm_cells.specs.Changes.{Choice, put_by, RefuseStore, Take, with_element, with_object}
use Rattle.fm_cells.specs.Choices.{MayReuse}
use Rattle.fm_cells.specs.Objects.{Object, Request}
use Rattle.fm_cells.specs.Stores.{object_at, Store}
use Rattle.fm_cells.proofs.Changes.{object_at-with_object}
use Rattle.fm_cells.proofs.Elements.{put_by-none, put_by-some}
use Rattle.fm_world.specs.Programs.{Outline}
use Rattle.fm_frames.specs.Acts.{cell_of, Choose, copied, Did, FullAt, is_there, literal_made, literal_text, literal_type, LostAt, made_object, made_then, performed, Performed, put_value, requested, set_static, Sources, value_of}
use Rattle.fm_frames.specs.Effects.{Action, Copy, Free, FreeChain, Make, MakeFixed, MakeLiteral, Put, SetChain, SetStatic, Start}
use Rattle.fm_frames.specs.Elements.{kept}
use Rattle.fm_frames.specs.States.{Areas, word_at}
use Rattle.fm_frames.specs.declared.values.Value.{Value}
use Rattle.fm_law_sound.proofs.Opening.{IsFreeless}
use Rattle.fm_same.proofs.ActsKeep.{made_as, make_is, stored_as}
use Rattle.fm_same.proofs.StoreChanges.{changed-extends, Extends, extends-refl, extends-then, held_later, IsChanged, IsKept, IsMade, made-extends, put_here}
use Rattle.fm_same.specs.Evenness.{ActsEvenly, Point}

-- ---- actions that free nothing

even_is_freeless : (o : Outline) (x : Point) (home : ℕ) (action : Action) → ActsEvenly o x home action → IsFreeless action
even_is_freeless o x home (Make t len content) h = tt
even_is_freeless o x home (MakeFixed t) h = tt
even_is_freeless o x home (MakeLiteral text) h = tt
even_is_freeless o x home (Put object place kind v) h = tt
even_is_freeless o x home (SetStatic slot kind v) h = tt
even_is_freeless o x home (Start class) h = tt
even_is_freeless o x home (Free operand) h = h
even_is_freeless o x home (SetChain operand to) h = h
even_is_freeless o x home (FreeChain operand) h = h
even_is_freeless o x home (Copy t len operand) h = tt

pub even_are_freeless : (o : Outline) (x : Point) (home : ℕ) (actions : List Action) → AllByRecursion (ActsEvenly o x home) actions
    → AllByRecursion IsFreeless actions
even_are_freeless o x home [] h = tt
even_are_freeless o x home (action ∷ more) h = (even_is_freeless o x home action h.0, even_are_freeless o x home more h.1)

-- ---- what is born

-- the object of the cell was born at this number or later
pub record IsBornSince (births : ℕ) (store : Store) (cell : ℕ) : Type 0 where
  pub object : Object
  pub held : object_at store cell ≡ Some object
  pub since : births ≤ object.birth

born-later : (births : ℕ) (store later : Store) (cell : ℕ) → Extends store later → IsBornSince births store cell → IsBornSince births later cell
born-later births store later cell more h =
    let kept : IsKept later cell h.object = more.kept cell h.object h.held in
    let since = h.since in
    let same = kept.birth in
    record { object = kept.now; held = kept.is; since = omega (arith, since, same) }

-- null's cell, or such an object's
abbrev pub IsNullOrBorn : ℕ → Store → ℕ → Type 0
IsNullOrBorn births store cell = (cell ≡ 0) ⊎ IsBornSince births store cell

-- what isn't born later was there already
abbrev pub OldWereThere : (store later : Store) → Type 0
OldWereThere store later =
    (cell : ℕ) (object : Object) → object_at later cell ≡ Some object → object.birth < store.births
    → (before : Object) × (object_at store cell ≡ Some before) × (before.birth ≡ object.birth)

old_same : (store : Store) → OldWereThere store store
old_same store cell object held old = (object, held, refl)

old_then : (store middle later : Store) → store.births ≤ middle.births → OldWereThere store middle → OldWereThere middle later → OldWereThere store later
old_then store middle later rise first second cell object held old =
    let there = second cell object held (omega (arith, old, rise)) in
    let same = there.2 in
    let before = first cell there.0 there.1 (omega (arith, old, same)) in (before.0, before.1, before.2 ∙ there.2)

old_made : (store later : Store) (cell : ℕ) (object : Object) → IsMade store later cell object → OldWereThere store later
old_made store later cell object is q found held old =
    ⊎_elim
    (λ here. let same = ap (λ (o : Object). o.birth) here.1 in let birth = is.birth in absurd (omega (arith, old, same, birth)))
    (λ there. (found, there.1, refl)) (held_later store later cell object q found is.puts held)

old_changed : (store later : Store) (cell : ℕ) (was object : Object) → IsChanged store later cell was object → OldWereThere store later
old_changed store later cell was object is q found held old =
    ⊎_elim
    (λ here. (was, ap (object_at store) here.0 ∙ is.held, sym is.birth ∙ ap (λ (o : Object). o.birth) here.1))
    (λ there. (found, there.1, refl)) (held_later store later cell object q found is.puts held)

-- ---- along the actions

-- the cell of what was made as this one
abbrev cell_among : List ℕ → ℕ → ℕ
cell_among cells n = slice_index_or cells n 0

pub record Went (store : Store) (x : Areas) (cells : List ℕ) : Type 0 where
  pub extends : Extends store x.store
  pub old : OldWereThere store x.store
  pub made : (n : ℕ) → IsNullOrBorn store.births x.store (slice_index_or cells n 0)

abbrev pub WentTo : Store → Performed → Type 0
WentTo store (Did x made) = Went store x made
WentTo store (FullAt x needed) = Unit {0}
WentTo store (LostAt v) = Unit {0}

went_stored : (store : Store) (x y : Areas) (made : List ℕ) → Went store x made → Extends x.store y.store → OldWereThere x.store y.store → Went store y made
went_stored store x y made went more there = record {
  extends = extends-then store x.store y.store went.extends more;
  old = old_then store x.store y.store went.extends.births went.old there;
  made = λ n. ⊎_elim (λ null. inl null) (λ born. inr (born-later store.births x.store y.store (slice_index_or made n 0) more born)) (went.made n);
}

pushed_cases : (made : List ℕ) (cell n : ℕ)
    → (slice_index_or (made ++ cell ∷ []) n 0 ≡ cell) ⊎ (slice_index_or (made ++ cell ∷ []) n 0 ≡ slice_index_or made n 0)
pushed_cases [] cell zero = inl refl
pushed_cases [] cell (suc n) = inr refl
pushed_cases (c ∷ made) cell zero = inr refl
pushed_cases (c ∷ made) cell (suc n) = pushed_cases made cell n

went_pushed : (store : Store) (x : Areas) (made : List ℕ) (cell : ℕ) → Went store x made → IsBornSince store.births x.store cell
    → Went store x (made ++ cell ∷ [])
went_pushed store x made cell went new = record {
  extends = went.extends;
  old = went.old;
  made = λ n. ⊎_elim
      (λ last. subst (IsNullOrBorn store.births x.store) (sym last) (inr new))
      (λ before. subst (IsNullOrBorn store.births x.store) (sym before) (went.made n))
      (pushed_cases made cell n);
}

made_goes : (store : Store) (x : Areas) (made : List ℕ) (request : Request) (content : List ℕ) (choice : Choice) (follows : Areas → ℕ → Performed)
    → Went store x made → MayReuse x.store request choice
    → ((y : Areas) (cell : ℕ) → Went store y made → IsBornSince store.births y.store cell → WentTo store (follows y cell))
    → WentTo store (made_then x request content choice follows)
made_goes store x made request content RefuseStore follows went may then = tt
made_goes store x made request content (Take cell grows) follows went may then =
    let later : Store = stored_as x.store request cell grows content in
    let object : Object = made_as x.store request content in
    let is : IsMade x.store later cell object = make_is x.store request cell grows content may.1 in
    let more : Extends x.store later = made-extends x.store later cell object is in
    let risen = went.extends.births in
    let birth = is.birth in
    then (record x { store = later }) cell (went_stored store x (record x { store = later }) made went more (old_made x.store later cell object is))
    (record { object = object; held = put_here x.store later cell object is.puts; since = omega (arith, risen, birth) })

put_goes : (store : Store) (x : Areas) (made : List ℕ) (cell place element : ℕ) (found : Option Object) → object_at x.store cell ≡ found
    → Went store x made → Went store (record x { store = put_by x.store cell place element }) made
put_goes store x made cell place element None none went =
    subst (λ later. Went store (record x { store = later }) made) (sym (put_by-none x.store cell place element none))
    (went_stored store x x made went (extends-refl x.store) (old_same x.store))
put_goes store x made cell place element (Some old) held went =
    let now : Object = with_element old place element in
    let later : Store = with_object x.store cell now in
    let change : IsChanged x.store later cell old now = record {
      puts = object_at-with_object x.store cell now;
      held = held;
      class = refl;
      birth = refl;
      fixed = refl;
      chain = refl;
      births = refl;
    } in
    subst (λ s. Went store (record x { store = s }) made) (sym (put_by-some x.store cell place element old held))
    (went_stored store x (record x { store = later }) made went (changed-extends x.store later cell old now change)
    (old_changed x.store later cell old now change))

same_goes : (store : Store) (x y : Areas) (made : List ℕ) → y.store ≡ x.store → Went store x made → Went store y made
same_goes store x y made same went =
    went_stored store x y made went (subst (Extends x.store) (sym same) (extends-refl x.store)) (subst (OldWereThere x.store) (sym same) (old_same x.store))

either_goes : (store : Store) (b : Bool) (one other : Performed) → WentTo store one → WentTo store other → WentTo store (cond b one other)
either_goes store true one other first second = first
either_goes store false one other first second = second

module _ (o : Outline) (choose : Choose) (may : (s : Store) (request : Request) → MayReuse s request (choose s request)) (store : Store) (locals stack : List Value) where
  -- all that the actions made was born since they began
  pub acts_go : (actions : List Action) (x : Areas) (made : List ℕ) → AllByRecursion IsFreeless actions → Went store x made
      → WentTo store (performed o choose locals stack actions x made)
  unfolding performed
  acts_go [] x made h went = went
  acts_go (Make t len content ∷ more) x made h went =
      made_goes store x made (requested o t len false) content (choose x.store (requested o t len false))
      (λ y cell. performed o choose locals stack more y (made ++ cell ∷ [])) went (may x.store (requested o t len false))
      (λ y cell later new. acts_go more y (made ++ cell ∷ []) h.1 (went_pushed store y made cell later new))
  acts_go (MakeFixed t ∷ more) x made h went =
      made_goes store x made (requested o t 0 true) [] (choose x.store (requested o t 0 true))
      (λ y cell. performed o choose locals stack more y (made ++ cell ∷ [])) went (may x.store (requested o t 0 true))
      (λ y cell later new. acts_go more y (made ++ cell ∷ []) h.1 (went_pushed store y made cell later new))
  acts_go (MakeLiteral text ∷ more) x made h went =
      let request : Request = requested o (literal_type o text) (length (literal_text o text)) true in
      either_goes store (is_there x text) (performed o choose locals stack more x made)
      (made_object o choose (literal_type o text) (length (literal_text o text)) true (literal_text o text) x
      (λ y cell. performed o choose locals stack more (literal_made y text cell) made))
      (acts_go more x made h.1 went)
      (made_goes store x made request (literal_text o text) (choose x.store request)
      (λ y cell. performed o choose locals stack more (literal_made y text cell) made) went (may x.store request)
      (λ y cell later new. acts_go more (literal_made y text cell) made h.1 (same_goes store y (literal_made y text cell) made refl later)))
  acts_go (Put object place k v ∷ more) x made h went =
      let from : Sources = record { locals = locals; stack = stack; areas = x; made = made } in
      acts_go more (put_value x (value_of from object) place k (value_of from v)) made h.1
      (put_goes store x made (cell_of (value_of from object)) place (kept k (value_of from v))
      (object_at x.store (cell_of (value_of from object))) refl went)
  acts_go (SetStatic slot k v ∷ more) x made h went =
      let from : Sources = record { locals = locals; stack = stack; areas = x; made = made } in
      acts_go more (set_static x slot k (value_of from v)) made h.1
      (same_goes store x (set_static x slot k (value_of from v)) made refl went)
  acts_go (Start class ∷ more) x made h went =
      acts_go more (record x { started = slice_set x.started class true }) made h.1
      (same_goes store x (record x { started = slice_set x.started class true }) made refl went)
  acts_go (Free operand ∷ more) x made h went = absurd h.0
  acts_go (SetChain operand to ∷ more) x made h went = absurd h.0
  acts_go (FreeChain operand ∷ more) x made h went = absurd h.0
  acts_go (Copy t len operand ∷ more) x made h went =
      made_goes store x made (requested o t len false) (copied x.store (cell_of (word_at stack operand)) len) (choose x.store (requested o t len false))
      (λ y cell. performed o choose locals stack more y (made ++ cell ∷ [])) went (may x.store (requested o t len false))
      (λ y cell later new. acts_go more y (made ++ cell ∷ []) h.1 (went_pushed store y made cell later new))

  -- from the start of a step on
  pub acts_made : (actions : List Action) (x : Areas) → x.store ≡ store → AllByRecursion IsFreeless actions
      → WentTo store (performed o choose locals stack actions x [])
  acts_made actions x same h =
      acts_go actions x [] h
      (record {
        extends = subst (Extends store) (sym same) (extends-refl store);
        old = subst (OldWereThere store) (sym same) (old_same store);
        made = λ n. inl (nothing_made n);
      }) where
        nothing_made : (n : ℕ) → cell_among [] n ≡ 0
        nothing_made n = refl
