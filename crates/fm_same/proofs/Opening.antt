-- The opening has colours: all that it makes has the region of what main is given, and the streams live for ever.
use Rattle.std.proofs.Common.{◌≡◌, ◌≢◌, ℕ, zero, suc, ◌+◌, ◌<◌, Bool, true, false, cond, nat_lt, List, [], ◌∷◌, ◌++◌, length, codes, Option, Some, None, refl, sym, ◌∙◌, ap, subst, inl, inr, slice_get, slice_set, slice_index_or, arith, ⊎_elim, length-append, replicate}
use Rattle.std.specs.List.{AllByRecursion, flat_map}
use Rattle.std.proofs.lemmas.Bool.Decides.{nat_tests}
use Rattle.std.proofs.lemmas.List.{get_or_append_left}
use Rattle.std.proofs.lemmas.Option.{same_Some}
use Rattle.std.specs.FinMap.{gets}
use Rattle.fm_base.specs.Texts.{units}
use Rattle.fm_base.specs.declared.kinds.Kind.{Kind}
use Rattle.fm_base.specs.declared.kinds.Kind.TheVariants as kind
use Rattle.fm_base.specs.declared.kinds.TypeRef.{TypeRef}
use Rattle.fm_cells.specs.Changes.{Choice, made_by, RefuseStore, Take}
use Rattle.fm_cells.specs.Choices.{MayReuse}
use Rattle.fm_cells.specs.Objects.{Object, Request}
use Rattle.fm_cells.specs.Sizes.{cell_words}
use Rattle.fm_cells.specs.Stores.{live_words, object_at, opened, Store}
use Rattle.fm_cells.proofs.Soundness.{IsOrderly-opened}
use Rattle.fm_conn.specs.Facts.{Facts}
use Rattle.fm_conn.specs.Nodes.{Local}
use Rattle.fm_types.specs.Named.{built_in_type}
use Rattle.fm_code.specs.AccessFlags.{is_static}
use Rattle.fm_world.specs.Members.{field_at, field_kind, fields_of, OwnedField}
use Rattle.fm_world.specs.Numbers.{text_number}
use Rattle.fm_world.specs.Programs.{Outline, Program}
use Rattle.fm_world.specs.declared.declarations.Constant.{Constant}
use Rattle.fm_world.specs.declared.declarations.Constant.TheVariants as constant
use Rattle.fm_frames.specs.Acts.{chain_freed, chain_from, cell_of, Choose, copied, Did, FullAt, is_there, literal_made, literal_text, literal_type, LostAt, made_then, performed, Performed, requested}
use Rattle.fm_frames.specs.Effects.{Action, Copy, Free, FreeChain, Make, MakeFixed, MakeLiteral, OfLiteral, Plain, Put, SetChain, SetStatic, Start}
use Rattle.fm_frames.specs.Elements.{first_of, read}
use Rattle.fm_frames.specs.Literals.{literal_count}
use Rattle.fm_frames.specs.ObjectRows.{kind_of_field}
use Rattle.fm_frames.specs.Runs.{after_action, argument_actions, arguments_type, first_areas, framed, Job, opened_by, opening, opening_actions, opening_frames, unopened, with_streams}
use Rattle.fm_frames.specs.Starts.{fields_at, set_constant, start_actions, start_methods, start_of_class, to_start}
use Rattle.fm_frames.specs.States.{Areas, ref, State, word_at}
use Rattle.fm_frames.specs.Steps.{is_over, new_frame, stopped, words_made}
use Rattle.fm_frames.specs.declared.ends.Ended.TheVariants as end
use Rattle.fm_frames.specs.declared.values.Value.{Value}
use Rattle.fm_frames.specs.declared.values.Value.TheVariants as value
use Rattle.fm_same.specs.Colours.{AreAreasColoured, AreFramesColoured, Colour, Coloured, HasColour, IsFixed, IsFrameColoured, IsNull, IsOf, LivesForEver, OfNull}
use Rattle.fm_same.specs.Evenness.{HasNoEdge, HoldsNumbers, IsNumber, IsPlainKind}
use Rattle.fm_same.specs.Regions.{Everywhere, Region, region, Retired}
use Rattle.fm_same.proofs.ActsKeep.{ActHas, acts_go, make_goes, StaticHas, Went, WentTo}
use Rattle.fm_same.proofs.CallsKeep.{starts_coloured, top_found}
use Rattle.fm_same.proofs.GoesOnKeep.{append_found}
use Rattle.fm_same.proofs.StoreChanges.{Extends, extends-refl, extends-then, for_ever-is_of, for_ever-later, is_of-later, set_found}
use Rattle.fm_same.proofs.RegionLemmas.{region_within}
use Rattle.fm_law_sound.proofs.Opening.{all_flat, with_text}

-- ---- what was made stays in its place

abbrev Keeps : List ℕ → List ℕ → Type 0
Keeps made cells = (n : ℕ) → n < length made → (n < length cells) × (slice_index_or cells n 0 ≡ slice_index_or made n 0)

keeps-refl : (made : List ℕ) → Keeps made made
keeps-refl made n lt = (lt, refl)

keeps-then : (made cells later : List ℕ) → Keeps made cells → Keeps cells later → Keeps made later
keeps-then made cells later first second n lt =
    let one = first n lt in let two = second n one.0 in (two.0, two.1 ∙ one.1)

keeps-pushed : (made : List ℕ) (cell : ℕ) → Keeps made (made ++ cell ∷ [])
keeps-pushed made cell n lt =
    let size : length (made ++ cell ∷ []) ≡ length made + 1 = simp length-append in
    (omega arith, get_or_append_left made (cell ∷ []) 0 n lt)

abbrev KeepsTo : List ℕ → Performed → Type 0
KeepsTo made (Did x cells) = Keeps made cells
KeepsTo made (FullAt x needed) = Unit {0}
KeepsTo made (LostAt v) = Unit {0}

made_keeps : (made : List ℕ) (x : Areas) (request : Request) (content : List ℕ) (choice : Choice) (follows : Areas → ℕ → Performed)
    → ((y : Areas) (cell : ℕ) → KeepsTo made (follows y cell)) → KeepsTo made (made_then x request content choice follows)
made_keeps made x request content RefuseStore follows h = tt
made_keeps made x request content (Take cell grows) follows h = h _ cell

either_keeps : (made : List ℕ) (b : Bool) (one other : Performed) → KeepsTo made one → KeepsTo made other → KeepsTo made (cond b one other)
either_keeps made true one other first second = first
either_keeps made false one other first second = second

chain_keeps : (made : List ℕ) (x : Areas) (v : Value) (cells : Option (List ℕ)) → KeepsTo made (chain_freed x v cells (λ y. Did y made))
chain_keeps made x v None = tt
chain_keeps made x v (Some cells) = keeps-refl made

one_keeps : (o : Outline) (choose : Choose) (action : Action) (x : Areas) (made : List ℕ)
    → KeepsTo made (performed o choose [] [] (action ∷ []) x made)
unfolding performed
one_keeps o choose (Make t len content) x made = made_keeps made x (requested o t len false) content (choose x.store (requested o t len false)) (λ y cell. Did y (made ++ cell ∷ []))
    (λ y cell. keeps-pushed made cell)
one_keeps o choose (MakeFixed t) x made = made_keeps made x (requested o t 0 true) [] (choose x.store (requested o t 0 true)) (λ y cell. Did y (made ++ cell ∷ []))
    (λ y cell. keeps-pushed made cell)
one_keeps o choose (MakeLiteral text) x made =
    let request : Request = requested o (literal_type o text) (length (literal_text o text)) true in
    either_keeps made (is_there x text) (Did x made)
    (made_then x request (literal_text o text) (choose x.store request) (λ y cell. Did (literal_made y text cell) made)) (keeps-refl made)
    (made_keeps made x request (literal_text o text) (choose x.store request) (λ y cell. Did (literal_made y text cell) made) (λ y cell. keeps-refl made))
one_keeps o choose (Put object place k v) x made = keeps-refl made
one_keeps o choose (SetStatic slot k v) x made = keeps-refl made
one_keeps o choose (Start class) x made = keeps-refl made
one_keeps o choose (Free operand) x made = keeps-refl made
one_keeps o choose (SetChain operand to) x made = keeps-refl made
one_keeps o choose (FreeChain operand) x made =
    chain_keeps made x (word_at [] operand) (chain_from x.store (cell_of (word_at [] operand)))
one_keeps o choose (Copy t len operand) x made =
    made_keeps made x (requested o t len false) (copied x.store (cell_of (word_at [] operand)) len) (choose x.store (requested o t len false))
    (λ y cell. Did y (made ++ cell ∷ [])) (λ y cell. keeps-pushed made cell)

last_length : (made : List ℕ) (cell : ℕ) → length (made ++ cell ∷ []) ≡ suc (length made)
last_length [] cell = refl
last_length (first ∷ made) cell = ap suc (last_length made cell)

last_is : (made : List ℕ) (cell : ℕ) → slice_index_or (made ++ cell ∷ []) (length made) zero ≡ cell
last_is [] cell = refl
last_is (first ∷ made) cell = last_is made cell

-- ---- one action after the other

-- what holds while the run is opened: areas are coloured, and all that was made has the region
record IsOpen (o : Outline) (colour : Colour) (home : Region) (x : State) (cells : List ℕ) : Type 0 where
  areas : AreAreasColoured o colour x.areas
  made : (n : ℕ) → IsOf x.areas.store colour home (slice_index_or cells n 0)
  frames : x.frames ≡ []

module _ (p : Program) (facts : Facts) (choose : Choose) (may : (s : Store) (request : Request) → MayReuse s request (choose s request)) (numbers : HoldsNumbers p.outline) (home : Region) where
  abbrev even_colour : Colour
  even_colour birth = home

  abbrev Result : State → Type 0
  Result x = Coloured p facts x even_colour

  without_frames : (x : State) → AreAreasColoured p.outline even_colour x.areas → x.frames ≡ [] → Result x
  without_frames x areas none = record {
    frames = subst (λ frames. AreFramesColoured p.outline facts x.areas.store even_colour frames) (sym none) tt;
    areas = areas;
  }

  acts : (action : Action) (x : State) (made : List ℕ) → ((store : Store) → ActHas p.outline store even_colour [] home action)
      → IsOpen p.outline even_colour home x made
      → WentTo p.outline x.areas.store even_colour home (performed p.outline choose [] [] (action ∷ []) x.areas made)
  acts action x made has open_ =
      acts_go p.outline choose may numbers x.areas.store even_colour home (λ birth le. refl) [] [] (action ∷ []) x.areas made (has x.areas.store, tt)
      (record { areas = open_.areas; extends = extends-refl x.areas.store; made = open_.made; still = λ cell object held not_fixed retired. held })

  -- what follows an action
  abbrev Follows : State → List ℕ → (State → List ℕ → State) → Type 0
  Follows x made follows =
      (y : State) (cells : List ℕ) → IsOpen p.outline even_colour home y cells → Extends x.areas.store y.areas.store → Keeps made cells → Result (follows y cells)

  after_goes : (x : State) (made : List ℕ) (follows : State → List ℕ → State) (r : Performed) → IsOpen p.outline even_colour home x made
      → WentTo p.outline x.areas.store even_colour home r → KeepsTo made r → Follows x made follows → Result (after_action x r follows)
  after_goes x made follows (Did areas cells) open_ went keeps then =
      then (record x { areas = areas }) cells (record { areas = went.areas; made = went.made; frames = open_.frames }) went.extends keeps
  after_goes x made follows (FullAt areas needed) open_ went keeps then =
      without_frames (stopped (record x { areas = areas }) (end.StoreFull areas.store.made_words (cell_words needed))) went.0 open_.frames
  after_goes x made follows (LostAt v) open_ went keeps then = without_frames x open_.areas open_.frames

  either_result : (b : Bool) (one other : State) → Result one → Result other → Result (cond b one other)
  either_result true one other first second = first
  either_result false one other first second = second

  opened_goes : (actions : List Action) (x : State) (made : List ℕ) (follows : State → List ℕ → State)
      → ((store : Store) → AllByRecursion (ActHas p.outline store even_colour [] home) actions) → IsOpen p.outline even_colour home x made → Follows x made follows
      → Result (opened_by p choose actions x made follows)
  opened_goes [] x made follows has open_ then = then x made open_ (extends-refl x.areas.store) (keeps-refl made)
  opened_goes (action ∷ more) x made follows has open_ then =
      let stop : State = stopped x (end.Exhausted (live_words x.areas.store) (words_made p.outline x.areas (action ∷ []))) in
      let result : Performed = performed p.outline choose [] [] (action ∷ []) x.areas made in
      either_result (is_over p.outline x.areas (action ∷ [])) stop (after_action x result (λ y cells. opened_by p choose more y cells follows))
      (without_frames stop open_.areas open_.frames)
      (after_goes x made (λ y cells. opened_by p choose more y cells follows) result open_
      (acts action x made (λ store. (has store).0) open_) (one_keeps p.outline choose action x.areas made)
      (λ y cells later more_store keeps. opened_goes more y cells follows (λ store. (has store).1) later
      (λ z last final further kept. then z last final (extends-then x.areas.store y.areas.store z.areas.store more_store further)
      (keeps-then made cells last keeps kept))))

  -- ---- streams

  FixedTo : List ℕ → Performed → Type 0
  FixedTo made (Did y cells) = (length cells ≡ suc (length made)) × LivesForEver y.store (slice_index_or cells (length made) 0)
  FixedTo made (FullAt y needed) = Unit {0}
  FixedTo made (LostAt v) = Unit {0}

  fixed_then : (t : TypeRef) (x : State) (made : List ℕ) (choice : Choice) → HasNoEdge p.outline t → IsOpen p.outline even_colour home x made
      → MayReuse x.areas.store (requested p.outline t 0 true) choice
      → FixedTo made (made_then x.areas (requested p.outline t 0 true) [] choice (λ y cell. Did y (made ++ cell ∷ [])))
  unfolding FixedTo
  fixed_then t x made RefuseStore none open_ allowed = tt
  fixed_then t x made (Take cell grows) none open_ allowed =
      let went : Went p.outline x.areas.store even_colour home x.areas made =
      record { areas = open_.areas; extends = extends-refl x.areas.store; made = open_.made; still = λ c object held not_fixed retired. held } in
      let makes = make_goes p.outline x.areas.store even_colour home (λ birth le. refl) x.areas made (requested p.outline t 0 true) cell grows [] went allowed
      (inr (λ object class place u is. none object 0 true class place u is)) in (
        last_length made cell,
        subst (λ c. LivesForEver (made_by x.areas.store (requested p.outline t 0 true) (Take cell grows)) c) (sym (last_is made cell))
            (IsFixed makes.object makes.held makes.fixed),
      )

  -- what follows a stream that is made
  abbrev FollowsFixed : State → List ℕ → (State → List ℕ → State) → Type 0
  FollowsFixed x made follows =
      (y : State) (cells : List ℕ) → IsOpen p.outline even_colour home y cells → Extends x.areas.store y.areas.store → Keeps made cells
      → length cells ≡ suc (length made) → LivesForEver y.areas.store (slice_index_or cells (length made) 0) → Result (follows y cells)

  after_fixed : (x : State) (made : List ℕ) (follows : State → List ℕ → State) (r : Performed) → IsOpen p.outline even_colour home x made
      → WentTo p.outline x.areas.store even_colour home r → KeepsTo made r → FixedTo made r → FollowsFixed x made follows → Result (after_action x r follows)
  unfolding FixedTo
  after_fixed x made follows (Did areas cells) open_ went keeps fixed then =
      then (record x { areas = areas }) cells (record { areas = went.areas; made = went.made; frames = open_.frames }) went.extends keeps fixed.0 fixed.1
  after_fixed x made follows (FullAt areas needed) open_ went keeps fixed then =
      without_frames (stopped (record x { areas = areas }) (end.StoreFull areas.store.made_words (cell_words needed))) went.0 open_.frames
  after_fixed x made follows (LostAt v) open_ went keeps fixed then = without_frames x open_.areas open_.frames

  stream_goes : (t : TypeRef) (more : List Action) (x : State) (made : List ℕ) (follows : State → List ℕ → State) → HasNoEdge p.outline t
      → IsOpen p.outline even_colour home x made → FollowsFixed x made (λ y cells. opened_by p choose more y cells follows)
      → Result (opened_by p choose (MakeFixed t ∷ more) x made follows)
  unfolding performed
  stream_goes t more x made follows none open_ then =
      let action : Action = MakeFixed t in
      let stop : State = stopped x (end.Exhausted (live_words x.areas.store) (words_made p.outline x.areas (action ∷ []))) in
      let request : Request = requested p.outline t 0 true in
      let result : Performed = made_then x.areas request [] (choose x.areas.store request) (λ y cell. Did y (made ++ cell ∷ [])) in
      either_result (is_over p.outline x.areas (action ∷ [])) stop (after_action x result (λ y cells. opened_by p choose more y cells follows))
      (without_frames stop open_.areas open_.frames)
      (after_fixed x made (λ y cells. opened_by p choose more y cells follows) result open_
      (acts action x made (λ store. none) open_) (one_keeps p.outline choose action x.areas made)
      (fixed_then t x made (choose x.areas.store request) none open_ (may x.areas.store request)) then)

-- ---- the first areas

first_value : (store : Store) (colour : Colour) (k : Kind) → HasColour store colour Everywhere (first_of k)
unfolding read
first_value store colour kind.Boolean = tt
first_value store colour kind.Byte = tt
first_value store colour kind.Char = tt
first_value store colour kind.Short = tt
first_value store colour kind.Int = tt
first_value store colour kind.Long = tt
first_value store colour (kind.Ref t) = OfNull refl

static_first : (o : Outline) (store : Store) (colour : Colour) (b : Bool) (k : Kind) (rest : List Value)
    → ((slot : ℕ) (v : Value) → slice_get rest slot ≡ Some v → HasColour store colour Everywhere v)
    → (slot : ℕ) (v : Value) → slice_get (cond b (first_of k ∷ []) [] ++ rest) slot ≡ Some v → HasColour store colour Everywhere v
static_first o store colour true k rest h zero v at = subst (λ w. HasColour store colour Everywhere w) (same_Some (first_of k) v at) (first_value store colour k)
static_first o store colour true k rest h (suc slot) v at = h slot v at
static_first o store colour false k rest h slot v at = h slot v at

abbrev pub first_field : Outline → OwnedField → List Value
first_field o f = cond (is_static f.field.flags) (first_of (field_kind o.classes f.field) ∷ []) []

statics_first : (o : Outline) (store : Store) (colour : Colour) (fields : List OwnedField) (slot : ℕ) (v : Value)
    → slice_get (flat_map (first_field o) fields) slot ≡ Some v → HasColour store colour Everywhere v
statics_first o store colour [] slot v at = absurd (cc)
statics_first o store colour (f ∷ fields) slot v at =
    static_first o store colour (is_static f.field.flags) (field_kind o.classes f.field) (flat_map (first_field o) fields)
    (λ s w there. statics_first o store colour fields s w there) slot v at

pub zeros_found : (count n : ℕ) → slice_index_or (replicate count 0) n zero ≡ zero
zeros_found zero n = refl
zeros_found (suc count) zero = refl
zeros_found (suc count) (suc n) = zeros_found count n

first_coloured : (o : Outline) (colour : Colour) (budget : ℕ) (limit : Option ℕ) (free : List (List ℕ))
    → AreAreasColoured o colour (first_areas o (opened budget limit free))
first_coloured o colour budget limit free = record {
  orderly = IsOrderly-opened budget limit free;
  statics = λ slot v at. statics_first o (opened budget limit free) colour (fields_of o.classes) slot v at;
  edges = λ cell object held place t is. absurd (none cell object held);
  literals = λ text. IsNull (zeros_found (literal_count o) text);
} where
  none : (cell : ℕ) (object : Object) → object_at (opened budget limit free) cell ≡ Some object → ⊥
  none cell object held = grind (arith, gets, nat_tests)

-- ---- the starts of main's class

plain_set : (store : Store) (colour : Colour) (home : Region) (k : Kind) (v : Value) → IsPlainKind k → StaticHas store colour [] home (Plain v) k
plain_set store colour home (kind.Ref t) v h = absurd h
plain_set store colour home k v h = tt

text_set : (store : Store) (colour : Colour) (home : Region) (text : ℕ) (k : Kind) → StaticHas store colour [] home (OfLiteral text) k
text_set store colour home text (kind.Ref t) = (tt, tt)
text_set store colour home text k = tt

text_has : (o : Outline) (store : Store) (colour : Colour) (home : Region) (field : ℕ) (number : Option ℕ)
    → AllByRecursion (ActHas o store colour [] home) (with_text o field number)
text_has o store colour home field None = tt
text_has o store colour home field (Some number) = (tt, (text_set store colour home number (kind_of_field o field), tt))

constant_has : (o : Outline) (store : Store) (colour : Colour) (home : Region) (field : ℕ) (value : Option Constant)
    → (IsNumber value → IsPlainKind (kind_of_field o field)) → AllByRecursion (ActHas o store colour [] home) (set_constant o field value)
constant_has o store colour home field None plain = tt
constant_has o store colour home field (Some (constant.Int n)) plain = (plain_set store colour home (kind_of_field o field) (value.Int n) (plain tt), tt)
constant_has o store colour home field (Some (constant.Long n)) plain = (plain_set store colour home (kind_of_field o field) (value.Long n) (plain tt), tt)
constant_has o store colour home field (Some (constant.Text text)) plain = text_has o store colour home field (text_number o.texts (units text))

starts_have : (o : Outline) (store : Store) (colour : Colour) (home : Region) → HoldsNumbers o → (classes : List ℕ)
    → AllByRecursion (ActHas o store colour [] home) (start_actions o classes)
starts_have o store colour home numbers classes =
    all_flat (ActHas o store colour [] home) (start_of_class o) classes
    (λ class. (
      tt,
      all_flat (ActHas o store colour [] home) (λ field. set_constant o field (field_at o.classes field).field.value) (fields_at o class)
          (λ field. constant_has o store colour home field (field_at o.classes field).field.value (numbers.constants field)),
    ))

-- ---- main's arguments

arguments_have : (o : Outline) (store : Store) (colour : Colour) (home : Region) → home ≢ Retired → (place : ℕ) (texts : List (List ℕ))
    → AllByRecursion (ActHas o store colour [] home) (argument_actions o place texts)
arguments_have o store colour home live place [] = tt
arguments_have o store colour home live place (text ∷ texts) =
    (inr refl, ((home, live, refl, refl, tt), arguments_have o store colour home live (place + 1) texts))

-- ---- the streams are static fields

streams_coloured : (o : Outline) (colour : Colour) (x : Areas) (cells : List ℕ) → AreAreasColoured o colour x
    → LivesForEver x.store (slice_index_or cells 0 0) → LivesForEver x.store (slice_index_or cells 1 0)
    → AreAreasColoured o colour (with_streams x cells)
streams_coloured o colour x cells h first second = record {
  orderly = h.orderly;
  statics = λ slot v at. ⊎_elim
      (λ input. subst (λ w. HasColour x.store colour Everywhere w) input.1
      (for_ever-is_of x.store colour Everywhere (slice_index_or cells 1 0) second))
      (λ others. ⊎_elim
      (λ output. subst (λ w. HasColour x.store colour Everywhere w) output.1
      (for_ever-is_of x.store colour Everywhere (slice_index_or cells 0 0) first))
      (λ rest. h.statics slot v rest.1)
      (set_found x.statics 0 (ref (slice_index_or cells 0 0)) slot v others.1))
      (set_found (slice_set x.statics 0 (ref (slice_index_or cells 0 0))) 1 (ref (slice_index_or cells 1 0)) slot v at);
  edges = h.edges;
  literals = h.literals;
}

-- ---- main's frame

main_coloured : (p : Program) (facts : Facts) (store : Store) (colour : Colour) (cell : ℕ)
    → IsOf store colour (region p.outline facts p.outline.main [] (facts.class p.outline.main (Local 0))) cell
    → IsFrameColoured p.outline facts store colour (new_frame p p.outline.main (ref cell ∷ [])) []
main_coloured p facts store colour cell has = record {
  locals = λ k v found live. ⊎_elim
      (λ front. argument k v front.1)
      (λ back. subst (λ w. HasColour store colour (region p.outline facts p.outline.main [] (facts.class p.outline.main (Local k))) w)
      (sym (top_found _ back.0 v back.2)) tt)
      (append_found (ref cell ∷ []) _ k v found);
  words = λ n v found. absurd (cc);
} where
  argument : (k : ℕ) (v : Value) → slice_get (ref cell ∷ []) k ≡ Some v
      → HasColour store colour (region p.outline facts p.outline.main [] (facts.class p.outline.main (Local k))) v
  argument zero v found =
      subst (λ w. HasColour store colour (region p.outline facts p.outline.main [] (facts.class p.outline.main (Local 0))) w) (same_Some (ref cell) v found) has
  argument (suc k) v found = absurd (cc)

either_state : (p : Program) (facts : Facts) (colour : Colour) (b : Bool) (one other : State) → Coloured p facts one colour → Coloured p facts other colour
    → Coloured p facts (cond b one other) colour
either_state p facts colour true one other first second = first
either_state p facts colour false one other first second = second

-- ---- the opening

module _ (p : Program) (facts : Facts) (choose : Choose) (may : (s : Store) (request : Request) → MayReuse s request (choose s request)) (numbers : HoldsNumbers p.outline) where
  abbrev pub given_region : Region
  given_region = region p.outline facts p.outline.main [] (facts.class p.outline.main (Local 0))

  abbrev pub opened_colour : Colour
  opened_colour birth = given_region

  live : given_region ≢ Retired
  live = (region_within p.outline facts p.outline.main [] (facts.class p.outline.main (Local 0))).not_retired

  framed_coloured : (y : State) (cell : ℕ) (methods : List ℕ) → AreAreasColoured p.outline opened_colour y.areas
      → IsOf y.areas.store opened_colour given_region cell → Coloured p facts (framed y (opening_frames p methods cell)) opened_colour
  framed_coloured y cell methods areas has =
      either_state p facts opened_colour (nat_lt y.depth (length (opening_frames p methods cell))) _ _
      (record { frames = tt; areas = areas })
      (record {
        frames = starts_coloured p facts y.areas.store opened_colour methods (new_frame p p.outline.main (ref cell ∷ []) ∷ [])
            (main_coloured p facts y.areas.store opened_colour cell has, tt);
        areas = areas;
      })

  -- what is done once the streams are made: main's arguments, the start of its class, and the frames
  abbrev of_arguments : Job → List Action
  of_arguments job = Make (arguments_type p.outline) (length job.arguments) [] ∷ argument_actions p.outline 0 job.arguments

  abbrev last_frames : List ℕ → List ℕ → State → List ℕ → State
  last_frames classes cells z last = framed z (opening_frames p (start_methods p.outline classes) (slice_index_or cells 2 0))

  abbrev main_started : List ℕ → State → List ℕ → State
  main_started classes y cells =
      opened_by p choose (start_actions p.outline classes) (record y { areas = with_streams y.areas cells }) cells (last_frames classes cells)

  -- with the streams made
  rest_coloured : (job : Job) (classes : List ℕ) (x : State) (made : List ℕ) → IsOpen p.outline opened_colour given_region x made
      → 1 < length made → LivesForEver x.areas.store (slice_index_or made 0 0) → LivesForEver x.areas.store (slice_index_or made 1 0)
      → Coloured p facts (opened_by p choose (of_arguments job) x made (main_started classes)) opened_colour
  rest_coloured job classes x made open_ two first second =
      opened_goes p facts choose may numbers given_region (of_arguments job) x made (main_started classes)
      (λ store. (inl refl, arguments_have p.outline store opened_colour given_region live 0 job.arguments)) open_
      (λ y cells later more keeps.
      let zero_kept = keeps 0 (omega arith) in
      let one_kept = keeps 1 two in
      let output : LivesForEver y.areas.store (slice_index_or cells 0 0) =
      subst (λ c. LivesForEver y.areas.store c) (sym zero_kept.1) (for_ever-later x.areas.store y.areas.store (slice_index_or made 0 0) more first) in
      let input : LivesForEver y.areas.store (slice_index_or cells 1 0) =
      subst (λ c. LivesForEver y.areas.store c) (sym one_kept.1) (for_ever-later x.areas.store y.areas.store (slice_index_or made 1 0) more second) in
      let areas : AreAreasColoured p.outline opened_colour (with_streams y.areas cells) =
      streams_coloured p.outline opened_colour y.areas cells later.areas output input in
      opened_goes p facts choose may numbers given_region (start_actions p.outline classes) (record y { areas = with_streams y.areas cells }) cells (last_frames classes cells)
      (λ store. starts_have p.outline store opened_colour given_region numbers classes)
      (record { areas = areas; made = later.made; frames = later.frames })
      (λ z last final further kept. framed_coloured z (slice_index_or cells 2 0) (start_methods p.outline classes) final.areas
      (is_of-later y.areas.store z.areas.store opened_colour given_region (slice_index_or cells 2 0) further (later.made 2))))

  pub opening_coloured : (job : Job) (budget : ℕ) (limit : Option ℕ) (free : List (List ℕ))
      → Coloured p facts (opening p choose job (opened budget limit free)).state opened_colour
  unfolding opening opening_actions
  opening_coloured job budget limit free =
      let classes : List ℕ = to_start p.outline (first_areas p.outline (opened budget limit free)).started p.outline.main_class in
      let start : State = unopened p job (first_areas p.outline (opened budget limit free)) in
      stream_goes p facts choose may numbers given_region (built_in_type p.outline (codes "java/io/PrintStream"))
      (MakeFixed (built_in_type p.outline (codes "java/io/InputStream")) ∷ of_arguments job) start [] (main_started classes) numbers.output
      (record { areas = first_coloured p.outline opened_colour budget limit free; made = λ n. OfNull refl; frames = refl })
      (λ x made open_ more keeps size fixed.
      stream_goes p facts choose may numbers given_region (built_in_type p.outline (codes "java/io/InputStream")) (of_arguments job) x made (main_started classes)
      numbers.input open_
      (λ y cells later further kept count other.
      let first = kept 0 (omega (arith, size)) in
      let one : length made ≡ 1 = size in
      rest_coloured job classes y cells later (omega (arith, size, count))
      (subst (λ c. LivesForEver y.areas.store c) (sym first.1) (for_ever-later x.areas.store y.areas.store (slice_index_or made 0 0) further fixed))
      (subst (λ n. LivesForEver y.areas.store (slice_index_or cells n 0)) one other)))
