-- The opening of a run leaves a sound state.
use Rattle.std.proofs.Common.{◌≡◌, ℕ, ◌+◌, ◌^◌, ◌<◌, cond, Bool, true, false, List, [], ◌∷◌, ◌++◌, length, nat_lt, codes, Option, Some, None, refl, sym, ◌∙◌, ap, subst, slice_set, slice_index_or, arith}
use Rattle.std.specs.Prelude.{option_map, unwrap_or}
use Rattle.std.specs.List.{AllByRecursion, flat_map}
use Rattle.std.specs.FinMap.{gets}
use Rattle.std.proofs.lemmas.Bool.Decides.{nat_tests}
use Rattle.std.proofs.lemmas.List.{length-append, length-map, length-replicate}
use Rattle.fm_base.specs.Texts.{units}
use Rattle.fm_base.specs.declared.kinds.Kind.TheVariants as kind
use Rattle.fm_base.specs.declared.kinds.TypeRef.{TypeRef}
use Rattle.fm_cells.proofs.Choices.{lawful_choice-may}
use Rattle.fm_cells.proofs.Maps.{total-empty}
use Rattle.fm_cells.specs.Changes.{Choice, made_by, RefuseStore, Take}
use Rattle.fm_cells.specs.Choices.{lawful, MayReuse}
use Rattle.fm_cells.specs.Objects.{Object, Request}
use Rattle.fm_cells.specs.Stores.{live_words, object_at, opened, Store}
use Rattle.fm_code.specs.AccessFlags.{is_static}
use Rattle.fm_code.specs.Names.{object}
use Rattle.fm_types.specs.declared.slots.Slot.{Slot}
use Rattle.fm_world.proofs.TableLemmas.{fields_from-append}
use Rattle.fm_world.specs.BuiltIns.{built_in, static_field}
use Rattle.fm_world.specs.Descriptors.{class_number, kind_with, of_class}
use Rattle.fm_world.specs.Members.{slot_of, size_of, field_at, field_kind, fields_from, fields_of, OwnedField}
use Rattle.fm_world.specs.Numbers.{text_number}
use Rattle.fm_world.specs.Programs.{Outline, Program}
use Rattle.fm_world.specs.declared.declarations.Constant.{Constant}
use Rattle.fm_world.specs.declared.declarations.Constant.TheVariants as constant
use Rattle.fm_world.specs.declared.declarations.DeclaredClass.{DeclaredClass}
use Rattle.fm_world.specs.declared.declarations.DeclaredField.{DeclaredField}
use Rattle.fm_frames.specs.Acts.{Choose, Did, is_there, literal_made, literal_text, literal_type, made_then, performed, Performed, put_value, requested, set_static, value_of, with_content}
use Rattle.fm_frames.specs.Effects.{Action, Copy, Free, FreeChain, Make, MakeFixed, MakeLiteral, OfLiteral, Put, SetChain, SetStatic, Start}
use Rattle.fm_frames.specs.Elements.{first_of}
use Rattle.fm_frames.specs.ObjectRows.{kind_of_field}
use Rattle.fm_frames.specs.Runs.{after_action, argument_actions, first_areas, framed, Job, opened_by, opening, opening_actions, opening_frames, with_streams}
use Rattle.fm_frames.specs.Starts.{fields_at, set_constant, start_actions, start_methods, start_of_class, to_start}
use Rattle.fm_frames.specs.States.{Areas, Frame, ref, State}
use Rattle.fm_frames.specs.Steps.{is_over, words_made, new_frame, start_frames, stopped}
use Rattle.fm_frames.specs.declared.ends.Ended.{Ended}
use Rattle.fm_frames.specs.declared.ends.Ended.TheVariants as end
use Rattle.fm_frames.specs.declared.values.Value.{Value}
pub use Rattle.fm_frames.proofs.NestedActions.{all_flat}
use Rattle.fm_law_sound.specs.Acting.{ActsFit, MakeFits}
use Rattle.fm_law_sound.specs.Laws.{no_frame}
use Rattle.fm_law_sound.specs.Leading.{sources_of}
use Rattle.fm_law_sound.specs.Resolved.{MainIsReady, StepsAreResolved}
use Rattle.fm_law_sound.specs.Sound.{AreasAreSound, AreTyped, field_slot, HasKind, HaveKinds, IsSoundBy, Stand, static_slots, Typings}
use Rattle.fm_law_sound.proofs.ActsKeep.{class_set, Keeps, keeps_later, literal_set, Makes, makes, object_keeps, one_made, static_set, with_areas}
use Rattle.fm_law_sound.proofs.BuiltInMethods.{class_there, is_known}
use Rattle.fm_law_sound.proofs.CallsStand.{new_stands, started_stand}
use Rattle.fm_law_sound.proofs.ClassStarts.{starts_are_methods}
use Rattle.fm_law_sound.proofs.Leaving.{read_kind}
use Rattle.fm_frames.proofs.HeldCounts.{held_total}
use Rattle.fm_frames.specs.Literals.{literal_count}

-- the actions of the opening fit, and so do those that start classes
pub record OpeningActsFit (p : Program) (job : Job) (store : Store) : Type 0 where
  pub opening : ActsFit p.outline store no_frame [] (opening_actions p.outline job)
  pub start : (classes : List ℕ) → ActsFit p.outline store no_frame [] (start_actions p.outline classes)

-- ---- actions that only make and put

-- nothing is freed or chained
abbrev pub IsFreeless : Action → Type 0
IsFreeless (Free operand) = ⊥
IsFreeless (SetChain operand to) = ⊥
IsFreeless (FreeChain operand) = ⊥
IsFreeless action = Unit {0}

-- and nothing is copied
abbrev pub IsMade : Action → Type 0
IsMade (Free operand) = ⊥
IsMade (SetChain operand to) = ⊥
IsMade (FreeChain operand) = ⊥
IsMade (Copy t len operand) = ⊥
IsMade action = Unit {0}

-- those of a start name no object
abbrev pub IsOfStart : Action → Type 0
IsOfStart (MakeLiteral text) = Unit {0}
IsOfStart (SetStatic slot k v) = Unit {0}
IsOfStart (Start class) = Unit {0}
IsOfStart action = ⊥

abbrev pub with_text : Outline → ℕ → Option ℕ → List Action
with_text o field None = []
with_text o field (Some number) = MakeLiteral number ∷ SetStatic (slot_of o.classes field) (kind_of_field o field) (OfLiteral number) ∷ []

text_made : (o : Outline) (field : ℕ) (found : Option ℕ) → AllByRecursion IsOfStart (with_text o field found)
text_made o field None = tt
text_made o field (Some number) = (tt, (tt, tt))

constant_made : (o : Outline) (field : ℕ) (value : Option Constant) → AllByRecursion IsOfStart (set_constant o field value)
constant_made o field None = tt
constant_made o field (Some (constant.Int n)) = (tt, tt)
constant_made o field (Some (constant.Long n)) = (tt, tt)
constant_made o field (Some (constant.Text text)) = text_made o field (text_number o.texts (units text))

pub start_made : (o : Outline) (classes : List ℕ) → AllByRecursion IsOfStart (start_actions o classes)
start_made o classes =
    all_flat IsOfStart (start_of_class o) classes
    (λ class. (
      tt,
      all_flat IsOfStart (λ field. set_constant o field (field_at o.classes field).field.value) (fields_at o class)
          (λ field. constant_made o field (field_at o.classes field).field.value),
    ))

arguments_made : (o : Outline) (place : ℕ) (texts : List (List ℕ)) → AllByRecursion IsMade (argument_actions o place texts)
arguments_made o place [] = tt
arguments_made o place (text ∷ texts) = (tt, (tt, arguments_made o (place + 1) texts))

pub opening_made : (o : Outline) (job : Job) → AllByRecursion IsMade (opening_actions o job)
unfolding opening_actions
opening_made o job = (tt, (tt, (tt, arguments_made o 0 job.arguments)))

pub of_start_made : (actions : List Action) → AllByRecursion IsOfStart actions → AllByRecursion IsMade actions
of_start_made [] h = tt
of_start_made (MakeLiteral text ∷ more) h = (tt, of_start_made more h.1)
of_start_made (SetStatic slot k v ∷ more) h = (tt, of_start_made more h.1)
of_start_made (Start class ∷ more) h = (tt, of_start_made more h.1)
of_start_made (action ∷ more) h = absurd h.0

-- what was made before doesn't matter to them
pub fit_later : (o : Outline) (store : Store) (f : Frame) (types : List TypeRef) (actions : List Action) → AllByRecursion IsOfStart actions
    → ActsFit o store f [] actions → ActsFit o store f types actions
fit_later o store f types [] h fit = tt
fit_later o store f types (MakeLiteral text ∷ more) h fit = (fit.0, fit_later o store f types more h.1 fit.1)
fit_later o store f types (SetStatic slot k v ∷ more) h fit = (fit.0, fit_later o store f types more h.1 fit.1)
fit_later o store f types (Start class ∷ more) h fit = fit_later o store f types more h.1 fit
fit_later o store f types (action ∷ more) h fit = absurd h.0

-- ---- each action by itself

module _ (p : Program) (typings : Typings) (typed : AreTyped p typings) (sizes : (class : ℕ) → size_of p.outline.classes class < 2 ^ 31) (choose : Choose) (may : (s : Store) (request : Request) → MayReuse s request (choose s request)) (store : Store) (z : State) where
  abbrev o : Outline
  o = p.outline

  -- the state without frames, with these areas
  abbrev at : Areas → State
  at areas = record z { frames = []; areas = areas }

  ended_sound : (areas : Areas) → AreasAreSound o areas → (e : Ended) → IsSoundBy p typings (stopped (at areas) e)
  ended_sound areas sound e = record {
    typed = typed;
    areas = sound;
    frames = tt;
    running = λ running. absurd (cc);
    within = omega arith;
  }

  -- what follows leaves a sound state, wherever the actions led
  abbrev GoesOn : (State → List ℕ → State) → Type 0
  GoesOn follows =
      (areas : Areas) (types : List TypeRef) (made : List ℕ) → Keeps o store areas types made → IsSoundBy p typings (follows (at areas) made)

  either_sound : (b : Bool) (one other : State) → IsSoundBy p typings one → IsSoundBy p typings other → IsSoundBy p typings (cond b one other)
  either_sound true one other first second = first
  either_sound false one other first second = second

  made_sound : (areas : Areas) (t : TypeRef) (len : ℕ) (content : List ℕ) (fixed : Bool) (choice : Choice) (goes : Areas → ℕ → Performed)
      (follows : State → List ℕ → State) → AreasAreSound o areas → MakeFits o t len content → MayReuse areas.store (requested o t len fixed) choice
      → ((later : Store) (cell : ℕ) → Makes o areas later cell t
      → IsSoundBy p typings (after_action (at areas) (goes (record areas { store = later }) cell) follows))
      → IsSoundBy p typings (after_action (at areas) (made_then areas (requested o t len fixed) content choice goes) follows)
  made_sound areas t len content fixed RefuseStore goes follows sound fits may_be rest = ended_sound areas sound _
  made_sound areas t len content fixed (Take cell grows) goes follows sound fits may_be rest =
      rest (with_content (made_by areas.store (requested o t len fixed) (Take cell grows)) cell content) cell
      (makes o areas t len content fixed cell grows sound fits may_be.1)

  either_after : (areas : Areas) (follows : State → List ℕ → State) (b : Bool) (one other : Performed)
      → IsSoundBy p typings (after_action (at areas) one follows) → IsSoundBy p typings (after_action (at areas) other follows)
      → IsSoundBy p typings (after_action (at areas) (cond b one other) follows)
  either_after areas follows true one other first second = first
  either_after areas follows false one other first second = second

  -- how the run ends where an action would pass the budget
  abbrev exhausted : Areas → Action → Ended
  exhausted areas action = end.Exhausted (live_words areas.store) (words_made o areas (action ∷ []))

  each_sound : (actions : List Action) (areas : Areas) (types : List TypeRef) (made : List ℕ) (follows : State → List ℕ → State) → GoesOn follows
      → AllByRecursion IsMade actions → ActsFit o store no_frame types actions → Keeps o store areas types made
      → IsSoundBy p typings (opened_by p choose actions (at areas) made follows)
  unfolding performed
  each_sound [] areas types made follows goes all fit h = goes areas types made h
  each_sound (Make t len content ∷ more) areas types made follows goes all fit h =
      either_sound (is_over o areas (Make t len content ∷ [])) _ _ (ended_sound areas h.sound (exhausted areas (Make t len content)))
      (made_sound areas t len content false (choose areas.store (requested o t len false)) (λ y cell. Did y (made ++ cell ∷ [])) _ h.sound fit.0
      (may areas.store (requested o t len false))
      (λ later cell one. each_sound more (record areas { store = later }) (types ++ t ∷ []) (made ++ cell ∷ []) follows goes all.1 fit.1
      (one_made o store areas later types made cell t h one)))
  each_sound (MakeFixed t ∷ more) areas types made follows goes all fit h =
      either_sound (is_over o areas (MakeFixed t ∷ [])) _ _ (ended_sound areas h.sound (exhausted areas (MakeFixed t)))
      (made_sound areas t 0 [] true (choose areas.store (requested o t 0 true)) (λ y cell. Did y (made ++ cell ∷ [])) _ h.sound fit.0
      (may areas.store (requested o t 0 true))
      (λ later cell one. each_sound more (record areas { store = later }) (types ++ t ∷ []) (made ++ cell ∷ []) follows goes all.1 fit.1
      (one_made o store areas later types made cell t h one)))
  each_sound (MakeLiteral text ∷ more) areas types made follows goes all fit h =
      let t : TypeRef = literal_type o text in
      let len : ℕ = length (literal_text o text) in
      either_sound (is_over o areas (MakeLiteral text ∷ [])) _ _ (ended_sound areas h.sound (exhausted areas (MakeLiteral text)))
      (either_after areas _ (is_there areas text) _ _
      (each_sound more areas types made follows goes all.1 fit.1 h)
      (made_sound areas t len (literal_text o text) true (choose areas.store (requested o t len true))
      (λ y cell. Did (literal_made y text cell) made) _ h.sound fit.0 (may areas.store (requested o t len true))
      (λ later cell one. each_sound more (literal_made (record areas { store = later }) text cell) types made follows goes all.1 fit.1
      (with_areas o sizes choose may store no_frame (record areas { store = later }) (literal_made (record areas { store = later }) text cell) types made
      (keeps_later o store areas later types made h one.follows one.sound) refl
      (literal_set o sizes choose may store no_frame (record areas { store = later }) text cell one.sound)))))
  each_sound (Put target place k v ∷ more) areas types made follows goes all fit h =
      either_sound (is_over o areas (Put target place k v ∷ [])) _ _ (ended_sound areas h.sound (exhausted areas (Put target place k v)))
      (each_sound more (put_value areas (value_of (sources_of no_frame areas made) target) place k (value_of (sources_of no_frame areas made) v)) types made follows
      goes all.1 fit.2 (object_keeps o sizes choose may store no_frame areas types made target v place k h fit.0 fit.1))
  each_sound (SetStatic slot k v ∷ more) areas types made follows goes all fit h =
      either_sound (is_over o areas (SetStatic slot k v ∷ [])) _ _ (ended_sound areas h.sound (exhausted areas (SetStatic slot k v)))
      (each_sound more (set_static areas slot k (value_of (sources_of no_frame areas made) v)) types made follows goes all.1 fit.1
      (with_areas o sizes choose may store no_frame areas (set_static areas slot k (value_of (sources_of no_frame areas made) v)) types made h refl
      (static_set o sizes choose may store no_frame areas slot k (value_of (sources_of no_frame areas made) v) h.sound fit.0)))
  each_sound (Start class ∷ more) areas types made follows goes all fit h =
      either_sound (is_over o areas (Start class ∷ [])) _ _ (ended_sound areas h.sound (exhausted areas (Start class)))
      (each_sound more (record areas { started = slice_set areas.started class true }) types made follows goes all.1 fit
      (with_areas o sizes choose may store no_frame areas (record areas { started = slice_set areas.started class true }) types made h refl
      (class_set o sizes choose may store no_frame areas class h.sound)))
  each_sound (action ∷ more) areas types made follows goes all fit h = absurd all.0

-- ---- the first areas

-- each static field holds at first what its kind holds
first_kinds : (cs : List DeclaredClass) (fields : List OwnedField)
    → HaveKinds (flat_map (λ f. cond (is_static f.field.flags) (field_slot (field_kind cs f.field) ∷ []) []) fields)
    (flat_map (λ f. cond (is_static f.field.flags) (first_of (field_kind cs f.field) ∷ []) []) fields)
first_kinds cs [] = tt
first_kinds cs (f ∷ fields) = by_flag _ _ (is_static f.field.flags) (first_kinds cs fields) where
  by_flag : (slots : List Slot) (words : List Value) (b : Bool) → HaveKinds slots words
      → HaveKinds (cond b (field_slot (field_kind cs f.field) ∷ []) [] ++ slots) (cond b (first_of (field_kind cs f.field) ∷ []) [] ++ words)
  by_flag slots words true rest = (read_kind (field_kind cs f.field) 0, rest)
  by_flag slots words false rest = rest

pub first_sound : (o : Outline) (budget : ℕ) (limit : Option ℕ) (free : List (List ℕ))
    → AreasAreSound o (first_areas o (opened budget limit free))
first_sound o budget limit free = record {
  statics = first_kinds o.classes (fields_of o.classes);
  started = length-map o.classes (λ class. false);
  literals = length-replicate (literal_count o) 0;
  heap = λ cell held there. absurd (nothing_held cell held there);
  freed = ap (λ n. 0 + n) (held_total (opened budget limit free).held ∙ total-empty (λ (held : Object). 1));
  freed_words = omega arith;
} where
  nothing_held : (cell : ℕ) (held : Object) → object_at (opened budget limit free) cell ≡ Some held → ⊥
  nothing_held cell held there = grind (arith, gets, nat_tests)

-- ---- the streams

abbrev slots_in : List DeclaredClass → List OwnedField → List Slot
slots_in cs fields = flat_map (λ (f : OwnedField). cond (is_static f.field.flags) (field_slot (field_kind cs f.field) ∷ []) []) fields

abbrev out_stream : DeclaredField
out_stream = static_field (codes "out") (codes "Ljava/io/PrintStream;")

abbrev in_stream : DeclaredField
in_stream = static_field (codes "in") (codes "Ljava/io/InputStream;")

-- the first two static fields of all classes are those of System
first_two : (given : List DeclaredClass)
    → slots_in (built_in ++ given) (fields_of (built_in ++ given))
    ≡ field_slot (field_kind (built_in ++ given) out_stream) ∷ field_slot (field_kind (built_in ++ given) in_stream)
    ∷ slots_in (built_in ++ given) (fields_from (0 + length built_in) given)
unfolding built_in fields_of
first_two given = ap (slots_in (built_in ++ given)) (fields_from-append 0 built_in given)

leads_to_object : (o : Option ℕ) (class cell : ℕ) → o ≡ Some class
    → HasKind (field_slot (unwrap_or (option_map (kind_with 0) (option_map of_class o)) kind.Int)) (ref cell)
leads_to_object o class cell is =
    subst (λ found. HasKind (field_slot (unwrap_or (option_map (kind_with 0) (option_map of_class found)) kind.Int)) (ref cell)) (sym is) tt

known : (given : List DeclaredClass) (name : List ℕ) → is_known (object name) ≡ true → (cell : ℕ)
    → HasKind (field_slot (unwrap_or (option_map (kind_with 0) (option_map of_class (class_number (built_in ++ given) name))) kind.Int)) (ref cell)
known given name is cell = let there = class_there given name is in leads_to_object (class_number (built_in ++ given) name) there.0 cell there.1

out_known : is_known (object (codes "java/io/PrintStream")) ≡ true
unfolding built_in
out_known = refl

in_known : is_known (object (codes "java/io/InputStream")) ≡ true
unfolding built_in
in_known = refl

two_set : (x : Slot) (y : Slot) (rest : List Slot) (words : List Value) (v w : Value) → HaveKinds (x ∷ y ∷ rest) words → HasKind x v → HasKind y w
    → HaveKinds (x ∷ y ∷ rest) (slice_set (slice_set words 0 v) 1 w)
two_set x y rest [] v w h first second = absurd h
two_set x y rest (a ∷ []) v w h first second = absurd h.1
two_set x y rest (a ∷ b ∷ words) v w h first second = (first, (second, h.1.1))

streams_kinds : (o : Outline) (given : List DeclaredClass) → o.classes ≡ built_in ++ given → (words : List Value) (out input : ℕ)
    → HaveKinds (static_slots o) words → HaveKinds (static_slots o) (slice_set (slice_set words 0 (ref out)) 1 (ref input))
streams_kinds o given is words out input h =
    let same : static_slots o ≡ field_slot (field_kind (built_in ++ given) out_stream) ∷ field_slot (field_kind (built_in ++ given) in_stream)
    ∷ slots_in (built_in ++ given) (fields_from (0 + length built_in) given) =
    ap (λ cs. slots_in cs (fields_of cs)) is ∙ first_two given in
    subst (λ slots. HaveKinds slots (slice_set (slice_set words 0 (ref out)) 1 (ref input))) (sym same)
    (two_set (field_slot (field_kind (built_in ++ given) out_stream)) (field_slot (field_kind (built_in ++ given) in_stream))
    (slots_in (built_in ++ given) (fields_from (0 + length built_in) given)) words (ref out) (ref input)
    (subst (λ slots. HaveKinds slots words) same h) (known given (codes "java/io/PrintStream") out_known out)
    (known given (codes "java/io/InputStream") in_known input))

-- the streams are put into their static fields
pub streams_keep : (p : Program) → StepsAreResolved p → (choose : Choose) (store : Store) (areas : Areas) (types : List TypeRef) (made : List ℕ)
    → Keeps p.outline store areas types made → Keeps p.outline store (with_streams areas made) types made
streams_keep p ready choose store areas types made h =
    with_areas p.outline ready.calls.runnable.sizes (lawful choose) (λ s request. lawful_choice-may s request (choose s request)) store no_frame
    areas (with_streams areas made) types made h refl (record {
      statics = streams_kinds p.outline ready.calls.runnable.given ready.calls.runnable.classes areas.statics _ _ h.sound.statics;
      started = h.sound.started;
      literals = h.sound.literals;
      heap = h.sound.heap;
      freed = h.sound.freed;
      freed_words = h.sound.freed_words;
    })

-- ---- all together

module _ (p : Program) (typings : Typings) (typed : AreTyped p typings) (ready : StepsAreResolved p) (main : MainIsReady p) (choose : Choose) (job : Job) (store : Store) where
  abbrev bare : Areas → State
  bare areas = record { frames = []; areas = areas; input = job.input; depth = job.depth; steps = 0; ended = None }

  -- main's frame, and above it those that its class's start needs
  frames_stand : (classes : List ℕ) (arguments : ℕ) → Stand p typings (opening_frames p (start_methods p.outline classes) arguments)
  frames_stand classes arguments =
      started_stand p typings typed (start_methods p.outline classes) (starts_are_methods p ready.calls classes)
      (new_frame p p.outline.main (ref arguments ∷ [])) [] (
        new_stands p typings typed p.outline.main main.code (ref arguments ∷ []) main.code_is
            (subst (λ slots. HaveKinds slots (ref arguments ∷ [])) (sym main.takes) (tt, tt)),
        refl,
      )

  framed_sound : (classes : List ℕ) (arguments : ℕ) (areas : Areas) → AreasAreSound p.outline areas
      → IsSoundBy p typings (framed (bare areas) (opening_frames p (start_methods p.outline classes) arguments))
  framed_sound classes arguments areas sound = by_depth (nat_lt job.depth (length frames)) refl where
    frames : List Frame
    frames = opening_frames p (start_methods p.outline classes) arguments

    by_depth : (b : Bool) → nat_lt job.depth (length frames) ≡ b
        → IsSoundBy p typings (cond b (stopped (record (bare areas) { frames = [] }) (end.TooDeep 1)) (record (bare areas) { frames = frames }))
    by_depth true deep = record {
      typed = typed;
      areas = sound;
      frames = tt;
      running = λ running. absurd (cc);
      within = omega arith;
    }
    by_depth false shallow =
        let count = length-append (start_frames p (start_methods p.outline classes)) (new_frame p p.outline.main (ref arguments ∷ []) ∷ []) in
        record {
          typed = typed;
          areas = sound;
          frames = frames_stand classes arguments;
          running = λ running. omega (arith, count);
          within = grind (arith, nat_tests, shallow);
        }

  opened_sound : OpeningActsFit p job store → AreasAreSound p.outline (first_areas p.outline store)
      → IsSoundBy p typings (opening p (lawful choose) job store).state
  unfolding opening
  opened_sound fit sound =
      let classes : List ℕ = to_start p.outline (first_areas p.outline store).started p.outline.main_class in
      let may : (s : Store) (request : Request) → MayReuse s request (lawful choose s request) = λ s request. lawful_choice-may s request (choose s request) in
      each_sound p typings typed ready.calls.runnable.sizes (lawful choose) may store (bare (first_areas p.outline store))
      (opening_actions p.outline job) (first_areas p.outline store) [] [] _
      (λ areas types made kept.
      each_sound p typings typed ready.calls.runnable.sizes (lawful choose) may store (bare (first_areas p.outline store))
      (start_actions p.outline classes) (with_streams areas made) types made _
      (λ later more cells keeps. framed_sound classes (slice_index_or made 2 0) later keeps.sound)
      (of_start_made (start_actions p.outline classes) (start_made p.outline classes))
      (fit_later p.outline store no_frame types (start_actions p.outline classes) (start_made p.outline classes) (fit.start classes))
      (streams_keep p ready choose store areas types made kept))
      (opening_made p.outline job) fit.opening (record {
        sound = sound;
        kept = λ cell object held. (object, held, refl);
        made_is = λ n t at. absurd (cc);
        count = refl;
      })

pub opening_sound : (p : Program) (typings : Typings) → AreTyped p typings → StepsAreResolved p → MainIsReady p → (choose : Choose) (job : Job)
    → (budget : ℕ) (limit : Option ℕ) (free : List (List ℕ)) → OpeningActsFit p job (opened budget limit free)
    → IsSoundBy p typings (opening p (lawful choose) job (opened budget limit free)).state
opening_sound p typings typed ready main choose job budget limit free fit =
    opened_sound p typings typed ready main choose job (opened budget limit free) fit (first_sound p.outline budget limit free)
