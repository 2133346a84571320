-- The opening of a run leads to no cell but to those that are held after it.
use Rattle.std.proofs.Common.{◌≡◌, ℕ, ◌+◌, ◌^◌, ◌<◌, ◌⊎◌, cond, Bool, true, false, List, [], ◌∷◌, ◌++◌, length, nat_lt, Option, Some, is_some, refl, ap, inl, inr, slice_set, slice_index_or, arith, ⊎_elim}
use Rattle.std.specs.List.{All, AllByRecursion, flat_map}
use Rattle.std.specs.FinMap.{gets}
use Rattle.std.proofs.lemmas.Bool.Decides.{nat_tests}
use Rattle.std.proofs.lemmas.List.Elements.{All-append, All-cons, All-from_recursion, All-nil, All-push, All-replicate, All-set}
use Rattle.fm_base.specs.declared.kinds.TypeRef.{TypeRef}
use Rattle.fm_cells.proofs.Choices.{lawful_choice-may}
use Rattle.fm_cells.specs.Changes.{Choice, made_by, put_by, RefuseStore, Take}
use Rattle.fm_cells.specs.Choices.{lawful, MayReuse}
use Rattle.fm_cells.specs.Objects.{Object, Request}
use Rattle.fm_cells.specs.Soundness.{CellsFit}
use Rattle.fm_cells.specs.Stores.{IsHeld, live_words, object_at, opened, Store}
use Rattle.fm_code.specs.AccessFlags.{is_static}
use Rattle.fm_world.specs.Members.{field_kind, fields_of, OwnedField, size_of}
use Rattle.fm_world.specs.Programs.{Outline, Program}
use Rattle.fm_world.specs.declared.declarations.DeclaredClass.{DeclaredClass}
use Rattle.fm_frames.specs.Acts.{cell_of, Choose, Did, is_there, literal_made, literal_text, literal_type, made_then, performed, Performed, put_value, requested, set_static, value_of, with_content}
use Rattle.fm_frames.specs.Effects.{Action, Make, MakeFixed, MakeLiteral, Put, SetStatic, Start}
use Rattle.fm_frames.specs.Elements.{first_of, kept}
use Rattle.fm_frames.specs.Literals.{literal_count}
use Rattle.fm_frames.specs.Runs.{after_action, argument_actions, first_areas, framed, Job, opened_by, opening, opening_actions, opening_frames, unopened, with_streams}
use Rattle.fm_frames.specs.Starts.{start_actions, start_methods, to_start}
use Rattle.fm_frames.specs.States.{Areas, Frame, ref, State}
use Rattle.fm_frames.specs.Steps.{is_over, new_frame, start_frames, stopped, words_made}
use Rattle.fm_frames.specs.declared.ends.Ended.{Ended}
use Rattle.fm_frames.specs.declared.ends.Ended.TheVariants as end
use Rattle.fm_frames.specs.declared.values.Value.{Value}
use Rattle.fm_law_sound.specs.Acting.{ActsFit, MakeFits}
use Rattle.fm_law_sound.specs.HeldCells.{AreasLeadWithin, FrameLeadsWithin, HoldsCells, LeadsWithin}
use Rattle.fm_law_sound.specs.Laws.{no_frame}
use Rattle.fm_law_sound.specs.Leading.{sources_of}
use Rattle.fm_law_sound.specs.Making.{ArgumentsFit, MakesAreResolved}
use Rattle.fm_law_sound.specs.Placing.{PutAgrees}
use Rattle.fm_law_sound.specs.Resolved.{StepsAreResolved}
use Rattle.fm_law_sound.specs.Sound.{AreasAreSound}
use Rattle.fm_law_sound.proofs.ActsKeep.{class_set, Keeps, keeps_later, literal_set, Makes, makes, object_keeps, one_made, static_set, with_areas}
use Rattle.fm_law_sound.proofs.CellsKeep.{cell_within, chains_of, filled_leads, kept_classes, literal_leads, number_read, put_leads, put_reads, set_leads, source_within, start_leads, units_of}
use Rattle.fm_law_sound.proofs.HeldStays.{ChainsFit, element_stays, filled_stays, Stays}
use Rattle.fm_law_sound.proofs.NextPlaces.{starts_agree}
use Rattle.fm_law_sound.proofs.Opening.{first_sound, fit_later, IsMade, of_start_made, opening_made, OpeningActsFit, start_made, streams_keep}
use Rattle.fm_law_sound.proofs.OpeningActs.{opening_fits}
use Rattle.fm_law_sound.proofs.StartActs.{start_alone}
use Rattle.fm_law_sound.proofs.StepCells.{Holds, new_frame_within, start_frames_within}

-- before there is any frame
bare_within : FrameLeadsWithin no_frame
bare_within = record { locals = All-nil LeadsWithin; stack = All-nil LeadsWithin }

-- the cell is held in the state, or within the range
record IsIn (cell : ℕ) (y : State) : Type 0 where
  either : IsHeld y.areas.store cell ⊎ (cell < 2 ^ 32)

by_held : (p : Program) (y : State) (cell : ℕ) → IsIn cell y → (cell < 2 ^ 32 → Holds p y) → Holds p y
by_held p y cell is rest fits = ⊎_elim (λ held. rest (fits cell held) fits) (λ small. rest small fits) is.either

either_in : (cell : ℕ) (b : Bool) (one other : State) → IsIn cell one → IsIn cell other → IsIn cell (cond b one other)
either_in cell true one other first second = first
either_in cell false one other first second = second

either_holds : (p : Program) (b : Bool) (one other : State) → Holds p one → Holds p other → Holds p (cond b one other)
either_holds p true one other first second = first
either_holds p false one other first second = second

-- ---- each action by itself

module _ (p : Program) (choose : Choose) (z : State) where
  -- the state without frames, with these areas
  abbrev at : Areas → State
  at areas = record z { frames = []; areas = areas }

  abbrev o : Outline
  o = p.outline

  -- what follows keeps what is held
  abbrev StaysOn : (State → List ℕ → State) → Type 0
  StaysOn follows = (areas : Areas) (made : List ℕ) → ChainsFit areas.store → (cell : ℕ) → IsHeld areas.store cell → IsIn cell (follows (at areas) made)

  onto : (store later : Store) (cell : ℕ) (y : State) → Stays store later → ChainsFit store → IsHeld store cell
      → (ChainsFit later → IsHeld later cell → IsIn cell y) → IsIn cell y
  onto store later cell y stays chains held rest = ⊎_elim (λ still. rest (stays.chains chains) still) (λ small. record { either = inr small }) (stays.held cell held)

  made_stay : (areas : Areas) (request : Request) (content : List ℕ) (choice : Choice) (goes : Areas → ℕ → Performed) (follows : State → List ℕ → State)
      (cell : ℕ) → ChainsFit areas.store → IsHeld areas.store cell
      → ((later : Store) (made : ℕ) → ChainsFit later → IsHeld later cell
      → IsIn cell (after_action (at areas) (goes (record areas { store = later }) made) follows))
      → IsIn cell (after_action (at areas) (made_then areas request content choice goes) follows)
  made_stay areas request content RefuseStore goes follows cell chains held rest = record { either = inl held }
  made_stay areas request content (Take made grows) goes follows cell chains held rest =
      let later : Store = with_content (made_by areas.store request (Take made grows)) made content in
      onto areas.store later cell (after_action (at areas) (goes (record areas { store = later }) made) follows)
      (filled_stays areas.store request made grows content) chains held (rest later made)

  either_after : (areas : Areas) (follows : State → List ℕ → State) (cell : ℕ) (b : Bool) (one other : Performed)
      → IsIn cell (after_action (at areas) one follows) → IsIn cell (after_action (at areas) other follows)
      → IsIn cell (after_action (at areas) (cond b one other) follows)
  either_after areas follows cell true one other first second = first
  either_after areas follows cell false one other first second = second

  -- how the run ends where an action would pass the budget
  abbrev exhausted : Areas → Action → Ended
  exhausted areas action = end.Exhausted (live_words areas.store) (words_made o areas (action ∷ []))

  over_in : (areas : Areas) (action : Action) (cell : ℕ) → IsHeld areas.store cell → IsIn cell (stopped (at areas) (exhausted areas action))
  over_in areas action cell held = record { either = inl held }

  each_stays : (actions : List Action) (areas : Areas) (made : List ℕ) (follows : State → List ℕ → State) → StaysOn follows
      → AllByRecursion IsMade actions → ChainsFit areas.store → (cell : ℕ) → IsHeld areas.store cell
      → IsIn cell (opened_by p choose actions (at areas) made follows)
  unfolding performed
  each_stays [] areas made follows stays all chains cell held = stays areas made chains cell held
  each_stays (Make t len content ∷ more) areas made follows stays all chains cell held =
      either_in cell (is_over o areas (Make t len content ∷ [])) _ _ (over_in areas (Make t len content) cell held)
      (made_stay areas (requested o t len false) content (choose areas.store (requested o t len false)) (λ y c. Did y (made ++ c ∷ [])) _ cell chains held
      (λ later c fits still. each_stays more (record areas { store = later }) (made ++ c ∷ []) follows stays all.1 fits cell still))
  each_stays (MakeFixed t ∷ more) areas made follows stays all chains cell held =
      either_in cell (is_over o areas (MakeFixed t ∷ [])) _ _ (over_in areas (MakeFixed t) cell held)
      (made_stay areas (requested o t 0 true) [] (choose areas.store (requested o t 0 true)) (λ y c. Did y (made ++ c ∷ [])) _ cell chains held
      (λ later c fits still. each_stays more (record areas { store = later }) (made ++ c ∷ []) follows stays all.1 fits cell still))
  each_stays (MakeLiteral text ∷ more) areas made follows stays all chains cell held =
      let request : Request = requested o (literal_type o text) (length (literal_text o text)) true in
      either_in cell (is_over o areas (MakeLiteral text ∷ [])) _ _ (over_in areas (MakeLiteral text) cell held)
      (either_after areas _ cell (is_there areas text) _ _ (each_stays more areas made follows stays all.1 chains cell held)
      (made_stay areas request (literal_text o text) (choose areas.store request) (λ y c. Did (literal_made y text c) made) _ cell chains held
      (λ later c fits still. each_stays more (literal_made (record areas { store = later }) text c) made follows stays all.1 fits cell still)))
  each_stays (Put target place k v ∷ more) areas made follows stays all chains cell held =
      let object : ℕ = cell_of (value_of (sources_of no_frame areas made) target) in
      let element : ℕ = kept k (value_of (sources_of no_frame areas made) v) in
      either_in cell (is_over o areas (Put target place k v ∷ [])) _ _ (over_in areas (Put target place k v) cell held)
      (onto areas.store (put_by areas.store object place element) cell _ (element_stays areas.store object place element) chains held
      (λ fits still. each_stays more (record areas { store = put_by areas.store object place element }) made follows stays all.1 fits cell still))
  each_stays (SetStatic slot k v ∷ more) areas made follows stays all chains cell held =
      either_in cell (is_over o areas (SetStatic slot k v ∷ [])) _ _ (over_in areas (SetStatic slot k v) cell held)
      (each_stays more (set_static areas slot k (value_of (sources_of no_frame areas made) v)) made follows stays all.1 chains cell held)
  each_stays (Start class ∷ more) areas made follows stays all chains cell held =
      either_in cell (is_over o areas (Start class ∷ [])) _ _ (over_in areas (Start class) cell held)
      (each_stays more (record areas { started = slice_set areas.started class true }) made follows stays all.1 chains cell held)
  each_stays (action ∷ more) areas made follows stays all chains cell held = absurd all.0

  module _ (sizes : (class : ℕ) → size_of p.outline.classes class < 2 ^ 31) (may : (s : Store) (request : Request) → MayReuse s request (choose s request)) (store : Store) where
    ended_holds : (areas : Areas) → AreasLeadWithin o areas → (e : Ended) → Holds p (stopped (at areas) e)
    ended_holds areas leads e fits = record { frames = All-nil FrameLeadsWithin; areas = leads }

    -- what follows leads within the range, wherever the actions led
    abbrev GoesOn : (State → List ℕ → State) → Type 0
    GoesOn follows =
        (areas : Areas) (types : List TypeRef) (made : List ℕ) → Keeps o store areas types made → AreasLeadWithin o areas → All (λ cell. cell < 2 ^ 32) made
        → Holds p (follows (at areas) made)

    made_holds : (areas : Areas) (t : TypeRef) (len : ℕ) (content : List ℕ) (fixed : Bool) (choice : Choice) (goes : Areas → ℕ → Performed)
        (follows : State → List ℕ → State) → AreasAreSound o areas → MakeFits o t len content → MayReuse areas.store (requested o t len fixed) choice
        → AreasLeadWithin o areas
        → ((later : Store) (cell : ℕ) → ChainsFit later → IsHeld later cell
        → IsIn cell (after_action (at areas) (goes (record areas { store = later }) cell) follows))
        → ((later : Store) (cell : ℕ) → Makes o areas later cell t → cell < 2 ^ 32 → AreasLeadWithin o (record areas { store = later })
        → Holds p (after_action (at areas) (goes (record areas { store = later }) cell) follows))
        → Holds p (after_action (at areas) (made_then areas (requested o t len fixed) content choice goes) follows)
    made_holds areas t len content fixed RefuseStore goes follows sound fits can leads stay rest = ended_holds areas leads _
    made_holds areas t len content fixed (Take cell grows) goes follows sound fits can leads stay rest =
        let request : Request = requested o t len fixed in
        let later : Store = with_content (made_by areas.store request (Take cell grows)) cell content in
        let one : Makes o areas later cell t = makes o areas t len content fixed cell grows sound fits can.1 in
        let now : AreasLeadWithin o (record areas { store = later }) =
        filled_leads o areas request cell grows content leads (units_of o t len content fits.content_fits) in
        by_held p (after_action (at areas) (goes (record areas { store = later }) cell) follows) cell
        (stay later cell (chains_of o (record areas { store = later }) now) (ap is_some one.there))
        (λ small. rest later cell one small now)

    after_holds : (areas : Areas) (follows : State → List ℕ → State) (b : Bool) (one other : Performed)
        → Holds p (after_action (at areas) one follows) → Holds p (after_action (at areas) other follows)
        → Holds p (after_action (at areas) (cond b one other) follows)
    after_holds areas follows true one other first second = first
    after_holds areas follows false one other first second = second

    each_holds : (actions : List Action) (areas : Areas) (types : List TypeRef) (made : List ℕ) (follows : State → List ℕ → State) → GoesOn follows
        → StaysOn follows → AllByRecursion IsMade actions → ActsFit o store no_frame types actions → AllByRecursion (PutAgrees o store []) actions
        → Keeps o store areas types made → AreasLeadWithin o areas → All (λ cell. cell < 2 ^ 32) made
        → Holds p (opened_by p choose actions (at areas) made follows)
    unfolding performed
    each_holds [] areas types made follows goes stays all fit agrees h leads small = goes areas types made h leads small
    each_holds (Make t len content ∷ more) areas types made follows goes stays all fit agrees h leads small =
        either_holds p (is_over o areas (Make t len content ∷ [])) _ _ (ended_holds areas leads (exhausted areas (Make t len content)))
        (made_holds areas t len content false (choose areas.store (requested o t len false)) (λ y cell. Did y (made ++ cell ∷ [])) _ h.sound fit.0
        (may areas.store (requested o t len false)) leads
        (λ later cell chains held. each_stays more (record areas { store = later }) (made ++ cell ∷ []) follows stays all.1 chains cell held)
        (λ later cell one within now. each_holds more (record areas { store = later }) (types ++ t ∷ []) (made ++ cell ∷ []) follows goes stays all.1 fit.1
        agrees.1 (one_made o store areas later types made cell t h one) now (All-push (λ c. c < 2 ^ 32) made cell small within)))
    each_holds (MakeFixed t ∷ more) areas types made follows goes stays all fit agrees h leads small =
        either_holds p (is_over o areas (MakeFixed t ∷ [])) _ _ (ended_holds areas leads (exhausted areas (MakeFixed t)))
        (made_holds areas t 0 [] true (choose areas.store (requested o t 0 true)) (λ y cell. Did y (made ++ cell ∷ [])) _ h.sound fit.0
        (may areas.store (requested o t 0 true)) leads
        (λ later cell chains held. each_stays more (record areas { store = later }) (made ++ cell ∷ []) follows stays all.1 chains cell held)
        (λ later cell one within now. each_holds more (record areas { store = later }) (types ++ t ∷ []) (made ++ cell ∷ []) follows goes stays all.1 fit.1
        agrees.1 (one_made o store areas later types made cell t h one) now (All-push (λ c. c < 2 ^ 32) made cell small within)))
    each_holds (MakeLiteral text ∷ more) areas types made follows goes stays all fit agrees h leads small =
        let t : TypeRef = literal_type o text in
        let len : ℕ = length (literal_text o text) in
        either_holds p (is_over o areas (MakeLiteral text ∷ [])) _ _ (ended_holds areas leads (exhausted areas (MakeLiteral text)))
        (after_holds areas _ (is_there areas text) _ _ (each_holds more areas types made follows goes stays all.1 fit.1 agrees.1 h leads small)
        (made_holds areas t len (literal_text o text) true (choose areas.store (requested o t len true)) (λ y cell. Did (literal_made y text cell) made) _
        h.sound fit.0 (may areas.store (requested o t len true)) leads
        (λ later cell chains held. each_stays more (literal_made (record areas { store = later }) text cell) made follows stays all.1 chains cell held)
        (λ later cell one within now. each_holds more (literal_made (record areas { store = later }) text cell) types made follows goes stays all.1 fit.1
        agrees.1
        (with_areas o sizes choose may store no_frame (record areas { store = later }) (literal_made (record areas { store = later }) text cell) types made
        (keeps_later o store areas later types made h one.follows one.sound) refl
        (literal_set o sizes choose may store no_frame (record areas { store = later }) text cell one.sound))
        (literal_leads o sizes choose may store no_frame bare_within (record areas { store = later }) text cell now within) small)))
    each_holds (Put target place k v ∷ more) areas types made follows goes stays all fit agrees h leads small =
        either_holds p (is_over o areas (Put target place k v ∷ [])) _ _ (ended_holds areas leads (exhausted areas (Put target place k v)))
        (each_holds more (put_value areas (value_of (sources_of no_frame areas made) target) place k (value_of (sources_of no_frame areas made) v)) types made
        follows goes stays all.1 fit.2 agrees.1 (object_keeps o sizes choose may store no_frame areas types made target v place k h fit.0 fit.1)
        (put_leads o sizes choose may store no_frame bare_within areas types made target place k (value_of (sources_of no_frame areas made) v) h fit.0 leads
        (λ t is. source_within o store no_frame bare_within areas made leads small
        (kept_classes o sizes choose may store no_frame bare_within areas types made h) v
        (put_reads o sizes choose may store no_frame bare_within target v place k agrees.0 t is)))
        small)
    each_holds (SetStatic slot k v ∷ more) areas types made follows goes stays all fit agrees h leads small =
        either_holds p (is_over o areas (SetStatic slot k v ∷ [])) _ _ (ended_holds areas leads (exhausted areas (SetStatic slot k v)))
        (each_holds more (set_static areas slot k (value_of (sources_of no_frame areas made) v)) types made follows goes stays all.1 fit.1 agrees.1
        (with_areas o sizes choose may store no_frame areas (set_static areas slot k (value_of (sources_of no_frame areas made) v)) types made h refl
        (static_set o sizes choose may store no_frame areas slot k (value_of (sources_of no_frame areas made) v) h.sound fit.0))
        (set_leads o sizes choose may store no_frame bare_within areas slot k v (value_of (sources_of no_frame areas made) v) leads agrees.0
        (λ reads. source_within o store no_frame bare_within areas made leads small
        (kept_classes o sizes choose may store no_frame bare_within areas types made h) v reads))
        small)
    each_holds (Start class ∷ more) areas types made follows goes stays all fit agrees h leads small =
        either_holds p (is_over o areas (Start class ∷ [])) _ _ (ended_holds areas leads (exhausted areas (Start class)))
        (each_holds more (record areas { started = slice_set areas.started class true }) types made follows goes stays all.1 fit agrees.1
        (with_areas o sizes choose may store no_frame areas (record areas { started = slice_set areas.started class true }) types made h refl
        (class_set o sizes choose may store no_frame areas class h.sound))
        (start_leads o sizes choose may store no_frame bare_within areas class leads) small)
    each_holds (action ∷ more) areas types made follows goes stays all fit agrees h leads small = absurd all.0

-- ---- the first areas

-- each static field leads to null at first, or is a number
first_values : (cs : List DeclaredClass) (fields : List OwnedField)
    → AllByRecursion LeadsWithin (flat_map (λ f. cond (is_static f.field.flags) (first_of (field_kind cs f.field) ∷ []) []) fields)
first_values cs [] = tt
first_values cs (f ∷ fields) = by_flag _ (is_static f.field.flags) (first_values cs fields) where
  by_flag : (words : List Value) (b : Bool) → AllByRecursion LeadsWithin words
      → AllByRecursion LeadsWithin (cond b (first_of (field_kind cs f.field) ∷ []) [] ++ words)
  by_flag words true rest = (number_read (field_kind cs f.field) 0 (omega arith), rest)
  by_flag words false rest = rest

first_leads : (o : Outline) (budget : ℕ) (limit : Option ℕ) (free : List (List ℕ)) → AreasLeadWithin o (first_areas o (opened budget limit free))
first_leads o budget limit free = record {
  statics = All-from_recursion LeadsWithin (first_areas o (opened budget limit free)).statics (first_values o.classes (fields_of o.classes));
  literals = All-replicate (λ cell. cell < 2 ^ 32) (literal_count o) 0 (omega arith);
  heap = λ cell object held. absurd (nothing_held cell object held);
} where
  nothing_held : (cell : ℕ) (held : Object) → object_at (opened budget limit free) cell ≡ Some held → ⊥
  nothing_held cell held there = grind (arith, gets, nat_tests)

streams_lead : (o : Outline) (areas : Areas) (made : List ℕ) → AreasLeadWithin o areas → All (λ cell. cell < 2 ^ 32) made → AreasLeadWithin o (with_streams areas made)
streams_lead o areas made leads small = record {
  statics = All-set LeadsWithin (slice_set areas.statics 0 (ref (slice_index_or made 0 0))) 1 (ref (slice_index_or made 1 0)) (cell_within made small 1)
      (All-set LeadsWithin areas.statics 0 (ref (slice_index_or made 0 0)) (cell_within made small 0) leads.statics);
  literals = leads.literals;
  heap = leads.heap;
}

pub arguments_agree : (o : Outline) (store : Store) (place : ℕ) (texts : List (List ℕ)) → AllByRecursion (PutAgrees o store []) (argument_actions o place texts)
arguments_agree o store place [] = tt
arguments_agree o store place (text ∷ texts) = (tt, (tt, arguments_agree o store (place + 1) texts))

pub opening_agrees : (o : Outline) (store : Store) (job : Job) → AllByRecursion (PutAgrees o store []) (opening_actions o job)
unfolding opening_actions
opening_agrees o store job = (tt, (tt, (tt, arguments_agree o store 0 job.arguments)))

-- ---- all together

module _ (p : Program) (ready : StepsAreResolved p) (choose : Choose) (job : Job) (store : Store) where
  abbrev bare : Areas → State
  bare areas = unopened p job areas

  framed_in : (areas : Areas) (frames : List Frame) (cell : ℕ) → IsHeld areas.store cell → IsIn cell (framed (bare areas) frames)
  framed_in areas frames cell held =
      either_in cell (nat_lt job.depth (length frames)) (stopped (record (bare areas) { frames = [] }) (end.TooDeep 1)) (record (bare areas) { frames = frames })
      (record { either = inl held }) (record { either = inl held })

  framed_holds : (methods : List ℕ) (arguments : ℕ) (areas : Areas) → arguments < 2 ^ 32 → AreasLeadWithin p.outline areas
      → Holds p (framed (bare areas) (opening_frames p methods arguments))
  framed_holds methods arguments areas small leads =
      let main : Frame = new_frame p p.outline.main (ref arguments ∷ []) in
      either_holds p (nat_lt job.depth (length (opening_frames p methods arguments)))
      (stopped (record (bare areas) { frames = [] }) (end.TooDeep 1)) (record (bare areas) { frames = opening_frames p methods arguments })
      (λ fits. record { frames = All-nil FrameLeadsWithin; areas = leads })
      (λ fits. record {
        frames = All-append FrameLeadsWithin (start_frames p methods) (main ∷ []) (start_frames_within p methods)
            (All-cons FrameLeadsWithin main [] (new_frame_within p p.outline.main (ref arguments ∷ []) (All-cons LeadsWithin (ref arguments) [] small (All-nil LeadsWithin)))
            (All-nil FrameLeadsWithin));
        areas = leads;
      })

  opened_holds : OpeningActsFit p job store → AreasAreSound p.outline (first_areas p.outline store) → AreasLeadWithin p.outline (first_areas p.outline store)
      → Holds p (opening p (lawful choose) job store).state
  unfolding opening
  opened_holds fit sound leads =
      let o : Outline = p.outline in
      let classes : List ℕ = to_start o (first_areas o store).started o.main_class in
      let may : (s : Store) (request : Request) → MayReuse s request (lawful choose s request) = λ s request. lawful_choice-may s request (choose s request) in
      let start_all : AllByRecursion IsMade (start_actions o classes) = of_start_made (start_actions o classes) (start_made o classes) in
      let z : State = bare (first_areas o store) in
      each_holds p (lawful choose) z ready.calls.runnable.sizes may store (opening_actions o job) (first_areas o store) [] [] _
      (λ areas types made kept now small.
      each_holds p (lawful choose) z ready.calls.runnable.sizes may store (start_actions o classes) (with_streams areas made) types made _
      (λ later more cells keeps leads_later small_later. framed_holds (start_methods o classes) (slice_index_or made 2 0) later (cell_within made small 2) leads_later)
      (λ later cells chains cell held. framed_in later (opening_frames p (start_methods o classes) (slice_index_or made 2 0)) cell held)
      start_all (fit_later o store no_frame types (start_actions o classes) (start_made o classes) (fit.start classes))
      (starts_agree o store [] classes) (streams_keep p ready choose store areas types made kept) (streams_lead o areas made now small) small)
      (λ areas made chains cell held.
      each_stays p (lawful choose) z (start_actions o classes) (with_streams areas made) made _
      (λ later cells fits c still. framed_in later (opening_frames p (start_methods o classes) (slice_index_or made 2 0)) c still) start_all chains cell held)
      (opening_made o job) fit.opening (opening_agrees o store job) (record {
        sound = sound;
        kept = λ cell object held. (object, held, refl);
        made_is = λ n t at. absurd (cc);
        count = refl;
      }) leads (λ n d inside. absurd (omega (arith, inside)))

pub opening_holds : (p : Program) → StepsAreResolved p → MakesAreResolved p → (choose : Choose) (job : Job) → ArgumentsFit job.arguments
    → (budget : ℕ) (limit : Option ℕ) (free : List (List ℕ)) → CellsFit (opening p (lawful choose) job (opened budget limit free)).state.areas.store
    → HoldsCells p (opening p (lawful choose) job (opened budget limit free)).state
opening_holds p ready made choose job given budget limit free =
    opened_holds p ready choose job (opened budget limit free) (record {
      opening = opening_fits p made.makeable (opened budget limit free) no_frame job given;
      start = start_alone p made.makeable made.constants (opened budget limit free) no_frame;
    }) (first_sound p.outline budget limit free) (first_leads p.outline budget limit free)
