-- The opening of a run leaves a whole state that is no fault.
use Rattle.std.proofs.Common.{◌≡◌, ℕ, zero, suc, ◌+◌, cond, Bool, true, false, List, [], ◌∷◌, ◌++◌, length, nat_lt, Option, Some, refl, sym, ◌∙◌, ap, subst, inl, inr, slice_get, slice_set, slice_index_or, arith, ⊎_elim}
use Rattle.std.specs.List.{AllByRecursion, AllZip, flat_map}
use Rattle.std.specs.FinMap.{gets}
use Rattle.std.proofs.lemmas.Bool.Decides.{nat_tests}
use Rattle.std.proofs.lemmas.List.{length-append}
use Rattle.std.proofs.lemmas.Option.{same_Some}
use Rattle.fm_base.specs.declared.ids.MethodId.{MethodId}
use Rattle.fm_base.specs.declared.kinds.Kind.{Kind}
use Rattle.fm_base.specs.declared.kinds.Kind.TheVariants as kind
use Rattle.fm_base.specs.declared.kinds.TypeRef.{TypeRef}
use Rattle.fm_cells.proofs.Choices.{lawful_choice-may}
use Rattle.fm_cells.specs.Choices.{lawful, MayReuse}
use Rattle.fm_cells.specs.Objects.{Object, Request}
use Rattle.fm_cells.specs.Stores.{live_words, object_at, opened, Store}
use Rattle.fm_code.specs.AccessFlags.{is_static}
use Rattle.fm_types.specs.Fits.{AreTree, fits_type}
use Rattle.fm_types.specs.Named.{this_class}
use Rattle.fm_types.specs.Typed.{made_at}
use Rattle.fm_types.specs.declared.slots.Slot.TheVariants as slot
use Rattle.fm_types.proofs.Order.{type-refl}
use Rattle.fm_world.specs.Members.{field_kind, fields_of, OwnedField}
use Rattle.fm_world.specs.Programs.{Outline, Program}
use Rattle.fm_frames.specs.Acts.{cell_of, Choose, Did, FullAt, LostAt, performed, Performed}
use Rattle.fm_frames.specs.Effects.{Action, Copy, Free, FreeChain, Make, MakeFixed, MakeLiteral, Put, SetChain, SetStatic, Start}
use Rattle.fm_frames.specs.Elements.{first_of, read}
use Rattle.fm_frames.specs.Literals.{literal_count}
use Rattle.fm_frames.specs.NativeRows.{text_type}
use Rattle.fm_frames.specs.Runs.{after_action, argument_actions, arguments_type, first_areas, framed, Job, opened_by, opening, opening_actions, opening_frames, unopened, with_streams}
use Rattle.fm_frames.specs.Starts.{start_actions, start_methods, to_start}
use Rattle.fm_frames.specs.States.{Areas, Frame, ref, State, word_at}
use Rattle.fm_frames.specs.Steps.{is_over, new_frame, stopped, words_made}
use Rattle.fm_frames.specs.declared.ends.Ended.{Ended}
use Rattle.fm_frames.specs.declared.ends.Ended.TheVariants as end
use Rattle.fm_frames.specs.declared.values.Value.{Value}
use Rattle.fm_frames.specs.declared.values.Value.TheVariants as value
use Rattle.fm_same.proofs.Opening.{first_field, zeros_found}
use Rattle.fm_same.proofs.StoreChanges.{extends-refl}
use Rattle.fm_law_sound.specs.Laws.{no_frame}
use Rattle.fm_law_sound.specs.Making.{ArgumentsFit, MakesAreResolved}
use Rattle.fm_law_sound.specs.Resolved.{MainIsReady, StepsAreResolved}
use Rattle.fm_law_sound.specs.Sound.{AreTyped, static_slots, Typings}
use Rattle.fm_law_sound.proofs.ClassStarts.{starts_are_methods}
use Rattle.fm_law_sound.proofs.Opening.{fit_later, start_made}
use Rattle.fm_law_sound.proofs.OpeningActs.{opening_fits}
use Rattle.fm_law_sound.proofs.StartActs.{start_alone}
use Rattle.fm_law_no_fault.specs.CellsResolved.{CellsAreResolved, input_type, output_type}
use Rattle.fm_law_no_fault.specs.Doing.{ActsLead}
use Rattle.fm_law_no_fault.specs.Whole.{AreasAreWhole, FrameIsWhole, HasNoFault, LeadsToA, WordFits}
use Rattle.fm_law_no_fault.proofs.ActsKeep.{acts_go, an-later, IsAn, set_at, types_after, Went, went_first, WentTo}
use Rattle.fm_law_no_fault.proofs.ActsSuits.{acts_lead, made_stays}
use Rattle.fm_law_no_fault.proofs.FramesKeep.{new_whole, started_whole}
use Rattle.fm_law_no_fault.proofs.Owing.{ActsSuit}
use Rattle.fm_law_no_fault.proofs.StartsSuit.{NumbersAreConstants, starts_alone}

-- ---- one action and those after it

after_one : (types : List TypeRef) (action : Action) (more : List Action)
    → types_after types (action ∷ more) ≡ types_after (types_after types (action ∷ [])) more
after_one types (Make t len content) more = refl
after_one types (MakeFixed t) more = refl
after_one types (MakeLiteral text) more = refl
after_one types (Put object place k v) more = refl
after_one types (SetStatic field k v) more = refl
after_one types (Start class) more = refl
after_one types (Free operand) more = refl
after_one types (SetChain operand to) more = refl
after_one types (FreeChain operand) more = refl
after_one types (Copy t len operand) more = refl

lead_parts : (o : Outline) (store : Store) (stack : List Value) (types : List TypeRef) (action : Action) (more : List Action)
    → ActsLead o store stack types (action ∷ more)
    → ActsLead o store stack types (action ∷ []) × ActsLead o store stack (types_after types (action ∷ [])) more
lead_parts o store stack types (Make t len content) more h = ((h.0, h.1, tt), h.2)
lead_parts o store stack types (MakeFixed t) more h = ((h.0, h.1, tt), h.2)
lead_parts o store stack types (MakeLiteral text) more h = ((h.0, h.1, tt), h.2)
lead_parts o store stack types (Put object place k v) more h = ((h.0, tt), h.1)
lead_parts o store stack types (SetStatic field k v) more h = ((h.0, tt), h.1)
lead_parts o store stack types (Start class) more h = (tt, h)
lead_parts o store stack types (Free operand) more h = absurd h
lead_parts o store stack types (SetChain operand to) more h = absurd h
lead_parts o store stack types (FreeChain operand) more h = absurd h
lead_parts o store stack types (Copy t len operand) more h = ((h.0, h.1, tt), h.2)

-- ---- each action by itself

-- what holds where the run is opened
pub record Opened (p : Program) (typings : Typings) (x : State) : Type 0 where
  pub frames : AllByRecursion (FrameIsWhole p typings x.areas.store) x.frames
  pub areas : AreasAreWhole p.outline x.areas
  pub no_fault : HasNoFault x

module _ (p : Program) (typings : Typings) (choose : Choose) (may : (s : Store) (request : Request) → MayReuse s request (choose s request)) (store : Store) (z : State) where
  abbrev o : Outline
  o = p.outline

  -- the state without frames, with these areas
  abbrev at : Areas → State
  at areas = record z { frames = []; areas = areas }

  ended_open : (areas : Areas) → AreasAreWhole o areas → (e : Ended) → ((method : MethodId) (offset cell : ℕ) → e ≡ end.Fault method offset cell → ⊥)
      → Opened p typings (stopped (at areas) e)
  ended_open areas whole e other = record {
    frames = tt;
    areas = whole;
    no_fault = λ method offset cell is. other method offset cell (same_Some e (end.Fault method offset cell) is);
  }

  -- what follows is open, wherever the actions led
  abbrev GoesOn : List TypeRef → (State → List ℕ → State) → Type 0
  GoesOn types follows = (areas : Areas) (cells : List ℕ) → Went o store types areas cells → Opened p typings (follows (at areas) cells)

  after_open : (types : List TypeRef) (areas : Areas) (follows : State → List ℕ → State) (result : Performed) → WentTo o store types result
      → GoesOn types follows → Opened p typings (after_action (at areas) result follows)
  after_open types areas follows (Did later cells) went goes = goes later cells went
  after_open types areas follows (FullAt later needed) went goes = ended_open later went.0 _ (λ method offset cell is. absurd (cc))
  after_open types areas follows (LostAt v) went goes = absurd went

  either_open : (b : Bool) (one other : State) → Opened p typings one → Opened p typings other → Opened p typings (cond b one other)
  either_open true one other first second = first
  either_open false one other first second = second

  all_open : (actions : List Action) (types : List TypeRef) (areas : Areas) (made : List ℕ) (follows : State → List ℕ → State)
      → ActsLead o store [] types actions → Went o store types areas made → GoesOn (types_after types actions) follows
      → Opened p typings (opened_by p choose actions (at areas) made follows)
  all_open [] types areas made follows leads went goes = goes areas made went
  all_open (action ∷ more) types areas made follows leads went goes =
      let parts = lead_parts o store [] types action more leads in
      either_open (is_over o areas (action ∷ [])) _ _
      (ended_open areas went.areas (end.Exhausted (live_words areas.store) (words_made o areas (action ∷ []))) (λ method offset cell is. absurd (cc)))
      (after_open (types_after types (action ∷ [])) areas (λ y cells. opened_by p choose more y cells follows)
      (performed o choose [] [] (action ∷ []) areas made) (acts_go o choose may store [] [] (action ∷ []) types areas made parts.0 went)
      (λ later cells further. all_open more (types_after types (action ∷ [])) later cells follows parts.1 further
      (subst (λ all. GoesOn all follows) (after_one types action more) goes)))

-- ---- the first areas

null_first : (k : Kind) → cell_of (first_of k) ≡ 0
unfolding read
null_first kind.Boolean = refl
null_first kind.Byte = refl
null_first kind.Char = refl
null_first kind.Short = refl
null_first kind.Int = refl
null_first kind.Long = refl
null_first (kind.Ref t) = refl

null_static : (b : Bool) (k : Kind) (rest : List Value) → ((n : ℕ) → cell_of (word_at rest n) ≡ 0) → (n : ℕ)
    → cell_of (word_at (cond b (first_of k ∷ []) [] ++ rest) n) ≡ 0
null_static true k rest each zero = null_first k
null_static true k rest each (suc n) = each n
null_static false k rest each n = each n

null_statics : (o : Outline) (fields : List OwnedField) (n : ℕ) → cell_of (word_at (flat_map (first_field o) fields) n) ≡ 0
null_statics o [] n = refl
null_statics o (f ∷ fields) n =
    null_static (is_static f.field.flags) (field_kind o.classes f.field) (flat_map (first_field o) fields) (null_statics o fields) n

first_whole : (o : Outline) (budget : ℕ) (limit : Option ℕ) (free : List (List ℕ)) → AreasAreWhole o (first_areas o (opened budget limit free))
first_whole o budget limit free = record {
  statics = λ field t is. inl (null_statics o (fields_of o.classes) field);
  literals = λ text. inl (zeros_found (literal_count o) text);
  heap = λ cell held there. absurd (nothing_held cell held there);
} where
  nothing_held : (cell : ℕ) (held : Object) → object_at (opened budget limit free) cell ≡ Some held → ⊥
  nothing_held cell held there = grind (arith, gets, nat_tests)

-- ---- what the opening does

module _ (p : Program) (cells : CellsAreResolved p) (tree : AreTree p.outline.classes) (store : Store) where
  abbrev out : Outline
  out = p.outline

  last_at : (types : List TypeRef) (t : TypeRef) → slice_get (types ++ t ∷ []) (length types) ≡ Some t
  last_at [] t = refl
  last_at (u ∷ types) t = last_at types t

  arguments_suit : (place : ℕ) (texts : List (List ℕ)) (types : List TypeRef) → length types ≡ 3 + place
      → ActsSuit out store [] types (argument_actions out place texts)
  arguments_suit place [] types long = tt
  arguments_suit place (text ∷ texts) types long =
      let count = length-append types (text_type out ∷ []) in (
        inr refl,
        (
          (text_type out, ap (λ n. slice_get (types ++ text_type out ∷ []) n) (sym long) ∙ last_at types (text_type out), type-refl out.classes tree (text_type out)),
          arguments_suit (place + 1) texts (types ++ text_type out ∷ []) (omega (arith, count, long)),
        ),
      )

  opening_suits : (job : Job) → ActsSuit out store [] [] (opening_actions out job)
  unfolding opening_actions
  opening_suits job = (
    cells.built_in.output_plain,
    (
      cells.built_in.input_plain,
      (inl refl, arguments_suit 0 job.arguments (output_type out ∷ input_type out ∷ arguments_type out ∷ []) refl),
    ),
  )

  abbrev opened_types : Job → List TypeRef
  opened_types job = types_after [] (opening_actions out job)

  -- the first three objects are those of System and the array of the arguments
  first_types : (job : Job)
      → (slice_get (opened_types job) 0 ≡ Some (output_type out)) × (slice_get (opened_types job) 1 ≡ Some (input_type out))
      × (slice_get (opened_types job) 2 ≡ Some (arguments_type out))
  unfolding opening_actions
  first_types job =
      let types : List TypeRef = output_type out ∷ input_type out ∷ arguments_type out ∷ [] in (
        made_stays (argument_actions out 0 job.arguments) types 0 (output_type out) refl,
        made_stays (argument_actions out 0 job.arguments) types 1 (input_type out) refl,
        made_stays (argument_actions out 0 job.arguments) types 2 (arguments_type out) refl,
      )

  -- the streams are put into their static fields
  stream_leads : (areas : Areas) (made n : ℕ) (u : TypeRef) (t : TypeRef) → IsAn out areas.store u n → u ≡ t
      → LeadsToA out areas.store (λ w. fits_type out.classes w t) n
  stream_leads areas made n u t is same =
      inr (record { object = is.object; held = is.held; passes = subst (λ w. fits_type out.classes w t ≡ true) (sym (is.type_is ∙ same)) (type-refl out.classes tree t) })

  same_type : (place field : ℕ) (u t : TypeRef) → place ≡ field → slice_get (static_slots out) place ≡ Some (slot.Ref u)
      → slice_get (static_slots out) field ≡ Some (slot.Ref t) → u ≡ t
  same_type place field u t same at is =
      reference u t (same_Some (slot.Ref u) (slot.Ref t) (sym at ∙ ap (λ n. slice_get (static_slots out) n) same ∙ is)) where
        reference : (u t : TypeRef) → slot.Ref u ≡ slot.Ref t → u ≡ t
        reference u t e = cc

  streams_go : (job : Job) (areas : Areas) (made : List ℕ) → Went out store (opened_types job) areas made → AreasAreWhole out (with_streams areas made)
  streams_go job areas made went = record {
    statics = λ field t is. ⊎_elim
        (λ here. subst (λ w. LeadsToA out areas.store (λ u. fits_type out.classes u t) (cell_of w)) (sym here.1)
        (stream_leads areas 1 (slice_index_or made 1 0) (input_type out) t (went.made 1 (input_type out) (first_types job).1)
        (same_type 1 field (input_type out) t here.0 cells.built_in.input is)))
        (λ there. subst (λ w. LeadsToA out areas.store (λ u. fits_type out.classes u t) (cell_of w)) (sym there)
        (⊎_elim
        (λ here. subst (λ w. LeadsToA out areas.store (λ u. fits_type out.classes u t) (cell_of w)) (sym here.1)
        (stream_leads areas 0 (slice_index_or made 0 0) (output_type out) t (went.made 0 (output_type out) (first_types job).0)
        (same_type 0 field (output_type out) t here.0 cells.built_in.output is)))
        (λ before. subst (λ w. LeadsToA out areas.store (λ u. fits_type out.classes u t) (cell_of w)) (sym before) (went.areas.statics field t is))
        (set_at areas.statics 0 (ref (slice_index_or made 0 0)) field value.Top)))
        (set_at (slice_set areas.statics 0 (ref (slice_index_or made 0 0))) 1 (ref (slice_index_or made 1 0)) field value.Top);
    literals = went.areas.literals;
    heap = went.areas.heap;
  }

-- ---- all together

module _ (p : Program) (typings : Typings) (typed : AreTyped p typings) (steps : StepsAreResolved p) (makes : MakesAreResolved p) (cells : CellsAreResolved p) (numbers : NumbersAreConstants p.outline) (main : MainIsReady p) (choose : Choose) (job : Job) (given : ArgumentsFit job.arguments) where
  abbrev oo : Outline
  oo = p.outline

  abbrev may_be : (s : Store) (request : Request) → MayReuse s request (lawful choose s request)
  may_be s request = lawful_choice-may s request (choose s request)

  main_whole : (areas : Areas) (arguments : ℕ) → IsAn oo areas.store (arguments_type oo) arguments
      → FrameIsWhole p typings areas.store (new_frame p oo.main (ref arguments ∷ []))
  main_whole areas arguments is =
      let Fits = WordFits oo areas.store (this_class oo oo.main) (made_at p oo.main main.code) in
      new_whole p typings typed areas.store oo.main main.code (ref arguments ∷ []) main.code_is
      (subst (λ slots. AllZip Fits slots (ref arguments ∷ [])) (sym cells.places.main) (
        record {
          kind = tt;
          cell = inr (record {
            object = is.object;
            held = is.held;
            passes = subst (λ w. fits_type oo.classes w (arguments_type oo) ≡ true) (sym is.type_is) (type-refl oo.classes steps.tree (arguments_type oo));
          });
        },
        tt,
      ))

  framed_open : (classes : List ℕ) (arguments : ℕ) (areas : Areas) → AreasAreWhole oo areas → IsAn oo areas.store (arguments_type oo) arguments
      → Opened p typings (framed (unopened p job areas) (opening_frames p (start_methods oo classes) arguments))
  framed_open classes arguments areas whole is = by_depth (nat_lt job.depth (length frames)) where
    frames : List Frame
    frames = opening_frames p (start_methods oo classes) arguments

    by_depth : (b : Bool)
        → Opened p typings (cond b (stopped (record (unopened p job areas) { frames = [] }) (end.TooDeep 1)) (record (unopened p job areas) { frames = frames }))
    by_depth true = record {
      frames = tt;
      areas = whole;
      no_fault = λ method offset cell same. absurd (cc);
    }
    by_depth false = record {
      frames = started_whole p typings typed areas.store (start_methods oo classes) (starts_are_methods p steps.calls classes)
          (new_frame p oo.main (ref arguments ∷ []) ∷ []) (main_whole areas arguments is, tt);
      areas = whole;
      no_fault = λ method offset cell same. absurd (cc);
    }

  pub opening_open : (budget : ℕ) (limit : Option ℕ) (free : List (List ℕ))
      → Opened p typings (opening p (lawful choose) job (opened budget limit free)).state
  unfolding opening
  opening_open budget limit free =
      let store : Store = opened budget limit free in
      let classes : List ℕ = to_start oo (first_areas oo store).started oo.main_class in
      all_open p typings (lawful choose) may_be store (unopened p job (first_areas oo store)) (opening_actions oo job) [] (first_areas oo store) [] _
      (acts_lead p cells store no_frame (opening_actions oo job) [] (opening_fits p makes.makeable store no_frame job given)
      (opening_suits p cells steps.tree store job))
      (went_first oo (first_areas oo store) (first_whole oo budget limit free))
      (λ areas made went.
      let types : List TypeRef = types_after [] (opening_actions oo job) in
      let arguments : IsAn oo areas.store (arguments_type oo) (slice_index_or made 2 0) =
      went.made 2 (arguments_type oo) (first_types p cells steps.tree store job).2 in
      all_open p typings (lawful choose) may_be areas.store (unopened p job (first_areas oo store)) (start_actions oo classes) types (with_streams areas made) made _
      (acts_lead p cells areas.store no_frame (start_actions oo classes) types
      (fit_later oo areas.store no_frame types (start_actions oo classes) (start_made oo classes)
      (start_alone p makes.makeable makes.constants areas.store no_frame classes))
      (starts_alone p cells steps.tree numbers areas.store [] classes types))
      (record {
        areas = streams_go p cells steps.tree store job areas made went;
        extends = extends-refl areas.store;
        level = went.level;
        made = went.made;
      })
      (λ later others further. framed_open classes (slice_index_or made 2 0) later further.areas
      (an-later oo areas.store later.store (arguments_type oo) (slice_index_or made 2 0) further.extends arguments)))
