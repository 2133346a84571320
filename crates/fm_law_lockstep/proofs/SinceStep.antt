-- A step of both programs, and what is inserted then: what was freed by then was retired, and holders hold what they got.
use Rattle.std.proofs.Common.{◌≡◌, ◌≢◌, ◌⊎◌, inl, inr, ℕ, ◌+◌, ◌-◌, ◌<◌, Bool, true, false, List, [], ◌∷◌, ◌++◌, length, map, Some, Contains, get_or, slice_get, refl, sym, ap, subst, ◌∙◌, arith, ⊎_elim}
use Rattle.std.specs.List.{AllZip}
use Rattle.std.proofs.lemmas.Bool.{cases_Bool, false≢true}
use Rattle.std.proofs.lemmas.List.{length-map}
use Rattle.std.proofs.lemmas.List.Elements.{length_all_zip}
use Rattle.std.proofs.lemmas.Option.{same_Some, slice_get-get_or, slice_get_within}
use Rattle.fm_base.proofs.ContainsFacts.{Contains-none}
use Rattle.fm_base.proofs.ListFacts.{AllByRecursion-at}
use Rattle.fm_cells.specs.Objects.{Object}
use Rattle.fm_cells.specs.Stores.{object_at, Store}
use Rattle.fm_chain.specs.Chained.{looped_at}
use Rattle.fm_code.specs.declared.code_array.Code.{Code}
use Rattle.fm_conn.specs.Links.{typed_method}
use Rattle.fm_conn.specs.Nodes.{depth_at, Slot, TypedMethod}
use Rattle.fm_frames.specs.Acts.{cell_of, Choose}
use Rattle.fm_frames.specs.States.{Areas, Frame, null, State, word_at}
use Rattle.fm_frames.specs.declared.values.Value.{Value}
use Rattle.fm_law_held_objects.proofs.ContentsKept.{has_before, nothing_has}
use Rattle.fm_law_held_objects.proofs.Steps.{captured_class}
use Rattle.fm_law_held_objects.specs.Contents.{Has}
use Rattle.fm_law_held_objects.specs.Freeing.{HoldersAreFreed, IsHadBy}
use Rattle.fm_law_held_objects.specs.Held.{AreHeld, FramesAreHeld, HolderHas}
use Rattle.fm_law_held_objects.specs.Laws.{frees_of}
use Rattle.fm_law_holders.specs.Holding.{holder_value, HoldsFreeable}
use Rattle.fm_law_lockstep.proofs.Ahead.{first_ahead, freed_ahead, given_ahead}
use Rattle.fm_law_lockstep.proofs.AheadHeld.{IsReady}
use Rattle.fm_law_lockstep.proofs.FoundTodos.{areas_both}
use Rattle.fm_law_lockstep.proofs.FramesHeld.{held_alike, held_below, holders_same, news_held, waits_held}
use Rattle.fm_law_lockstep.proofs.FreedTogether.{BeforeFrees, freed, FreeLaws}
use Rattle.fm_law_lockstep.proofs.KeptSince.{busy_behind, class_on_top, on_top, top_node}
use Rattle.fm_law_lockstep.proofs.NothingFreed.{FreesNothing}
use Rattle.fm_law_lockstep.proofs.Since.{FramesSince, HadBefore, HoldersSince, since_back, since_below, since_had, since_news, since_same, since_step, since_waits}
use Rattle.fm_law_lockstep.proofs.WhatIsFreed.{nulled_or_same}
use Rattle.fm_law_lockstep.specs.Both.{Both}
use Rattle.fm_law_lockstep.specs.Known.{IsLinked}
use Rattle.fm_law_lockstep.specs.Together.{GoTogetherAt}
use Rattle.fm_law_two_memories.specs.Pairing.{FramesPaired, Gone, SameValue, StatesPaired}
use Rattle.fm_law_unwoven.proofs.HoldersGo.{started_null}
use Rattle.fm_law_unwoven.proofs.OneKept.{safe_holders}
use Rattle.fm_law_unwoven.proofs.TodoLocals.{after_both}
use Rattle.fm_law_unwoven.specs.Doing.{all_areas_after, all_locals_after, joins_in, MayDo, MayDoAll}
use Rattle.fm_law_unwoven.specs.Kept.{Begins, BeginsOn, FrameGoes, FramesGo, GoesBefore, GoesBehind, GoesByJump, HasWaited, InMethod, IsNew, old_frame, Resumes, WasAt}
use Rattle.fm_law_unwoven.specs.Laid.{starts_of, to_keep, Todo}
use Rattle.fm_law_unwoven.specs.Reached.{Reached, state_reached, jumps_ahead}
use Rattle.fm_law_unwoven.specs.WovenFrom.{inserted_by, IsWovenFrom}
use Rattle.fm_place.specs.Insertions.{after_at, Holder, Insertions}
use Rattle.fm_place.specs.Places.{is_busy}
use Rattle.fm_place.specs.Safe.{IsSafeHolder}
use Rattle.fm_place.specs.Sites.{is_captured}
use Rattle.fm_place.specs.Woven.{local_of}
use Rattle.fm_same.specs.Colours.{Colour, node_of_word}
use Rattle.fm_same.specs.DeadRegions.{IsHeldAt, IsMethodAt, IsOver, LeadsTo}
use Rattle.fm_same.specs.Laws.{SitesMakeBusy}
use Rattle.fm_world.specs.Programs.{code_at}

-- no object of this birth is held
abbrev pub IsMissing : Store → ℕ → Type 0
IsMissing store birth = (cell : ℕ) (object : Object) → object_at store cell ≡ Some object → object.birth ≢ birth

-- this holds of the birth of what is held in the first store, and not in the second one
abbrev pub MissingIs : (ℕ → Type 0) → (one other : Store) → Type 0
MissingIs R one other = (cell : ℕ) (object : Object) → object_at one cell ≡ Some object → IsMissing other object.birth → R object.birth

-- What holds of holders by method, depth, class and birth, and of what is missing by birth, goes on from one state of the first program to the next.
pub record TellsOn (b : Both) (next : State) (S T : ℕ → ℕ → ℕ → ℕ → Type 0) (R Q : ℕ → Type 0) : Type 0 where
  pub extends : (method depth class birth : ℕ) → S method depth class birth → IsMethodAt method depth next.frames → T method depth class birth
  pub begins : (method depth class birth : ℕ) (v : Value) → IsMethodAt method depth next.frames → IsHeldAt b.facts depth class next.frames v
      → LeadsTo b.one.outline next.areas.store v birth → T method depth class birth
  pub retires : (method depth class birth : ℕ) (code : Code) → code_at b.one method ≡ Some code
      → is_captured b.facts (typed_method b.one b.facts.typing method code) class ≡ true → IsOver b.one b.facts method depth class next.frames
      → S method depth class birth → Q birth
  pub stays : (birth : ℕ) → R birth → Q birth

module _ (b : Both) (from : IsWovenFrom b.one b.other b.facts b.plans b.marks) (linked : IsLinked b.one b.facts) (busy : SitesMakeBusy) (frees : FreeLaws)
    (x y next following : State) (t : GoTogetherAt b x y) (x_still : FreesNothing x.areas next.areas) (still : FreesNothing y.areas following.areas)
    (colour : Colour) (f g : Frame) (callers below : List Frame)
    (paired : StatesPaired t.gone b.one.outline next (record following { frames = f ∷ callers; steps = next.steps }))
    (go : FramesGo b.one b.other b.facts b.plans b.marks y f g callers below) (S T : ℕ → ℕ → ℕ → ℕ → Type 0) (R Q : ℕ → Type 0) (tells : TellsOn b next S T R Q)
    (since : FramesSince b.one b.facts b.plans b.marks S y.areas.store y.frames) (missing : MissingIs R x.areas.store y.areas.store) (choose : Choose) where
  abbrev plan : Insertions
  plan = inserted_by (b.plans g.method)

  -- what holders that there were have after the step they had before
  had_before : (depth : ℕ) (code : Code) (inserted : Insertions) (values : List Value) → AreHeld b.facts.typing x t.colour depth y.areas.store code inserted values
      → (h birth : ℕ) → h < length inserted.holders → HolderHas following.areas.store code inserted values h birth
      → HolderHas y.areas.store code inserted values h birth
  had_before depth code inserted values held h birth within has =
      let any : Holder = record { site = 0; class = 0; looped = false } in
      has_before y.areas.store following.areas.store paired.areas.store.other_orderly still.keeps (looped_at inserted h) t.colour depth
      (get_or inserted.holders h any).class (holder_value code values h) birth
      (held.holds h (get_or inserted.holders h any) (slice_get-get_or inserted.holders h any within)) has

  -- ---- what a holder of the topmost frame has, before anything is freed

  module _ (code : Code) (code_is : code_at b.one g.method ≡ Some code) where
    abbrev m : TypedMethod
    m = typed_method b.one b.facts.typing g.method code

    -- what it had before, or what the site of a class gave that is busy now
    data HasBirth (other : Store) (holder : Holder) (birth : ℕ) : Type 0 where
      IsOld : S g.method (length below) holder.class birth → HasBirth other holder birth
      IsGiven : HoldsFreeable other (word_at g.stack 0) birth → 0 < length g.stack
          → b.facts.class g.method (Slot f.item (depth_at (typed_method b.one b.facts.typing g.method code) f.item - 1)) ≡ holder.class
          → is_busy b.facts (typed_method b.one b.facts.typing g.method code) holder.class f.item ≡ true → HasBirth other holder birth

    abbrev HaveBirths : Store → List Value → Type 0
    HaveBirths other values =
        (h : ℕ) (holder : Holder) → slice_get (inserted_by (b.plans g.method)).holders h ≡ Some holder → (birth : ℕ)
        → HolderHas other code (inserted_by (b.plans g.method)) values h birth → HasBirth other holder birth

    -- these holders get what a site gave
    abbrev AreGiven : List ℕ → Type 0
    AreGiven given =
        (h : ℕ) (holder : Holder) → Contains given h → slice_get (inserted_by (b.plans g.method)).holders h ≡ Some holder
        → (0 < length g.stack)
        × (b.facts.class g.method (Slot f.item (depth_at (typed_method b.one b.facts.typing g.method code) f.item - 1)) ≡ holder.class)
        × (is_busy b.facts (typed_method b.one b.facts.typing g.method code) holder.class f.item ≡ true)

    none_given : AreGiven []
    none_given h holder among is = absurd (Contains-none h among)

    -- behind a site its holder does
    site_gives : (j : ℕ) → f.item ≡ j + 1 → ((h : ℕ) → Contains (after_at (inserted_by (b.plans g.method)) j) h → 0 < length g.stack)
        → AreGiven (after_at (inserted_by (b.plans g.method)) j)
    site_gives j item some h holder among is =
        let safe_ones = safe_holders b.one b.other b.facts b.plans b.marks from g.method code code_is in (
          some h among,
          subst (λ n. b.facts.class g.method (Slot n (depth_at m n - 1)) ≡ holder.class) (sym item)
              (class_on_top b.one b.facts linked busy g.method code code_is plan safe_ones j h among holder is),
          subst (λ n. is_busy b.facts m holder.class n ≡ true) (sym item)
              (busy_behind b.one b.facts linked busy g.method code code_is plan safe_ones j h among holder is t.kept.sound.typed),
        )

    module _ (j : ℕ) (was : WasAt b.one b.marks y.frames g below j) where
      was_code : code_at b.one was.was.method ≡ Some code
      was_code = ap (code_at b.one) was.method ∙ code_is

      -- what a frame of this method held, this one held
      own_held : AreHeld b.facts.typing x t.colour (length below) y.areas.store code (inserted_by (b.plans g.method)) g.locals
      own_held =
          let held = held_below b.one b.facts b.plans b.marks x t.colour y.areas.store was.above (was.was ∷ below)
          (subst (FramesAreHeld b.one b.facts b.plans b.marks x t.colour y.areas.store) was.frames_are t.held) in
          held_alike b.facts.typing x t.colour (length below) y.areas.store code plan was.was.locals g.locals
          (holders_same b.one g was.was code was.method code_is was.holders)
          (subst (λ k. AreHeld b.facts.typing x t.colour (length below) y.areas.store code (inserted_by (b.plans k)) was.was.locals) was.method
          (held.0 j code was.item_is was_code))

      own_since : HoldersSince b.one b.facts b.plans b.marks S y.areas.store g.method (length below) code g.locals
      own_since =
          let told = since_below b.one b.facts b.plans b.marks S y.areas.store was.above (was.was ∷ below)
          (subst (FramesSince b.one b.facts b.plans b.marks S y.areas.store) was.frames_are since) in
          since_same b.one b.facts b.plans b.marks S y.areas.store (length below) g was.was code was.method code_is was.holders
          (told.0 j code was.item_is was_code)

      was_births : (todos : List Todo) (given hs : List ℕ) → IsReady b next following colour t.gone f g below code todos given hs → AreGiven given
          → HaveBirths (all_areas_after code g.stack todos g.locals following.areas).store (all_locals_after code g.stack todos g.locals)
      was_births todos given hs ahead gives h holder is birth has =
          let within = slice_get_within plan.holders h holder is in
          ⊎_elim
          (λ (mine : HolderHas following.areas.store code (inserted_by (b.plans g.method)) g.locals h birth).
          IsOld (own_since h holder is birth (had_before (length below) code plan g.locals own_held h birth within mine)))
          (λ (new : Contains given h × HoldsFreeable (all_areas_after code g.stack todos g.locals following.areas).store (word_at g.stack 0) birth).
          let site = gives h holder new.0 is in IsGiven new.1 site.0 site.1 site.2)
          (ahead.kept.had h birth within has)

    -- ---- what is freed before the next kept item

    module _ (todos : List Todo) (given hs : List ℕ) (number jumps : ℕ) (ahead : IsReady b next following colour t.gone f g below code todos given hs)
        (before : BeforeFrees b next (record following { areas = all_areas_after code g.stack todos g.locals following.areas }) f g callers below code
        (all_locals_after code g.stack todos g.locals))
        (gone_is : before.gone ≡ t.gone)
        (births : HaveBirths (all_areas_after code g.stack todos g.locals following.areas).store (all_locals_after code g.stack todos g.locals))
        (others : FramesAreHeld b.one b.facts b.plans b.marks x t.colour y.areas.store below)
        (told : FramesSince b.one b.facts b.plans b.marks S y.areas.store below)
        (fx : Frame) (cx : List Frame) (are : next.frames ≡ fx ∷ cx) where
      abbrev middle : State
      middle = record following { areas = all_areas_after code g.stack todos g.locals following.areas }

      abbrev values : List Value
      values = all_locals_after code g.stack todos g.locals

      abbrev z : State
      z = state_reached code following g below (todos ++ frees_of (inserted_by (b.plans g.method)) hs) jumps number

      abbrev later : Areas
      later = all_areas_after code g.stack (frees_of (inserted_by (b.plans g.method)) hs) values middle.areas

      frees_done : HoldersAreFreed b.one.outline b.facts.typing next before.colour (length below) code (inserted_by (b.plans g.method)) hs before.gone middle.areas later values
          (all_locals_after code g.stack (frees_of (inserted_by (b.plans g.method)) hs) values)
      frees_done = freed frees b next middle f g callers below code values before hs ahead.may

      areas_are : all_areas_after code g.stack (todos ++ frees_of (inserted_by (b.plans g.method)) hs) g.locals following.areas ≡ later
      areas_are = areas_both code g.stack todos (frees_of plan hs) g.locals following.areas

      locals_are : all_locals_after code g.stack (todos ++ frees_of (inserted_by (b.plans g.method)) hs) g.locals
          ≡ all_locals_after code g.stack (frees_of (inserted_by (b.plans g.method)) hs) values
      locals_are = after_both code g.stack todos (frees_of plan hs) g.locals

      -- what is led to then was led to before the frees
      back : (looped : Bool) (v : Value) (birth : ℕ) → Has looped z.areas.store v birth → Has looped middle.areas.store v birth
      back looped v birth has = frees_done.back looped v birth (subst (λ (a : Areas). Has looped a.store v birth) areas_are has)

      -- ---- frames

      pairs : AllZip (FramesPaired before.gone next.areas.store middle.areas.store) (fx ∷ cx) (f ∷ callers)
      pairs = subst (λ fs. AllZip (FramesPaired before.gone next.areas.store middle.areas.store) fs (f ∷ callers)) are before.paired.frames

      count : length cx ≡ length below
      count =
          length_all_zip (FramesPaired before.gone next.areas.store middle.areas.store) cx callers pairs.1
          ∙ sym (ap length before.callers_are) ∙ length-map below (old_frame b.one b.marks)

      top_method : fx.method ≡ g.method
      top_method = sym pairs.0.method ∙ sym before.method

      top_item : fx.item ≡ f.item
      top_item = sym pairs.0.item

      top_there : IsMethodAt g.method (length below) next.frames
      top_there = subst (IsMethodAt g.method (length below)) (sym are) (inl (count, top_method))

      -- what is on top of the stack is of the class of its node
      given_class : (class : ℕ) → b.facts.class g.method (Slot f.item (depth_at (typed_method b.one b.facts.typing g.method code) f.item - 1)) ≡ class
          → b.facts.class fx.method (node_of_word fx 0) ≡ class
      given_class class is =
          (λ k.
          b.facts.class (top_method k)
          (top_node b next before.colour before.made before.known before.gone before.retired middle.areas.store before.paired.areas.store fx cx are g.method code f.item
          top_method top_item k))
          ∙ is

      stacks : AllZip (SameValue before.gone next.areas.store middle.areas.store) fx.stack g.stack
      stacks = subst (AllZip (SameValue before.gone next.areas.store middle.areas.store) fx.stack) (sym go.stack) pairs.0.stack

      birth_since : (holder : Holder) (birth : ℕ) → HasBirth middle.areas.store holder birth → T g.method (length below) holder.class birth
      birth_since holder birth (IsOld had) = tells.extends g.method (length below) holder.class birth had top_there
      birth_since holder birth (IsGiven theirs some class_is is_busy) =
          let top = on_top b next before.colour before.made before.known before.gone before.retired middle.areas.store before.paired.areas.store fx cx are
          (length below) holder.class birth g.stack count (given_class holder.class class_is) stacks some theirs in
          tells.begins g.method (length below) holder.class birth top.value top_there top.held top.leads

      later_orderly_has : (looped : Bool) (birth : ℕ) → Has looped z.areas.store null birth → ⊥
      later_orderly_has looped birth has =
          nothing_has looped later.store birth frees_done.paired.store.other_orderly (subst (λ (a : Areas). Has looped a.store null birth) areas_are has)

      -- the holders of the topmost frame
      top_since : HoldersSince b.one b.facts b.plans b.marks T z.areas.store g.method (length below) code
          (all_locals_after code g.stack (todos ++ frees_of (inserted_by (b.plans g.method)) hs) g.locals)
      top_since h holder is birth theirs =
          let now : List Value = all_locals_after code g.stack (todos ++ frees_of plan hs) g.locals in
          ⊎_elim
          (λ none.
          let value : holder_value code now h ≡ null = ap (λ ls. word_at ls (local_of code h)) locals_are ∙ none in
          absurd (later_orderly_has (looped_at plan h) birth (subst (λ v. Has (looped_at plan h) z.areas.store v birth) value theirs)))
          (λ same.
          let value : holder_value code now h ≡ holder_value code values h = ap (λ ls. word_at ls (local_of code h)) locals_are ∙ same in
          birth_since holder birth
          (births h holder is birth
          (back (looped_at plan h) (holder_value code values h) birth (subst (λ v. Has (looped_at plan h) z.areas.store v birth) value theirs))))
          (nulled_or_same code g.stack (looped_at plan) hs values h)

      -- those of the others
      step_had : HadBefore b.one b.facts b.plans b.marks x t.colour y.areas.store following.areas.store (length below)
      step_had depth method second second_values less held h birth within has =
          had_before depth second (inserted_by (b.plans method)) second_values held h birth within has

      first_had : HadBefore b.one b.facts b.plans b.marks next colour following.areas.store middle.areas.store (length below)
      first_had depth method second second_values less held h birth within has =
          let apart : depth ≢ length below = λ same. omega (arith, less, same) in
          ahead.kept.others_had depth second (inserted_by (b.plans method)) second_values apart held h birth within has

      below_since : FramesSince b.one b.facts b.plans b.marks T z.areas.store below
      below_since =
          since_back b.one b.facts b.plans b.marks T middle.areas.store z.areas.store back below
          (since_had b.one b.facts b.plans b.marks T next colour following.areas.store middle.areas.store (length below) first_had below (omega arith) ahead.others
          (since_had b.one b.facts b.plans b.marks T x t.colour y.areas.store following.areas.store (length below) step_had below (omega arith) others
          (since_step b.one b.facts b.plans b.marks S T y.areas.store next.frames
          (λ method depth class birth had there. tells.extends method depth class birth had there)
          before.gone next.areas.store middle.areas.store cx below
          (subst (AllZip (FramesPaired before.gone next.areas.store middle.areas.store) cx) (sym before.callers_are) pairs.1)
          (λ depth method there. subst (IsMethodAt method depth) (sym are) (inr there)) told)))

      frames_since : FramesSince b.one b.facts b.plans b.marks T z.areas.store z.frames
      frames_since = (
        λ item other item_is other_is.
            subst (λ c.
            HoldersSince b.one b.facts b.plans b.marks T z.areas.store g.method (length below) c
            (all_locals_after code g.stack (todos ++ frees_of (inserted_by (b.plans g.method)) hs) g.locals))
            (same_Some code other (sym code_is ∙ other_is)) top_since,
        below_since,
      )

      -- ---- what is missing

      -- what a holder had is freed, so it is retired
      freed_is : (h : ℕ) (holder : Holder) → slice_get (inserted_by (b.plans g.method)).holders h ≡ Some holder
          → is_busy b.facts (typed_method b.one b.facts.typing g.method code) holder.class f.item ≡ false → (birth : ℕ)
          → HasBirth middle.areas.store holder birth → Q birth
      freed_is h holder is idle birth (IsGiven theirs some class_is is_busy) = absurd (false≢true (sym idle ∙ is_busy))
      freed_is h holder is idle birth (IsOld had) =
          let safe_one : IsSafeHolder b.facts m holder =
          AllByRecursion-at (IsSafeHolder b.facts m) plan.holders h holder (safe_holders b.one b.other b.facts b.plans b.marks from g.method code code_is) is in
          tells.retires g.method (length below) holder.class birth code code_is (captured_class b.facts m holder safe_one)
          (subst (IsOver b.one b.facts g.method (length below) holder.class) (sym are)
          (inr (
            count,
            top_method,
            λ other other_is.
                subst (λ c. is_busy b.facts (typed_method b.one b.facts.typing fx.method c) holder.class fx.item ≡ false)
                (same_Some code other (sym code_is ∙ ap (code_at b.one) (sym top_method) ∙ other_is))
                ((λ k. is_busy b.facts (typed_method b.one b.facts.typing (top_method k) code) holder.class (top_item k)) ∙ idle),
          )))
          had

      had_is : (birth : ℕ) → IsHadBy middle.areas.store code (inserted_by (b.plans g.method)) values hs birth → Q birth
      had_is birth mine =
          let freeable = ahead.may mine.number mine.among in
          freed_is mine.number freeable.holder freeable.is freeable.quiet birth (births mine.number freeable.holder freeable.is birth mine.has)

      -- what was gone before the step was retired before
      gone_before : (cell : ℕ) (object : Object) → object_at next.areas.store cell ≡ Some object → t.gone.births object.birth ≡ true → Q object.birth
      gone_before cell object held lost =
          let old = x_still.old cell object held (t.paired.areas.store.past object.birth lost) in
          subst Q old.2
          (tells.stays old.0.birth
          (missing cell old.0 old.1
          (λ q second there same.
          false≢true (sym (t.paired.areas.store.absent q second there) ∙ ap t.gone.births (same ∙ old.2) ∙ lost))))

      still_missing : MissingIs Q next.areas.store z.areas.store
      still_missing cell object held none =
          ⊎_elim
          (λ lost.
          ⊎_elim
          (λ before_is. gone_before cell object held (ap (λ (gone : Gone). gone.births object.birth) (sym gone_is) ∙ before_is))
          (λ (mine : IsHadBy middle.areas.store code (inserted_by (b.plans g.method)) values hs object.birth). had_is object.birth mine)
          (frees_done.had object.birth lost))
          (λ here.
          let twin = frees_done.paired.store.objects cell object held here in
          absurd (none twin.cell twin.twin (ap (λ (a : Areas). object_at a.store twin.cell) areas_are ∙ twin.held) twin.alike.birth))
          (cases_Bool (frees_done.more.births object.birth))

      both : FramesSince b.one b.facts b.plans b.marks T z.areas.store z.frames × MissingIs Q next.areas.store z.areas.store
      both = (frames_since, still_missing)

  -- ---- by where the frame goes

  -- each state at the next kept item
  abbrev Told : State → Type 0
  Told z = FramesSince b.one b.facts b.plans b.marks T z.areas.store z.frames × MissingIs Q next.areas.store z.areas.store

  -- what lies ahead of the frame
  abbrev first_of : FrameGoes b.one b.other b.facts b.plans b.marks y f g below → List Todo
  first_of top = first_ahead b.one b.other b.facts b.plans b.marks y following.areas.store f g below top

  abbrev given_of : FrameGoes b.one b.other b.facts b.plans b.marks y f g below → List ℕ
  given_of top = given_ahead b.one b.other b.facts b.plans b.marks y following.areas.store f g below top

  abbrev freed_of : FrameGoes b.one b.other b.facts b.plans b.marks y f g below → List ℕ
  freed_of top = freed_ahead b.one b.other b.facts b.plans b.marks y following.areas.store f g below top

  abbrev jumps_of : FrameGoes b.one b.other b.facts b.plans b.marks y f g below → ℕ
  jumps_of top = jumps_ahead b.one b.other b.facts b.plans b.marks y f g below top

  abbrev AheadOf : FrameGoes b.one b.other b.facts b.plans b.marks y f g below → Type 0
  AheadOf top =
      Reached b.one b.other b.facts b.plans b.marks choose following f g below (first_of top ++ frees_of (inserted_by (b.plans g.method)) (freed_of top)) (jumps_of top)

  some_of_one : (code : Code) (areas : Areas) (stack locals : List Value) (looped joins : Bool) (h : ℕ) → MayDo code areas stack locals (to_keep looped joins h)
      → 0 < length stack
  some_of_one code areas stack locals true joins h may = may.some
  some_of_one code areas stack locals false joins h may = may.0

  some_word : (code : Code) (areas : Areas) (stack : List Value) (looped : ℕ → Bool) (joins : Bool) (hs : List ℕ) (rest : List Todo) (locals : List Value)
      → MayDoAll code areas stack locals (map (λ h. to_keep (looped h) joins h) hs ++ rest) → (h : ℕ) → Contains hs h → 0 < length stack
  some_word code areas stack looped joins [] rest locals may h among = absurd (Contains-none h among)
  some_word code areas stack looped joins (k ∷ hs) rest locals may h among = some_of_one code areas stack locals (looped k) joins k may.0

  -- the frames on which a frame lies that was there
  others_at : (above : List Frame) (was : Frame) → y.frames ≡ above ++ was ∷ below → FramesAreHeld b.one b.facts b.plans b.marks x t.colour y.areas.store below
  others_at above was are =
      (held_below b.one b.facts b.plans b.marks x t.colour y.areas.store above (was ∷ below)
      (subst (FramesAreHeld b.one b.facts b.plans b.marks x t.colour y.areas.store) are t.held)).1

  told_at : (above : List Frame) (was : Frame) → y.frames ≡ above ++ was ∷ below → FramesSince b.one b.facts b.plans b.marks S y.areas.store below
  told_at above was are =
      (since_below b.one b.facts b.plans b.marks S y.areas.store above (was ∷ below)
      (subst (FramesSince b.one b.facts b.plans b.marks S y.areas.store) are since)).1

  begun_others : BeginsOn y.frames g below → FramesAreHeld b.one b.facts b.plans b.marks x t.colour y.areas.store below
  begun_others (IsNew new waiting is first_items waits) =
      subst (FramesAreHeld b.one b.facts b.plans b.marks x t.colour y.areas.store) (sym is)
      (news_held b.one b.facts b.plans b.marks b.other from x t.colour y.areas.store new waiting first_items
      (waits_held b.one b.facts b.plans b.marks x t.colour y.areas.store y.frames waiting waits t.held))
  begun_others (HasWaited above are) = others_at above g are

  begun_told : BeginsOn y.frames g below → FramesSince b.one b.facts b.plans b.marks S y.areas.store below
  begun_told (IsNew new waiting is first_items waits) =
      subst (FramesSince b.one b.facts b.plans b.marks S y.areas.store) (sym is)
      (since_news b.one b.facts b.plans b.marks S y.areas.store b.other from new waiting first_items
      (since_waits b.one b.facts b.plans b.marks S y.areas.store y.frames waiting waits since))
  begun_told (HasWaited above are) = told_at above g are

  module _ (fx : Frame) (cx : List Frame) (are : next.frames ≡ fx ∷ cx) where
    -- what is known before anything is freed
    abbrev pub ReadyAt : FrameGoes b.one b.other b.facts b.plans b.marks y f g below → Code → Type 0
    ReadyAt top code = IsReady b next following colour t.gone f g below code (first_of top) (given_of top) (freed_of top)

    abbrev pub BeforeAt : FrameGoes b.one b.other b.facts b.plans b.marks y f g below → Code → Type 0
    BeforeAt top code =
        BeforeFrees b next (record following { areas = all_areas_after code g.stack (first_of top) g.locals following.areas }) f g callers below code
        (all_locals_after code g.stack (first_of top) g.locals)

    pub told_on : (top : FrameGoes b.one b.other b.facts b.plans b.marks y f g below) (r : AheadOf top) → ReadyAt top r.code
        → (before : BeforeAt top r.code) → before.gone ≡ t.gone
        → Told (state_reached r.code following g below (first_of top ++ frees_of (inserted_by (b.plans g.method)) (freed_of top)) (jumps_of top) r.number)
    told_on (InMethod j old old_is w was (GoesBehind past item behind) edge stands) r ahead before gone_is =
        both r.code r.code_is (first_of (InMethod j old old_is w was (GoesBehind past item behind) edge stands)) (after_at plan j)
        (freed_of (InMethod j old old_is w was (GoesBehind past item behind) edge stands)) r.number 0 ahead before gone_is
        (was_births r.code r.code_is j was (first_of (InMethod j old old_is w was (GoesBehind past item behind) edge stands)) (after_at plan j)
        (freed_of (InMethod j old old_is w was (GoesBehind past item behind) edge stands)) ahead
        (site_gives r.code r.code_is j item
        (some_word r.code following.areas g.stack (looped_at plan) (joins_in following.areas.store (cell_of (word_at g.stack 0))) (after_at plan j)
        (frees_of plan (freed_of (InMethod j old old_is w was (GoesBehind past item behind) edge stands))) g.locals r.may)))
        (others_at was.above was.was was.frames_are) (told_at was.above was.was was.frames_are) fx cx are
    told_on (InMethod j old old_is w was (GoesBefore at) edge stands) r ahead before gone_is =
        both r.code r.code_is [] [] (freed_of (InMethod j old old_is w was (GoesBefore at) edge stands)) r.number 0 ahead before gone_is
        (was_births r.code r.code_is j was [] [] (freed_of (InMethod j old old_is w was (GoesBefore at) edge stands)) ahead (none_given r.code r.code_is))
        (others_at was.above was.was was.frames_are) (told_at was.above was.was was.frames_are) fx cx are
    told_on (InMethod j old old_is w was (GoesByJump jump mark) edge stands) r ahead before gone_is =
        both r.code r.code_is [] [] (freed_of (InMethod j old old_is w was (GoesByJump jump mark) edge stands)) r.number 1 ahead before gone_is
        (was_births r.code r.code_is j was [] [] (freed_of (InMethod j old old_is w was (GoesByJump jump mark) edge stands)) ahead (none_given r.code r.code_is))
        (others_at was.above was.was was.frames_are) (told_at was.above was.was was.frames_are) fx cx are
    told_on (Begins old_first first_item empty width begun) r ahead before gone_is =
        both r.code r.code_is (starts_of plan) [] (freed_of (Begins old_first first_item empty width begun)) r.number 0 ahead before gone_is
        (λ h holder is birth has.
        absurd (nothing_has (looped_at plan h) (all_areas_after r.code g.stack (starts_of plan) g.locals following.areas).store birth
        ahead.kept.paired.store.other_orderly
        (subst (λ v. Has (looped_at plan h) (all_areas_after r.code g.stack (starts_of plan) g.locals following.areas).store v birth)
        (started_null b.facts (typed_method b.one b.facts.typing g.method r.code) plan g.stack g.locals r.width h (slice_get_within plan.holders h holder is)) has)))
        (begun_others begun) (begun_told begun) fx cx are
    told_on (Resumes stands is above frames_are) r ahead before gone_is =
        both r.code r.code_is [] [] [] r.number 0 ahead before gone_is
        (was_births r.code r.code_is f.item
        (record { above = above; was = g; frames_are = frames_are; method = refl; item_is = is; holders = refl }) [] [] [] ahead (none_given r.code r.code_is))
        (others_at above g frames_are) (told_at above g frames_are) fx cx are
