-- Since when the holders of frames hold what they hold: from one state to another, frame by frame.
use Rattle.std.proofs.Common.{◌≡◌, ◌<◌, ◌≤◌, ℕ, Bool, inl, inr, List, [], ◌∷◌, ◌++◌, length, map, Some, slice_get, sym, ap, subst, ◌∙◌, arith}
use Rattle.std.specs.List.{AllByRecursion, AllZip}
use Rattle.std.proofs.lemmas.List.{length-map}
use Rattle.std.proofs.lemmas.List.Elements.{length_all_zip}
use Rattle.std.proofs.lemmas.Option.{slice_get_within}
use Rattle.fm_cells.specs.Stores.{Store}
use Rattle.fm_chain.specs.Chained.{looped_at}
use Rattle.fm_code.specs.declared.code_array.Code.{Code}
use Rattle.fm_conn.specs.Facts.{Facts}
use Rattle.fm_frames.specs.States.{Frame, State}
use Rattle.fm_frames.specs.declared.values.Value.{Value}
use Rattle.fm_law_held_objects.specs.Contents.{Has}
use Rattle.fm_law_held_objects.specs.Held.{AreHeld, FramesAreHeld, HolderHas}
use Rattle.fm_law_holders.specs.Holding.{holder_value}
use Rattle.fm_law_lockstep.proofs.FramesHeld.{holders_same}
use Rattle.fm_law_same_runs.specs.Beside.{kept_item, Marks}
use Rattle.fm_law_two_memories.specs.Pairing.{FramesPaired, Gone}
use Rattle.fm_law_unwoven.proofs.Cleared.{none_at_first}
use Rattle.fm_law_unwoven.specs.Kept.{holder_locals, old_frame, WaitAs}
use Rattle.fm_law_unwoven.specs.WovenFrom.{inserted_by, IsWovenFrom}
use Rattle.fm_place.specs.Insertions.{Holder}
use Rattle.fm_place.specs.Rewriting.{Plans}
use Rattle.fm_same.specs.Colours.{Colour}
use Rattle.fm_same.specs.DeadRegions.{IsMethodAt}
use Rattle.fm_world.specs.Programs.{code_at, Program}

module _ (p : Program) (facts : Facts) (plans : Plans) (marks : Marks) where
  -- this holds of the method, the depth, the class and the birth of what each holder of a frame has, if it may be freed
  abbrev pub HoldersSince : (ℕ → ℕ → ℕ → ℕ → Type 0) → Store → (method depth : ℕ) → Code → List Value → Type 0
  HoldersSince S store method depth code values =
      (h : ℕ) (holder : Holder) → slice_get (inserted_by (plans method)).holders h ≡ Some holder → (birth : ℕ)
      → HolderHas store code (inserted_by (plans method)) values h birth → S method depth holder.class birth

  -- of a frame at a kept item
  abbrev pub FrameSince : (ℕ → ℕ → ℕ → ℕ → Type 0) → Store → (depth : ℕ) → Frame → Type 0
  FrameSince S store depth g =
      (item : ℕ) (code : Code) → kept_item marks g.method g.item ≡ Some item → code_at p g.method ≡ Some code → HoldersSince S store g.method depth code g.locals

  -- of all these
  abbrev pub FramesSince : (ℕ → ℕ → ℕ → ℕ → Type 0) → Store → List Frame → Type 0
  FramesSince S store [] = Unit {0}
  FramesSince S store (g ∷ callers) = FrameSince S store (length callers) g × FramesSince S store callers

  module _ (S : ℕ → ℕ → ℕ → ℕ → Type 0) (store : Store) where
    -- of those below others
    pub since_below : (above frames : List Frame) → FramesSince S store (above ++ frames) → FramesSince S store frames
    since_below [] frames since = since
    since_below (g ∷ above) frames since = since_below above frames since.1

    pub since_waits : (before waiting : List Frame) → WaitAs before waiting → FramesSince S store before → FramesSince S store waiting
    since_waits [] waiting waits since = subst (FramesSince S store) (sym waits) tt
    since_waits (was ∷ callers) waiting waits since = subst (FramesSince S store) (sym waits.1) since

    -- a method that has holders begins with an inserted item
    pub since_news : (q : Program) → IsWovenFrom p q facts plans marks → (new waiting : List Frame) → AllByRecursion (λ (h : Frame). h.item ≡ 0) new
        → FramesSince S store waiting → FramesSince S store (new ++ waiting)
    since_news q from [] waiting first since = since
    since_news q from (g ∷ new) waiting first since = (
      λ item code item_is code_is h holder is birth has.
          absurd (none_at_first p q facts plans marks from g.method code code_is item (ap (kept_item marks g.method) (sym first.0) ∙ item_is) h holder is),
      since_news q from new waiting first.1 since,
    )

    -- of a frame that has the same holders
    pub since_same : (depth : ℕ) (g was : Frame) (code : Code) → was.method ≡ g.method → code_at p g.method ≡ Some code → holder_locals p g ≡ holder_locals p was
        → HoldersSince S store was.method depth code was.locals → HoldersSince S store g.method depth code g.locals
    since_same depth g was code method code_is same since h holder is birth has =
        subst (λ m. S m depth holder.class birth) method
        (since h holder (ap (λ m. slice_get (inserted_by (plans m)).holders h) method ∙ is) birth
        (subst (λ m. HolderHas store code (inserted_by (plans m)) was.locals h birth) (sym method)
        (subst (λ v. Has (looped_at (inserted_by (plans g.method)) h) store v birth) (holders_same p g was code method code_is same h) has)))

  -- ---- from one store to another

  -- each holder of a frame of so many others has there only what it had
  abbrev pub HadBefore : (x : State) (colour : Colour) (store later : Store) (count : ℕ) → Type 0
  HadBefore x colour store later count =
      (depth method : ℕ) (code : Code) (values : List Value) → depth < count → AreHeld facts.typing x colour depth store code (inserted_by (plans method)) values
      → (h birth : ℕ) → h < length (inserted_by (plans method)).holders → HolderHas later code (inserted_by (plans method)) values h birth
      → HolderHas store code (inserted_by (plans method)) values h birth

  -- so it goes on
  pub since_had : (S : ℕ → ℕ → ℕ → ℕ → Type 0) (x : State) (colour : Colour) (store later : Store) (count : ℕ) → HadBefore x colour store later count
      → (frames : List Frame) → length frames ≤ count → FramesAreHeld p facts plans marks x colour store frames → FramesSince S store frames
      → FramesSince S later frames
  since_had S x colour store later count had [] few held since = tt
  since_had S x colour store later count had (g ∷ callers) few held since = (
    λ item code item_is code_is h holder is birth has.
        since.0 item code item_is code_is h holder is birth
        (had (length callers) g.method code g.locals (omega (arith, few)) (held.0 item code item_is code_is) h birth
        (slice_get_within (inserted_by (plans g.method)).holders h holder is) has),
    since_had S x colour store later count had callers (omega (arith, few)) held.1 since.1,
  )

  -- also where no value leads to more
  pub since_back : (S : ℕ → ℕ → ℕ → ℕ → Type 0) (store later : Store)
      → ((looped : Bool) (v : Value) (birth : ℕ) → Has looped later v birth → Has looped store v birth)
      → (frames : List Frame) → FramesSince S store frames → FramesSince S later frames
  since_back S store later back [] since = tt
  since_back S store later back (g ∷ callers) since = (
    λ item code item_is code_is h holder is birth has.
        since.0 item code item_is code_is h holder is birth
        (back (looped_at (inserted_by (plans g.method)) h) (holder_value code g.locals h) birth has),
    since_back S store later back callers since.1,
  )

  -- after a step, of frames that are there
  pub since_step : (S T : ℕ → ℕ → ℕ → ℕ → Type 0) (store : Store) (all : List Frame)
      → ((method depth class birth : ℕ) → S method depth class birth → IsMethodAt method depth all → T method depth class birth)
      → (gone : Gone) (one two : Store) (fs gs : List Frame) → AllZip (FramesPaired gone one two) fs (map (old_frame p marks) gs)
      → ((depth method : ℕ) → IsMethodAt method depth fs → IsMethodAt method depth all) → FramesSince S store gs → FramesSince T store gs
  since_step S T store all goes gone one two fs [] paired among since = tt
  since_step S T store all goes gone one two [] (g ∷ callers) paired among since = absurd paired
  since_step S T store all goes gone one two (f ∷ fs) (g ∷ callers) paired among since =
      let count : length fs ≡ length callers =
      length_all_zip (FramesPaired gone one two) fs (map (old_frame p marks) callers) paired.1 ∙ length-map callers (old_frame p marks) in (
        λ item code item_is code_is h holder is birth has.
            goes g.method (length callers) holder.class birth (since.0 item code item_is code_is h holder is birth has)
            (among (length callers) g.method (inl (count, sym paired.0.method))),
        since_step S T store all goes gone one two fs callers paired.1 (λ depth method there. among depth method (inr there)) since.1,
      )
