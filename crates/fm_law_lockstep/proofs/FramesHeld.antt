-- What the holders of frames hold, frame by frame: from one state to another, and of frames that haven't begun.
use Rattle.std.proofs.Common.{◌≡◌, inl, inr, ℕ, false, ◌<◌, ◌≤◌, List, [], ◌∷◌, ◌++◌, length, map, drop, Some, get_or, slice_get, sym, ap, subst, ◌∙◌, arith}
use Rattle.std.specs.List.{AllByRecursion, AllZip}
use Rattle.std.proofs.lemmas.List.Elements.{length_all_zip}
use Rattle.std.proofs.lemmas.List.{get_or-drop, length-map}
use Rattle.std.proofs.lemmas.Option.{slice_get-get_or, slice_get_within}
use Rattle.fm_cells.specs.Soundness.{IsOrderly}
use Rattle.fm_cells.specs.Stores.{Store}
use Rattle.fm_chain.specs.Chained.{looped_at}
use Rattle.fm_code.specs.declared.code_array.Code.{Code}
use Rattle.fm_conn.specs.Facts.{Facts}
use Rattle.fm_frames.specs.States.{Frame, null, State}
use Rattle.fm_frames.specs.Steps.{max_locals_of}
use Rattle.fm_frames.specs.declared.values.Value.{Value}
use Rattle.fm_frames.specs.declared.values.Value.TheVariants as value
use Rattle.fm_law_held_objects.proofs.ContentsKept.{nothing_has, null_holds}
use Rattle.fm_law_held_objects.specs.Contents.{Has, HoldsOneOrAll}
use Rattle.fm_law_held_objects.specs.Held.{AreHeld, FrameIsHeld, FramesAreHeld, HolderHas}
use Rattle.fm_law_holders.specs.Holding.{holder_value}
use Rattle.fm_law_same_runs.specs.Beside.{kept_item, Marks}
use Rattle.fm_law_sound.proofs.CallsStand.{max_locals_in}
use Rattle.fm_law_sound.specs.Sound.{Typings}
use Rattle.fm_law_two_memories.specs.Pairing.{FramesPaired, Gone}
use Rattle.fm_law_unwoven.proofs.Cleared.{none_at_first}
use Rattle.fm_law_unwoven.specs.Kept.{holder_locals, old_frame, WaitAs}
use Rattle.fm_law_unwoven.specs.WovenFrom.{inserted_by, IsWovenFrom}
use Rattle.fm_place.specs.Insertions.{Holder, Insertions}
use Rattle.fm_place.specs.Rewriting.{Plans}
use Rattle.fm_same.specs.Colours.{Colour}
use Rattle.fm_same.specs.DeadRegions.{IsMethodAt}
use Rattle.fm_world.specs.Programs.{code_at, Program}

-- ---- the holders of one frame

module _ (typings : Typings) (x : State) (colour : Colour) (depth : ℕ) (store : Store) (code : Code) (plan : Insertions) where
  -- other locals with the same holders
  pub held_alike : (locals others : List Value) → ((h : ℕ) → holder_value code others h ≡ holder_value code locals h)
      → AreHeld typings x colour depth store code plan locals → AreHeld typings x colour depth store code plan others
  held_alike locals others same had = record {
    holds = λ h holder at. subst (HoldsOneOrAll (looped_at plan h) store colour depth holder.class) (sym (same h)) (had.holds h holder at);
    apart = λ h second birth within inside one two. had.apart h second birth within inside (back h birth one) (back second birth two);
    initialised = λ h birth within has. had.initialised h birth within (back h birth has);
  } where
    back : (h birth : ℕ) → HolderHas store code plan others h birth → HolderHas store code plan locals h birth
    back h birth has = subst (λ v. Has (looped_at plan h) store v birth) (same h) has

  -- a holder that is null has nothing
  pub null_has : IsOrderly store → (locals : List Value) (h birth : ℕ) → holder_value code locals h ≡ null → HolderHas store code plan locals h birth → ⊥
  null_has orderly locals h birth none has =
      nothing_has (looped_at plan h) store birth orderly (subst (λ v. Has (looped_at plan h) store v birth) none has)

  -- holders that are all null hold what they may
  pub nulls_held : IsOrderly store → (locals : List Value) → ((h : ℕ) → h < length plan.holders → holder_value code locals h ≡ null)
      → AreHeld typings x colour depth store code plan locals
  nulls_held orderly locals nulls = record {
    holds = λ h holder at.
        null_holds (looped_at plan h) store colour depth holder.class (holder_value code locals h) (nulls h (slice_get_within plan.holders h holder at));
    apart = λ h second birth within inside_too one two. absurd (null_has orderly locals h birth (nulls h within) one);
    initialised = λ h birth within has. absurd (null_has orderly locals h birth (nulls h within) has);
  }

  -- where there are none, nothing is asked
  none_held : (locals : List Value) → ((h : ℕ) (holder : Holder) → slice_get plan.holders h ≡ Some holder → ⊥) → AreHeld typings x colour depth store code plan locals
  none_held locals none =
      let any : Holder = record { site = 0; class = 0; looped = false } in
      record {
        holds = λ h holder at. absurd (none h holder at);
        apart = λ h second birth within inside one two. absurd (none h (get_or plan.holders h any) (slice_get-get_or plan.holders h any within));
        initialised = λ h birth within may. absurd (none h (get_or plan.holders h any) (slice_get-get_or plan.holders h any within));
      }

-- the values of the same holders
pub holders_same : (p : Program) (g was : Frame) (code : Code) → was.method ≡ g.method → code_at p g.method ≡ Some code → holder_locals p g ≡ holder_locals p was
    → (h : ℕ) → holder_value code g.locals h ≡ holder_value code was.locals h
holders_same p g was code method code_is same h =
    let max : max_locals_of p g.method ≡ code.max_locals = ap max_locals_in code_is in
    let was_max : max_locals_of p was.method ≡ code.max_locals = ap (max_locals_of p) method ∙ max in
    let both : drop code.max_locals g.locals ≡ drop code.max_locals was.locals =
    ap (λ n. drop n g.locals) (sym max) ∙ same ∙ ap (λ n. drop n was.locals) was_max in
    sym (get_or-drop code.max_locals g.locals h value.Top) ∙ ap (λ values. get_or values h value.Top) both ∙ get_or-drop code.max_locals was.locals h value.Top

-- ---- frames

module _ (p : Program) (facts : Facts) (plans : Plans) (marks : Marks) where
  -- those below others
  pub held_below : (x : State) (colour : Colour) (store : Store) (above frames : List Frame) → FramesAreHeld p facts plans marks x colour store (above ++ frames)
      → FramesAreHeld p facts plans marks x colour store frames
  held_below x colour store [] frames held = held
  held_below x colour store (g ∷ above) frames held = held_below x colour store above frames held.1

  -- from one state to another, where the holders of each frame that is there go on so
  pub frames_go : (x next : State) (colour other : Colour) (store later : Store) (count : ℕ)
      → ((depth method : ℕ) (code : Code) (values : List Value) → depth < count → code_at p method ≡ Some code
      → AreHeld facts.typing x colour depth store code (inserted_by (plans method)) values
      → AreHeld facts.typing next other depth later code (inserted_by (plans method)) values)
      → (frames : List Frame) → length frames ≤ count → FramesAreHeld p facts plans marks x colour store frames
      → FramesAreHeld p facts plans marks next other later frames
  frames_go x next colour other store later count goes [] few held = tt
  frames_go x next colour other store later count goes (g ∷ callers) few held = (
    λ item code item_is code_is. goes (length callers) g.method code g.locals (omega (arith, few)) code_is (held.0 item code item_is code_is),
    frames_go x next colour other store later count goes callers (omega (arith, few)) held.1,
  )

  -- the same, where that is known of frames of their methods
  pub frames_step : (gone : Gone) (one two : Store) (x next : State) (colour other : Colour) (store later : Store) (all : List Frame)
      → ((depth method : ℕ) (code : Code) (values : List Value) → IsMethodAt method depth all → code_at p method ≡ Some code
      → AreHeld facts.typing x colour depth store code (inserted_by (plans method)) values
      → AreHeld facts.typing next other depth later code (inserted_by (plans method)) values)
      → (fs gs : List Frame) → AllZip (FramesPaired gone one two) fs (map (old_frame p marks) gs)
      → ((depth method : ℕ) → IsMethodAt method depth fs → IsMethodAt method depth all)
      → FramesAreHeld p facts plans marks x colour store gs → FramesAreHeld p facts plans marks next other later gs
  frames_step gone one two x next colour other store later all goes fs [] paired among held = tt
  frames_step gone one two x next colour other store later all goes [] (g ∷ callers) paired among held = absurd paired
  frames_step gone one two x next colour other store later all goes (f ∷ fs) (g ∷ callers) paired among held =
      let count : length fs ≡ length callers =
      length_all_zip (FramesPaired gone one two) fs (map (old_frame p marks) callers) paired.1 ∙ length-map callers (old_frame p marks) in (
        λ item code item_is code_is.
            goes (length callers) g.method code g.locals (among (length callers) g.method (inl (count, sym paired.0.method))) code_is
            (held.0 item code item_is code_is),
        frames_step gone one two x next colour other store later all goes fs callers paired.1 (λ depth method there. among depth method (inr there)) held.1,
      )

  -- ---- frames that haven't begun

  module _ (q : Program) (from : IsWovenFrom p q facts plans marks) where
    -- a frame at the first item of its method is at an inserted one, or has no holders
    new_held : (x : State) (colour : Colour) (store : Store) (depth : ℕ) (g : Frame) → g.item ≡ 0 → FrameIsHeld p facts plans marks x colour depth store g
    new_held x colour store depth g first item code item_is code_is =
        none_held facts.typing x colour depth store code (inserted_by (plans g.method)) g.locals
        (none_at_first p q facts plans marks from g.method code code_is item (ap (kept_item marks g.method) (sym first) ∙ item_is))

    pub news_held : (x : State) (colour : Colour) (store : Store) (new waiting : List Frame) → AllByRecursion (λ (h : Frame). h.item ≡ 0) new
        → FramesAreHeld p facts plans marks x colour store waiting → FramesAreHeld p facts plans marks x colour store (new ++ waiting)
    news_held x colour store [] waiting first held = held
    news_held x colour store (g ∷ new) waiting first held =
        (new_held x colour store (length (new ++ waiting)) g first.0, news_held x colour store new waiting first.1 held)

  -- frames that wait as they were, but for the stack of the topmost one
  pub waits_held : (x : State) (colour : Colour) (store : Store) (before waiting : List Frame) → WaitAs before waiting
      → FramesAreHeld p facts plans marks x colour store before → FramesAreHeld p facts plans marks x colour store waiting
  waits_held x colour store [] waiting waits held = subst (FramesAreHeld p facts plans marks x colour store) (sym waits) tt
  waits_held x colour store (was ∷ callers) waiting waits held = subst (FramesAreHeld p facts plans marks x colour store) (sym waits.1) held
