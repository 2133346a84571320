-- Behind an item of the second program its holders keep what that gave, or put it before their chains: the frame of the first program goes on there too.
use Rattle.std.proofs.Common.{◌≡◌, ◌+◌, ◌⊎◌, inl, inr, ℕ, true, false, List, [], ◌∷◌, ◌++◌, length, map, Some, None, Contains, unwrap_or, refl, sym, ap, subst, ◌∙◌}
use Rattle.std.specs.List.{AllByRecursion, AllZip}
use Rattle.std.proofs.lemmas.List.Elements.{length_all_zip}
use Rattle.std.proofs.lemmas.List.{length-map}
use Rattle.fm_base.proofs.ContainsFacts.{Contains-none}
use Rattle.fm_cells.specs.Choices.{lawful}
use Rattle.fm_chain.specs.Chained.{looped_at}
use Rattle.fm_code.proofs.EdgesLemmas.{Contains-first}
use Rattle.fm_code.specs.declared.code_array.Code.{Code}
use Rattle.fm_conn.specs.Links.{typed_method}
use Rattle.fm_frames.specs.Acts.{cell_of, Choose}
use Rattle.fm_frames.specs.Effects.{Effect, Falls, Returns}
use Rattle.fm_frames.specs.States.{Areas, Frame, State, word_at}
use Rattle.fm_frames.specs.Steps.{is_start, next_effect, step}
use Rattle.fm_frames.specs.declared.values.Value.{Value}
use Rattle.fm_law_held_objects.specs.Above.{NewResultsAreInitialised}
use Rattle.fm_law_held_objects.specs.Forth.{ChainsAreKept, KeepingLinksChains}
use Rattle.fm_law_held_objects.specs.Held.{AreHeld}
use Rattle.fm_law_held_objects.specs.Keeping.{HoldersKeep}
use Rattle.fm_law_held_objects.specs.Laws.{KeepingKeepsHeld}
use Rattle.fm_law_holders.specs.Laws.{KeptResultsAreOwn, SitesGiveNew}
use Rattle.fm_law_holders.specs.NewResults.{GoesOnBehind, HasNewResult, IsDone, IsReturnedTo, KeepsObjects}
use Rattle.fm_law_lockstep.proofs.FoundTodos.{FindsAll}
use Rattle.fm_law_lockstep.proofs.KeptHeld.{known_at, result, result_found, result_kept, result_linked}
use Rattle.fm_law_unwoven.proofs.OneKept.{one_kept, safe_holders}
use Rattle.fm_law_lockstep.proofs.Seen.{retired_is_unseen}
use Rattle.fm_law_lockstep.proofs.StepHeld.{still_retired}
use Rattle.fm_law_lockstep.proofs.Uncounted.{effect_counted}
use Rattle.fm_law_lockstep.specs.Both.{Both}
use Rattle.fm_law_lockstep.specs.Known.{IsKnownOn, IsLinked}
use Rattle.fm_law_lockstep.specs.Stepping.{AreWithin}
use Rattle.fm_law_lockstep.specs.Together.{GoTogetherAt}
use Rattle.fm_law_two_memories.proofs.EffectsSame.{effects_same}
use Rattle.fm_law_sound.specs.Sound.{Typings}
use Rattle.fm_law_two_memories.specs.Pairing.{AreasPaired, FramesPaired, Gone, SameValue, StatesPaired}
use Rattle.fm_law_unwoven.specs.Doing.{all_areas_after, all_locals_after, joins_in}
use Rattle.fm_law_unwoven.specs.Kept.{GoesPast, old_frame, old_item, old_state, PastBranch, PastCall, PastItem, WasAt}
use Rattle.fm_law_unwoven.specs.Laid.{to_keep, Todo}
use Rattle.fm_law_unwoven.specs.WovenFrom.{inserted_by, IsWovenFrom}
use Rattle.fm_place.specs.Insertions.{after_at, Insertions}
use Rattle.fm_place.specs.Safe.{IsSafeHolder}
use Rattle.fm_same.specs.Colours.{Colour}
use Rattle.fm_same.specs.Covering.{CoversAt}
use Rattle.fm_same.specs.Regions.{Retired}
use Rattle.fm_same.specs.Standing.{Stand}
use Rattle.fm_world.specs.Programs.{code_at, Outline}

-- the first of the words has the first one's twin
first_same : {A : Type 0} (R : A → Value → Type 0) (v : A) (vs : List A) (ws : List Value) → AllZip R (v ∷ vs) ws → R v (word_at ws 0)
first_same R v vs [] each = absurd each
first_same R v vs (w ∷ ws) each = each.0

-- where nothing is done, holders are as they were
pub nothing_kept : (o : Outline) (typings : Typings) (x : State) (colour : Colour) (depth : ℕ) (code : Code) (plan : Insertions) (hs : List ℕ) (given : Value)
    (gone : Gone) (y : Areas) (locals : List Value) → AreasPaired gone o x.areas y → AreHeld typings x colour depth y.store code plan locals
    → HoldersKeep o typings x colour depth code plan hs given gone y y locals locals
nothing_kept o typings x colour depth code plan hs given gone y locals paired held = record {
  paired = paired;
  frames = λ fs gs are. are;
  words = refl;
  held = held;
  others = λ other second inserted values apart are. are;
  had = λ h birth within has. inl has;
  others_had = λ other second inserted values apart are h birth within has. has;
}

-- and chains have what they had
pub nothing_linked : (typings : Typings) (x : State) (colour : Colour) (depth : ℕ) (code : Code) (plan : Insertions) (given : Value) (y : Areas) (locals : List Value)
    → ChainsAreKept typings x colour depth code plan [] given y y locals locals
nothing_linked typings x colour depth code plan given y locals = record {
  stays = λ h birth within looped has. has;
  gets = λ h birth among. absurd (Contains-none h among);
  others = λ other second inserted values apart are h birth within has. has;
  absent = λ birth none. none;
}

module _ (b : Both) (from : IsWovenFrom b.one b.other b.facts b.plans b.marks) (linked : IsLinked b.one b.facts) (first second : Choose) (x y : State) (t : GoTogetherAt b x y)
    (on : IsKnownOn b.one b.facts x (step b.one (lawful first) x).state t.colour t.made)
    (going : (step b.one (lawful first) x).state.ended ≡ None) (other_going : (step b.other (lawful second) y).state.ended ≡ None)
    (within : AreWithin b.one x y (step b.one (lawful first) x).state (step b.other (lawful second) y).state) where
  abbrev next : State
  next = (step b.one (lawful first) x).state

  abbrev following : State
  following = (step b.other (lawful second) y).state

  -- the next effect is one on both memories
  effect_same : next_effect b.one (old_state b.one b.marks y.steps y) ≡ next_effect b.one x
  effect_same =
      effect_counted b.one (old_state b.one b.marks x.steps y) y.steps (old_state b.one b.marks x.steps y).frames
      ∙ (effects_same t.gone b.one linked.without.hidden x (old_state b.one b.marks x.steps y) t.paired
      (retired_is_unseen b.one b.facts linked.without x t.colour t.gone t.known.coloured t.retired t.paired.areas.store.loose)).0

  -- ---- the frame of the first program

  -- the frame that goes on behind its item
  record GoesThere (g : Frame) (below : List Frame) (j : ℕ) : Type 0 where
    f : Frame
    callers : List Frame
    behind : GoesOnBehind b.one x f callers
    method : g.method ≡ f.method
    item : f.item ≡ j
    count : length callers ≡ length below

  module _ (g : Frame) (below : List Frame) (j : ℕ) (was : WasAt b.one b.marks y.frames g below j) where
    abbrev Paired : List Frame → List Frame → Type 0
    Paired fs gs = AllZip (FramesPaired t.gone x.areas.store y.areas.store) fs (map (old_frame b.one b.marks) gs)

    counts : (fs : List Frame) → Paired fs below → length fs ≡ length below
    counts fs paired = length_all_zip (FramesPaired t.gone x.areas.store y.areas.store) fs (map (old_frame b.one b.marks) below) paired ∙ length-map below (old_frame b.one b.marks)

    old_is : old_item b.marks was.was ≡ j
    old_is = ap (λ o. unwrap_or o 0) was.item_is

    by_item : (fs : List Frame) → x.frames ≡ fs → Paired fs (was.was ∷ below) → (next_effect b.one x).next ≡ Falls → GoesThere g below j
    by_item [] are paired falls = absurd paired
    by_item (f ∷ fs) are paired falls = record {
      f = f;
      callers = fs;
      behind = IsDone are falls;
      method = sym was.method ∙ paired.0.method;
      item = sym paired.0.item ∙ old_is;
      count = counts fs paired.1;
    }

    by_call : (fs : List Frame) → x.frames ≡ fs → (top : Frame) → Paired fs (top ∷ was.was ∷ below) → is_start b.one.outline top.method ≡ false → (words : ℕ)
        → (next_effect b.one x).next ≡ Returns words → GoesThere g below j
    by_call [] are top paired plain words returns = absurd paired
    by_call (a ∷ []) are top paired plain words returns = absurd paired.1
    by_call (a ∷ f ∷ fs) are top paired plain words returns = record {
      f = f;
      callers = fs;
      behind = IsReturnedTo a words are (ap (is_start b.one.outline) (sym paired.0.method) ∙ plain) returns;
      method = sym was.method ∙ paired.1.0.method;
      item = sym paired.1.0.item ∙ old_is;
      count = counts fs paired.1.1;
    }

    frames_are : (above : List Frame) → was.above ≡ above → Paired x.frames (above ++ was.was ∷ below)
    frames_are above is = subst (Paired x.frames) (was.frames_are ∙ ap (λ more. more ++ was.was ∷ below) is) t.paired.frames

    goes_past : GoesPast b.one b.marks y was.above (inserted_by (b.plans g.method)) j
        → (after_at (inserted_by (b.plans g.method)) j ≡ []) ⊎ GoesThere g below j
    goes_past (PastItem is falls) = inr (by_item x.frames refl (frames_are [] is) (ap (λ (e : Effect). e.next) (sym effect_same) ∙ falls))
    goes_past (PastBranch is none) = inl none
    goes_past (PastCall top words is plain returns) =
        inr (by_call x.frames refl top (frames_are (top ∷ []) is) plain words (ap (λ (e : Effect). e.next) (sym effect_same) ∙ returns))

  -- ---- what its holder keeps

  module _ (new : SitesGiveNew) (own : KeptResultsAreOwn) (keeping : KeepingKeepsHeld) (fresh : NewResultsAreInitialised)
      (stand : Stand b.one b.facts x.frames) (covers : CoversAt b.one b.facts x x.frames)
      (next_stand : Stand b.one b.facts next.frames) (stays : KeepsObjects y.areas.store following.areas.store) (f g : Frame) (callers below : List Frame)
      (paired : StatesPaired t.gone b.one.outline next (record following { frames = f ∷ callers; steps = next.steps })) (stack : g.stack ≡ f.stack)
      (code : Code) (code_is : code_at b.one g.method ≡ Some code) (width : length g.locals ≡ code.max_locals + length (inserted_by (b.plans g.method)).holders)
      (had : AreHeld b.facts.typing x t.colour (length below) y.areas.store code (inserted_by (b.plans g.method)) g.locals)
      (have : AreHeld b.facts.typing next on.fewer (length below) following.areas.store code (inserted_by (b.plans g.method)) g.locals) (j : ℕ) where
    abbrev plan : Insertions
    plan = inserted_by (b.plans g.method)

    -- what is done for these holders
    abbrev pub keeps_of : List ℕ → List Todo
    keeps_of hs =
        map (λ h. to_keep (looped_at (inserted_by (b.plans g.method)) h) (joins_in following.areas.store (cell_of (word_at g.stack 0))) h) hs

    -- what holders of the frame hold then
    abbrev pub KeptThen : List ℕ → Type 0
    KeptThen hs =
        HoldersKeep b.one.outline b.facts.typing next on.fewer (length below) code (inserted_by (b.plans g.method)) hs (word_at g.stack 0) t.gone following.areas
        (all_areas_after code g.stack (keeps_of hs) g.locals following.areas) g.locals (all_locals_after code g.stack (keeps_of hs) g.locals)
        × FindsAll code g.stack (keeps_of hs) g.locals following.areas

    -- what chains have then
    abbrev pub LinkedThen : List ℕ → Type 0
    LinkedThen hs =
        ChainsAreKept b.facts.typing next on.fewer (length below) code (inserted_by (b.plans g.method)) hs (word_at g.stack 0) following.areas
        (all_areas_after code g.stack (keeps_of hs) g.locals following.areas) g.locals (all_locals_after code g.stack (keeps_of hs) g.locals)

    none_kept : KeptThen []
    none_kept = (nothing_kept b.one.outline b.facts.typing next on.fewer (length below) code plan [] (word_at g.stack 0) t.gone following.areas g.locals paired.areas have, tt)

    module _ (there : GoesThere g below j) (only : ℕ) (is : after_at (inserted_by (b.plans g.method)) j ≡ only ∷ []) where
      code_there : code_at b.one there.f.method ≡ Some code
      code_there = ap (code_at b.one) (sym there.method) ∙ code_is

      safe_there : AllByRecursion (IsSafeHolder b.facts (typed_method b.one b.facts.typing there.f.method code)) (inserted_by (b.plans g.method)).holders
      safe_there =
          subst (λ m. AllByRecursion (IsSafeHolder b.facts (typed_method b.one b.facts.typing m code)) plan.holders) there.method
          (safe_holders b.one b.other b.facts b.plans b.marks from g.method code code_is)

      among : Contains (after_at (inserted_by (b.plans g.method)) there.f.item) only
      among = subst (λ hs. Contains hs only) (sym (ap (after_at plan) there.item ∙ is)) (Contains-first only [] only refl)

      -- what the site gave
      abbrev given : HasNewResult b.facts x next t.colour
          (known_at new own b.one b.facts linked first x t.colour t.made t.known on t.goes_on going stand covers next_stand there.f there.callers there.behind).0
          there.f there.callers
      given =
          result new own b.one b.facts linked first x t.colour t.made t.known on t.goes_on going stand covers next_stand there.f there.callers there.behind
          code code_there plan safe_there only among

      top_same : SameValue t.gone next.areas.store following.areas.store given.result (word_at g.stack 0)
      top_same =
          first_same (SameValue t.gone next.areas.store following.areas.store) given.result given.below g.stack
          (subst (AllZip (SameValue t.gone next.areas.store following.areas.store) (given.result ∷ given.below)) (sym stack)
          (subst (λ fs. AllZip (FramesPaired t.gone next.areas.store following.areas.store) fs (f ∷ callers)) given.frames_are paired.frames).0.stack)

      retired : (birth : ℕ) → t.gone.births birth ≡ true → on.fewer birth ≡ Retired
      retired = still_retired b from linked first second x y t on going other_going within

      had_there : AreHeld b.facts.typing x t.colour (length there.callers) y.areas.store code (inserted_by (b.plans g.method)) g.locals
      had_there = subst (λ n. AreHeld b.facts.typing x t.colour n y.areas.store code plan g.locals) (sym there.count) had

      have_there : AreHeld b.facts.typing next on.fewer (length there.callers) following.areas.store code (inserted_by (b.plans g.method)) g.locals
      have_there = subst (λ n. AreHeld b.facts.typing next on.fewer n following.areas.store code plan g.locals) (sym there.count) have

      keeps_one : KeptThen (only ∷ [])
      keeps_one = (
        subst (λ n.
            HoldersKeep b.one.outline b.facts.typing next on.fewer n code plan (only ∷ []) (word_at g.stack 0) t.gone following.areas
            (all_areas_after code g.stack (keeps_of (only ∷ [])) g.locals following.areas) g.locals
            (all_locals_after code g.stack (keeps_of (only ∷ [])) g.locals)) there.count
            (result_kept new own b.one b.facts linked first x t.colour t.made t.known on t.goes_on going stand covers next_stand there.f there.callers
            there.behind code code_there plan safe_there only among keeping fresh t.gone retired y.areas.store following.areas
            t.paired.areas.store.other_orderly t.paired.areas.store.births stays paired.areas g.locals had_there have_there width g.stack top_same),
        (
          (λ misses.
              result_found new own b.one b.facts linked first x t.colour t.made t.known on t.goes_on going stand covers next_stand there.f there.callers
              there.behind code code_there plan safe_there only among keeping fresh t.gone retired y.areas.store following.areas
              t.paired.areas.store.other_orderly t.paired.areas.store.births stays paired.areas g.locals had_there have_there width g.stack top_same
              (looped_at plan only) (joins_in following.areas.store (cell_of (word_at g.stack 0))) misses),
          tt,
        ),
      )

      -- its chain has that, if it has one
      links_one : KeepingLinksChains → LinkedThen (only ∷ [])
      links_one links =
          subst (λ n.
          ChainsAreKept b.facts.typing next on.fewer n code plan (only ∷ []) (word_at g.stack 0) following.areas
          (all_areas_after code g.stack (keeps_of (only ∷ [])) g.locals following.areas) g.locals
          (all_locals_after code g.stack (keeps_of (only ∷ [])) g.locals)) there.count
          (result_linked new own b.one b.facts linked first x t.colour t.made t.known on t.goes_on going stand covers next_stand there.f there.callers
          there.behind code code_there plan safe_there only among keeping fresh t.gone retired y.areas.store following.areas
          t.paired.areas.store.other_orderly t.paired.areas.store.births stays paired.areas g.locals had_there have_there width g.stack top_same links)

    -- so it is of all holders of the item
    pub keeps_held : (was : WasAt b.one b.marks y.frames g below j) → GoesPast b.one b.marks y was.above (inserted_by (b.plans g.method)) j
        → KeptThen (after_at (inserted_by (b.plans g.method)) j)
    keeps_held was past = by_past (goes_past g below j was past) (one_kept b.one b.other b.facts b.plans b.marks from g.method code code_is j) where
      by_past : (after_at (inserted_by (b.plans g.method)) j ≡ []) ⊎ GoesThere g below j
          → (after_at (inserted_by (b.plans g.method)) j ≡ []) ⊎ ((only : ℕ) × (after_at (inserted_by (b.plans g.method)) j ≡ only ∷ []))
          → KeptThen (after_at (inserted_by (b.plans g.method)) j)
      by_past (inl none) some = subst KeptThen (sym none) none_kept
      by_past (inr there) (inl none) = subst KeptThen (sym none) none_kept
      by_past (inr there) (inr one) = subst KeptThen (sym one.1) (keeps_one there one.0 one.1)

    -- so it is of the chains of all holders of the item
    pub keeps_linked : KeepingLinksChains → (was : WasAt b.one b.marks y.frames g below j) → GoesPast b.one b.marks y was.above (inserted_by (b.plans g.method)) j
        → LinkedThen (after_at (inserted_by (b.plans g.method)) j)
    keeps_linked links was past = by_past (goes_past g below j was past) (one_kept b.one b.other b.facts b.plans b.marks from g.method code code_is j) where
      none_linked : LinkedThen []
      none_linked = nothing_linked b.facts.typing next on.fewer (length below) code plan (word_at g.stack 0) following.areas g.locals

      by_past : (after_at (inserted_by (b.plans g.method)) j ≡ []) ⊎ GoesThere g below j
          → (after_at (inserted_by (b.plans g.method)) j ≡ []) ⊎ ((only : ℕ) × (after_at (inserted_by (b.plans g.method)) j ≡ only ∷ []))
          → LinkedThen (after_at (inserted_by (b.plans g.method)) j)
      by_past (inl none) some = subst LinkedThen (sym none) none_linked
      by_past (inr there) (inl none) = subst LinkedThen (sym none) none_linked
      by_past (inr there) (inr one) = subst LinkedThen (sym one.1) (links_one there one.0 one.1 links)
