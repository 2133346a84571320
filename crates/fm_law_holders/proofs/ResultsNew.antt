-- Behind a site the next state has a new result on top: after its own instruction, and after the return of the method that it called.
use Rattle.std.proofs.Common.{◌≡◌, ℕ, zero, suc, ◌+◌, ◌-◌, ◌<◌, ◌⊎◌, true, false, List, [], ◌∷◌, ◌++◌, length, map, drop, take, Some, None, option_and_then, refl, sym, ◌∙◌, ap, subst, inl, inr, slice_get, slice_index_or, arith, ⊎_elim, length-append}
use Rattle.std.specs.Prelude.{is_some}
use Rattle.std.specs.List.{AllZip}
use Rattle.std.proofs.lemmas.Bool.{false≢true}
use Rattle.std.proofs.lemmas.List.{length-drop, nil_from_length}
use Rattle.std.proofs.lemmas.Option.{none-some, same_Some}
use Rattle.fm_cells.specs.Choices.{lawful}
use Rattle.fm_cells.specs.Soundness.{IsOrderly}
use Rattle.fm_cells.specs.Stores.{Store}
use Rattle.fm_code.specs.Edges.{insn_of}
use Rattle.fm_code.specs.declared.code_array.Code.{Code}
use Rattle.fm_code.specs.declared.instructions.Insn.{Insn}
use Rattle.fm_code.specs.declared.instructions.Insn.TheVariants as insn
use Rattle.fm_conn.specs.Facts.{AreFacts, Facts}
use Rattle.fm_conn.specs.Links.{typed_method}
use Rattle.fm_conn.specs.Nodes.{IsNode, Local, Return, TypedMethod}
use Rattle.fm_conn.specs.Pairs.{call_of}
use Rattle.fm_conn.specs.Rows.{words_taken}
use Rattle.fm_types.specs.States.{TypeState}
use Rattle.fm_types.specs.Typed.{state_at, use_by}
use Rattle.fm_types.specs.declared.slots.Slot.{Slot}
use Rattle.fm_types.specs.declared.slots.Slot.TheVariants as slot
use Rattle.fm_types.proofs.Zips.{zip-drop}
use Rattle.fm_world.specs.Programs.{code_at, Program}
use Rattle.fm_world.specs.declared.calls.Call.{Call}
use Rattle.fm_frames.specs.Acts.{cell_of, Choose, Sources, value_of}
use Rattle.fm_frames.specs.Effects.{Effect, Falls, Returns, Source}
use Rattle.fm_frames.specs.Rows.{effect_of}
use Rattle.fm_frames.specs.Sights.{sights}
use Rattle.fm_frames.specs.States.{Areas, Frame, ref, State}
use Rattle.fm_frames.specs.Steps.{is_start, next_effect, next_insn, step, written}
use Rattle.fm_frames.specs.declared.values.Value.{Value}
use Rattle.fm_frames.specs.declared.values.Value.TheVariants as value
use Rattle.fm_law_no_fault.proofs.WaitingFrames.{lowest_all}
use Rattle.fm_law_no_fault.specs.Whole.{lowest}
use Rattle.fm_law_sound.specs.Leading.{is_call, sources_of}
use Rattle.fm_law_sound.specs.Resolved.{StepsAreResolved}
use Rattle.fm_law_sound.specs.Sound.{IsReference}
use Rattle.fm_place.specs.Sites.{constructs, makes_array, receives_new, site_kind}
use Rattle.fm_same.proofs.ActsKeep.{cell_has}
use Rattle.fm_same.proofs.ItemFacts.{depth_is}
use Rattle.fm_same.proofs.ProgramNumbers.{holds_numbers}
use Rattle.fm_same.proofs.RegionLemmas.{region_within}
use Rattle.fm_same.proofs.StoreChanges.{Extends}
use Rattle.fm_same.specs.Advances.{point_of}
use Rattle.fm_same.specs.Colours.{Colour, Coloured, HasColour, IsFrameColoured, IsOf, node_of_word, OfNull, region_of}
use Rattle.fm_same.specs.Covering.{CoversAt, CoversTargets}
use Rattle.fm_same.specs.Evenness.{EndsEvenly, HoldsNumbers, Obeys}
use Rattle.fm_same.specs.Regions.{Own, region}
use Rattle.fm_same.specs.Resolved.{IsResolved}
use Rattle.fm_same.specs.Standing.{Called, method_of, Stand}
use Rattle.fm_law_holders.proofs.ApartPlaces.{zip_by_places, zip_found}
use Rattle.fm_law_holders.proofs.BornObjects.{Went}
use Rattle.fm_law_holders.proofs.StepsWent.{step_obeys, step_went}
use Rattle.fm_law_holders.proofs.UnsharedObjects.{built_new, callees_new, coloured_below, Holds, IsNewAnd, made_new}
use Rattle.fm_law_holders.proofs.OldResults.{result_is_own}
use Rattle.fm_law_holders.proofs.SiteCalls.{constructor_gives, IsReceived, received, received_gives}
use Rattle.fm_law_holders.proofs.SiteEffects.{array_site_gives, first_made, GivesJust}
use Rattle.fm_law_holders.proofs.SiteStates.{Any, LeavesBuilt, LeavesOne, Others}
use Rattle.fm_law_holders.proofs.SitesGive.{ArrayLeaves, behind_apart, ConstructorLeaves, count_of, FactoryLeaves, locals_apart, next_length, site_facts, SiteFacts, SiteLeaves}
use Rattle.fm_law_holders.proofs.StepsBehind.{Begins, done_areas, EntersFirst, falls_frames, IsDoneTo, IsSame, own_begins, returns_frames, step_done}
use Rattle.fm_law_holders.specs.Laws.{SitesGiveNew}
use Rattle.fm_law_holders.specs.NewResults.{GoesOnBehind, HasNewResult, IsApart, IsDone, IsNew, IsReturnedTo, IsUnbuilt, KeepsObjects, LocalsAreApart, LocalsAreNoCallees}
use Rattle.fm_law_holders.specs.Uninitialised.{AreMadeIn, IsMadeAt, Made, ValueIsMade}

-- ---- lists

-- as much is left
drop_same : {X : Type 0} (a b : ℕ) (xs : List X) → length xs - a ≡ length xs - b → drop a xs ≡ drop b xs
drop_same zero zero xs level = refl
drop_same zero (suc b) [] level = refl
drop_same (suc a) zero [] level = refl
drop_same (suc a) (suc b) [] level = refl
drop_same zero (suc b) (x ∷ xs) level = absurd (omega (arith, level))
drop_same (suc a) zero (x ∷ xs) level = absurd (omega (arith, level))
drop_same (suc a) (suc b) (x ∷ xs) level = drop_same a b xs (omega (arith, level))

drop_at : {X : Type 0} (n : ℕ) (xs : List X) → slice_get (drop n xs) 0 ≡ slice_get xs n
drop_at zero xs = refl
drop_at (suc n) [] = refl
drop_at (suc n) (x ∷ xs) = drop_at n xs

first_word : {X : Type 0} (xs : List X) (v : X) → slice_get xs 0 ≡ Some v → (rest : List X) × (xs ≡ v ∷ rest)
first_word [] v is = absurd (cc)
first_word (x ∷ xs) v is = (xs, ap (λ y. y ∷ xs) (same_Some x v is))

only_word : {X : Type 0} (xs : List X) → length xs ≡ 1 → (v : X) × (xs ≡ v ∷ [])
only_word [] one = absurd (omega (arith, one))
only_word (x ∷ []) one = (x, refl)
only_word (x ∷ y ∷ xs) one = absurd (omega (arith, one))

-- what is taken begins the list
taken_first : {X : Type 0} (n : ℕ) (xs : List X) (v : X) → take n xs ≡ v ∷ [] → (0 < n) × (slice_get xs 0 ≡ Some v)
taken_first zero xs v is = absurd (cc)
taken_first (suc n) [] v is = absurd (cc)
taken_first (suc n) (x ∷ xs) v is = (omega arith, ap (λ ys. slice_get ys 0) is)

no_array_call : (x : TypedMethod) (i : Insn) (c : Call) → makes_array i ≡ true → call_of x i ≡ Some c → ⊥
no_array_call x (insn.NewArray e) c is called = none-some c called
no_array_call x (insn.NewRefs index) c is called = none-some c called
no_array_call x (insn.MultiArray index dimensions) c is called = none-some c called
no_array_call x i c is called = false≢true is

constructor_is_call : (x : TypedMethod) (j : ℕ) (i : Insn) → constructs x j i ≡ true → is_call i ≡ true
constructor_is_call x j (insn.Special index) is = refl
constructor_is_call x j i is = absurd (false≢true is)

reference_or_null : (v : Value) → IsReference v ⊎ (cell_of v ≡ 0)
reference_or_null value.Top = inr refl
reference_or_null (value.Int n) = inr refl
reference_or_null (value.Long n) = inr refl
reference_or_null (value.Ref cell) = inl tt

-- ---- a frame at its site

module _ (p : Program) (facts : Facts) (exact : AreFacts p facts) (numbers : HoldsNumbers p.outline) (steps : StepsAreResolved p) (choose : Choose) (colour : Colour) (made : Made) (f : Frame) (callers : List Frame) (code : Code) (code_is : code_at p f.method ≡ Some code) (site : is_some (site_kind facts (typed_method p facts.typing f.method code) f.item) ≡ true) (known : TypeState) (at : state_at (facts.typing f.method) f.item ≡ Some known) where
  abbrev ch : Choose
  ch = lawful choose

  abbrev depth : ℕ
  depth = length callers

  abbrev here : SiteFacts p facts exact steps f code code_is known at
  here = site_facts p facts exact steps f code code_is known at site

  abbrev i : Insn
  i = here.insn

  abbrev count : ℕ
  count = count_of p facts exact steps f code code_is known at i

  abbrev xm : TypedMethod
  xm = typed_method p facts.typing f.method code

  abbrev Holding : Store → Slot → Value → Type 0
  Holding store s v = Holds store made colour depth s v

  -- what is known of the live locals that aren't initialised
  abbrev LiveHold : Store → Type 0
  LiveHold store =
      (k item : ℕ) (v : Value) → slice_get known.locals k ≡ Some (slot.Uninit item) → slice_get f.locals k ≡ Some v
      → facts.live f.method k f.item ≡ true → Holds store made colour depth (slot.Uninit item) v

  -- and of those that aren't live, where they lead to nothing of a frame right above
  abbrev DeadHold : Store → Type 0
  DeadHold store =
      LocalsAreNoCallees known f store colour depth → (k item : ℕ) (v : Value) → slice_get known.locals k ≡ Some (slot.Uninit item)
      → slice_get f.locals k ≡ Some v → Holds store made colour depth (slot.Uninit item) v

  abbrev LocalsHold : Store → Type 0
  LocalsHold store = LiveHold store × DeadHold store

  -- the frame behind its site
  abbrev behind : List Value → Frame
  behind stack = record f { item = f.item + 1; stack = stack }

  insn_found : next_insn p f ≡ Some i
  insn_found = ap (λ found. option_and_then (λ (c : Code). insn_of c f.item) found) code_is ∙ here.insn_is

  -- how deep its stack is
  behind_depth : (stack : List Value) → Stand p facts (behind stack ∷ callers) → length stack ≡ length here.next.stack
  behind_depth stack stand = stand.0.depth ∙ depth_is p facts (behind stack) stand.0.at.code (f.item + 1) here.next here.next_is

  -- ---- what is new, and where it is

  module _ (z : State) (frames : List Frame) where
    abbrev y : State
    y = record z { frames = frames }

    abbrev store : Store
    store = z.areas.store

    module _ (coloured : Coloured p facts y colour) (areas : Areas) (extends : Extends store areas.store) (s : State) (areas_are : s.areas ≡ areas) where
      abbrev NewAnd : (ℕ → Type 0) → ℕ → Type 0
      NewAnd IsOne cell = IsNewAnd y colour made known f depth areas.store coloured.areas.orderly extends IsOne cell

      -- the result with what lies below it
      has_result : (IsOne : ℕ → Type 0) (result : Value) (below : List Value) → NewAnd IsOne (cell_of result) → s.frames ≡ behind (result ∷ below) ∷ callers
          → IsApart facts here.next (behind (result ∷ below)) (cell_of result)
          → (LocalsAreNoCallees known f store colour depth → LocalsAreApart here.next (behind (result ∷ below)) (cell_of result))
          → HasNewResult facts y s colour known f callers
      has_result IsOne result below new frames_are apart dead = record {
        result = result;
        below = below;
        frames_are = frames_are;
        kept = subst (λ (a : Areas). KeepsObjects store a.store) (sym areas_are)
            (λ cell object held. let now = extends.kept cell object held in (now.now, now.is, now.birth, now.fixed, now.chain));
        new = subst (λ (a : Areas). IsNew y colour known f depth a.store (cell_of result)) (sym areas_are) new.new;
        apart = λ after after_is.
            subst (λ t. IsApart facts t (behind (result ∷ below)) (cell_of result)) (same_Some here.next after (sym here.next_is ∙ after_is)) apart;
        dead_apart = λ none after after_is.
            subst (λ t. LocalsAreApart t (behind (result ∷ below)) (cell_of result)) (same_Some here.next after (sym here.next_is ∙ after_is)) (dead none);
      }

      -- one word is given
      one_given : (l : LeavesOne known here.after count) (result : Value) (below : List Value) → NewAnd Any (cell_of result)
          → s.frames ≡ behind (result ∷ below) ∷ callers → LocalsHold store
          → AllZip (Holding store) (drop count known.stack) below → HasNewResult facts y s colour known f callers
      one_given l result below new frames_are locals rest =
          has_result Any result below new frames_are
          (behind_apart p facts exact steps f code code_is known at here Any l.leaves (Holding store) (cell_of result) new.avoids locals.0
          (result ∷ []) below l.one rest (result ∷ below) refl)
          (λ none. locals_apart p facts exact steps f code code_is known at here Any l.leaves (Holding store) (cell_of result) new.avoids
          (locals.1 none) (result ∷ below))

      -- none is, and the object on top is initialised
      built_given : (l : LeavesBuilt known here.after count) (result : Value) (below : List Value) → NewAnd (Others l.item) (cell_of result)
          → s.frames ≡ behind (result ∷ below) ∷ callers → LocalsHold store
          → AllZip (Holding store) (drop count known.stack) (result ∷ below) → HasNewResult facts y s colour known f callers
      built_given l result below new frames_are locals rest =
          has_result (Others l.item) result below new frames_are
          (behind_apart p facts exact steps f code code_is known at here (Others l.item) l.leaves (Holding store) (cell_of result) new.avoids locals.0
          [] (result ∷ below) (ap length l.none) rest (result ∷ below) refl)
          (λ none. locals_apart p facts exact steps f code code_is known at here (Others l.item) l.leaves (Holding store) (cell_of result) new.avoids
          (locals.1 none) (result ∷ below))

    -- where a local leads
    made_local : AreMadeIn store made known f → (k item : ℕ) (v : Value) → slice_get known.locals k ≡ Some (slot.Uninit item)
        → slice_get f.locals k ≡ Some v → IsMadeAt store made item (cell_of v)
    made_local are k item v there found =
        let is = zip_found (ValueIsMade store made) known.locals f.locals k (slot.Uninit item) are.in_locals there in
        subst (λ w. IsMadeAt store made item (cell_of w)) (same_Some is.0 v (sym is.1 ∙ found)) is.2

    -- by the colours of the frame
    both_hold : IsOrderly store → IsFrameColoured p.outline facts store colour f callers → AreMadeIn store made known f
        → LocalsHold store × AllZip (Holding store) (lowest (length f.stack) known.stack) f.stack
    both_hold orderly frame are = (
      (
        λ k item v there found live.
            let made_there : IsMadeAt store made item (cell_of v) = made_local are k item v there found in (
              made_there,
              coloured_below store colour made depth (facts.class f.method (Local k)) (region_of p.outline facts f callers (Local k)) (slot.Uninit item) v
                  orderly (region_within p.outline facts f.method callers (facts.class f.method (Local k))) (frame.locals k v found live) made_there,
            ),
        λ none k item v there found. (made_local are k item v there found, none k item v there found),
      ),
      zip_by_places (ValueIsMade store made) (Holding store) (lowest (length f.stack) known.stack) f.stack are.in_stack
          (λ n a v there found is. (
            is,
            coloured_below store colour made depth (facts.class f.method (node_of_word f n)) (region_of p.outline facts f callers (node_of_word f n)) a v
                orderly (region_within p.outline facts f.method callers (facts.class f.method (node_of_word f n))) (frame.words n v found) is,
          )),
    )

  -- ---- the instruction goes on

  module _ (z : State) (going : z.ended ≡ None) (coloured : Coloured p facts (record z { frames = f ∷ callers }) colour) (stand : Stand p facts (f ∷ callers)) (covers : CoversAt p facts (record z { frames = f ∷ callers }) (f ∷ callers)) (are : AreMadeIn z.areas.store made known f) (s : State) (d : IsDoneTo p ch z f callers s) (later : Stand p facts s.frames) (falls : (next_effect p (record z { frames = f ∷ callers })).next ≡ Falls) where
    abbrev yf : State
    yf = record z { frames = f ∷ callers }

    abbrev e : Effect
    e = next_effect p yf

    -- that of its instruction, before the start of a class
    abbrev own_effect : Effect
    own_effect = effect_of p.outline f.method (use_by p f.method i) i (slice_get z.input 0) (sights p.outline z.areas.store f.stack)

    went_on : Went z.areas.store d.areas d.made
    went_on = step_went p facts exact numbers choose z f callers stand covers s d

    same_code : stand.0.at.code ≡ code
    same_code = same_Some stand.0.at.code code (sym stand.0.at.code_is ∙ code_is)

    level : length f.stack ≡ length known.stack
    level = stand.0.depth ∙ depth_is p facts f stand.0.at.code f.item known at

    held : LocalsHold z.areas.store × AllZip (Holding z.areas.store) known.stack f.stack
    held =
        let both = both_hold z (f ∷ callers) coloured.areas.orderly coloured.frames.0 are in
        (both.0, subst (λ xs. AllZip (Holding z.areas.store) xs f.stack) (lowest_all known.stack (length f.stack) (sym level)) both.1)

    -- what the effect gives, with the start of its class
    given_by : (given : List Source)
        → GivesJust given own_effect
        → (e.gives ≡ given) × (e.writes ≡ [])
    given_by given gives = by_start (own_begins p ch z f callers i insn_found) where
      by_start : Begins own_effect e
          → (e.gives ≡ given) × (e.writes ≡ [])
      by_start (IsSame next given_so written_so) =
          let own = gives (sym next ∙ falls) in (given_so ∙ own.0, written_so ∙ own.1)
      by_start (EntersFirst methods next) = absurd (cc (falls, next))

    abbrev from : Sources
    from = sources_of f d.areas d.made

    -- the frame then
    frames_then : (given : List Source) → e.gives ≡ given → e.writes ≡ []
        → s.frames ≡ behind (map (value_of from) given ++ drop e.takes f.stack) ∷ callers
    frames_then given gives writes =
        falls_frames p ch z f callers s d falls
        ∙ (λ k. record f {
          item = f.item + 1;
          locals = written from (writes k) f.locals;
          stack = map (value_of from) (gives k) ++ drop e.takes f.stack;
        } ∷ callers)

    -- as many words are left as the checker has
    left_words : (n : ℕ) (top : List Value) → s.frames ≡ behind (top ++ drop e.takes f.stack) ∷ callers → length top ≡ n
        → length here.next.stack ≡ n + (length known.stack - count) → drop e.takes f.stack ≡ drop count f.stack
    left_words n top frames_are many next =
        let deep = behind_depth (top ++ drop e.takes f.stack) (subst (Stand p facts) frames_are later) in
        let all = length-append top (drop e.takes f.stack) in
        let left = length-drop e.takes f.stack in
        let same = level in
        drop_same e.takes count f.stack (omega (arith, deep, all, left, many, next, same))

    made_result : (l : LeavesOne known here.after count)
        → GivesJust first_made own_effect
        → HasNewResult facts yf s colour known f callers
    made_result l gives =
        let both = given_by first_made gives in
        let result : Value = ref (slice_index_or d.made 0 0) in
        let frames_are : s.frames ≡ behind (result ∷ drop e.takes f.stack) ∷ callers = frames_then first_made both.0 both.1 in
        let next = next_length p facts exact steps f code code_is known at here Any l.leaves in
        let one = l.one in
        let left : drop e.takes f.stack ≡ drop count f.stack = left_words 1 (result ∷ []) frames_are refl (omega (arith, next, one)) in
        one_given z (f ∷ callers) coloured d.areas went_on.extends s (done_areas p ch z f callers s d) l result (drop e.takes f.stack)
        (made_new yf colour made known f depth d.areas.store coloured.areas.orderly went_on.extends (slice_index_or d.made 0 0) (went_on.made 0))
        frames_are held.0
        (subst (λ ws. AllZip (Holding z.areas.store) (drop count known.stack) ws) (sym left)
        (zip-drop (Holding z.areas.store) count known.stack f.stack held.1))

    built_result : (l : LeavesBuilt known here.after count)
        → GivesJust [] own_effect
        → HasNewResult facts yf s colour known f callers
    built_result l gives =
        let both = given_by [] gives in
        let frames_are : s.frames ≡ behind (drop e.takes f.stack) ∷ callers = frames_then [] both.0 both.1 in
        let next = next_length p facts exact steps f code code_is known at here (Others l.item) l.leaves in
        let none = ap length l.none in
        let left : drop e.takes f.stack ≡ drop count f.stack = left_words 0 [] frames_are refl (omega (arith, next, none)) in
        let top = zip_found (Holding z.areas.store) known.stack f.stack count (slot.Uninit l.item) held.1 l.top in
        let words = first_word (drop count f.stack) top.0 (drop_at count f.stack ∙ top.1) in
        let unbuilt : IsUnbuilt known f (cell_of top.0) = record {
          place = count;
          item = l.item;
          slot_is = ap (λ xs. slice_get xs count) (lowest_all known.stack (length f.stack) (sym level)) ∙ l.top;
          value = top.0;
          value_is = top.1;
          leads = refl;
        } in
        built_given z (f ∷ callers) coloured d.areas went_on.extends s (done_areas p ch z f callers s d) l top.0 words.0
        (built_new yf colour made known f depth d.areas.store coloured.areas.orderly went_on.extends l.item (cell_of top.0) unbuilt top.2.0)
        (frames_are ∙ ap (λ ws. behind ws ∷ callers) (left ∙ words.1)) held.0
        (subst (λ ws. AllZip (Holding z.areas.store) (drop count known.stack) ws) words.1
        (zip-drop (Holding z.areas.store) count known.stack f.stack held.1))

    covered : CoversTargets p facts f code i (sights p.outline z.areas.store f.stack)
    covered =
        let same_insn : stand.0.at.insn ≡ i =
        same_Some stand.0.at.insn i (sym stand.0.at.insn_is ∙ ap (λ (c : Code). insn_of c f.item) same_code ∙ here.insn_is) in
        subst (λ c. CoversTargets p facts f c i (sights p.outline z.areas.store f.stack)) same_code
        (subst (λ j. CoversTargets p facts f stand.0.at.code j (sights p.outline z.areas.store f.stack)) same_insn (covers stand.0.at).calls)

    -- by the kind of the site
    pub done_result : HasNewResult facts yf s colour known f callers
    done_result = by_kind here.leaves where
      by_kind : SiteLeaves facts xm f.item i known here.after count → HasNewResult facts yf s colour known f callers
      by_kind (ArrayLeaves is l) =
          made_result l (array_site_gives p.outline f.method (use_by p f.method i) i (slice_get z.input 0) (sights p.outline z.areas.store f.stack) is)
      by_kind (FactoryLeaves is l) =
          made_result l
          (received_gives p facts exact steps.calls f code i (slice_get z.input 0) (sights p.outline z.areas.store f.stack) is covered)
      by_kind (ConstructorLeaves is l) =
          built_result l
          (constructor_gives p facts exact steps.calls f code i (slice_get z.input 0) (sights p.outline z.areas.store f.stack) f.item is
          (constructor_is_call xm f.item i is) covered)

  -- ---- the method that it called returns

  module _ (z : State) (above : Frame) (coloured : Coloured p facts (record z { frames = above ∷ f ∷ callers }) colour) (stand : Stand p facts (above ∷ f ∷ callers)) (covers : CoversAt p facts (record z { frames = above ∷ f ∷ callers }) (above ∷ f ∷ callers)) (are : AreMadeIn z.areas.store made known f) (s : State) (d : IsDoneTo p ch z above (f ∷ callers) s) (later : Stand p facts s.frames) (no_start : is_start p.outline above.method ≡ false) (words : ℕ) (returns : (next_effect p (record z { frames = above ∷ f ∷ callers })).next ≡ Returns words) where
    abbrev yr : State
    yr = record z { frames = above ∷ f ∷ callers }

    abbrev er : Effect
    er = next_effect p yr

    returning : Obeys p.outline (point_of p facts above stand.0.at.code) stand.0.at.insn er
    returning = step_obeys p facts exact numbers choose z above (f ∷ callers) stand covers

    went_off : Went z.areas.store d.areas d.made
    went_off = step_went p facts exact numbers choose z above (f ∷ callers) stand covers s d

    -- it was called, and starts no class
    called : Called p facts above f
    called = ⊎_elim (λ call. call.1) (λ start. absurd (false≢true (sym no_start ∙ start.0))) stand.1.0

    code_same : called.at.code ≡ code
    code_same = same_Some called.at.code code (sym called.at.code_is ∙ code_is)

    insn_same : called.at.insn ≡ i
    insn_same = same_Some called.at.insn i (sym called.at.insn_is ∙ ap (λ (c : Code). insn_of c f.item) code_same ∙ here.insn_is)

    call_here : call_of xm i ≡ Some called.call
    call_here =
        sym (ap (call_of xm) insn_same) ∙ ap (λ c. call_of (method_of p facts f c) called.at.insn) (sym code_same) ∙ called.call_is

    -- the words of the call are off its stack
    waiting : length f.stack ≡ length known.stack - count
    waiting =
        called.depth
        ∙ (λ k. depth_is p facts f called.at.code f.item known at k - words_taken p.outline (use_by p f.method (insn_same k)) (insn_same k))

    lowest_is : lowest (length f.stack) known.stack ≡ drop count known.stack
    lowest_is =
        let deep = waiting in
        drop_same (length known.stack - length f.stack) count known.stack (omega (arith, deep))

    holding : LocalsHold z.areas.store × AllZip (Holding z.areas.store) (drop count known.stack) f.stack
    holding =
        let both = both_hold z (above ∷ f ∷ callers) coloured.areas.orderly coloured.frames.1.0 are in
        (both.0, subst (λ xs. AllZip (Holding z.areas.store) xs f.stack) lowest_is both.1)

    returned_frames : s.frames ≡ behind (take words above.stack ++ f.stack) ∷ callers
    returned_frames = returns_frames p ch z above (f ∷ callers) s d f callers words refl returns no_start

    -- as many words are returned as are given
    returned_words : (n : ℕ) → length here.next.stack ≡ n + (length known.stack - count) → length (take words above.stack) ≡ n
    returned_words n next =
        let deep = behind_depth (take words above.stack ++ f.stack) (subst (Stand p facts) returned_frames later) in
        let all = length-append (take words above.stack) f.stack in
        let rest = waiting in
        omega (arith, deep, all, rest, next)

    -- the result of a method that gives nothing old has a region of its own
    own_result : IsReceived p facts called.call → (v : Value) → 0 < words → slice_get above.stack 0 ≡ Some v
        → (class : ℕ) × IsOf z.areas.store colour (Own (suc depth) class) (cell_of v)
    own_result new v some found = ⊎_elim
        (λ leads.
        let node : IsNode (method_of p facts above stand.0.at.code) (node_of_word above 0) = stand.0.at.is_node 0 v found leads in
        let evenly = subst (EndsEvenly p.outline (point_of p facts above stand.0.at.code) returning.home stand.0.at.insn) returns returning.ends in
        let result = evenly 0 some node in
        let own : region p.outline facts above.method (f ∷ callers) (facts.class above.method Return) ≡ Own (suc depth) (facts.class above.method Return) =
        result_is_own p facts exact above.method (new.new above.method called.among) stand.0.at.code stand.0.at.code_is result.1 (f ∷ callers) in
        let has : HasColour z.areas.store colour (region p.outline facts above.method (f ∷ callers) (facts.class above.method (node_of_word above 0))) v =
        coloured.frames.0.words 0 v found in (
          facts.class above.method Return,
          cell_has z.areas.store colour (Own (suc depth) (facts.class above.method Return)) v
              (subst (λ r. HasColour z.areas.store colour r v) (ap (region p.outline facts above.method (f ∷ callers)) result.0 ∙ own) has),
        ))
        (λ null. (0, OfNull null))
        (reference_or_null v)

    received_result : (l : LeavesOne known here.after count) → IsReceived p facts called.call → HasNewResult facts yr s colour known f callers
    received_result l new =
        let next = next_length p facts exact steps f code code_is known at here Any l.leaves in
        let one = l.one in
        let only = only_word (take words above.stack) (returned_words 1 (omega (arith, next, one))) in
        let first = taken_first words above.stack only.0 only.1 in
        let own = own_result new only.0 first.0 first.1 in
        one_given z (above ∷ f ∷ callers) coloured d.areas went_off.extends s (done_areas p ch z above (f ∷ callers) s d) l only.0 f.stack
        (callees_new yr colour made known f depth d.areas.store coloured.areas.orderly went_off.extends own.0 (cell_of only.0) own.1)
        (returned_frames ∙ ap (λ ws. behind (ws ++ f.stack) ∷ callers) only.1) holding.0 holding.1

    constructed_result : LeavesBuilt known here.after count → HasNewResult facts yr s colour known f callers
    constructed_result l =
        let next = next_length p facts exact steps f code code_is known at here (Others l.item) l.leaves in
        let none = ap length l.none in
        let nothing : take words above.stack ≡ [] = nil_from_length (take words above.stack) (returned_words 0 (omega (arith, next, none))) in
        let slot_is : slice_get (drop count known.stack) 0 ≡ Some (slot.Uninit l.item) = drop_at count known.stack ∙ l.top in
        let top = zip_found (Holding z.areas.store) (drop count known.stack) f.stack 0 (slot.Uninit l.item) holding.1 slot_is in
        let kept = first_word f.stack top.0 top.1 in
        let unbuilt : IsUnbuilt known f (cell_of top.0) = record {
          place = 0;
          item = l.item;
          slot_is = ap (λ xs. slice_get xs 0) lowest_is ∙ slot_is;
          value = top.0;
          value_is = top.1;
          leads = refl;
        } in
        built_given z (above ∷ f ∷ callers) coloured d.areas went_off.extends s (done_areas p ch z above (f ∷ callers) s d) l top.0 kept.0
        (built_new yr colour made known f depth d.areas.store coloured.areas.orderly went_off.extends l.item (cell_of top.0) unbuilt top.2.0)
        (returned_frames ∙ ap (λ ws. behind (ws ++ f.stack) ∷ callers) nothing ∙ ap (λ ws. behind ws ∷ callers) kept.1) holding.0
        (subst (λ ws. AllZip (Holding z.areas.store) (drop count known.stack) ws) kept.1 holding.1)

    -- by the kind of the site
    pub returned_result : HasNewResult facts yr s colour known f callers
    returned_result = by_kind here.leaves where
      by_kind : SiteLeaves facts xm f.item i known here.after count → HasNewResult facts yr s colour known f callers
      by_kind (ArrayLeaves is l) = absurd (no_array_call xm i called.call is call_here)
      by_kind (FactoryLeaves is l) =
          received_result l (received facts xm called.call (ap (receives_new facts xm) (sym call_here) ∙ is))
      by_kind (ConstructorLeaves is l) = constructed_result l

-- ---- the law

module _ (p : Program) (facts : Facts) (exact : AreFacts p facts) (ready : IsResolved p) (steps : StepsAreResolved p) (choose : Choose) (z : State) (colour : Colour) (made : Made) (going : z.ended ≡ None) (f : Frame) (callers : List Frame) (code : Code) (code_is : code_at p f.method ≡ Some code) (site : is_some (site_kind facts (typed_method p facts.typing f.method code) f.item) ≡ true) (known : TypeState) (at : state_at (facts.typing f.method) f.item ≡ Some known) (are : AreMadeIn z.areas.store made known f) where
  -- of a state with these frames whose step isn't the last one
  abbrev ResultOf : (Effect → Type 0) → List Frame → Type 0
  ResultOf Is frames =
      (step p (lawful choose) (record z { frames = frames })).state.ended ≡ None → Coloured p facts (record z { frames = frames }) colour
      → Stand p facts frames → CoversAt p facts (record z { frames = frames }) frames
      → Stand p facts (step p (lawful choose) (record z { frames = frames })).state.frames → Is (next_effect p (record z { frames = frames }))
      → HasNewResult facts (record z { frames = frames }) (step p (lawful choose) (record z { frames = frames })).state colour known f callers

  pub done_at : ResultOf (λ e. e.next ≡ Falls) (f ∷ callers)
  done_at goes coloured stand covers later falls =
      done_result p facts exact (holds_numbers p ready) steps choose colour made f callers code code_is site known at z going coloured stand covers are
      (step p (lawful choose) (record z { frames = f ∷ callers })).state (step_done p (lawful choose) z f callers going goes) later falls

  pub returned_at : (above : Frame) (words : ℕ) → is_start p.outline above.method ≡ false → ResultOf (λ e. e.next ≡ Returns words) (above ∷ f ∷ callers)
  returned_at above words no_start goes coloured stand covers later returns =
      returned_result p facts exact (holds_numbers p ready) steps choose colour made f callers code code_is site known at z above coloured stand covers are
      (step p (lawful choose) (record z { frames = above ∷ f ∷ callers })).state (step_done p (lawful choose) z above (f ∷ callers) going goes) later no_start words
      returns

  pub behind_new : GoesOnBehind p z f callers → (step p (lawful choose) z).state.ended ≡ None → Coloured p facts z colour → Stand p facts z.frames
      → CoversAt p facts z z.frames → Stand p facts (step p (lawful choose) z).state.frames
      → HasNewResult facts z (step p (lawful choose) z).state colour known f callers
  behind_new (IsDone is falls) goes coloured stand covers later =
      subst (ResultOf (λ e. e.next ≡ Falls)) (sym is) done_at goes coloured stand covers later falls
  behind_new (IsReturnedTo above words is no_start returns) goes coloured stand covers later =
      subst (ResultOf (λ e. e.next ≡ Returns words)) (sym is) (returned_at above words no_start) goes coloured stand covers later returns

pub sites_give_new : SitesGiveNew
sites_give_new p facts exact ready steps choose x colour made going goes coloured stand covers later f callers behind code code_is site known at are =
    behind_new p facts exact ready steps choose x colour made going f callers code code_is site known at are behind goes coloured stand covers later
