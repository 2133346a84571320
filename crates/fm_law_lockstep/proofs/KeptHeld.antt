-- Behind a site its holder gets what the first program's site gave: an object that no other holder has.
use Rattle.std.proofs.Common.{◌≡◌, ◌⊎◌, ◌+◌, inl, inr, ℕ, suc, Bool, true, false, List, [], ◌∷◌, length, Some, None, Contains, slice_get, sym, ap, subst, ◌∙◌, arith}
use Rattle.std.specs.Prelude.{is_some, nat_eq}
use Rattle.std.specs.List.{AllByRecursion}
use Rattle.std.proofs.lemmas.Bool.{and_parts, eqb-true}
use Rattle.std.proofs.lemmas.Option.{none-some}
use Rattle.fm_base.proofs.ListFacts.{AllByRecursion-at}
use Rattle.fm_cells.specs.Choices.{lawful}
use Rattle.fm_cells.specs.Soundness.{IsOrderly}
use Rattle.fm_cells.specs.Stores.{object_at, Store}
use Rattle.fm_chain.specs.Chained.{looped_at}
use Rattle.fm_code.specs.declared.code_array.Code.{Code}
use Rattle.fm_conn.specs.Facts.{Facts}
use Rattle.fm_conn.specs.Links.{typed_method}
use Rattle.fm_conn.specs.Nodes.{TypedMethod}
use Rattle.fm_frames.specs.Acts.{cell_of, Choose}
use Rattle.fm_frames.specs.States.{Areas, Frame, State, word_at}
use Rattle.fm_frames.specs.Steps.{is_start, step}
use Rattle.fm_frames.specs.declared.values.Value.{Value}
use Rattle.fm_law_held_objects.specs.Above.{NewResultsAreInitialised}
use Rattle.fm_law_held_objects.specs.Forth.{ChainsAreKept, KeepingLinksChains}
use Rattle.fm_law_held_objects.specs.Held.{AreHeld}
use Rattle.fm_law_held_objects.specs.Initialised.{IsInitialised}
use Rattle.fm_law_held_objects.specs.Keeping.{HoldersKeep}
use Rattle.fm_law_held_objects.specs.Laws.{KeepingKeepsHeld}
use Rattle.fm_law_holders.specs.Holding.{Holding, HoldsFixed, HoldsFreeable, HoldsNull, HoldsOwn}
use Rattle.fm_law_holders.specs.Laws.{KeptResultsAreOwn, SitesGiveNew}
use Rattle.fm_law_holders.specs.NewResults.{GoesOnBehind, HasNewResult, IsDone, IsReturnedTo, KeepsObjects}
use Rattle.fm_law_holders.specs.Uninitialised.{AreMadeIn, FrameIsMade, Made, made_after}
use Rattle.fm_law_lockstep.proofs.HeldTwins.{twin_holds, twin_may}
use Rattle.fm_law_lockstep.specs.Known.{IsKnown, IsKnownOn, IsLinked}
use Rattle.fm_law_two_memories.specs.Pairing.{AreasPaired, Gone, SameValue}
use Rattle.fm_law_unwoven.specs.Doing.{areas_after, IsNotHeld, joins_in, locals_after, Misses}
use Rattle.fm_law_unwoven.specs.Laid.{to_keep}
use Rattle.fm_place.proofs.FullLemmas.{Numbered, numbers-found}
use Rattle.fm_place.specs.Insertions.{after_at, Holder, Insertions}
use Rattle.fm_place.specs.Safe.{IsSafeHolder}
use Rattle.fm_place.specs.Sites.{is_captured, is_captured_site, site_class, site_kind}
use Rattle.fm_same.specs.Colours.{Colour}
use Rattle.fm_same.specs.Covering.{CoversAt}
use Rattle.fm_same.specs.Regions.{Retired}
use Rattle.fm_same.specs.Standing.{Called, Stand, Waits}
use Rattle.fm_types.specs.States.{TypeState}
use Rattle.fm_types.specs.Typed.{state_at}
use Rattle.fm_world.specs.Programs.{code_at, Program}

-- what a value leads to that a holder may hold is held
holding_found : (store : Store) (colour : Colour) (depth class : ℕ) (v : Value) → Holding store colour depth class v → IsNotHeld store (cell_of v) → ⊥
holding_found store colour depth class v (HoldsNull none) misses = let no : suc misses.0 ≡ 0 = sym misses.1 ∙ ap cell_of none in omega (arith, no)
holding_found store colour depth class v (HoldsFixed object held fixed) misses = none-some object (sym misses.2 ∙ ap (object_at store) (sym misses.1) ∙ held)
holding_found store colour depth class v (HoldsOwn object held loose own) misses = none-some object (sym misses.2 ∙ ap (object_at store) (sym misses.1) ∙ held)

module _ (new : SitesGiveNew) (own : KeptResultsAreOwn) (p : Program) (facts : Facts) (linked : IsLinked p facts) (choose : Choose) (x : State) (colour : Colour) (made : Made)
    (known : IsKnown p facts x colour made) (on : IsKnownOn p facts x (step p (lawful choose) x).state colour made) (going : x.ended ≡ None)
    (goes : (step p (lawful choose) x).state.ended ≡ None) (stand : Stand p facts x.frames) (covers : CoversAt p facts x x.frames)
    (next_stand : Stand p facts (step p (lawful choose) x).state.frames) where
  abbrev next : State
  next = (step p (lawful choose) x).state

  module _ (f : Frame) (callers : List Frame) (behind : GoesOnBehind p x f callers) where
    -- the state of the frame's item
    pub known_at : (t : TypeState) × (state_at (facts.typing f.method) f.item ≡ Some t)
    known_at = by_behind behind where
      by_below : (above : Frame) → ((is_start p.outline above.method ≡ false) × Called p facts above f) ⊎ ((is_start p.outline above.method ≡ true) × Waits p facts f)
          → (t : TypeState) × (state_at (facts.typing f.method) f.item ≡ Some t)
      by_below above (inl (plain, called)) = (called.at.state, called.at.state_is)
      by_below above (inr (is, waits)) = (waits.goes.at.state, waits.goes.at.state_is)

      by_behind : GoesOnBehind p x f callers → (t : TypeState) × (state_at (facts.typing f.method) f.item ≡ Some t)
      by_behind (IsDone frames falls) = let s = subst (Stand p facts) frames stand in (s.0.at.state, s.0.at.state_is)
      by_behind (IsReturnedTo above words frames plain returns) = let s = subst (Stand p facts) frames stand in by_below above s.1.0

    -- what has no initialised object there was made where its item says
    made_in : AreMadeIn x.areas.store made known_at.0 f
    made_in = by_behind behind where
      AllMade : List Frame → Type 0
      AllMade = AllByRecursion (FrameIsMade facts.typing x.areas.store made)

      by_behind : GoesOnBehind p x f callers → AreMadeIn x.areas.store made known_at.0 f
      by_behind (IsDone frames falls) = let all = subst AllMade frames known.made_at in all.0 known_at.0 known_at.1
      by_behind (IsReturnedTo above words frames plain returns) = let all = subst AllMade frames known.made_at in all.1.0 known_at.0 known_at.1

    module _ (code : Code) (code_is : code_at p f.method ≡ Some code) (plan : Insertions)
        (safe : AllByRecursion (IsSafeHolder facts (typed_method p facts.typing f.method code)) plan.holders) (only : ℕ) (among : Contains (after_at plan f.item) only) where
      abbrev m : TypedMethod
      m = typed_method p facts.typing f.method code

      listed : Numbered (λ o. nat_eq o.site f.item) 0 plan.holders only
      listed = numbers-found (λ o. nat_eq o.site f.item) 0 plan.holders only among

      pub holder : Holder
      holder = listed.holder

      holder_at : slice_get plan.holders only ≡ Some listed.holder
      holder_at = let number = listed.number in let same : only ≡ listed.place = omega (arith, number) in ap (slice_get plan.holders) same ∙ listed.there

      site : listed.holder.site ≡ f.item
      site = eqb-true listed.holder.site f.item listed.passes

      is_safe : IsSafeHolder facts m listed.holder
      is_safe = AllByRecursion-at (IsSafeHolder facts m) plan.holders listed.place listed.holder safe listed.there

      captured : is_captured_site facts m f.item ≡ true
      captured = subst (λ n. is_captured_site facts m n ≡ true) site is_safe.captured

      kind : is_some (site_kind facts m f.item) ≡ true
      kind = (and_parts (is_some (site_kind facts m f.item)) (is_captured facts m (site_class facts m f.item)) captured).0

      class_is : listed.holder.class ≡ site_class facts m f.item
      class_is = is_safe.class ∙ ap (site_class facts m) site

      -- what the site gave
      pub result : HasNewResult facts x next colour known_at.0 f callers
      result =
          new p facts linked.exact linked.resolved linked.without.steps choose x colour made going goes known.coloured stand covers next_stand f callers behind
          code code_is kind known_at.0 known_at.1 made_in

      result_holds : Holding next.areas.store on.fewer (length callers) listed.holder.class result.result
      result_holds =
          subst (λ class. Holding next.areas.store on.fewer (length callers) class result.result) (sym class_is)
          (own p facts linked.exact linked.without.steps x next colour on.fewer known_at.0 f callers result on.known.coloured next_stand code code_is captured)

      -- it is initialised
      initialised : NewResultsAreInitialised → (birth : ℕ) → HoldsFreeable next.areas.store result.result birth → IsInitialised facts.typing next birth
      initialised fresh =
          fresh p facts linked.exact linked.without.steps x next colour on.fewer (made_after x made) known_at.0 f callers behind known_at.1 result on.known.coloured
          next_stand on.known.made_at code code_is captured known.for_none_above on.known.for_none_above

      module _ (keeping : KeepingKeepsHeld) (fresh : NewResultsAreInitialised) (gone : Gone)
          (retired : (birth : ℕ) → gone.births birth ≡ true → on.fewer birth ≡ Retired) (store : Store) (y : Areas) (orderly : IsOrderly store)
          (births : store.births ≡ x.areas.store.births) (stays : KeepsObjects store y.store) (paired : AreasPaired gone p.outline next.areas y)
          (locals : List Value) (had : AreHeld facts.typing x colour (length callers) store code plan locals)
          (have : AreHeld facts.typing next on.fewer (length callers) y.store code plan locals) (width : length locals ≡ code.max_locals + length plan.holders)
          (stack : List Value) (same : SameValue gone next.areas.store y.store result.result (word_at stack 0)) where
        holding : Holding y.store on.fewer (length callers) listed.holder.class (word_at stack 0)
        holding =
            twin_holds gone p.outline next.areas.store y.store paired.store on.fewer retired (length callers) listed.holder.class result.result
            (word_at stack 0) same result_holds

        -- its holder keeps the twin of that, or that joins its chain
        pub result_kept : HoldersKeep p.outline facts.typing next on.fewer (length callers) code plan (only ∷ []) (word_at stack 0) gone y
            (areas_after code stack locals (to_keep (looped_at plan only) (joins_in y.store (cell_of (word_at stack 0))) only) y) locals
            (locals_after code stack (to_keep (looped_at plan only) (joins_in y.store (cell_of (word_at stack 0))) only) locals)
        result_kept =
            keeping p facts x next colour on.fewer made known_at.0 f callers behind known_at.1 result paired.store.orderly made_in gone p.outline store y
            orderly paired births stays code plan locals had have width only listed.holder holder_at stack holding
            (twin_may gone p.outline next.areas.store y.store paired.store on.fewer retired (length callers) listed.holder.class result.result
            (word_at stack 0) same result_holds)
            (initialised fresh)

        -- its chain, if it has one, has that then and what it had, and other chains have what they had
        pub result_linked : KeepingLinksChains
            → ChainsAreKept facts.typing next on.fewer (length callers) code plan (only ∷ []) (word_at stack 0) y
            (areas_after code stack locals (to_keep (looped_at plan only) (joins_in y.store (cell_of (word_at stack 0))) only) y) locals
            (locals_after code stack (to_keep (looped_at plan only) (joins_in y.store (cell_of (word_at stack 0))) only) locals)
        result_linked links =
            links p facts x next colour on.fewer made known_at.0 f callers behind known_at.1 result paired.store.orderly made_in gone p.outline store y
            orderly paired births stays code plan locals had have width only listed.holder holder_at stack holding
            (twin_may gone p.outline next.areas.store y.store paired.store on.fewer retired (length callers) listed.holder.class result.result
            (word_at stack 0) same result_holds)
            (initialised fresh)

        -- and it is held, if it isn't null
        pub result_found : (looped joins : Bool) → Misses code y stack locals (to_keep looped joins only) → ⊥
        result_found false joins misses = misses
        result_found true joins misses = holding_found y.store on.fewer (length callers) listed.holder.class (word_at stack 0) holding misses
