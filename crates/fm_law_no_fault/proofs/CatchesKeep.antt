-- Frames stay whole where one of them catches an exception: what is thrown is of a type that fits the one that its handler catches.
use Rattle.std.proofs.Common.{◌≡◌, ℕ, ◌&&◌, Bool, true, false, cond, List, [], ◌∷◌, nat_le, nat_lt, Option, Some, None, option_and_then, sym, ◌∙◌, ap, subst, refl, inr, ⊎_elim}
use Rattle.std.specs.Prelude.{◌==◌, option_map, unwrap_or}
use Rattle.std.specs.List.{AllByRecursion}
use Rattle.std.proofs.lemmas.Bool.{and_parts, false≢true}
use Rattle.std.proofs.lemmas.Option.{same_Some}
use Rattle.fm_base.proofs.OptionFacts.{cond-some_then, Some-from_some_and}
use Rattle.fm_base.specs.declared.kinds.TypeRef.{TypeRef}
use Rattle.fm_cells.specs.Objects.{Object}
use Rattle.fm_cells.specs.Stores.{object_at, Store}
use Rattle.fm_code.specs.declared.code_array.Code.{Code}
use Rattle.fm_code.specs.declared.code_array.Handler.{Handler}
use Rattle.fm_types.specs.Fits.{AreTree, fits_type}
use Rattle.fm_types.specs.Named.{class_of_method, this_class, throwable_type}
use Rattle.fm_types.specs.States.{TypeState}
use Rattle.fm_types.specs.Typed.{caught_type, FitsAt, FitsHandler, handler_state, IsTypingOf, made_at, MeetsItem, type_of_use, use_in}
use Rattle.fm_world.specs.Chains.{is_sub}
use Rattle.fm_world.specs.Programs.{Program}
use Rattle.fm_frames.specs.Acts.{cell_of}
use Rattle.fm_frames.specs.Sights.{type_numbered}
use Rattle.fm_frames.specs.States.{Frame}
use Rattle.fm_frames.specs.Steps.{catches, caught, Caught, caught_in, handler_among, handler_of, InFrames, is_start}
use Rattle.fm_frames.specs.declared.ends.Ended.TheVariants as end
use Rattle.fm_frames.specs.declared.values.Value.{Value}
use Rattle.fm_law_sound.specs.Sound.{AreTyped, Calling, IsReference, StandBelow, Starting, StandsWithout, Typings}
use Rattle.fm_law_sound.proofs.FramesStand.{catches_range, not_left, typing_of}
use Rattle.fm_law_no_fault.specs.Catching.{CatchesFit}
use Rattle.fm_law_no_fault.specs.Whole.{FrameFits, FrameIsWhole}
use Rattle.fm_law_no_fault.proofs.FramesKeep.{brought_whole}

module _ (p : Program) (fit : CatchesFit p) (t : TypeRef) (thrown : fits_type p.outline.classes t (throwable_type p.outline) ≡ true) where
  -- what the entry of a table catches fits the type that it names
  by_class : (b : Bool) (found : Option TypeRef) (c : TypeRef) → cond b true (unwrap_or (option_map (is_sub p.outline.classes t) found) false) ≡ true
      → cond b (Some (throwable_type p.outline))
      (option_and_then (λ d. cond (fits_type p.outline.classes d (throwable_type p.outline)) (Some d) None) found) ≡ Some c
      → fits_type p.outline.classes t c ≡ true
  by_class true found c catching is = subst (λ d. fits_type p.outline.classes t d ≡ true) (same_Some (throwable_type p.outline) c is) thrown
  by_class false None c catching is = absurd (false≢true catching)
  by_class false (Some d) c catching is =
      let parts = cond-some_then (fits_type p.outline.classes d (throwable_type p.outline)) (Some d) c is in
      subst (λ e. fits_type p.outline.classes t e ≡ true) (same_Some d c parts.1) (fit t d parts.0 catching)

  caught_fits : (f : Frame) (h : Handler) (c : TypeRef) → catches p f t h ≡ true → caught_type p f.method h ≡ Some c → fits_type p.outline.classes t c ≡ true
  unfolding caught_type
  caught_fits f h c catching is =
      let outer = and_parts (nat_le h.start f.item && nat_lt f.item h.end) _ catching in
      by_class (h.catch_class == 0) (type_of_use p.outline (use_in p f.method h.catch_class)) c outer.1 is

  -- the handler takes what the item brings
  takes_fitting : (typings : Typings) (f : Frame) (s : TypeState) (handlers : List Handler) (item : ℕ)
      → AllByRecursion (FitsHandler p f.method (typings f.method) f.item s) handlers → handler_among p f t handlers ≡ Some item
      → (c : TypeRef) × (fits_type p.outline.classes t c ≡ true) × FitsAt p (typings f.method) item (handler_state c s)
  takes_fitting typings f s [] item fits_each is = absurd (cc)
  takes_fitting typings f s (entry ∷ handlers) item fits_each is =
      by_test (catches p f t entry) refl (λ found. takes_fitting typings f s handlers item fits_each.1 found) is where
        Takes : Type 0
        Takes = (c : TypeRef) × (fits_type p.outline.classes t c ≡ true) × FitsAt p (typings f.method) item (handler_state c s)

        by_test : (b : Bool) → catches p f t entry ≡ b → (handler_among p f t handlers ≡ Some item → Takes)
            → cond b (Some entry.handler) (handler_among p f t handlers) ≡ Some item → Takes
        by_test true catching later found =
            let range = catches_range p f t entry catching in
            let takes = Some-from_some_and (caught_type p f.method entry) (λ type. FitsAt p (typings f.method) entry.handler (handler_state type s))
            (fits_each.0 (record { after_start = range.0; before_end = range.1; handler_is = refl })) in (
              takes.0,
              caught_fits f entry takes.0 catching takes.1,
              subst (λ j. FitsAt p (typings f.method) j (handler_state takes.0 s)) (same_Some entry.handler item found) takes.2,
            )
        by_test false catching later found = later found

  module _ (typings : Typings) (tree : AreTree p.outline.classes) (typed : AreTyped p typings) (store : Store) (v : Value) (reference : IsReference v) (object : Object) (held : object_at store (cell_of v) ≡ Some object) (type_is : type_numbered p.outline object.class ≡ t) where
    catching_whole : (f : Frame) (words handler : ℕ) → StandsWithout p typings words f → FrameIsWhole p typings store f → handler_of p f t ≡ Some handler
        → FrameIsWhole p typings store (record f { item = handler; stack = v ∷ [] })
    catching_whole f words handler stands whole found =
        let typing : IsTypingOf p f.method stands.code (typings f.method) = typing_of p typings typed f.method stands.code stands.code_is in
        let meets : MeetsItem p f.method stands.code (typings f.method) f.item stands.known = typing.items f.item stands.known stands.at in
        let among : handler_among p f t stands.code.handlers ≡ Some handler =
        sym (ap (λ o. option_and_then (λ (c : Code). handler_among p f t c.handlers) o) stands.code_is) ∙ found in
        let takes = takes_fitting typings f stands.known stands.code.handlers handler meets.handlers among in
        let fits : FrameFits p.outline store (this_class p.outline f.method) (made_at p f.method stands.code) stands.known f.locals f.stack =
        whole stands.code stands.known stands.code_is stands.at in
        brought_whole p typings tree typed store (record f { item = handler; stack = v ∷ [] }) stands.code stands.code_is (handler_state takes.0 stands.known)
        refl takes.2
        (record {
          in_locals = fits.in_locals;
          in_stack = (
            record {
              kind = reference;
              cell = inr (record { object = object; held = held; passes = ap (λ u. fits_type p.outline.classes u takes.0) type_is ∙ takes.1 });
            },
            tt,
          );
        })

    caught_one : (f : Frame) (callers : List Frame) (words : ℕ) → StandsWithout p typings words f
        → AllByRecursion (FrameIsWhole p typings store) (f ∷ callers) → (found : Option ℕ) → handler_of p f t ≡ found → (others : Caught)
        → (after : List Frame)
        → (is_start p.outline f.method ≡ false → others ≡ InFrames after → AllByRecursion (FrameIsWhole p typings store) after)
        → caught_in p v f callers found others ≡ InFrames after → AllByRecursion (FrameIsWhole p typings store) after
    caught_one f callers words stands whole (Some handler) found others after rest is =
        let same : record f { item = handler; stack = v ∷ [] } ∷ callers ≡ after = cc in
        subst (λ frames. AllByRecursion (FrameIsWhole p typings store) frames) same (catching_whole f words handler stands whole.0 found, whole.1)
    caught_one f callers words stands whole None found others after rest is =
        not_left (is_start p.outline f.method) (end.InitFailed (record { 0 = class_of_method p.outline f.method })) others after rest is

    pub all_caught : (f : Frame) (callers : List Frame) (words : ℕ) → StandsWithout p typings words f → StandBelow p typings f callers
        → AllByRecursion (FrameIsWhole p typings store) (f ∷ callers) → (after : List Frame) → caught p t v (f ∷ callers) ≡ InFrames after
        → AllByRecursion (FrameIsWhole p typings store) after
    unfolding caught
    all_caught f [] words stands below whole after is =
        caught_one f [] words stands whole (handler_of p f t) refl (caught p t v []) after (λ no_start left. absurd (cc)) is
    all_caught f (g ∷ callers) words stands below whole after is =
        caught_one f (g ∷ callers) words stands whole (handler_of p f t) refl (caught p t v (g ∷ callers)) after
        (λ no_start rest. ⊎_elim
        (λ (call : Calling p typings f g). all_caught g callers call.words call.stands below.1 whole.1 after rest)
        (λ (start : Starting p typings f g). absurd (false≢true (sym no_start ∙ start.starts)))
        below.0)
        is
