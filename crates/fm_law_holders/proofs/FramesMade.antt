-- Frames go on being as the states of their items have them: along edges, where they wait, where they begin, and where one of them catches an exception.
use Rattle.std.proofs.Common.{◌≡◌, ℕ, zero, suc, ◌-◌, ◌<◌, Bool, true, false, cond, List, [], ◌∷◌, ◌++◌, length, drop, replicate, Option, Some, None, refl, sym, ◌∙◌, ap, subst, ⊎_elim}
use Rattle.std.specs.List.{AllByRecursion, flat_map}
use Rattle.std.proofs.lemmas.Bool.{false≢true}
use Rattle.std.proofs.lemmas.Option.{same_Some, slice_get-get_or}
use Rattle.std.proofs.lemmas.Slice.Zip.{AllZip-long}
use Rattle.fm_base.proofs.ListFacts.{AllByRecursion-append, AllByRecursion-at}
use Rattle.fm_base.proofs.OptionFacts.{option_and_then-some, Some-from_some_and}
use Rattle.fm_base.specs.declared.kinds.Kind.{Kind}
use Rattle.fm_base.specs.declared.kinds.Kind.TheVariants as kind
use Rattle.fm_base.specs.declared.kinds.TypeRef.{TypeRef}
use Rattle.fm_cells.specs.Stores.{Store}
use Rattle.fm_code.proofs.EdgesLemmas.{insn_inside}
use Rattle.fm_code.specs.AccessFlags.{is_static}
use Rattle.fm_code.specs.Edges.{insn_of, IsHandlerEdge, IsNormalEdge}
use Rattle.fm_code.specs.declared.code_array.Code.{Code}
use Rattle.fm_code.specs.declared.code_array.Handler.{Handler}
use Rattle.fm_types.specs.CallRows.{is_constructor}
use Rattle.fm_types.specs.Named.{class_of_method, parameters_of, this_class}
use Rattle.fm_types.specs.Rows.{row_after}
use Rattle.fm_types.specs.States.{local_slots, state_fits, TypeState}
use Rattle.fm_types.specs.Typed.{after_item, caught_type, entry_slots, entry_state, FitsAt, FitsHandler, handler_state, IsTypingOf, made_at, state_at, use_by}
use Rattle.fm_types.specs.declared.slots.Slot.TheVariants as slot
use Rattle.fm_types.proofs.Zips.{zip-drop}
use Rattle.fm_world.specs.Members.{method_at}
use Rattle.fm_world.specs.Numbers.{type_of_class}
use Rattle.fm_world.specs.Programs.{code_at, Outline, Program}
use Rattle.fm_frames.specs.States.{Frame}
use Rattle.fm_frames.specs.Steps.{caught, Caught, caught_in, handler_of, InFrames, is_start, new_frame, start_frames}
use Rattle.fm_frames.specs.declared.ends.Ended.TheVariants as end
use Rattle.fm_frames.specs.declared.values.Value.{Value}
use Rattle.fm_law_sound.specs.Sound.{AreTyped, Calling, HasKind, LocalHasKind, Stand, StandBelow, Starting, StandsWithout, Typings}
use Rattle.fm_law_sound.proofs.FramesStand.{not_left, typing_of}
use Rattle.fm_law_sound.proofs.Opening.{all_flat}
use Rattle.fm_same.proofs.EdgesKeep.{handler_edge}
use Rattle.fm_law_no_fault.specs.Whole.{lowest}
use Rattle.fm_law_no_fault.proofs.WaitingFrames.{lowest_all, lowest_drop}
use Rattle.fm_law_holders.specs.Uninitialised.{AreMadeIn, FrameIsMade, Made, ValueIsMade}
use Rattle.fm_law_holders.proofs.Slots.{Are, are_along, AreAt, others_are}
use Rattle.fm_types.proofs.EachCheckRow.{IsPlain}

-- ---- the slots of a method's entry

local_other : (k : Kind) → AllByRecursion IsPlain (local_slots k)
local_other kind.Boolean = (tt, tt)
local_other kind.Byte = (tt, tt)
local_other kind.Char = (tt, tt)
local_other kind.Short = (tt, tt)
local_other kind.Int = (tt, tt)
local_other kind.Long = (tt, (tt, tt))
local_other (kind.Ref t) = (tt, tt)

receiver_other : (static constructor : Bool) (t : TypeRef)
    → AllByRecursion IsPlain (cond static [] (cond constructor (slot.UninitThis ∷ []) (slot.Ref t ∷ [])))
receiver_other true constructor t = tt
receiver_other false true t = (tt, tt)
receiver_other false false t = (tt, tt)

tops_other : (n : ℕ) → AllByRecursion IsPlain (replicate n slot.Top)
tops_other zero = tt
tops_other (suc n) = (tt, tops_other n)

entry_other : (o : Outline) (method : ℕ) (code : Code) → AllByRecursion IsPlain (entry_state o method code).locals
unfolding entry_state
entry_other o method code =
    AllByRecursion-append IsPlain (entry_slots o method) (replicate (code.max_locals - length (entry_slots o method)) slot.Top)
    (AllByRecursion-append IsPlain _ (flat_map local_slots (parameters_of o method))
    (receiver_other (is_static (method_at o.classes method).method.flags) (is_constructor o method) (type_of_class (this_class o method)))
    (all_flat IsPlain local_slots (parameters_of o method) local_other))
    (tops_other (code.max_locals - length (entry_slots o method)))

entry_empty : (o : Outline) (method : ℕ) (code : Code) → (entry_state o method code).stack ≡ []
unfolding entry_state
entry_empty o method code = refl

module _ (p : Program) (typings : Typings) (typed : AreTyped p typings) (store : Store) (made : Made) where
  -- ---- along an edge

  pub brought_made : (f : Frame) (brought : TypeState) → FitsAt p (typings f.method) f.item brought → AreAt store made brought f.locals f.stack
      → FrameIsMade typings store made f
  brought_made f brought fits h known at =
      let found = Some-from_some_and (state_at (typings f.method) f.item) (λ s. state_fits p.outline brought s ≡ true) fits in
      let same : found.0 ≡ known = same_Some found.0 known (sym found.1 ∙ at) in
      let there : AreAt store made known f.locals f.stack =
      are_along store made p.outline brought known f.locals f.stack (subst (λ s. state_fits p.outline brought s ≡ true) same found.2) h in
      let long : length known.stack ≡ length f.stack = sym (AllZip-long (ValueIsMade store made) known.stack f.stack there.in_stack) in
      record {
        in_locals = there.in_locals;
        in_stack = subst (λ xs. Are store made xs f.stack) (sym (lowest_all known.stack (length f.stack) long)) there.in_stack;
      }

  -- all the words of a frame that has them all
  pub full_stack : (f : Frame) (stands : StandsWithout p typings 0 f) → FrameIsMade typings store made f
      → AreAt store made stands.known f.locals f.stack
  full_stack f stands h =
      let is : AreMadeIn store made stands.known f = h stands.known stands.at in
      let long : length stands.known.stack ≡ length f.stack = sym (AllZip-long HasKind stands.known.stack f.stack stands.stack) in
      record {
        in_locals = is.in_locals;
        in_stack = subst (λ xs. Are store made xs f.stack) (lowest_all stands.known.stack (length f.stack) long) is.in_stack;
      }

  -- ---- a frame that waits

  pub waiting_made : (f : Frame) (words : ℕ) → StandsWithout p typings 0 f → FrameIsMade typings store made f
      → FrameIsMade typings store made (record f { stack = drop words f.stack })
  waiting_made f words stands h known at =
      let same : stands.known ≡ known = same_Some stands.known known (sym stands.at ∙ at) in
      let there : AreAt store made known f.locals f.stack = subst (λ s. AreAt store made s f.locals f.stack) same (full_stack f stands h) in
      let left : Are store made (drop words known.stack) (drop words f.stack) =
      zip-drop (ValueIsMade store made) words known.stack f.stack there.in_stack in
      let long : length (drop words f.stack) ≡ length (drop words known.stack) =
      AllZip-long (ValueIsMade store made) (drop words known.stack) (drop words f.stack) left in
      record {
        in_locals = there.in_locals;
        in_stack = subst (λ xs. Are store made xs (drop words f.stack))
            (sym (ap (λ n. lowest n known.stack) long ∙ lowest_drop words known.stack)) left;
      }

  -- the words of a frame that waits without some
  pub words_left : (f : Frame) (words : ℕ) (stands : StandsWithout p typings words f) → FrameIsMade typings store made f
      → Are store made (drop words stands.known.stack) f.stack
  words_left f words stands h =
      let is : AreMadeIn store made stands.known f = h stands.known stands.at in
      let long : length f.stack ≡ length (drop words stands.known.stack) = AllZip-long HasKind (drop words stands.known.stack) f.stack stands.stack in
      subst (λ xs. Are store made xs f.stack) (ap (λ n. lowest n stands.known.stack) long ∙ lowest_drop words stands.known.stack) is.in_stack

  -- ---- frames that begin

  none_left : (known : TypeState) → known.stack ≡ [] → Are store made (lowest 0 known.stack) []
  none_left known empty = subst (λ xs. Are store made (lowest 0 xs) []) (sym empty) tt

  entered_made : (known : TypeState) (f : Frame) → AllByRecursion IsPlain known.locals → known.stack ≡ [] → length f.locals ≡ length known.locals
      → f.stack ≡ [] → AreMadeIn store made known f
  entered_made known f others empty long none = record {
    in_locals = others_are store made known.locals f.locals others long;
    in_stack = subst (λ ws. Are store made (lowest (length ws) known.stack) ws) (sym none) (none_left known empty);
  }

  pub begun_made : (f : Frame) (words : ℕ) → f.item ≡ 0 → f.stack ≡ [] → StandsWithout p typings words f → FrameIsMade typings store made f
  begun_made f words item none stands known at =
      let same : stands.known ≡ known = same_Some stands.known known (sym stands.at ∙ at) in
      let typing : IsTypingOf p f.method stands.code (typings f.method) = typing_of p typings typed f.method stands.code stands.code_is in
      let first : entry_state p.outline f.method stands.code ≡ known =
      same_Some (entry_state p.outline f.method stands.code) known (sym typing.first ∙ ap (λ j. state_at (typings f.method) j) (sym item) ∙ at) in
      entered_made known f (subst (λ (s : TypeState). AllByRecursion IsPlain s.locals) first (entry_other p.outline f.method stands.code))
      (ap (λ (s : TypeState). s.stack) (sym first) ∙ entry_empty p.outline f.method stands.code)
      (AllZip-long LocalHasKind stands.known.locals f.locals stands.locals ∙ ap (λ (s : TypeState). length s.locals) same) none

  -- a method that starts a class, and those below it
  pub started_made : (methods : List ℕ) (frames : List Frame) → Stand p typings (start_frames p methods ++ frames)
      → AllByRecursion (FrameIsMade typings store made) frames → AllByRecursion (FrameIsMade typings store made) (start_frames p methods ++ frames)
  started_made [] frames stand below = below
  started_made (m ∷ methods) frames stand below =
      (begun_made (new_frame p m []) 0 refl refl stand.0, others_made (new_frame p m []) methods frames stand.1 below) where
        others_made : (f : Frame) (methods : List ℕ) (frames : List Frame) → StandBelow p typings f (start_frames p methods ++ frames)
            → AllByRecursion (FrameIsMade typings store made) frames → AllByRecursion (FrameIsMade typings store made) (start_frames p methods ++ frames)
        others_made f [] frames stand below = below
        others_made f (m ∷ methods) frames stand below = (
          ⊎_elim
              (λ (call : Calling p typings f (new_frame p m [])). begun_made (new_frame p m []) call.words refl refl call.stands)
              (λ (start : Starting p typings f (new_frame p m [])). begun_made (new_frame p m []) 0 refl refl start.stands)
              stand.0,
          others_made (new_frame p m []) methods frames stand.1 below,
        )

  -- ---- an exception that is caught

  within : (method : ℕ) (code : Code) (j : ℕ) (known : TypeState) → code_at p method ≡ Some code → state_at (typings method) j ≡ Some known
      → j < length code.items
  within method code j known code_is at =
      let typing : IsTypingOf p method code (typings method) = typing_of p typings typed method code code_is in
      let found = Some-from_some_and (after_item p method code j known)
      (λ given. (next : ℕ) → IsNormalEdge code j next → FitsAt p (typings method) next given) (typing.items j known at).row in
      let parts = option_and_then-some
      (λ i. row_after p.outline method j (made_at p method code) (use_by p method i) i known) (insn_of code j) found.0 found.1 in
      insn_inside code j parts.0 parts.1

  module _ (t : TypeRef) (v : Value) where
    catching_made : (f : Frame) (words handler : ℕ) (stands : StandsWithout p typings words f) → FrameIsMade typings store made f
        → handler_of p f t ≡ Some handler → StandsWithout p typings 0 (record f { item = handler; stack = v ∷ [] })
        → FrameIsMade typings store made (record f { item = handler; stack = v ∷ [] })
    catching_made f words handler stands h found after =
        let typing : IsTypingOf p f.method stands.code (typings f.method) = typing_of p typings typed f.method stands.code stands.code_is in
        let edge : IsHandlerEdge stands.code f.item handler =
        handler_edge p f t stands.code handler stands.code_is found (within f.method stands.code handler after.known stands.code_is after.at)
        (within f.method stands.code f.item stands.known stands.code_is stands.at) in
        let entry : Handler = edge.caught.1 in
        let fits : FitsHandler p f.method (typings f.method) f.item stands.known entry =
        AllByRecursion-at (FitsHandler p f.method (typings f.method) f.item stands.known) stands.code.handlers edge.caught.0 entry
        (typing.items f.item stands.known stands.at).handlers
        (slice_get-get_or stands.code.handlers edge.caught.0 entry edge.caught.2 ∙ ap Some edge.caught.3) in
        let takes = Some-from_some_and (caught_type p f.method entry) (λ type. FitsAt p (typings f.method) entry.handler (handler_state type stands.known))
        (fits (record { after_start = edge.caught.4.after_start; before_end = edge.caught.4.before_end; handler_is = refl })) in
        brought_made (record f { item = handler; stack = v ∷ [] }) (handler_state takes.0 stands.known)
        (subst (λ j. FitsAt p (typings f.method) j (handler_state takes.0 stands.known)) edge.caught.4.handler_is takes.2)
        (record { in_locals = (h stands.known stands.at).in_locals; in_stack = (tt, tt) })

    caught_one : (f : Frame) (callers : List Frame) (words : ℕ) → StandsWithout p typings words f
        → AllByRecursion (FrameIsMade typings store made) (f ∷ callers) → (found : Option ℕ) → handler_of p f t ≡ found → (others : Caught)
        → (after : List Frame) → Stand p typings after
        → (is_start p.outline f.method ≡ false → others ≡ InFrames after → AllByRecursion (FrameIsMade typings store made) after)
        → caught_in p v f callers found others ≡ InFrames after → AllByRecursion (FrameIsMade typings store made) after
    caught_one f callers words stands all (Some handler) found others after stand rest is =
        let same : record f { item = handler; stack = v ∷ [] } ∷ callers ≡ after = cc in
        subst (λ frames. AllByRecursion (FrameIsMade typings store made) frames) same
        (catching_made f words handler stands all.0 found (subst (λ frames. Stand p typings frames) (sym same) stand).0, all.1)
    caught_one f callers words stands all None found others after stand rest is =
        not_left (is_start p.outline f.method) (end.InitFailed (record { 0 = class_of_method p.outline f.method })) others after rest is

    pub all_caught : (f : Frame) (callers : List Frame) (words : ℕ) → StandsWithout p typings words f → StandBelow p typings f callers
        → AllByRecursion (FrameIsMade typings store made) (f ∷ callers) → (after : List Frame) → Stand p typings after
        → caught p t v (f ∷ callers) ≡ InFrames after → AllByRecursion (FrameIsMade typings store made) after
    unfolding caught
    all_caught f [] words stands below all after stand is =
        caught_one f [] words stands all (handler_of p f t) refl (caught p t v []) after stand (λ no_start left. absurd (cc)) is
    all_caught f (g ∷ callers) words stands below all after stand is =
        caught_one f (g ∷ callers) words stands all (handler_of p f t) refl (caught p t v (g ∷ callers)) after stand
        (λ no_start rest. ⊎_elim
        (λ (call : Calling p typings f g). all_caught g callers call.words call.stands below.1 all.1 after stand rest)
        (λ (start : Starting p typings f g). absurd (false≢true (sym no_start ∙ start.starts)))
        below.0)
        is
