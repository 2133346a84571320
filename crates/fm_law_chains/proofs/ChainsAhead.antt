-- After a step of both programs: what chains had they have at the next kept item, with what a site gave; or it isn't held there any longer.
use Rattle.std.proofs.Common.{◌≡◌, ◌≢◌, ◌⊎◌, inl, inr, ⊎_elim, ℕ, suc, ◌+◌, ◌-◌, ◌<◌, ◌≤◌, Bool, true, false, List, [], ◌∷◌, ◌++◌, length, reverse, Option, Some, None, option_map, option_and_then, IsSomeAnd, Contains, slice_get, refl, sym, ap, subst, ◌∙◌, arith}
use Rattle.std.specs.List.{range_with_len}
use Rattle.std.proofs.lemmas.List.{length-append}
use Rattle.std.proofs.lemmas.Option.{none-some, same_Some, slice_get_within}
use Rattle.fm_cells.specs.Choices.{never_choice}
use Rattle.fm_cells.specs.Soundness.{IsOrderly}
use Rattle.fm_cells.specs.Stores.{Store}
use Rattle.fm_chain.specs.Chained.{holds_chain, looped_at}
use Rattle.fm_chain.specs.Loops.{is_looped}
use Rattle.fm_code.specs.Edges.{IsHandlerEdge, IsNormalEdge}
use Rattle.fm_code.specs.declared.code_array.Code.{Code}
use Rattle.fm_conn.specs.Links.{typed_method}
use Rattle.fm_conn.specs.Nodes.{depth_at, TypedMethod}
use Rattle.fm_frames.specs.Acts.{Choose}
use Rattle.fm_frames.specs.States.{Areas, Frame, State, word_at}
use Rattle.fm_frames.specs.declared.values.Value.{Value}
use Rattle.fm_law_chains.proofs.BehindSites.{no_jump, not_entered, same_site}
use Rattle.fm_law_chains.proofs.Collecting.{IsCollected, IsInChainAt, IsInChainOf}
use Rattle.fm_law_chains.proofs.LoopedHolders.{HasChain, HaveChains}
use Rattle.fm_law_chains.specs.FreesAll.{IsAbsent, IsBehind, IsGivenBySite}
use Rattle.fm_law_held_objects.proofs.ContentsKept.{has_born, has_later}
use Rattle.fm_law_held_objects.specs.Contents.{Has, HasInChain}
use Rattle.fm_law_held_objects.specs.Forth.{ChainsAreFreed, ChainsAreKept, FreesEmptyChains, KeepingLinksChains}
use Rattle.fm_law_held_objects.specs.Freeing.{HoldersAreFreed}
use Rattle.fm_law_held_objects.specs.Held.{FramesAreHeld, HolderHas}
use Rattle.fm_law_held_objects.specs.Laws.{AreThere, frees_of}
use Rattle.fm_law_holders.specs.Holding.{holder_value, HoldsFreeable}
use Rattle.fm_law_lockstep.proofs.Ahead.{first_ahead, given_ahead}
use Rattle.fm_law_lockstep.proofs.AheadHeld.{CatchLaws, following_of, IsReady, linked_behind, next_of}
use Rattle.fm_law_lockstep.proofs.BehindHeld.{nothing_linked}
use Rattle.fm_law_lockstep.proofs.FoundTodos.{areas_both, starts_areas}
use Rattle.fm_law_lockstep.proofs.FramesHeld.{holders_same}
use Rattle.fm_law_lockstep.proofs.FreedTogether.{BeforeFrees, freed}
use Rattle.fm_law_lockstep.proofs.KeptSince.{kind}
use Rattle.fm_law_lockstep.proofs.NextKept.{before_there, first_of, freed_of, given_of, GoesToKept, ready_there, state_at_kept}
use Rattle.fm_law_lockstep.proofs.NothingFreed.{FreesNothing}
use Rattle.fm_law_lockstep.proofs.StepHeld.{frees_nothing}
use Rattle.fm_law_lockstep.specs.Both.{Both}
use Rattle.fm_law_lockstep.specs.Known.{IsLinked}
use Rattle.fm_law_lockstep.specs.Together.{GoTogetherAt}
use Rattle.fm_law_same_runs.specs.Beside.{kept_item}
use Rattle.fm_law_sound.proofs.FramesStand.{typing_of}
use Rattle.fm_law_unwoven.proofs.Cleared.{none_at_first}
use Rattle.fm_law_unwoven.proofs.KeptSites.{none_behind}
use Rattle.fm_law_unwoven.proofs.OneKept.{safe_holders}
use Rattle.fm_law_unwoven.proofs.TodoLocals.{after_both}
use Rattle.fm_law_unwoven.specs.Doing.{all_areas_after, all_locals_after}
use Rattle.fm_law_unwoven.specs.Kept.{Begins, BeginsOn, FrameGoes, GoesBefore, GoesBehind, GoesByJump, HasWaited, InMethod, IsNew, Resumes, WaitAs}
use Rattle.fm_law_unwoven.specs.Laid.{mark_at, starts_of, Todo}
use Rattle.fm_law_unwoven.specs.WovenFrom.{inserted_by, IsWovenFrom, own_marks}
use Rattle.fm_place.specs.Insertions.{after_at, Holder, Insertions}
use Rattle.fm_place.specs.Safe.{method_in_facts}
use Rattle.fm_place.specs.Sites.{held_sites, site_class}
use Rattle.fm_place.specs.Woven.{local_of}
use Rattle.fm_same.proofs.EdgesKeep.{item_with_state}
use Rattle.fm_same.specs.Laws.{SitesAreNodes, SitesMakeBusy}
use Rattle.fm_types.specs.States.{is_reference, TypeState}
use Rattle.fm_types.specs.Typed.{state_at}
use Rattle.fm_types.specs.declared.slots.Slot as slots
use Rattle.fm_world.specs.Programs.{code_at}

-- what it rests on: laws of a step, of what chains have, and of sites
pub record ForthLaws : Type 0 where
  pub ahead : CatchLaws
  pub links : KeepingLinksChains
  pub empties : FreesEmptyChains
  pub nodes : SitesAreNodes
  pub busy : SitesMakeBusy

-- ---- where a frame is among others

module _ (b : Both) (store : Store) (depth class birth : ℕ) where
  -- one with no more others below it than these isn't above them
  chain_below : (above frames : List Frame) → depth < length frames → IsInChainAt b store depth class birth (above ++ frames)
      → IsInChainAt b store depth class birth frames
  chain_below [] frames low held = held
  chain_below (g ∷ above) frames low (inl here) =
      let same = here.0 in let all = length-append above frames in absurd (omega (arith, low, same, all))
  chain_below (g ∷ above) frames low (inr later) = chain_below above frames low later

  chain_over : (new waiting : List Frame) → IsInChainAt b store depth class birth waiting → IsInChainAt b store depth class birth (new ++ waiting)
  chain_over [] waiting held = held
  chain_over (g ∷ new) waiting held = inr (chain_over new waiting held)

  -- frames that wait have the same holders
  chain_waits : (before waiting : List Frame) → WaitAs before waiting → IsInChainAt b store depth class birth before → IsInChainAt b store depth class birth waiting
  chain_waits [] waiting waits held = absurd held
  chain_waits (was ∷ callers) waiting waits held =
      subst (IsInChainAt b store depth class birth) (sym waits.1)
      (⊎_elim
      (λ (here : (length callers ≡ depth) × IsInChainOf b store class birth was).
      let own = here.1 in
      inl (
        here.0,
        record {
          code = own.code;
          code_is = own.code_is;
          item = own.item;
          kept = own.kept;
          h = own.h;
          holder = own.holder;
          holder_is = own.holder_is;
          looped = own.looped;
          class_is = own.class_is;
          has = own.has;
        },
      ))
      (λ later. inr later) held)

-- what chains have another store's chains have, by frames that are as they were
chain_then : (b : Both) (store later : Store) (depth class birth : ℕ) → ((v : Value) → HasInChain store v birth → HasInChain later v birth)
    → (frames : List Frame) → IsInChainAt b store depth class birth frames → IsInChainAt b later depth class birth frames
chain_then b store later depth class birth goes [] held = held
chain_then b store later depth class birth goes (g ∷ callers) (inl here) =
    let own = here.1 in
    inl (
      here.0,
      record {
        code = own.code;
        code_is = own.code_is;
        item = own.item;
        kept = own.kept;
        h = own.h;
        holder = own.holder;
        holder_is = own.holder_is;
        looped = own.looped;
        class_is = own.class_is;
        has = goes (word_at g.locals (local_of own.code own.h)) own.has;
      },
    )
chain_then b store later depth class birth goes (g ∷ callers) (inr held) = inr (chain_then b store later depth class birth goes callers held)

-- an object in a chain was made
chain_born : (b : Both) (store : Store) (depth class birth : ℕ) → IsOrderly store → (frames : List Frame) → IsInChainAt b store depth class birth frames
    → birth < store.births
chain_born b store depth class birth orderly [] held = absurd held
chain_born b store depth class birth orderly (g ∷ callers) (inl here) =
    has_born true store (word_at g.locals (local_of here.1.code here.1.h)) birth orderly here.1.has
chain_born b store depth class birth orderly (g ∷ callers) (inr held) = chain_born b store depth class birth orderly callers held

-- ---- a frame that reaches its next kept item

module _ (laws : ForthLaws) (b : Both) (from : IsWovenFrom b.one b.other b.facts b.plans b.marks) (linked : IsLinked b.one b.facts) (choose : Choose) (x y : State)
    (t : GoTogetherAt b x y) (s : GoesToKept b choose x y t) where
  abbrev next : State
  next = next_of b never_choice x

  abbrev following : State
  following = following_of b choose y

  abbrev g : Frame
  g = s.g

  abbrev code : Code
  code = s.reached.code

  abbrev plan : Insertions
  plan = inserted_by (b.plans s.g.method)

  abbrev firsts : List Todo
  firsts = first_of b choose x y t s

  abbrev values : List Value
  values = all_locals_after s.reached.code s.g.stack (first_of b choose x y t s) s.g.locals

  abbrev middle : Areas
  middle = all_areas_after s.reached.code s.g.stack (first_of b choose x y t s) s.g.locals (following_of b choose y).areas

  abbrev frees : List Todo
  frees = frees_of (inserted_by (b.plans s.g.method)) (freed_of b choose x y t s)

  abbrev later : Areas
  later = all_areas_after s.reached.code s.g.stack frees values middle

  abbrev z : State
  z = state_at_kept b choose x y t s

  still : FreesNothing y.areas following.areas
  still = frees_nothing b from linked never_choice choose x y t s.on s.going s.other_going s.within laws.ahead.alike laws.ahead.kept

  orderly : IsOrderly following.areas.store
  orderly = s.paired.areas.store.other_orderly

  known_ready : IsReady b (next_of b never_choice x) (following_of b choose y) s.on.fewer t.gone s.f s.g s.below s.reached.code (first_of b choose x y t s)
      (given_of b choose x y t s) (freed_of b choose x y t s)
  known_ready = ready_there b choose x y t s laws.ahead from linked

  before : BeforeFrees b (next_of b never_choice x) (record (following_of b choose y) { areas = middle }) s.f s.g s.callers s.below s.reached.code values
  before = before_there b choose x y t s laws.ahead from linked

  emptied : ChainsAreFreed b.facts.typing next before.colour (length s.below) code plan middle later values (all_locals_after code s.g.stack frees values)
  emptied =
      laws.empties before.gone b.one.outline b.facts.typing next before.colour (length s.below) middle before.paired.areas code plan (record s.g { locals = values })
      (freed_of b choose x y t s) there before.width before.top where
        there : AreThere plan (freed_of b choose x y t s)
        there number among = let m = known_ready.may number among in (m.holder, m.is)

  areas_are : z.areas ≡ later
  areas_are = areas_both code s.g.stack firsts frees s.g.locals following.areas

  locals_are : all_locals_after code s.g.stack (firsts ++ frees) s.g.locals ≡ all_locals_after code s.g.stack frees values
  locals_are = after_both code s.g.stack firsts frees s.g.locals

  -- as many objects were made as in the first program
  births_then : z.areas.store.births ≡ next.areas.store.births
  births_then =
      let done : HoldersAreFreed b.one.outline b.facts.typing next before.colour (length s.below) code plan (freed_of b choose x y t s) before.gone middle later values
      (all_locals_after code s.g.stack frees values) =
      freed laws.ahead.frees b next (record following { areas = middle }) s.f s.g s.callers s.below code values before (freed_of b choose x y t s) known_ready.may in
      ap (λ (a : Areas). a.store.births) areas_are ∙ done.paired.store.births

  births_rise : (birth : ℕ) → birth < y.areas.store.births → birth < z.areas.store.births
  births_rise birth made =
      let first = t.paired.areas.store.births in
      let rise = s.on.over.births in
      let last = births_then in omega (arith, made, first, rise, last)

  -- ---- by where the frame goes

  -- what its holders have before anything inserted is done; those of a method that begins are null
  abbrev locals_of : FrameGoes b.one b.other b.facts b.plans b.marks y s.f s.g s.below → List Value
  locals_of (InMethod j old old_is w was goes edge stands) = s.g.locals
  locals_of (Begins old_first first_item empty width begun) = all_locals_after s.reached.code s.g.stack (starts_of (inserted_by (b.plans s.g.method))) s.g.locals
  locals_of (Resumes stands is above are) = s.g.locals

  abbrev ForthOf : FrameGoes b.one b.other b.facts b.plans b.marks y s.f s.g s.below → Type 0
  ForthOf top =
      ChainsAreKept b.facts.typing (next_of b never_choice x) s.on.fewer (length s.below) s.reached.code (inserted_by (b.plans s.g.method))
      (given_ahead b.one b.other b.facts b.plans b.marks y (following_of b choose y).areas.store s.f s.g s.below top) (word_at s.g.stack 0) (following_of b choose y).areas
      (all_areas_after s.reached.code s.g.stack (first_ahead b.one b.other b.facts b.plans b.marks y (following_of b choose y).areas.store s.f s.g s.below top) s.g.locals
      (following_of b choose y).areas)
      (locals_of top)
      (all_locals_after s.reached.code s.g.stack (first_ahead b.one b.other b.facts b.plans b.marks y (following_of b choose y).areas.store s.f s.g s.below top) s.g.locals)

  nothing_done : (locals : List Value) → ChainsAreKept b.facts.typing next s.on.fewer (length s.below) code plan [] (word_at s.g.stack 0) following.areas following.areas
      locals locals
  nothing_done locals = nothing_linked b.facts.typing next s.on.fewer (length s.below) code plan (word_at s.g.stack 0) following.areas locals

  forth_of : (top : FrameGoes b.one b.other b.facts b.plans b.marks y s.f s.g s.below) → ForthOf top
  forth_of (InMethod j old old_is w was (GoesBehind past item behind) edge stands) =
      linked_behind laws.ahead b from linked never_choice choose x y t s.on s.going s.other_going s.within s.f s.g s.callers s.below s.paired s.go code
      s.reached.code_is s.reached.number s.reached.number_is s.reached.width laws.links j was past
  forth_of (InMethod j old old_is w was (GoesBefore at) edge stands) = nothing_done s.g.locals
  forth_of (InMethod j old old_is w was (GoesByJump jump mark) edge stands) = nothing_done s.g.locals
  forth_of (Begins old_first first_item empty width begun) =
      let started : List Value = all_locals_after code s.g.stack (starts_of plan) s.g.locals in
      subst (λ (a : Areas). ChainsAreKept b.facts.typing next s.on.fewer (length s.below) code plan [] (word_at s.g.stack 0) following.areas a started started)
      (sym (starts_areas code s.g.stack (range_with_len 0 (length plan.holders)) s.g.locals following.areas)) (nothing_done started)
  forth_of (Resumes stands is above are) = nothing_done s.g.locals

  forth : ForthOf s.go.top
  forth = forth_of s.go.top

  -- ---- what becomes of what chains have

  -- a holder of the topmost frame, for this class, has it in its chain
  record TopHas (store : Store) (locals : List Value) (class birth : ℕ) : Type 0 where
    h : ℕ
    holder : Holder
    holder_is : slice_get (inserted_by (b.plans s.g.method)).holders h ≡ Some holder
    looped : holder.looped ≡ true
    class_is : holder.class ≡ class
    has : HasInChain store (holder_value s.reached.code locals h) birth

  flag : (inserted : Insertions) (h : ℕ) (holder : Holder) → slice_get inserted.holders h ≡ Some holder → holder.looped ≡ true → looped_at inserted h ≡ true
  flag inserted h holder is looped = ap holds_chain is ∙ looped

  in_plan : (store : Store) (locals : List Value) (class birth : ℕ) (top : TopHas store locals class birth) → HolderHas store code plan locals top.h birth
  in_plan store locals class birth top =
      subst (λ (l : Bool). Has l store (holder_value code locals top.h) birth) (sym (flag plan top.h top.holder top.holder_is top.looped)) top.has

  -- before the frees; then it has it still, or that isn't held
  top_then : (class birth : ℕ) → birth < z.areas.store.births → TopHas middle.store values class birth → IsCollected b z (length s.below) class birth
  top_then class birth made top =
      let is_chain = flag plan top.h top.holder top.holder_is top.looped in
      ⊎_elim
      (λ (held : HolderHas later.store code plan (all_locals_after code s.g.stack frees values) top.h birth).
      inl (inl (
        refl,
        record {
          code = code;
          code_is = s.reached.code_is;
          item = s.f.item;
          kept = s.reached.number_is;
          h = top.h;
          holder = top.holder;
          holder_is = top.holder_is;
          looped = top.looped;
          class_is = top.class_is;
          has = subst (λ (l : Bool). Has l z.areas.store (holder_value code (all_locals_after code s.g.stack (firsts ++ frees) s.g.locals) top.h) birth) is_chain
              (subst (λ (a : Areas). HolderHas a.store code plan (all_locals_after code s.g.stack (firsts ++ frees) s.g.locals) top.h birth) (sym areas_are)
              (subst (λ ls. HolderHas later.store code plan ls top.h birth) (sym locals_are) held));
        },
      )))
      (λ none. inr (record { made = made; absent = subst (λ (a : Areas). IsAbsent a.store birth) (sym areas_are) none }))
      (emptied.stays top.h birth (slice_get_within plan.holders top.h top.holder top.holder_is) is_chain (in_plan middle.store values class birth top))

  top_stays : (class birth : ℕ) → birth < z.areas.store.births → TopHas following.areas.store (locals_of s.go.top) class birth
      → IsCollected b z (length s.below) class birth
  top_stays class birth made top =
      let is_chain = flag plan top.h top.holder top.holder_is top.looped in
      let now : HolderHas middle.store code plan values top.h birth =
      forth.stays top.h birth (slice_get_within plan.holders top.h top.holder top.holder_is) is_chain
      (in_plan following.areas.store (locals_of s.go.top) class birth top) in
      top_then class birth made (record {
        h = top.h;
        holder = top.holder;
        holder_is = top.holder_is;
        looped = top.looped;
        class_is = top.class_is;
        has = subst (λ (l : Bool). Has l middle.store (holder_value code values top.h) birth) is_chain now;
      })

  -- other frames' chains have what they had
  below_stays : (depth class birth : ℕ) (frames : List Frame) → length frames ≤ length s.below
      → FramesAreHeld b.one b.facts b.plans b.marks next s.on.fewer following.areas.store frames
      → FramesAreHeld b.one b.facts b.plans b.marks next before.colour middle.store frames
      → IsInChainAt b following.areas.store depth class birth frames → IsInChainAt b z.areas.store depth class birth frames
  below_stays depth class birth [] few held then_held there = there
  below_stays depth class birth (g ∷ callers) few held then_held (inl here) =
      let own = here.1 in
      let inserted : Insertions = inserted_by (b.plans g.method) in
      let apart : length callers ≢ length s.below = λ same. omega (arith, few, same) in
      let within = slice_get_within inserted.holders own.h own.holder own.holder_is in
      let is_chain = flag inserted own.h own.holder own.holder_is own.looped in
      let had : HolderHas following.areas.store own.code inserted g.locals own.h birth =
      subst (λ (l : Bool). Has l following.areas.store (holder_value own.code g.locals own.h) birth) (sym is_chain) own.has in
      let kept : HolderHas middle.store own.code inserted g.locals own.h birth =
      forth.others (length callers) own.code inserted g.locals apart (held.0 own.item own.code own.kept own.code_is) own.h birth within had in
      let last : HolderHas later.store own.code inserted g.locals own.h birth =
      emptied.others (length callers) own.code inserted g.locals apart (then_held.0 own.item own.code own.kept own.code_is) own.h birth within kept in
      inl (
        here.0,
        record {
          code = own.code;
          code_is = own.code_is;
          item = own.item;
          kept = own.kept;
          h = own.h;
          holder = own.holder;
          holder_is = own.holder_is;
          looped = own.looped;
          class_is = own.class_is;
          has = subst (λ (l : Bool). Has l z.areas.store (holder_value own.code g.locals own.h) birth) is_chain
              (subst (λ (a : Areas). HolderHas a.store own.code inserted g.locals own.h birth) (sym areas_are) last);
        },
      )
  below_stays depth class birth (g ∷ callers) few held then_held (inr there) =
      inr (below_stays depth class birth callers (omega (arith, few)) held.1 then_held.1 there)

  absent_stays : (birth : ℕ) → IsAbsent following.areas.store birth → IsAbsent z.areas.store birth
  absent_stays birth none = subst (λ (a : Areas). IsAbsent a.store birth) (sym areas_are) (emptied.absent birth (forth.absent birth none))

  -- ---- what chains had before the step

  step_has : (birth : ℕ) (v : Value) → HasInChain y.areas.store v birth → HasInChain following.areas.store v birth
  step_has birth v has = has_later y.areas.store following.areas.store orderly still.keeps true v birth has

  module _ (depth class birth : ℕ) where
    -- the topmost frame's chain has it, or that of a frame below
    abbrev Found : List Value → Type 0
    Found locals =
        ((length s.below ≡ depth) × TopHas (following_of b choose y).areas.store locals class birth)
        ⊎ IsInChainAt b (following_of b choose y).areas.store depth class birth s.below

    found_below : IsInChainAt b y.areas.store depth class birth s.below → (locals : List Value) → Found locals
    found_below held locals = inr (chain_then b y.areas.store following.areas.store depth class birth (step_has birth) s.below held)

    -- a frame that was there with the same holders
    found_at : (above : List Frame) (was : Frame) → y.frames ≡ above ++ was ∷ s.below → was.method ≡ s.g.method
        → ((h : ℕ) → holder_value code s.g.locals h ≡ holder_value code was.locals h) → depth < suc (length s.below)
        → IsInChainAt b y.areas.store depth class birth y.frames → Found s.g.locals
    found_at above was are method values_are low held =
        by_place (chain_below b y.areas.store depth class birth above (was ∷ s.below) low (subst (IsInChainAt b y.areas.store depth class birth) are held)) where
          by_place : IsInChainAt b y.areas.store depth class birth (was ∷ s.below) → Found s.g.locals
          by_place (inr later) = found_below later s.g.locals
          by_place (inl here) =
              let own = here.1 in
              let same : own.code ≡ code = same_Some own.code code (sym own.code_is ∙ ap (code_at b.one) method ∙ s.reached.code_is) in
              inl (
                here.0,
                record {
                  h = own.h;
                  holder = own.holder;
                  holder_is = ap (λ m. slice_get (inserted_by (b.plans m)).holders own.h) (sym method) ∙ own.holder_is;
                  looped = own.looped;
                  class_is = own.class_is;
                  has = step_has birth (holder_value code s.g.locals own.h)
                      (subst (λ (v : Value). HasInChain y.areas.store v birth) (sym (values_are own.h))
                      (subst (λ (c : Code). HasInChain y.areas.store (word_at was.locals (local_of c own.h)) birth) same own.has));
                },
              )

    found_begun : s.g.item ≡ 0 → BeginsOn y.frames s.g s.below → depth < suc (length s.below) → IsInChainAt b y.areas.store depth class birth y.frames
        → IsInChainAt b y.areas.store depth class birth s.below
    found_begun first_item (IsNew new waiting is first_items waits) low held =
        subst (IsInChainAt b y.areas.store depth class birth) (sym is)
        (chain_over b y.areas.store depth class birth new waiting (chain_waits b y.areas.store depth class birth y.frames waiting waits held))
    found_begun first_item (HasWaited above are) low held =
        by_place (chain_below b y.areas.store depth class birth above (s.g ∷ s.below) low (subst (IsInChainAt b y.areas.store depth class birth) are held)) where
          by_place : IsInChainAt b y.areas.store depth class birth (s.g ∷ s.below) → IsInChainAt b y.areas.store depth class birth s.below
          by_place (inr later) = later
          by_place (inl here) =
              let own = here.1 in
              absurd (none_at_first b.one b.other b.facts b.plans b.marks from s.g.method own.code own.code_is own.item
              (ap (kept_item b.marks s.g.method) (sym first_item) ∙ own.kept) own.h own.holder own.holder_is)

    found : (top : FrameGoes b.one b.other b.facts b.plans b.marks y s.f s.g s.below) → depth < suc (length s.below)
        → IsInChainAt b y.areas.store depth class birth y.frames → Found (locals_of top)
    found (InMethod j old old_is w was goes edge stands) low held =
        found_at was.above was.was was.frames_are was.method (holders_same b.one s.g was.was code was.method s.reached.code_is was.holders) low held
    found (Begins old_first first_item empty width begun) low held =
        found_below (found_begun first_item begun low held) (all_locals_after code s.g.stack (starts_of plan) s.g.locals)
    found (Resumes stands is above are) low held = found_at above s.g are refl (λ h. refl) low held

    -- ---- what was in a chain, or gone

    pub stays_collected : depth < length z.frames → IsCollected b y depth class birth → IsCollected b z depth class birth
    stays_collected low (inr gone) =
        inr (record {
          made = births_rise birth gone.made;
          absent = absent_stays birth
              (λ cell object held same.
              let made = gone.made in
              let old = still.old cell object held (omega (arith, made, same)) in gone.absent cell old.0 old.1 (old.2 ∙ same));
        })
    stays_collected low (inl held) = by_place (found s.go.top low held) where
      made : birth < z.areas.store.births
      made = births_rise birth (chain_born b y.areas.store depth class birth t.paired.areas.store.other_orderly y.frames held)

      by_place : Found (locals_of s.go.top) → IsCollected b z depth class birth
      by_place (inl here) = subst (λ n. IsCollected b z n class birth) here.0 (top_stays class birth made here.1)
      by_place (inr there) = inl (inr (below_stays depth class birth s.below (omega arith) known_ready.others before.others there))

  -- ---- what a site gave

  module _ (chains : HaveChains b.one b.facts b.plans) (depth class birth : ℕ)
      (given : IsGivenBySite b.one b.facts b.marks y (following_of b choose y) depth class birth) where
    frames_same : given.f ∷ given.callers ≡ s.g ∷ s.below
    frames_same = sym given.frames_are ∙ s.news

    f_is : given.f ≡ s.g
    f_is = let both = frames_same in cc

    callers_are : given.callers ≡ s.below
    callers_are = let both = frames_same in cc

    abbrev m : TypedMethod
    m = typed_method b.one b.facts.typing s.g.method s.reached.code

    typed : typed_method b.one b.facts.typing s.g.method s.reached.code ≡ given.x
    typed =
        same_Some m given.x
        (sym (ap (option_map (typed_method b.one b.facts.typing s.g.method)) s.reached.code_is) ∙ ap (λ (f : Frame). method_in_facts b.one b.facts f.method) (sym f_is) ∙ given.method_is)

    held : Contains (held_sites b.facts (typed_method b.one b.facts.typing s.g.method s.reached.code)) given.site
    held = subst (λ (other : TypedMethod). Contains (held_sites b.facts other) given.site) (sym typed) given.held

    looped : is_looped s.reached.code given.site ≡ true
    looped = ap (λ (other : TypedMethod). is_looped other.code given.site) typed ∙ given.looped

    chain : HasChain (inserted_by (b.plans s.g.method)) given.site (site_class b.facts (typed_method b.one b.facts.typing s.g.method s.reached.code) given.site)
    chain = chains s.g.method code s.reached.code_is given.site held looped

    class_there : chain.holder.class ≡ class
    class_there = chain.class_is ∙ ap (λ (other : TypedMethod). site_class b.facts other given.site) typed ∙ sym given.class_is

    behind : IsBehind b.marks s.g given.site
    behind = subst (λ (f : Frame). IsBehind b.marks f given.site) f_is given.behind

    top_is : given.top ≡ word_at s.g.stack 0
    top_is = ap (λ words. word_at words 0) (sym given.stack_is) ∙ ap (λ (f : Frame). word_at f.stack 0) f_is

    gives : HoldsFreeable following.areas.store (word_at s.g.stack 0) birth
    gives = subst (λ v. HoldsFreeable following.areas.store v birth) top_is given.gives

    -- the item behind the site is one
    more_by : (o : Option TypeState) → state_at (b.facts.typing s.g.method) (given.site + 1) ≡ o
        → IsSomeAnd (option_and_then (λ (st : TypeState). slice_get (reverse st.stack)
        (depth_at (typed_method b.one b.facts.typing s.g.method s.reached.code) (given.site + 1) - 1)) o) (λ (slot : slots.Slot). is_reference slot ≡ true)
        → given.site + 1 < length s.reached.code.items
    more_by None at node = absurd node
    more_by (Some st) at node = item_with_state b.one b.facts linked.exact s.g.method code s.reached.code_is (given.site + 1) st at

    more : given.site + 1 < length s.reached.code.items
    more =
        more_by (state_at (b.facts.typing s.g.method) (given.site + 1)) refl
        (laws.nodes b.one b.facts s.g.method code (b.facts.typing s.g.method) linked.without.steps s.reached.code_is
        (typing_of b.one b.facts.typing t.kept.sound.typed s.g.method code s.reached.code_is) given.site
        (kind b.one b.facts linked laws.busy s.g.method code s.reached.code_is plan
        (safe_holders b.one b.other b.facts b.plans b.marks from s.g.method code s.reached.code_is) given.site chain.h chain.among chain.holder chain.holder_is))

    -- so its holder gets it
    among_given : (top : FrameGoes b.one b.other b.facts b.plans b.marks y s.f s.g s.below)
        → Contains (given_ahead b.one b.other b.facts b.plans b.marks y (following_of b choose y).areas.store s.f s.g s.below top) chain.h
    among_given (InMethod j old old_is w was (GoesBehind past item at) edge stands) =
        let kept : mark_at (own_marks b.marks s.g.method) was.was.item ≡ Some j =
        ap (λ method. kept_item b.marks method was.was.item) (sym was.method) ∙ was.item_is in
        let same : j ≡ given.site =
        same_site w.calls old plan w.new (own_marks b.marks s.g.method) w.laid given.site chain.h chain.among
        (none_behind b.one b.other b.facts b.plans b.marks from s.g.method old old_is given.site) s.g.item behind.before behind.next behind.kept behind.inserted j
        (w.laid.once was.was.item j kept).0 at in
        subst (λ n. Contains (after_at plan n) chain.h) (sym same) chain.among
    among_given (InMethod j old old_is w was (GoesBefore at) edge stands) =
        absurd (not_entered w.calls old plan w.new (own_marks b.marks s.g.method) w.laid given.site chain.h chain.among
        (none_behind b.one b.other b.facts b.plans b.marks from s.g.method old old_is given.site) s.g.item behind.before behind.next behind.kept behind.inserted
        s.f.item (⊎_elim (λ (normal : IsNormalEdge old j s.f.item). normal.inside) (λ (caught : IsHandlerEdge old j s.f.item). caught.inside) edge) at)
    among_given (InMethod j old old_is w was (GoesByJump jump mark) edge stands) =
        let same : code ≡ old = same_Some code old (sym s.reached.code_is ∙ old_is) in
        absurd (no_jump w.calls old plan w.new (own_marks b.marks s.g.method) w.laid given.site chain.h chain.among
        (none_behind b.one b.other b.facts b.plans b.marks from s.g.method old old_is given.site) s.g.item behind.before behind.next behind.kept behind.inserted
        (subst (λ (c : Code). given.site + 1 < length c.items) same more) (w.laid.entries s.f.item) jump)
    among_given (Begins old_first first_item empty width begun) = let place = behind.next in absurd (omega (arith, place, first_item))
    among_given (Resumes stands is above are) = absurd (none-some s.f.item (sym behind.inserted ∙ is))

    pub given_collected : IsCollected b z depth class birth
    given_collected =
        let is_chain = flag plan chain.h chain.holder chain.holder_is chain.looped in
        let born = has_born false following.areas.store (word_at s.g.stack 0) birth orderly gives in
        let both = s.paired.areas.store.births in
        let last = births_then in
        let count : length s.below ≡ depth = ap length (sym callers_are) ∙ given.below in
        subst (λ n. IsCollected b z n class birth) count
        (top_then class birth (omega (arith, born, both, last)) (record {
          h = chain.h;
          holder = chain.holder;
          holder_is = chain.holder_is;
          looped = chain.looped;
          class_is = class_there;
          has = subst (λ (l : Bool). Has l middle.store (holder_value code values chain.h) birth) is_chain
              (forth.gets chain.h birth (among_given s.go.top) is_chain gives);
        }))
