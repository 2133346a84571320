-- Frames stay whole where the frame on top goes on, and where methods begin.
use Rattle.std.proofs.Common.{◌≡◌, ℕ, zero, suc, ◌+◌, ◌-◌, not, Bool, true, false, cond, List, [], ◌∷◌, ◌++◌, length, replicate, Option, Some, sym, ◌∙◌, ap, subst}
use Rattle.std.specs.List.{AllByRecursion, AllZip}
use Rattle.std.proofs.lemmas.Option.{same_Some}
use Rattle.std.proofs.lemmas.Slice.Zip.{AllZip-long}
use Rattle.fm_base.proofs.OptionFacts.{Some-from_some_and}
use Rattle.fm_base.specs.declared.kinds.TypeRef.{TypeRef}
use Rattle.fm_cells.specs.Stores.{Store}
use Rattle.fm_code.specs.Edges.{IsNormalEdge}
use Rattle.fm_code.specs.declared.code_array.Code.{Code}
use Rattle.fm_code.specs.declared.instructions.Insn.{Insn}
use Rattle.fm_types.specs.Fits.{AreTree}
use Rattle.fm_types.specs.Named.{this_class}
use Rattle.fm_types.specs.States.{is_whole, state_fits, TypeState}
use Rattle.fm_types.specs.Typed.{entry_slots, entry_state, FitsAt, IsTypingOf, made_at, MeetsItem, state_at}
use Rattle.fm_types.specs.declared.slots.Slot.{Slot}
use Rattle.fm_types.specs.declared.slots.Slot.TheVariants as slot
use Rattle.fm_types.proofs.Zips.{zip-implied, zip-append}
use Rattle.fm_world.specs.Programs.{code_at, Outline, Program}
use Rattle.fm_frames.specs.Acts.{same_cell}
use Rattle.fm_frames.specs.Effects.{Effect, Falls, Jumps, JumpsIfSame, Next}
use Rattle.fm_frames.specs.States.{Areas, Frame, State, word_at}
use Rattle.fm_frames.specs.Steps as steps
use Rattle.fm_frames.specs.Steps.{continued, max_locals_of, new_frame, stack_after, start_frames, target_at, written}
use Rattle.fm_frames.specs.declared.values.Value.{Value}
use Rattle.fm_frames.specs.declared.values.Value.TheVariants as value
use Rattle.fm_law_sound.specs.Going.{IsGoingOn, StandsAtRow, StartsClass}
use Rattle.fm_law_sound.specs.Leading.{LeadsAs, sources_of}
use Rattle.fm_law_sound.specs.Sound.{AreTyped, Typings}
use Rattle.fm_law_sound.proofs.CallsStand.{max_locals_in}
use Rattle.fm_law_sound.proofs.FramesStand.{after_whole, edge_fits, next_edge, target_edge, typing_of}
use Rattle.fm_law_sound.proofs.KindLemmas.{as_local}
use Rattle.fm_law_no_fault.specs.Whole.{FrameFits, FrameIsWhole, LocalFits, WordFits}
use Rattle.fm_law_no_fault.proofs.SlotsFit.{frame_along}

-- what fits a state of an item fits it by whatever way the item's state and the method's code are
-- given
known_whole : (p : Program) (typings : Typings) (store : Store) (f : Frame) (code : Code) (known : TypeState) → code_at p f.method ≡ Some code
    → state_at (typings f.method) f.item ≡ Some known
    → FrameFits p.outline store (this_class p.outline f.method) (made_at p f.method code) known f.locals f.stack → FrameIsWhole p typings store f
known_whole p typings store f code known code_is at h other found other_is there =
    let same_code : code ≡ other = same_Some code other (sym code_is ∙ other_is) in
    let same_state : known ≡ found = same_Some known found (sym at ∙ there) in
    subst (λ c. FrameFits p.outline store (this_class p.outline f.method) (made_at p f.method c) found f.locals f.stack) same_code
    (subst (λ s. FrameFits p.outline store (this_class p.outline f.method) (made_at p f.method code) s f.locals f.stack) same_state h)

-- ---- along an edge

-- what is brought to an item, and fits, is whole there
pub brought_whole : (p : Program) (typings : Typings) → AreTree p.outline.classes → AreTyped p typings → (store : Store) (f : Frame) (code : Code)
    → code_at p f.method ≡ Some code → (brought : TypeState) → is_whole brought.stack ≡ true → FitsAt p (typings f.method) f.item brought
    → FrameFits p.outline store (this_class p.outline f.method) (made_at p f.method code) brought f.locals f.stack → FrameIsWhole p typings store f
brought_whole p typings tree typed store f code is brought whole fits_at h =
    let typing : IsTypingOf p f.method code (typings f.method) = typing_of p typings typed f.method code is in
    let found = Some-from_some_and (state_at (typings f.method) f.item) (λ s. state_fits p.outline brought s ≡ true) fits_at in
    let meets : MeetsItem p f.method code (typings f.method) f.item found.0 = typing.items f.item found.0 found.1 in
    known_whole p typings store f code found.0 is found.1
    (frame_along p.outline tree store (this_class p.outline f.method) (made_at p f.method code) brought found.0 whole meets.whole found.2 f.locals f.stack h)

module _ (p : Program) (typings : Typings) (tree : AreTree p.outline.classes) (typed : AreTyped p typings) (f : Frame) (callers : List Frame) (i : Insn) (after : TypeState) (h : StandsAtRow p typings f i after) (e : Effect) (areas : Areas) (made : List ℕ) (fits : FrameFits p.outline areas.store (this_class p.outline f.method) (made_at p f.method h.code) after (written (sources_of f areas made) e.writes f.locals) (stack_after (sources_of f areas made) e f.stack)) (below : AllByRecursion (FrameIsWhole p typings areas.store) callers) where
  goes_whole : (next : ℕ) → IsNormalEdge h.code f.item next
      → AllByRecursion (FrameIsWhole p typings areas.store) (steps.went (sources_of f areas made) e f next ∷ callers)
  goes_whole next edge = (
    brought_whole p typings tree typed areas.store (steps.went (sources_of f areas made) e f next) h.code h.code_is after
        (after_whole p typings tree typed f i after h) (edge_fits p typings tree typed f i after h next edge) fits,
    below,
  )

  either_whole : (b : Bool) (one other : ℕ) → AllByRecursion (FrameIsWhole p typings areas.store) (steps.went (sources_of f areas made) e f one ∷ callers)
      → AllByRecursion (FrameIsWhole p typings areas.store) (steps.went (sources_of f areas made) e f other ∷ callers)
      → AllByRecursion (FrameIsWhole p typings areas.store) (steps.went (sources_of f areas made) e f (cond b one other) ∷ callers)
  either_whole true one other first second = first
  either_whole false one other first second = second

  going_case : (next : Next) (x : State) → IsGoingOn next → LeadsAs p.outline i after f e next
      → AllByRecursion (FrameIsWhole p typings areas.store) (continued p (sources_of f areas made) (record e { next = next }) f callers x).frames
  unfolding continued
  going_case Falls x going leads = goes_whole (f.item + 1) (next_edge p typings tree typed f i after h leads.0)
  going_case (Jumps n) x going leads = goes_whole (target_at p f n) (target_edge p typings tree typed f i after h n leads.0)
  going_case (JumpsIfSame same) x going leads =
      let is_same = same_cell (word_at f.stack 0) (word_at f.stack 1) in
      either_whole (cond same is_same (not is_same)) (target_at p f 0) (f.item + 1)
      (goes_whole (target_at p f 0) (target_edge p typings tree typed f i after h 0 leads.0))
      (goes_whole (f.item + 1) (next_edge p typings tree typed f i after h leads.1))
  going_case next x going leads = absurd going

pub going_whole : (p : Program) (typings : Typings) → AreTree p.outline.classes → AreTyped p typings
    → (f : Frame) (callers : List Frame) (i : Insn) (after : TypeState) (h : StandsAtRow p typings f i after)
    → (e : Effect) → IsGoingOn e.next → LeadsAs p.outline i after f e e.next → (areas : Areas) (made : List ℕ)
    → FrameFits p.outline areas.store (this_class p.outline f.method) (made_at p f.method h.code) after
    (written (sources_of f areas made) e.writes f.locals) (stack_after (sources_of f areas made) e f.stack)
    → AllByRecursion (FrameIsWhole p typings areas.store) callers
    → (x : State) → AllByRecursion (FrameIsWhole p typings areas.store) (continued p (sources_of f areas made) e f callers x).frames
going_whole p typings tree typed f callers i after h e going leads areas made fits below x =
    going_case p typings tree typed f callers i after h e areas made fits below e.next x going leads

-- ---- the first item of a method

module _ (o : Outline) (store : Store) (own : ℕ) (news : ℕ → Option TypeRef) where
  as_local_fits : (s : Slot) (v : Value) → WordFits o store own news s v → LocalFits o store own news s v
  as_local_fits s v h = record { kind = as_local s v h.kind; cell = h.cell }

  no_values : (n : ℕ) → AllZip (LocalFits o store own news) (replicate n slot.Top) (replicate n value.Top)
  no_values zero = tt
  no_values (suc n) = (record { kind = tt; cell = tt }, no_values n)

module _ (p : Program) (typings : Typings) (typed : AreTyped p typings) (store : Store) where
  pub new_whole : (method : ℕ) (code : Code) (arguments : List Value) → code_at p method ≡ Some code
      → AllZip (WordFits p.outline store (this_class p.outline method) (made_at p method code)) (entry_slots p.outline method) arguments
      → FrameIsWhole p typings store (new_frame p method arguments)
  unfolding entry_state
  new_whole method code arguments is h =
      let own : ℕ = this_class p.outline method in
      let news : ℕ → Option TypeRef = made_at p method code in
      let slots : List Slot = entry_slots p.outline method in
      let typing : IsTypingOf p method code (typings method) = typing_of p typings typed method code is in
      let count : length slots ≡ length arguments = sym (AllZip-long (WordFits p.outline store own news) slots arguments h) in
      let max : max_locals_of p method ≡ code.max_locals = ap max_locals_in is in
      let rest : code.max_locals - length slots ≡ max_locals_of p method - length arguments =
      ap (λ n. code.max_locals - n) count ∙ ap (λ m. m - length arguments) (sym max) in
      known_whole p typings store (new_frame p method arguments) code (entry_state p.outline method code) is typing.first
      (record {
        in_locals = zip-append (LocalFits p.outline store own news) slots arguments (replicate (code.max_locals - length slots) slot.Top)
            (replicate (max_locals_of p method - length arguments) value.Top)
            (zip-implied (WordFits p.outline store own news) (LocalFits p.outline store own news) (as_local_fits p.outline store own news) slots arguments h)
            (subst (λ n. AllZip (LocalFits p.outline store own news) (replicate (code.max_locals - length slots) slot.Top) (replicate n value.Top)) rest
            (no_values p.outline store own news (code.max_locals - length slots)));
        in_stack = tt;
      })

  pub started_whole : (methods : List ℕ) → AllByRecursion (StartsClass p) methods → (frames : List Frame)
      → AllByRecursion (FrameIsWhole p typings store) frames → AllByRecursion (FrameIsWhole p typings store) (start_frames p methods ++ frames)
  started_whole [] each frames below = below
  started_whole (m ∷ methods) each frames below = (
    new_whole m each.0.code [] each.0.code_is
        (subst (λ slots. AllZip (WordFits p.outline store (this_class p.outline m) (made_at p m each.0.code)) slots []) (sym each.0.no_arguments) tt),
    started_whole methods each.1 frames below,
  )
