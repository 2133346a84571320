-- Frames have what the checker knows where the frame on top goes on, and where an exception is
-- caught.
use Rattle.std.proofs.Common.{◌≡◌, ◌≢◌, ℕ, zero, suc, ◌+◌, ◌<◌, ◌≤◌, ◌&&◌, not, Bool, true, false, cond, List, [], ◌∷◌, length, nat_le, nat_lt, Option, Some, None, option_and_then, is_some, refl, sym, ◌∙◌, ap, subst, inl, inr, slice_index_or, arith, ⊎_elim}
use Rattle.std.specs.List.{AllByRecursion}
use Rattle.std.proofs.lemmas.Bool.{and_parts, cases_eq, false≢true}
use Rattle.std.proofs.lemmas.Bool.Decides.{nat_tests}
use Rattle.std.proofs.lemmas.Option.{same_Some}
use Rattle.fm_base.proofs.OptionFacts.{IsSomeAnd-at_some, IsSomeAnd-from_some, option_and_then-some, Some-from_some_and}
use Rattle.fm_base.specs.declared.kinds.TypeRef.{TypeRef}
use Rattle.fm_code.proofs.EdgesLemmas.{insn_inside}
use Rattle.fm_code.specs.Edges.{falls_through, insn_of, IsNormalEdge, IsReachable, LeadsTo}
use Rattle.fm_code.specs.SpellsCode.{targets_of}
use Rattle.fm_code.specs.declared.code_array.Code.{Code}
use Rattle.fm_code.specs.declared.code_array.Handler.{Handler}
use Rattle.fm_code.specs.declared.instructions.Insn.{Insn}
use Rattle.fm_types.proofs.RowOrder.{rows-keep_whole}
use Rattle.fm_types.specs.Fits.{AreTree}
use Rattle.fm_types.specs.Rows.{row_after}
use Rattle.fm_types.specs.States.{is_whole, state_fits, TypeState}
use Rattle.fm_types.specs.Typed.{after_item, caught_type, FitsAt, FitsHandler, handler_state, IsTypingOf, made_at, MeetsItem, state_at, use_by}
use Rattle.fm_world.specs.Members.{method_at}
use Rattle.fm_world.specs.Programs.{code_at, Program}
use Rattle.fm_frames.specs.Acts.{same_cell}
use Rattle.fm_frames.specs.Effects.{Effect, Falls, Jumps, JumpsIfSame, Next}
use Rattle.fm_frames.specs.States.{Areas, Frame, State, word_at}
use Rattle.fm_frames.specs.Steps as steps
use Rattle.fm_frames.specs.Steps.{catches, caught, Caught, caught_in, continued, handler_among, handler_of, InFrames, is_start, Leaves, target_at}
use Rattle.fm_frames.specs.declared.ends.Ended.{Ended}
use Rattle.fm_frames.specs.declared.ends.Ended.TheVariants as end
use Rattle.fm_frames.specs.declared.values.Value.{Value}
use Rattle.fm_types.specs.Named.{class_of_method}
use Rattle.fm_law_sound.specs.Going.{IsGoingOn, StandsAtRow}
use Rattle.fm_law_sound.specs.Leading.{LeadsAs, LeavesAs, sources_of}
use Rattle.fm_law_sound.specs.Sound.{AreTyped, Calling, FrameHasKinds, HaveKinds, IsReference, Stand, StandBelow, Starting, StandsWithout, static_slots, Typings}
use Rattle.fm_law_sound.proofs.KindLemmas.{kinds_along}

-- ---- the frames below

-- they are below any frame of the same method alike
calling_same : (p : Program) (typings : Typings) (f other g : Frame) → f.method ≡ other.method → Calling p typings f g → Calling p typings other g
calling_same p typings f other g same h = record {
  called = h.called;
  at = h.at;
  named = h.named;
  names = h.names;
  same_name = ap (λ m. (method_at p.outline.classes m).method.name) (sym same) ∙ h.same_name;
  same_descriptor = ap (λ m. (method_at p.outline.classes m).method.descriptor) (sym same) ∙ h.same_descriptor;
  is_no_start = ap (λ m. is_start p.outline m) (sym same) ∙ h.is_no_start;
  words = h.words;
  takes = h.takes;
  stands = h.stands;
}

pub below_same : (p : Program) (typings : Typings) (f other : Frame) (callers : List Frame) → f.method ≡ other.method → StandBelow p typings f callers
    → StandBelow p typings other callers
below_same p typings f other [] same h = sym same ∙ h
below_same p typings f other (g ∷ callers) same h = (
  ⊎_elim
      (λ (call : Calling p typings f g). inl (calling_same p typings f other g same call))
      (λ (start : Starting p typings f g). inr (record { starts = ap (λ m. is_start p.outline m) (sym same) ∙ start.starts; stands = start.stands }))
      h.0,
  h.1,
)

-- ---- typings

pub typing_of : (p : Program) (typings : Typings) → AreTyped p typings → (method : ℕ) (code : Code) → code_at p method ≡ Some code
    → IsTypingOf p method code (typings method)
typing_of p typings typed method code is =
    IsSomeAnd-at_some (code_at p method) (λ other. IsTypingOf p method other (typings method)) code is (typed method code is)

-- an item that meets its row: the instruction that is there, and the state after it
pub record MetRow (p : Program) (f : Frame) (code : Code) (known : TypeState) : Type 0 where
  pub insn : Insn
  pub after : TypeState
  pub insn_is : insn_of code f.item ≡ Some insn
  pub row : row_after p.outline f.method f.item (made_at p f.method code) (use_by p f.method insn) insn known ≡ Some after

pub met_row : (p : Program) (typings : Typings) (f : Frame) (code : Code) (known : TypeState) → MeetsItem p f.method code (typings f.method) f.item known
    → MetRow p f code known
met_row p typings f code known meets =
    let found = Some-from_some_and (after_item p f.method code f.item known)
    (λ given. (next : ℕ) → IsNormalEdge code f.item next → FitsAt p (typings f.method) next given) meets.row in
    let parts = option_and_then-some
    (λ other. row_after p.outline f.method f.item (made_at p f.method code) (use_by p f.method other) other known) (insn_of code f.item) found.0 found.1 in
    record { insn = parts.0; after = found.0; insn_is = parts.1; row = parts.2 }

-- the same where the instruction is known
pub met_row_of : (p : Program) (typings : Typings) (f : Frame) (code : Code) (known : TypeState) → MeetsItem p f.method code (typings f.method) f.item known
    → (i : Insn) → insn_of code f.item ≡ Some i
    → (after : TypeState) × (row_after p.outline f.method f.item (made_at p f.method code) (use_by p f.method i) i known ≡ Some after)
met_row_of p typings f code known meets i is =
    let met = met_row p typings f code known meets in (
      met.after,
      subst (λ j. row_after p.outline f.method f.item (made_at p f.method code) (use_by p f.method j) j known ≡ Some met.after)
          (same_Some met.insn i (sym met.insn_is ∙ is)) met.row,
    )

-- what is brought to an item with its kinds has what the checker knows there
pub fits_stands : (p : Program) (typings : Typings) → AreTyped p typings → (method : ℕ) (code : Code) → code_at p method ≡ Some code
    → (item : ℕ) (brought : TypeState) → is_whole brought.stack ≡ true → FitsAt p (typings method) item brought
    → (locals stack : List Value) → FrameHasKinds brought locals stack
    → StandsWithout p typings 0 (record { method = method; item = item; locals = locals; stack = stack })
fits_stands p typings typed method code is item brought whole fits_at locals stack kinds =
    let typing : IsTypingOf p method code (typings method) = typing_of p typings typed method code is in
    let found = Some-from_some_and (state_at (typings method) item) (λ s. state_fits p.outline brought s ≡ true) fits_at in
    let meets : MeetsItem p method code (typings method) item found.0 = typing.items item found.0 found.1 in
    let now : FrameHasKinds found.0 locals stack = kinds_along p.outline brought found.0 whole meets.whole found.2 locals stack kinds in
    record { code = code; code_is = is; known = found.0; at = found.1; locals = now.in_locals; stack = now.in_stack }

-- ---- in the frame

abbrev pub target_in : ℕ → ℕ → Option Insn → ℕ
target_in n item None = item
target_in n item (Some i) = slice_index_or (targets_of i) n item

pub target_is : (p : Program) (f : Frame) (n : ℕ) (code : Code) (i : Insn) → code_at p f.method ≡ Some code → insn_of code f.item ≡ Some i
    → target_at p f n ≡ slice_index_or (targets_of i) n f.item
target_is p f n code i code_is insn_is =
    ap (target_in n f.item) (ap (λ o. option_and_then (λ (c : Code). insn_of c f.item) o) code_is ∙ insn_is)

all_at : (P : ℕ → Type 0) (xs : List ℕ) (n d : ℕ) → AllByRecursion P xs → n < length xs → P (slice_index_or xs n d)
all_at P [] n d h within = absurd (omega (arith, within))
all_at P (x ∷ xs) zero d h within = h.0
all_at P (x ∷ xs) (suc n) d h within = all_at P xs n d h.1 (omega (arith, within))

same_default : (xs : List ℕ) (n d e : ℕ) → n < length xs → slice_index_or xs n d ≡ slice_index_or xs n e
same_default [] n d e within = absurd (omega (arith, within))
same_default (x ∷ xs) zero d e within = refl
same_default (x ∷ xs) (suc n) d e within = same_default xs n d e (omega (arith, within))

module _ (p : Program) (typings : Typings) (tree : AreTree p.outline.classes) (typed : AreTyped p typings) (f : Frame) (i : Insn) (after : TypeState) (h : StandsAtRow p typings f i after) where
  pub typing : IsTypingOf p f.method h.code (typings f.method)
  typing = typing_of p typings typed f.method h.code h.code_is

  pub reached : IsReachable h.code f.item
  reached = (typing.reachable f.item).0 (ap is_some h.at)

  pub meets : MeetsItem p f.method h.code (typings f.method) f.item h.known
  meets = typing.items f.item h.known h.at

  pub after_whole : is_whole after.stack ≡ true
  after_whole =
      rows-keep_whole p.outline tree f.method f.item (made_at p f.method h.code) (use_by p f.method i) i h.known after meets.whole h.row

  -- the row's state fits the one at the end of each edge
  pub edge_fits : (next : ℕ) → IsNormalEdge h.code f.item next → FitsAt p (typings f.method) next after
  edge_fits next edge =
      let is : after_item p f.method h.code f.item h.known ≡ Some after =
      ap (λ o. option_and_then (λ other. row_after p.outline f.method f.item (made_at p f.method h.code) (use_by p f.method other) other h.known) o) h.insn_is
      ∙ h.row in
      IsSomeAnd-at_some (after_item p f.method h.code f.item h.known)
      (λ given. (to : ℕ) → IsNormalEdge h.code f.item to → FitsAt p (typings f.method) to given) after is meets.row next edge

  pub next_edge : falls_through i ≡ true → IsNormalEdge h.code f.item (f.item + 1)
  next_edge falls = record {
    inside = ⊎_elim
        (λ (last : f.item + 1 ≡ length h.code.items).
        absurd (typing.stays_inside (record {
          item = f.item;
          reachable = reached;
          last = last;
          falls = IsSomeAnd-from_some (insn_of h.code f.item) (λ other. falls_through other ≡ true) i h.insn_is falls;
        })))
        (λ (apart : f.item + 1 ≢ length h.code.items). let within = insn_inside h.code f.item i h.insn_is in omega (arith, within, apart))
        (cases_eq (f.item + 1) (length h.code.items));
    leads = IsSomeAnd-from_some (insn_of h.code f.item) (λ other. LeadsTo other f.item (f.item + 1)) i h.insn_is (inr (falls, refl));
  }

  pub target_edge : (n : ℕ) → n < length (targets_of i) → IsNormalEdge h.code f.item (target_at p f n)
  target_edge n within =
      let is : target_at p f n ≡ slice_index_or (targets_of i) n f.item = target_is p f n h.code i h.code_is h.insn_is in
      record {
        inside = subst (λ t. t < length h.code.items) (sym is)
            (all_at (λ target. target < length h.code.items) (targets_of i) n f.item h.targets within);
        leads = IsSomeAnd-from_some (insn_of h.code f.item) (λ other. LeadsTo other f.item (target_at p f n)) i h.insn_is
            (inl (n, within, same_default (targets_of i) n _ f.item within ∙ sym is));
      }

module _ (p : Program) (typings : Typings) (tree : AreTree p.outline.classes) (typed : AreTyped p typings) (f : Frame) (callers : List Frame) (i : Insn) (after : TypeState) (h : StandsAtRow p typings f i after) (below : StandBelow p typings f callers) (e : Effect) (areas : Areas) (made : List ℕ) (statics : HaveKinds (static_slots p.outline) areas.statics) where
  goes_stand : (next : ℕ) → IsNormalEdge h.code f.item next → LeavesAs p.outline after f e
      → Stand p typings (steps.went (sources_of f areas made) e f next ∷ callers)
  goes_stand next edge leaves = (
    fits_stands p typings typed f.method h.code h.code_is next after (after_whole p typings tree typed f i after h) (edge_fits p typings tree typed f i after h next edge) _ _ (leaves areas made statics),
    below_same p typings f (steps.went (sources_of f areas made) e f next) callers refl below,
  )

  falls_stand : (falls_through i ≡ true) → LeavesAs p.outline after f e → Stand p typings (steps.went (sources_of f areas made) e f (f.item + 1) ∷ callers)
  falls_stand falls leaves = goes_stand (f.item + 1) (next_edge p typings tree typed f i after h falls) leaves

  jumps_stand : (n : ℕ) → n < length (targets_of i) → LeavesAs p.outline after f e
      → Stand p typings (steps.went (sources_of f areas made) e f (target_at p f n) ∷ callers)
  jumps_stand n within leaves = goes_stand (target_at p f n) (target_edge p typings tree typed f i after h n within) leaves

  either_stands : (b : Bool) (one other : ℕ) → Stand p typings (steps.went (sources_of f areas made) e f one ∷ callers)
      → Stand p typings (steps.went (sources_of f areas made) e f other ∷ callers)
      → Stand p typings (steps.went (sources_of f areas made) e f (cond b one other) ∷ callers)
  either_stands true one other first second = first
  either_stands false one other first second = second

  -- the frames after what comes next, where the frame goes on
  abbrev frames_after : Next → List Frame → List Frame
  frames_after Falls others = steps.went (sources_of f areas made) e f (f.item + 1) ∷ callers
  frames_after (Jumps n) others = steps.went (sources_of f areas made) e f (target_at p f n) ∷ callers
  frames_after (JumpsIfSame same) others =
      let is_same = same_cell (word_at f.stack 0) (word_at f.stack 1) in
      steps.went (sources_of f areas made) e f (cond (cond same is_same (not is_same)) (target_at p f 0) (f.item + 1)) ∷ callers
  frames_after next others = others

  after_stand : (next : Next) (others : List Frame) → IsGoingOn next → LeadsAs p.outline i after f e next → Stand p typings (frames_after next others)
  after_stand Falls others going leads = falls_stand leads.0 leads.1
  after_stand (Jumps n) others going leads = jumps_stand n leads.0 leads.1
  after_stand (JumpsIfSame same) others going leads =
      let is_same = same_cell (word_at f.stack 0) (word_at f.stack 1) in
      either_stands (cond same is_same (not is_same)) (target_at p f 0) (f.item + 1) (jumps_stand 0 leads.0 leads.2) (falls_stand leads.1 leads.2)
  after_stand next others going leads = absurd going

  going_case : (next : Next) (x : State) → IsGoingOn next → LeadsAs p.outline i after f e next
      → Stand p typings (continued p (sources_of f areas made) (record e { next = next }) f callers x).frames
  unfolding continued
  going_case Falls x going leads = after_stand Falls [] going leads
  going_case (Jumps n) x going leads = after_stand (Jumps n) [] going leads
  going_case (JumpsIfSame same) x going leads = after_stand (JumpsIfSame same) [] going leads
  going_case next x going leads = absurd going

pub going_stand : (p : Program) (typings : Typings) → AreTree p.outline.classes → AreTyped p typings
    → (f : Frame) (callers : List Frame) (i : Insn) (after : TypeState) → StandsAtRow p typings f i after → StandBelow p typings f callers
    → (e : Effect) → IsGoingOn e.next → LeadsAs p.outline i after f e e.next
    → (areas : Areas) (made : List ℕ) → HaveKinds (static_slots p.outline) areas.statics
    → (x : State) → Stand p typings (continued p (sources_of f areas made) e f callers x).frames
going_stand p typings tree typed f callers i after h below e going leads areas made statics x =
    going_case p typings tree typed f callers i after h below e areas made statics e.next x going leads

-- ---- an exception that is caught

pub catches_range : (p : Program) (f : Frame) (t : TypeRef) (h : Handler) → catches p f t h ≡ true → (h.start ≤ f.item) × (f.item < h.end)
catches_range p f t h is =
    let outer = and_parts (nat_le h.start f.item && nat_lt f.item h.end) _ is in
    let inner = and_parts (nat_le h.start f.item) (nat_lt f.item h.end) outer.0 in
    let first = inner.0 in let second = inner.1 in (grind (arith, nat_tests, first), grind (arith, nat_tests, second))

-- the handler takes what the item brings
takes_caught : (p : Program) (typings : Typings) (f : Frame) (s : TypeState) (t : TypeRef) (handlers : List Handler) (item : ℕ)
    → AllByRecursion (FitsHandler p f.method (typings f.method) f.item s) handlers → handler_among p f t handlers ≡ Some item
    → (type : TypeRef) × FitsAt p (typings f.method) item (handler_state type s)
takes_caught p typings f s t [] item fits_each is = absurd (cc)
takes_caught p typings f s t (entry ∷ handlers) item fits_each is =
    by_test (catches p f t entry) refl (λ found. takes_caught p typings f s t handlers item fits_each.1 found) is where
      by_test : (b : Bool) → catches p f t entry ≡ b
          → (handler_among p f t handlers ≡ Some item → (type : TypeRef) × FitsAt p (typings f.method) item (handler_state type s))
          → cond b (Some entry.handler) (handler_among p f t handlers) ≡ Some item
          → (type : TypeRef) × FitsAt p (typings f.method) item (handler_state type s)
      by_test true catching later found =
          let range = catches_range p f t entry catching in
          let takes = Some-from_some_and (caught_type p f.method entry) (λ type. FitsAt p (typings f.method) entry.handler (handler_state type s))
          (fits_each.0 (record { after_start = range.0; before_end = range.1; handler_is = refl })) in
          (takes.0, subst (λ j. FitsAt p (typings f.method) j (handler_state takes.0 s)) (same_Some entry.handler item found) takes.2)
      by_test false catching later found = later found

pub not_left : (b : Bool) (e : Ended) (below : Caught) (after : List Frame) {A : Type 0} → (b ≡ false → below ≡ InFrames after → A)
    → cond b (Leaves e) below ≡ InFrames after → A
not_left true e below after rest left = absurd (cc)
not_left false e below after rest left = rest refl left

module _ (p : Program) (typings : Typings) (typed : AreTyped p typings) (t : TypeRef) (v : Value) (reference : IsReference v) where
  catching_stands : (f : Frame) (words handler : ℕ) → StandsWithout p typings words f → handler_of p f t ≡ Some handler
      → StandsWithout p typings 0 (record f { item = handler; stack = v ∷ [] })
  catching_stands f words handler stands found =
      let typing : IsTypingOf p f.method stands.code (typings f.method) = typing_of p typings typed f.method stands.code stands.code_is in
      let meets : MeetsItem p f.method stands.code (typings f.method) f.item stands.known = typing.items f.item stands.known stands.at in
      let among : handler_among p f t stands.code.handlers ≡ Some handler =
      sym (ap (λ o. option_and_then (λ (c : Code). handler_among p f t c.handlers) o) stands.code_is) ∙ found in
      let takes = takes_caught p typings f stands.known t stands.code.handlers handler meets.handlers among in
      fits_stands p typings typed f.method stands.code stands.code_is handler (handler_state takes.0 stands.known) refl takes.1 f.locals (v ∷ [])
      (record { in_locals = stands.locals; in_stack = (reference, tt) })

  caught_one : (f : Frame) (callers : List Frame) (words : ℕ) → StandsWithout p typings words f → StandBelow p typings f callers
      → (found : Option ℕ) → handler_of p f t ≡ found → (others : Caught) (after : List Frame)
      → (is_start p.outline f.method ≡ false → others ≡ InFrames after → Stand p typings after)
      → caught_in p v f callers found others ≡ InFrames after → Stand p typings after
  caught_one f callers words stands below (Some handler) found others after rest is =
      let same : record f { item = handler; stack = v ∷ [] } ∷ callers ≡ after = cc in
      subst (λ frames. Stand p typings frames) same (
        catching_stands f words handler stands found,
        below_same p typings f (record f { item = handler; stack = v ∷ [] }) callers refl below,
      )
  caught_one f callers words stands below None found others after rest is =
      not_left (is_start p.outline f.method) (end.InitFailed (record { 0 = class_of_method p.outline f.method })) others after rest is

  pub all_caught : (f : Frame) (callers : List Frame) (words : ℕ) → StandsWithout p typings words f → StandBelow p typings f callers
      → (after : List Frame) → caught p t v (f ∷ callers) ≡ InFrames after → Stand p typings after
  unfolding caught
  all_caught f [] words stands below after is =
      caught_one f [] words stands below (handler_of p f t) refl (caught p t v []) after (λ no_start left. absurd (cc)) is
  all_caught f (g ∷ callers) words stands below after is =
      caught_one f (g ∷ callers) words stands below (handler_of p f t) refl (caught p t v (g ∷ callers)) after
      (λ no_start rest. ⊎_elim
      (λ (call : Calling p typings f g). all_caught g callers call.words call.stands below.1 after rest)
      (λ (start : Starting p typings f g). absurd (false≢true (sym no_start ∙ start.starts)))
      below.0)
      is

pub caught_stand : (p : Program) (typings : Typings) → AreTyped p typings
    → (f : Frame) (callers : List Frame) (words : ℕ) → StandsWithout p typings words f → StandBelow p typings f callers
    → (t : TypeRef) (v : Value) → IsReference v → (frames : List Frame) → caught p t v (f ∷ callers) ≡ InFrames frames → Stand p typings frames
caught_stand p typings typed f callers words stands below t v reference frames is =
    all_caught p typings typed t v reference f callers words stands below frames is
