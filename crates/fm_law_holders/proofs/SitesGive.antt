-- What a site gives is new: where its instruction goes on to the next item, and where the method that it called returns.
use Rattle.std.proofs.Common.{◌≡◌, ◌≢◌, ℕ, ◌+◌, ◌-◌, ◌&&◌, ◌||◌, not, Bool, true, false, cond, List, ◌++◌, length, drop, Option, Some, None, option_and_then, IsSomeAnd, refl, sym, ◌∙◌, ap, subst, inl, slice_get, arith, length-append}
use Rattle.std.specs.Prelude.{is_some}
use Rattle.std.specs.List.{AllZip}
use Rattle.std.proofs.lemmas.Bool.{and_parts, false≢true}
use Rattle.std.proofs.lemmas.List.{length-drop}
use Rattle.std.proofs.lemmas.List.Elements.{length_all_zip}
use Rattle.std.proofs.lemmas.Option.{same_Some}
use Rattle.std.proofs.lemmas.Slice.Zip.{AllZip-long}
use Rattle.fm_base.proofs.OptionFacts.{IsSomeAnd-from_some, Some-from_some_and}
use Rattle.fm_code.specs.AccessFlags.{is_static}
use Rattle.fm_code.specs.Edges.{falls_through, insn_of, IsNormalEdge}
use Rattle.fm_code.specs.Live.{stores_over}
use Rattle.fm_code.specs.declared.code_array.Code.{Code}
use Rattle.fm_code.specs.declared.instructions.Insn.{Insn}
use Rattle.fm_code.specs.declared.instructions.Insn.TheVariants as insn
use Rattle.fm_conn.specs.Facts.{AreFacts, Facts}
use Rattle.fm_conn.specs.Links.{typed_method}
use Rattle.fm_conn.specs.Nodes.{TypedMethod}
use Rattle.fm_conn.specs.Pairs.{call_of, use_at}
use Rattle.fm_conn.specs.Rows.{words_taken}
use Rattle.fm_types.proofs.StateOrder.{all_fit-parts, Fitting}
use Rattle.fm_types.specs.Rows.{row_after}
use Rattle.fm_types.specs.States.{all_fit, state_fits, TypeState}
use Rattle.fm_types.specs.Typed.{FitsAt, IsTypingOf, made_at, MeetsItem, state_at, use_by}
use Rattle.fm_types.specs.declared.slots.Slot.{Slot}
use Rattle.fm_types.specs.declared.slots.Slot.TheVariants as slot
use Rattle.fm_base.specs.declared.ids.MethodId.{MethodId}
use Rattle.fm_base.specs.declared.ids.TypeId.{TypeId}
use Rattle.fm_world.specs.Causes.{static_method_wanted}
use Rattle.fm_world.specs.Members.{method_at}
use Rattle.fm_world.specs.Programs.{code_at, Outline, Program}
use Rattle.fm_world.specs.declared.calls.Call.{Call}
use Rattle.fm_world.specs.declared.uses.Use.TheVariants as resolved
use Rattle.fm_frames.specs.Acts.{cell_of}
use Rattle.fm_frames.specs.States.{Frame}
use Rattle.fm_frames.specs.declared.values.Value.{Value}
use Rattle.fm_law_no_fault.proofs.WaitingFrames.{lowest_all}
use Rattle.fm_law_no_fault.specs.Whole.{lowest}
use Rattle.fm_law_sound.proofs.FramesStand.{next_edge}
use Rattle.fm_law_sound.specs.Going.{StandsAtRow}
use Rattle.fm_law_sound.specs.Resolved.{StepsAreResolved}
use Rattle.fm_law_sound.specs.Sound.{AreTyped}
use Rattle.fm_place.specs.Sites.{constructs, Constructs, kind_of_site, makes_array, MakesArray, receives_new, ReceivesNew, site_kind}
use Rattle.fm_same.proofs.EdgesKeep.{call_falls, call_keeps, live_before}
use Rattle.fm_law_holders.proofs.ApartPlaces.{along_elsewhere, LeadsElsewhere, stays_along, words_elsewhere, zip_back, zip_found}
use Rattle.fm_law_holders.proofs.SiteStates.{array_leaves, constructor_leaves, Leaves, LeavesBuilt, LeavesOne, received_leaves, Stays}
use Rattle.fm_law_holders.specs.NewResults.{IsApart, LocalsAreApart}

-- ---- what a site is

pub data KindIs (facts : Facts) (x : TypedMethod) (j : ℕ) (i : Insn) : Type 0 where
  IsArray : makes_array i ≡ true → KindIs facts x j i
  IsConstructor : constructs x j i ≡ true → KindIs facts x j i
  IsFactory : receives_new facts x (call_of x i) ≡ true → KindIs facts x j i

kind_by : (facts : Facts) (x : TypedMethod) (j : ℕ) (i : Insn) → is_some (kind_of_site facts x j i) ≡ true → KindIs facts x j i
kind_by facts x j i is = by_tests (makes_array i) refl (constructs x j i) refl (receives_new facts x (call_of x i)) refl is where
  by_tests : (a : Bool) → makes_array i ≡ a → (b : Bool) → constructs x j i ≡ b → (c : Bool) → receives_new facts x (call_of x i) ≡ c
      → is_some (cond a (Some MakesArray) (cond b (Some Constructs) (cond c (Some ReceivesNew) None))) ≡ true → KindIs facts x j i
  by_tests true first b second c third is = IsArray first
  by_tests false first true second c third is = IsConstructor second
  by_tests false first false second true third is = IsFactory third
  by_tests false first false second false third is = absurd (false≢true is)

-- the instruction of a site
pub site_insn : (facts : Facts) (x : TypedMethod) (j : ℕ) → is_some (site_kind facts x j) ≡ true
    → (i : Insn) × (insn_of x.code j ≡ Some i) × KindIs facts x j i
site_insn facts x j is = by_test (is_some (state_at x.states j)) (insn_of x.code j) refl is where
  by_test : (b : Bool) (found : Option Insn) → insn_of x.code j ≡ found
      → is_some (cond b (option_and_then (kind_of_site facts x j) found) None) ≡ true
      → (i : Insn) × (insn_of x.code j ≡ Some i) × KindIs facts x j i
  by_test true None at is = absurd (false≢true is)
  by_test true (Some i) at is = (i, at, kind_by facts x j i is)
  by_test false found at is = absurd (false≢true is)

array_falls : (i : Insn) → makes_array i ≡ true → falls_through i ≡ true
array_falls (insn.NewArray e) is = refl
array_falls (insn.NewRefs index) is = refl
array_falls (insn.MultiArray index dimensions) is = refl
array_falls i is = absurd (false≢true is)

constructor_falls : (x : TypedMethod) (j : ℕ) (i : Insn) → constructs x j i ≡ true → falls_through i ≡ true
constructor_falls x j (insn.Special index) is = refl
constructor_falls x j i is = absurd (false≢true is)

factory_falls : (facts : Facts) (x : TypedMethod) (i : Insn) (c : Option Call) → call_of x i ≡ c → receives_new facts x c ≡ true → falls_through i ≡ true
factory_falls facts x i None at is = absurd (false≢true is)
factory_falls facts x i (Some c) at is = call_falls x i c at

site_falls : (facts : Facts) (x : TypedMethod) (j : ℕ) (i : Insn) → KindIs facts x j i → falls_through i ≡ true
site_falls facts x j i (IsArray is) = array_falls i is
site_falls facts x j i (IsConstructor is) = constructor_falls x j i is
site_falls facts x j i (IsFactory is) = factory_falls facts x i (call_of x i) refl is

-- and no local is stored over
array_stores : (i : Insn) (k : ℕ) → makes_array i ≡ true → stores_over k i ≡ false
array_stores (insn.NewArray e) k is = refl
array_stores (insn.NewRefs index) k is = refl
array_stores (insn.MultiArray index dimensions) k is = refl
array_stores i k is = absurd (false≢true is)

constructor_stores : (x : TypedMethod) (j : ℕ) (i : Insn) (k : ℕ) → constructs x j i ≡ true → stores_over k i ≡ false
constructor_stores x j (insn.Special index) k is = refl
constructor_stores x j i k is = absurd (false≢true is)

factory_stores : (facts : Facts) (x : TypedMethod) (i : Insn) (k : ℕ) (c : Option Call) → call_of x i ≡ c → receives_new facts x c ≡ true
    → stores_over k i ≡ false
factory_stores facts x i k None at is = absurd (false≢true is)
factory_stores facts x i k (Some c) at is = call_keeps x i c at k

site_stores : (facts : Facts) (x : TypedMethod) (j : ℕ) (i : Insn) (k : ℕ) → KindIs facts x j i → stores_over k i ≡ false
site_stores facts x j i k (IsArray is) = array_stores i k is
site_stores facts x j i k (IsConstructor is) = constructor_stores x j i k is
site_stores facts x j i k (IsFactory is) = factory_stores facts x i k (call_of x i) refl is

fits_parts : (o : Outline) (a b : TypeState) → state_fits o a b ≡ true → AllZip (Fitting o) a.locals b.locals × AllZip (Fitting o) a.stack b.stack
unfolding state_fits
fits_parts o a b fit =
    let outer = and_parts (all_fit o a.locals b.locals && all_fit o a.stack b.stack) (a.built || not b.built) fit in
    let inner = and_parts (all_fit o a.locals b.locals) (all_fit o a.stack b.stack) outer.0 in
    (all_fit-parts o a.locals b.locals inner.0, all_fit-parts o a.stack b.stack inner.1)

-- ---- a site of a typed method

-- the words that it leaves, by its kind
pub data SiteLeaves (facts : Facts) (x : TypedMethod) (j : ℕ) (i : Insn) (s after : TypeState) (count : ℕ) : Type 0 where
  ArrayLeaves : makes_array i ≡ true → LeavesOne s after count → SiteLeaves facts x j i s after count
  FactoryLeaves : receives_new facts x (call_of x i) ≡ true → LeavesOne s after count → SiteLeaves facts x j i s after count
  ConstructorLeaves : constructs x j i ≡ true → LeavesBuilt s after count → SiteLeaves facts x j i s after count

module _ (p : Program) (facts : Facts) (exact : AreFacts p facts) (steps : StepsAreResolved p) (f : Frame) (code : Code) (code_is : code_at p f.method ≡ Some code) (known : TypeState) (at : state_at (facts.typing f.method) f.item ≡ Some known) where
  abbrev pub x : TypedMethod
  x = typed_method p facts.typing f.method code

  abbrev pub count_of : Insn → ℕ
  count_of i = words_taken p.outline (use_by p f.method i) i

  -- its instruction, and the states that it leads to
  pub record SiteFacts : Type 0 where
    pub insn : Insn
    pub insn_is : insn_of code f.item ≡ Some insn
    pub after : TypeState
    pub leaves : SiteLeaves facts x f.item insn known after (count_of insn)
    pub next : TypeState
    pub next_is : state_at (facts.typing f.method) (f.item + 1) ≡ Some next
    pub edge : IsNormalEdge code f.item (f.item + 1)
    pub stores : (k : ℕ) → stores_over k insn ≡ false
    pub locals_fit : AllZip (Fitting p.outline) after.locals next.locals
    pub stack_fits : AllZip (Fitting p.outline) after.stack next.stack

  abbrev Leads : TypeState → Type 0
  Leads after = (next : ℕ) → IsNormalEdge code f.item next → FitsAt p (facts.typing f.method) next after

  abbrev row_of : Insn → Option TypeState
  row_of i = row_after p.outline f.method f.item (made_at p f.method code) (use_by p f.method i) i known

  row_met : (i : Insn) → insn_of code f.item ≡ Some i → (after : TypeState) × (row_of i ≡ Some after) × Leads after
  row_met i i_is =
      let meets : MeetsItem p f.method code (facts.typing f.method) f.item known = (exact.methods f.method code code_is).typing.items f.item known at in
      Some-from_some_and (row_of i) Leads
      (subst (λ after. IsSomeAnd after Leads) (ap (λ (found : Option Insn). option_and_then row_of found) i_is) meets.row)

  flagged : (i : Insn) → insn_of code f.item ≡ Some i → (m : MethodId) (t : TypeId) (static : Bool) → use_at x i ≡ resolved.OfMethod m t
      → static_method_wanted i ≡ Some static → is_static (method_at p.outline.classes m.0).method.flags ≡ static
  flagged i i_is m t static used wanted =
      steps.calls.calls f.method i m t static
      (record { code = code; code_is = code_is; item = f.item; insn_is = i_is; use_is = used }) wanted

  left_by : (i : Insn) → insn_of code f.item ≡ Some i → KindIs facts x f.item i → (after : TypeState) → row_of i ≡ Some after
      → SiteLeaves facts x f.item i known after (count_of i)
  left_by i i_is (IsArray is) after row =
      ArrayLeaves is (array_leaves p.outline f.method f.item (made_at p f.method code) (use_by p f.method i) i known after is row)
  left_by i i_is (IsConstructor is) after row =
      ConstructorLeaves is (constructor_leaves x f.item (made_at p f.method code) known after i (flagged i i_is) at is row)
  left_by i i_is (IsFactory is) after row =
      FactoryLeaves is
      (received_leaves facts x f.item (made_at p f.method code) known after steps.calls.constructors i (flagged i i_is) is row)

  typed : AreTyped p facts.typing
  typed method other is =
      IsSomeAnd-from_some (code_at p method) (λ c. IsTypingOf p method c (facts.typing method)) other is (exact.methods method other is).typing

  pub site_facts : is_some (site_kind facts x f.item) ≡ true → SiteFacts
  site_facts site =
      let found = site_insn facts x f.item site in
      let i : Insn = found.0 in
      let met = row_met i found.1 in
      let here : StandsAtRow p facts.typing f i met.0 = record {
        code = code;
        code_is = code_is;
        insn_is = found.1;
        known = known;
        at = at;
        row = met.1;
        targets = steps.targets f.method code f.item i code_is found.1;
      } in
      let edge : IsNormalEdge code f.item (f.item + 1) =
      next_edge p facts.typing steps.tree typed f i met.0 here (site_falls facts x f.item i found.2) in
      let fit = Some-from_some_and (state_at (facts.typing f.method) (f.item + 1)) (λ t. state_fits p.outline met.0 t ≡ true) (met.2 (f.item + 1) edge) in
      let parts = fits_parts p.outline met.0 fit.0 fit.2 in
      record {
        insn = i;
        insn_is = found.1;
        after = met.0;
        leaves = left_by i found.1 found.2 met.0 met.1;
        next = fit.0;
        next_is = fit.1;
        edge = edge;
        stores = λ k. site_stores facts x f.item i k found.2;
        locals_fit = parts.0;
        stack_fits = parts.1;
      }

  -- ---- the frame behind it

  module _ (h : SiteFacts) (IsOne : ℕ → Type 0) (l : Leaves known h.after (count_of h.insn) IsOne) where
    -- as many words as are given, and those that are left
    pub next_length : length h.next.stack ≡ length l.given + (length known.stack - count_of h.insn)
    next_length =
        let next = length_all_zip (Fitting p.outline) h.after.stack h.next.stack h.stack_fits in
        let after = ap length l.stack_is ∙ length-append l.given l.rest in
        let rest = length_all_zip _ (drop (count_of h.insn) known.stack) l.rest l.words in
        let left = length-drop (count_of h.insn) known.stack in
        omega (arith, next, after, rest, left)

    -- a local that isn't initialised behind the site was the same before
    local_before : (k item : ℕ) → slice_get h.next.locals k ≡ Some (slot.Uninit item)
        → (slice_get known.locals k ≡ Some (slot.Uninit item)) × IsOne item
    local_before k item there =
        let after = zip_back (Fitting p.outline) h.after.locals h.next.locals k (slot.Uninit item) h.locals_fit there in
        let before = zip_back (Stays IsOne) known.locals h.after.locals k after.0 l.locals after.1 in
        let stays = stays_along p.outline IsOne before.0 after.0 (slot.Uninit item) before.2 after.2 item refl in
        (before.1 ∙ ap Some stays.0, stays.1)

    -- and live, if it is
    was_live : (k : ℕ) → facts.live f.method k (f.item + 1) ≡ true → facts.live f.method k f.item ≡ true
    was_live k live =
        live_before p facts exact f.method code code_is f.item (f.item + 1) k h.insn h.insn_is (inl h.edge) (h.stores k) live

    -- places that lead elsewhere before the site do behind it
    pub behind_apart : (Holds : Slot → Value → Type 0) (cell : ℕ)
        → ((item : ℕ) (v : Value) → IsOne item → Holds (slot.Uninit item) v → cell_of v ≢ cell)
        → ((k item : ℕ) (v : Value) → slice_get known.locals k ≡ Some (slot.Uninit item) → slice_get f.locals k ≡ Some v
        → facts.live f.method k f.item ≡ true → Holds (slot.Uninit item) v)
        → (top words : List Value) → length l.given ≡ length top → AllZip Holds (drop (count_of h.insn) known.stack) words
        → (stack : List Value) → stack ≡ top ++ words → IsApart facts h.next (record f { item = f.item + 1; stack = stack }) cell
    behind_apart Holds cell avoids locals top words level rest stack stack_is =
        let Elsewhere = LeadsElsewhere cell in
        let given : AllZip Elsewhere (l.given ++ l.rest) (top ++ words) =
        words_elsewhere cell IsOne Holds avoids l.given l.rest (drop (count_of h.insn) known.stack) top words l.initialised level l.words rest in
        let after : AllZip Elsewhere h.after.stack (top ++ words) = subst (λ xs. AllZip Elsewhere xs (top ++ words)) (sym l.stack_is) given in
        let next : AllZip Elsewhere h.next.stack stack =
        subst (λ ws. AllZip Elsewhere h.next.stack ws) (sym stack_is)
        (along_elsewhere cell p.outline h.after.stack h.next.stack (top ++ words) h.stack_fits after) in
        let all : lowest (length stack) h.next.stack ≡ h.next.stack =
        lowest_all h.next.stack (length stack) (sym (AllZip-long Elsewhere h.next.stack stack next)) in
        record {
          in_locals = λ k item v there found live.
              let before = local_before k item there in
              avoids item v before.1 (locals k item v before.0 found (was_live k live));
          in_stack = λ n item v there found.
              let word = zip_found Elsewhere h.next.stack stack n (slot.Uninit item) next (ap (λ xs. slice_get xs n) (sym all) ∙ there) in
              subst (λ w. cell_of w ≢ cell) (same_Some word.0 v (sym word.1 ∙ found)) word.2;
        }

    -- so do locals, live or not
    pub locals_apart : (Holds : Slot → Value → Type 0) (cell : ℕ)
        → ((item : ℕ) (v : Value) → IsOne item → Holds (slot.Uninit item) v → cell_of v ≢ cell)
        → ((k item : ℕ) (v : Value) → slice_get known.locals k ≡ Some (slot.Uninit item) → slice_get f.locals k ≡ Some v
        → Holds (slot.Uninit item) v)
        → (stack : List Value) → LocalsAreApart h.next (record f { item = f.item + 1; stack = stack }) cell
    locals_apart Holds cell avoids locals stack k item v there found =
        let before = local_before k item there in avoids item v before.1 (locals k item v before.0 found)
