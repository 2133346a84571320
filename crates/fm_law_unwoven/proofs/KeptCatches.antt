-- An exception is caught in both programs by one frame, at one handler.
use Rattle.std.proofs.Common.{◌≡◌, ℕ, ◌<◌, ◌≤◌, ◌⊎◌, inl, inr, ◌==◌, ◌&&◌, Bool, true, false, cond, List, [], ◌∷◌, ◌++◌, append_assoc, length, map, Option, Some, None, Contains, option_map, unwrap_or, refl, sym, ap, subst, ◌∙◌, arith, if◌then◌else◌, nat_lt}
use Rattle.std.specs.Prelude.{nat_le}
use Rattle.std.specs.List.{AllByRecursion}
use Rattle.std.proofs.lemmas.Bool.{cases_lt, false≢true, le-leb, le-ltb, lt-leb, lt-ltb}
use Rattle.std.proofs.lemmas.Option.{none-some, same_Some}
use Rattle.fm_base.specs.declared.kinds.TypeRef.{TypeRef}
use Rattle.fm_code.proofs.EdgesLemmas.{Contains-first, Contains-later}
use Rattle.fm_code.specs.Edges.{IsEdge, IsHandlerEdge}
use Rattle.fm_code.specs.declared.code_array.Code.{Code}
use Rattle.fm_code.specs.declared.code_array.Handler.{Handler}
use Rattle.fm_conn.specs.Facts.{Facts}
use Rattle.fm_conn.specs.Links.{typed_method}
use Rattle.fm_frames.specs.States.{Frame, State}
use Rattle.fm_frames.specs.Steps.{catches, caught, caught_in, Caught, handler_among, handler_of, InFrames, is_start, Leaves}
use Rattle.fm_frames.specs.declared.ends.Ended.TheVariants as end
use Rattle.fm_frames.specs.declared.values.Value.{Value}
use Rattle.fm_law_same_runs.specs.Beside.{kept_item, Marks}
use Rattle.fm_law_unwoven.proofs.KeptGoes.{below_other, holders_other}
use Rattle.fm_law_unwoven.specs.Kept.{GoesBefore, HasNotBegun, InMethod, old_frame, StandBelow, StandsAtKept, StatesGo}
use Rattle.fm_law_unwoven.specs.Laid.{moved_to}
use Rattle.fm_law_unwoven.specs.WovenFrom.{HasInserted, inserted_by, IsWovenFrom}
use Rattle.fm_law_woven_flow.proofs.Caught.{handler_valid}
use Rattle.fm_place.specs.Rewriting.{Plans}
use Rattle.fm_same.proofs.EdgesKeep.{handler_edge}
use Rattle.fm_types.specs.Named.{class_of_method}
use Rattle.fm_types.specs.Typed.{type_of_use}
use Rattle.fm_world.specs.Chains.{is_sub}
use Rattle.fm_world.specs.Programs.{code_at, Outline, Program}
use Rattle.fm_world.specs.declared.uses.Use.{Use}

-- whether an entry takes a type
abbrev takes_by : Outline → TypeRef → ℕ → Use → Bool
takes_by o t class u = if class == 0 then true else unwrap_or (option_map (is_sub o.classes t) (type_of_use o u)) false

abbrev catches_by : (start end item : ℕ) → Bool → Bool
catches_by start end item takes = nat_le start item && nat_lt item end && takes

-- tests that agree where orders do
le_same : (a b c d : ℕ) → (a ≤ b → c ≤ d) → (c ≤ d → a ≤ b) → nat_le a b ≡ nat_le c d
le_same a b c d to back = by_order (cases_lt d c) where
  by_order : (d < c) ⊎ (c ≤ d) → nat_le a b ≡ nat_le c d
  by_order (inr le) = le-leb a b (back le) ∙ sym (le-leb c d le)
  by_order (inl less) = by_other (cases_lt b a) where
    by_other : (b < a) ⊎ (a ≤ b) → nat_le a b ≡ nat_le c d
    by_other (inl more) = lt-leb a b more ∙ sym (lt-leb c d less)
    by_other (inr le) = absurd (let other = to le in omega (arith, less, other))

lt_same : (a b c d : ℕ) → (b ≤ a → d ≤ c) → (d ≤ c → b ≤ a) → nat_lt a b ≡ nat_lt c d
lt_same a b c d to back = by_order (cases_lt c d) where
  by_order : (c < d) ⊎ (d ≤ c) → nat_lt a b ≡ nat_lt c d
  by_order (inr le) = le-ltb a b (back le) ∙ sym (le-ltb c d le)
  by_order (inl less) = by_other (cases_lt a b) where
    by_other : (a < b) ⊎ (b ≤ a) → nat_lt a b ≡ nat_lt c d
    by_other (inl more) = lt-ltb a b more ∙ sym (lt-ltb c d less)
    by_other (inr le) = absurd (let other = to le in omega (arith, less, other))

option_moved : (entries : ℕ → ℕ) (b : Bool) (handler : ℕ) (rest : Option ℕ)
    → (if b then Some (entries handler) else option_map entries rest) ≡ option_map entries (if b then Some handler else rest)
option_moved entries true handler rest = refl
option_moved entries false handler rest = refl

module _ (p q : Program) (facts : Facts) (plans : Plans) (marks : Marks) (from : IsWovenFrom p q facts plans marks) (before : State) (t : TypeRef) (v : Value) where
  -- ---- in one frame

  module _ (g : Frame) (code : Code) (code_is : code_at p g.method ≡ Some code) (j : ℕ) (j_is : kept_item marks g.method g.item ≡ Some j) where
    abbrev w : HasInserted q marks g.method code (inserted_by (plans g.method))
    w = from.methods g.method code code_is

    abbrev f : Frame
    f = old_frame p marks g

    at : (j < length code.items) × (g.item ≡ w.laid.numbers j)
    at = w.laid.once g.item j j_is

    item_is : f.item ≡ j
    item_is = ap (λ o. unwrap_or o 0) j_is

    entry_same : (h : Handler) → Contains code.handlers h → catches q g t (moved_to w.laid.entries h) ≡ catches p f t h
    entry_same h listed =
        let rules = from.rules g.method code code_is in
        let valid = handler_valid code rules h listed in
        let some = valid.not_empty in
        let all = valid.end in
        let low = w.laid.covered h.start j (omega (arith, some, all)) at.0 in
        let high = w.laid.covered h.end j all at.0 in
        let start : nat_le (w.laid.entries h.start) g.item ≡ nat_le h.start f.item =
        ap (nat_le (w.laid.entries h.start)) at.1 ∙ le_same (w.laid.entries h.start) (w.laid.numbers j) h.start j low.0 low.1 ∙ sym (ap (nat_le h.start) item_is) in
        let end : nat_lt g.item (w.laid.entries h.end) ≡ nat_lt f.item h.end =
        ap (λ n. nat_lt n (w.laid.entries h.end)) at.1 ∙ lt_same (w.laid.numbers j) (w.laid.entries h.end) j h.end high.0 high.1 ∙ sym (ap (λ n. nat_lt n h.end) item_is) in
        let uses = (from.named g.method code code_is).handlers h listed in
        (λ k. start k && end k && takes_by (from.outline k) t h.catch_class (uses k))

    among_same : (handlers : List Handler) → ((h : Handler) → Contains handlers h → Contains code.handlers h)
        → handler_among q g t (map (moved_to w.laid.entries) handlers) ≡ option_map w.laid.entries (handler_among p f t handlers)
    among_same [] listed = refl
    among_same (h ∷ handlers) listed =
        let same = entry_same h (listed h (Contains-first h handlers h refl)) in
        let rest = among_same handlers (λ other there. listed other (Contains-later h handlers other there)) in
        (λ k. if same k then Some (w.laid.entries h.handler) else rest k)
        ∙ option_moved w.laid.entries (catches p f t h) h.handler (handler_among p f t handlers)

    abbrev among : (r : Program) → Frame → Option Code → Option ℕ
    among r frame None = None
    among r frame (Some c) = handler_among r frame t c.handlers

    pub handler_same : handler_of q g t ≡ option_map w.laid.entries (handler_of p f t)
    handler_same =
        ap (among q g) w.new_is ∙ ap (handler_among q g t) w.laid.handlers
        ∙ among_same code.handlers (λ h there. there) ∙ sym (ap (λ o. option_map w.laid.entries (among p f o)) code_is)

    -- the handler is an item, to which an edge leads
    among_inside : (handlers : List Handler) → ((h : Handler) → Contains handlers h → Contains code.handlers h) → (handler : ℕ)
        → handler_among p f t handlers ≡ Some handler → handler < length code.items
    among_inside [] listed handler is = absurd (none-some handler is)
    among_inside (h ∷ handlers) listed handler is =
        by_catch (catches p f t h) is (among_inside handlers (λ other there. listed other (Contains-later h handlers other there)) handler) where
          by_catch : (b : Bool) → (if b then Some h.handler else handler_among p f t handlers) ≡ Some handler
              → (handler_among p f t handlers ≡ Some handler → handler < length code.items) → handler < length code.items
          by_catch true here later =
              let valid = (handler_valid code (from.rules g.method code code_is) h (listed h (Contains-first h handlers h refl))).handler in
              let same = same_Some h.handler handler here in
              omega (arith, valid, same)
          by_catch false here later = later here

    pub leads_caught : (handler : ℕ) → handler_of p f t ≡ Some handler → IsEdge code j handler
    leads_caught handler is =
        let inside = among_inside code.handlers (λ h there. there) handler (sym (ap (among p f) code_is) ∙ is) in
        let here = at.0 in
        inr (subst (λ k. IsHandlerEdge code k handler) item_is
        (handler_edge p f t code handler code_is is inside (let same = item_is in omega (arith, here, same))))

  -- ---- down the frames

  -- the frames once it is caught are alike, or the run ends in one way
  abbrev pub CaughtAlike : Caught → Caught → Type 0
  CaughtAlike (InFrames fs) (InFrames gs) = StatesGo p q facts plans marks before fs gs
  CaughtAlike (InFrames fs) (Leaves e) = ⊥
  CaughtAlike (Leaves e) (InFrames gs) = ⊥
  CaughtAlike (Leaves e) (Leaves other) = other ≡ e

  -- each method has code
  abbrev pub AreCoded : List Frame → Type 0
  AreCoded gs = AllByRecursion (λ (g : Frame). (code : Code) × (code_at p g.method ≡ Some code)) gs

  -- in one frame, where it is so of those below
  one_frame : (above : List Frame) (g : Frame) (callers : List Frame) → before.frames ≡ above ++ g ∷ callers → (code : Code) (code_is : code_at p g.method ≡ Some code) → StandsAtKept p facts plans marks g
      → StandBelow p q facts plans marks g callers
      → (is_start p.outline g.method ≡ false → CaughtAlike (caught p t v (map (old_frame p marks) callers)) (caught q t v callers))
      → CaughtAlike (caught p t v (old_frame p marks g ∷ map (old_frame p marks) callers)) (caught q t v (g ∷ callers))
  unfolding caught
  one_frame above g callers are code code_is stands below rest =
      subst (λ h. CaughtAlike (caught_in p v f fs (handler_of p f t) cp) (caught_in q v g callers h cq)) (sym (handler_same g code code_is stands.item stands.item_is))
      (by_handler (handler_of p f t) refl) where
        f : Frame
        f = old_frame p marks g

        fs : List Frame
        fs = map (old_frame p marks) callers

        cp : Caught
        cp = caught p t v fs

        cq : Caught
        cq = caught q t v callers

        w : HasInserted q marks g.method code (inserted_by (plans g.method))
        w = from.methods g.method code code_is

        by_start : (b : Bool) → is_start p.outline g.method ≡ b
            → CaughtAlike (cond b (Leaves (end.InitFailed (record { 0 = class_of_method p.outline g.method }))) cp)
            (cond b (Leaves (end.InitFailed (record { 0 = class_of_method p.outline g.method }))) cq)
        by_start true is = refl
        by_start false is = rest is

        by_handler : (o : Option ℕ) → handler_of p f t ≡ o → CaughtAlike (caught_in p v f fs o cp) (caught_in q v g callers (option_map w.laid.entries o) cq)
        by_handler (Some handler) found = record {
          method = refl;
          locals = refl;
          stack = refl;
          top = InMethod stands.item code code_is w
              (record { above = above; was = g; frames_are = are; method = refl; item_is = stands.item_is; holders = refl }) (GoesBefore refl) (leads_caught g code code_is stands.item stands.item_is handler found)
              (holders_other p q facts plans marks from (typed_method p facts.typing g.method code) (inserted_by (plans g.method)) g
              (record g { item = w.laid.entries handler; stack = v ∷ [] }) stands.item refl (λ m past. refl) (stands.holders code code_is));
          callers_are = refl;
          stands_below = below_other p q facts plans marks from g (record g { item = w.laid.entries handler; stack = v ∷ [] }) refl callers below;
        }
        by_handler None found =
            subst (λ (o : Outline). CaughtAlike (cond (is_start p.outline g.method) (Leaves (end.InitFailed (record { 0 = class_of_method p.outline g.method }))) cp)
            (cond (is_start o g.method) (Leaves (end.InitFailed (record { 0 = class_of_method o g.method }))) cq)) (sym from.outline)
            (by_start (is_start p.outline g.method) refl)

  pub caught_alike : (above : List Frame) (g : Frame) (callers : List Frame) → before.frames ≡ above ++ g ∷ callers → AreCoded (g ∷ callers) → StandsAtKept p facts plans marks g → StandBelow p q facts plans marks g callers
      → CaughtAlike (caught p t v (old_frame p marks g ∷ map (old_frame p marks) callers)) (caught q t v (g ∷ callers))
  unfolding caught
  caught_alike above g [] are coded stands below = one_frame above g [] are coded.0.0 coded.0.1 stands below (λ none. refl)
  caught_alike above g (next ∷ rest) are coded stands below =
      one_frame above g (next ∷ rest) are coded.0.0 coded.0.1 stands below
      (λ none. by_kind none below.0 (λ kept. caught_alike (above ++ g ∷ []) next rest (are ∙ sym (append_assoc above (g ∷ []) (next ∷ rest))) coded.1 kept below.1)) where
        Below : Type 0
        Below = CaughtAlike (caught p t v (map (old_frame p marks) (next ∷ rest))) (caught q t v (next ∷ rest))

        by_kind : is_start p.outline g.method ≡ false → StandsAtKept p facts plans marks next ⊎ HasNotBegun q g next
            → (StandsAtKept p facts plans marks next → Below) → Below
        by_kind none (inl kept) follows = follows kept
        by_kind none (inr begun) follows =
            absurd (false≢true (sym none ∙ sym (ap (λ (o : Outline). is_start o g.method) from.outline) ∙ begun.starts))
