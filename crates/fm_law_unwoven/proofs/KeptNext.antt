-- What follows after the actions of a step at a kept item is alike in both programs.
use Rattle.std.proofs.Common.{◌≡◌, ℕ, zero, suc, ◌+◌, ◌<◌, ◌≤◌, inl, inr, not, Bool, true, false, cond, List, [], ◌∷◌, ◌++◌, length, map, take, drop, reverse, Some, unwrap_or, refl, sym, ap, subst, ◌∙◌, arith, if◌then◌else◌}
use Rattle.std.specs.List.{AllByRecursion, slice_index_or}
use Rattle.std.proofs.lemmas.Bool.{false≢true}
use Rattle.std.proofs.lemmas.Option.{none-some}
use Rattle.fm_base.proofs.OptionFacts.{same_value as one_value}
use Rattle.fm_base.specs.declared.kinds.TypeRef.{TypeRef}
use Rattle.fm_code.specs.Edges.{insn_of, IsEdge}
use Rattle.fm_code.specs.SpellsCode.{targets_of, with_targets}
use Rattle.fm_code.specs.declared.code_array.Code.{Code}
use Rattle.fm_code.specs.declared.instructions.Insn.{Insn}
use Rattle.fm_conn.specs.Facts.{Facts}
use Rattle.fm_conn.specs.Links.{typed_method}
use Rattle.fm_frames.specs.Acts.{cell_of, same_cell, Sources, value_of}
use Rattle.fm_frames.specs.Effects.{Calls, Effect, Enters, Exits, Falls, Faults, Jumps, JumpsIfSame, Next, Returns, Source, Throws}
use Rattle.fm_frames.specs.States.{Areas, Frame, State, word_at}
use Rattle.fm_frames.specs.Steps.{caught, Caught, continued, InFrames, input_after, is_done, is_start, Leaves, max_locals_of, new_frame, next_effect, offset_at, returned, start_frames, stopped, target_at, thrown_by, type_at}
use Rattle.fm_frames.specs.declared.ends.Ended.{Ended}
use Rattle.fm_frames.specs.declared.ends.Ended.TheVariants as end
use Rattle.fm_frames.specs.declared.values.Value.{Value}
use Rattle.fm_law_same_runs.specs.Beside.{kept_item, Marks}
use Rattle.fm_law_sound.proofs.FramesStand.{target_in}
use Rattle.fm_law_unwoven.proofs.KeptCatches.{caught_alike, CaughtAlike}
use Rattle.fm_law_unwoven.proofs.KeptEdges.{LeadsOn}
use Rattle.fm_law_unwoven.proofs.KeptEffects.{at_number, item_is, new_next, old_next}
use Rattle.fm_law_unwoven.proofs.KeptGoes.{begins, below_other, first_old, goes, holders_other, new_went, old_went}
use Rattle.fm_law_unwoven.proofs.KeptSites.{none_behind}
use Rattle.fm_law_unwoven.proofs.OldFrames.{new_from, old_from}
use Rattle.fm_law_unwoven.proofs.StartFrames.{old_starts, starts_below, starts_first}
use Rattle.fm_law_unwoven.proofs.UnseenLocals.{same_value}
use Rattle.fm_law_unwoven.specs.Kept.{Begins, BothDo, BothFault, but_frames, GoesBefore, GoesBehind, GoesPast, HasNotBegun, HasWaited, HoldersStand, InMethod, IsNew, old_frame, old_state, PastBranch, PastCall, PastItem, Resumes, StandBelow, StandsAtKept, StatesGo, StepsAlike}
use Rattle.fm_law_unwoven.specs.UnseenCode.{GoesWithin, IsWithin, UsesNamed}
use Rattle.fm_law_unwoven.specs.WovenFrom.{HasInserted, inserted_by, IsWovenFrom}
use Rattle.fm_place.proofs.WovenLemmas.{targets-of-with}
use Rattle.fm_place.specs.Rewriting.{Plans}
use Rattle.fm_world.specs.Programs.{code_at, Outline, Program}

-- a target that is there, moved
mapped_at : (f : ℕ → ℕ) (xs : List ℕ) (n d other : ℕ) → n < length xs → slice_index_or (map f xs) n d ≡ f (slice_index_or xs n other)
mapped_at f [] n d other inside = absurd (omega (arith, inside))
mapped_at f (x ∷ xs) zero d other inside = refl
mapped_at f (x ∷ xs) (suc n) d other inside = mapped_at f xs n d other (omega (arith, inside))

module _ (p q : Program) (facts : Facts) (plans : Plans) (marks : Marks) (from : IsWovenFrom p q facts plans marks) (z : State) (g : Frame) (callers : List Frame)
    (code : Code) (code_is : code_at p g.method ≡ Some code) (j : ℕ) (j_is : kept_item marks g.method g.item ≡ Some j)
    (i : Insn) (found : insn_of code j ≡ Some i) (below : StandBelow p q facts plans marks g callers)
    (stand : HoldersStand facts (typed_method p facts.typing g.method code) (inserted_by (plans g.method)) g j)
    (coded : AllByRecursion (λ (h : Frame). (c : Code) × (code_at p h.method ≡ Some c)) callers)
    (e : Effect) (uses : UsesNamed p.outline (max_locals_of p g.method) (length (targets_of i)) e)
    (areas : Areas) (made : List ℕ) (price : ℕ) (printed : List ℕ) where
  abbrev f : Frame
  f = old_frame p marks g

  abbrev fs : List Frame
  fs = map (old_frame p marks) callers

  -- the states before the step
  abbrev pub before_step : State
  before_step = record z { frames = g ∷ callers }

  abbrev pub old_before : State
  old_before = old_state p marks z.steps (record z { frames = g ∷ callers })

  abbrev w : HasInserted q marks g.method code (inserted_by (plans g.method))
  w = from.methods g.method code code_is

  abbrev pub new_source : Sources
  new_source = new_from (max_locals_of p g.method) g.locals g.stack areas made

  abbrev pub old_source : Sources
  old_source = old_from (max_locals_of p g.method) g.locals g.stack areas made

  -- the states when the actions are done
  abbrev pub done_with : Next → List Frame → State
  done_with next frames = record z {
    frames = frames;
    areas = areas;
    input = input_after e.reads z.input;
    steps = (if is_done next then z.steps + price else z.steps);
  }

  abbrev pub Alike : State → State → Type 0
  Alike xs ys = StepsAlike p q facts plans marks (record z { frames = g ∷ callers }) (record { state = xs; printed = printed }) (record { state = ys; printed = printed })

  old_item_is : f.item ≡ j
  old_item_is = item_is p q facts plans marks from z g callers code code_is j j_is i found

  new_item_is : g.item ≡ w.laid.numbers j
  new_item_is = at_number p q facts plans marks from z g callers code code_is j j_is i found

  -- the frame waits at its item, with other words on its stack
  waits : (stack : List Value) → StandsAtKept p facts plans marks (record g { stack = stack })
  waits stack = record {
    item = j;
    item_is = j_is;
    holders = λ other other_is.
        subst (λ c. HoldersStand facts (typed_method p facts.typing g.method c) (inserted_by (plans g.method)) (record g { stack = stack }) j)
        (one_value (code_at p g.method) code other code_is other_is)
        (holders_other p q facts plans marks from (typed_method p facts.typing g.method code) (inserted_by (plans g.method)) g (record g { stack = stack }) j refl
        (λ m past. refl) stand);
  }

  ended : (x y : State) (how : Ended) → x.ended ≡ Some how → but_frames y ≡ but_frames x → Alike x y
  ended x y how is same = BothDo refl same (λ going. absurd (none-some how (sym going ∙ is)))

  -- ---- targets

  target_same : (kept : Insn) → insn_of w.new (w.laid.numbers j) ≡ Some kept → kept ≡ with_targets w.laid.entries i → (n : ℕ) → n < length (targets_of i)
      → target_at q g n ≡ w.laid.entries (target_at p f n)
  target_same kept is same n inside =
      ap (target_in n g.item) (new_next p q facts plans marks from z g callers code code_is j j_is i found kept is)
      ∙ ap (λ k. slice_index_or (targets_of k) n g.item) same ∙ ap (λ ts. slice_index_or ts n g.item) (targets-of-with w.laid.entries i)
      ∙ mapped_at w.laid.entries (targets_of i) n g.item f.item inside
      ∙ sym (ap w.laid.entries (ap (target_in n f.item) (old_next p q facts plans marks from z g callers code code_is j j_is i found)))

  -- ---- calls and starts

  called : (m : ℕ) → length (reverse (take e.takes g.stack)) ≤ max_locals_of p m
      → StatesGo p q facts plans marks before_step (new_frame p m (reverse (take e.takes f.stack)) ∷ record f { stack = drop e.takes f.stack } ∷ fs)
      (new_frame q m (reverse (take e.takes g.stack)) ∷ record g { stack = drop e.takes g.stack } ∷ callers)
  called m few =
      begins p q facts plans marks from before_step m (reverse (take e.takes g.stack)) (record f { stack = drop e.takes f.stack } ∷ fs)
      (record g { stack = drop e.takes g.stack } ∷ callers) (IsNew [] (record g { stack = drop e.takes g.stack } ∷ callers) refl tt (drop e.takes g.stack, refl)) few refl (inl (waits (drop e.takes g.stack)), below_other p q facts plans marks from g (record g { stack = drop e.takes g.stack }) refl callers below)

  entered : (methods : List ℕ) → AllByRecursion (λ m. is_start p.outline m ≡ true) methods → AllByRecursion (λ m. (c : Code) × (code_at p m ≡ Some c)) methods
      → StatesGo p q facts plans marks before_step (start_frames p methods ++ f ∷ fs) (start_frames q methods ++ g ∷ callers)
  entered [] all codes = record {
    method = refl;
    locals = refl;
    stack = refl;
    top = Resumes (waits g.stack) (j_is ∙ ap Some (sym old_item_is)) [] refl;
    callers_are = refl;
    stands_below = below;
  }
  entered (m ∷ methods) all codes =
      let starts = ap (λ (o : Outline). is_start o m) from.outline ∙ all.0 in
      begins p q facts plans marks from before_step m [] (start_frames p methods ++ f ∷ fs) (start_frames q methods ++ g ∷ callers)
      (IsNew (start_frames q methods) (g ∷ callers) refl (starts_first p q facts plans marks from methods) (g.stack, refl)) (omega arith)
      (old_starts p q facts plans marks from methods (f ∷ fs) (g ∷ callers) codes.1 refl)
      (starts_below p q facts plans marks from (new_frame q m []) starts methods all.1 (g ∷ callers) (λ last start. (inl (waits g.stack), below)))

  -- ---- returns

  -- the caller goes on behind its call
  module _ (next : Frame) (rest : List Frame) (are : next ∷ rest ≡ callers) (c : Code) (c_is : code_at p next.method ≡ Some c)
      (kept : StandsAtKept p facts plans marks next) (under : StandBelow p q facts plans marks next rest) (n : ℕ) where
    abbrev own : HasInserted q marks next.method c (inserted_by (plans next.method))
    own = from.methods next.method c c_is

    behind_call : is_start p.outline g.method ≡ false → (next_effect p old_before).next ≡ Returns n
        → (own.laid.behind kept.item ≡ own.laid.numbers kept.item + 1) × IsEdge c kept.item (kept.item + 1)
        → StatesGo p q facts plans marks before_step
        (record (old_frame p marks next) { item = (old_frame p marks next).item + 1; stack = take n f.stack ++ (old_frame p marks next).stack } ∷ map (old_frame p marks) rest)
        (record next { item = next.item + 1; stack = take n g.stack ++ next.stack } ∷ rest)
    behind_call not_start returns (behind, edge) =
        let at = own.laid.once next.item kept.item kept.item_is in
        let old_at : (old_frame p marks next).item ≡ kept.item = ap (λ o. unwrap_or o 0) kept.item_is in
        let now : Frame = record next { item = next.item + 1; stack = take n g.stack ++ next.stack } in
        record {
          method = refl;
          locals = refl;
          stack = refl;
          top = InMethod kept.item c c_is own
              (record { above = g ∷ []; was = next; frames_are = ap (λ frames. g ∷ frames) (sym are); method = refl; item_is = kept.item_is; holders = refl })
              (GoesBehind (PastCall g n refl not_start returns) (ap (λ k. k + 1) old_at) (ap (λ k. k + 1) at.1 ∙ sym behind))
              (subst (λ k. IsEdge c kept.item (k + 1)) (sym old_at) edge)
              (holders_other p q facts plans marks from (typed_method p facts.typing next.method c) (inserted_by (plans next.method)) next now kept.item refl
              (λ m past. refl) (kept.holders c c_is));
          callers_are = refl;
          stands_below = below_other p q facts plans marks from next now refl rest under;
        }

    -- it is a frame that waits for its class, or one at a kept item
    resumed : StatesGo p q facts plans marks before_step (old_frame p marks next ∷ map (old_frame p marks) rest) (next ∷ rest)
    resumed = record {
      method = refl;
      locals = refl;
      stack = refl;
      top = Resumes kept (kept.item_is ∙ ap Some (sym (ap (λ o. unwrap_or o 0) kept.item_is))) (g ∷ []) (ap (λ frames. g ∷ frames) (sym are));
      callers_are = refl;
      stands_below = under;
    }

  begun : (next : Frame) (rest : List Frame) → next ∷ rest ≡ callers → (c : Code) → code_at p next.method ≡ Some c → HasNotBegun q g next
      → StandBelow p q facts plans marks next rest → StatesGo p q facts plans marks before_step (old_frame p marks next ∷ map (old_frame p marks) rest) (next ∷ rest)
  begun next rest are c c_is stands under = record {
    method = refl;
    locals = refl;
    stack = refl;
    top = Begins (ap (λ k. unwrap_or (kept_item marks next.method k) 0) stands.first ∙ first_old p q facts plans marks from next.method c c_is)
        stands.first stands.empty stands.width (HasWaited (g ∷ []) (ap (λ frames. g ∷ frames) (sym are)));
    callers_are = refl;
    stands_below = under;
  }

  -- what a call was: nothing is between it and what comes behind it, to which it leads
  abbrev pub CallsAreWhole : List Frame → Type 0
  CallsAreWhole [] = Unit {0}
  CallsAreWhole (next ∷ rest) =
      (c : Code) (c_is : code_at p next.method ≡ Some c) (item : ℕ) → kept_item marks next.method next.item ≡ Some item → is_start p.outline g.method ≡ false
      → ((from.methods next.method c c_is).laid.behind item ≡ (from.methods next.method c c_is).laid.numbers item + 1) × IsEdge c item (item + 1)

  returns_by : (next : Frame) (rest : List Frame) → next ∷ rest ≡ callers → (n : ℕ) → (next_effect p old_before).next ≡ Returns n → (b : Bool) → is_start p.outline g.method ≡ b → CallsAreWhole (next ∷ rest)
      → StandBelow p q facts plans marks g (next ∷ rest) → (c : Code) (c_is : code_at p next.method ≡ Some c) (x y : State) → but_frames y ≡ but_frames x
      → Alike
      (cond b (record x { frames = old_frame p marks next ∷ map (old_frame p marks) rest })
      (record x { frames = record (old_frame p marks next) { item = (old_frame p marks next).item + 1; stack = take n f.stack ++ (old_frame p marks next).stack } ∷ map (old_frame p marks) rest }))
      (cond b (record y { frames = next ∷ rest })
      (record y { frames = record next { item = next.item + 1; stack = take n g.stack ++ next.stack } ∷ rest }))
  returns_by next rest are n returns true is whole (inl kept, under) c c_is x y same = BothDo refl same (λ going. resumed next rest are c c_is kept under n)
  returns_by next rest are n returns true is whole (inr waits_for, under) c c_is x y same = BothDo refl same (λ going. begun next rest are c c_is waits_for under)
  returns_by next rest are n returns false is whole (inl kept, under) c c_is x y same =
      BothDo refl same (λ going. behind_call next rest are c c_is kept under n is returns (whole c c_is kept.item kept.item_is is))
  returns_by next rest are n returns false is whole (inr waits_for, under) c c_is x y same =
      absurd (false≢true (sym is ∙ sym (ap (λ (o : Outline). is_start o g.method) from.outline) ∙ waits_for.starts))

  returned_alike : (all : List Frame) → all ≡ callers → (n : ℕ) → (next_effect p old_before).next ≡ Returns n → (x y : State) → but_frames y ≡ but_frames x → CallsAreWhole all
      → Alike (returned p n f (map (old_frame p marks) all) x) (returned q n g all y)
  returned_alike [] are n returns x y same whole = ended (stopped x end.Returned) (stopped y end.Returned) end.Returned refl (ap (λ (s : State). stopped s end.Returned) same)
  returned_alike (next ∷ rest) are n returns x y same whole =
      let under = subst (StandBelow p q facts plans marks g) (sym are) below in
      let codes = subst (AllByRecursion (λ (h : Frame). (c : Code) × (code_at p h.method ≡ Some c))) (sym are) coded in
      subst (λ (o : Outline). Alike (returned p n f (map (old_frame p marks) (next ∷ rest)) x)
      (cond (is_start o g.method) (record y { frames = next ∷ rest }) (record y { frames = record next { item = next.item + 1; stack = take n g.stack ++ next.stack } ∷ rest })))
      (sym from.outline)
      (returns_by next rest are n returns (is_start p.outline g.method) refl whole under codes.0.0 codes.0.1 x y same)

  -- ---- exceptions

  module _ (t : TypeRef) (v : Value) where
    thrown_by_alike : (one other : Caught) → CaughtAlike p q facts plans marks from before_step t v one other → (x y : State) → but_frames y ≡ but_frames x
        → Alike (thrown_by x one) (thrown_by y other)
    thrown_by_alike (InFrames one) (InFrames other) alike x y same = BothDo refl same (λ going. alike)
    thrown_by_alike (InFrames one) (Leaves e) alike x y same = absurd alike
    thrown_by_alike (Leaves e) (InFrames other) alike x y same = absurd alike
    thrown_by_alike (Leaves e) (Leaves other) alike x y same =
        ended (stopped x e) (stopped y other) e refl (λ k. record (same k) { ended = Some (alike k) })

  -- a value that comes from no local
  pub without_local : (source : Source) → IsWithin 0 source → value_of new_source source ≡ value_of old_source source
  without_local source within = same_value g.locals (take (max_locals_of p g.method) g.locals) g.stack areas made source within

  thrown_alike : (source : Source) → IsWithin 0 source → (x y : State) → but_frames y ≡ but_frames x
      → Alike (thrown_by x (caught p (type_at p.outline areas.store (value_of old_source source)) (value_of old_source source) (f ∷ fs)))
      (thrown_by y (caught q (type_at q.outline areas.store (value_of new_source source)) (value_of new_source source) (g ∷ callers)))
  thrown_alike source within x y same =
      let v = value_of old_source source in
      let t = type_at p.outline areas.store v in
      subst (λ u. Alike (thrown_by x (caught p t v (f ∷ fs))) (thrown_by y (caught q (type_at q.outline areas.store u) u (g ∷ callers)))) (sym (without_local source within))
      (subst (λ (o : Outline). Alike (thrown_by x (caught p t v (f ∷ fs))) (thrown_by y (caught q (type_at o areas.store v) v (g ∷ callers)))) (sym from.outline)
      (thrown_by_alike t v (caught p t v (f ∷ fs)) (caught q t v (g ∷ callers))
      (caught_alike p q facts plans marks from before_step t v [] g callers refl ((code, code_is), coded) (waits g.stack) below) x y same))

  -- ---- all that may follow, where the item is kept whole

  module _ (kept_is : insn_of w.new (w.laid.numbers j) ≡ Some (with_targets w.laid.entries i)) (behind : w.laid.behind j ≡ w.laid.numbers j + 1)
      (whole : CallsAreWhole callers) where
    before : (n : ℕ) → n < length (targets_of i) → IsEdge code j (target_at p f n) → StatesGo p q facts plans marks before_step
        (old_went p q facts plans marks from g callers code code_is j below stand (length (targets_of i)) e uses areas made (target_at p f n) ∷ fs)
        (new_went p q facts plans marks from g callers code code_is j below stand (length (targets_of i)) e uses areas made (target_at q g n) ∷ callers)
    before n inside edge =
        goes p q facts plans marks from g callers code code_is j below stand (length (targets_of i)) e uses areas made before_step refl j_is (target_at p f n) (target_at q g n)
        (GoesBefore (target_same (with_targets w.laid.entries i) kept_is refl n inside)) edge

    on : GoesPast p marks before_step [] (inserted_by (plans g.method)) j → IsEdge code j (f.item + 1) → StatesGo p q facts plans marks before_step
        (old_went p q facts plans marks from g callers code code_is j below stand (length (targets_of i)) e uses areas made (f.item + 1) ∷ fs)
        (new_went p q facts plans marks from g callers code code_is j below stand (length (targets_of i)) e uses areas made (g.item + 1) ∷ callers)
    on past edge =
        goes p q facts plans marks from g callers code code_is j below stand (length (targets_of i)) e uses areas made before_step refl j_is (f.item + 1) (g.item + 1)
        (GoesBehind past (ap (λ k. k + 1) old_item_is) (ap (λ k. k + 1) new_item_is ∙ sym behind)) edge

    by_test : (b : Bool) → 0 < length (targets_of i) → IsEdge code j (target_at p f 0) × IsEdge code j (f.item + 1) → StatesGo p q facts plans marks before_step
        (old_went p q facts plans marks from g callers code code_is j below stand (length (targets_of i)) e uses areas made (if b then target_at p f 0 else f.item + 1) ∷ fs)
        (new_went p q facts plans marks from g callers code code_is j below stand (length (targets_of i)) e uses areas made (if b then target_at q g 0 else g.item + 1) ∷ callers)
    by_test true some edges = before 0 some edges.0
    by_test false some edges = on (PastBranch refl (none_behind p q facts plans marks from g.method code code_is j i found some)) edges.1

    -- what a call or a start of classes is given, while the run goes on
    abbrev pub IsEntered : Next → Type 0
    IsEntered (Calls m) = length (reverse (take e.takes g.stack)) ≤ max_locals_of p m
    IsEntered (Enters methods) = AllByRecursion (λ m. (c : Code) × (code_at p m ≡ Some c)) methods
    IsEntered next = Unit {0}

    pub next_alike : (next : Next) → (next_effect p old_before).next ≡ next → GoesWithin p.outline (length (targets_of i)) next → LeadsOn p code f j next → IsEntered next
        → Alike (continued p old_source (record e { next = next }) f fs (done_with next (f ∷ fs)))
        (continued q new_source (record e { next = next }) g callers (done_with next (g ∷ callers)))
    unfolding continued
    next_alike Falls is within leads given = BothDo refl refl (λ going. on (PastItem refl is) leads)
    next_alike (Jumps n) is within leads given = BothDo refl refl (λ going. before n within leads)
    next_alike (JumpsIfSame same) is within leads given =
        let is_same = same_cell (word_at g.stack 0) (word_at g.stack 1) in
        BothDo refl refl (λ going. by_test (if same then is_same else not is_same) within leads)
    next_alike (Calls m) is within leads given = BothDo refl refl (λ going. called m given)
    next_alike (Returns n) is within leads given =
        returned_alike callers refl n is (done_with (Returns n) (f ∷ fs)) (done_with (Returns n) (g ∷ callers)) refl whole
    next_alike (Throws source) is within leads given =
        thrown_alike source within (done_with (Throws source) (f ∷ fs)) (done_with (Throws source) (g ∷ callers)) refl
    next_alike (Enters methods) is within leads given = BothDo refl refl (λ going. entered methods within given)
    next_alike (Exits n) is within leads given =
        ended (stopped (done_with (Exits n) (f ∷ fs)) (end.Exit n)) (stopped (done_with (Exits n) (g ∷ callers)) (end.Exit n)) (end.Exit n) refl refl
    next_alike (Faults source) is within leads given =
        BothFault g.method (offset_at p f) (offset_at q g) (cell_of (value_of old_source source)) refl
        (ap (λ v. Some (end.Fault (record { 0 = g.method }) (offset_at q g) (cell_of v))) (without_local source within))
