-- What becomes of an object that a site in a loop gave: while its frame is there, it is in the chain of the site's holder, or it has been freed. Along two runs
-- that go together this goes on; where the class of the holder isn't busy the holder is null, and so it has been freed.
use Rattle.std.proofs.Common.{◌≡◌, ◌⊎◌, inl, inr, ⊎_elim, ℕ, suc, ◌+◌, ◌-◌, ◌<◌, ◌≤◌, true, false, List, [], ◌∷◌, Contains, length, Some, option_map, sym, ap, subst, ◌∙◌, arith}
use Rattle.std.specs.Prelude.{slice_get}
use Rattle.std.proofs.lemmas.Bool.{cases_lt, false≢true}
use Rattle.std.proofs.lemmas.Option.{none-some, same_Some}
use Rattle.fm_base.proofs.ContainsFacts.{Contains-none}
use Rattle.fm_cells.specs.Soundness.{IsOrderly}
use Rattle.fm_cells.specs.Stores.{Store}
use Rattle.fm_code.specs.declared.code_array.Code.{Code}
use Rattle.fm_conn.specs.Links.{typed_method}
use Rattle.fm_conn.specs.Nodes.{TypedMethod}
use Rattle.fm_frames.specs.Acts.{cell_of, Choose}
use Rattle.fm_frames.specs.Runs.{Job}
use Rattle.fm_frames.specs.States.{Frame, Moved, null, State, word_at}
use Rattle.fm_frames.specs.declared.values.Value.{Value}
use Rattle.fm_law_chained.specs.Chain.{IsChain}
use Rattle.fm_law_chains.specs.FreesAll.{AreAllFreed, IsAbsent, IsGivenBySite, IsQuietAt, IsQuietIn, LastsTo}
use Rattle.fm_law_headline.specs.InStep.{AreInStep}
use Rattle.fm_law_held_objects.specs.Contents.{HasInChain}
use Rattle.fm_law_lockstep.proofs.Paced.{balanced, goes_along, keeps_pace, opens}
use Rattle.fm_law_lockstep.specs.Both.{Both}
use Rattle.fm_law_lockstep.specs.Together.{CostsAreSame, GoTogetherIn, OpeningsGoTogether, StepsGoTogether}
use Rattle.fm_law_same_runs.specs.Beside.{Beside, FewAreInserted, HasWords, is_at_kept, kept_item, runs_of}
use Rattle.fm_law_same_runs.specs.Paces.{CatchesUp, EndsAlike, EndsInWant, GoesAlong, KeepPaces, Opens, OpensAtEnd, OpensInPace, OpensInWant, StaysInPace}
use Rattle.fm_law_sound.specs.Making.{ArgumentsFit}
use Rattle.fm_law_two_memories.specs.Runs.{LacksWords}
use Rattle.fm_law_unwoven.specs.Runs.{AreCleared}
use Rattle.fm_law_unwoven.specs.WovenFrom.{inserted_by}
use Rattle.fm_place.specs.Insertions.{Holder}
use Rattle.fm_place.specs.Places.{is_busy}
use Rattle.fm_place.specs.Safe.{method_in_facts}
use Rattle.fm_place.specs.Woven.{local_of}
use Rattle.fm_world.specs.Programs.{code_at}

-- ---- where the object is

-- the frame is at an item of the old code, and a holder of it, for this class, has it in its chain
pub record IsInChainOf (b : Both) (store : Store) (class birth : ℕ) (g : Frame) : Type 0 where
  pub code : Code
  pub code_is : code_at b.one g.method ≡ Some code
  pub item : ℕ
  pub kept : kept_item b.marks g.method g.item ≡ Some item
  pub h : ℕ
  pub holder : Holder
  pub holder_is : slice_get (inserted_by (b.plans g.method)).holders h ≡ Some holder
  pub looped : holder.looped ≡ true
  pub class_is : holder.class ≡ class
  pub has : HasInChain store (word_at g.locals (local_of code h)) birth

-- the frame that has `depth` others below it has such a holder
abbrev pub IsInChainAt : (b : Both) → Store → (depth class birth : ℕ) → List Frame → Type 0
IsInChainAt b store depth class birth [] = ⊥
IsInChainAt b store depth class birth (g ∷ callers) =
    ((length callers ≡ depth) × IsInChainOf b store class birth g) ⊎ IsInChainAt b store depth class birth callers

-- it was made, and isn't held any longer
pub record HasGone (store : Store) (birth : ℕ) : Type 0 where
  pub made : birth < store.births
  pub absent : IsAbsent store birth

-- one of the two
abbrev pub IsCollected : Both → State → (depth class birth : ℕ) → Type 0
IsCollected b y depth class birth = IsInChainAt b y.areas.store depth class birth y.frames ⊎ HasGone y.areas.store birth

-- ---- nothing is in the chain of a holder of what isn't busy

-- null leads to no chain with an object
none_in_null : (store : Store) (birth : ℕ) → IsOrderly store → HasInChain store null birth → ⊥
none_in_null store birth orderly has = by has.births has.chain has.among where
  by : (births : List ℕ) → IsChain store (cell_of null) births → Contains births birth → ⊥
  by [] chain among = Contains-none birth among
  by (first ∷ births) chain among = none-some chain.0.object (sym orderly.null_not_held ∙ chain.0.held)

module _ (b : Both) (store : Store) (orderly : IsOrderly store) (depth class birth : ℕ) where
  -- a frame with others below it has fewer
  quiet_low : (frames : List Frame) → IsQuietAt b.one b.facts b.marks depth class frames → depth < length frames
  quiet_low [] quiet = absurd quiet
  quiet_low (g ∷ callers) (inl here) = let same = here.0 in omega (arith, same)
  quiet_low (g ∷ callers) (inr later) = let low = quiet_low callers later in omega (arith, low)

  chain_low : (frames : List Frame) → IsInChainAt b store depth class birth frames → depth < length frames
  chain_low [] held = absurd held
  chain_low (g ∷ callers) (inl here) = let same = here.0 in omega (arith, same)
  chain_low (g ∷ callers) (inr later) = let low = chain_low callers later in omega (arith, low)

  none_here : (g : Frame) → (cleared : AreCleared b.one b.facts b.plans b.marks (g ∷ [])) → IsInChainOf b store class birth g
      → IsQuietIn b.one b.facts b.marks class g → ⊥
  none_here g cleared held quiet =
      let typed : TypedMethod = typed_method b.one b.facts.typing g.method held.code in
      let there : method_in_facts b.one b.facts g.method ≡ Some typed = ap (option_map (typed_method b.one b.facts.typing g.method)) held.code_is in
      let same : typed ≡ quiet.x = same_Some typed quiet.x (sym there ∙ quiet.method_is) in
      let not_busy : is_busy b.facts typed held.holder.class quiet.item ≡ false =
      (λ k. is_busy b.facts (same k) (held.class_is k) quiet.item) ∙ quiet.quiet in
      let empty : word_at g.locals (local_of held.code held.h) ≡ null = cleared.0 quiet.item held.code held.h held.holder quiet.kept held.code_is held.holder_is not_busy in
      none_in_null store birth orderly (subst (λ (v : Value). HasInChain store v birth) empty held.has)

  none_in_frames : (frames : List Frame) → AreCleared b.one b.facts b.plans b.marks frames → IsInChainAt b store depth class birth frames
      → IsQuietAt b.one b.facts b.marks depth class frames → ⊥
  none_in_frames [] cleared held quiet = held
  none_in_frames (g ∷ callers) cleared (inl held) (inl quiet) = none_here g (cleared.0, tt) held.1 quiet.1
  none_in_frames (g ∷ callers) cleared (inl held) (inr quiet) = let same = held.0 in let low = quiet_low callers quiet in absurd (omega (arith, same, low))
  none_in_frames (g ∷ callers) cleared (inr held) (inl quiet) = let same = quiet.0 in let low = chain_low callers held in absurd (omega (arith, same, low))
  none_in_frames (g ∷ callers) cleared (inr held) (inr quiet) = none_in_frames callers cleared.1 held quiet

-- ---- along the runs

-- what sites gave up to a state is in the chain of a holder, or gone, as long as the frame is there
abbrev pub AreCollected : (b : Both) → (ys : ℕ → Moved) → (l : ℕ) → Type 0
AreCollected b ys l =
    (first depth class birth : ℕ) → first < l → IsGivenBySite b.one b.facts b.marks (ys first).state (ys (suc first)).state depth class birth
    → LastsTo ys depth (suc first) l → IsCollected b (ys l).state depth class birth

-- What is shown of inserted steps, from states that go together to the next ones: what the step of both gives is put into its holder's chain; and what is in one stays there,
-- or is freed.
pub record CollectingLaws (b : Both) : Type 0 where
  pub given : (steps : ℕ) (job : Job) (choose : Choose) (free : List (List ℕ)) (k l : ℕ)
      → let r = runs_of b.one b.other b.marks steps b.words b.other_words job choose free in
      GoTogetherIn b r k l → ¬ LacksWords (r.xs (suc k)).state → (c : CatchesUp r (GoTogetherIn b r) (suc k) (suc l))
      → (depth class birth : ℕ) → IsGivenBySite b.one b.facts b.marks (r.ys l).state (r.ys (suc l)).state depth class birth
      → LastsTo r.ys depth (suc l) (suc l + c.count) → IsCollected b (r.ys (suc l + c.count)).state depth class birth
  pub on : (steps : ℕ) (job : Job) (choose : Choose) (free : List (List ℕ)) (k l : ℕ)
      → let r = runs_of b.one b.other b.marks steps b.words b.other_words job choose free in
      GoTogetherIn b r k l → ¬ LacksWords (r.xs (suc k)).state → (c : CatchesUp r (GoTogetherIn b r) (suc k) (suc l))
      → (depth class birth : ℕ) → IsCollected b (r.ys l).state depth class birth → LastsTo r.ys depth l (suc l + c.count)
      → IsCollected b (r.ys (suc l + c.count)).state depth class birth

module _ (b : Both) (laws : CollectingLaws b) (steps : ℕ) (job : Job) (choose : Choose) (free : List (List ℕ)) where
  abbrev pub runs : Beside
  runs = runs_of b.one b.other b.marks steps b.words b.other_words job choose free

  abbrev xs : ℕ → Moved
  xs = runs.xs

  abbrev ys : ℕ → Moved
  ys = runs.ys

  -- they go together, and so do objects that sites gave
  abbrev pub IsPaceCollected : ℕ → ℕ → Type 0
  IsPaceCollected k l = GoTogetherIn b runs k l × AreCollected b ys l

  collected_on : (k l : ℕ) → GoTogetherIn b runs k l → AreCollected b ys l → ¬ LacksWords (xs (suc k)).state
      → (c : CatchesUp runs (GoTogetherIn b runs) (suc k) (suc l)) → AreCollected b ys (suc l + c.count)
  collected_on k l pace so_far has c first depth class birth within given lasts = by_order (cases_lt first l) (cases_lt l first) where
    by_order : (first < l) ⊎ (l ≤ first) → (l < first) ⊎ (first ≤ l) → IsCollected b (ys (suc l + c.count)).state depth class birth
    by_order (inl early) either =
        laws.on steps job choose free k l pace has c depth class birth
        (so_far first depth class birth early given (λ n low high. lasts n low (omega (arith, high))))
        (λ n low high. lasts n (omega (arith, early, low)) high)
    by_order (inr late) (inl more) =
        let place : suc l + (first - suc l) ≡ first = omega (arith, more) in
        let at = c.inserted (first - suc l) (omega (arith, more, within)) in
        absurd (false≢true (sym at.inserted ∙ ap (λ n. is_at_kept b.marks (ys n).state) place ∙ given.from_kept))
    by_order (inr late) (inr few) =
        let same : first ≡ l = omega (arith, late, few) in
        laws.given steps job choose free k l pace has c depth class birth
        (subst (λ n. IsGivenBySite b.one b.facts b.marks (ys n).state (ys (suc n)).state depth class birth) same given)
        (λ n low high. lasts n (omega (arith, same, low)) high)

  goes_collected : StepsGoTogether b → (k l : ℕ) → IsPaceCollected k l → ¬ LacksWords (xs (suc k)).state → GoesAlong runs IsPaceCollected k l
  goes_collected steps_go k l pace has = by_step (goes_along b steps job choose free steps_go k l pace.0 has) where
    by_step : GoesAlong runs (GoTogetherIn b runs) k l → GoesAlong runs IsPaceCollected k l
    by_step (StaysInPace c) =
        StaysInPace (record {
          count = c.count;
          few = c.few;
          inserted = c.inserted;
          steps = c.steps;
          pace = (c.pace, collected_on k l pace.0 pace.1 has c);
        })
    by_step (EndsAlike e is other_is printed rise none) = EndsAlike e is other_is printed rise none
    by_step (EndsInWant e is lacks printed uncounted costs) = EndsInWant e is lacks printed uncounted costs

  opens_collected : OpeningsGoTogether b → ArgumentsFit job.arguments → ¬ LacksWords (xs 0).state → Opens runs IsPaceCollected
  opens_collected openings fits has = by_opening (opens b steps job choose free openings fits has) where
    by_opening : Opens runs (GoTogetherIn b runs) → Opens runs IsPaceCollected
    by_opening (OpensInPace c) =
        OpensInPace (record {
          count = c.count;
          few = c.few;
          inserted = c.inserted;
          steps = c.steps;
          pace = (
            c.pace,
            λ first depth class birth within given lasts.
                let at = c.inserted first (omega (arith, within)) in
                let place : 0 + first ≡ first = omega arith in
                absurd (false≢true (sym at.inserted ∙ ap (λ n. is_at_kept b.marks (ys n).state) place ∙ given.from_kept)),
          );
        })
    by_opening (OpensAtEnd e is other_is printed none) = OpensAtEnd e is other_is printed none
    by_opening (OpensInWant e is lacks printed) = OpensInWant e is lacks printed

  keep_paces_collected : CostsAreSame b → StepsGoTogether b → OpeningsGoTogether b → ArgumentsFit job.arguments → HasWords runs
      → KeepPaces runs IsPaceCollected
  keep_paces_collected costs steps_go openings fits has = record {
    paces = λ k l pace. keeps_pace b steps job choose free costs k l pace.0;
    opens = opens_collected openings fits (has 0 (λ j less. absurd (omega (arith, less))));
    next = λ k l pace reaches lacks. goes_collected steps_go k l pace lacks;
  }

  pub collected_in_step : CostsAreSame b → StepsGoTogether b → OpeningsGoTogether b → ArgumentsFit job.arguments → HasWords runs → FewAreInserted runs
      → AreInStep runs IsPaceCollected
  collected_in_step costs steps_go openings fits has few = record {
    paces = keep_paces_collected costs steps_go openings fits has;
    few_inserted = few;
    balanced = λ k l pace. balanced b (xs k).state (ys l).state pace.0.0;
  }

  -- where holders of what isn't busy are null, nothing of it is held
  pub all_freed : (k l : ℕ) → IsPaceCollected k l → AreCleared b.one b.facts b.plans b.marks (ys l).state.frames → AreAllFreed b.one b.facts runs l
  all_freed k l pace cleared first depth class birth within given lasts quiet =
      ⊎_elim
      (λ (held : IsInChainAt b (ys l).state.areas.store depth class birth (ys l).state.frames).
      absurd (none_in_frames b (ys l).state.areas.store pace.0.0.paired.areas.store.other_orderly depth class birth (ys l).state.frames cleared held quiet))
      (λ (gone : HasGone (ys l).state.areas.store birth). gone.absent)
      (pace.1 first depth class birth within given lasts)
