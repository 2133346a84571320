-- The runs of a narrowed program are those of the program: what holds of them beside those of another program holds of these.
use Rattle.std.proofs.Common.{◌≡◌, ℕ, suc, ◌+◌, ◌-◌, ◌*◌, ◌≤◌, ◌⊎◌, inl, inr, Bool, List, [], ◌∷◌, length, map, Option, None, refl, sym, ap, subst, ◌∙◌, ⊎_elim}
use Rattle.std.specs.Prelude.{is_some, ◌&&◌, ◌||◌}
use Rattle.std.specs.List.{list_any, range_with_len}
use Rattle.fm_cells.specs.Choices.{lawful, never_choice}
use Rattle.fm_cells.specs.Stores.{opened}
use Rattle.fm_code.specs.declared.code_array.Code.{Code}
use Rattle.fm_conn.specs.Facts.{Facts}
use Rattle.fm_conn.specs.Nodes.{depth_at, TypedMethod}
use Rattle.fm_frames.specs.Runs.{Goes}
use Rattle.fm_frames.specs.States.{Frame, Moved, State}
use Rattle.fm_frames.specs.Steps.{max_locals_of}
use Rattle.fm_frames.specs.declared.ends.Ended.{Ended}
use Rattle.fm_law_headline.specs.Headline.{AreRenamedInRuns}
use Rattle.fm_law_headline.specs.InStep.{DoAlike}
use Rattle.fm_law_lockstep.proofs.Renamed.{renamed_weaker}
use Rattle.fm_law_lockstep.specs.Reaching.{ReachedIsRenamed}
use Rattle.fm_law_reached.proofs.Narrowed.{costs_same, locals_same, runs_same}
use Rattle.fm_law_same_runs.specs.Beside.{AreMatched, Beside, EndedBefore, EndsAs, FirstReaches, GoTogether, greatest, HasMatch, HasWords, InAllRuns, IsWant, IsWithoutFault, LastMatched, Marks, most_added_locals, most_inserted_steps, never_run, NoneMatched, OfRoom, OfWords, PrintedAsMatched, Reaches, runs_of, SecondReaches, StandsFor, steps_allowed}
use Rattle.fm_law_same_runs.specs.Programs.{WordsAreBalanced}
use Rattle.fm_law_same_runs.specs.Renaming.{StatesAreRenamed, WasRetired}
use Rattle.fm_place.specs.Places.{is_busy, is_local_in, is_word_in}
use Rattle.fm_place.specs.Safe.{narrowed_to}
use Rattle.fm_same.specs.DeadRegions.{IsOver, IsQuiet, IsRetired}
use Rattle.fm_same.specs.Standing.{method_of}
use Rattle.fm_types.specs.Typed.{state_at}
use Rattle.fm_world.specs.Programs.{Program}

-- ---- regions

module _ (made : Option (List Bool)) (p : Program) (facts : Facts) where
  abbrev narrow : Program
  narrow = narrowed_to p made

  depth_same : (f : Frame) (code : Code) (j : ℕ) → depth_at (method_of narrow facts f code) j ≡ depth_at (method_of p facts f code) j
  depth_same f code j = refl

  busy_same : (f : Frame) (code : Code) (class j : ℕ) → is_busy facts (method_of narrow facts f code) class j ≡ is_busy facts (method_of p facts f code) class j
  busy_same f code class j =
      let x : TypedMethod = method_of p facts f code in
      λ k.
      is_some (state_at x.states j)
      && (list_any (is_word_in facts x class j) (range_with_len 0 (depth_same f code j k))
      || list_any (is_local_in facts x class j) (range_with_len 0 x.code.max_locals))

  quiet_whole : (class : ℕ) (f : Frame) → IsQuiet narrow facts class f → IsQuiet p facts class f
  quiet_whole class f quiet code is = sym (busy_same f code class f.item) ∙ quiet code is

  over_whole : (method depth class : ℕ) (frames : List Frame) → IsOver narrow facts method depth class frames → IsOver p facts method depth class frames
  over_whole method depth class [] over = tt
  over_whole method depth class (f ∷ callers) (inl gone) = inl gone
  over_whole method depth class (f ∷ callers) (inr here) = inr (here.0, here.1, quiet_whole class f here.2)

  retired_whole : (xs : ℕ → State) (method depth class birth first count : ℕ) → IsRetired narrow facts xs method depth class birth first count
      → IsRetired p facts xs method depth class birth first count
  retired_whole xs method depth class birth first count retired = record {
    code = retired.code;
    code_is = retired.code_is;
    captured = retired.captured;
    stands = retired.stands;
    from = retired.from;
    held = retired.held;
    leads = retired.leads;
    over = over_whole method depth class (xs (first + suc count)).frames retired.over;
  }

-- ---- two runs

-- the same runs, where the first program is narrowed
abbrev pub narrowed_beside : Option (List Bool) → Beside → Beside
narrowed_beside made b = record b { one = narrowed_to b.one made }

module _ (made : Option (List Bool)) (b : Beside) where
  abbrev c : Beside
  c = narrowed_beside made b

  -- ---- how far they get

  goes_narrowed : (budget : ℕ) (x : State) → Goes b.one budget x → Goes c.one budget x
  goes_narrowed budget x goes = record {
    not_ended = goes.not_ended;
    within = subst (λ (n : ℕ). x.steps + n ≤ budget) (sym (costs_same b.one made x)) goes.within;
  }

  goes_whole : (budget : ℕ) (x : State) → Goes c.one budget x → Goes b.one budget x
  goes_whole budget x goes = record {
    not_ended = goes.not_ended;
    within = subst (λ (n : ℕ). x.steps + n ≤ budget) (costs_same b.one made x) goes.within;
  }

  added_same : most_added_locals c.one c.other ≡ most_added_locals b.one b.other
  added_same =
      λ k. greatest (map (λ (method : ℕ). max_locals_of b.other method - locals_same b.one made method k) (range_with_len 0 (length b.one.codes)))

  most_same : most_inserted_steps c.one c.other ≡ most_inserted_steps b.one b.other
  most_same = ap (λ (n : ℕ). 6 * n + 2) added_same

  allowed_same : steps_allowed c.one c.other b.steps ≡ steps_allowed b.one b.other b.steps
  allowed_same = ap (λ (n : ℕ). b.steps + n * (b.steps + 1)) most_same

  first_narrowed : (k : ℕ) → FirstReaches b k → FirstReaches c k
  first_narrowed k reaches j less = goes_narrowed b.steps (b.xs j).state (reaches j less)

  first_whole : (k : ℕ) → FirstReaches c k → FirstReaches b k
  first_whole k reaches j less = goes_whole b.steps (b.xs j).state (reaches j less)

  second_narrowed : (l : ℕ) → SecondReaches b l → SecondReaches c l
  second_narrowed l reaches = subst (λ (n : ℕ). Reaches b.other n b.ys l) (sym allowed_same) reaches

  second_whole : (l : ℕ) → SecondReaches c l → SecondReaches b l
  second_whole l reaches = subst (λ (n : ℕ). Reaches b.other n b.ys l) allowed_same reaches

  words_narrowed : HasWords b → HasWords c
  words_narrowed has k reaches = has k (first_whole k reaches)

  -- ---- matched states

  stands_narrowed : (k l : ℕ) → StandsFor b k l → StandsFor c k l
  stands_narrowed k l stands = record {
    reached = second_narrowed l stands.reached;
    goes_on = stands.goes_on;
    kept = stands.kept;
    cost = stands.cost;
  }

  stands_whole : (k l : ℕ) → StandsFor c k l → StandsFor b k l
  stands_whole k l stands = record {
    reached = second_whole l stands.reached;
    goes_on = stands.goes_on;
    kept = stands.kept;
    cost = stands.cost;
  }

  matched_narrowed : (k l : ℕ) → AreMatched b k l → AreMatched c k l
  matched_narrowed k l matched = record {
    reached = first_narrowed k matched.reached;
    goes_on = matched.goes_on;
    stands = stands_narrowed k l matched.stands;
    printed = matched.printed;
    input = matched.input;
    frames = matched.frames;
    births = matched.births;
    words = matched.words;
  }

  matched_whole : (k l : ℕ) → AreMatched c k l → AreMatched b k l
  matched_whole k l matched = record {
    reached = first_whole k matched.reached;
    goes_on = matched.goes_on;
    stands = stands_whole k l matched.stands;
    printed = matched.printed;
    input = matched.input;
    frames = matched.frames;
    births = matched.births;
    words = matched.words;
  }

  -- ---- how they end

  want_whole : (end : Ended) → IsWant c end → IsWant b end
  want_whole end (OfWords live needed is less) = OfWords live needed is less
  want_whole end (OfRoom full needed is less) = OfRoom full needed is less

  printed_whole : (printed : List ℕ) → PrintedAsMatched c printed → PrintedAsMatched b printed
  printed_whole printed (NoneMatched none is) = NoneMatched (λ k l matched. none k l (matched_narrowed k l matched)) is
  printed_whole printed (LastMatched k l matched last is) =
      LastMatched k l (matched_whole k l matched) (λ later m are. last later m (matched_narrowed later m are)) is

  before_whole : (k : ℕ) → EndedBefore c k → EndedBefore b k
  before_whole k before = record {
    l = before.l;
    reached = second_whole before.l before.reached;
    end = before.end;
    ended = before.ended;
    want = want_whole before.end before.want;
    before = before.before;
    printed = printed_whole (b.ys before.l).printed before.printed;
  }

  match_whole : (k : ℕ) → HasMatch c k → HasMatch b k
  match_whole k match = record {
    l = match.l;
    matched = matched_whole k match.l match.matched;
    number = match.number;
    once = λ m stands. match.once m (stands_narrowed k m stands);
  }

  ends_whole : (k : ℕ) (end : Ended) → EndsAs c k end → EndsAs b k end
  ends_whole k end ends = record {
    l = ends.l;
    reached = second_whole ends.l ends.reached;
    ended = ends.ended;
    printed = ends.printed;
    number = ends.number;
    cost = ends.cost;
  }

  -- ---- what they do beside one another

  pub together_whole : GoTogether c → GoTogether b
  together_whole together = record {
    states = λ k reaches going.
        ⊎_elim (λ before. inl (before_whole k before)) (λ match. inr (match_whole k match)) (together.states k (first_narrowed k reaches) going);
    ends = λ k end reaches ended.
        ⊎_elim (λ before. inl (before_whole k before)) (λ ends. inr (ends_whole k end ends)) (together.ends k end (first_narrowed k reaches) ended);
    few_inserted = λ l count at. subst (λ (n : ℕ). count ≤ n) most_same (together.few_inserted l count at);
  }

  pub faultless_whole : IsWithoutFault c → IsWithoutFault b
  faultless_whole faultless k l first second few = faultless k l (first_narrowed k first) (second_narrowed l second) few

  -- what holds of matched states
  pub each_whole : (Kept Holds : ℕ → ℕ → Type 0) → ((k l : ℕ) → Kept k l → Holds k l) → ((k l : ℕ) → AreMatched c k l → Kept k l)
      → (k l : ℕ) → AreMatched b k l → Holds k l
  each_whole Kept Holds weaker each k l matched = weaker k l (each k l (matched_narrowed k l matched))

  pub states_whole : (facts : Facts) (k l : ℕ) → StatesAreRenamed facts c k l → StatesAreRenamed facts b k l
  states_whole facts k l renamed =
      renamed_weaker b.one.outline facts (b.xs k).state (b.ys l).state (WasRetired facts c k) (WasRetired facts b k)
      (λ cell object held lost.
      record {
        method = lost.method;
        depth = lost.depth;
        class = lost.class;
        first = lost.first;
        count = lost.count;
        retired = retired_whole made b.one facts (λ j. (b.xs j).state) lost.method lost.depth lost.class object.birth lost.first lost.count lost.retired;
        before = lost.before;
      })
      renamed

-- ---- all runs

module _ (p other : Program) (made : Option (List Bool)) (marks : Marks) where
  pub in_all : (Kept Holds : Beside → Type 0) → ((b : Beside) → Kept (narrowed_beside made b) → Holds b) → InAllRuns (narrowed_to p made) other marks Kept
      → InAllRuns p other marks Holds
  in_all Kept Holds whole each job given steps words other_words few other_few choose free has_words =
      let b : Beside = runs_of p other marks steps words other_words job choose free in
      let runs : never_run (narrowed_to p made) job words ≡ never_run p job words =
      λ j k. runs_same p made (lawful never_choice) job (opened words None []) k j in
      let same : runs_of (narrowed_to p made) other marks steps words other_words job choose free ≡ narrowed_beside made b =
      ap (λ (xs : ℕ → Moved). record (narrowed_beside made b) { xs = xs }) runs in
      whole b
      (subst Kept same (each job given steps words other_words few other_few choose free (subst HasWords (sym same) (words_narrowed made b has_words))))

  pub alike_whole : DoAlike (narrowed_to p made) other marks → DoAlike p other marks
  alike_whole both = record {
    same = in_all GoTogether GoTogether (together_whole made) both.same;
    faultless = in_all IsWithoutFault IsWithoutFault (faultless_whole made) both.faultless;
    balanced = in_all (λ b. (k l : ℕ) → AreMatched b k l → WordsAreBalanced b k l) (λ b. (k l : ℕ) → AreMatched b k l → WordsAreBalanced b k l)
        (λ b. each_whole made b (WordsAreBalanced (narrowed_beside made b)) (WordsAreBalanced b) (λ k l balanced. balanced)) both.balanced;
  }

  pub reached_whole : (facts : Facts) → AreRenamedInRuns (narrowed_to p made) other facts marks → AreRenamedInRuns p other facts marks
  reached_whole facts each =
      in_all (λ b. (k l : ℕ) → AreMatched b k l → ReachedIsRenamed facts b k l) (λ b. (k l : ℕ) → AreMatched b k l → ReachedIsRenamed facts b k l)
      (λ b. each_whole made b (ReachedIsRenamed facts (narrowed_beside made b)) (ReachedIsRenamed facts b) (λ k l same. same)) each

  pub objects_whole : (facts : Facts)
      → InAllRuns (narrowed_to p made) other marks (λ b. (k l : ℕ) → AreMatched b k l → StatesAreRenamed facts b k l)
      → InAllRuns p other marks (λ b. (k l : ℕ) → AreMatched b k l → StatesAreRenamed facts b k l)
  objects_whole facts each =
      in_all (λ b. (k l : ℕ) → AreMatched b k l → StatesAreRenamed facts b k l) (λ b. (k l : ℕ) → AreMatched b k l → StatesAreRenamed facts b k l)
      (λ b. each_whole made b (StatesAreRenamed facts (narrowed_beside made b)) (StatesAreRenamed facts b) (states_whole made b facts)) each
