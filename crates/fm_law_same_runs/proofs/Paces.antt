-- Runs that keep pace go together: what is counted on the way to states that keep pace, and how far both runs have come.
use Rattle.std.proofs.Common.{◌≡◌, ℕ, zero, suc, ◌+◌, ◌-◌, ◌*◌, ◌<◌, ◌≤◌, ◌⊎◌, true, false, length, Some, None, refl, sym, ◌∙◌, ap, subst, inl, inr, arith}
use Rattle.std.proofs.Math.Nat.{mul-le-mul_left, mul-suc}
use Rattle.std.proofs.lemmas.Bool.{cases_lt}
use Rattle.std.proofs.lemmas.Option.{none-some}
use Rattle.fm_frames.proofs.StepCounts.{costs_some}
use Rattle.fm_frames.specs.Acts.{Choose}
use Rattle.fm_frames.specs.Runs.{Goes}
use Rattle.fm_frames.specs.Steps.{cost}
use Rattle.fm_frames.specs.declared.ends.Ended.{Ended}
use Rattle.fm_frames.specs.declared.ends.Ended.TheVariants as end
use Rattle.fm_law_no_fault.specs.Whole.{HasNoFault}
use Rattle.fm_law_same_runs.proofs.Costs.{adds, adds_up, all_went_on, ends_once, goes_before, rises}
use Rattle.fm_law_same_runs.proofs.Matches.{ended_no_match, kept_next, later_costs, later_steps, matches_are_one, number_next, some_frames}
use Rattle.fm_law_same_runs.specs.Beside.{AreAtInserted, AreMatched, Beside, EndedBefore, EndsAs, FewAreInserted, FirstReaches, GoTogether, HasMatch, HasWords, IsWant, IsWithoutFault, kept_cost, kept_steps, most_inserted_steps, OfRoom, OfWords, LastMatched, NoneMatched, SecondReaches, steps_allowed}
use Rattle.fm_law_same_runs.specs.Laws.{ArePaced, FirstGoesOn, GoBySteps, MatchesKeepPace, PacedRunsGoTogether, PacedRunsHaveNoFault, SecondGoesOn}
use Rattle.fm_law_same_runs.specs.Paces.{CatchesUp, EndsAlike, EndsInWant, GoesAlong, KeepPaces, KeepsPace, Opens, OpensAtEnd, OpensInPace, OpensInWant, StaysInPace}

-- ---- numbers

-- the second run falls back by a few inserted steps more
behind_more : (most k x y price count : ℕ) → y ≤ x + most * (k + 1) → count ≤ most → (y + price) + count ≤ (x + price) + most * (suc k + 1)
behind_more most k x y price count behind few =
    let more : most * suc (k + 1) ≡ most * (k + 1) + most = mul-suc most (k + 1) in
    let same : most * (suc k + 1) ≡ most * suc (k + 1) = ap (λ n. most * n) (omega arith) in omega (arith, behind, few, more, same)

-- what is behind by so much is within the second budget where the first run is within its own
within_allowed : (most k x y steps : ℕ) → y ≤ x + most * (k + 1) → k ≤ x → x ≤ steps → y ≤ steps + most * (steps + 1)
within_allowed most k x y steps behind least within =
    let le : most * (k + 1) ≤ most * (steps + 1) = mul-le-mul_left most (omega (arith, least, within)) in omega (arith, behind, within, le)

-- steps that rise by the same, and by how much
risen : (x y after other : ℕ) → other + x ≡ after + y → y ≤ other → x + (other - y) ≡ after
risen x y after other same le = omega (arith, same, le)

-- ---- what inserted steps leave

module _ (b : Beside) where
  cost_stays : (l count : ℕ) → AreAtInserted b l count → kept_cost b.marks b.ys (l + count) ≡ kept_cost b.marks b.ys l
  cost_stays l zero inserted = ap (λ n. kept_cost b.marks b.ys n) none where
    none : l + 0 ≡ l
    none = omega arith
  cost_stays l (suc count) inserted =
      ap (λ n. kept_cost b.marks b.ys n) next ∙ kept_next b.marks b.ys (l + count) false (inserted count less).inserted ∙ nothing
      ∙ cost_stays l count (λ j before. inserted j (omega (arith, before))) where
        next : l + suc count ≡ suc (l + count)
        next = omega arith

        less : count < suc count
        less = omega arith

        nothing : kept_cost b.marks b.ys (l + count) + 0 ≡ kept_cost b.marks b.ys (l + count)
        nothing = omega arith

  number_stays : (l count : ℕ) → AreAtInserted b l count → kept_steps b.marks b.ys (l + count) ≡ kept_steps b.marks b.ys l
  number_stays l zero inserted = ap (λ n. kept_steps b.marks b.ys n) none where
    none : l + 0 ≡ l
    none = omega arith
  number_stays l (suc count) inserted =
      ap (λ n. kept_steps b.marks b.ys n) next ∙ number_next b.marks b.ys (l + count) false (inserted count less).inserted ∙ nothing
      ∙ number_stays l count (λ j before. inserted j (omega (arith, before))) where
        next : l + suc count ≡ suc (l + count)
        next = omega arith

        less : count < suc count
        less = omega arith

        nothing : kept_steps b.marks b.ys (l + count) + 0 ≡ kept_steps b.marks b.ys (l + count)
        nothing = omega arith

-- ---- what is counted

-- what was counted on the way to states that keep pace
record IsAbreast (b : Beside) (k l : ℕ) : Type 0 where
  done : kept_cost b.marks b.ys l ≡ (b.xs k).state.steps
  number : kept_steps b.marks b.ys l ≡ k
  behind : (b.ys l).state.steps ≤ (b.xs k).state.steps + most_inserted_steps b.one b.other * (k + 1)
  least : k ≤ (b.xs k).state.steps
  within : (b.xs k).state.steps ≤ b.steps

module _ (b : Beside) (first second : Choose) (first_goes : FirstGoesOn b first) (second_goes : SecondGoesOn b second) where
  -- ---- states that keep pace

  first_frames : (k l : ℕ) → KeepsPace b k l → 0 < length (b.xs k).state.frames
  first_frames k l pace = let some = some_frames b.marks (b.ys l).state pace.kept in let same = pace.frames in omega (arith, some, same)

  -- the second run reaches them
  reached : (k l : ℕ) → KeepsPace b k l → IsAbreast b k l → SecondReaches b l
  reached k l pace abreast j less = record {
    not_ended = all_went_on b.other second b.ys second_goes j l (omega (arith, less)) pace.second_goes_on;
    within =
        let up =
        adds_up b.other second b.ys second_goes j l less pace.second_goes_on (some_frames b.marks (b.ys l).state pace.kept) in
        let all =
        within_allowed (most_inserted_steps b.one b.other) k (b.xs k).state.steps (b.ys l).state.steps b.steps abreast.behind abreast.least abreast.within in
        omega (arith, up, all);
  }

  -- the step that follows is within the second budget too
  next_goes : (k l : ℕ) → KeepsPace b k l → IsAbreast b k l → FirstReaches b (suc k) → Goes b.other (steps_allowed b.one b.other b.steps) (b.ys l).state
  next_goes k l pace abreast reaches = record {
    not_ended = pace.second_goes_on;
    within =
        let first_within = (reaches k (omega arith)).within in
        let same = pace.next_cost in
        let behind = abreast.behind in
        let least = abreast.least in
        within_allowed (most_inserted_steps b.one b.other) k ((b.xs k).state.steps + cost b.one (b.xs k).state)
        ((b.ys l).state.steps + cost b.other (b.ys l).state) b.steps (omega (arith, behind, same)) (omega (arith, least)) first_within;
  }

  reached_next : (k l : ℕ) → KeepsPace b k l → IsAbreast b k l → FirstReaches b (suc k) → SecondReaches b (suc l)
  reached_next k l pace abreast reaches j less = by_case (cases_lt j l) where
    by_case : (j < l) ⊎ (l ≤ j) → Goes b.other (steps_allowed b.one b.other b.steps) (b.ys j).state
    by_case (inl before) = reached k l pace abreast j before
    by_case (inr after) =
        subst (λ n. Goes b.other (steps_allowed b.one b.other b.steps) (b.ys n).state) is (next_goes k l pace abreast reaches) where
          is : l ≡ j
          is = omega (arith, less, after)

  -- they are matched
  as_matched : (k l : ℕ) → FirstReaches b k → KeepsPace b k l → IsAbreast b k l → AreMatched b k l
  as_matched k l reaches pace abreast = record {
    reached = reaches;
    goes_on = pace.first_goes_on;
    stands = record { reached = reached k l pace abreast; goes_on = pace.second_goes_on; kept = pace.kept; cost = abreast.done };
    printed = pace.printed;
    input = pace.input;
    frames = pace.frames;
    births = pace.births;
    words = pace.words;
  }

  -- ---- the last of them

  -- where the second run ends in its next step, no later state of the first one has a match
  none_later : (k l : ℕ) (e : Ended) → KeepsPace b k l → IsAbreast b k l → (b.ys (suc l)).state.ended ≡ Some e
      → (later m : ℕ) → AreMatched b later m → later ≤ k
  none_later k l e pace abreast ended later m matched = by_order (cases_lt k later) where
    no_later : m < suc l
    no_later = goes_before b.other second b.ys second_goes m (suc l) e matched.stands.goes_on ended

    some : 0 < length (b.xs later).state.frames
    some =
        let kept = some_frames b.marks (b.ys m).state matched.stands.kept in let same = matched.frames in omega (arith, kept, same)

    by_order : (k < later) ⊎ (later ≤ k) → later ≤ k
    by_order (inr le) = le
    by_order (inl less) =
        let up = adds_up b.one first b.xs first_goes k later less matched.goes_on some in
        let price = costs_some b.one (b.xs k).state in
        let costs = later_costs b.marks b.ys m l (omega (arith, no_later)) in
        let here = abreast.done in
        let there = matched.stands.cost in absurd (omega (arith, up, price, costs, here, there))

  -- ---- the next of them

  module _ (IsPace : ℕ → ℕ → Type 0) (paces : (k l : ℕ) → IsPace k l → KeepsPace b k l) where
    -- both steps are counted, and then the inserted ones
    abreast_next : (k l : ℕ) → KeepsPace b k l → IsAbreast b k l → FirstReaches b (suc k) → (c : CatchesUp b IsPace (suc k) (suc l))
        → IsAbreast b (suc k) (suc l + c.count)
    abreast_next k l pace abreast reaches c = record {
      done =
          cost_stays b (suc l) c.count c.inserted ∙ kept_next b.marks b.ys l true pace.kept
          ∙ (let here = abreast.done in let same = pace.next_cost in omega (arith, here, same, first_adds, second_adds));
      number =
          number_stays b (suc l) c.count c.inserted ∙ number_next b.marks b.ys l true pace.kept
          ∙ (let here = abreast.number in omega (arith, here));
      behind =
          let more =
          behind_more (most_inserted_steps b.one b.other) k (b.xs k).state.steps (b.ys l).state.steps (cost b.one (b.xs k).state) c.count abreast.behind c.few in
          let same = pace.next_cost in
          let caught = c.steps in omega (arith, more, same, caught, first_adds, second_adds);
      least = let here = abreast.least in let price = costs_some b.one (b.xs k).state in omega (arith, here, price, first_adds);
      within = let goes = (reaches k (omega arith)).within in omega (arith, goes, first_adds);
    } where
      then_pace : KeepsPace b (suc k) (suc l + c.count)
      then_pace = paces (suc k) (suc l + c.count) c.pace

      first_adds : (b.xs (suc k)).state.steps ≡ (b.xs k).state.steps + cost b.one (b.xs k).state
      first_adds = adds b.one first b.xs first_goes k then_pace.first_goes_on (first_frames k l pace)

      second_adds : (b.ys (suc l)).state.steps ≡ (b.ys l).state.steps + cost b.other (b.ys l).state
      second_adds =
          let going =
          all_went_on b.other second b.ys second_goes (suc l) (suc l + c.count) (omega arith) then_pace.second_goes_on in
          adds b.other second b.ys second_goes l going (some_frames b.marks (b.ys l).state pace.kept)

    -- at the opening only inserted steps are counted
    abreast_first : (b.xs 0).state.steps ≡ 0 → (b.ys 0).state.steps ≡ 0 → (c : CatchesUp b IsPace 0 0) → IsAbreast b 0 (0 + c.count)
    abreast_first none no_steps c = record {
      done = cost_stays b 0 c.count c.inserted ∙ sym none;
      number = number_stays b 0 c.count c.inserted;
      behind = first_behind (most_inserted_steps b.one b.other) (b.xs 0).state.steps (b.ys 0).state.steps c.count c.steps no_steps c.few;
      least = omega arith;
      within = omega (arith, none);
    } where
      first_behind : (most x y count : ℕ) {z : ℕ} → z ≡ y + count → y ≡ 0 → count ≤ most → z ≤ x + most * (0 + 1)
      first_behind most x y count is zero_is few = omega (arith, is, zero_is, few)

-- ---- how far both runs have come

-- they keep pace, or the second one ended before, or both have ended alike and in no fault
data Stage (b : Beside) (IsPace : ℕ → ℕ → Type 0) (k : ℕ) : Type 0 where
  InPace : (l : ℕ) → IsPace k l → IsAbreast b k l → Stage b IsPace k
  InWant : EndedBefore b k → Stage b IsPace k
  AtEnd : (e : Ended) → (b.xs k).state.ended ≡ Some e → HasNoFault (b.xs k).state → EndsAs b k e → Stage b IsPace k

module _ (b : Beside) (first second : Choose) (by_steps : GoBySteps b first second) (has_words : HasWords b) (IsPace : ℕ → ℕ → Type 0) (paces : KeepPaces b IsPace) where
  first_goes : FirstGoesOn b first
  first_goes = by_steps.first_goes

  second_goes : SecondGoesOn b second
  second_goes = by_steps.second_goes

  -- ---- at the opening

  opening_stage : Opens b IsPace → Stage b IsPace 0
  opening_stage (OpensInPace c) =
      InPace (0 + c.count) c.pace
      (abreast_first b first second first_goes second_goes IsPace paces.paces by_steps.first_steps by_steps.second_steps c)
  opening_stage (OpensAtEnd e ended other_ended printed faultless) =
      AtEnd e ended faultless
      (record {
        l = 0;
        reached = λ j less. absurd (omega (arith, less));
        ended = other_ended;
        printed = printed;
        number = refl;
        cost = sym by_steps.first_steps;
      })
  opening_stage (OpensInWant e ended want printed) = InWant
      (record {
        l = 0;
        reached = λ j less. absurd (omega (arith, less));
        end = e;
        ended = ended;
        want = want;
        before = inl refl;
        printed = NoneMatched none printed;
      }) where
        none : (k l : ℕ) → ¬ AreMatched b k l
        none k l matched =
            let less = goes_before b.other second b.ys second_goes l 0 e matched.stands.goes_on ended in absurd (omega (arith, less))

  -- ---- one step of the first run more

  -- what ended before a state ended before the next one
  before_next : (k : ℕ) → EndedBefore b k → EndedBefore b (suc k)
  before_next k h = record {
    l = h.l;
    reached = h.reached;
    end = h.end;
    ended = h.ended;
    want = h.want;
    before = by_case h.before;
    printed = h.printed;
  } where
    by_case : (h.l ≡ 0) ⊎ (kept_cost b.marks b.ys h.l < (b.xs k).state.steps) → (h.l ≡ 0) ⊎ (kept_cost b.marks b.ys h.l < (b.xs (suc k)).state.steps)
    by_case (inl is) = inl is
    by_case (inr less) = let more = rises b.one first b.xs first_goes k in inr (omega (arith, less, more))

  along : (k l : ℕ) → IsPace k l → IsAbreast b k l → FirstReaches b (suc k) → GoesAlong b IsPace k l → Stage b IsPace (suc k)
  along k l pace abreast reaches (StaysInPace c) =
      InPace (suc l + c.count) c.pace
      (abreast_next b first second first_goes second_goes IsPace paces.paces k l (paces.paces k l pace) abreast reaches c)
  along k l pace abreast reaches (EndsAlike e ended other_ended printed same faultless) = AtEnd e ended faultless
      (record {
        l = suc l;
        reached = reached_next b first second first_goes second_goes k l (paces.paces k l pace) abreast reaches;
        ended = other_ended;
        printed = printed;
        number = number_next b.marks b.ys l true (paces.paces k l pace).kept ∙ (let here = abreast.number in omega (arith, here));
        cost =
            kept_next b.marks b.ys l true (paces.paces k l pace).kept
            ∙ ap (λ n. n + ((b.ys (suc l)).state.steps - (b.ys l).state.steps)) abreast.done
            ∙ risen (b.xs k).state.steps (b.ys l).state.steps (b.xs (suc k)).state.steps (b.ys (suc l)).state.steps same
            (rises b.other second b.ys second_goes l);
      })
  along k l pace abreast reaches (EndsInWant e ended want printed no_steps more) = InWant
      (record {
        l = suc l;
        reached = reached_next b first second first_goes second_goes k l (paces.paces k l pace) abreast reaches;
        end = e;
        ended = ended;
        want = want;
        before = inr less;
        printed =
            LastMatched k l (as_matched b first second first_goes second_goes k l earlier (paces.paces k l pace) abreast)
            (none_later b first second first_goes second_goes k l e (paces.paces k l pace) abreast ended)
            (printed ∙ (paces.paces k l pace).printed);
      }) where
        earlier : FirstReaches b k
        earlier = λ j before. reaches j (omega (arith, before))

        less : kept_cost b.marks b.ys (suc l) < (b.xs (suc k)).state.steps
        less =
            let next = kept_next b.marks b.ys l true (paces.paces k l pace).kept in
            let here = abreast.done in omega (arith, next, here, no_steps, more)

  stage : (k : ℕ) → FirstReaches b k → Stage b IsPace k
  stage zero reaches = opening_stage paces.opens
  stage (suc k) reaches = from (stage k (λ j before. reaches j (omega (arith, before)))) where
    from : Stage b IsPace k → Stage b IsPace (suc k)
    from (InPace l pace abreast) = along k l pace abreast reaches (paces.next k l pace reaches (has_words (suc k) reaches))
    from (InWant before) = InWant (before_next k before)
    from (AtEnd e ended faultless alike) = absurd (none-some e (sym (reaches k (omega arith)).not_ended ∙ ended))

  -- ---- the laws

  pub go_together : FewAreInserted b → GoTogether b
  go_together few = record { states = states; ends = ends; few_inserted = few } where
    states : (k : ℕ) → FirstReaches b k → (b.xs k).state.ended ≡ None → EndedBefore b k ⊎ HasMatch b k
    states k reaches going = from (stage k reaches) where
      from : Stage b IsPace k → EndedBefore b k ⊎ HasMatch b k
      from (InPace l pace abreast) =
          let matched : AreMatched b k l = as_matched b first second first_goes second_goes k l reaches (paces.paces k l pace) abreast in
          inr
          (record { l = l; matched = matched; number = abreast.number; once = λ m stands. matches_are_one b second second_goes k m l stands matched.stands })
      from (InWant before) = inl before
      from (AtEnd e ended faultless alike) = absurd (none-some e (sym going ∙ ended))

    ends : (k : ℕ) (e : Ended) → FirstReaches b k → (b.xs k).state.ended ≡ Some e → EndedBefore b k ⊎ EndsAs b k e
    ends k e reaches ended = from (stage k reaches) where
      from : Stage b IsPace k → EndedBefore b k ⊎ EndsAs b k e
      from (InPace l pace abreast) = absurd (none-some e (sym (paces.paces k l pace).first_goes_on ∙ ended))
      from (InWant before) = inl before
      from (AtEnd d is faultless alike) = inr
          (record {
            l = alike.l;
            reached = alike.reached;
            ended = alike.ended ∙ sym is ∙ ended;
            printed = alike.printed;
            number = alike.number;
            cost = alike.cost;
          })

  -- matched states keep pace
  pub matches_keep_pace : (k l : ℕ) → AreMatched b k l → IsPace k l
  matches_keep_pace k l matched = from (stage k matched.reached) where
    from : Stage b IsPace k → IsPace k l
    from (InPace m pace abreast) =
        let other : AreMatched b k m = as_matched b first second first_goes second_goes k m matched.reached (paces.paces k m pace) abreast in
        subst (λ n. IsPace k n) (matches_are_one b second second_goes k m l other.stands matched.stands) pace
    from (InWant before) = absurd (ended_no_match b second second_goes k l before matched.stands)
    from (AtEnd e ended faultless alike) = absurd (none-some e (sym matched.goes_on ∙ ended))

  -- the second run has no fault
  pub no_fault : IsWithoutFault b
  no_fault k l reaches other_reaches few method offset cell ended = from (stage k reaches) where
    from : Stage b IsPace k → ⊥
    from (InPace m pace abreast) =
        let less = goes_before b.other second b.ys second_goes m l (end.Fault method offset cell) (paces.paces k m pace).second_goes_on ended in
        let more = later_steps b.marks b.ys (suc m) l less in
        let next = number_next b.marks b.ys m true (paces.paces k m pace).kept in
        let here = abreast.number in omega (arith, few, more, next, here)
    from (InWant h) =
        let one = ends_once b.other second b.ys second_goes h.l l h.end (end.Fault method offset cell) h.ended ended in by_want h.want one where
          by_want : IsWant b h.end → Some h.end ≡ Some (end.Fault method offset cell) → ⊥
          by_want (OfWords live needed is less) one = absurd (cc)
          by_want (OfRoom made needed is less) one = absurd (cc)
    from (AtEnd e is faultless alike) =
        let one = ends_once b.other second b.ys second_goes alike.l l e (end.Fault method offset cell) alike.ended ended in
        faultless method offset cell (is ∙ one)

-- ---- runs that keep pace by a table

module _ (b : Beside) (paced : ArePaced b) where
  go_together_by : FewAreInserted b → GoTogether b
  go_together_by =
      go_together b paced.first paced.second paced.by_steps paced.has_words (λ k l. paced.places k ≡ Some l) paced.paces

  keep_pace_by : (k l : ℕ) → AreMatched b k l → paced.places k ≡ Some l
  keep_pace_by =
      matches_keep_pace b paced.first paced.second paced.by_steps paced.has_words (λ k l. paced.places k ≡ Some l) paced.paces

  no_fault_by : IsWithoutFault b
  no_fault_by =
      no_fault b paced.first paced.second paced.by_steps paced.has_words (λ k l. paced.places k ≡ Some l) paced.paces

pub paced_go_together : PacedRunsGoTogether
paced_go_together b paced few = go_together_by b paced few

pub matches_paced : MatchesKeepPace
matches_paced b paced k l matched = keep_pace_by b paced k l matched

pub paced_no_fault : PacedRunsHaveNoFault
paced_no_fault b paced = no_fault_by b paced
