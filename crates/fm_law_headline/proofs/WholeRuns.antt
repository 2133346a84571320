-- Whole runs of two programs on memory that reuses cells: the first one is brought over to memory that is never reused, and there the other one does the same.
use Rattle.std.proofs.Common.{◌≡◌, ◌⊎◌, inl, inr, ℕ, zero, suc, ◌+◌, ◌<◌, ◌≤◌, true, List, [], ◌++◌, length, Option, Some, None, refl, sym, ◌∙◌, ap, subst, append_assoc, arith}
use Rattle.std.proofs.lemmas.Bool.{cases_lt, false≢true}
use Rattle.std.proofs.lemmas.List.{append-nil}
use Rattle.std.proofs.lemmas.Option.{none-some, same_Some}
use Rattle.fm_base.specs.declared.limits.TheConstants.{MAX_LIVE_WORDS, MAX_MADE_WORDS}
use Rattle.fm_cells.specs.Choices.{lawful, never_choice}
use Rattle.fm_cells.specs.Stores.{opened}
use Rattle.fm_frames.specs.Acts.{Choose}
use Rattle.fm_frames.specs.Runnable.{IsRunnable}
use Rattle.fm_frames.specs.Runs.{after, Goes, Job, opening}
use Rattle.fm_frames.specs.States.{Moved, State}
use Rattle.fm_frames.specs.Steps.{cost, step}
use Rattle.fm_frames.specs.declared.ends.Ended.{Ended}
use Rattle.fm_frames.specs.declared.ends.Ended.TheVariants as end
use Rattle.fm_law_headline.proofs.DeepCosts.{done_within}
use Rattle.fm_law_same_runs.proofs.Costs.{adds_up, ends_once, goes_before, rises}
use Rattle.fm_law_same_runs.proofs.Openings.{runs_go}
use Rattle.fm_law_same_runs.specs.Beside.{Beside, EndedBefore, EndsAs, FirstReaches, GoTogether, HasWords, IsWant, LastMatched, Marks, never_run, NoneMatched, OfRoom, OfWords, PrintedAsMatched, reuse_run, runs_of, Same, SecondReaches, steps_allowed}
use Rattle.fm_law_same_runs.specs.Laws.{GoBySteps}
use Rattle.fm_law_same_runs.specs.Programs.{AreWholeRuns, EndsTheSame, HasFewSteps, HasFewWords, IsAsFar, is_done, WholeRuns}
use Rattle.fm_law_sound.specs.Making.{ArgumentsFit}
use Rattle.fm_law_two_memories.specs.Reuses.{DoesTheSameOnMemories, EndsLike, HaveDoneTheSame}
use Rattle.fm_law_two_memories.specs.Runs.{IsPrefix, IsRoomy}
use Rattle.fm_world.specs.Programs.{Program}

-- ---- prefixes of what a run prints

prefix_self : (printed : List ℕ) → IsPrefix printed printed
prefix_self printed = ([], sym (append-nil printed))

prefix_of_none : (printed all : List ℕ) → printed ≡ [] → IsPrefix printed all
prefix_of_none printed all none = (all, sym (ap (λ bytes. bytes ++ all) none))

prefix_then : (one two three : List ℕ) → IsPrefix one two → IsPrefix two three → IsPrefix one three
prefix_then one two three first second = (first.0 ++ second.0, second.1 ∙ ap (λ bytes. bytes ++ second.0) first.1 ∙ append_assoc one first.0 second.0)

-- what was printed after some steps begins what was printed after more
printed_later : (p : Program) (choose : Choose) (start : Moved) (k l : ℕ) → k ≤ l → IsPrefix (after p choose k start).printed (after p choose l start).printed
unfolding after
printed_later p choose start k zero le =
    let none : k ≡ zero = omega (arith, le) in
    subst (λ n. IsPrefix (after p choose n start).printed (after p choose zero start).printed) (sym none) (prefix_self (after p choose zero start).printed)
printed_later p choose start k (suc l) le = by_place (cases_lt l k) (printed_later p choose start k l) where
  by_place : (l < k) ⊎ (k ≤ l) → (k ≤ l → IsPrefix (after p choose k start).printed (after p choose l start).printed)
      → IsPrefix (after p choose k start).printed (after p choose (suc l) start).printed
  by_place (inl less) before =
      let same : k ≡ suc l = omega (arith, le, less) in
      subst (λ n. IsPrefix (after p choose n start).printed (after p choose (suc l) start).printed) (sym same) (prefix_self (after p choose (suc l) start).printed)
  by_place (inr no_more) before =
      prefix_then (after p choose k start).printed (after p choose l start).printed (after p choose (suc l) start).printed (before no_more)
      ((step p choose (after p choose l start).state).printed, refl)

-- ---- ends

-- where the second run of one program hasn't ended, the first one hasn't
going_like : (a b : Option Ended) → EndsLike a b → b ≡ None → a ≡ None
going_like None b like going = refl
going_like (Some (end.Fault method offset cell)) b like going = absurd (none-some (end.Fault method offset like.0) (sym going ∙ like.1))
going_like (Some e) b like going = absurd (none-some e (sym going ∙ like))

-- where the second one ended as its program does, so did the first one
ended_like : (a b : Option Ended) (e : Ended) → EndsLike a b → b ≡ Some e → is_done e ≡ true → a ≡ Some e
ended_like None b e like ended done = absurd (none-some e (sym like ∙ ended))
ended_like (Some (end.Fault method offset cell)) b e like ended done =
    absurd (false≢true (ap is_done (same_Some (end.Fault method offset like.0) e (sym like.1 ∙ ended)) ∙ done))
ended_like (Some d) b e like ended done = sym like ∙ ended

-- words that are wanted are no end of a program
done_has_words : (e : Ended) (live needed : ℕ) → is_done e ≡ true → e ≡ end.Exhausted live needed → ⊥
done_has_words e live needed done is = false≢true (sym (ap is_done is) ∙ done)

below : (a b c : ℕ) → a < b → b ≤ c → a < c
below a b c first second = omega (arith, first, second)

-- ---- what is known of the first program

-- It does the same on two memories, and while it goes on there is a frame.
pub record IsKnown (p : Program) : Type 0 where
  pub runnable : IsRunnable p
  pub alike : DoesTheSameOnMemories p
  pub running : (job : Job) → ArgumentsFit job.arguments → (words : ℕ) → words ≤ MAX_LIVE_WORDS → (k : ℕ)
      → (never_run p job words k).state.ended ≡ None → 0 < length (never_run p job words k).state.frames

unlimited : (words : ℕ) → IsRoomy None words
unlimited words limit is = absurd (none-some limit is)

roomy : (words : ℕ) → words ≤ MAX_LIVE_WORDS → IsRoomy (Some MAX_MADE_WORDS) words
roomy words few limit is = let same = same_Some MAX_MADE_WORDS limit is in omega (arith, few, same)

module _ (r : WholeRuns) (are : AreWholeRuns r) (known : IsKnown r.one) (marks : Marks) (same : Same r.one r.other marks) where
  -- ---- the first run on memory that is never reused

  abbrev xs : ℕ → Moved
  xs k = never_run r.one are.job r.words k

  abbrev zs : ℕ → Moved
  zs k = after r.one (lawful are.first) k (opening r.one (lawful are.first) are.job (opened r.words (Some MAX_MADE_WORDS) are.free))

  abbrev ys : ℕ → Moved
  ys l = reuse_run r.other are.second are.job r.other_words are.freed l

  abbrev b : Beside
  b = runs_of r.one r.other marks (r.x.state.steps + 1) r.words r.other_words are.job are.second are.freed

  by_steps : GoBySteps b (lawful never_choice) (lawful are.second)
  by_steps = runs_go r.one r.other marks (r.x.state.steps + 1) r.words r.other_words are.job are.second are.freed

  did : (k : ℕ) → HaveDoneTheSame (xs k) (zs k)
  did k =
      known.alike never_choice are.first are.job are.given.arguments r.words None (Some MAX_MADE_WORDS) [] are.free are.words
      (unlimited r.words) (roomy r.words are.words) k

  first_ended : (xs are.first_run.count).state.ended ≡ Some are.end
  first_ended =
      let n = are.first_run.count in
      ended_like (xs n).state.ended (zs n).state.ended are.end (did n).ended
      (ap (λ (m : Moved). m.state.ended) (sym are.first_run.is) ∙ are.ended) are.done

  first_steps : r.x.state.steps ≡ (xs are.first_run.count).state.steps
  first_steps = ap (λ (m : Moved). m.state.steps) are.first_run.is ∙ (did are.first_run.count).steps

  first_printed : r.x.printed ≡ (xs are.first_run.count).printed
  first_printed = ap (λ (m : Moved). m.printed) are.first_run.is ∙ (did are.first_run.count).printed

  goes_on : (j : ℕ) → j < are.first_run.count → (xs j).state.ended ≡ None
  goes_on j less = going_like (xs j).state.ended (zs j).state.ended (did j).ended (are.first_run.goes j less).not_ended

  within : (j n : ℕ) → n ≡ are.first_run.count → j < n → (xs j).state.steps + cost r.one (xs j).state ≤ r.x.state.steps + 1
  within j zero is less = absurd (omega (arith, less))
  within j (suc m) is less = by_place (cases_lt j m) where
    still : (xs m).state.ended ≡ None
    still = goes_on m (omega (arith, is))

    last_steps : r.x.state.steps ≡ (xs (suc m)).state.steps
    last_steps = first_steps ∙ ap (λ k. (xs k).state.steps) (sym is)

    by_place : (j < m) ⊎ (m ≤ j) → (xs j).state.steps + cost r.one (xs j).state ≤ r.x.state.steps + 1
    by_place (inl before) =
        let some = known.running are.job are.given.arguments r.words are.words m still in
        let low = adds_up r.one (lawful never_choice) xs by_steps.first_goes j m before still some in
        let rise = rises r.one (lawful never_choice) xs by_steps.first_goes m in omega (arith, low, rise, last_steps)
    by_place (inr after) =
        let here : m ≡ j = omega (arith, less, after) in
        let next : (xs (suc m)).state ≡ (step r.one (lawful never_choice) (xs m).state).state = by_steps.first_goes m in
        let ends : (step r.one (lawful never_choice) (xs m).state).state.ended ≡ Some are.end =
        ap (λ (x : State). x.ended) (sym next) ∙ ap (λ k. (xs k).state.ended) is ∙ first_ended in
        let low = done_within r.one known.runnable (lawful never_choice) (xs m).state still are.end ends are.done in
        let counted : (xs (suc m)).state.steps ≡ (step r.one (lawful never_choice) (xs m).state).state.steps = ap (λ (x : State). x.steps) next in
        subst (λ k. (xs k).state.steps + cost r.one (xs k).state ≤ r.x.state.steps + 1) here (omega (arith, low, counted, last_steps))

  reaches : FirstReaches b are.first_run.count
  reaches j less = record { not_ended = goes_on j less; within = within j are.first_run.count refl less }

  has_words : HasWords b
  has_words k reached lacks =
      done_has_words are.end lacks.0 lacks.1 are.done
      (same_Some are.end (end.Exhausted lacks.0 lacks.1)
      (ends_once r.one (lawful never_choice) xs by_steps.first_goes are.first_run.count k are.end (end.Exhausted lacks.0 lacks.1) first_ended lacks.2))

  together : GoTogether b
  together =
      same are.job are.given (r.x.state.steps + 1) r.words r.other_words (let few = are.words in omega (arith, few)) are.other_words are.second are.freed
      has_words

  -- ---- where the second run stops

  second_prefix : (l : ℕ) → are.second_run.count ≤ l → IsPrefix r.y.printed (ys l).printed
  second_prefix l le =
      subst (λ (m : Moved). IsPrefix m.printed (ys l).printed) (sym are.second_run.is)
      (printed_later r.other (lawful are.second)
      (opening r.other (lawful are.second) are.job (opened r.other_words (Some MAX_MADE_WORDS) are.freed)) are.second_run.count l le)

  -- it has ended by then, so it stops there or before
  no_later : (l : ℕ) (e : Ended) → (ys l).state.ended ≡ Some e → are.second_run.count ≤ l
  no_later l e ended = by_place (cases_lt l are.second_run.count) where
    by_place : (l < are.second_run.count) ⊎ (are.second_run.count ≤ l) → are.second_run.count ≤ l
    by_place (inl less) = absurd (none-some e (sym (are.second_run.goes l less).not_ended ∙ ended))
    by_place (inr le) = le

  stops_early : (l : ℕ) → SecondReaches b l → are.second_run.count < l → IsPrefix (ys l).printed r.x.printed → IsAsFar r
  stops_early l reached less prefix = by_budget (cases_lt r.other_steps next) where
    next : ℕ
    next = (ys are.second_run.count).state.steps + cost r.other (ys are.second_run.count).state

    goes : Goes r.other (steps_allowed r.one r.other (r.x.state.steps + 1)) (ys are.second_run.count).state
    goes = reached are.second_run.count less

    by_budget : (r.other_steps < next) ⊎ (next ≤ r.other_steps) → IsAsFar r
    by_budget (inr le) = absurd (are.second_run.stops (record { not_ended = goes.not_ended; within = le }))
    by_budget (inl fewer) =
        HasFewSteps (ap (λ (m : Moved). m.state.ended) are.second_run.is ∙ goes.not_ended)
        (below r.other_steps next (steps_allowed r.one r.other (r.x.state.steps + 1)) fewer goes.within)
        (prefix_then r.y.printed (ys l).printed r.x.printed (second_prefix l (omega (arith, less))) prefix)

  -- the second run stops at this state or before
  stops_by : (l : ℕ) (e : Ended) → SecondReaches b l → (ys l).state.ended ≡ Some e → IsPrefix (ys l).printed r.x.printed
      → (are.second_run.count ≡ l → IsAsFar r) → IsAsFar r
  stops_by l e reached ended prefix here = by_place (cases_lt are.second_run.count l) where
    by_place : (are.second_run.count < l) ⊎ (l ≤ are.second_run.count) → IsAsFar r
    by_place (inl less) = stops_early l reached less prefix
    by_place (inr le) = let before = no_later l e ended in here (omega (arith, le, before))

  -- ---- both ends

  ends_alike : EndsAs b are.first_run.count are.end → IsAsFar r
  ends_alike h = stops_by h.l are.end h.reached h.ended prefix here where
    all : (ys h.l).printed ≡ r.x.printed
    all = h.printed ∙ sym first_printed

    prefix : IsPrefix (ys h.l).printed r.x.printed
    prefix = subst (λ bytes. IsPrefix bytes r.x.printed) (sym all) (prefix_self r.x.printed)

    here : are.second_run.count ≡ h.l → IsAsFar r
    here is =
        let at : r.y ≡ ys h.l = are.second_run.is ∙ ap (λ l. ys l) is in
        EndsTheSame (ap (λ (m : Moved). m.state.ended) at ∙ h.ended ∙ sym are.ended) (ap (λ (m : Moved). m.printed) at ∙ all)

  matched_prefix : (printed : List ℕ) → PrintedAsMatched b printed → IsPrefix printed r.x.printed
  matched_prefix printed (NoneMatched none empty) = prefix_of_none printed r.x.printed empty
  matched_prefix printed (LastMatched k l matched last is) =
      let less = goes_before r.one (lawful never_choice) xs by_steps.first_goes k are.first_run.count are.end matched.goes_on first_ended in
      let earlier = printed_later r.one (lawful never_choice) (opening r.one (lawful never_choice) are.job (opened r.words None [])) k are.first_run.count
      (omega (arith, less)) in
      subst (λ bytes. IsPrefix bytes r.x.printed) (sym is)
      (subst (λ bytes. IsPrefix (xs k).printed bytes) (sym first_printed) earlier)

  ends_before : EndedBefore b are.first_run.count → IsAsFar r
  ends_before h = stops_by h.l h.end h.reached h.ended (matched_prefix (ys h.l).printed h.printed) (by_want h.want) where
    by_want : IsWant b h.end → are.second_run.count ≡ h.l → IsAsFar r
    by_want (OfRoom made needed is many) at = let few = are.words in absurd (omega (arith, few, many))
    by_want (OfWords live needed is less) at =
        let here : r.y ≡ ys h.l = are.second_run.is ∙ ap (λ l. ys l) at in
        HasFewWords (live, needed, ap (λ (m : Moved). m.state.ended) here ∙ h.ended ∙ ap Some is) less
        (subst (λ (m : Moved). IsPrefix m.printed r.x.printed) (sym here) (matched_prefix (ys h.l).printed h.printed))

  pub whole_runs : IsAsFar r
  whole_runs = by_end (together.ends are.first_run.count are.end reaches first_ended) where
    by_end : EndedBefore b are.first_run.count ⊎ EndsAs b are.first_run.count are.end → IsAsFar r
    by_end (inl before) = ends_before before
    by_end (inr alike) = ends_alike alike
