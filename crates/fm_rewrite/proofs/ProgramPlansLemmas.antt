-- What is to be done with all methods is so by the facts of the whole program.
use Rattle.std.proofs.Common.{◌≡◌, ◌⊎◌, refl, sym, ◌∙◌, subst, ℕ, zero, suc, ◌<◌, ◌≤◌, ⊎_elim, inl, inr, Bool, List, [], length, false, Option, Some, None, arith}
use Rattle.std.proofs.lemmas.Bool.{cases_lt}
use Rattle.std.proofs.lemmas.List.{get_or_past}
use Rattle.std.proofs.lemmas.Option.{none-some}
use Rattle.fm_summ_shapes.proofs.LeastLemmas.{least_link_alike}
use Rattle.fm_summ_shapes.proofs.ShapesLemmas.{code_facts}
use Rattle.fm_summ_shapes.specs.Analysed.{AreAnalysable, AreLeastTypings}
use Rattle.fm_base.proofs.OptionFacts.{IsSomeAnd-at_some}
use Rattle.fm_check.specs.Checking.{IsLeastTyping}
use Rattle.fm_code.specs.declared.code_array.Code.{Code}
use Rattle.fm_conn.specs.Classes.{AreClassesOf}
use Rattle.fm_conn.specs.Facts.{Facts}
use Rattle.fm_conn.specs.Links.{Typings}
use Rattle.fm_conn.specs.Shapes.{method_with}
use Rattle.fm_conn.specs.Summaries.{is_linked, linked_by}
use Rattle.fm_conn.specs.declared.class_numbers.Classes.{Classes}
use Rattle.fm_conn.specs.declared.summaries.Summaries.{Summaries}
use Rattle.fm_flow.specs.LiveRows.{IsLiveRowsOf}
use Rattle.fm_flow.specs.declared.live_rows.LiveRows.{LiveRows}
use Rattle.fm_place.specs.Insertions.{all_insertions}
use Rattle.fm_place.specs.PlansBy.{IsPlanOf, IsToldBy}
use Rattle.fm_rewrite.proofs.MethodsLemmas.{planned_without_code}
use Rattle.fm_rewrite.specs.Plans.{ArePlanned, ArePlannedBy, IsPlanned, IsPlannedByFacts, IsPlannedIn, LinkAlike, planned_at}
use Rattle.fm_summ.proofs.FactLemmas.{answers_are_facts}
use Rattle.fm_summ.specs.Answers.{Answers, facts_of}
use Rattle.fm_summ.specs.Exact.{AreExact}
use Rattle.fm_types.specs.States.{TypeState}
use Rattle.fm_types.specs.Typed.{IsTypingOf}
use Rattle.fm_place_weave.specs.declared.planned.Planned.{Planned}
use Rattle.fm_place_weave.specs.declared.planned.Planned.TheVariants as planned
use Rattle.fm_world.specs.Programs.{code_at, Program}

module _ (p : Program) (s : Summaries) (chains : Bool) where
  -- ---- what is returned for one method, with other results where it has no code

  abbrev states_in : (method : ℕ) (o : Option Code) (d : Planned) → IsPlannedIn p s method o chains d → List (Option TypeState)
  states_in method None d is = []
  states_in method (Some code) d is = is.plan_is.states

  abbrev live_in : LiveRows → (method : ℕ) (o : Option Code) (d : Planned) → IsPlannedIn p s method o chains d → LiveRows
  live_in other method None d is = other
  live_in other method (Some code) d is = is.plan_is.live

  abbrev classes_in : Classes → (method : ℕ) (o : Option Code) (d : Planned) → IsPlannedIn p s method o chains d → Classes
  classes_in other method None d is = other
  classes_in other method (Some code) d is = is.plan_is.classes

  least_in : (method : ℕ) (o : Option Code) (d : Planned) (is : IsPlannedIn p s method o chains d) (code : Code) → o ≡ Some code
      → IsLeastTyping p method (states_in method o d is)
  least_in method None d is code found = absurd cc
  least_in method (Some own) d is code found = is.plan_is.least

  live_are_in : (other : LiveRows) (method : ℕ) (o : Option Code) (d : Planned) (is : IsPlannedIn p s method o chains d) (code : Code) → o ≡ Some code
      → IsLiveRowsOf code (live_in other method o d is)
  live_are_in other method None d is code found = absurd cc
  live_are_in other method (Some own) d is code found =
      let same : own ≡ code = cc in subst (λ c. IsLiveRowsOf c is.plan_is.live) same is.plan_is.live_are

  classes_are_in : (other : Classes) (method : ℕ) (o : Option Code) (d : Planned) (is : IsPlannedIn p s method o chains d) (code : Code) → o ≡ Some code
      → AreClassesOf (linked_by s) (method_with p method code (states_in method o d is)) (classes_in other method o d is)
  classes_are_in other method None d is code found = absurd cc
  classes_are_in other method (Some own) d is code found =
      let same : own ≡ code = cc in
      subst (λ c. AreClassesOf (linked_by s) (method_with p method c is.plan_is.states) is.plan_is.classes) same is.plan_is.classes_are

  done_in : (other : LiveRows) (others : Classes) (facts : Facts) → LinkAlike facts s → (method : ℕ) (o : Option Code) (d : Planned)
      → (is : IsPlannedIn p s method o chains d) → facts.typing method ≡ states_in method o d is
      → IsToldBy facts method (classes_in others method o d is) (live_in other method o d is) → (code : Code) → o ≡ Some code
      → IsPlannedByFacts p facts method code chains d
  done_in other others facts linked method None d is states told code found = absurd cc
  done_in other others facts linked method (Some own) d is states told code found =
      let same : own ≡ code = cc in
      subst (λ c. IsPlannedByFacts p facts method c chains d) same (record {
        plan = is.plan;
        plan_is = subst (λ states. IsPlanOf (all_insertions facts (method_with p method own states)) is.plan) (sym states) (is.plan_is.plan_is facts told linked);
        held = is.held;
        held_is = is.held_is;
        planned_is = is.planned_is;
      })

  same_in : (method : ℕ) (o : Option Code) (d : Planned) → IsPlannedIn p s method o chains d → o ≡ None → d ≡ planned.Same
  same_in method None d is none = is
  same_in method (Some code) d is none = absurd cc

  -- ---- all methods

  module _ (done : List Planned) (may : AreAnalysable p) (are : ArePlannedBy p s chains done) where
    past : (method : ℕ) → length done ≤ method → (o : Option Code) → code_at p method ≡ o → code_at p method ≡ None
    past method beyond None is = is
    past method beyond (Some code) is = absurd (let inside = (code_facts p method code may is).0.inside in omega (arith, inside, are.one_each, beyond))

    all : (method : ℕ) → IsPlanned p s method chains (planned_at done method)
    all method = ⊎_elim
        (λ (inside : method < length done). are.each method inside)
        (λ (beyond : length done ≤ method).
        subst (IsPlanned p s method chains) (sym (get_or_past done method planned.Same beyond))
        (planned_without_code p s chains method (past method beyond (code_at p method) refl)))
        (cases_lt method (length done))

    abbrev answers_with : LiveRows → Classes → Answers
    answers_with other others = record {
      typings = λ method. states_in method (code_at p method) (planned_at done method) (all method);
      live = λ method. live_in other method (code_at p method) (planned_at done method) (all method);
      classes = λ method. classes_in others method (code_at p method) (planned_at done method) (all method);
      summaries = s;
    }

    -- there are results for some method
    with_answers : (other : LiveRows) (others : Classes) (typings : Typings) → AreLeastTypings p typings → AreExact p typings s → ArePlanned p chains done
    with_answers other others typings least exact = record {
      facts = facts_of (answers_with other others);
      exact = answers_are_facts p (answers_with other others) (record {
        summaries =
            least_link_alike p typings (answers_with other others).typings least
            (λ method code is. least_in method (code_at p method) (planned_at done method) (all method) code is) s exact;
        methods = λ method code is. record {
          typing =
              let least = least_in method (code_at p method) (planned_at done method) (all method) code is in
              IsSomeAnd-at_some (code_at p method) (λ c. IsTypingOf p method c ((answers_with other others).typings method)) code is least.typing;
          live = live_are_in other method (code_at p method) (planned_at done method) (all method) code is;
          classes = classes_are_in others method (code_at p method) (planned_at done method) (all method) code is;
        };
      });
      least = λ method code is. least_in method (code_at p method) (planned_at done method) (all method) code is;
      one_each = are.one_each;
      coded = λ method code is.
          done_in other others (facts_of (answers_with other others)) (λ m a b. refl) method (code_at p method) (planned_at done method) (all method) refl
          (record { class = λ node. refl; lives = λ k j. refl }) code is;
      others = λ method none. same_in method (code_at p method) (planned_at done method) (all method) none;
    }

    -- there is no method with code
    without : ((method : ℕ) → code_at p method ≡ None) → (typings : Typings) → AreExact p typings s → ArePlanned p chains done
    without none typings exact = record {
      facts = record { typing = typings; linked = is_linked s; live = λ method local item. false; class = λ method node. 0 };
      exact = record {
        linked = λ method a b first second. (
          λ told. exact.links.no_more method a b told,
          λ linked. exact.links.all method a b first second linked,
        );
        methods = λ method code is. absurd (none-some code (sym (none method) ∙ is));
      };
      least = λ method code is. absurd (none-some code (sym (none method) ∙ is));
      one_each = are.one_each;
      coded = λ method code is. absurd (none-some code (sym (none method) ∙ is));
      others = λ method without. same_in method (code_at p method) (planned_at done method) (all method) without;
    }

    answered : (method : ℕ) (o : Option Code) (d : Planned) → IsPlannedIn p s method o chains d → (LiveRows × Classes) ⊎ (o ≡ None)
    answered method None d is = inr refl
    answered method (Some code) d is = inl (is.plan_is.live, is.plan_is.classes)

    found : (n : ℕ) → (LiveRows × Classes) ⊎ ((method : ℕ) → method < n → code_at p method ≡ None)
    found zero = inr (λ method below. absurd (omega (arith, below)))
    found (suc n) = ⊎_elim
        (λ some. inl some)
        (λ (none : (method : ℕ) → method < n → code_at p method ≡ None).
        ⊎_elim
        (λ some. inl some)
        (λ (last : code_at p n ≡ None).
        inr (λ method below. ⊎_elim (λ (earlier : method < n). none method earlier)
        (λ (same : n ≤ method). let is : n ≡ method = omega (arith, below, same) in subst (λ m. code_at p m ≡ None) is last)
        (cases_lt method n)))
        (answered n (code_at p n) (planned_at done n) (all n)))
        (found n)

    pub are_planned : (typings : Typings) → AreLeastTypings p typings → AreExact p typings s → ArePlanned p chains done
    are_planned typings least exact = ⊎_elim
        (λ (some : LiveRows × Classes). with_answers some.0 some.1 typings least exact)
        (λ (none : (method : ℕ) → method < length done → code_at p method ≡ None).
        without (λ method. ⊎_elim (λ (inside : method < length done). none method inside)
        (λ (beyond : length done ≤ method). past method beyond (code_at p method) refl) (cases_lt method (length done))) typings exact)
        (found (length done))
