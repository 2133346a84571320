-- Classes that safe insertions give are the given ones by what is to be done with their methods, and so none of them is refused.
use Rattle.std.proofs.Common.{◌≡◌, refl, sym, ◌∙◌, ap, subst, ℕ, zero, suc, ◌+◌, ◌-◌, ◌<◌, ◌≤◌, ⊎_elim, Bool, true, false, cond, not, List, [], ◌∷◌, length, map, drop, get_or, replicate, Option, Some, None, arith}
use Rattle.std.specs.Prelude.{nat_lt}
use Rattle.std.specs.List.{AllByRecursion, flat_map, range_with_len}
use Rattle.std.specs.Option.{option_map}
use Rattle.std.proofs.lemmas.Bool.{and_from, cases_lt, le-ltb}
use Rattle.std.proofs.lemmas.List.{get_or_append_left, length-replicate}
use Rattle.std.proofs.lemmas.Option.{none-some, same_Some}
use Rattle.fm_code.specs.Members.{code_of, MethodIsValid}
use Rattle.fm_code.specs.Spells.{HasSpelling}
use Rattle.fm_code.specs.declared.class_file.ClassDef.{ClassDef}
use Rattle.fm_code.specs.declared.class_file.Member.{Member}
use Rattle.fm_code.specs.declared.code_array.Code.{Code}
use Rattle.fm_code.specs.declared.code_array.Item.{Item}
use Rattle.fm_code.specs.declared.constant_pool.Entry.{Entry}
use Rattle.fm_conn.specs.Links.{typed_method}
use Rattle.fm_conn.specs.Nodes.{TypedMethod}
use Rattle.fm_place.specs.Insertions.{after_at, before_at, Insertions}
use Rattle.fm_place.specs.PlansBy.{paired}
use Rattle.fm_place.specs.Rewriting.{first_given, Plans, rewritten}
use Rattle.fm_place.specs.Safe.{AreSafe}
use Rattle.fm_place.specs.Woven.{woven_code}
use Rattle.fm_base.specs.declared.limits.TheConstants.{MAX_STACK_WORDS}
use Rattle.fm_audit_classes.specs.declared.low.TheConstants.{MAX_WOVEN_STACK_WORDS}
use Rattle.fm_place.specs.declared.plans.Plan.{Plan}
use Rattle.fm_place_weave.specs.declared.planned.Planned.{Planned}
use Rattle.fm_place_weave.specs.declared.planned.Planned.TheVariants as planned
use Rattle.fm_rewrite.proofs.JudgedLemmas.{judged_analysable, judged_spelled}
use Rattle.fm_rewrite.proofs.ProgramMeantLemmas.{code_given, methods_counted}
use Rattle.fm_rewrite.specs.Plans.{planned_at}
use Rattle.fm_rewrite.specs.Rewritten.{AreJudged}
use Rattle.fm_rewrite.specs.inner.ByPlans.{method_count, others, own}
use Rattle.fm_summ_shapes.proofs.ShapesLemmas.{code_facts}
use Rattle.fm_world.specs.BuiltIns.{built_in}
use Rattle.fm_world.specs.Members.{methods_of}
use Rattle.fm_world.specs.Programs.{code_at, codes_of, Program, program_of}
use Rattle.fm_audit.proofs.FewLemmas.{pairs_few}
use Rattle.fm_audit.proofs.OwnLemmas.{nulls_own}
use Rattle.fm_audit.proofs.WovenReadLemmas.{woven_is_read}
use Rattle.fm_audit.specs.NewCodes.{AllStay, new_free_of, new_items_of, StaysIn}
use Rattle.fm_audit.specs.ReadBack.{read_by}
use Rattle.fm_audit.specs.Reading.{nulls, read}
use Rattle.fm_audit.specs.SafeMethods.{AreSafelyInserted}
use Rattle.fm_audit.specs.SafePlans.{IsListedIn}
use Rattle.fm_audit.specs.declared.methods.NewCode.{NewCode}
use Rattle.fm_audit_classes.proofs.AuditedLemmas.{all_inserted, no_chain, safe_plain}
use Rattle.fm_audit_classes.proofs.NewCodeLemmas.{all_few, all_new, IsNewFor, no_code}
use Rattle.fm_audit_classes.proofs.NumberedLemmas.{classes_each}
use Rattle.fm_audit_classes.proofs.StillLemmas.{pair_given}
use Rattle.fm_audit_classes.proofs.WovenClassLemmas.{classes_are}
use Rattle.fm_audit_classes.specs.Audited.{AreSafePlans, HaveStack}
use Rattle.fm_audit_classes.specs.inner.Codes.{pair_of, written_codes}
use Rattle.fm_audit_classes.specs.inner.Found.{AreLowEach, AreWhollyWritten}
use Rattle.fm_audit_classes.specs.inner.Inserted.{AreEachClass, AreEachMethod}
use Rattle.fm_audit_classes.specs.inner.Low.{are_low, is_low, is_low_in}

-- ---- methods without code

none_at : (n i : ℕ) → get_or (replicate {A = Option Code} n None) i None ≡ None
none_at zero i = refl
none_at (suc n) zero = refl
none_at (suc n) (suc i) = none_at n i

bare_before : (given : List ClassDef) (main : List ℕ) (method : ℕ) → method < first_given → code_at (program_of given main) method ≡ None
unfolding program_of codes_of
bare_before given main method inside =
    let front : List (Option Code) = replicate (length (methods_of built_in)) None in
    let count : length front ≡ length (methods_of built_in) = length-replicate (length (methods_of built_in)) None in
    get_or_append_left front (flat_map (λ (c : ClassDef). map code_of c.methods) given) None method (omega (arith, inside, count))
    ∙ none_at (length (methods_of built_in)) method

-- ---- room

low_methods : (first : ℕ) (done : List Planned) (methods : List Member) → AreEachMethod (λ n d m. is_low d m ≡ true) first done methods → are_low done methods ≡ true
low_methods first [] [] low = refl
low_methods first [] (m ∷ methods) low = absurd low
low_methods first (d ∷ done) [] low = absurd low
low_methods first (d ∷ done) (m ∷ methods) low = and_from (is_low d m) (are_low done methods) low.0 (low_methods (first + 1) done methods low.1)

low_classes : (first : ℕ) (done : List Planned) (classes : List ClassDef) → AreEachClass (λ n d m. is_low d m ≡ true) first done classes → AreLowEach done classes
low_classes first done [] low = tt
low_classes first done (c ∷ classes) low =
    (low_methods first (own c done) c.methods low.0, low_classes (first + length c.methods) (others c done) classes low.1)

pub low_plan : (plan : Plan) (code : Code) → code.max_stack + 1 ≤ MAX_STACK_WORDS → length plan.before.items + length plan.after.items ≤ 65535
    → is_low_in plan (Some code) ≡ true
low_plan plan code stack few =
    ap (λ b. cond b false (cond (nat_lt 65535 (length plan.before.items)) false (not (nat_lt 65535 (length plan.after.items)))))
    (le-ltb MAX_WOVEN_STACK_WORDS code.max_stack (omega (arith, stack)))
    ∙ ap (λ b. cond b false (not (nat_lt 65535 (length plan.after.items)))) (le-ltb 65535 (length plan.before.items) (omega (arith, few)))
    ∙ ap not (le-ltb 65535 (length plan.after.items) (omega (arith, few)))

-- ---- the program

module _ (given : List ClassDef) (p : Program) (new : List NewCode) (done : List Planned) (judged : AreJudged given p) (are : AreSafelyInserted p new done)
    (stay : AllStay p new done) (count : length new ≡ method_count given) (written : List ClassDef) (spelled : AllByRecursion HasSpelling written)
    (codes : map pair_of new ≡ written_codes given written) (plans : Plans) (safe : AreSafePlans p are.facts plans) (stack : HaveStack p plans)
    (written_is : written ≡ rewritten plans given) where
  counted : length done ≡ first_given + method_count given
  counted = are.one_each ∙ methods_counted given judged.main p judged.program_is

  -- the new code of a given method
  pair_at : (i : ℕ) → ◌≡◌ {A = ℕ × List Item} (new_free_of p new (first_given + i), new_items_of p new (first_given + i)) (get_or (map pair_of new) i no_code)
  pair_at = pair_given given p new judged count

  is_new : (i : ℕ) (code : Code) → code_at p (first_given + i) ≡ Some code
      → IsNewFor (plans (first_given + i)) (Some code) (new_free_of p new (first_given + i), new_items_of p new (first_given + i))
  is_new i code is =
      let all = all_new plans (safe_plain p are.facts plans safe) first_given given (subst (AllByRecursion HasSpelling) written_is spelled) i in
      let old_is : get_or (flat_map (λ (c : ClassDef). map code_of c.methods) given) i None ≡ Some code = sym (code_given given judged.main p judged.program_is i) ∙ is in
      let news : get_or (written_codes given (rewritten plans given)) i no_code ≡ (new_free_of p new (first_given + i), new_items_of p new (first_given + i)) =
      ap (λ (w : List ClassDef). get_or (written_codes given w) i no_code) (sym written_is)
      ∙ ap (λ (l : List (ℕ × List Item)). get_or l i no_code) (sym codes) ∙ sym (pair_at i) in
      subst (λ (q : Option Code × (ℕ × List Item)). IsNewFor (plans (first_given + i)) q.0 q.1) (λ k. (old_is k, news k)) all

  few_items : (i : ℕ) → length (new_items_of p new (first_given + i)) ≤ 65535
  few_items i =
      subst (λ (q : ℕ × List Item). length q.1 ≤ 65535)
      (ap (λ (l : List (ℕ × List Item)). get_or l i no_code) (sym codes) ∙ sym (pair_at i)) (all_few given written spelled i)

  -- ---- a given method

  safe_at : (method : ℕ) (code : Code) (ins : Insertions) → code_at p method ≡ Some code → plans method ≡ Some ins
      → AreSafe are.facts (typed_method p are.facts.typing method code) ins
  safe_at method code ins is planned_is =
      let own = safe method ins planned_is in
      let same : typed_method p are.facts.typing method code ≡ own.x =
      same_Some (typed_method p are.facts.typing method code) own.x
      (sym (ap (option_map (typed_method p are.facts.typing method)) is) ∙ own.is) in
      subst (λ (x : TypedMethod). AreSafe are.facts x ins) (sym same) own.safe

  -- its new items are read as what is inserted
  read_at : (i : ℕ) → i < method_count given → (code : Code) (ins : Insertions) → code_at p (first_given + i) ≡ Some code → plans (first_given + i) ≡ Some ins
      → read (new_free_of p new (first_given + i)) code.max_locals code.items (new_items_of p new (first_given + i)) ≡ Some (read_by code ins)
  read_at i inside code ins is planned_is =
      let free = new_free_of p new (first_given + i) in
      let items : new_items_of p new (first_given + i) ≡ (woven_code free code ins).items =
      subst (λ o. IsNewFor o (Some code) (free, new_items_of p new (first_given + i))) planned_is (is_new i code is) code refl in
      let rules = (code_facts p (first_given + i) code (judged_analysable given p judged) is).0.spelled in
      ap (read free code.max_locals code.items) items ∙ woven_is_read free code ins rules (safe_at (first_given + i) code ins is planned_is).own_sites

  listed_at : (i : ℕ) → i < method_count given → (code : Code) → code_at p (first_given + i) ≡ Some code
      → IsListedIn code (plans (first_given + i)) (planned_at done (first_given + i))
  listed_at i inside code is = by_plan (plans (first_given + i)) refl where
    by_plan : (o : Option Insertions) → plans (first_given + i) ≡ o → IsListedIn code o (planned_at done (first_given + i))
    by_plan None planned_is =
        let items : new_items_of p new (first_given + i) ≡ code.items =
        subst (λ o. IsNewFor o (Some code) (new_free_of p new (first_given + i), new_items_of p new (first_given + i))) planned_is (is_new i code is) code refl in
        let stays = subst (λ o. StaysIn o (new_items_of p new (first_given + i)) (planned_at done (first_given + i))) is
        (stay (first_given + i) (omega (arith, inside, counted))) in
        let rules = (code_facts p (first_given + i) code (judged_analysable given p judged) is).0.spelled in
        subst (IsListedIn code None) (sym (stays (ap (nulls code.max_locals) items ∙ nulls_own code.max_locals code.items rules.1.locals))) tt
    by_plan (Some ins) planned_is =
        are.whole (first_given + i) code ins is (safe_at (first_given + i) code ins is planned_is)
        (safe (first_given + i) ins planned_is).plain (read_at i inside code ins is planned_is)

  -- a method that has code is a given one
  given_at : (method : ℕ) (code : Code) → code_at p method ≡ Some code → (first_given ≤ method) × (method < first_given + method_count given)
  given_at method code is = (
    ⊎_elim (λ (before : method < first_given).
        absurd (none-some code (sym (ap (λ (z : Program). code_at z method) judged.program_is ∙ bare_before given judged.main method before) ∙ is)))
        (λ (past : first_given ≤ method). past) (cases_lt method first_given),
    let inside = (code_facts p method code (judged_analysable given p judged) is).0.inside in
        let all = methods_counted given judged.main p judged.program_is in omega (arith, inside, all),
  )

  module _ (P : ℕ → Type 0) (each : (i : ℕ) → i < method_count given → P (first_given + i)) where
    at_given : (method : ℕ) (code : Code) → code_at p method ≡ Some code → P method
    at_given method code is =
        let within = given_at method code is in
        let same : first_given + (method - first_given) ≡ method = omega (arith, within.0) in
        subst P same (each (method - first_given) (omega (arith, within.0, within.1)))

  listed : (method : ℕ) (code : Code) → code_at p method ≡ Some code → IsListedIn code (plans method) (planned_at done method)
  listed method code is =
      at_given (λ m. code_at p m ≡ Some code → IsListedIn code (plans m) (planned_at done m)) (λ i inside own. listed_at i inside code own) method code is is

  -- ---- all of them

  no_plan : (method : ℕ) → code_at p method ≡ None → plans method ≡ None
  no_plan method none = by_plan (plans method) refl where
    by_plan : (o : Option Insertions) → plans method ≡ o → plans method ≡ None
    by_plan None is = is
    by_plan (Some ins) is =
        let own = safe method ins is in absurd (none-some own.x (sym (ap (option_map (typed_method p are.facts.typing method)) none) ∙ own.is))

  -- the insertions are what is to be done
  abbrev again : AreSafelyInserted p new done
  again = record {
    facts = are.facts;
    exact = are.exact;
    least = are.least;
    plans = plans;
    methods = safe;
    one_each = are.one_each;
    listed = listed;
    others = λ method none. (no_plan method none, (are.others method none).1);
    whole = are.whole;
  }

  low_at : (in_interface : Bool) (entries : List Entry) (method : ℕ) (m : Member) → MethodIsValid in_interface entries m → code_at p method ≡ code_of m
      → is_low (planned_at done method) m ≡ true
  low_at in_interface entries method m valid at_number = by_code (code_at p method) refl where
    with_code : (code : Code) → code_at p method ≡ Some code → (o : Option Insertions) (d : Planned) → plans method ≡ o → planned_at done method ≡ d
        → IsListedIn code o d → is_low d m ≡ true
    with_code code is o planned.Same planned_is d_is own = refl
    with_code code is o (planned.TooLong bytes chains) planned_is d_is own = refl
    with_code code is None (planned.Woven plan) planned_is d_is own = absurd own
    with_code code is (Some ins) (planned.Woven plan) planned_is d_is own =
        let room = at_given (λ n. code_at p n ≡ Some code → plans n ≡ Some ins → length (read_by code ins).pairs.before + length (read_by code ins).pairs.after ≤ 65535)
        (λ i inside there inserted.
        let few = pairs_few (new_free_of p new (first_given + i)) code.max_locals code.items (new_items_of p new (first_given + i)) (read_by code ins)
        (read_at i inside code ins there inserted) in
        let all = few_items i in
        omega (arith, few, all)) method code is is planned_is in
        let before : length plan.plan.before.items ≡ length (read_by code ins).pairs.before =
        ap length (own.plan_is.plan_is.before ∙ ap (λ n. flat_map (paired (before_at ins)) (range_with_len 0 n)) own.whole) in
        let after : length plan.plan.after.items ≡ length (read_by code ins).pairs.after =
        ap length (own.plan_is.plan_is.after ∙ ap (λ n. flat_map (paired (after_at ins)) (range_with_len 0 n)) own.whole) in
        ap (is_low_in plan.plan) (sym at_number ∙ is)
        ∙ low_plan plan.plan code (stack method ins code planned_is is) (omega (arith, before, after, room))

    by_code : (o : Option Code) → code_at p method ≡ o → is_low (planned_at done method) m ≡ true
    by_code None none = ap (λ d. is_low d m) (are.others method none).1
    by_code (Some code) is = with_code code is (plans method) (planned_at done method) refl refl (listed method code is)

  pub wholly_written : AreWhollyWritten (drop first_given done) given written
  wholly_written = record {
    low =
        low_classes first_given (drop first_given done) given
        (classes_each p (λ n d m. is_low d m ≡ true) done low_at first_given given (judged_spelled given p judged)
        (λ i inside. code_given given judged.main p judged.program_is i) (omega (arith, counted)));
    same =
        written_is ∙ sym (classes_are plans (no_chain p new done again) first_given (drop first_given done) given (all_inserted given p new done judged again));
  }

-- ---- refusals

-- what isn't wholly written isn't safe
pub never_safe : (given : List ClassDef) (p : Program) (new : List NewCode) (done : List Planned) → AreJudged given p → (are : AreSafelyInserted p new done)
    → AllStay p new done → length new ≡ method_count given → (written : List ClassDef) → AllByRecursion HasSpelling written
    → map pair_of new ≡ written_codes given written → (AreWhollyWritten (drop first_given done) given written → ⊥) → (plans : Plans)
    → AreSafePlans p are.facts plans → HaveStack p plans → written ≡ rewritten plans given → ⊥
never_safe given p new done judged are stay count written spelled codes never plans safe stack is =
    never (wholly_written given p new done judged are stay count written spelled codes plans safe stack is)
