-- Methods whose new codes are the old ones by what is to be done with them are the safe ones.
use Rattle.std.proofs.Common.{◌≡◌, refl, sym, ◌∙◌, ap, subst, ℕ, zero, suc, ◌+◌, ◌-◌, ◌<◌, ◌≤◌, ◌++◌, ◌⊎◌, inl, inr, ⊎_elim, cond, List, [], ◌∷◌, length, map, drop, get_or, Option, Some, None, arith}
use Rattle.std.specs.Prelude.{slice_get}
use Rattle.std.specs.List.{AllByRecursion, flat_map, range_with_len}
use Rattle.std.specs.Option.{option_map}
use Rattle.std.proofs.lemmas.Bool.{cases_lt, false≢true, le-ltb}
use Rattle.std.proofs.lemmas.List.{get_or-append-add, get_or_append_left, length-map}
use Rattle.std.proofs.lemmas.List.FromFn.{get_or-map-range_with_len, length-map-range_with_len}
use Rattle.std.proofs.lemmas.Option.{none-some, same_Some}
use Rattle.fm_chain.proofs.WithoutChains.{codes_are_woven, none_looped}
use Rattle.fm_chain.specs.declared.plans.ChainPlan.{ChainPlan}
use Rattle.fm_code.specs.FreeEntries.{with_free}
use Rattle.fm_code.specs.Members.{code_of}
use Rattle.fm_code.specs.Spells.{HasSpelling}
use Rattle.fm_code.specs.declared.class_file.ClassDef.{ClassDef}
use Rattle.fm_code.specs.declared.class_file.Member.{Member}
use Rattle.fm_code.specs.declared.code_array.Code.{Code}
use Rattle.fm_code.specs.declared.code_array.Item.{Item}
use Rattle.fm_conn.specs.Links.{typed_method}
use Rattle.fm_conn.specs.Nodes.{TypedMethod}
use Rattle.fm_place.specs.Insertions.{after_at, before_at, Insertions}
use Rattle.fm_place.specs.PlansBy.{paired}
use Rattle.fm_place.specs.Rewriting.{first_given, free_index}
use Rattle.fm_place.specs.Safe.{AreSafe, IsSafeMethod}
use Rattle.fm_place.specs.Woven.{woven_code}
use Rattle.fm_place_weave.proofs.PlanLemmas.{woven-alike}
use Rattle.fm_place_weave.specs.ByPlan.{code_by}
use Rattle.fm_place_weave.specs.Laws.{IsWholePlan}
use Rattle.fm_place_weave.specs.declared.planned.Planned.{Planned}
use Rattle.fm_place_weave.specs.declared.planned.Planned.TheVariants as planned
use Rattle.fm_rewrite.proofs.JudgedLemmas.{judged_analysable}
use Rattle.fm_rewrite.proofs.ProgramMeantLemmas.{code_given}
use Rattle.fm_rewrite.specs.Plans.{planned_at}
use Rattle.fm_rewrite.specs.Rewritten.{AreJudged}
use Rattle.fm_rewrite.specs.inner.ByPlans.{is_changed, method_count}
use Rattle.fm_summ_shapes.proofs.ShapesLemmas.{code_facts}
use Rattle.fm_world.specs.BuiltIns.{built_in}
use Rattle.fm_world.specs.Programs.{code_at, Program}
use Rattle.fm_audit.proofs.FewLemmas.{pairs_few}
use Rattle.fm_audit.proofs.WovenReadLemmas.{woven_is_read}
use Rattle.fm_audit.specs.NewCodes.{AllStay, new_free_of, new_items_of}
use Rattle.fm_audit.specs.ReadBack.{read_by}
use Rattle.fm_audit.specs.Reading.{read}
use Rattle.fm_audit.specs.SafeMethods.{AreSafelyInserted, failing_at}
use Rattle.fm_audit.specs.SafeParts.{FailsPart}
use Rattle.fm_audit.specs.declared.parts.Part.{Part}
use Rattle.fm_audit.specs.SafePlans.{IsListedIn}
use Rattle.fm_audit.specs.declared.methods.NewCode.{NewCode}
use Rattle.fm_base.proofs.ListFacts.{slice_get-append_right}
use Rattle.fm_audit_classes.proofs.FirstLemmas.{are_at, class_count, get_left}
use Rattle.fm_audit_classes.proofs.HeadLemmas.{never_full_pool}
use Rattle.fm_audit_classes.proofs.LowLemmas.{low_code}
use Rattle.fm_audit_classes.proofs.NewCodeLemmas.{all_few, no_code}
use Rattle.fm_audit.proofs.SameLemmas.{are_same_codes}
use Rattle.fm_audit_classes.proofs.StillLemmas.{dropped_at, old_codes, pair_given, stays_so}
use Rattle.fm_audit_classes.proofs.UnsafeLemmas.{low_plan}
use Rattle.fm_audit_classes.proofs.WholeIfLemmas.{counted}
use Rattle.fm_audit_classes.specs.Parts.{all_methods, class_codes, class_methods, code_items, HasClass, HaveClasses, IsFirstUnsafe, IsSafelyWoven, IsSafeNew, WrittenMethod}
use Rattle.fm_audit_classes.specs.inner.Codes.{code_in, codes_in, free_for, method_items, pair_of, written_codes}
use Rattle.fm_audit_classes.specs.inner.Low.{is_low_in}
use Rattle.fm_audit_classes.specs.inner.Methods.{free_calls, IsFirstPlanned, IsPlannedWell}

-- ---- the methods of written classes by their numbers

-- each class has the first part
abbrev AreClasses : (given written : List ClassDef) → Type 0
AreClasses (c ∷ given) (w ∷ written) = HasClass c w × AreClasses given written
AreClasses given written = Unit {0}

are_classes : (given written : List ClassDef) → HaveClasses given written → AreClasses given written
are_classes [] written have = tt
are_classes (c ∷ given) [] have = tt
are_classes (c ∷ given) (w ∷ written) have =
    (have 0 (omega arith) c w refl refl, are_classes given written (λ place inside. have (suc place) (omega (arith, inside))))

-- a method at a place has the old code and the new items of that place, and the index of FreeMe.free unless its code is the old one
pub record IsAt (given written : List ClassDef) (i : ℕ) (m : WrittenMethod) : Type 0 where
  pub inside : i < method_count given
  pub old_is : get_or (old_codes given) i None ≡ m.old
  pub items_are : (get_or (written_codes given written) i no_code).1 ≡ code_items m.new
  pub free_is : (m.new ≡ m.old) ⊎ ((get_or (written_codes given written) i no_code).0 ≡ m.free)

code_there : (methods : List Member) (i : ℕ) (m : Member) → slice_get methods i ≡ Some m → get_or (map code_of methods) i None ≡ code_of m
code_there [] i m is = absurd (none-some m is)
code_there (n ∷ methods) zero m is = ap code_of (same_Some n m is)
code_there (n ∷ methods) (suc i) m is = code_there methods i m is

module _ (class : ℕ) (c w : ClassDef) (given written : List ClassDef) (has : HasClass c w) (spelled : HasSpelling w) where
  count : length w.methods ≡ length c.methods
  count = counted [] c w has

  old_count : length (map code_of c.methods) ≡ length c.methods
  old_count = length-map c.methods code_of

  abbrev front : List (ℕ × List Item)
  front = codes_in (free_for c) (length c.methods) w.methods

  new_count : length front ≡ length c.methods
  new_count = length-map-range_with_len (code_in (free_for c) w.methods) 0 (length c.methods)

  abbrev here : List WrittenMethod
  here = class_methods class (free_index c) c.methods w.methods

  here_count : length here ≡ length c.methods
  here_count = class_count class (free_index c) c.methods w.methods count

  -- the method is in this class
  module _ (i : ℕ) (inside : i < length c.methods) (old new : Member) (old_at : slice_get c.methods i ≡ Some old) (new_at : slice_get w.methods i ≡ Some new) where
    pair : ◌≡◌ {A = ℕ × List Item} (get_or (written_codes (c ∷ given) (w ∷ written)) i no_code) (free_for c, code_items (code_of new))
    pair =
        get_or_append_left front (written_codes given written) no_code i (omega (arith, inside, new_count))
        ∙ get_or-map-range_with_len (code_in (free_for c) w.methods) 0 (length c.methods) i i no_code inside (omega arith)
        ∙ (λ k. (free_for c, method_items (new_at k)))

    free : (code_of new ≡ code_of old) ⊎ (free_for c ≡ free_index c)
    free = ⊎_elim
        (λ (full : 65535 < length (with_free c.pool.entries)). ⊎_elim
        (λ (codes : class_codes w ≡ class_codes c).
        inl (sym (code_there w.methods i new new_at) ∙ ap (λ (l : List (Option Code)). get_or l i None) codes ∙ code_there c.methods i old old_at))
        (λ (differ : class_codes w ≡ class_codes c → ⊥).
        absurd (never_full_pool c w spelled full (ap (λ (d : ClassDef). d.pool.entries) (has.changed differ))))
        (are_same_codes (class_codes w) (class_codes c)))
        (λ (few : length (with_free c.pool.entries) ≤ 65535). inr (ap (λ b. cond b 0 (free_index c)) (le-ltb 65535 (length (with_free c.pool.entries)) few)))
        (cases_lt 65535 (length (with_free c.pool.entries)))

    own_at : IsAt (c ∷ given) (w ∷ written) i (record { class = class; free = free_index c; old = code_of old; new = code_of new })
    own_at = record {
      inside = omega (arith, inside);
      old_is = get_or_append_left (map code_of c.methods) (old_codes given) None i (omega (arith, inside, old_count)) ∙ code_there c.methods i old old_at;
      items_are = ap (λ (q : ℕ × List Item). q.1) pair;
      free_is = ⊎_elim
          (λ (codes : code_of new ≡ code_of old). inl codes)
          (λ (fits : free_for c ≡ free_index c). inr (ap (λ (q : ℕ × List Item). q.0) pair ∙ fits))
          free;
    }

  at_here : (i : ℕ) (m : WrittenMethod) → i < length c.methods → slice_get (here ++ all_methods (class + 1) given written) i ≡ Some m
      → IsAt (c ∷ given) (w ∷ written) i m
  at_here i m inside is =
      let at = are_at class (free_index c) c.methods w.methods i inside count in
      let same = same_Some (record { class = class; free = free_index c; old = code_of at.m; new = code_of at.v }) m
      (sym at.both_are ∙ sym (get_left here (all_methods (class + 1) given written) i (omega (arith, inside, here_count))) ∙ is) in
      subst (IsAt (c ∷ given) (w ∷ written) i) same (own_at i inside at.m at.v at.old_is at.new_is)

  -- it is in a later one
  at_later : (i : ℕ) (m : WrittenMethod) → IsAt given written i m → IsAt (c ∷ given) (w ∷ written) (length c.methods + i) m
  at_later i m at =
      let old_place : get_or (old_codes (c ∷ given)) (length c.methods + i) None ≡ get_or (old_codes given) i None =
      ap (λ n. get_or (old_codes (c ∷ given)) (n + i) None) (sym old_count) ∙ get_or-append-add (map code_of c.methods) (old_codes given) i None in
      let new_place : ◌≡◌ {A = ℕ × List Item} (get_or (written_codes (c ∷ given) (w ∷ written)) (length c.methods + i) no_code) (get_or (written_codes given written) i no_code) =
      ap (λ n. get_or (written_codes (c ∷ given) (w ∷ written)) (n + i) no_code) (sym new_count) ∙ get_or-append-add front (written_codes given written) i no_code in
      record {
        inside = let inside = at.inside in omega (arith, inside);
        old_is = old_place ∙ at.old_is;
        items_are = ap (λ (q : ℕ × List Item). q.1) new_place ∙ at.items_are;
        free_is = ⊎_elim
            (λ (codes : m.new ≡ m.old). inl codes)
            (λ (fits : (get_or (written_codes given written) i no_code).0 ≡ m.free). inr (ap (λ (q : ℕ × List Item). q.0) new_place ∙ fits))
            at.free_is;
      }

is_at : (class : ℕ) (given written : List ClassDef) → AllByRecursion HasSpelling written → AreClasses given written → (i : ℕ) (m : WrittenMethod)
    → slice_get (all_methods class given written) i ≡ Some m → IsAt given written i m
is_at class [] written spelled have i m is = absurd (none-some m is)
is_at class (c ∷ given) [] spelled have i m is = absurd (none-some m is)
is_at class (c ∷ given) (w ∷ written) spelled have i m is = ⊎_elim
    (λ (inside : i < length c.methods). at_here class c w given written have.0 spelled.0 i m inside is)
    (λ (past : length c.methods ≤ i).
    let place : length c.methods + (i - length c.methods) ≡ i = omega (arith, past) in
    let rest = all_methods (class + 1) given written in
    let own = class_methods class (free_index c) c.methods w.methods in
    let wide = class_count class (free_index c) c.methods w.methods (counted [] c w have.0) in
    let later : slice_get rest (i - length c.methods) ≡ Some m =
    sym (slice_get-append_right own rest (i - length c.methods)) ∙ ap (λ n. slice_get (own ++ rest) (n + (i - length c.methods))) wide ∙ ap (slice_get (own ++ rest)) place ∙ is in
    subst (λ n. IsAt (c ∷ given) (w ∷ written) n m) place
    (at_later class c w given written have.0 spelled.0 (i - length c.methods) m
    (is_at (class + 1) given written spelled.1 have.1 (i - length c.methods) m later)))
    (cases_lt i (length c.methods))

-- ---- a given method

-- what is woven doesn't stay
never_same : (plan : ChainPlan) → planned.Woven plan ≡ planned.Same → ⊥
never_same plan is = false≢true (sym (ap is_changed is))

module _ (given : List ClassDef) (p : Program) (new : List NewCode) (done : List Planned) (judged : AreJudged given p) (are : AreSafelyInserted p new done)
    (stay : AllStay p new done) (count : length new ≡ method_count given) (written : List ClassDef) (spelled : AllByRecursion HasSpelling written)
    (codes : map pair_of new ≡ written_codes given written) where
  module _ (i : ℕ) (m : WrittenMethod) (at : IsAt given written i m) where
    abbrev n : ℕ
    n = first_given + i

    code_is : code_at p n ≡ m.old
    code_is = code_given given judged.main p judged.program_is i ∙ at.old_is

    pair_is : ◌≡◌ {A = ℕ × List Item} (new_free_of p new n, new_items_of p new n) (get_or (written_codes given written) i no_code)
    pair_is = pair_given given p new judged count i ∙ ap (λ (l : List (ℕ × List Item)). get_or l i no_code) codes

    items_are : new_items_of p new n ≡ code_items m.new
    items_are = ap (λ (q : ℕ × List Item). q.1) pair_is ∙ at.items_are

    few_items : length (new_items_of p new n) ≤ 65535
    few_items = subst (λ (q : ℕ × List Item). length q.1 ≤ 65535) (sym pair_is) (all_few given written spelled i)

    -- with its old code it stays as it is
    stays : m.new ≡ m.old → planned_at done n ≡ planned.Same
    stays same = by_code m.old refl where
      by_code : (o : Option Code) → m.old ≡ o → planned_at done n ≡ planned.Same
      by_code None none = stays_so given p new judged count done are stay written codes i at.inside None (code_is ∙ none)
      by_code (Some code) is =
          stays_so given p new judged count done are stay written codes i at.inside (Some code) (code_is ∙ is) (items_are ∙ ap code_items (same ∙ is))

    same_well : m.new ≡ m.old → IsPlannedWell (planned_at done n) m
    same_well same = subst (λ (d : Planned). IsPlannedWell d m) (sym (stays same)) same

    -- what is woven into its code by a plan of insertions is what they insert
    woven_same : (code : Code) (ins : Insertions) (plan : ChainPlan) → IsSafeMethod p are.facts n ins → IsWholePlan code ins plan
        → code_by (free_calls m.free) code plan ≡ woven_code m.free code ins
    woven_same code ins plan safe whole =
        (woven-alike (free_calls m.free) code ins plan whole).code_is
        ∙ (codes_are_woven (free_calls m.free) code ins (none_looped ins.holders safe.plain)).code_is

    -- safe insertions are what is to be done with it
    woven_well : IsSafelyWoven p are.facts n m → IsPlannedWell (planned_at done n) m
    woven_well s = ⊎_elim (λ (same : m.new ≡ m.old). same_well same) (λ (fits : (get_or (written_codes given written) i no_code).0 ≡ m.free). by_free fits) at.free_is where
      is : code_at p n ≡ Some s.code
      is = code_is ∙ s.old

      safe : AreSafe are.facts (typed_method p are.facts.typing n s.code) s.plan
      safe =
          let own = s.safe in
          let same : typed_method p are.facts.typing n s.code ≡ own.x =
          same_Some (typed_method p are.facts.typing n s.code) own.x (sym (ap (option_map (typed_method p are.facts.typing n)) is) ∙ own.is) in
          subst (λ (x : TypedMethod). AreSafe are.facts x s.plan) (sym same) own.safe

      by_free : (get_or (written_codes given written) i no_code).0 ≡ m.free → IsPlannedWell (planned_at done n) m
      by_free fits = by_planned (planned_at done n) listed where
        free_is : new_free_of p new n ≡ m.free
        free_is = ap (λ (q : ℕ × List Item). q.0) pair_is ∙ fits

        read_is : read (new_free_of p new n) s.code.max_locals s.code.items (new_items_of p new n) ≡ Some (read_by s.code s.plan)
        read_is =
            let rules = (code_facts p n s.code (judged_analysable given p judged) is).0.spelled in
            let items : new_items_of p new n ≡ (woven_code (new_free_of p new n) s.code s.plan).items =
            items_are ∙ ap code_items s.new ∙ ap (λ free. (woven_code free s.code s.plan).items) (sym free_is) in
            ap (read (new_free_of p new n) s.code.max_locals s.code.items) items ∙ woven_is_read (new_free_of p new n) s.code s.plan rules safe.own_sites

        listed : IsListedIn s.code (Some s.plan) (planned_at done n)
        listed = are.whole n s.code s.plan is safe s.safe.plain read_is

        few : length (read_by s.code s.plan).pairs.before + length (read_by s.code s.plan).pairs.after ≤ 65535
        few =
            let less = pairs_few (new_free_of p new n) s.code.max_locals s.code.items (new_items_of p new n) (read_by s.code s.plan) read_is in
            let all = few_items in omega (arith, less, all)

        by_planned : (d : Planned) → IsListedIn s.code (Some s.plan) d → IsPlannedWell d m
        by_planned planned.Same own = absurd own
        by_planned (planned.TooLong bytes chains) own = absurd own
        by_planned (planned.Woven plan) own =
            let before : length plan.plan.before.items ≡ length (read_by s.code s.plan).pairs.before =
            ap length (own.plan_is.plan_is.before ∙ ap (λ k. flat_map (paired (before_at s.plan)) (range_with_len 0 k)) own.whole) in
            let after : length plan.plan.after.items ≡ length (read_by s.code s.plan).pairs.after =
            ap length (own.plan_is.plan_is.after ∙ ap (λ k. flat_map (paired (after_at s.plan)) (range_with_len 0 k)) own.whole) in
            let room = few in (
              ap (is_low_in plan.plan) s.old ∙ low_plan plan.plan s.code s.stack (omega (arith, before, after, room)),
              s.new ∙ ap (λ (code : Code). Some code) (sym (woven_same s.code s.plan plan s.safe own))
                  ∙ sym (ap (option_map (λ (code : Code). code_by (free_calls m.free) code plan)) s.old),
            )

    pub safe_well : IsSafeNew p are.facts n m → IsPlannedWell (planned_at done n) m
    safe_well safe = ⊎_elim (λ (same : m.new ≡ m.old). same_well same) (λ (woven : IsSafelyWoven p are.facts n m). woven_well woven) safe

    -- and what is to be done with it is safe
    pub well_safe : IsPlannedWell (planned_at done n) m → IsSafeNew p are.facts n m
    well_safe well = by_planned (planned_at done n) refl well where
      woven : (plan : ChainPlan) → planned_at done n ≡ planned.Woven plan → IsPlannedWell (planned.Woven plan) m → IsSafelyWoven p are.facts n m
      woven plan planned_is well = by_code m.old refl where
        by_code : (o : Option Code) → m.old ≡ o → IsSafelyWoven p are.facts n m
        by_code None none = absurd (let stays : planned.Woven plan ≡ planned.Same = sym planned_is ∙ (are.others n (code_is ∙ none)).1 in never_same plan stays)
        by_code (Some code) is = by_plan (are.plans n) refl where
          by_plan : (o : Option Insertions) → are.plans n ≡ o → IsSafelyWoven p are.facts n m
          by_plan None plan_is =
              absurd (subst (λ (q : Option Insertions × Planned). IsListedIn code q.0 q.1) (λ k. (plan_is k, planned_is k)) (are.listed n code (code_is ∙ is)))
          by_plan (Some ins) plan_is =
              let whole : IsWholePlan code ins plan =
              subst (λ (q : Option Insertions × Planned). IsListedIn code q.0 q.1) (λ k. (plan_is k, planned_is k)) (are.listed n code (code_is ∙ is)) in
              record {
                code = code;
                old = is;
                plan = ins;
                safe = are.methods n ins plan_is;
                stack = (low_code code plan.plan (sym (ap (is_low_in plan.plan) is) ∙ well.0)).stack;
                new =
                    well.1 ∙ ap (option_map (λ (code : Code). code_by (free_calls m.free) code plan)) is
                    ∙ ap (λ (code : Code). Some code) (woven_same code ins plan (are.methods n ins plan_is) whole);
              }

      by_planned : (d : Planned) → planned_at done n ≡ d → IsPlannedWell d m → IsSafeNew p are.facts n m
      by_planned planned.Same is well = inl well
      by_planned (planned.Woven plan) is well = inr (woven plan is well)
      by_planned (planned.TooLong bytes chains) is well = absurd well

  -- ---- the first one

  -- the part of a method that isn't safe, by its own entry
  part_fails : (failing : List Part)
      → ((method : ℕ) (code : Code) → code_at p method ≡ Some code → length (new_items_of p new method) ≤ 65535
      → FailsPart are.facts (typed_method p are.facts.typing method code) (new_free_of p new method) code (new_items_of p new method) (failing_at failing method))
      → (i : ℕ) (m : WrittenMethod) → IsAt given written i m → (IsSafeNew p are.facts (first_given + i) m → ⊥) → (code : Code) → m.old ≡ Some code
      → FailsPart are.facts (typed_method p are.facts.typing (first_given + i) code) m.free code (code_items m.new) (failing_at failing (first_given + i))
  part_fails failing parts i m at unsafe code old =
      let by = parts (first_given + i) code (code_is i m at ∙ old) (few_items i m at) in
      let x = typed_method p are.facts.typing (first_given + i) code in
      let failed = failing_at failing (first_given + i) in
      ⊎_elim (λ (same : m.new ≡ m.old). absurd (unsafe (inl same)))
      (λ (free : (get_or (written_codes given written) i no_code).0 ≡ m.free).
      subst (λ f. FailsPart are.facts x f code (code_items m.new) failed) (ap (λ (q : ℕ × List Item). q.0) (pair_is i m at) ∙ free)
      (subst (λ (items : List Item). FailsPart are.facts x (new_free_of p new (first_given + i)) code items failed) (items_are i m at) by))
      at.free_is

  pub first_unsafe : (failing : List Part)
      → ((method : ℕ) (code : Code) → code_at p method ≡ Some code → length (new_items_of p new method) ≤ 65535
      → FailsPart are.facts (typed_method p are.facts.typing method code) (new_free_of p new method) code (new_items_of p new method) (failing_at failing method))
      → HaveClasses given written → (class method : ℕ) (failed : Part) → failed ≡ failing_at failing method → IsFirstPlanned (length built_in) first_given (drop first_given done) given written class method
      → IsFirstUnsafe p are.facts given written class method failed
  first_unsafe failing parts have class method failed failed_is found =
      let at = is_at (length built_in) given written spelled (are_classes given written have) in
      let unsafe : IsSafeNew p are.facts (first_given + found.place) found.own → ⊥ = λ safe.
      found.fails
      (subst (λ (d : Planned). IsPlannedWell d found.own) (sym (dropped_at first_given done found.place))
      (safe_well found.place found.own (at found.place found.own found.is) safe)) in
      record {
        place = found.place;
        own = found.own;
        is = found.is;
        class_is = found.class_is;
        method_is = found.method_is;
        earlier = λ k m before is.
            well_safe k m (at k m is) (subst (λ (d : Planned). IsPlannedWell d m) (dropped_at first_given done k) (found.earlier k m before is));
        part = λ code old.
            subst (λ (part : Part). FailsPart are.facts (typed_method p are.facts.typing method code) found.own.free code (code_items found.own.new) part)
            (sym failed_is)
            (subst (λ number. FailsPart are.facts (typed_method p are.facts.typing number code) found.own.free code (code_items found.own.new)
            (failing_at failing number)) (sym found.method_is)
            (part_fails failing parts found.place found.own (at found.place found.own found.is) (λ safe. unsafe safe) code old));
        fails = λ safe.
            found.fails
            (subst (λ (d : Planned). IsPlannedWell d found.own) (sym (dropped_at first_given done found.place))
            (safe_well found.place found.own (at found.place found.own found.is)
            (subst (λ number. IsSafeNew p are.facts number found.own) found.method_is safe)));
      }
