-- A class that has the codes of the given one stays as it is: nothing is read in its methods.
use Rattle.std.proofs.Common.{◌≡◌, refl, sym, ◌∙◌, ap, subst, ℕ, zero, suc, ◌+◌, ◌-◌, ◌<◌, ◌≤◌, ◌||◌, false, cond, List, [], ◌∷◌, length, map, take, drop, get_or, Option, Some, None, arith}
use Rattle.std.specs.Prelude.{nat_lt, slice_get}
use Rattle.std.specs.List.{flat_map}
use Rattle.std.proofs.lemmas.Bool.{le-ltb}
use Rattle.std.proofs.lemmas.List.{get_or-append-add, get_or_append_left, length-map}
use Rattle.std.proofs.lemmas.List.FromFn.{get_or-map-range_with_len, length-map-range_with_len}
use Rattle.fm_code.specs.Members.{code_of}
use Rattle.fm_code.specs.declared.class_file.ClassDef.{ClassDef}
use Rattle.fm_code.specs.declared.code_array.Code.{Code}
use Rattle.fm_code.specs.declared.code_array.Item.{Item}
use Rattle.fm_place.specs.Rewriting.{first_given}
use Rattle.fm_place_weave.specs.declared.planned.Planned.{Planned}
use Rattle.fm_place_weave.specs.declared.planned.Planned.TheVariants as planned
use Rattle.fm_rewrite.proofs.JudgedLemmas.{judged_analysable}
use Rattle.fm_rewrite.proofs.ProgramMeantLemmas.{code_given, methods_counted}
use Rattle.fm_rewrite.specs.Plans.{planned_at}
use Rattle.fm_rewrite.specs.Rewritten.{AreJudged}
use Rattle.fm_rewrite.specs.inner.ByPlans.{changes_by, is_changed, method_count, others, own}
use Rattle.fm_summ_shapes.proofs.ShapesLemmas.{code_facts}
use Rattle.fm_world.specs.Members.{methods_of}
use Rattle.fm_world.specs.Programs.{code_at, Program}
use Rattle.fm_audit.proofs.OwnLemmas.{nulls_own}
use Rattle.fm_audit.specs.NewCodes.{AllStay, free_in, items_in, new_code, new_code_of, new_free_of, new_items_of, StaysIn}
use Rattle.fm_audit.specs.Reading.{nulls}
use Rattle.fm_audit.specs.SafeMethods.{AreSafelyInserted}
use Rattle.fm_audit.specs.declared.methods.NewCode.{NewCode}
use Rattle.fm_audit_classes.proofs.NewCodeLemmas.{no_code, place_items}
use Rattle.fm_audit_classes.specs.Parts.{class_codes, code_items}
use Rattle.fm_audit_classes.specs.inner.Codes.{code_in, codes_in, free_for, pair_of, written_codes}
use Rattle.fm_audit_classes.specs.inner.Named.{AreStill, IsStill}

-- a method without code, or with the items that it had, stays as it is
abbrev pub StaysSo : Option Code → ℕ × List Item → Planned → Type 0
StaysSo None new d = d ≡ planned.Same
StaysSo (Some code) new d = new.1 ≡ code.items → d ≡ planned.Same

-- where each method does, none is changed
none_changed : (done : List Planned) → ((i : ℕ) → i < length done → planned_at done i ≡ planned.Same) → changes_by done ≡ false
none_changed [] each = refl
none_changed (d ∷ done) each =
    λ k. is_changed (each 0 (omega arith) k) || none_changed done (λ i inside. each (suc i) (omega (arith, inside))) k

pub taken_at : (n : ℕ) (rest : List Planned) (i : ℕ) → i < n → planned_at (take n rest) i ≡ planned_at rest i
taken_at zero rest i inside = absurd (omega (arith, inside))
taken_at (suc n) [] i inside = refl
taken_at (suc n) (d ∷ rest) zero inside = refl
taken_at (suc n) (d ∷ rest) (suc i) inside = taken_at n rest i (omega (arith, inside))

taken_few : (n : ℕ) (rest : List Planned) → length (take n rest) ≤ n
taken_few zero rest = omega arith
taken_few (suc n) [] = omega arith
taken_few (suc n) (d ∷ rest) = let few = taken_few n rest in omega (arith, few)

pub dropped_at : (n : ℕ) (rest : List Planned) (i : ℕ) → planned_at (drop n rest) i ≡ planned_at rest (n + i)
dropped_at zero rest i = let same : i ≡ 0 + i = omega arith in ap (planned_at rest) same
dropped_at (suc n) [] i = refl
dropped_at (suc n) (d ∷ rest) i = let same : suc (n + i) ≡ suc n + i = omega arith in dropped_at n rest i ∙ ap (planned_at (d ∷ rest)) same

abbrev pub old_codes : List ClassDef → List (Option Code)
old_codes classes = flat_map class_codes classes

pub still_each : (given written : List ClassDef) (rest : List Planned)
    → ((i : ℕ) → i < method_count given → StaysSo (get_or (old_codes given) i None) (get_or (written_codes given written) i no_code) (planned_at rest i))
    → AreStill rest given written
still_each [] written rest each = tt
still_each (c ∷ given) [] rest each = tt
still_each (c ∷ given) (w ∷ written) rest each = (here, still_each given written (others c rest) there) where
  n : ℕ
  n = length c.methods

  front : List (ℕ × List Item)
  front = codes_in (free_for c) n w.methods

  old_count : length (map code_of c.methods) ≡ n
  old_count = length-map c.methods code_of

  new_count : length front ≡ n
  new_count = length-map-range_with_len (code_in (free_for c) w.methods) 0 n

  one : class_codes w ≡ class_codes c → (i : ℕ) → i < n → planned_at rest i ≡ planned.Same
  one codes i inside =
      by_code (get_or (map code_of c.methods) i None) refl (subst (λ (q : Option Code × (ℕ × List Item)). StaysSo q.0 q.1 (planned_at rest i)) places (each i (omega (arith, inside)))) where
        places : ◌≡◌ {A = Option Code × (ℕ × List Item)} (get_or (old_codes (c ∷ given)) i None, get_or (written_codes (c ∷ given) (w ∷ written)) i no_code)
            (get_or (map code_of c.methods) i None, code_in (free_for c) w.methods i)
        places = λ k. (
          get_or_append_left (map code_of c.methods) (old_codes given) None i (omega (arith, inside, old_count)) k,
          (get_or_append_left front (written_codes given written) no_code i (omega (arith, inside, new_count))
              ∙ get_or-map-range_with_len (code_in (free_for c) w.methods) 0 n i i no_code inside (omega arith)) k,
        )

        by_code : (o : Option Code) → get_or (map code_of c.methods) i None ≡ o → StaysSo o (code_in (free_for c) w.methods i) (planned_at rest i)
            → planned_at rest i ≡ planned.Same
        by_code None is stays = stays
        by_code (Some code) is stays =
            stays (place_items w.methods i ∙ ap (λ (l : List (Option Code)). code_items (get_or l i None)) codes ∙ ap code_items is)

  here : IsStill (own c rest) c w
  here codes =
      none_changed (take n rest)
      (λ i inside. let few = taken_few n rest in
      let within : i < n = omega (arith, inside, few) in
      taken_at n rest i within ∙ one codes i within)

  there : (i : ℕ) → i < method_count given
      → StaysSo (get_or (old_codes given) i None) (get_or (written_codes given written) i no_code) (planned_at (others c rest) i)
  there i inside =
      subst (λ (q : Option Code × ((ℕ × List Item) × Planned)). StaysSo q.0 q.1.0 q.1.1)
      (λ k. (
        (ap (λ m. get_or (old_codes (c ∷ given)) (m + i) None) (sym old_count) ∙ get_or-append-add (map code_of c.methods) (old_codes given) i None) k,
        (
          (ap (λ m. get_or (written_codes (c ∷ given) (w ∷ written)) (m + i) no_code) (sym new_count)
              ∙ get_or-append-add front (written_codes given written) i no_code) k,
          sym (dropped_at n rest i) k,
        ),
      ))
      (each (n + i) (omega (arith, inside)))

-- ---- the new code of a method of the program

new_at : (new : List NewCode) (i : ℕ) → ◌≡◌ {A = ℕ × List Item} (free_in (slice_get new i), items_in (slice_get new i)) (get_or (map pair_of new) i no_code)
new_at [] i = refl
new_at (n ∷ new) zero = refl
new_at (n ∷ new) (suc i) = new_at new i

module _ (given : List ClassDef) (p : Program) (new : List NewCode) (judged : AreJudged given p) (count : length new ≡ method_count given) where
  -- that of a given method
  pub pair_given : (i : ℕ)
      → ◌≡◌ {A = ℕ × List Item} (new_free_of p new (first_given + i), new_items_of p new (first_given + i)) (get_or (map pair_of new) i no_code)
  pair_given i =
      let all = methods_counted given judged.main p judged.program_is in
      let first : length (methods_of p.outline.classes) - length new ≡ first_given = omega (arith, all, count) in
      let past : nat_lt (first_given + i) first_given ≡ false = le-ltb (first_given + i) first_given (omega arith) in
      let left : first_given + i - first_given ≡ i = omega arith in
      let own : new_code_of p new (first_given + i) ≡ slice_get new i =
      ap (λ n. new_code new n (first_given + i)) first ∙ ap (λ b. cond b None (slice_get new (first_given + i - first_given))) past ∙ ap (slice_get new) left in
      (λ k. (free_in (own k), items_in (own k))) ∙ new_at new i

  module _ (done : List Planned) (are : AreSafelyInserted p new done) (stay : AllStay p new done) (written : List ClassDef)
      (codes : map pair_of new ≡ written_codes given written) where
    all_planned : length done ≡ first_given + method_count given
    all_planned = are.one_each ∙ methods_counted given judged.main p judged.program_is

    pub stays_so : (i : ℕ) → i < method_count given → (o : Option Code) → code_at p (first_given + i) ≡ o
        → StaysSo o (new_free_of p new (first_given + i), new_items_of p new (first_given + i)) (planned_at done (first_given + i))
    stays_so i inside None is = (are.others (first_given + i) is).1
    stays_so i inside (Some code) is = λ items.
        let stays = subst (λ o. StaysIn o (new_items_of p new (first_given + i)) (planned_at done (first_given + i))) is
        (stay (first_given + i) (omega (arith, inside, all_planned))) in
        let rules = (code_facts p (first_given + i) code (judged_analysable given p judged) is).0.spelled in
        stays (ap (nulls code.max_locals) items ∙ nulls_own code.max_locals code.items rules.1.locals)

    pub are_still : AreStill (drop first_given done) given written
    are_still =
        still_each given written (drop first_given done)
        (λ i inside. subst (λ (q : Option Code × ((ℕ × List Item) × Planned)). StaysSo q.0 q.1.0 q.1.1)
        (λ k. (
          code_given given judged.main p judged.program_is i k,
          ((pair_given i ∙ ap (λ (l : List (ℕ × List Item)). get_or l i no_code) codes) k, sym (dropped_at first_given done i) k),
        ))
        (stays_so i inside (code_at p (first_given + i)) refl))
