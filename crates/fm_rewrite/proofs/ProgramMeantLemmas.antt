-- The methods of the classes of a program are planned by its facts, each at its number.
use Rattle.std.proofs.Common.{◌≡◌, refl, sym, ◌∙◌, ap, subst, ℕ, suc, ◌+◌, ◌<◌, ◌≤◌, Bool, List, [], ◌∷◌, ◌++◌, length, map, take, drop, get_or, replicate, Option, Some, None, arith}
use Rattle.std.specs.List.{AllByRecursion, flat_map}
use Rattle.std.proofs.Math.Seq.{drop-cons}
use Rattle.std.proofs.lemmas.List.{drop-drop, get_or-append-add, get_or_append_left, length-append, length-drop, length-map, length-replicate}
use Rattle.fm_code.specs.AccessFlags.{is_interface}
use Rattle.fm_code.specs.Members.{code_of}
use Rattle.fm_code.specs.Spells.{HasSpelling}
use Rattle.fm_code.specs.declared.class_file.ClassDef.{ClassDef}
use Rattle.fm_code.specs.declared.class_file.Member.{Member}
use Rattle.fm_code.specs.declared.code_array.Code.{Code}
use Rattle.fm_conn.specs.Facts.{Facts}
use Rattle.fm_place.specs.Rewriting.{first_given}
use Rattle.fm_place.specs.Safe.{IsProgramOf}
use Rattle.fm_link_records.proofs.CodeLaws.{AreCodes-all}
use Rattle.fm_rewrite.proofs.AlikeLemmas.{members_meant}
use Rattle.fm_rewrite.specs.Alike.{ArePlannedFrom}
use Rattle.fm_rewrite.specs.Plans.{ArePlanned, IsPlannedByFacts, planned_at}
use Rattle.fm_rewrite.specs.inner.ByPlans.{method_count, others, own}
use Rattle.fm_rewrite.specs.Causes.{plans_for}
use Rattle.fm_rewrite.specs.inner.Meant.{AreAllMeant, AreAllPlanned}
use Rattle.fm_place_weave.specs.declared.planned.Planned.{Planned}
use Rattle.fm_place_weave.specs.declared.planned.Planned.TheVariants as planned
use Rattle.fm_world.specs.BuiltIns.{built_in}
use Rattle.fm_world.specs.Members.{methods_of}
use Rattle.fm_world.specs.Programs.{code_at, codes_of, outline_of, Program, program_of}

-- ---- methods at their numbers

module _ (p : Program) (facts : Facts) (chains : Bool) (done : List Planned)
    (coded : (method : ℕ) (code : Code) → code_at p method ≡ Some code → IsPlannedByFacts p facts method code chains (planned_at done method))
    (bare : (method : ℕ) → code_at p method ≡ None → planned_at done method ≡ planned.Same) where
  told_methods : (first : ℕ) (methods : List Member)
      → ((i : ℕ) → i < length methods → code_at p (first + i) ≡ get_or (map code_of methods) i None) → first + length methods ≤ length done
      → ArePlannedFrom p facts chains first (take (length methods) (drop first done)) methods
  told_methods first [] codes within = tt
  told_methods first (m ∷ methods) codes within =
      let next : first + 1 ≡ suc first = omega arith in
      let front : drop first done ≡ planned_at done first ∷ drop (suc first) done = drop-cons done first planned.Same (omega (arith, within)) in
      let here : first ≡ first + 0 = omega arith in
      let rest = told_methods (first + 1) methods
      (λ i inside. let place : first + 1 + i ≡ first + suc i = omega arith in ap (code_at p) place ∙ codes (suc i) (omega (arith, inside)))
      (omega (arith, within)) in
      subst (λ l. ArePlannedFrom p facts chains first (take (suc (length methods)) l) (m ∷ methods)) (sym front) (
        record { coded = ap (code_at p) here ∙ codes 0 (omega arith); by = coded first; others = bare first },
        subst (λ k. ArePlannedFrom p facts chains (first + 1) (take (length methods) (drop k done)) methods) next rest,
      )

  told_classes : (first : ℕ) (classes : List ClassDef)
      → ((i : ℕ) → i < method_count classes → code_at p (first + i) ≡ get_or (flat_map (λ (c : ClassDef). map code_of c.methods) classes) i None)
      → first + method_count classes ≤ length done → AreAllPlanned p facts chains first (drop first done) classes
  told_classes first [] codes within = tt
  told_classes first (c ∷ classes) codes within =
      let n = length c.methods in
      let later = flat_map (λ (d : ClassDef). map code_of d.methods) classes in
      let count : length (map code_of c.methods) ≡ n = length-map c.methods code_of in
      let rest = told_classes (first + n) classes
      (λ i inside.
      let place : first + n + i ≡ first + (n + i) = omega arith in
      ap (code_at p) place ∙ codes (n + i) (omega (arith, inside))
      ∙ ap (λ k. get_or (map code_of c.methods ++ later) (k + i) None) (sym count) ∙ get_or-append-add (map code_of c.methods) later i None)
      (omega (arith, within)) in (
        told_methods first c.methods
            (λ i inside. codes i (omega (arith, inside)) ∙ get_or_append_left (map code_of c.methods) later None i (omega (arith, inside, count)))
            (omega (arith, within)),
        subst (λ l. AreAllPlanned p facts chains (first + n) l classes) (sym (drop-drop n first done)) rest,
      )

-- ---- the methods of given classes

codes_counted : (given : List ClassDef) → length (flat_map (λ (c : ClassDef). map code_of c.methods) given) ≡ method_count given
codes_counted [] = refl
codes_counted (c ∷ given) =
    length-append (map code_of c.methods) (flat_map (λ (d : ClassDef). map code_of d.methods) given)
    ∙ (λ k. length-map c.methods code_of k + codes_counted given k)

-- a program has the methods of the built-in classes and those of the given ones
all_counted : (given : List ClassDef) (main : List ℕ) → length (methods_of (program_of given main).outline.classes) ≡ first_given + method_count given
unfolding program_of outline_of codes_of
all_counted given main =
    let count = (AreCodes-all given).count in
    let both = length-append (replicate (length (methods_of built_in)) None) (flat_map (λ (c : ClassDef). map code_of c.methods) given) in
    let none : length (replicate {A = Option Code} (length (methods_of built_in)) None) ≡ length (methods_of built_in) =
    length-replicate (length (methods_of built_in)) None in
    sym count ∙ both ∙ (λ k. none k + codes_counted given k)

code_of_given : (given : List ClassDef) (main : List ℕ) (i : ℕ)
    → code_at (program_of given main) (first_given + i) ≡ get_or (flat_map (λ (c : ClassDef). map code_of c.methods) given) i None
unfolding program_of codes_of
code_of_given given main i =
    let none : length (replicate {A = Option Code} (length (methods_of built_in)) None) ≡ length (methods_of built_in) =
    length-replicate (length (methods_of built_in)) None in
    let front : List (Option Code) = replicate (length (methods_of built_in)) None in
    let all = flat_map (λ (c : ClassDef). map code_of c.methods) given in
    ap (λ n. get_or (front ++ all) (n + i) None) (sym none) ∙ get_or-append-add front all i None

-- the same where the program may be narrowed
module _ (given : List ClassDef) (main : List ℕ) (p : Program) (program_is : IsProgramOf given main p) where
  pub methods_counted : length (methods_of p.outline.classes) ≡ first_given + method_count given
  methods_counted = ap (λ (z : Program). length (methods_of z.outline.classes)) program_is ∙ all_counted given main

  pub code_given : (i : ℕ) → code_at p (first_given + i) ≡ get_or (flat_map (λ (c : ClassDef). map code_of c.methods) given) i None
  code_given i = ap (λ (z : Program). code_at z (first_given + i)) program_is ∙ code_of_given given main i

  module _ (chains : Bool) (done : List Planned) (are : ArePlanned p chains done) where
    counted : length done ≡ first_given + method_count given
    counted = are.one_each ∙ methods_counted

    -- there is one plan for each method of the given classes
    pub given_counted : length (drop first_given done) ≡ method_count given
    given_counted = let left = length-drop first_given done in omega (arith, left, counted)

    pub all_planned : AreAllPlanned p are.facts chains first_given (drop first_given done) given
    all_planned = told_classes p are.facts chains done are.coded are.others first_given given (λ i inside. code_given i) (omega (arith, counted))

-- what is planned for the methods of class files is what the definitions insert
pub all_meant : (p : Program) (facts : Facts) (chains : Bool) (first : ℕ) (done : List Planned) (classes : List ClassDef) → AllByRecursion HasSpelling classes
    → AreAllPlanned p facts chains first done classes → AreAllMeant (plans_for chains p facts) first done classes
all_meant p facts chains first done [] spelled are = tt
all_meant p facts chains first done (c ∷ classes) spelled are = (
  members_meant (is_interface c.flags) c.pool.entries p facts chains first (own c done) c.methods spelled.0.1.methods are.0,
  all_meant p facts chains (first + length c.methods) (others c done) classes spelled.1 are.1,
)
