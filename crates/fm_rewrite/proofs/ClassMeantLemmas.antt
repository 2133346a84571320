-- The counts of a class by what is to be done with its methods are those of the definitions by what
-- is inserted.
use Rattle.std.proofs.Common.{◌≡◌, refl, sym, ◌∙◌, ap, ℕ, ◌+◌, ◌||◌, Bool, true, false, cond, List, [], ◌∷◌, length, map, Option, Some, None}
use Rattle.std.specs.Prelude.{is_some, sum}
use Rattle.std.specs.List.{AllByRecursion, list_any, range_with_len}
use Rattle.std.specs.Option.{option_map, option_or}
use Rattle.std.proofs.lemmas.List.Sums.{sum_by-cons}
use Rattle.fm_chain.proofs.PlanLaws.{plans_have_the_chains}
use Rattle.fm_chain.specs.Chaining.{calls_for, chained_class, changed_class, class_calls, class_has_chain, plan_has_chain}
use Rattle.fm_chain.specs.declared.calls.Calls.{Calls}
use Rattle.fm_code.specs.declared.class_file.ClassDef.{ClassDef}
use Rattle.fm_code.specs.declared.class_file.Member.{Member}
use Rattle.fm_place.proofs.PlanLemmas.{frees_counted}
use Rattle.fm_place.specs.Insertions.{Insertions}
use Rattle.fm_place.specs.Rewriting.{changes, free_count, frees_in, Plans, site_count, sites_in}
use Rattle.fm_rewrite.proofs.AlikeLemmas.{alike_all}
use Rattle.fm_rewrite.specs.Alike.{IsShortEnough}
use Rattle.fm_rewrite.specs.Causes.{long_among, long_method}
use Rattle.fm_rewrite.specs.inner.ByPlans.{changes_by, frees_by, frees_of_one, is_changed, long_by, rewritten_by, sites_by, sites_of_one}
use Rattle.fm_rewrite.specs.inner.Meant.{AreMeant, IsMeant}
use Rattle.fm_place_weave.proofs.ClassLawLemmas.{classes_are_chained}
use Rattle.fm_place_weave.specs.ClassByPlan.{chains_in, class_by, first_long, has_chains}
use Rattle.fm_place_weave.specs.ClassByPlan as weave
use Rattle.fm_place_weave.specs.declared.planned.Planned.{Planned}
use Rattle.fm_place_weave.specs.declared.planned.Planned.TheVariants as planned

-- ---- changed or not

changed_same : (o : Option Insertions) (d : Planned) (m : Member) → IsMeant o d m → is_changed d ≡ is_some o
changed_same None planned.Same m meant = refl
changed_same None (planned.Woven plan) m meant = absurd meant
changed_same None (planned.TooLong bytes chains) m meant = absurd meant
changed_same (Some ins) planned.Same m meant = absurd meant
changed_same (Some ins) (planned.Woven plan) m meant = refl
changed_same (Some ins) (planned.TooLong bytes chains) m meant = refl

changes_same : (plans : Plans) (first : ℕ) (done : List Planned) (methods : List Member) → AreMeant plans first done methods
    → changes_by done ≡ list_any (λ method. is_some (plans method)) (range_with_len first (length methods))
changes_same plans first [] [] meant = refl
changes_same plans first [] (m ∷ methods) meant = absurd meant
changes_same plans first (d ∷ done) [] meant = absurd meant
changes_same plans first (d ∷ done) (m ∷ methods) meant =
    λ k. changed_same (plans first) d m meant.0 k || changes_same plans (first + 1) done methods meant.1 k

-- a class has a changed method where a method has a plan
pub class_changes : (plans : Plans) (first : ℕ) (done : List Planned) (c : ClassDef) → AreMeant plans first done c.methods
    → changes_by done ≡ changes plans first c
class_changes plans first done c meant = changes_same plans first done c.methods meant

-- ---- methods that are too long

long_same : (calls : Calls) (o : Option Insertions) (d : Planned) (m : Member) → IsMeant o d m → weave.long_method calls d m ≡ long_method calls o m
long_same calls None planned.Same m meant = refl
long_same calls None (planned.Woven plan) m meant = absurd meant
long_same calls None (planned.TooLong bytes chains) m meant = absurd meant
long_same calls (Some ins) planned.Same m meant = absurd meant
long_same calls (Some ins) (planned.Woven plan) m meant = meant.long calls
long_same calls (Some ins) (planned.TooLong bytes chains) m meant = sym (meant.long calls)

first_same : (calls : Calls) (plans : Plans) (first : ℕ) (done : List Planned) (methods : List Member) → AreMeant plans first done methods
    → first_long calls first done methods ≡ long_among plans calls first methods
first_same calls plans first [] [] meant = refl
first_same calls plans first [] (m ∷ methods) meant = absurd meant
first_same calls plans first (d ∷ done) [] meant = absurd meant
first_same calls plans first (d ∷ done) (m ∷ methods) meant =
    λ k. option_or (option_map (λ bytes. (first, bytes)) (long_same calls (plans first) d m meant.0 k)) (first_same calls plans (first + 1) done methods meant.1 k)

-- where no method is changed none is too long
none_long : (calls : Calls) (n : ℕ) (done : List Planned) (methods : List Member) → changes_by done ≡ false → first_long calls n done methods ≡ None
none_long calls n [] methods same = refl
none_long calls n (d ∷ done) [] same = refl
none_long calls n (planned.Same ∷ done) (m ∷ methods) same = none_long calls (n + 1) done methods same
none_long calls n (planned.Woven plan ∷ done) (m ∷ methods) same = absurd cc
none_long calls n (planned.TooLong bytes chains ∷ done) (m ∷ methods) same = absurd cc

-- a method's plan has a holder of a chain where what is inserted has one
chain_meant : (o : Option Insertions) (d : Planned) (m : Member) → IsMeant o d m → chains_in d ≡ plan_has_chain o
chain_meant None planned.Same m meant = refl
chain_meant None (planned.Woven plan) m meant = absurd meant
chain_meant None (planned.TooLong bytes chains) m meant = absurd meant
chain_meant (Some ins) planned.Same m meant = absurd meant
chain_meant (Some ins) (planned.Woven plan) m meant = plans_have_the_chains ins plan meant.plan_is
chain_meant (Some ins) (planned.TooLong bytes chains) m meant = meant.chains_are

chains_meant : (plans : Plans) (first : ℕ) (done : List Planned) (methods : List Member) → AreMeant plans first done methods
    → list_any chains_in done ≡ list_any (λ method. plan_has_chain (plans method)) (range_with_len first (length methods))
chains_meant plans first [] [] meant = refl
chains_meant plans first [] (m ∷ methods) meant = absurd meant
chains_meant plans first (d ∷ done) [] meant = absurd meant
chains_meant plans first (d ∷ done) (m ∷ methods) meant =
    λ k. chain_meant (plans first) d m meant.0 k || chains_meant plans (first + 1) done methods meant.1 k

-- so it is of a class
pub class_chains : (plans : Plans) (first : ℕ) (done : List Planned) (c : ClassDef) → AreMeant plans first done c.methods
    → has_chains done ≡ class_has_chain plans first c
class_chains plans first done c meant = chains_meant plans first done c.methods meant

-- by which entries it calls the methods of FreeMe
abbrev own_calls : List Planned → ClassDef → Calls
own_calls done c = calls_for (has_chains done) c.pool.entries

pub class_long : (plans : Plans) (first : ℕ) (done : List Planned) (c : ClassDef) → AreMeant plans first done c.methods
    → long_by first done c ≡ long_among plans (class_calls plans first c) first c.methods
class_long plans first done c meant =
    by_test (changes_by done) refl ∙ first_same (own_calls done c) plans first done c.methods meant
    ∙ (λ k. long_among plans (calls_for (class_chains plans first done c meant k) c.pool.entries) first c.methods) where
      by_test : (b : Bool) → changes_by done ≡ b
          → cond b (first_long (own_calls done c) first done c.methods) None ≡ first_long (own_calls done c) first done c.methods
      by_test true is = refl
      by_test false is = sym (none_long (own_calls done c) first done c.methods is)

-- ---- methods that are short enough

pub or_first : {T : Type 0} (a b : Option T) → option_or a b ≡ None → a ≡ None
or_first None b none = refl
or_first (Some x) b none = absurd cc

pub or_rest : {T : Type 0} (a b : Option T) → option_or a b ≡ None → b ≡ None
or_rest None b none = none
or_rest (Some x) b none = absurd cc

all_short : (calls : Calls) (n : ℕ) (plans : Plans) (first : ℕ) (done : List Planned) (methods : List Member) → AreMeant plans first done methods
    → first_long calls n done methods ≡ None → AllByRecursion IsShortEnough done
all_short calls n plans first [] methods meant none = tt
all_short calls n plans first (d ∷ done) [] meant none = absurd meant
all_short calls n plans first (d ∷ done) (m ∷ methods) meant none =
    let told : Option (ℕ × ℕ) = option_map (λ bytes. (n, bytes)) (weave.long_method calls d m) in (
      short d (or_first told (first_long calls (n + 1) done methods) none),
      all_short calls (n + 1) plans (first + 1) done methods meant.1 (or_rest told (first_long calls (n + 1) done methods) none),
    ) where
      short : (d : Planned) → option_map {U = ℕ × ℕ} (λ bytes. (n, bytes)) (weave.long_method calls d m) ≡ None → IsShortEnough d
      short planned.Same none = tt
      short (planned.Woven plan) none = tt
      short (planned.TooLong bytes chains) none = absurd cc

unchanged_short : (done : List Planned) → changes_by done ≡ false → AllByRecursion IsShortEnough done
unchanged_short [] same = tt
unchanged_short (planned.Same ∷ done) same = (tt, unchanged_short done same)
unchanged_short (planned.Woven plan ∷ done) same = absurd cc
unchanged_short (planned.TooLong bytes chains ∷ done) same = absurd cc

-- where none of a class is too long, all are short enough
pub class_short : (plans : Plans) (first : ℕ) (done : List Planned) (c : ClassDef) → AreMeant plans first done c.methods → long_by first done c ≡ None
    → AllByRecursion IsShortEnough done
class_short plans first done c meant none = by_test (changes_by done) refl where
  by_test : (b : Bool) → changes_by done ≡ b → AllByRecursion IsShortEnough done
  by_test true is =
      all_short (own_calls done c) first plans first done c.methods meant
      (sym (ap (λ b. cond b (first_long (own_calls done c) first done c.methods) None) is) ∙ none)
  by_test false is = unchanged_short done is

-- ---- the class

pub class_same : (plans : Plans) (first : ℕ) (done : List Planned) (c : ClassDef) → AreMeant plans first done c.methods → AllByRecursion IsShortEnough done
    → rewritten_by done c ≡ chained_class plans first c
class_same plans first done c meant short = by_tests (changes_by done) refl where
  by_tests : (b : Bool) → changes_by done ≡ b → cond (changes_by done) (class_by done c) c ≡ chained_class plans first c
  by_tests true is =
      ap (λ b. cond b (class_by done c) c) is
      ∙ classes_are_chained plans first done c (alike_all plans first done c.methods meant short) (sym (class_changes plans first done c meant) ∙ is)
  by_tests false is =
      ap (λ b. cond b (class_by done c) c) is
      ∙ sym (ap (λ (b : Bool). cond b (changed_class plans first c) c) (sym (class_changes plans first done c meant) ∙ is))

-- ---- counts

sites_one : (o : Option Insertions) (d : Planned) (m : Member) → IsMeant o d m → IsShortEnough d → sites_of_one d ≡ site_count o
sites_one None planned.Same m meant short = refl
sites_one None (planned.Woven plan) m meant short = absurd meant
sites_one None (planned.TooLong bytes chains) m meant short = absurd meant
sites_one (Some ins) planned.Same m meant short = absurd meant
sites_one (Some ins) (planned.Woven plan) m meant short = meant.plan_is.plan_is.holders
sites_one (Some ins) (planned.TooLong bytes chains) m meant short = absurd short

frees_one : (o : Option Insertions) (d : Planned) (m : Member) → IsMeant o d m → IsShortEnough d → frees_of_one d ≡ free_count o
frees_one None planned.Same m meant short = refl
frees_one None (planned.Woven plan) m meant short = absurd meant
frees_one None (planned.TooLong bytes chains) m meant short = absurd meant
frees_one (Some ins) planned.Same m meant short = absurd meant
frees_one (Some ins) (planned.Woven plan) m meant short = frees_counted ins plan.plan meant.plan_is.plan_is
frees_one (Some ins) (planned.TooLong bytes chains) m meant short = absurd short

sites_same : (plans : Plans) (first : ℕ) (done : List Planned) (methods : List Member) → AreMeant plans first done methods → AllByRecursion IsShortEnough done
    → sites_by done ≡ sum (map (λ method. site_count (plans method)) (range_with_len first (length methods)))
sites_same plans first [] [] meant short = refl
sites_same plans first [] (m ∷ methods) meant short = absurd meant
sites_same plans first (d ∷ done) [] meant short = absurd meant
sites_same plans first (d ∷ done) (m ∷ methods) meant short =
    (λ k. sites_one (plans first) d m meant.0 short.0 k + sites_same plans (first + 1) done methods meant.1 short.1 k)
    ∙ sym (sum_by-cons (λ n. n) (site_count (plans first)) (map (λ method. site_count (plans method)) (range_with_len (first + 1) (length methods))))

frees_same : (plans : Plans) (first : ℕ) (done : List Planned) (methods : List Member) → AreMeant plans first done methods → AllByRecursion IsShortEnough done
    → frees_by done ≡ sum (map (λ method. free_count (plans method)) (range_with_len first (length methods)))
frees_same plans first [] [] meant short = refl
frees_same plans first [] (m ∷ methods) meant short = absurd meant
frees_same plans first (d ∷ done) [] meant short = absurd meant
frees_same plans first (d ∷ done) (m ∷ methods) meant short =
    (λ k. frees_one (plans first) d m meant.0 short.0 k + frees_same plans (first + 1) done methods meant.1 short.1 k)
    ∙ sym (sum_by-cons (λ n. n) (free_count (plans first)) (map (λ method. free_count (plans method)) (range_with_len (first + 1) (length methods))))

pub class_sites : (plans : Plans) (first : ℕ) (done : List Planned) (c : ClassDef) → AreMeant plans first done c.methods → AllByRecursion IsShortEnough done
    → sites_by done ≡ sites_in plans first c
class_sites plans first done c meant short = sites_same plans first done c.methods meant short

pub class_frees : (plans : Plans) (first : ℕ) (done : List Planned) (c : ClassDef) → AreMeant plans first done c.methods → AllByRecursion IsShortEnough done
    → frees_by done ≡ frees_in plans first c
class_frees plans first done c meant short = frees_same plans first done c.methods meant short
