-- The counts of all classes by what is to be done with their methods are those of the definitions
-- by what is inserted.
use Rattle.std.proofs.Common.{◌≡◌, refl, ℕ, ◌+◌, ◌&&◌, Bool, cond, List, [], ◌∷◌, length, Option, Some, None}
use Rattle.std.specs.Prelude.{nat_lt}
use Rattle.std.specs.Option.{option_map, option_or}
use Rattle.fm_chain.specs.Chaining.{chained_from, entries_for}
use Rattle.fm_code.specs.declared.class_file.ClassDef.{ClassDef}
use Rattle.fm_place.specs.Rewriting.{Plans}
use Rattle.fm_rewrite.proofs.ClassMeantLemmas.{class_chains, class_changes, class_frees, class_long, class_same, class_short, class_sites, or_first, or_rest}
use Rattle.fm_rewrite.specs.Causes.{full_from, long_from, max_pool_indices}
use Rattle.fm_rewrite.specs.Rewritten.{counts_from}
use Rattle.fm_rewrite.specs.inner.ByPlans.{classes_by, counts_by, first_full_by, first_long_by, long_by, others, own}
use Rattle.fm_rewrite.specs.inner.Meant.{AreAllMeant}
use Rattle.fm_place_weave.specs.declared.planned.Planned.{Planned}

-- how many indices the pool of a class would have, by whether it is changed
abbrev pub full_where : ClassDef → (changed chains : Bool) → Option ℕ
full_where c changed chains =
    let entries = entries_for chains c.pool.entries in cond (changed && nat_lt max_pool_indices (length entries)) (Some (length entries)) None

pub all_full : (plans : Plans) (class first : ℕ) (done : List Planned) (classes : List ClassDef) → AreAllMeant plans first done classes
    → first_full_by class done classes ≡ full_from plans class first classes
all_full plans class first done [] meant = refl
all_full plans class first done (c ∷ classes) meant =
    λ k. option_or (option_map (λ indices. (class, indices)) (full_where c (class_changes plans first (own c done) c meant.0 k) (class_chains plans first (own c done) c meant.0 k)))
    (all_full plans (class + 1) (first + length c.methods) (others c done) classes meant.1 k)

pub all_long : (plans : Plans) (first : ℕ) (done : List Planned) (classes : List ClassDef) → AreAllMeant plans first done classes
    → first_long_by first done classes ≡ long_from plans first classes
all_long plans first done [] meant = refl
all_long plans first done (c ∷ classes) meant =
    λ k. option_or (class_long plans first (own c done) c meant.0 k) (all_long plans (first + length c.methods) (others c done) classes meant.1 k)

pub all_rewritten : (plans : Plans) (first : ℕ) (done : List Planned) (classes : List ClassDef) → AreAllMeant plans first done classes
    → first_long_by first done classes ≡ None → classes_by done classes ≡ chained_from plans first classes
all_rewritten plans first done [] meant none = refl
all_rewritten plans first done (c ∷ classes) meant none =
    let told = long_by first (own c done) c in
    let later = first_long_by (first + length c.methods) (others c done) classes in
    let short = class_short plans first (own c done) c meant.0 (or_first told later none) in
    λ k. class_same plans first (own c done) c meant.0 short k
    ∷ all_rewritten plans (first + length c.methods) (others c done) classes meant.1 (or_rest told later none) k

pub all_counts : (plans : Plans) (first : ℕ) (done : List Planned) (classes : List ClassDef) → AreAllMeant plans first done classes
    → first_long_by first done classes ≡ None → counts_by done classes ≡ counts_from plans first classes
all_counts plans first done [] meant none = refl
all_counts plans first done (c ∷ classes) meant none =
    let told = long_by first (own c done) c in
    let later = first_long_by (first + length c.methods) (others c done) classes in
    let short = class_short plans first (own c done) c meant.0 (or_first told later none) in
    λ k. record { sites = class_sites plans first (own c done) c meant.0 short k; frees = class_frees plans first (own c done) c meant.0 short k }
    ∷ all_counts plans (first + length c.methods) (others c done) classes meant.1 (or_rest told later none) k
