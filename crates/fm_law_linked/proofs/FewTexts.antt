-- Few texts have numbers: a constant pool has fewer than 2^16 entries (JVMS 4.1).
use Rattle.std.proofs.Common.{◌≡◌, refl, ℕ, suc, ◌+◌, ◌*◌, ◌^◌, ◌≤◌, not, Bool, List, [], ◌∷◌, length, filter, Option, Some, None, arith, length-append}
use Rattle.std.specs.List.{AllByRecursion, cons_option, filter_map, flat_map}
use Rattle.std.specs.Str.{bytes_eq}
use Rattle.std.proofs.lemmas.List.FromFn.{length-range_with_len}
use Rattle.std.proofs.lemmas.List.Sums.{count_by-le-length, length-filter}
use Rattle.fm_base.specs.declared.limits.TheConstants.{MAX_CLASS_FILES}
use Rattle.fm_code.specs.Spells.{HasSpelling}
use Rattle.fm_code.specs.declared.class_file.ClassDef.{ClassDef}
use Rattle.fm_world.specs.Chains.{distinct}
use Rattle.fm_world.specs.Numbers.{text_units, texts_of}
use Rattle.fm_world.specs.Programs.{outline_of}
use Rattle.fm_world.specs.Uses.{is_used, pool_indices, uses_in_order}

-- ---- lists that are no longer than others

pub filter_few : {X : Type 0} (test : X → Bool) (xs : List X) → length (filter test xs) ≤ length xs
filter_few test xs =
    let some = count_by-le-length test xs in
    let same = length-filter test xs in omega (arith, some, same)

distinct_few : {X : Type 0} (same : X → X → Bool) (xs : List X) → length (distinct same xs) ≤ length xs
distinct_few same [] = omega arith
distinct_few same (x ∷ xs) =
    let some = filter_few (λ y. not (same x y)) (distinct same xs) in
    let rest = distinct_few same xs in omega (arith, some, rest)

given_few : {Y : Type 0} (o : Option Y) (rest : List Y) (n : ℕ) → length rest ≤ n → length (cons_option o rest) ≤ suc n
given_few None rest n few = omega (arith, few)
given_few (Some y) rest n few = omega (arith, few)

filter_map_few : {X Y : Type 0} (f : X → Option Y) (xs : List X) → length (filter_map f xs) ≤ length xs
filter_map_few f [] = omega arith
filter_map_few f (x ∷ xs) = given_few (f x) (filter_map f xs) (length xs) (filter_map_few f xs)

-- where each gives no more than this many
pub flat_few : {A B : Type 0} (g : A → List B) (bound : ℕ) → ((x : A) → length (g x) ≤ bound) → (xs : List A)
    → length (flat_map g xs) ≤ length xs * bound
flat_few g bound each [] = omega arith
flat_few g bound each (x ∷ xs) =
    let all = length-append (g x) (flat_map g xs) in
    let first = each x in
    let rest = flat_few g bound each xs in
    let more : suc (length xs) * bound ≡ bound + length xs * bound = grind arith in omega (arith, all, first, rest, more)

-- ---- the texts of class files

file_few : (c : ClassDef) → HasSpelling c → length (filter_map (text_units c.pool.entries) (uses_in_order c)) ≤ 65536
file_few c spelled =
    let count = spelled.1.pool.fits.count in
    let named = filter_map_few (text_units c.pool.entries) (uses_in_order c) in
    let used = filter_few (is_used c) (pool_indices c) in
    let all = length-range_with_len 0 (length c.pool.entries) in omega (arith, count, named, used, all)

files_few : (given : List ClassDef) → AllByRecursion HasSpelling given
    → length (flat_map (λ (c : ClassDef). filter_map (text_units c.pool.entries) (uses_in_order c)) given) ≤ length given * 65536
files_few [] spelled = omega arith
files_few (c ∷ given) spelled =
    let all = length-append (filter_map (text_units c.pool.entries) (uses_in_order c))
    (flat_map (λ (d : ClassDef). filter_map (text_units d.pool.entries) (uses_in_order d)) given) in
    let first = file_few c spelled.0 in
    let rest = files_few given spelled.1 in omega (arith, all, first, rest)

-- the texts of as many class files as one call takes
pub few_texts : (given : List ClassDef) (main : List ℕ) → AllByRecursion HasSpelling given → length given ≤ MAX_CLASS_FILES
    → length (outline_of given main).texts ≤ 2 ^ 28
unfolding outline_of texts_of
few_texts given main spelled few =
    let named = files_few given spelled in
    let once = distinct_few bytes_eq (flat_map (λ (c : ClassDef). filter_map (text_units c.pool.entries) (uses_in_order c)) given) in
    let limit : MAX_CLASS_FILES ≡ 4096 = refl in omega (arith, few, named, once, limit)
