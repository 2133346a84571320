-- What is copied out for a program returns what it looks up.
use Rattle.std.proofs.Common.{◌≡◌, ◌∙◌, ap, subst, ℕ, zero, suc, ◌+◌, ◌<◌, ◌≤◌, List, [], ◌∷◌, length, map, get_or, arith}
use Rattle.std.specs.HashMap.{HashMap}
use Rattle.std.proofs.Math.ListN.{get_or-map}
use Rattle.std.proofs.lemmas.List.FromFn.{get_or-map-range_with_len, length-map-range_with_len}
use Rattle.fm_link_members.proofs.SectionRows.{before-next}
use Rattle.fm_link_members.specs.declared.members.MemberRow.{MemberRow}
use Rattle.fm_link_members.specs.inner.MemberRows.{no_row}
use Rattle.fm_link_records.specs.inner.Own.{AreOwnTables}
use Rattle.fm_link_program.specs.inner.MemberLists.{flags_in}
use Rattle.fm_world.specs.Members.{first_method}
use Rattle.fm_world.specs.declared.declarations.DeclaredClass.{DeclaredClass}
use Rattle.fm_world.specs.declared.declarations.DeclaredMethod.{DeclaredMethod}
use Rattle.fm_world.specs.inner.Tables.{numbers_below}

methods_in : DeclaredClass → List DeclaredMethod
methods_in c = c.methods

first-rising : (classes : List DeclaredClass) (t : ℕ) → first_method classes t ≤ first_method classes (suc t)
unfolding methods_in
first-rising [] zero = omega arith
first-rising [] (suc t) = omega arith
first-rising (c ∷ classes) zero = omega arith
first-rising (c ∷ classes) (suc t) =
    omega (arith, first-rising classes t, before-next methods_in c classes t, before-next methods_in c classes (suc t))

-- the number of the first method of the next class is not lower
pub firsts-rising : (classes : List DeclaredClass) (first : List ℕ) → first ≡ map (first_method classes) (numbers_below (length classes + 1))
    → (class : ℕ) → class + 1 < length first → get_or first class 0 ≤ get_or first (class + 1) 0
firsts-rising classes first is class within =
    let n = length classes + 1 in
    let long : length first ≡ n = ap length is ∙ length-map-range_with_len (first_method classes) 0 n in
    let below : class < n = omega (arith, within, long) in
    let next : class + 1 < n = omega (arith, within, long) in
    let here : get_or first class 0 ≡ first_method classes class =
    ap (λ xs. get_or xs class 0) is ∙ get_or-map-range_with_len (first_method classes) 0 n class class 0 below (omega arith) in
    let there : get_or first (class + 1) 0 ≡ first_method classes (class + 1) =
    ap (λ xs. get_or xs (class + 1) 0) is ∙ get_or-map-range_with_len (first_method classes) 0 n (class + 1) (class + 1) 0 next (omega arith) in
    let rises = first-rising classes class in
    let P : ℕ → Type 0 = λ k. first_method classes class ≤ first_method classes k in
    let e : suc class ≡ class + 1 = omega arith in
    let later = subst P e rises in
    omega (arith, here, there, later)

-- one number more than there are classes
pub firsts-some : (classes : List DeclaredClass) (first : List ℕ) → first ≡ map (first_method classes) (numbers_below (length classes + 1))
    → length first ≡ length classes + 1
firsts-some classes first is = ap length is ∙ length-map-range_with_len (first_method classes) 0 (length classes + 1)

pub flags-at : (rows : List MemberRow) (k : ℕ) → get_or (flags_in rows) k 0 ≡ (get_or rows k no_row).flags
flags-at rows k = get_or-map (λ (r : MemberRow). r.flags) rows k no_row

-- the tables by equal lists
pub own-tables : {S : Type 0} (first first' signatures signatures' flags flags' : List ℕ) (tables : List (HashMap ℕ ℕ S)) → first ≡ first'
    → signatures ≡ signatures' → flags ≡ flags' → AreOwnTables first signatures flags tables → AreOwnTables first' signatures' flags' tables
own-tables first first' signatures signatures' flags flags' tables first_is signatures_are flags_are own =
    subst (λ fs. AreOwnTables first' signatures' fs tables) flags_are
    (subst (λ ss. AreOwnTables first' ss flags tables) signatures_are
    (subst (λ fs. AreOwnTables fs signatures flags tables) first_is own))
