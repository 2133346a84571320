-- A class of which no site is held is written as it was read.
use Rattle.std.proofs.Common.{◌≡◌, ℕ, ◌+◌, ◌<◌, ◌||◌, Bool, true, false, List, [], ◌∷◌, ◌++◌, length, map, Option, Some, None, refl, sym, ap, subst, ◌∙◌, arith}
use Rattle.std.specs.Prelude.{if◌then◌else◌, is_some, option_and_then, option_map}
use Rattle.std.specs.List.{AllByRecursion, list_any, range_with_len, sum}
use Rattle.std.proofs.lemmas.Bool.{false≢true}
use Rattle.std.proofs.lemmas.List.{length-map}
use Rattle.std.proofs.lemmas.List.Sums.{sum_by-cons}
use Rattle.fm_chain.specs.Chaining.{chained_class, chained_from, changed_class}
use Rattle.fm_chain.specs.Loops.{is_looped}
use Rattle.fm_chain.specs.SafeChains.{looped_plan}
use Rattle.fm_code.specs.ClassBytes.{class_bytes}
use Rattle.fm_code.specs.declared.class_file.ClassDef.{ClassDef}
use Rattle.fm_code.specs.declared.code_array.Code.{Code}
use Rattle.fm_conn.specs.Facts.{Facts}
use Rattle.fm_conn.specs.Links.{typed_method}
use Rattle.fm_conn.specs.Nodes.{TypedMethod}
use Rattle.fm_files.specs.Files.{Bytes, Contents, Holds}
use Rattle.fm_load.specs.Taking.{AreTaken}
use Rattle.fm_place.specs.Insertions.{all_holders, full_insertions, Holder, Insertions}
use Rattle.fm_place.specs.Rewriting.{changes, first_given, Plans, site_count, sites_in}
use Rattle.fm_rewrite.proofs.FullPlanLemmas.{holders_counted}
use Rattle.fm_rewrite.specs.Rewritten.{counts_from}
use Rattle.fm_rewrite.specs.Causes.{plans_for}
use Rattle.fm_rewrite.specs.declared.counts.Count.{Count}
use Rattle.fm_rewrite.specs.declared.rewriting.Rewritten.{Rewritten}
use Rattle.fm_world.specs.Programs.{code_at, Program}
use Rattle.freeme.proofs.RewritingLemmas.{full_written}
use Rattle.freeme.proofs.WrittenLemmas.{is_all}
use Rattle.freeme.specs.Rewriting.{AreRewrittenBy, own_facts}
use Rattle.freeme.specs.TopCall.{AreStill, HoldsStill}
use Rattle.freeme.specs.Writing.{written_name}

-- ---- a class

-- where none is counted none passes a test that only counted ones pass
none_passes : {X : Type 0} (count : X → ℕ) (test : X → Bool) → ((x : X) → test x ≡ true → 0 < count x) → (xs : List X) → sum (map count xs) ≡ 0 → list_any test xs ≡ false
none_passes count test some [] none = refl
none_passes count test some (x ∷ xs) none = by (test x) refl (none_passes count test some xs (omega (arith, all))) where
  all : count x + sum (map count xs) ≡ 0
  all = sym (sum_by-cons (λ (n : ℕ). n) (count x) (map count xs)) ∙ none

  by : (b : Bool) → test x ≡ b → list_any test xs ≡ false → (test x || list_any test xs) ≡ false
  by true passes rest = absurd (let many = some x passes in omega (arith, many, all))
  by false fails rest = ap (λ b. b || list_any test xs) fails ∙ rest

-- what is planned for a method has a holder
plan_holds : (facts : Facts) (x : TypedMethod) (o : Option Insertions) → full_insertions facts x ≡ o → is_some o ≡ true → 0 < site_count o
plan_holds facts x None full some = absurd (false≢true some)
plan_holds facts x (Some plan) full some =
    let own = is_all facts x plan full in
    let same : length plan.holders ≡ length (all_holders facts x) = ap (λ (i : Insertions). length i.holders) own.all in
    let counted = holders_counted facts x in
    let held = own.held in
    omega (arith, same, counted, held)

method_holds : (facts : Facts) (o : Option TypedMethod) → is_some (option_and_then (full_insertions facts) o) ≡ true → 0 < site_count (option_and_then (full_insertions facts) o)
method_holds facts None some = absurd (false≢true some)
method_holds facts (Some x) some = plan_holds facts x (full_insertions facts x) refl some

-- flags change no count
looped_holds : (code : Code) (o : Option Insertions) → (is_some o ≡ true → 0 < site_count o) → is_some (looped_plan (Some code) o) ≡ true
    → 0 < site_count (looped_plan (Some code) o)
looped_holds code None hold some = absurd (false≢true some)
looped_holds code (Some plan) hold some =
    let many = hold refl in
    let same = length-map plan.holders (λ (h : Holder). record h { looped = is_looped code h.site }) in
    omega (arith, many, same)

bare_holds : (o : Option Insertions) → is_some (looped_plan None o) ≡ true → 0 < site_count (looped_plan None o)
bare_holds None some = absurd (false≢true some)
bare_holds (Some plan) some = absurd (false≢true some)

plans_hold : (chains : Bool) (p : Program) (facts : Facts) (method : ℕ) → is_some (plans_for chains p facts method) ≡ true → 0 < site_count (plans_for chains p facts method)
plans_hold false p facts method = method_holds facts (option_map (typed_method p facts.typing method) (code_at p method))
plans_hold true p facts method = by (code_at p method) where
  by : (o : Option Code)
      → is_some (looped_plan o (option_and_then (full_insertions facts) (option_map (typed_method p facts.typing method) o))) ≡ true
      → 0 < site_count (looped_plan o (option_and_then (full_insertions facts) (option_map (typed_method p facts.typing method) o)))
  by None = bare_holds (option_and_then (full_insertions facts) None)
  by (Some code) =
      let x = typed_method p facts.typing method code in looped_holds code (full_insertions facts x) (method_holds facts (Some x))

module _ (plans : Plans) (hold : (method : ℕ) → is_some (plans method) ≡ true → 0 < site_count (plans method)) where
  -- a class of which no site is held is as it was
  class_still : (first : ℕ) (c : ClassDef) → sites_in plans first c ≡ 0 → chained_class plans first c ≡ c
  class_still first c none =
      let same : changes plans first c ≡ false =
      none_passes {X = ℕ} (λ method. site_count (plans method)) (λ method. is_some (plans method)) hold (range_with_len first (length c.methods)) none in
      ap (λ (b : Bool). if b then changed_class plans first c else c) same

-- ---- files

holds_still : (file name before after : Bytes) (old new : Contents) → after ≡ before → Holds old file before → Holds new name after → HoldsStill file name old new
holds_still file name before after None new same held now = tt
holds_still file name before after (Some old) None same held now = tt
holds_still file name before after (Some old) (Some new) same held now = now ∙ ap Some same ∙ sym held

module _ (plans : Plans) (hold : (method : ℕ) → is_some (plans method) ≡ true → 0 < site_count (plans method)) (folder : Bytes) (old new : Contents) where
  -- of the classes of files, with one more behind them that was not read
  files_still : (first : ℕ) (files : List Bytes) (read more : List ClassDef) → AreTaken old files read
      → AllByRecursion (λ (c : ClassDef). Holds new (written_name folder c) (class_bytes c)) (chained_from plans first (read ++ more))
      → AreStill folder files (chained_from plans first (read ++ more)) (counts_from plans first (read ++ more)) old new
  files_still first [] [] more taken written = tt
  files_still first (file ∷ files) (c ∷ read) more taken written = (
    λ none. holds_still file (written_name folder (chained_class plans first c)) (class_bytes c) (class_bytes (chained_class plans first c)) old new
        (ap class_bytes (class_still plans hold first c none)) taken.0.holds written.0,
    files_still (first + length c.methods) files read more taken.1 written.1,
  )
  files_still first [] (c ∷ read) more taken written = absurd taken
  files_still first (file ∷ files) [] more taken written = absurd taken

-- the classes of which no site is held are written byte for byte as they were read
pub are_still : {chains : Bool} (given : List ClassDef) {p : Program} (made : Rewritten) (folder : Bytes) (files : List Bytes) (old new : Contents)
    (read more : List ClassDef) → AreTaken old files read → given ≡ read ++ more → AreRewrittenBy chains p given made → AllByRecursion (λ (c : ClassDef). Holds new (written_name folder c) (class_bytes c)) made.classes.items
    → AreStill folder files made.classes.items made.counts.items old new
are_still {chains} given {p} made folder files old new read more taken given_is are written =
    let plans = plans_for chains p (own_facts are) in
    let full = full_written chains p given made.classes.items are.marks are.full in
    let P : List ClassDef → Type 0 = AllByRecursion (λ (c : ClassDef). Holds new (written_name folder c) (class_bytes c)) in
    let now = subst P (full ∙ ap (chained_from plans first_given) given_is) written in
    let first = files_still plans (plans_hold chains p (own_facts are)) folder old new first_given files read more taken now in
    let Still : List ClassDef → Type 0 = λ cs. AreStill folder files (chained_from plans first_given cs) (counts_from plans first_given cs) old new in
    let all = subst Still (sym given_is) first in
    subst (λ (classes : List ClassDef). AreStill folder files classes made.counts.items old new) (sym full)
    (subst (λ (counts : List Count). AreStill folder files (chained_from plans first_given given) counts old new) (sym are.counts_are) all)
