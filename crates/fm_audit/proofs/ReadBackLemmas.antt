-- Items with what is inserted between them are read as what was inserted.
use Rattle.std.proofs.Common.{◌≡◌, refl, sym, ◌∙◌, ap, subst, ℕ, ◌+◌, ◌-◌, ◌≤◌, ◌==◌, ◌&&◌, ◌++◌, inl, inr, Bool, true, false, cond, List, [], ◌∷◌, length, drop, map, Option, Some, None, append_assoc, append-nil, arith}
use Rattle.std.specs.Prelude.{slice_get, slice_index}
use Rattle.std.specs.List.{AllByRecursion, flat_map, range_with_len}
use Rattle.std.specs.Option.{option_map}
use Rattle.std.proofs.lemmas.Bool.{eq-eqb, le-ltb}
use Rattle.fm_base.proofs.TestFacts.{apart-nat_eq}
use Rattle.fm_code.specs.SpellsCode.{LocalsFit}
use Rattle.fm_code.specs.declared.code_array.Code.{Code}
use Rattle.fm_code.specs.declared.code_array.Item.{Item}
use Rattle.fm_code.specs.declared.instructions.Insn.{Insn}
use Rattle.fm_code.specs.declared.instructions.Insn.TheVariants as insn
use Rattle.fm_code.specs.declared.operations.Reg.TheVariants as reg
use Rattle.fm_code.specs.declared.operations.Test.{Test}
use Rattle.fm_code.specs.declared.operations.Test.TheVariants as test
use Rattle.fm_layout.specs.Spelling.{conditional, opposite, opposite_test}
use Rattle.fm_layout.specs.declared.new_items.NewItem.{NewItem}
use Rattle.fm_layout.specs.declared.rooms.Condition.{Condition}
use Rattle.fm_layout.specs.declared.rooms.Condition.TheVariants as condition
use Rattle.fm_place.specs.Insertions.{after_at, before_at, Insertions}
use Rattle.fm_place.specs.PlansBy.{paired}
use Rattle.fm_place.specs.Woven.{freed as freed_new, kept, local_of, null_stored, top_stored, woven_from}
use Rattle.fm_audit.proofs.LaidLemmas.{AreLaid, condition_is, inserted_first, IsKept, IsSplit, IsWhole, kept_first}
use Rattle.fm_audit.proofs.OwnLemmas.{loaded_own, none_if, stored_own}
use Rattle.fm_audit.proofs.ReadingLemmas.{frees_none, frees_some, nulls_some}
use Rattle.fm_audit.specs.Reading.{after_frees, after_nulls, after_taken, are_both_opposite, are_opposite, are_opposite_tests, calls, condition_of, differ, found_twice, freed, frees, holder_in, is_dup, is_goto, is_null, kept_count, loaded, nulled, nulls, pair_if, pairs_of, Pairs, read_from, stored, taken, with_pairs}

-- ---- conditions

test_itself : (t : Test) → are_opposite_tests t t ≡ false
test_itself test.Eq = refl
test_itself test.Ne = refl
test_itself test.Lt = refl
test_itself test.Ge = refl
test_itself test.Gt = refl
test_itself test.Le = refl

differ_itself : (b : Bool) → differ b b ≡ false
differ_itself true = refl
differ_itself false = refl

never_opposite : (o : Option Condition) → are_both_opposite o o ≡ false
never_opposite None = refl
never_opposite (Some (condition.Int t)) = test_itself t
never_opposite (Some (condition.Pair t)) = test_itself t
never_opposite (Some (condition.Same b)) = differ_itself b
never_opposite (Some (condition.Null b)) = differ_itself b

test_opposite : (t : Test) → are_opposite_tests t (opposite_test t) ≡ true
test_opposite test.Eq = refl
test_opposite test.Ne = refl
test_opposite test.Lt = refl
test_opposite test.Ge = refl
test_opposite test.Gt = refl
test_opposite test.Le = refl

opposites : (taken : Condition) → are_opposite taken (opposite taken) ≡ true
opposites (condition.Int t) = test_opposite t
opposites (condition.Pair t) = test_opposite t
opposites (condition.Same true) = refl
opposites (condition.Same false) = refl
opposites (condition.Null true) = refl
opposites (condition.Null false) = refl

-- a branch on a condition is none of what is inserted
record IsTest (i : Insn) : Type 0 where
  loads : (first : ℕ) → loaded first i ≡ None
  stores : (first : ℕ) → stored first i ≡ None
  null : is_null i ≡ false
  dup : is_dup i ≡ false

is_test : (taken : Condition) (n : ℕ) → IsTest (conditional taken n)
is_test (condition.Int t) n = record { loads = λ first. refl; stores = λ first. refl; null = refl; dup = refl }
is_test (condition.Pair t) n = record { loads = λ first. refl; stores = λ first. refl; null = refl; dup = refl }
is_test (condition.Same t) n = record { loads = λ first. refl; stores = λ first. refl; null = refl; dup = refl }
is_test (condition.Null t) n = record { loads = λ first. refl; stores = λ first. refl; null = refl; dup = refl }

-- ---- the first items

-- the holder into which the first item stores
abbrev pub first_stored : (first : ℕ) → List Item → Option ℕ
first_stored first [] = None
first_stored first (a ∷ items) = stored first a.insn

-- these items don't begin with what makes a holder null, nor with what lets one take an object
pub record AreQuiet (first : ℕ) (items : List Item) : Type 0 where
  pub stores : first_stored first items ≡ None
  pub nulls : nulled first items ≡ None
  pub takes : taken first items ≡ None

-- an item that doesn't store into a holder, before one that doesn't
quiet_two : (first : ℕ) (a : Item) (more : List Item) → stored first a.insn ≡ None → first_stored first more ≡ None → AreQuiet first (a ∷ more)
quiet_two first a [] own next = record { stores = own; nulls = refl; takes = refl }
quiet_two first a (b ∷ more) own next = record {
  stores = own;
  nulls = none_if (is_null a.insn) (stored first b.insn) next;
  takes = none_if (is_dup a.insn) (stored first b.insn) next;
}

-- an item that is neither aconst_null nor dup
quiet_one : (first : ℕ) (a : Item) (more : List Item) → stored first a.insn ≡ None → is_null a.insn ≡ false → is_dup a.insn ≡ false → AreQuiet first (a ∷ more)
quiet_one first a [] own null dup = record { stores = own; nulls = refl; takes = refl }
quiet_one first a (b ∷ more) own null dup = record {
  stores = own;
  nulls = ap (λ t. cond t (stored first b.insn) None) null;
  takes = ap (λ t. cond t (stored first b.insn) None) dup;
}

never_freed : (free first : ℕ) (a : Item) (more : List Item) → loaded first a.insn ≡ None → freed free first (a ∷ more) ≡ None
never_freed free first a [] none = refl
never_freed free first a (b ∷ more) none =
    none_if (calls free b.insn) (found_twice (loaded first a.insn) (nulled first more)) (ap (λ o. found_twice o (nulled first more)) none)

some_items : (a : Item) (more : List Item) → (length (a ∷ more) == 0) ≡ false
some_items a more = apart-nat_eq (length (a ∷ more)) 0 (λ none. absurd (omega (arith, none)))

-- ---- one kept item

-- what is read of it
pub record IsPassed (old : List Item) (starts firsts : List ℕ) (free first : ℕ) (item : Item) (rest : List NewItem) (laid : List Item) : Type 0 where
  pub freed_none : freed free first laid ≡ None
  pub some : (length laid == 0) ≡ false
  pub more : List Item
  pub more_laid : AreLaid old starts firsts rest more
  pub next : drop (kept_count item laid) laid ≡ more
  pub quiet : first_stored first more ≡ None → AreQuiet first laid

whole_next : (item a : Item) (more : List Item) → condition_of a.insn ≡ condition_of item.insn → drop (kept_count item (a ∷ more)) (a ∷ more) ≡ more
whole_next item a [] same = refl
whole_next item a (b ∷ more) same =
    let none : are_both_opposite (condition_of item.insn) (condition_of a.insn) ≡ false =
    ap (are_both_opposite (condition_of item.insn)) same ∙ never_opposite (condition_of item.insn) in
    ap (λ t. drop (cond (t && is_goto b.insn) 2 1) (a ∷ b ∷ more)) none

split_next : (item a b : Item) (more : List Item) (branch : Condition) (n target : ℕ) → condition_of item.insn ≡ Some branch
    → a.insn ≡ conditional (opposite branch) n → b.insn ≡ insn.Goto target → drop (kept_count item (a ∷ b ∷ more)) (a ∷ b ∷ more) ≡ more
split_next item a b more branch n target tests a_is b_is =
    let both : are_both_opposite (condition_of item.insn) (condition_of a.insn) ≡ true =
    (λ k. are_both_opposite (tests k) ((ap condition_of a_is ∙ condition_is (opposite branch) n) k)) ∙ opposites branch in
    λ k. drop (cond (both k && is_goto (b_is k)) 2 1) (a ∷ b ∷ more)

module _ (old : List Item) (starts firsts : List ℕ) (free first : ℕ) (item : Item) (rest : List NewItem) (fits : LocalsFit first item.insn) where
  whole_passed : (laid : List Item) → IsWhole old starts firsts item rest laid → IsPassed old starts firsts free first item rest laid
  whole_passed laid w =
      subst (IsPassed old starts firsts free first item rest) (sym w.is)
      (record {
        freed_none = never_freed free first w.front w.more (w.alike.loads first ∙ loaded_own first item.insn fits);
        some = some_items w.front w.more;
        more = w.more;
        more_laid = w.more_laid;
        next = whole_next item w.front w.more w.alike.tests;
        quiet = λ none. quiet_two first w.front w.more (w.alike.stores first ∙ stored_own first item.insn fits) none;
      })

  split_passed : (laid : List Item) → IsSplit old starts firsts item rest laid → IsPassed old starts firsts free first item rest laid
  split_passed laid s =
      let own = is_test (opposite s.taken) s.next in
      subst (IsPassed old starts firsts free first item rest) (sym s.is)
      (record {
        freed_none = never_freed free first s.test (s.goto ∷ s.more) (ap (loaded first) s.test_is ∙ own.loads first);
        some = some_items s.test (s.goto ∷ s.more);
        more = s.more;
        more_laid = s.more_laid;
        next = split_next item s.test s.goto s.more s.taken s.next s.target s.tests s.test_is s.goto_is;
        quiet = λ none. quiet_one first s.test (s.goto ∷ s.more) (ap (stored first) s.test_is ∙ own.stores first) (ap is_null s.test_is ∙ own.null)
            (ap is_dup s.test_is ∙ own.dup);
      })

  passed : (laid : List Item) → IsKept old starts firsts item rest laid → IsPassed old starts firsts free first item rest laid
  passed laid (inl w) = whole_passed laid w
  passed laid (inr s) = split_passed laid s

-- ---- holders

-- a holder's local is its own
local_read : (first h : ℕ) → holder_in first (first + h) ≡ Some h
local_read first h =
    let left : first + h - first ≡ h = omega arith in
    ap (λ t. cond t None (Some (first + h - first))) (le-ltb (first + h) first (omega arith)) ∙ ap (λ n. Some n) left

nulled_is : (first h : ℕ) (a b : Item) (more : List Item) → a.insn ≡ insn.Null → b.insn ≡ insn.Store reg.Ref (first + h) → nulled first (a ∷ b ∷ more) ≡ Some h
nulled_is first h a b more null store = (λ k. cond (is_null (null k)) (stored first (store k)) None) ∙ local_read first h

taken_is : (first h : ℕ) (a b : Item) (more : List Item) → a.insn ≡ insn.Dup → b.insn ≡ insn.Store reg.Ref (first + h) → taken first (a ∷ b ∷ more) ≡ Some h
taken_is first h a b more dup store = (λ k. cond (is_dup (dup k)) (stored first (store k)) None) ∙ local_read first h

freed_is : (free first h : ℕ) (a b : Item) (more : List Item) → a.insn ≡ insn.Load reg.Ref (first + h) → b.insn ≡ insn.Static free → nulled first more ≡ Some h
    → freed free first (a ∷ b ∷ more) ≡ Some h
freed_is free first h a b more load call null =
    (λ k. cond (calls free (call k)) (found_twice ((ap (loaded first) load ∙ local_read first h) k) (null k)) None)
    ∙ (λ k. cond (eq-eqb free free refl k) (cond (eq-eqb h h refl k) (Some h) None) None)

module _ (old : List Item) (starts firsts : List ℕ) (free first : ℕ) where
  abbrev Laid : List NewItem → List Item → Type 0
  Laid items laid = AreLaid old starts firsts items laid

  -- these holders are made null, and others after them
  pub record AreNulled (hs : List ℕ) (rest : List NewItem) (laid : List Item) : Type 0 where
    pub here : List Item
    pub here_laid : AreLaid old starts firsts rest here
    pub holders : nulls first laid ≡ hs ++ nulls first here
    pub after : after_nulls first laid ≡ after_nulls first here

  pub nulls_read : (hs : List ℕ) (rest : List NewItem) (laid : List Item) → Laid (flat_map (λ h. null_stored (first + h)) hs ++ rest) laid → AreNulled hs rest laid
  nulls_read [] rest laid are = record { here = laid; here_laid = are; holders = refl; after = refl }
  nulls_read (h ∷ hs) rest laid are =
      let a = inserted_first old starts firsts insn.Null refl refl _ laid are in
      let b = inserted_first old starts firsts (insn.Store reg.Ref (first + h)) refl refl _ a.more a.more_laid in
      let more = nulls_read hs rest b.more b.more_laid in
      let all : laid ≡ a.front ∷ b.front ∷ b.more = a.is ∙ ap (λ (l : List Item). a.front ∷ l) b.is in
      let one = nulls_some first (a.front ∷ b.front ∷ b.more) h (nulled_is first h a.front b.front b.more a.insn_is b.insn_is) in
      record {
        here = more.here;
        here_laid = more.here_laid;
        holders = ap (nulls first) all ∙ one.holders ∙ ap (λ (l : List ℕ). h ∷ l) more.holders;
        after = ap (after_nulls first) all ∙ one.rest ∙ more.after;
      }

  -- they are freed
  pub record AreFreed (hs : List ℕ) (rest : List NewItem) (laid : List Item) : Type 0 where
    pub here : List Item
    pub here_laid : AreLaid old starts firsts rest here
    pub holders : frees free first laid ≡ hs ++ frees free first here
    pub after : after_frees free first laid ≡ after_frees free first here

  pub frees_read : (hs : List ℕ) (rest : List NewItem) (laid : List Item) → Laid (flat_map (λ h. freed_new free (first + h)) hs ++ rest) laid → AreFreed hs rest laid
  frees_read [] rest laid are = record { here = laid; here_laid = are; holders = refl; after = refl }
  frees_read (h ∷ hs) rest laid are =
      let a = inserted_first old starts firsts (insn.Load reg.Ref (first + h)) refl refl _ laid are in
      let b = inserted_first old starts firsts (insn.Static free) refl refl _ a.more a.more_laid in
      let c = inserted_first old starts firsts insn.Null refl refl _ b.more b.more_laid in
      let d = inserted_first old starts firsts (insn.Store reg.Ref (first + h)) refl refl _ c.more c.more_laid in
      let more = frees_read hs rest d.more d.more_laid in
      let all : laid ≡ a.front ∷ b.front ∷ c.front ∷ d.front ∷ d.more =
      a.is
      ∙ ap (λ (l : List Item). a.front ∷ l) (b.is ∙ ap (λ (l : List Item). b.front ∷ l) (c.is ∙ ap (λ (l : List Item). c.front ∷ l) d.is)) in
      let one = frees_some free first (a.front ∷ b.front ∷ c.front ∷ d.front ∷ d.more) h
      (freed_is free first h a.front b.front (c.front ∷ d.front ∷ d.more) a.insn_is b.insn_is
      (nulled_is first h c.front d.front d.more c.insn_is d.insn_is)) in
      record {
        here = more.here;
        here_laid = more.here_laid;
        holders = ap (frees free first) all ∙ one.holders ∙ ap (λ (l : List ℕ). h ∷ l) more.holders;
        after = ap (after_frees free first) all ∙ one.rest ∙ more.after;
      }

  -- one of them takes an object, at most
  pub record AreTaken (hs : List ℕ) (rest : List NewItem) (laid : List Item) : Type 0 where
    pub here : List Item
    pub here_laid : AreLaid old starts firsts rest here
    pub holder : taken first laid ≡ slice_get hs 0
    pub after : after_taken (taken first laid) laid ≡ here
    pub stores : first_stored first laid ≡ None

  pub taken_read : (hs : List ℕ) (rest : List NewItem) (laid : List Item) → length hs ≤ 1 → ((l : List Item) → Laid rest l → AreQuiet first l)
      → Laid (flat_map (λ h. top_stored (first + h)) hs ++ rest) laid → AreTaken hs rest laid
  taken_read [] rest laid single quiet are =
      let own = quiet laid are in
      record { here = laid; here_laid = are; holder = own.takes; after = ap (λ o. after_taken o laid) own.takes; stores = own.stores }
  taken_read (h ∷ []) rest laid single quiet are =
      let a = inserted_first old starts firsts insn.Dup refl refl _ laid are in
      let b = inserted_first old starts firsts (insn.Store reg.Ref (first + h)) refl refl _ a.more a.more_laid in
      let all : laid ≡ a.front ∷ b.front ∷ b.more = a.is ∙ ap (λ (l : List Item). a.front ∷ l) b.is in
      let one = ap (taken first) all ∙ taken_is first h a.front b.front b.more a.insn_is b.insn_is in
      record {
        here = b.more;
        here_laid = b.more_laid;
        holder = one;
        after = (λ k. after_taken (one k) (all k));
        stores = ap (first_stored first) all ∙ ap (stored first) a.insn_is;
      }
  taken_read (h ∷ i ∷ hs) rest laid single quiet are = absurd (omega (arith, single))

-- ---- all items

module _ (old : List Item) (starts firsts : List ℕ) (free : ℕ) (code : Code) (plan : Insertions) (anchors : List ℕ)
    (single : (j : ℕ) → length (after_at plan j) ≤ 1) where
  abbrev first : ℕ
  first = code.max_locals

  abbrev Fit : List Item → Type 0
  Fit items = AllByRecursion (λ (item : Item). LocalsFit code.max_locals item.insn) items

  abbrev laid_as : List NewItem → List Item → Type 0
  laid_as items laid = AreLaid old starts firsts items laid

  -- what follows an old item
  abbrev followed : ℕ → List Item → List NewItem
  followed j items = flat_map (λ h. top_stored (local_of code h)) (after_at plan j) ++ woven_from free code plan anchors (j + 1) items

  -- an item with what is inserted before it, and what follows
  apart : (j : ℕ) (item : Item) (items laid : List Item) → laid_as (woven_from free code plan anchors j (item ∷ items)) laid
      → laid_as (flat_map (λ h. freed_new free (local_of code h)) (before_at plan j) ++ kept anchors j item.insn ∷ followed j items) laid
  apart j item items laid are =
      subst (λ (news : List NewItem). laid_as news laid)
      (append_assoc (flat_map (λ h. freed_new free (local_of code h)) (before_at plan j))
      (kept anchors j item.insn ∷ flat_map (λ h. top_stored (local_of code h)) (after_at plan j)) (woven_from free code plan anchors (j + 1) items)) are

  passed_at : (j : ℕ) (item : Item) (items laid : List Item) → LocalsFit code.max_locals item.insn
      → laid_as (kept anchors j item.insn ∷ followed j items) laid → IsPassed old starts firsts free first item (followed j items) laid
  passed_at j item items laid fits are =
      passed old starts firsts free first item (followed j items) fits laid
      (kept_first old starts firsts item (slice_index anchors) j (followed j items) laid are)

  pub quiet_from : (j : ℕ) (items laid : List Item) → Fit items → laid_as (woven_from free code plan anchors j items) laid → AreQuiet first laid
  quiet_from j [] laid fit are = subst (AreQuiet first) (sym are.is) (record { stores = refl; nulls = refl; takes = refl })
  quiet_from j (item ∷ items) laid fit are =
      by_freed (before_at plan j) (apart j item items laid are) (λ l later. quiet_from (j + 1) items l fit.1 later) where
        by_freed : (hs : List ℕ) → laid_as (flat_map (λ h. freed_new free (local_of code h)) hs ++ kept anchors j item.insn ∷ followed j items) laid
            → ((l : List Item) → laid_as (woven_from free code plan anchors (j + 1) items) l → AreQuiet first l) → AreQuiet first laid
        by_freed [] own later =
            let here = passed_at j item items laid fit.0 own in
            let after = taken_read old starts firsts free first (after_at plan j) (woven_from free code plan anchors (j + 1) items) here.more (single j) later
            here.more_laid in
            here.quiet after.stores
        by_freed (h ∷ hs) own later =
            let a = inserted_first old starts firsts (insn.Load reg.Ref (first + h)) refl refl _ laid own in
            subst (AreQuiet first) (sym a.is)
            (quiet_one first a.front a.more (ap (stored first) a.insn_is) (ap is_null a.insn_is) (ap is_dup a.insn_is))

  -- the pairs of these items, from one on
  abbrev pairs_from : ℕ → List Item → Pairs
  pairs_from j items = record {
    before = flat_map (paired (before_at plan)) (range_with_len j (length items));
    after = flat_map (paired (after_at plan)) (range_with_len j (length items));
  }

  one_pair : (j : ℕ) (hs : List ℕ) → length hs ≤ 1 → pair_if j (slice_get hs 0) ≡ map (λ h. (j, h)) hs
  one_pair j [] few = refl
  one_pair j (h ∷ []) few = refl
  one_pair j (h ∷ i ∷ hs) few = absurd (omega (arith, few))

  pub read_back : (j : ℕ) (items laid : List Item) → Fit items → laid_as (woven_from free code plan anchors j items) laid
      → read_from free first j items laid ≡ Some (pairs_from j items)
  read_back j [] laid fit are = ap (read_from free first j []) are.is
  read_back j (item ∷ items) laid fit are =
      let before = frees_read old starts firsts free first (before_at plan j) (kept anchors j item.insn ∷ followed j items) laid (apart j item items laid are) in
      let here = passed_at j item items before.here fit.0 before.here_laid in
      let none = frees_none free first before.here here.freed_none in
      let after = taken_read old starts firsts free first (after_at plan j) (woven_from free code plan anchors (j + 1) items) here.more (single j)
      (λ l later. quiet_from (j + 1) items l fit.1 later) here.more_laid in
      let rest = read_back (j + 1) items after.here fit.1 after.here_laid in
      let here_is : after_frees free first laid ≡ before.here = before.after ∙ none.1 in
      let freed_are : frees free first laid ≡ before_at plan j = before.holders ∙ ap (λ l. before_at plan j ++ l) none.0 ∙ append-nil (before_at plan j) in
      let next_is : drop (kept_count item (after_frees free first laid)) (after_frees free first laid) ≡ here.more =
      ap (λ l. drop (kept_count item l) l) here_is ∙ here.next in
      let some : (length (after_frees free first laid) == 0) ≡ false = ap (λ l. length l == 0) here_is ∙ here.some in
      let holder : taken first (drop (kept_count item (after_frees free first laid)) (after_frees free first laid)) ≡ slice_get (after_at plan j) 0 =
      ap (taken first) next_is ∙ after.holder in
      let left : after_taken (taken first (drop (kept_count item (after_frees free first laid)) (after_frees free first laid)))
      (drop (kept_count item (after_frees free first laid)) (after_frees free first laid)) ≡ after.here =
      ap (λ l. after_taken (taken first l) l) next_is ∙ after.after in
      (λ k. cond (some k) None (option_map (with_pairs (pairs_of j (freed_are k)) (pair_if j (holder k))) (read_from free first (j + 1) items (left k))))
      ∙ (λ k. option_map (with_pairs (pairs_of j (before_at plan j)) (one_pair j (after_at plan j) (single j) k)) (rest k))
