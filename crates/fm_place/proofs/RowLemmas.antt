-- Rows over the items: where classes are busy, and what is freed.
use Rattle.std.proofs.Common.{◌≡◌, ◌≢◌, ℕ, zero, suc, ◌+◌, ◌<◌, ◌≤◌, ◌||◌, ◌&&◌, Bool, true, false, cond, List, [], ◌∷◌, ◌++◌, length, map, replicate, set, Option, Some, None, refl, ⊎_elim, ap, sym, ◌∙◌, subst, append-nil, append_assoc, arith, eq-eqb, le-ltb, length-set, lt-ltb}
use Rattle.std.specs.Prelude.{filter, is_some, MatchBool, nat_eq, nat_lt}
use Rattle.std.specs.List.{list_any, range_with_len}
use Rattle.std.proofs.lemmas.Bool.{cases_eq, false≢true, false_from_ne_true}
use Rattle.std.proofs.lemmas.List.{get_or-set_other, get_or-set_same, length-replicate}
use Rattle.std.proofs.Math.Bool.{and-false, and_assoc, or-false, or-true, or_assoc}
use Rattle.fm_base.proofs.TestFacts.{apart-nat_eq}
use Rattle.fm_base.specs.Rows.{has}
use Rattle.fm_conn.specs.Nodes.{depth_at, Local}
use Rattle.fm_base.proofs.RowFacts.{has-replicate}
use Rattle.fm_types.specs.States.{TypeState}
use Rattle.fm_types.specs.Typed.{state_at}
use Rattle.fm_place.proofs.BusyLemmas.{depth_of}
use Rattle.fm_place.proofs.GroupLemmas.{bits_more, rows_kept, rows_marked, rows_retested, unnumbered}
use Rattle.fm_place.specs.Places.{is_local_in, is_word_in}
use Rattle.fm_place.specs.declared.busy_rows.Seen.{Seen}
use Rattle.fm_place.specs.declared.groups.Groups.{Groups}
use Rattle.fm_place.specs.declared.holding_rows.Holding.{Holding}
use Rattle.fm_place.specs.inner.PlanRows.{AreFreedRows, AreGroups, AreRowsIn, busy_by_local, busy_by_words, busy_with, count_of, facts_seen, freed_by_rows, has_local_at, has_word_at, is_class, is_freed, is_in_locals, is_in_words, is_reached, IsRowOf, number_in, reached_before, SetsBit, typed_seen, words_before}

-- ---- tests over ranges

any_range : (test : ℕ → Bool) (a n : ℕ) → list_any test (range_with_len a (suc n)) ≡ (list_any test (range_with_len a n) || test (a + n))
any_range test a zero = let same : a ≡ a + 0 = omega arith in or-false (test a) ∙ ap test same
any_range test a (suc n) =
    let same : a + 1 + n ≡ a + suc n = omega arith in
    ap (λ b. test a || b) (any_range test (a + 1) n ∙ ap (λ k. list_any test (range_with_len (a + 1) n) || test k) same)
    ∙ sym (or_assoc (test a) (list_any test (range_with_len (a + 1) n)) (test (a + suc n)))

pub any_next : (test : ℕ → Bool) (n : ℕ) → list_any test (range_with_len 0 (n + 1)) ≡ (list_any test (range_with_len 0 n) || test n)
any_next test n =
    let one : n + 1 ≡ suc n = omega arith in
    let same : 0 + n ≡ n = omega arith in
    ap (λ k. list_any test (range_with_len 0 k)) one ∙ any_range test 0 n ∙ ap (λ k. list_any test (range_with_len 0 n) || test k) same

-- ---- one item

one_more : (b w f e : Bool) → ((b || (w && e)) || (f && e)) ≡ (b || ((w || f) && e))
one_more true w f e = refl
one_more false true true true = refl
one_more false true true false = refl
one_more false true false true = refl
one_more false true false false = refl
one_more false false true true = refl
one_more false false true false = refl
one_more false false false true = refl
one_more false false false false = refl

module _ (s : Seen) (g : Groups) (item depth : ℕ) (rows : List (List Bool)) where
  -- a word more
  pub word_more : (found : Option ℕ) → ((class : ℕ) → is_class found class ≡ is_word_in (facts_seen s) (typed_seen s) class item depth)
      → AreRowsIn g (count_of s) (λ j class. busy_by_words s item depth j class || (is_class found class && nat_eq item j)) rows
      → AreRowsIn g (count_of s) (busy_by_words s item (depth + 1)) rows
  word_more found is =
      rows_retested g (count_of s) (λ j class. busy_by_words s item depth j class || (is_class found class && nat_eq item j)) rows
      (busy_by_words s item (depth + 1))
      (λ class j inside.
      one_more (words_before s item j class) (is_in_words s item depth class) (is_class found class) (nat_eq item j)
      ∙ ap (λ b. words_before s item j class || ((is_in_words s item depth class || b) && nat_eq item j)) (is class)
      ∙ ap (λ b. words_before s item j class || (b && nat_eq item j)) (sym (any_next (is_word_in (facts_seen s) (typed_seen s) class item) depth)))

  -- the words of none
  pub words_none : AreRowsIn g (count_of s) (words_before s item) rows → AreRowsIn g (count_of s) (busy_by_words s item 0) rows
  words_none = rows_retested g (count_of s) (words_before s item) rows (busy_by_words s item 0) (λ class j inside. sym (or-false (words_before s item j class)))

  -- all words of an item that can be reached
  pub item_done : (state : TypeState) → Some state ≡ state_at (typed_seen s).states item → depth ≡ length state.stack
      → AreRowsIn g (count_of s) (busy_by_words s item depth) rows → AreRowsIn g (count_of s) (words_before s (item + 1)) rows
  item_done state is depth_is =
      rows_retested g (count_of s) (busy_by_words s item depth) rows (words_before s (item + 1))
      (λ class j inside.
      bits_more j item (has_word_at s j class) (is_in_words s item depth class)
      (λ same. words_here class ∙ ap (λ n. has_word_at s n class) (sym same))) where
        depth_at_is : depth ≡ depth_at (typed_seen s) item
        depth_at_is = depth_is ∙ ap depth_of is

        words_here : (class : ℕ) → is_in_words s item depth class ≡ has_word_at s item class
        words_here class =
            ap (λ n. is_in_words s item n class) depth_at_is
            ∙ ap (λ b. b && is_in_words s item (depth_at (typed_seen s) item) class) (ap (λ (o : Option TypeState). is_some o) is)

  -- an item that can't be reached
  pub item_unreached : None ≡ state_at (typed_seen s).states item → AreRowsIn g (count_of s) (words_before s item) rows
      → AreRowsIn g (count_of s) (words_before s (item + 1)) rows
  item_unreached none =
      rows_retested g (count_of s) (words_before s item) rows (words_before s (item + 1))
      (λ class j inside.
      sym (or-false (words_before s item j class))
      ∙ bits_more j item (has_word_at s j class) false (λ same. quiet class ∙ ap (λ n. has_word_at s n class) (sym same))) where
        quiet : (class : ℕ) → false ≡ has_word_at s item class
        quiet class =
            ap (λ b. b && is_in_words s item (depth_at (typed_seen s) item) class) (ap (λ (o : Option TypeState). is_some o) none)

-- ---- one local

below : (n i j : ℕ) → n ≤ i → j < n → nat_lt j i ≡ true
below n i j past inside = lt-ltb j i (omega arith)

-- a local with which a class is busy beside what it was busy with
both : (r w l f : Bool) → ((r && (w || l)) || (true && (r && f))) ≡ (r && (w || (l || f)))
both true w l f = or_assoc w l f
both false w l f = refl

no_local : (r w l : Bool) → (r && (w || l)) ≡ (r && (w || (l || false)))
no_local r w l = ap (λ b. r && (w || b)) (sym (or-false l))

module _ (s : Seen) (g : Groups) (rows : List (List Bool)) where
  -- the words of all items, and no local
  pub words_done : (item : ℕ) → count_of s ≤ item → AreRowsIn g (count_of s) (words_before s item) rows → AreRowsIn g (count_of s) (busy_with s 0) rows
  words_done item past =
      rows_retested g (count_of s) (words_before s item) rows (busy_with s 0)
      (λ class j inside.
      ap (λ b. b && has_word_at s j class) (below (count_of s) item j past inside)
      ∙ ap (λ b. is_reached s j && b) (sym (or-false (is_in_words s j (depth_at (typed_seen s) j) class))))

  -- the local at no item
  pub local_first : (local : ℕ) → AreRowsIn g (count_of s) (busy_with s local) rows → AreRowsIn g (count_of s) (busy_by_local s local 0) rows
  local_first local =
      rows_retested g (count_of s) (busy_with s local) rows (busy_by_local s local 0)
      (λ class j inside.
      sym (or-false (busy_with s local j class))
      ∙ ap (λ b. busy_with s local j class || (b && has_local_at s local j class)) (sym (le-ltb j 0 (omega arith))))

  -- the local at all items
  pub local_done : (local item : ℕ) → count_of s ≤ item → AreRowsIn g (count_of s) (busy_by_local s local item) rows
      → AreRowsIn g (count_of s) (busy_with s (local + 1)) rows
  local_done local item past =
      rows_retested g (count_of s) (busy_by_local s local item) rows (busy_with s (local + 1))
      (λ class j inside.
      ap (λ b. busy_with s local j class || (b && has_local_at s local j class)) (below (count_of s) item j past inside)
      ∙ both (is_reached s j) (is_in_words s j (depth_at (typed_seen s) j) class) (is_in_locals s j local class)
      (is_local_in (facts_seen s) (typed_seen s) class j local)
      ∙ ap (λ b. is_reached s j && (is_in_words s j (depth_at (typed_seen s) j) class || b))
      (sym (any_next (is_local_in (facts_seen s) (typed_seen s) class j) local)))

  -- a local whose class no holder has
  pub local_unheld : (local class : ℕ) → class ≡ (facts_seen s).class (typed_seen s).number (Local local) → number_in g.numbers class ≡ None
      → AreRowsIn g (count_of s) (busy_with s local) rows → AreRowsIn g (count_of s) (busy_with s (local + 1)) rows
  local_unheld local class is none =
      rows_kept g (count_of s) (busy_with s local) rows (busy_with s (local + 1))
      (λ c n there j inside.
      let apart : nat_eq class c ≡ false = unnumbered g class none c n there in
      no_local (is_reached s j) (is_in_words s j (depth_at (typed_seen s) j) c) (is_in_locals s j local c)
      ∙ ap (λ b. is_reached s j && (is_in_words s j (depth_at (typed_seen s) j) c || (is_in_locals s j local c || b)))
      (sym (ap (λ k. (facts_seen s).live (typed_seen s).number local j && nat_eq k c) (sym is)
      ∙ ap (λ b. (facts_seen s).live (typed_seen s).number local j && b) apart ∙ and-false ((facts_seen s).live (typed_seen s).number local j)))
      ∙ ap (λ b. is_reached s j && (is_in_words s j (depth_at (typed_seen s) j) c || b))
      (sym (any_next (is_local_in (facts_seen s) (typed_seen s) c j) local)))

-- one item more, at which the local is live or not
module _ (s : Seen) (g : Groups) (local item number class : ℕ) (rows : List (List Bool)) (groups : AreGroups g)
    (is : class ≡ (facts_seen s).class (typed_seen s).number (Local local)) (there : number_in g.numbers class ≡ Some number) where
  with_test : (test : Bool) → test ≡ (is_reached s item && (facts_seen s).live (typed_seen s).number local item) → (after : List (List Bool))
      → AreRowsIn g (count_of s) (λ j c. busy_by_local s local item j c || ((test && nat_eq class c) && nat_eq item j)) after
      → AreRowsIn g (count_of s) (busy_by_local s local (item + 1)) after
  with_test test known after =
      rows_retested g (count_of s) (λ j c. busy_by_local s local item j c || ((test && nat_eq class c) && nat_eq item j)) after
      (busy_by_local s local (item + 1))
      (λ c j inside.
      or_assoc (busy_with s local j c) (nat_lt j item && has_local_at s local j c) ((test && nat_eq class c) && nat_eq item j)
      ∙ ap (λ b. busy_with s local j c || b)
      (bits_more j item (has_local_at s local j c) (test && nat_eq class c)
      (λ same. here c ∙ ap (λ n. has_local_at s local n c) (sym same)))) where
        here : (c : ℕ) → (test && nat_eq class c) ≡ has_local_at s local item c
        here c =
            (λ k. known k && nat_eq (is k) c)
            ∙ and_assoc (is_reached s item) ((facts_seen s).live (typed_seen s).number local item) (nat_eq ((facts_seen s).class (typed_seen s).number (Local local)) c)

  pub local_more : (test : Bool) → test ≡ (is_reached s item && (facts_seen s).live (typed_seen s).number local item) → (after : List (List Bool))
      → MatchBool test (SetsBit number item rows after) (after ≡ rows) → AreRowsIn g (count_of s) (busy_by_local s local item) rows
      → AreRowsIn g (count_of s) (busy_by_local s local (item + 1)) after
  local_more true known after sets are =
      with_test true known after (rows_marked g (count_of s) (busy_by_local s local item) rows class number item after groups there sets are)
  local_more false known after same are =
      with_test false known after
      (subst (AreRowsIn g (count_of s) (λ j c. busy_by_local s local item j c || ((false && nat_eq class c) && nat_eq item j))) (sym same)
      (rows_retested g (count_of s) (busy_by_local s local item) rows
      (λ j c. busy_by_local s local item j c || ((false && nat_eq class c) && nat_eq item j)) (λ c j inside. sym (or-false (busy_by_local s local item j c))) are))

-- ---- items that can be reached

-- one bit is set, or none
set_bit : (test : Bool) (row : List Bool) (i j : ℕ) → i < length row → has (cond test (set row i true) row) j ≡ (has row j || (test && nat_eq i j))
set_bit false row i j within = sym (or-false (has row j))
set_bit true row i j within =
    ⊎_elim
    (λ (same : j ≡ i).
    ap (has (set row i true)) same ∙ get_or-set_same row i true false within ∙ sym (or-true (has row j))
    ∙ ap (λ b. has row j || b) (sym (eq-eqb i j (sym same))))
    (λ (other : j ≢ i).
    get_or-set_other row i j true false other ∙ sym (or-false (has row j))
    ∙ ap (λ b. has row j || b) (sym (apart-nat_eq i j (λ same. other (sym same)))))
    (cases_eq j i)

module _ (s : Seen) (count : ℕ) where
  -- at first no item is set
  pub reached_first : (row : List Bool) → row ≡ replicate count false → IsRowOf count (reached_before s 0) row
  reached_first row is = record {
    wide = ap (λ (r : List Bool). length r) is ∙ length-replicate count false;
    each = λ j inside.
        ap (λ (r : List Bool). has r j) is ∙ has-replicate count j ∙ sym (ap (λ b. b && is_reached s j) (le-ltb j 0 (omega arith)));
  }

  -- one item more
  pub reached_more : (item : ℕ) (test : Bool) (row after : List Bool) → item < count → test ≡ is_reached s item → after ≡ cond test (set row item true) row
      → IsRowOf count (reached_before s item) row → IsRowOf count (reached_before s (item + 1)) after
  reached_more item test row after within known is was = record {
    wide = ap (λ (r : List Bool). length r) is ∙ length-cond test row item ∙ was.wide;
    each = λ j inside.
        ap (λ (r : List Bool). has r j) is ∙ set_bit test row item j (omega (arith, within, was.wide))
        ∙ ap (λ b. b || (test && nat_eq item j)) (was.each j inside)
        ∙ bits_more j item (is_reached s j) test (λ same. known ∙ ap (is_reached s) (sym same));
  } where
    length-cond : (b : Bool) (r : List Bool) (i : ℕ) → length (cond b (set r i true) r) ≡ length r
    length-cond true r i = length-set r i true
    length-cond false r i = refl

  -- all items
  pub reached_all : (item : ℕ) (row : List Bool) → count ≡ count_of s → count ≤ item → IsRowOf count (reached_before s item) row
      → IsRowOf (count_of s) (is_reached s) row
  reached_all item row is past was = record {
    wide = was.wide ∙ is;
    each = λ j inside. was.each j (omega (arith, inside, is)) ∙ ap (λ b. b && is_reached s j) (below count item j past (omega (arith, inside, is)));
  }

-- ---- what is freed

-- two tests that agree on the numbers of a range choose the same ones
pub filter_range_same : (t u : ℕ → Bool) (a n : ℕ) → ((k : ℕ) → a ≤ k → k < a + n → t k ≡ u k) → filter t (range_with_len a n) ≡ filter u (range_with_len a n)
filter_range_same t u a zero same = refl
filter_range_same t u a (suc n) same =
    ap (λ b. cond b (a ∷ filter t (range_with_len (a + 1) n)) (filter t (range_with_len (a + 1) n))) (same a (omega arith) (omega arith))
    ∙ ap (λ ks. cond (u a) (a ∷ ks) ks) (filter_range_same t u (a + 1) n (λ k low high. same k (omega arith) (omega arith)))

-- one number more
cond_push : {X : Type 0} (b : Bool) (x : X) (xs ys : List X) → cond b (x ∷ (xs ++ ys)) (xs ++ ys) ≡ cond b (x ∷ xs) xs ++ ys
cond_push true x xs ys = refl
cond_push false x xs ys = refl

filter_range_more : (t : ℕ → Bool) (a n : ℕ) → filter t (range_with_len a (suc n)) ≡ filter t (range_with_len a n) ++ cond (t (a + n)) ((a + n) ∷ []) []
filter_range_more t a zero = let same : a ≡ a + 0 = omega arith in ap (λ k. cond (t k) (k ∷ []) []) same
filter_range_more t a (suc n) =
    let same : a + 1 + n ≡ a + suc n = omega arith in
    let so_far = filter_range_more t (a + 1) n ∙ ap (λ k. filter t (range_with_len (a + 1) n) ++ cond (t k) (k ∷ []) []) same in
    ap (λ ks. cond (t a) (a ∷ ks) ks) so_far ∙ cond_push (t a) a (filter t (range_with_len (a + 1) n)) (cond (t (a + suc n)) ((a + suc n) ∷ []) [])

map_push : (f : ℕ → ℕ × ℕ) (xs : List ℕ) (b : Bool) (n : ℕ) → map f (xs ++ cond b (n ∷ []) []) ≡ map f xs ++ cond b (f n ∷ []) []
map_push f [] true n = refl
map_push f [] false n = refl
map_push f (x ∷ xs) b n = ap (λ rest. f x ∷ rest) (map_push f xs b n)

-- a holder more was looked at
pub push_next : (t : ℕ → Bool) (item n : ℕ) (initial found after : List (ℕ × ℕ)) (test : Bool)
    → found ≡ initial ++ map (λ (h : ℕ). (item, h)) (filter t (range_with_len 0 n)) → test ≡ t n
    → after ≡ found ++ cond test ((item, n) ∷ []) [] → after ≡ initial ++ map (λ (h : ℕ). (item, h)) (filter t (range_with_len 0 (n + 1)))
push_next t item n initial found after test so_far is more =
    let f : ℕ → ℕ × ℕ = λ h. (item, h) in
    let one : n + 1 ≡ suc n = omega arith in
    let same : 0 + n ≡ n = omega arith in
    let wider : filter t (range_with_len 0 (n + 1)) ≡ filter t (range_with_len 0 n) ++ cond (t n) (n ∷ []) [] =
    ap (λ k. filter t (range_with_len 0 k)) one ∙ filter_range_more t 0 n ∙ ap (λ k. filter t (range_with_len 0 n) ++ cond (t k) (k ∷ []) []) same in
    more ∙ (λ k. so_far k ++ cond (is k) ((item, n) ∷ []) [])
    ∙ append_assoc initial (map f (filter t (range_with_len 0 n))) (cond (t n) ((item, n) ∷ []) [])
    ∙ ap (λ list. initial ++ list) (sym (ap (map f) wider ∙ map_push f (filter t (range_with_len 0 n)) (t n) n))

-- where the item isn't set nothing is freed
filter_none : (test : ℕ → Bool) (a n : ℕ) → ((k : ℕ) → k < a + n → test k ≡ false) → filter test (range_with_len a n) ≡ []
filter_none test a zero none = refl
filter_none test a (suc n) none =
    ap (λ b. cond b (a ∷ filter test (range_with_len (a + 1) n)) (filter test (range_with_len (a + 1) n))) (none a (omega arith))
    ∙ filter_none test (a + 1) n (λ k below. none k (omega arith))

pub none_pushed : (classes : List ℕ) (busy : List (List Bool)) (holding : Holding) (item : ℕ) (found : List (ℕ × ℕ)) → AreFreedRows classes busy holding
    → has holding.freed item ≡ false → found ≡ found ++ map (λ (h : ℕ). (item, h)) (freed_by_rows classes busy holding.rows.items item)
none_pushed classes busy holding item found rows unset =
    sym (append-nil found)
    ∙ ap (λ numbers. found ++ map (λ (h : ℕ). (item, h)) numbers)
    (sym (filter_none (is_freed classes busy holding.rows.items item) 0 (length classes)
    (λ h below. false_from_ne_true (is_freed classes busy holding.rows.items item h) (λ freed. false≢true (sym unset ∙ rows.marked item h (omega arith) freed)))))
