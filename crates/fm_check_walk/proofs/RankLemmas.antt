-- Where a state rises, its rank falls.
use Rattle.std.proofs.Common.{◌≡◌, refl, sym, ◌∙◌, ap, ⊎_elim, ℕ, ◌+◌, ◌*◌, ◌-◌, ◌^◌, ◌<◌, ◌≤◌, ◌==◌, ◌&&◌, ◌||◌, not, nat_le, Bool, true, false, List, [], ◌∷◌, ◌++◌, length, map, reverse, get_or, All, Contains, count_by, cond, subst, arith}
use Rattle.std.proofs.lemmas.Bool.{and_parts, eqb-true, false≢true, leb-true}
use Rattle.std.proofs.lemmas.List.{get_or-reverse, length-reverse}
use Rattle.std.proofs.lemmas.List.Elements.{All-head, All-tail, Contains-append_left, Contains-append_right}
use Rattle.std.proofs.lemmas.List.FromFn.{get_or-range_with_len, length-range_with_len}
use Rattle.std.proofs.lemmas.List.Sums.{count_by-le-length, sum_by-cons, sum_by-le, sum_by-le-sum_by}
use Rattle.std.proofs.lemmas.Nat.{mul-le}
use Rattle.std.specs.List.{flat_map, range_with_len}
use Rattle.fm_base.proofs.ContainsFacts.{Contains-cons_cases, Contains-flat_map}
use Rattle.fm_base.specs.declared.kinds.Base.{Base}
use Rattle.fm_base.specs.declared.kinds.Base.TheVariants as base
use Rattle.fm_check_walk.specs.inner.Ranks.{bases_below, IsBounded, IsBoundedBase, IsBoundedState, rank, slots_below, slots_rank, state_rank, top_rank, types_with}
use Rattle.fm_check_walk.specs.inner.Tasks.{is_within}
use Rattle.fm_code.proofs.EdgesLemmas.{Contains-map}
use Rattle.fm_code.specs.declared.code_array.Code.{Code}
use Rattle.fm_types.proofs.Order.{fits-refl, fits-trans}
use Rattle.fm_types.specs.Fits.{AreTree, fits}
use Rattle.fm_types.specs.States.{all_fit, state_fits, TypeState}
use Rattle.fm_types.specs.declared.slots.Slot.{Slot}
use Rattle.fm_types.specs.declared.slots.Slot.TheVariants as slot
use Rattle.fm_world.specs.Descriptors.{of_class}
use Rattle.fm_world.specs.Programs.{Outline}

-- ---- lists

in_range : (n k : ℕ) → k < n → Contains (range_with_len 0 n) k
in_range n k below = let long = length-range_with_len 0 n in (k, omega arith, get_or-range_with_len 0 n k k below ∙ omega arith)

pub All-reverse : {X : Type 0} (P : X → Type 0) (xs : List X) → All P xs → All P (reverse xs)
All-reverse P xs h k d below =
    let long = length-reverse xs in
    let inside : k < length xs = omega arith in
    subst P (sym (get_or-reverse xs k d inside)) (h (length xs - 1 - k) d (omega arith))

-- ---- the list of all slots

one_number : (b : Bool) → cond b 1 0 ≤ 1
one_number true = omega arith
one_number false = omega arith

in_bases : (numbers : ℕ) (b : Base) → IsBoundedBase b → numbers ≡ 2 ^ 32 → Contains (bases_below numbers) b
unfolding bases_below
in_bases numbers base.Boolean bounded is = (0, omega arith, refl)
in_bases numbers base.Byte bounded is = (1, omega arith, refl)
in_bases numbers base.Char bounded is = (2, omega arith, refl)
in_bases numbers base.Short bounded is = (3, omega arith, refl)
in_bases numbers base.Int bounded is = (4, omega arith, refl)
in_bases numbers base.Long bounded is = (5, omega arith, refl)
in_bases numbers (base.OfClass class) bounded is =
    Contains-append_right (base.Boolean ∷ base.Byte ∷ base.Char ∷ base.Short ∷ base.Int ∷ base.Long ∷ []) (map of_class (range_with_len 0 numbers))
    (base.OfClass class) (Contains-map of_class (range_with_len 0 numbers) class.0 (in_range numbers class.0 (omega arith)))

in_slots : (dims numbers : ℕ) (s : Slot) → IsBounded s → dims ≡ 256 → numbers ≡ 2 ^ 32 → Contains (slots_below dims numbers) s
unfolding slots_below
in_slots dims numbers slot.Top bounded deep is = (0, omega arith, refl)
in_slots dims numbers slot.Int bounded deep is = (1, omega arith, refl)
in_slots dims numbers slot.Long bounded deep is = (2, omega arith, refl)
in_slots dims numbers slot.Null bounded deep is = (3, omega arith, refl)
in_slots dims numbers slot.UninitThis bounded deep is = (4, omega arith, refl)
in_slots dims numbers (slot.Uninit item) bounded deep is =
    Contains-append_right (slot.Top ∷ slot.Int ∷ slot.Long ∷ slot.Null ∷ slot.UninitThis ∷ [])
    (map (λ item. slot.Uninit item) (range_with_len 0 numbers) ++ flat_map (types_with (bases_below numbers)) (range_with_len 0 dims))
    (slot.Uninit item)
    (Contains-append_left (map (λ item. slot.Uninit item) (range_with_len 0 numbers))
    (flat_map (types_with (bases_below numbers)) (range_with_len 0 dims)) (slot.Uninit item)
    (Contains-map (λ item. slot.Uninit item) (range_with_len 0 numbers) item (in_range numbers item (omega arith))))
in_slots dims numbers (slot.Ref t) bounded deep is =
    Contains-append_right (slot.Top ∷ slot.Int ∷ slot.Long ∷ slot.Null ∷ slot.UninitThis ∷ [])
    (map (λ item. slot.Uninit item) (range_with_len 0 numbers) ++ flat_map (types_with (bases_below numbers)) (range_with_len 0 dims))
    (slot.Ref t)
    (Contains-append_right (map (λ item. slot.Uninit item) (range_with_len 0 numbers))
    (flat_map (types_with (bases_below numbers)) (range_with_len 0 dims)) (slot.Ref t)
    (Contains-flat_map (types_with (bases_below numbers)) (range_with_len 0 dims) t.dims (slot.Ref t)
    (let deep_enough = bounded.0 in in_range dims t.dims (omega arith))
    (Contains-map (λ b. slot.Ref (record { dims = t.dims; base = b })) (bases_below numbers) t.base (in_bases numbers t.base bounded.1 is))))

-- ---- ranks of slots

counts_le : (a b : Bool) → (a ≡ true → b ≡ true) → cond a 1 0 ≤ cond b 1 0
counts_le true true implies = omega arith
counts_le true false implies = absurd (false≢true (implies refl))
counts_le false true implies = omega arith
counts_le false false implies = omega arith

-- of two tests the weaker one passes more elements, where it passes one more
count_less : (p q : Slot → Bool) → ((s : Slot) → p s ≡ true → q s ≡ true) → (slots : List Slot) (x : Slot) → Contains slots x → p x ≡ false
    → q x ≡ true → count_by p slots < count_by q slots
count_less p q implies [] x (k, within, there) refused passed = absurd (omega arith)
count_less p q implies (s ∷ slots) x found refused passed =
    subst (λ n. n < count_by q (s ∷ slots)) (sym (sum_by-cons (λ u. cond (p u) 1 0) s slots))
    (subst (λ n. cond (p s) 1 0 + count_by p slots < n) (sym (sum_by-cons (λ u. cond (q u) 1 0) s slots))
    (⊎_elim here (λ among. later (count_less p q implies slots x among refused passed)) (Contains-cons_cases s slots x found))) where
      here : x ≡ s → cond (p s) 1 0 + count_by p slots < cond (q s) 1 0 + count_by q slots
      here same =
          let rest : count_by p slots ≤ count_by q slots =
          sum_by-le-sum_by (λ u. cond (p u) 1 0) (λ u. cond (q u) 1 0) slots (λ u. counts_le (p u) (q u) (implies u)) in
          let number : Bool → ℕ = λ b. cond b 1 0 in
          let none : number (p s) ≡ number false = ap number (sym (ap p same) ∙ refused) in
          let one : number (q s) ≡ number true = ap number (sym (ap q same) ∙ passed) in
          omega (arith, rest, none, one)

      later : count_by p slots < count_by q slots → cond (p s) 1 0 + count_by p slots < cond (q s) 1 0 + count_by q slots
      later rest = let first = counts_le (p s) (q s) (implies s) in omega (arith, rest, first)

rank-le : (o : Outline) → AreTree o.classes → (a b : Slot) → fits o a b ≡ true → rank o b ≤ rank o a
unfolding rank
rank-le o tree a b h =
    sum_by-le-sum_by (λ u. cond (fits o b u) 1 0) (λ u. cond (fits o a u) 1 0) (slots_below 256 (2 ^ 32))
    (λ u. counts_le (fits o b u) (fits o a u) (λ e. fits-trans o tree a b u h e))

pub rank-less : (o : Outline) → AreTree o.classes → (a b : Slot) → IsBounded a → fits o a b ≡ true → fits o b a ≡ false → rank o b < rank o a
unfolding rank
rank-less o tree a b bounded h back =
    count_less (λ u. fits o b u) (λ u. fits o a u) (λ u e. fits-trans o tree a b u h e) (slots_below 256 (2 ^ 32)) a
    (in_slots 256 (2 ^ 32) a bounded refl refl) back (fits-refl o tree a)

rank-within : (o : Outline) (s : Slot) → rank o s ≤ top_rank
unfolding rank top_rank
rank-within o s = count_by-le-length (λ u. fits o s u) (slots_below 256 (2 ^ 32))

-- ---- of lists of slots

slots-le : (o : Outline) → AreTree o.classes → (xs ys : List Slot) → all_fit o xs ys ≡ true → slots_rank o ys ≤ slots_rank o xs
slots-le o tree [] [] h = omega arith
slots-le o tree [] (y ∷ ys) h = absurd (false≢true h)
slots-le o tree (x ∷ xs) [] h = absurd (false≢true h)
slots-le o tree (x ∷ xs) (y ∷ ys) h =
    let parts = and_parts (fits o x y) (all_fit o xs ys) h in
    let here = rank-le o tree x y parts.0 in
    let rest = slots-le o tree xs ys parts.1 in
    subst (λ n. n ≤ slots_rank o (x ∷ xs)) (sym (sum_by-cons (rank o) y ys))
    (subst (λ n. rank o y + slots_rank o ys ≤ n) (sym (sum_by-cons (rank o) x xs)) (omega arith))

slots-less : (o : Outline) → AreTree o.classes → (xs ys : List Slot) → All IsBounded xs → all_fit o xs ys ≡ true → all_fit o ys xs ≡ false
    → slots_rank o ys < slots_rank o xs
slots-less o tree [] [] bounded h back = absurd (false≢true (sym back))
slots-less o tree [] (y ∷ ys) bounded h back = absurd (false≢true h)
slots-less o tree (x ∷ xs) [] bounded h back = absurd (false≢true h)
slots-less o tree (x ∷ xs) (y ∷ ys) bounded h back =
    subst (λ n. n < slots_rank o (x ∷ xs)) (sym (sum_by-cons (rank o) y ys))
    (subst (λ n. rank o y + slots_rank o ys < n) (sym (sum_by-cons (rank o) x xs))
    (by_first (λ behind. slots-less o tree xs ys (All-tail IsBounded x xs bounded) parts.1 behind) (fits o y x) refl)) where
      parts : (fits o x y ≡ true) × (all_fit o xs ys ≡ true)
      parts = and_parts (fits o x y) (all_fit o xs ys) h

      by_first : (all_fit o ys xs ≡ false → slots_rank o ys < slots_rank o xs) → (b : Bool) → fits o y x ≡ b
          → rank o y + slots_rank o ys < rank o x + slots_rank o xs
      by_first deeper false e =
          let here = rank-less o tree x y (All-head IsBounded x xs bounded) parts.0 e in
          let rest = slots-le o tree xs ys parts.1 in
          omega arith
      by_first deeper true e =
          let here = rank-le o tree x y parts.0 in
          let rest = deeper (sym (ap (λ (b : Bool). b && all_fit o ys xs) e) ∙ back) in
          omega arith

slots-within : (o : Outline) (xs : List Slot) → slots_rank o xs ≤ length xs * top_rank
slots-within o xs = sum_by-le (rank o) top_rank xs (λ k d below. rank-within o (get_or xs k d))

-- ---- of states

built-le : (a b : Bool) → (a || not b) ≡ true → cond b 1 0 ≤ cond a 1 0
built-le true true h = omega arith
built-le true false h = omega arith
built-le false true h = absurd (false≢true h)
built-le false false h = omega arith

built-less : (a b : Bool) → (b || not a) ≡ false → cond b 1 0 < cond a 1 0
built-less a true h = absurd (false≢true (sym h))
built-less true false h = omega arith
built-less false false h = absurd (false≢true (sym h))

pub state-less : (o : Outline) → AreTree o.classes → (old new : TypeState) → IsBoundedState old → state_fits o old new ≡ true
    → state_fits o new old ≡ false → state_rank o new < state_rank o old
unfolding state_fits
state-less o tree old new bounded h back = by_parts (all_fit o new.locals old.locals) (all_fit o new.stack old.stack) refl refl where
  outer : ((all_fit o old.locals new.locals && all_fit o old.stack new.stack) ≡ true) × ((old.built || not new.built) ≡ true)
  outer = and_parts (all_fit o old.locals new.locals && all_fit o old.stack new.stack) (old.built || not new.built) h

  inner : (all_fit o old.locals new.locals ≡ true) × (all_fit o old.stack new.stack ≡ true)
  inner = and_parts (all_fit o old.locals new.locals) (all_fit o old.stack new.stack) outer.0

  by_parts : (p q : Bool) → all_fit o new.locals old.locals ≡ p → all_fit o new.stack old.stack ≡ q → state_rank o new < state_rank o old
  by_parts false q e f =
      let locals = slots-less o tree old.locals new.locals bounded.locals inner.0 e in
      let stack = slots-le o tree old.stack new.stack inner.1 in
      let built = built-le old.built new.built outer.1 in
      omega arith
  by_parts true false e f =
      let locals = slots-le o tree old.locals new.locals inner.0 in
      let stack = slots-less o tree old.stack new.stack bounded.stack inner.1 f in
      let built = built-le old.built new.built outer.1 in
      omega arith
  by_parts true true e f =
      let locals = slots-le o tree old.locals new.locals inner.0 in
      let stack = slots-le o tree old.stack new.stack inner.1 in
      let left =
      ap (λ (b : Bool). (b && all_fit o new.stack old.stack) && (new.built || not old.built)) e
      ∙ ap (λ (b : Bool). b && (new.built || not old.built)) f in
      let built = built-less old.built new.built (sym left ∙ back) in
      omega arith

pub state-within : (o : Outline) (code : Code) (s : TypeState) → is_within code s ≡ true
    → state_rank o s < code.max_locals * top_rank + code.max_stack * top_rank + 2
state-within o code s within =
    let parts = and_parts (length s.locals == code.max_locals) (nat_le (length s.stack) code.max_stack) within in
    let locals = slots-within o s.locals in
    let stack = slots-within o s.stack in
    let as_many = ap (λ n. n * top_rank) (eqb-true (length s.locals) code.max_locals parts.0) in
    let no_more = mul-le (length s.stack) top_rank code.max_stack top_rank (leb-true (length s.stack) code.max_stack parts.1) (omega arith) in
    let built = one_number s.built in
    omega arith
