-- What loops make, a step more.
use Rattle.std.proofs.Common.{◌≡◌, ◌≤◌, ◌<◌, ◌∙◌, ℕ, zero, suc, ◌+◌, ◌*◌, Bool, true, false, List, [], ◌∷◌, ◌++◌, Some, None, append-nil, append_assoc, ap, drop, get_or, length, length-append, map, refl, sum_by, sym, arith, if◌then◌else◌}
use Rattle.std.specs.Prelude.{◌==◌, ◌%◌, ◌-◌}
use Rattle.std.proofs.lemmas.Grind.{flat_map-append}
use Rattle.std.proofs.lemmas.List.FromFn.{map-range_with_len_more}
use Rattle.std.proofs.lemmas.List.Sums.{sum_by-cons}
use Rattle.std.specs.List.{concat, flat_map, range_with_len}
use Rattle.fm_base.proofs.ListFacts.{drop_here, range-next}
use Rattle.fm_code.proofs.Bytes.{length-two}
use Rattle.fm_code.specs.declared.code_array.Item.{Item}
use Rattle.fm_code.specs.declared.operations.Reg.TheVariants as reg
use Rattle.fm_code.specs.declared.instructions.Insn.{Insn}
use Rattle.fm_code.specs.declared.instructions.Insn.TheVariants as insn
use Rattle.fm_gen.specs.Made.{argument, call, dropped_object, f_insns, g_insns, item_at, items_from, main_insns, new_object, result_insns, size_of, tried}

-- lists behind one another, for the numbers from a first one on
pub pushed_more : {X : Type 0} (f : ℕ → List X) (a n i : ℕ) (first before after : List X) → a + n ≡ i → before ≡ first ++ flat_map f (range_with_len a n)
    → after ≡ before ++ f i → after ≡ first ++ flat_map f (range_with_len a (n + 1))
pushed_more f a n i first before after same so_far more =
    let one : n + 1 ≡ suc n = omega arith in
    let done = flat_map f (range_with_len a n) in
    more ∙ ap (λ list. list ++ f i) so_far ∙ append_assoc first done (f i)
    ∙ ap (λ list. first ++ list)
    (sym (ap (λ k. flat_map f (range_with_len a k)) one ∙ ap (flat_map f) (range-next a n) ∙ flat_map-append f (range_with_len a n) ((a + n) ∷ [])
    ∙ ap (λ k. done ++ (f k ++ [])) same ∙ ap (λ list. done ++ list) (append-nil (f i))))

-- one value for each number
pub mapped_more : {X : Type 0} (f : ℕ → X) (n : ℕ) (x : X) (first before after : List X) → x ≡ f n → before ≡ first ++ map f (range_with_len 0 n) → after ≡ before ++ x ∷ []
    → after ≡ first ++ map f (range_with_len 0 (n + 1))
mapped_more f n x first before after is so_far more =
    more ∙ ap (λ y. before ++ y ∷ []) is ∙ ap (λ list. list ++ f n ∷ []) so_far ∙ append_assoc first (map f (range_with_len 0 n)) (f n ∷ [])
    ∙ ap (λ list. first ++ list) (sym (map-range_with_len_more f 0 n n (omega arith)))

-- an instruction of the methods has at most three bytes
pub few_bytes : (i : Insn) → size_of i ≤ 3
few_bytes (insn.Special index) = let two = length-two index in omega arith
few_bytes (insn.Static index) = let two = length-two index in omega arith
few_bytes (insn.New index) = let two = length-two index in omega arith
few_bytes insn.Null = omega arith
few_bytes (insn.Load reg.Int local) = omega arith
few_bytes (insn.Load reg.Long local) = omega arith
few_bytes (insn.Load reg.Ref local) = omega arith
few_bytes insn.Pop = omega arith
few_bytes insn.Dup = omega arith
few_bytes (insn.Return (Some reg.Int)) = omega arith
few_bytes (insn.Return (Some reg.Long)) = omega arith
few_bytes (insn.Return (Some reg.Ref)) = omega arith
few_bytes (insn.Return None) = omega arith
few_bytes i = omega arith

-- the items of the first instructions, up to an offset, and those of the others are the items of all
pub record IsLaid (insns : List Insn) (k end : ℕ) (laid : List Item) : Type 0 where
  pub items : laid ++ items_from end (drop k insns) ≡ items_from 0 insns
  pub sum : end + sum_by size_of (drop k insns) ≡ sum_by size_of insns
  pub few : end ≤ 3 * k

-- an instruction more
pub laid_more : (insns : List Insn) (k end size : ℕ) (i : Insn) (item : Item) (before after : List Item) → k < length insns → i ≡ get_or insns k i → item ≡ item_at end i → size ≡ size_of i
    → after ≡ before ++ item ∷ [] → IsLaid insns k end before → IsLaid insns (k + 1) (end + size) after
laid_more insns k end size i item before after within there is sized more so_far =
    let next = drop_here insns k i within there in
    let rest = drop (k + 1) insns in
    let same : end + size ≡ end + size_of i = omega arith in
    let sums : sum_by size_of (drop k insns) ≡ size_of i + sum_by size_of rest = ap (sum_by size_of) next ∙ sum_by-cons size_of i rest in
    let short = few_bytes i in
    record {
      items =
          ap (λ list. list ++ items_from (end + size) rest) more
          ∙ ap (λ x. (before ++ x ∷ []) ++ items_from (end + size) rest) is
          ∙ append_assoc before (item_at end i ∷ []) (items_from (end + size) rest)
          ∙ ap (λ e. before ++ item_at end i ∷ items_from e rest) same
          ∙ sym (ap (λ list. before ++ items_from end list) next)
          ∙ so_far.items;
      sum = let was = so_far.sum in omega (arith, was, sums, sized);
      few = let was = so_far.few in omega (arith, was, short, sized);
    }

-- ---- how many they are

branch_short : (b : Bool) (xs ys : List Insn) → length xs ≤ 5 → length ys ≤ 5 → length (if b then xs else ys) ≤ 5
branch_short true xs ys first second = first
branch_short false xs ys first second = second

pub f_short : (i : ℕ) → length (f_insns i) ≤ 6
unfolding f_insns
f_short i =
    let most = branch_short (i % 4 == 0) new_object _ (omega arith) (branch_short (i % 4 == 1) (insn.Load reg.Ref 0 ∷ []) _ (omega arith)
    (branch_short (i % 4 == 2) dropped_object (argument i) (omega arith) (branch_short (i % 100 == 3) (insn.Load reg.Ref 0 ∷ []) (insn.Load reg.Ref 0 ∷ call (i - 4) ∷ []) (omega arith) (omega arith)))) in
    omega (arith, most, length-append (result_insns i) (insn.Return (Some reg.Ref) ∷ []))

tries_length : (f : ℕ → ℕ) (a m : ℕ) → length (flat_map (λ k. tried (f k)) (range_with_len a m)) ≡ 5 * m
tries_length f a zero = refl
tries_length f a (suc m) = omega (arith, length-append (tried (f a)) (flat_map (λ k. tried (f k)) (range_with_len (a + 1) m)), tries_length f (a + 1) m)

pub g_short : (j : ℕ) → length (g_insns j) ≡ 501
unfolding g_insns
g_short j =
    omega (arith, length-append (flat_map (λ k. tried (100 * j + k)) (range_with_len 0 100)) (insn.Return None ∷ []), tries_length (λ k. 100 * j + k) 0 100)

calls_length : (f : ℕ → Insn) (a m : ℕ) → length (map f (range_with_len a m)) ≡ m
calls_length f a zero = refl
calls_length f a (suc m) = omega (arith, calls_length f (a + 1) m)

pub main_short : (n : ℕ) → length (main_insns n) ≡ n + 1
unfolding main_insns
main_short n =
    omega (arith, length-append (map (λ j. call (100 * n + j)) (range_with_len 0 n)) (insn.Return None ∷ []), calls_length (λ j. call (100 * n + j)) 0 n)

-- lists behind one another are as long as they are together
pub concat_length : (xss : List (List ℕ)) → length (concat xss) ≡ sum_by length xss
concat_length [] = refl
concat_length (xs ∷ xss) = omega (arith, length-append xs (concat xss), concat_length xss, sum_by-cons length xs xss)
