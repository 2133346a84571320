-- The numbers of nodes: no two nodes have one number, and those that are there have the numbers below their count.
use Rattle.std.proofs.Common.{◌≡◌, ℕ, zero, suc, ◌+◌, ◌*◌, ◌<◌, ◌≤◌, Bool, cond, List, [], ◌∷◌, ◌++◌, length, get_or, refl, ap, sym, ◌∙◌, ⊎_elim, arith}
use Rattle.std.proofs.lemmas.Bool.{cases_lt, cond_above, cond_below}
use Rattle.std.proofs.Math.Nat.{mul-le-mul_left}
use Rattle.std.specs.Prelude.{nat_lt}
use Rattle.std.proofs.lemmas.List.{get_or_past}
use Rattle.fm_conn.specs.Nodes.{Global, Local, Node, Return, Slot}
use Rattle.fm_conn.specs.inner.NodeTables.{first_word, node_count, number_of, words_at, words_before, NodeTable}

-- ---- words before an item

pub words_before_next : (words : List (List Bool)) (j : ℕ) → j < length words →
    words_before words (suc j) ≡ words_before words j + length (get_or words j [])
unfolding words_before
words_before_next [] j below = absurd (omega arith)
words_before_next (w ∷ words) zero below = omega arith
words_before_next (w ∷ words) (suc j) below = let rest = words_before_next words j (omega arith) in omega arith

pub words_before_le : (words : List (List Bool)) (j k : ℕ) → j ≤ k → words_before words j ≤ words_before words k
unfolding words_before
words_before_le words zero k below = omega arith
words_before_le [] (suc j) k below = omega arith
words_before_le (w ∷ words) (suc j) zero below = absurd (omega arith)
words_before_le (w ∷ words) (suc j) (suc k) below = let rest = words_before_le words j k (omega arith) in omega arith

pub words_before-append : (words more : List (List Bool)) (j : ℕ) → j ≤ length words → words_before (words ++ more) j ≡ words_before words j
unfolding words_before
words_before-append words more zero below = refl
words_before-append [] more (suc j) below = absurd (omega arith)
words_before-append (w ∷ words) more (suc j) below = ap (λ n. length w + n) (words_before-append words more j (omega arith))

-- ---- the words of an item

-- an item that has a word is there
pub item_inside : (words : List (List Bool)) (j d : ℕ) → d < length (get_or words j []) → j < length words
item_inside words j d here =
    ⊎_elim (λ inside. inside) (λ (past : length words ≤ j). absurd (let none = ap length (get_or_past words j [] past) in omega arith)) (cases_lt j (length words))

-- the words of an earlier item end before those of a later one begin
pub words_apart : (words : List (List Bool)) (j k d : ℕ) → j < k → d < length (get_or words j []) →
    words_before words j + d < words_before words k
words_apart words j k d below here =
    let inside = item_inside words j d here in
    let next = words_before_next words j inside in
    let le = words_before_le words (suc j) k (omega arith) in omega arith

-- the words of an item end before the count of all
pub word_below : (words : List (List Bool)) (j d : ℕ) → d < length (get_or words j []) →
    words_before words j + d < words_before words (length words)
word_below words j d here = words_apart words j (length words) d (item_inside words j d here) here

-- ---- numbers of nodes

square_apart : (s t d e : ℕ) → d ≤ s → s < t → s * s + d ≡ t * t + e → ⊥
square_apart s t d e small below same =
    let one : s * s ≤ s * t = mul-le-mul_left s (let le : s ≤ t = omega arith in le) in
    let two : (s + 1) * (s + 1) ≤ (s + 1) * t = mul-le-mul_left (s + 1) (let le : s + 1 ≤ t = omega arith in le) in
    let three : t * (s + 1) ≤ t * t = mul-le-mul_left t (let le : s + 1 ≤ t = omega arith in le) in
    omega arith

-- a pair of numbers is another than this one
squares : (j d k e : ℕ) → (j + d) * (j + d) + d ≡ (k + e) * (k + e) + e → (j ≡ k) × (d ≡ e)
squares j d k e same =
    let equal : j + d ≡ k + e =
    ⊎_elim (λ (below : j + d < k + e). absurd (square_apart (j + d) (k + e) d e (omega arith) below same))
    (λ (up : k + e ≤ j + d).
    ⊎_elim (λ (below : k + e < j + d). absurd (square_apart (k + e) (j + d) e d (omega arith) below (sym same)))
    (λ (le : j + d ≤ k + e). omega arith)
    (cases_lt (k + e) (j + d)))
    (cases_lt (j + d) (k + e)) in
    let square : (j + d) * (j + d) ≡ (k + e) * (k + e) = ap (λ n. n * n) equal in
    let last : d ≡ e = omega arith in (omega arith, last)

record LocalNumber (t : NodeTable) (k number : ℕ) : Type 0 where
  near : k < t.locals → number ≡ k
  far : t.locals ≤ k → number ≡ node_count t + 2 * k

record SlotNumber (t : NodeTable) (j d number : ℕ) : Type 0 where
  near : d < length (words_at t j) → number ≡ first_word t j + d
  within : d < length (words_at t j) → first_word t j + d < node_count t
  far : length (words_at t j) ≤ d → number ≡ node_count t + (2 * ((j + d) * (j + d) + d) + 1)

if_below : (k n a b : ℕ) → (k < n → cond (nat_lt k n) a b ≡ a) × (n ≤ k → cond (nat_lt k n) a b ≡ b)
if_below k n a b = (λ below. sym (cond_below k n a b below), λ past. sym (cond_above k n a b b past refl))

local_number : (t : NodeTable) (k : ℕ) → LocalNumber t k (number_of t (Local k))
local_number t k = let both = if_below k t.locals k (node_count t + 2 * k) in record { near = both.0; far = both.1 }

slot_number : (t : NodeTable) (j d : ℕ) → SlotNumber t j d (number_of t (Slot j d))
slot_number t j d =
    let both = if_below d (length (words_at t j)) (first_word t j + d) (node_count t + (2 * ((j + d) * (j + d) + d) + 1)) in
    record { near = both.0; within = λ here. let below = word_below t.words j d here in omega arith; far = both.1 }

-- the node of a word's number
words_same : (t : NodeTable) (j d k e : ℕ) → d < length (words_at t j) → e < length (words_at t k) →
    first_word t j + d ≡ first_word t k + e → (j ≡ k) × (d ≡ e)
words_same t j d k e here there same =
    let equal : j ≡ k =
    ⊎_elim (λ (below : j < k). absurd (let apart = words_apart t.words j k d below here in omega arith))
    (λ (up : k ≤ j).
    ⊎_elim (λ (below : k < j). absurd (let apart = words_apart t.words k j e below there in omega arith)) (λ (le : j ≤ k). omega arith) (cases_lt k j))
    (cases_lt j k) in
    let first : words_before t.words j ≡ words_before t.words k = ap (words_before t.words) equal in
    (equal, omega arith)

slots_same : (t : NodeTable) (j d k e : ℕ) → number_of t (Slot j d) ≡ number_of t (Slot k e) → (j ≡ k) × (d ≡ e)
slots_same t j d k e same =
    let a = slot_number t j d in
    let b = slot_number t k e in
    ⊎_elim
    (λ (here : d < length (words_at t j)).
    let is = a.near here in
    let within = a.within here in
    ⊎_elim (λ (there : e < length (words_at t k)). words_same t j d k e here there (sym is ∙ same ∙ b.near there))
    (λ (far : length (words_at t k) ≤ e). absurd (let past = b.far far in omega arith))
    (cases_lt e (length (words_at t k))))
    (λ (past : length (words_at t j) ≤ d).
    let is = a.far past in
    ⊎_elim (λ (there : e < length (words_at t k)). absurd (let near = b.near there in let within = b.within there in omega arith))
    (λ (far : length (words_at t k) ≤ e).
    let beyond = b.far far in
    squares j d k e (omega arith))
    (cases_lt e (length (words_at t k))))
    (cases_lt d (length (words_at t j)))

local_not_slot : (t : NodeTable) (k j d : ℕ) → number_of t (Local k) ≡ number_of t (Slot j d) → ⊥
local_not_slot t k j d same =
    let a = local_number t k in
    let b = slot_number t j d in
    ⊎_elim
    (λ (near : k < t.locals).
    let is = a.near near in
    ⊎_elim (λ (here : d < length (words_at t j)). let there = b.near here in omega arith)
    (λ (past : length (words_at t j) ≤ d). let far = b.far past in omega arith)
    (cases_lt d (length (words_at t j))))
    (λ (beyond : t.locals ≤ k).
    let is = a.far beyond in
    ⊎_elim (λ (here : d < length (words_at t j)). let there = b.near here in let within = b.within here in omega arith)
    (λ (past : length (words_at t j) ≤ d). let far = b.far past in omega arith)
    (cases_lt d (length (words_at t j))))
    (cases_lt k t.locals)

-- a local is no number between those of locals and those of words
local_apart : (t : NodeTable) (k n : ℕ) → t.locals ≤ n → n < t.locals + 2 → number_of t (Local k) ≡ n → ⊥
local_apart t k n low high same =
    let a = local_number t k in
    ⊎_elim (λ (near : k < t.locals). let is = a.near near in omega arith) (λ (beyond : t.locals ≤ k). let is = a.far beyond in omega arith)
    (cases_lt k t.locals)

slot_apart : (t : NodeTable) (j d n : ℕ) → t.locals ≤ n → n < t.locals + 2 → number_of t (Slot j d) ≡ n → ⊥
slot_apart t j d n low high same =
    let b = slot_number t j d in
    ⊎_elim (λ (here : d < length (words_at t j)). let there = b.near here in omega arith)
    (λ (past : length (words_at t j) ≤ d). let far = b.far past in omega arith)
    (cases_lt d (length (words_at t j)))

locals_same : (t : NodeTable) (k l : ℕ) → number_of t (Local k) ≡ number_of t (Local l) → k ≡ l
locals_same t k l same =
    let a = local_number t k in
    let b = local_number t l in
    ⊎_elim
    (λ (near : k < t.locals).
    let is = a.near near in
    ⊎_elim (λ (low : l < t.locals). let there = b.near low in omega arith) (λ (high : t.locals ≤ l). absurd (let there = b.far high in omega arith))
    (cases_lt l t.locals))
    (λ (beyond : t.locals ≤ k).
    let is = a.far beyond in
    ⊎_elim (λ (low : l < t.locals). absurd (let there = b.near low in omega arith)) (λ (high : t.locals ≤ l). let there = b.far high in omega arith)
    (cases_lt l t.locals))
    (cases_lt k t.locals)

-- one number, one node
pub number_of-same : (t : NodeTable) (a b : Node) → number_of t a ≡ number_of t b → a ≡ b
number_of-same t (Local k) (Local l) same = ap Local (locals_same t k l same)
number_of-same t (Local k) (Slot j d) same = absurd (local_not_slot t k j d same)
number_of-same t (Local k) Return same = absurd (local_apart t k (t.locals + 1) (omega arith) (omega arith) same)
number_of-same t (Local k) Global same = absurd (local_apart t k t.locals (omega arith) (omega arith) same)
number_of-same t (Slot j d) (Local l) same = absurd (local_not_slot t l j d (sym same))
number_of-same t (Slot j d) (Slot k e) same = let both = slots_same t j d k e same in (λ i. Slot (both.0 i) (both.1 i))
number_of-same t (Slot j d) Return same = absurd (slot_apart t j d (t.locals + 1) (omega arith) (omega arith) same)
number_of-same t (Slot j d) Global same = absurd (slot_apart t j d t.locals (omega arith) (omega arith) same)
number_of-same t Return (Local l) same = absurd (local_apart t l (t.locals + 1) (omega arith) (omega arith) (sym same))
number_of-same t Return (Slot k e) same = absurd (slot_apart t k e (t.locals + 1) (omega arith) (omega arith) (sym same))
number_of-same t Return Return same = refl
number_of-same t Return Global same = absurd (omega arith)
number_of-same t Global (Local l) same = absurd (local_apart t l t.locals (omega arith) (omega arith) (sym same))
number_of-same t Global (Slot k e) same = absurd (slot_apart t k e t.locals (omega arith) (omega arith) (sym same))
number_of-same t Global Return same = absurd (omega arith)
number_of-same t Global Global same = refl

-- ---- nodes that are there

-- the node is a local or a word that is there, or one of the two others
abbrev pub IsThere : NodeTable → Node → Type 0
IsThere t (Local k) = k < t.locals
IsThere t (Slot j d) = d < length (words_at t j)
IsThere t Return = Unit {0}
IsThere t Global = Unit {0}

-- their numbers are below the count
pub number_below : (t : NodeTable) (node : Node) → IsThere t node → number_of t node < node_count t
number_below t (Local k) low = let a = local_number t k in let is = a.near low in omega arith
number_below t (Slot j d) here = let a = slot_number t j d in let is = a.near here in let within = a.within here in omega arith
number_below t Return there = omega arith
number_below t Global there = omega arith
