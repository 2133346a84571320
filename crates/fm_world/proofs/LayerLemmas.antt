-- Nodes that are added leave what is below the others as it is, and a node that is made over another one differs in one entry.
use Rattle.std.proofs.Common.{◌≡◌, refl, sym, Bool, true, false, cond, ◌∙◌, ap, subst, ℕ, zero, suc, ◌+◌, ◌-◌, ◌/◌, ◌%◌, ◌^◌, ◌<◌, ◌≤◌, List, [], ◌∷◌, ◌++◌, length, get_or, set, arith, ◌⊎◌, inl, inr, get_or-set_same, get_or-set_other, length-set, length-append, append_assoc}
use Rattle.std.proofs.Math.ListN.{get_or-append}
use Rattle.std.proofs.Math.Seq.{get_or-append_seam}
use Rattle.std.proofs.Math.Nat.{div-add-mod}
use Rattle.std.proofs.Math.Nat.{pow-suc}
use Rattle.std.proofs.lemmas.Bool.{cases_eq, cases_lt}
use Rattle.std.proofs.lemmas.List.{append-nil}
use Rattle.fm_world.specs.inner.Nodes.{child_of, entry_of, IsNode, AreNodes, Grows, Puts}

-- ---- node 0

pub IsNode-empty : (nodes : List (List ℕ)) → AreNodes nodes → (level : ℕ) → IsNode nodes level 0
IsNode-empty nodes a zero = tt
IsNode-empty nodes a (suc level) = (a.some, λ branch. subst (λ n. IsNode nodes level n) (sym (a.empty branch)) (IsNode-empty nodes a level))

pub entry_of-empty : (nodes : List (List ℕ)) → AreNodes nodes → (level key : ℕ) → entry_of nodes level 0 key ≡ 0
entry_of-empty nodes a zero key = refl
entry_of-empty nodes a (suc level) key = ap (λ n. entry_of nodes level n (key / 8)) (a.empty (key % 8)) ∙ entry_of-empty nodes a level (key / 8)

-- ---- a walk down

pub one_down : (nodes : List (List ℕ)) (levels i node key e : ℕ) → i < levels → entry_of nodes (levels - i) node key ≡ e
    → entry_of nodes (levels - (i + 1)) (child_of nodes node (key % 8)) (key / 8) ≡ e
one_down nodes levels i node key e below is =
    let more : levels - i ≡ suc (levels - (i + 1)) = omega arith in
    sym (ap (λ l. entry_of nodes l node key) more) ∙ is

pub all_down : (nodes : List (List ℕ)) (levels i node key e : ℕ) → levels ≤ i → entry_of nodes (levels - i) node key ≡ e → node ≡ e
all_down nodes levels i node key e end is =
    let none : levels - i ≡ 0 = omega arith in
    sym (ap (λ l. entry_of nodes l node key) none) ∙ is

-- ---- nodes that are added

pub child_of-grows : (old new : List (List ℕ)) (node branch : ℕ) → Grows old new → node < length old
    → child_of new node branch ≡ child_of old node branch
child_of-grows old new node branch g within = ap (λ ns. child_of ns node branch) g.1
    ∙ ap (λ row. get_or row branch 0) (get_or-append old g.0 [] node within)

pub within-grows : (old new : List (List ℕ)) (node : ℕ) → Grows old new → node < length old → node < length new
within-grows old new node g within =
    let longer : length new ≡ length old + length g.0 = ap length g.1 ∙ length-append old g.0 in
    omega (arith, longer)

pub IsNode-grows : (old new : List (List ℕ)) (level node : ℕ) → Grows old new → IsNode old level node → IsNode new level node
IsNode-grows old new zero node g is = tt
IsNode-grows old new (suc level) node g is = (
  within-grows old new node g is.0,
  λ branch. subst (λ n. IsNode new level n) (sym (child_of-grows old new node branch g is.0))
      (IsNode-grows old new level (child_of old node branch) g (is.1 branch)),
)

pub entry_of-grows : (old new : List (List ℕ)) (level node key : ℕ) → Grows old new → IsNode old level node
    → entry_of new level node key ≡ entry_of old level node key
entry_of-grows old new zero node key g is = refl
entry_of-grows old new (suc level) node key g is =
    ap (λ n. entry_of new level n (key / 8)) (child_of-grows old new node (key % 8) g is.0)
    ∙ entry_of-grows old new level (child_of old node (key % 8)) (key / 8) g (is.1 (key % 8))

pub Grows-none : (nodes : List (List ℕ)) → Grows nodes nodes
Grows-none nodes = ([], sym (append-nil nodes))

pub Grows-then : (a b c : List (List ℕ)) → Grows a b → Grows b c → Grows a c
Grows-then a b c g h = (g.0 ++ h.0, h.1 ∙ ap (λ ns. ns ++ h.0) g.1 ∙ append_assoc a g.0 h.0)

pub Grows-one : (a b : List (List ℕ)) (row : List ℕ) → b ≡ a ++ row ∷ [] → Grows a b
Grows-one a b row e = (row ∷ [], e)

-- ---- a node over another one

-- what the new node has on a branch: the given node on one, and on the others what the old row has
pub child_of-fresh : (nodes all : List (List ℕ)) (row : List ℕ) (at below branch : ℕ) → all ≡ nodes ++ set row at below ∷ []
    → child_of all (length nodes) branch ≡ get_or (set row at below) branch 0
child_of-fresh nodes all row at below branch e =
    ap (λ ns. child_of ns (length nodes) branch) e ∙ ap (λ r. get_or r branch 0) (get_or-append_seam nodes (set row at below) [] [])

pub same_key : (k key : ℕ) → k % 8 ≡ key % 8 → k / 8 ≡ key / 8 → k ≡ key
same_key k key low high =
    let mine = div-add-mod k 8 in
    let other = div-add-mod key 8 in
    omega (arith, low, high, mine, other)

pub lower_key : (level k : ℕ) → k < 8 ^ suc level → k / 8 < 8 ^ level
lower_key level k h =
    let power = pow-suc 8 level in
    let mine = div-add-mod k 8 in
    omega (arith, power, mine, h)

-- the nodes before, those after the node below was made, and those with the new node at the end
pub record Made (before between after : List (List ℕ)) (level node key below : ℕ) (row : List ℕ) : Type 0 where
  pub is : IsNode before (suc level) node
  pub grows : Grows before between
  pub row_is : row ≡ get_or between node []
  pub branches : length row ≡ 8
  pub after_is : after ≡ between ++ set row (key % 8) below ∷ []

pub further : {before between after : List (List ℕ)} {level node key below : ℕ} {row : List ℕ} → Made before between after level node key below row
    → Grows between after
further m = Grows-one _ _ _ m.after_is

pub from_before : {before between after : List (List ℕ)} {level node key below : ℕ} {row : List ℕ}
    → Made before between after level node key below row → Grows before after
from_before m = Grows-then _ _ _ m.grows (further m)

pub branch-same : (before between after : List (List ℕ)) (level node key below branch : ℕ) (row : List ℕ)
    → Made before between after level node key below row
    → branch ≡ key % 8 → child_of after (length between) branch ≡ below
branch-same before between after level node key below branch row m e =
    let within : branch < length row = let eight = m.branches in let mine = div-add-mod key 8 in omega (arith, eight, e) in
    child_of-fresh between after row (key % 8) below branch m.after_is
    ∙ ap (λ b. get_or (set row b below) branch 0) (sym e) ∙ get_or-set_same row branch below 0 within

pub branch-other : (before between after : List (List ℕ)) (level node key below branch : ℕ) (row : List ℕ)
    → Made before between after level node key below row
    → (branch ≡ key % 8 → ⊥) → child_of after (length between) branch ≡ child_of before node branch
branch-other before between after level node key below branch row m other =
    child_of-fresh between after row (key % 8) below branch m.after_is
    ∙ get_or-set_other row (key % 8) branch below 0 other
    ∙ ap (λ r. get_or r branch 0) m.row_is
    ∙ child_of-grows before between node branch m.grows m.is.0

pub IsNode-made : (before between after : List (List ℕ)) (level node key entry below : ℕ) (row : List ℕ)
    → Made before between after level node key below row
    → Puts before between level (child_of before node (key % 8)) (key / 8) entry below → IsNode after (suc level) (length between)
IsNode-made before between after level node key entry below row m p = (there, at) where
  there : length between < length after
  there = let longer : length after ≡ length between + 1 = ap length m.after_is ∙ length-append between (set row (key % 8) below ∷ []) in
      omega (arith, longer)

  at : (branch : ℕ) → IsNode after level (child_of after (length between) branch)
  at branch = by_case (cases_eq branch (key % 8)) where
    by_case : (branch ≡ key % 8) ⊎ (branch ≡ key % 8 → ⊥) → IsNode after level (child_of after (length between) branch)
    by_case (inl e) = subst (λ n. IsNode after level n) (sym (branch-same before between after level node key below branch row m e))
        (IsNode-grows between after level below (further m) p.is_node)
    by_case (inr other) =
        subst (λ n. IsNode after level n) (sym (branch-other before between after level node key below branch row m other))
        (IsNode-grows before after level (child_of before node branch) (from_before m) (m.is.1 branch))

pub has-made : (before between after : List (List ℕ)) (level node key entry below : ℕ) (row : List ℕ)
    → Made before between after level node key below row
    → Puts before between level (child_of before node (key % 8)) (key / 8) entry below → entry_of after (suc level) (length between) key ≡ entry
has-made before between after level node key entry below row m p =
    ap (λ n. entry_of after level n (key / 8)) (branch-same before between after level node key below (key % 8) row m refl)
    ∙ entry_of-grows between after level below (key / 8) (further m) p.is_node ∙ p.has

pub others-made : (before between after : List (List ℕ)) (level node key entry below : ℕ) (row : List ℕ)
    → Made before between after level node key below row
    → Puts before between level (child_of before node (key % 8)) (key / 8) entry below → (k : ℕ) → k < 8 ^ suc level → (k ≡ key → ⊥)
    → entry_of after (suc level) (length between) k ≡ entry_of before (suc level) node k
others-made before between after level node key entry below row m p k room other = by_case (cases_eq (k % 8) (key % 8)) where
  by_case : (k % 8 ≡ key % 8) ⊎ (k % 8 ≡ key % 8 → ⊥) → entry_of after (suc level) (length between) k ≡ entry_of before (suc level) node k
  by_case (inl e) =
      ap (λ n. entry_of after level n (k / 8)) (branch-same before between after level node key below (k % 8) row m e)
      ∙ entry_of-grows between after level below (k / 8) (further m) p.is_node
      ∙ p.others (k / 8) (lower_key level k room) (λ h. other (same_key k key e h))
      ∙ ap (λ b. entry_of before level (child_of before node b) (k / 8)) (sym e)
  by_case (inr d) =
      ap (λ n. entry_of after level n (k / 8)) (branch-other before between after level node key below (k % 8) row m d)
      ∙ entry_of-grows before after level (child_of before node (k % 8)) (k / 8) (from_before m) (m.is.1 (k % 8))

pub Puts-made : (before between after : List (List ℕ)) (level node key entry below : ℕ) (row : List ℕ)
    → Made before between after level node key below row
    → Puts before between level (child_of before node (key % 8)) (key / 8) entry below → Puts before after (suc level) node key entry (length between)
Puts-made before between after level node key entry below row m p = record {
  is_node = IsNode-made before between after level node key entry below row m p;
  has = has-made before between after level node key entry below row m p;
  others = others-made before between after level node key entry below row m p;
}

-- at the lowest level the node is the entry, and there is one key
pub Puts-lowest : (nodes : List (List ℕ)) (node key entry : ℕ) → key < 8 ^ 0 → Puts nodes nodes 0 node key entry entry
Puts-lowest nodes node key entry room = record {
  is_node = tt;
  has = refl;
  others = λ k h other. absurd (other (omega (arith, h, room)));
}

-- ---- what all nodes have

pub AreNodes-more : (nodes all : List (List ℕ)) (node at below : ℕ) (row : List ℕ) → AreNodes nodes → node < length nodes → row ≡ get_or nodes node []
    → all ≡ nodes ++ set row at below ∷ [] → AreNodes all
AreNodes-more nodes all node at below row a within is e = record { some = longer; empty = first; branches = rows } where
  new : List ℕ
  new = set row at below

  grows : Grows nodes all
  grows = Grows-one nodes all new e

  longer : 0 < length all
  longer = within-grows nodes all 0 grows a.some

  first : (branch : ℕ) → child_of all 0 branch ≡ 0
  first branch = child_of-grows nodes all 0 branch grows a.some ∙ a.empty branch

  whole : length all ≡ length nodes + 1
  whole = ap length e ∙ length-append nodes (new ∷ [])

  rows : (k : ℕ) → k < length all → length (get_or all k []) ≡ 8
  rows k h = by_case (cases_lt k (length nodes)) where
    by_case : (k < length nodes) ⊎ (length nodes ≤ k) → length (get_or all k []) ≡ 8
    by_case (inl old) = ap (λ ns. length (get_or ns k [])) e ∙ ap length (get_or-append nodes (new ∷ []) [] k old) ∙ a.branches k old
    by_case (inr high) =
        let last : k ≡ length nodes = omega (arith, h, high, whole) in
        ap (λ ns. length (get_or ns k [])) e ∙ ap (λ j. length (get_or (nodes ++ new ∷ []) j [])) last
        ∙ ap length (get_or-append_seam nodes new [] []) ∙ length-set row at below ∙ ap length is ∙ a.branches node within

-- whether the new node could be had or not
pub AreNodes-either : (b : Bool) (nodes all : List (List ℕ)) (node at below : ℕ) (row : List ℕ) → AreNodes nodes → node < length nodes
    → row ≡ get_or nodes node []
    → all ≡ cond b (nodes ++ set row at below ∷ []) nodes → AreNodes all
AreNodes-either true nodes all node at below row a within is e = AreNodes-more nodes all node at below row a within is e
AreNodes-either false nodes all node at below row a within is e = subst AreNodes (sym e) a
