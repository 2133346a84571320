-- Chains of pairs: nodes are joined exactly where their numbers are, and exactly where the least numbers that are joined with them are the same.
use Rattle.std.proofs.Common.{◌≡◌, ℕ, ◌<◌, ◌≤◌, ◌↔◌, List, [], ◌∷◌, get_or, Contains, refl, ap, sym, ◌∙◌, subst, inl, inr, ⊎_elim, arith}
use Rattle.std.proofs.lemmas.Bool.{cases_lt}
use Rattle.std.proofs.lemmas.List.{get_or_default, get_or_past}
use Rattle.fm_base.proofs.GraphLemmas.{numbers_back, numbers_then, paired_below}
use Rattle.fm_base.specs.Graph.{AreJoined, AreLeastJoined, AreNodes, ArePaired as NumbersPaired, IsPath as IsNumberPath}
use Rattle.fm_conn.proofs.NumberLemmas.{number_of-same}
use Rattle.fm_conn.proofs.PairLemmas.{PairNumbers}
use Rattle.fm_conn.specs.Nodes.{Node, TypedMethod}
use Rattle.fm_conn.specs.Pairs.{ArePaired, IsPath, Joined, Linking, PairAt}
use Rattle.fm_conn.specs.inner.NodeTables.{class_at, class_in, number_of, table_of}

-- ---- chains of numbers

-- more pairs join at least as much
pub numbers_more : (pairs more : List (ℕ × ℕ)) → ((m n : ℕ) → NumbersPaired pairs m n → NumbersPaired more m n) → (a : ℕ) (path : List ℕ) (b : ℕ) →
    IsNumberPath pairs a path b → IsNumberPath more a path b
numbers_more pairs more among a [] b same = same
numbers_more pairs more among a (next ∷ rest) b (paired, path) = (among a next paired, numbers_more pairs more among next rest b path)

-- ---- from nodes to numbers and back

pub record Lists (linked : Linking) (x : TypedMethod) (pairs : List (ℕ × ℕ)) : Type 0 where
  pub sound : (m n : ℕ) → Contains pairs (m, n) → PairNumbers linked x m n
  pub complete : (j : ℕ) (a b : Node) → PairAt linked x j a b → AreJoined pairs (number_of (table_of x) a) (number_of (table_of x) b)

pair_joined : (linked : Linking) (x : TypedMethod) (pairs : List (ℕ × ℕ)) (a b : Node) → Lists linked x pairs → ArePaired linked x a b →
    AreJoined pairs (number_of (table_of x) a) (number_of (table_of x) b)
pair_joined linked x pairs a b lists (j, inl pair) = lists.complete j a b pair
pair_joined linked x pairs a b lists (j, inr pair) = numbers_back pairs (number_of (table_of x) b) (number_of (table_of x) a) (lists.complete j b a pair)

to_numbers : (linked : Linking) (x : TypedMethod) (pairs : List (ℕ × ℕ)) (a : Node) (path : List Node) (b : Node) → Lists linked x pairs → IsPath linked x a path b →
    AreJoined pairs (number_of (table_of x) a) (number_of (table_of x) b)
to_numbers linked x pairs a [] b lists same = ([], ap (number_of (table_of x)) same)
to_numbers linked x pairs a (next ∷ rest) b lists (paired, path) =
    numbers_then pairs (number_of (table_of x) a) (number_of (table_of x) next) (number_of (table_of x) b)
    (pair_joined linked x pairs a next lists paired) (to_numbers linked x pairs next rest b lists path)

record NodeOf (linked : Linking) (x : TypedMethod) (a : Node) (n : ℕ) : Type 0 where
  node : Node
  is : n ≡ number_of (table_of x) node
  joined : Joined linked x a node

step_back : (linked : Linking) (x : TypedMethod) (pairs : List (ℕ × ℕ)) (a : Node) (n : ℕ) → Lists linked x pairs → NumbersPaired pairs (number_of (table_of x) a) n →
    (node : Node) × (n ≡ number_of (table_of x) node) × ArePaired linked x a node
step_back linked x pairs a n lists (inl there) =
    let t = table_of x in
    let found = lists.sound (number_of t a) n there in
    let same : found.one ≡ a = sym (number_of-same t a found.one found.first.is) in
    (found.other, found.second.is, (found.item, inl (subst (λ v. PairAt linked x found.item v found.other) same found.pair)))
step_back linked x pairs a n lists (inr there) =
    let t = table_of x in
    let found = lists.sound n (number_of t a) there in
    let same : found.other ≡ a = sym (number_of-same t a found.other found.second.is) in
    (found.one, found.first.is, (found.item, inr (subst (λ v. PairAt linked x found.item found.one v) same found.pair)))

from_numbers : (linked : Linking) (x : TypedMethod) (pairs : List (ℕ × ℕ)) (a : Node) (m : ℕ) (path : List ℕ) (n : ℕ) → Lists linked x pairs →
    m ≡ number_of (table_of x) a → IsNumberPath pairs m path n → NodeOf linked x a n
from_numbers linked x pairs a m [] n lists is same = record { node = a; is = sym same ∙ is; joined = ([], refl) }
from_numbers linked x pairs a m (next ∷ rest) n lists is (paired, path) =
    let step = step_back linked x pairs a next lists (subst (λ v. NumbersPaired pairs v next) is paired) in
    let more = from_numbers linked x pairs step.0 next rest n lists step.1 path in
    record { node = more.node; is = more.is; joined = (step.0 ∷ more.joined.0, (step.2, more.joined.1)) }

pub joined_is : (linked : Linking) (x : TypedMethod) (pairs : List (ℕ × ℕ)) (a b : Node) → Lists linked x pairs →
    AreJoined pairs (number_of (table_of x) a) (number_of (table_of x) b) ↔ Joined linked x a b
joined_is linked x pairs a b lists = (
  λ (path, is). let found = from_numbers linked x pairs a (number_of (table_of x) a) path (number_of (table_of x) b) lists refl is in
      subst (λ v. Joined linked x a v) (sym (number_of-same (table_of x) b found.node found.is)) found.joined,
  λ (path, is). to_numbers linked x pairs a path b lists is,
)

-- ---- least numbers

joined_past : (n : ℕ) (pairs : List (ℕ × ℕ)) (a : ℕ) (path : List ℕ) (b : ℕ) → AreNodes n pairs → n ≤ a → IsNumberPath pairs a path b → a ≡ b
joined_past n pairs a [] b nodes past same = same
joined_past n pairs a (next ∷ rest) b nodes past (paired, path) = absurd (let both = paired_below n pairs a next nodes paired in let low = both.0 in omega arith)

class_past : (n : ℕ) (pairs : List (ℕ × ℕ)) (least : List ℕ) (a : ℕ) → AreLeastJoined pairs n least → n ≤ a → class_at least a ≡ a
class_past n pairs least a is past = get_or_past least a a (let size = is.one_each in omega arith)

class_near : (n : ℕ) (pairs : List (ℕ × ℕ)) (least : List ℕ) (a : ℕ) → AreLeastJoined pairs n least → a < n → class_at least a ≡ get_or least a 0
class_near n pairs least a is low = sym (get_or_default least a 0 a (let size = is.one_each in omega arith))

-- the classes of two numbers are the same exactly where these are joined
class_joined : (n : ℕ) (pairs : List (ℕ × ℕ)) (least : List ℕ) (a b : ℕ) → AreLeastJoined pairs n least → a < n → b < n →
    (get_or least a 0 ≡ get_or least b 0) ↔ AreJoined pairs a b
class_joined n pairs least a b is low high =
    let first = is.each a low in
    let second = is.each b high in (
      λ same. numbers_then pairs a (get_or least a 0) b first.joined
          (subst (λ v. AreJoined pairs v b) (sym same) (numbers_back pairs b (get_or least b 0) second.joined)),
      λ joined.
          let up = first.no_less (get_or least b 0) (numbers_then pairs a b (get_or least b 0) joined second.joined) in
          let down = second.no_less (get_or least a 0) (numbers_then pairs b a (get_or least a 0) (numbers_back pairs a b joined) first.joined) in
          omega arith,
    )

class_below : (n : ℕ) (pairs : List (ℕ × ℕ)) (least : List ℕ) (a : ℕ) → AreLeastJoined pairs n least → a < n → get_or least a 0 ≤ a
class_below n pairs least a is low = (is.each a low).no_less a ([], refl)

pub class_same : (n : ℕ) (pairs : List (ℕ × ℕ)) (least : List ℕ) (a b : ℕ) → AreNodes n pairs → AreLeastJoined pairs n least →
    (class_at least a ≡ class_at least b) ↔ AreJoined pairs a b
class_same n pairs least a b nodes is =
    ⊎_elim
    (λ (low : a < n).
    let near = class_near n pairs least a is low in
    let below = class_below n pairs least a is low in
    ⊎_elim
    (λ (high : b < n).
    let other = class_near n pairs least b is high in
    let both = class_joined n pairs least a b is low high in
    (λ same. both.0 (sym near ∙ same ∙ other), λ joined. near ∙ both.1 joined ∙ sym other))
    (λ (past : n ≤ b).
    let other = class_past n pairs least b is past in
    (λ same. absurd (omega arith), λ joined. absurd (let back = numbers_back pairs a b joined in let same = joined_past n pairs b back.0 a nodes past back.1 in omega arith)))
    (cases_lt b n))
    (λ (past : n ≤ a).
    let near = class_past n pairs least a is past in
    ⊎_elim
    (λ (high : b < n).
    let other = class_near n pairs least b is high in
    let below = class_below n pairs least b is high in
    (λ same. absurd (omega arith), λ joined. absurd (let same = joined_past n pairs a joined.0 b nodes past joined.1 in omega arith)))
    (λ (beyond : n ≤ b).
    let other = class_past n pairs least b is beyond in
    (λ same. ([], sym near ∙ same ∙ other), λ joined. near ∙ joined_past n pairs a joined.0 b nodes past joined.1 ∙ sym other))
    (cases_lt b n))
    (cases_lt a n)

-- ---- the classes of nodes

pub classes_same : (linked : Linking) (x : TypedMethod) (pairs : List (ℕ × ℕ)) (n : ℕ) (least : List ℕ) → Lists linked x pairs → AreNodes n pairs →
    AreLeastJoined pairs n least → (a b : Node) → (class_in (table_of x) least a ≡ class_in (table_of x) least b) ↔ Joined linked x a b
unfolding class_in
classes_same linked x pairs n least lists nodes is a b =
    let numbers = class_same n pairs least (number_of (table_of x) a) (number_of (table_of x) b) nodes is in
    let joined = joined_is linked x pairs a b lists in
    (λ same. joined.0 (numbers.0 same), λ path. numbers.1 (joined.1 path))
