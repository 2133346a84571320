-- Joined nodes: there and back, on and on; and numbers that pairs of joined nodes lead to.
use Rattle.std.proofs.Common.{◌≡◌, ℕ, List, [], ◌∷◌, Contains, refl, sym, ◌∙◌, subst, inl, inr}
use Rattle.fm_base.specs.Graph.{IsPath as IsNumberPath, ArePaired as NumbersPaired}
use Rattle.fm_conn.specs.Nodes.{Node, TypedMethod}
use Rattle.fm_conn.specs.Pairs.{ArePaired, IsPath, Joined, Linking}

-- ---- joined nodes

joined_along : (linked : Linking) (x : TypedMethod) (a : Node) (path : List Node) (b c : Node) → IsPath linked x a path b → Joined linked x b c → Joined linked x a c
joined_along linked x a [] b c same joined = subst (λ v. Joined linked x v c) (sym same) joined
joined_along linked x a (next ∷ rest) b c (paired, path) joined =
    let onward = joined_along linked x next rest b c path joined in (next ∷ onward.0, (paired, onward.1))

pub joined_then : (linked : Linking) (x : TypedMethod) (a b c : Node) → Joined linked x a b → Joined linked x b c → Joined linked x a c
joined_then linked x a b c (path, is) joined = joined_along linked x a path b c is joined

pub joined_one : (linked : Linking) (x : TypedMethod) (a b : Node) → ArePaired linked x a b → Joined linked x a b
joined_one linked x a b paired = (b ∷ [], (paired, refl))

paired_back : (linked : Linking) (x : TypedMethod) (a b : Node) → ArePaired linked x a b → ArePaired linked x b a
paired_back linked x a b (j, inl pair) = (j, inr pair)
paired_back linked x a b (j, inr pair) = (j, inl pair)

back_along : (linked : Linking) (x : TypedMethod) (a : Node) (path : List Node) (b : Node) → IsPath linked x a path b → Joined linked x b a
back_along linked x a [] b same = ([], sym same)
back_along linked x a (next ∷ rest) b (paired, path) =
    joined_then linked x b next a (back_along linked x next rest b path) (joined_one linked x next a (paired_back linked x a next paired))

pub joined_back : (linked : Linking) (x : TypedMethod) (a b : Node) → Joined linked x a b → Joined linked x b a
joined_back linked x a b (path, is) = back_along linked x a path b is

-- ---- numbers

-- two nodes that have these numbers and are joined
pub record NodesOf (linked : Linking) (x : TypedMethod) (class : Node → ℕ) (m n : ℕ) : Type 0 where
  pub one : Node
  pub other : Node
  pub first : m ≡ class one
  pub second : n ≡ class other
  pub joined : Joined linked x one other

nodes_back : (linked : Linking) (x : TypedMethod) (class : Node → ℕ) (m n : ℕ) → NodesOf linked x class m n → NodesOf linked x class n m
nodes_back linked x class m n nodes = record {
  one = nodes.other;
  other = nodes.one;
  first = nodes.second;
  second = nodes.first;
  joined = joined_back linked x nodes.one nodes.other nodes.joined;
}

nodes_of_paired : (linked : Linking) (x : TypedMethod) (class : Node → ℕ) (pairs : List (ℕ × ℕ)) →
    ((m n : ℕ) → Contains pairs (m, n) → NodesOf linked x class m n) → (m n : ℕ) → NumbersPaired pairs m n → NodesOf linked x class m n
nodes_of_paired linked x class pairs each m n (inl pair) = each m n pair
nodes_of_paired linked x class pairs each m n (inr pair) = nodes_back linked x class n m (each n m pair)

-- where equal numbers and the pairs are those of joined nodes, a path of pairs does
pub joined_by_numbers : (linked : Linking) (x : TypedMethod) (class : Node → ℕ) (pairs : List (ℕ × ℕ)) →
    ((a b : Node) → class a ≡ class b → Joined linked x a b) → ((m n : ℕ) → Contains pairs (m, n) → NodesOf linked x class m n) →
    (path : List ℕ) (m n : ℕ) → IsNumberPath pairs m path n → (a b : Node) → m ≡ class a → n ≡ class b → Joined linked x a b
joined_by_numbers linked x class pairs sound each [] m n same a b first second = sound a b (sym first ∙ same ∙ second)
joined_by_numbers linked x class pairs sound each (next ∷ rest) m n (paired, path) a b first second =
    let nodes = nodes_of_paired linked x class pairs each m next paired in
    joined_then linked x a nodes.one b (sound a nodes.one (sym first ∙ nodes.first))
    (joined_then linked x nodes.one nodes.other b nodes.joined
    (joined_by_numbers linked x class pairs sound each rest next n path nodes.other b nodes.second second))
