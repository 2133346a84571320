-- Nodes that an item pairs have one number; and two ends of a method whose nodes have one number are linked.
use Rattle.std.proofs.Common.{◌≡◌, ℕ, [], ◌∷◌, Some, refl, inl}
use Rattle.fm_code.specs.declared.code_array.Code.{Code}
use Rattle.fm_conn.proofs.LinkLemmas.{ends_linked}
use Rattle.fm_conn.specs.Facts.{AreFacts, Facts}
use Rattle.fm_conn.specs.Links.{Linked, node_of, typed_method}
use Rattle.fm_conn.specs.Nodes.{Node}
use Rattle.fm_conn.specs.Pairs.{PairAt}
use Rattle.fm_conn.specs.declared.ends.End2.{End2}
use Rattle.fm_world.specs.Programs.{code_at, Program}

pub linked_if_same_class : (p : Program) (facts : Facts) → AreFacts p facts → (method : ℕ) (code : Code) (a b : End2) → code_at p method ≡ Some code
    → facts.class method (node_of a) ≡ facts.class method (node_of b) → Linked p facts.typing method a b
linked_if_same_class p facts exact method code a b is same =
    ends_linked p facts.typing method code a b is (((exact.methods method code is).class (node_of a) (node_of b)).0 same)

pub same_class_if_paired : (p : Program) (facts : Facts) → AreFacts p facts → (method : ℕ) (code : Code) → code_at p method ≡ Some code
    → (j : ℕ) (a b : Node) → PairAt (Linked p facts.typing) (typed_method p facts.typing method code) j a b
    → facts.class method a ≡ facts.class method b
same_class_if_paired p facts exact method code is j a b pair =
    ((exact.methods method code is).class a b).1 (b ∷ [], ((j, inl pair), refl))
