-- What follows of facts that are exact: pairs have one number, and ends that have one are linked; that classes by exact summaries are those of
-- facts; and what is known of the types of programs.
use Rattle.std.specs.Prelude.{◌≡◌, ◌↔◌, ℕ, true, List, Some, slice_get}
use Rattle.fm_base.specs.declared.kinds.TypeRef.{TypeRef}
use Rattle.fm_code.specs.declared.class_file.ClassDef.{ClassDef}
use Rattle.fm_code.specs.declared.code_array.Code.{Code}
use Rattle.fm_world.specs.Programs.{code_at, IsTypeIn, Program, program_of}
use Rattle.fm_conn.specs.Classes.{class_of, AreClassesOf}
use Rattle.fm_conn.specs.Facts.{AreFacts, Facts}
use Rattle.fm_conn.specs.Links.{node_of, typed_method, Linked, Typings}
use Rattle.fm_conn.specs.Nodes.{Node}
use Rattle.fm_conn.specs.Pairs.{IsEnd, Joined, Linking, PairAt}
use Rattle.fm_conn.specs.Summaries.{linked_by}
use Rattle.fm_conn.specs.declared.class_numbers.Classes.{Classes}
use Rattle.fm_conn.specs.declared.ends.End2.{End2}
use Rattle.fm_conn.specs.declared.summaries.Summaries.{Summaries}

-- the links that facts list
abbrev pub links_of : Facts → Linking
links_of facts method a b = facts.linked method a b ≡ true

-- two nodes that an item pairs have one number; at a call these are the nodes of two linked ends of
-- a method that may be called
abbrev pub PairsHaveOneClass : Type 0
PairsHaveOneClass =
    (p : Program) (facts : Facts) → AreFacts p facts → (method : ℕ) (code : Code) → code_at p method ≡ Some code → (j : ℕ) (a b : Node)
    → PairAt (links_of facts) (typed_method p facts.typing method code) j a b → facts.class method a ≡ facts.class method b

-- two ends of a method whose nodes have one number are linked
abbrev pub EndsOfOneClassAreLinked : Type 0
EndsOfOneClassAreLinked =
    (p : Program) (facts : Facts) → AreFacts p facts → (method : ℕ) (code : Code) → code_at p method ≡ Some code → (a b : End2)
    → IsEnd p.outline method a → IsEnd p.outline method b → facts.class method (node_of a) ≡ facts.class method (node_of b)
    → facts.linked method a b ≡ true

-- ---- classes by summaries

-- the summaries link two ends of a method exactly where they are linked
pub record TellLinks (p : Program) (typings : Typings) (s : Summaries) : Type 0 where
  pub all : (method : ℕ) (a b : End2) → IsEnd p.outline method a → IsEnd p.outline method b → Linked p typings method a b → linked_by s method a b
  pub no_more : (method : ℕ) (a b : End2) → linked_by s method a b → Linked p typings method a b

-- then the classes by the summaries are those by the links, as facts have them
abbrev pub ClassesAreByLinks : Type 0
ClassesAreByLinks =
    (p : Program) (typings : Typings) (s : Summaries) → TellLinks p typings s → (method : ℕ) (code : Code) (c : Classes)
    → AreClassesOf (linked_by s) (typed_method p typings method code) c → (a b : Node)
    → (class_of c a ≡ class_of c b) ↔ Joined (Linked p typings) (typed_method p typings method code) a b

-- ---- programs

-- the classes of all types of a program of class files are there
abbrev pub TypesAreIn : Type 0
TypesAreIn =
    (given : List ClassDef) (main : List ℕ) (number : ℕ) (t : TypeRef) → slice_get (program_of given main).outline.types number ≡ Some t
    → IsTypeIn (program_of given main).outline.classes t
