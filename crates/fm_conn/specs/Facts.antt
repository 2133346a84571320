-- What is known of a program's methods, as tables: nothing is decided here, and the tables are exact.
use Rattle.std.specs.Prelude.{◌≡◌, ◌↔◌, ℕ, Bool, true, List, Option, Some}
use Rattle.fm_code.specs.Live.{Live}
use Rattle.fm_code.specs.declared.code_array.Code.{Code}
use Rattle.fm_types.specs.States.{TypeState}
use Rattle.fm_types.specs.Typed.{IsTypingOf}
use Rattle.fm_world.specs.Programs.{code_at, Program}
use Rattle.fm_conn.specs.Links.{Linked, typed_method}
use Rattle.fm_conn.specs.Nodes.{Node}
use Rattle.fm_conn.specs.Pairs.{IsEnd, Joined}
use Rattle.fm_conn.specs.declared.ends.End2.{End2}

-- by the numbers of methods: the states of items; which ends are linked; whether a local is live at an item; and a number for each node
pub record Facts : Type 0 where
  pub typing : ℕ → List (Option TypeState)
  pub linked : ℕ → End2 → End2 → Bool
  pub live : (method local item : ℕ) → Bool
  pub class : ℕ → Node → ℕ

-- of a method that has code: the states are a typing, the liveness is that by paths, and two nodes have one number exactly where they are joined
pub record AreFactsOf (p : Program) (facts : Facts) (method : ℕ) (code : Code) : Type 0 where
  pub typing : IsTypingOf p method code (facts.typing method)
  pub live : (local item : ℕ) → (facts.live method local item ≡ true) ↔ Live code local item
  pub class : (a b : Node) →
      (facts.class method a ≡ facts.class method b) ↔ Joined (Linked p facts.typing) (typed_method p facts.typing method code) a b

-- of all methods: which ends are linked, and of those that have code what their items, locals and nodes are
pub record AreFacts (p : Program) (facts : Facts) : Type 0 where
  pub linked : (method : ℕ) (a b : End2) → IsEnd p.outline method a → IsEnd p.outline method b →
      (facts.linked method a b ≡ true) ↔ Linked p facts.typing method a b
  pub methods : (method : ℕ) (code : Code) → code_at p method ≡ Some code → AreFactsOf p facts method code
