-- What is known of methods so far: shapes by what is linked so far.
use Rattle.std.specs.Prelude.{◌≡◌, ◌↔◌, ◌⊎◌, ◌<◌, ℕ, true, List, [], length, map, sum_by, Some, None, IsSomeAnd, Contains}
use Rattle.std.specs.List.{range_with_len}
use Rattle.fm_code.specs.declared.code_array.Code.{Code}
use Rattle.fm_code.specs.declared.instructions.Insn.{Insn}
use Rattle.fm_world.specs.Members.{method_at, methods_of}
use Rattle.fm_world.specs.Programs.{code_at, method_info, targets, Program}
use Rattle.fm_world.specs.declared.calls.Call.{Call}
use Rattle.fm_world.specs.declared.records.Body.{Body}
use Rattle.fm_world.specs.declared.records.Body.TheVariants as body
use Rattle.fm_conn.specs.Links.{node_of, typed_method, IsNativeLink, Linked, Typings}
use Rattle.fm_conn.specs.Nodes.{Node, TypedMethod}
use Rattle.fm_conn.specs.Pairs.{IsEnd, Joined, Linking}
use Rattle.fm_conn.specs.Shapes.{nothing_linked, IsCallShapeAt, MakesCall}
use Rattle.fm_conn.specs.Summaries.{links}
use Rattle.fm_conn.specs.declared.ends.End2.{End2}
use Rattle.fm_conn.specs.declared.shapes.CallShape.{CallShape}
use Rattle.fm_conn.specs.declared.shapes.Shape.{Shape}
use Rattle.fm_conn.specs.declared.summaries.Summaries.{Summaries}
use Rattle.fm_summ.specs.Exact.{shape_at, AreShapesOf}
use Rattle.fm_summ.specs.inner.BuiltIns.{bare_entries}
use Rattle.fm_summ.specs.inner.Callers.{call_targets}
use Rattle.fm_summ.specs.inner.Passed.{ends_at, renumbered}

-- ---- at first

-- the shape with which a method begins: that of its code, or the ends of a method without code
abbrev pub shape_with : Program → ℕ → Shape → Body → Shape
shape_with p method shape (body.Coded code) = renumbered (λ n. n) shape
shape_with p method shape b = record { ends = bare_entries (method_info p method); calls = [] }

-- the shape with which the method of a number begins
abbrev pub first_shape : Program → ℕ → Shape → Shape
first_shape p method shape = shape_with p method shape (method_info p method).body

-- the shapes with which all methods begin
abbrev pub first_shapes : Program → List Shape → List Shape
first_shapes p shapes = map (λ method. first_shape p method (shape_at shapes method)) (range_with_len 0 (length shapes))

-- ---- what shapes list

-- the summaries that shapes list
abbrev pub summaries_of : List Shape → Summaries
summaries_of shapes = record { methods = map (λ (s : Shape). record { ends = s.ends }) shapes }

-- ---- while methods wait

-- two ends are linked so far
abbrev pub linked_so_far : List Shape → Linking
linked_so_far shapes method a b = links (ends_at shapes method) a b ≡ true

-- the shape of a method that has code, by the numbers of its nodes
pub record Tells (x : TypedMethod) (class : Node → ℕ) (s : Shape) : Type 0 where
  pub ends : (e : End2) (n : ℕ) → Contains s.ends (e, n) ↔ (IsEnd x.program.outline x.number e × (n ≡ class (node_of e)))
  pub calls : (c : CallShape) → Contains s.calls c → (j : ℕ) × IsCallShapeAt x class j c
  pub each_call : (j : ℕ) (insn : Insn) (called : Call) → MakesCall x j insn called
      → (c : CallShape) × (Contains s.calls c × (c.call ≡ called) × IsCallShapeAt x class j c)

-- nodes that the method's own pairs join have one number, and those that have one are joined by what is linked
pub record IsSound (linked : Linking) (x : TypedMethod) (s : Shape) : Type 0 where
  pub class : Node → ℕ
  pub own : (a b : Node) → Joined nothing_linked x a b → class a ≡ class b
  pub sound : (a b : Node) → class a ≡ class b → Joined linked x a b
  pub tells : Tells x class s

-- two ends that a built-in method links
abbrev pub IsBuiltInLink : Program → ℕ → End2 → End2 → Type 0
IsBuiltInLink p method a b = IsSomeAnd (method_at p.outline.classes method).method.row (λ row. IsNativeLink row a b)

-- the shape of a method that has none
pub record IsBare (p : Program) (method : ℕ) (s : Shape) : Type 0 where
  pub calls : s.calls ≡ []
  pub ends : (e : End2) (n : ℕ) → Contains s.ends (e, n) → IsEnd p.outline method e
  pub linked : (a b : End2) → IsEnd p.outline method a → IsEnd p.outline method b → (a ≡ b) ⊎ IsBuiltInLink p method a b → links s.ends a b ≡ true
  pub no_more : (a b : End2) → links s.ends a b ≡ true → (a ≡ b) ⊎ IsBuiltInLink p method a b

-- the shapes of all methods link no more than is linked
pub record AreSound (p : Program) (typings : Typings) (shapes : List Shape) : Type 0 where
  pub one_each : length shapes ≡ length (methods_of p.outline.classes)
  pub coded : (method : ℕ) (code : Code) → code_at p method ≡ Some code
      → IsSound (Linked p typings) (typed_method p typings method code) (shape_at shapes method)
  pub bare : (method : ℕ) → method < length shapes → code_at p method ≡ None → IsBare p method (shape_at shapes method)

-- the nodes at a call of two ends that are linked so far have one number
pub record IsCallClosed (shapes : List Shape) (c : CallShape) (target : ℕ) : Type 0 where
  pub each : (a b : End2) (m n : ℕ) → linked_so_far shapes target a b → Contains c.ends (a, m) → Contains c.ends (b, n) → m ≡ n

-- all calls of a method are done with
abbrev pub IsClosed : Program → List Shape → ℕ → Type 0
IsClosed p shapes method =
    (c : CallShape) (target : ℕ) → Contains (shape_at shapes method).calls c → Contains (targets p c.call) target → IsCallClosed shapes c target

-- each method waits or is done with; the calls are the given ones
pub record Going (p : Program) (given : List Shape) (targets : List (List (List ℕ))) (shapes : List Shape) (queue : List ℕ) : Type 0 where
  pub sound : (typings : Typings) → AreShapesOf p typings given → AreSound p typings shapes
  pub one_each : length shapes ≡ length (methods_of p.outline.classes)
  pub targets_are : targets ≡ map (λ (s : Shape). call_targets p s.calls) shapes
  pub closed : (method : ℕ) → method < length shapes → Contains queue method ⊎ IsClosed p shapes method

-- the numbers of all ends: none rises, and where a method is waited for again, one falls
abbrev pub end_sum : Shape → ℕ
end_sum s = sum_by (λ (e : End2 × ℕ). e.1) s.ends

-- the sum over all shapes
abbrev pub all_ends_sum : List Shape → ℕ
all_ends_sum shapes = sum_by end_sum shapes
