-- The shape of a method: the classes that its own instructions make, at its ends and at its calls.
use Rattle.std.specs.Prelude.{◌≡◌, ◌↔◌, ℕ, List, Option, Some, IsSomeAnd, Contains, slice_get}
use Rattle.fm_base.specs.declared.kinds.TypeRef.{TypeRef}
use Rattle.fm_code.specs.Edges.{insn_of}
use Rattle.fm_code.specs.declared.code_array.Code.{Code}
use Rattle.fm_code.specs.declared.instructions.Insn.{Insn}
use Rattle.fm_flow.specs.Flow.{IsFlowOf}
use Rattle.fm_flow.specs.declared.flow.Flow.{Flow}
use Rattle.fm_types.specs.States.{TypeState}
use Rattle.fm_types.specs.Named.{NamesMember}
use Rattle.fm_world.specs.Programs.{code_at, IsTypeIn, Program, use_of}
use Rattle.fm_world.specs.declared.calls.Call.{Call}
use Rattle.fm_world.specs.declared.records.Body.{Body}
use Rattle.fm_world.specs.declared.records.Body.TheVariants as body
use Rattle.fm_conn.specs.Links.{node_of}
use Rattle.fm_conn.specs.Nodes.{IsNode, Node, TypedMethod}
use Rattle.fm_conn.specs.Pairs.{call_of, IsEnd, Joined, Linking, StandsFor}
use Rattle.fm_conn.specs.declared.ends.End2.{End2}
use Rattle.fm_conn.specs.declared.shapes.CallShape.{CallShape}
use Rattle.fm_conn.specs.declared.shapes.Shape.{Shape}

-- ---- which methods are asked

-- a method by its number and its code, with these states
abbrev pub method_with : Program → ℕ → Code → List (Option TypeState) → TypedMethod
method_with p method code states = record { program = p; number = method; code = code; states = states }

-- the flow is that of the method's code
abbrev pub IsFlowAt : Program → ℕ → Flow → Type 0
IsFlowAt p method flow = IsSomeAnd (code_at p method) (λ code. IsFlowOf code flow)

-- the method has code
abbrev pub IsCoded : Body → Type 0
IsCoded (body.Coded code) = Unit {0}
IsCoded b = ⊥

-- linking makes sure that uses name members that are there, and types whose classes are there
pub record HasUsesIn (p : Program) : Type 0 where
  pub members : (class index : ℕ) → NamesMember p.outline (use_of p class index)
  pub types : (number : ℕ) (t : TypeRef) → slice_get p.outline.types number ≡ Some t → IsTypeIn p.outline.classes t

-- ---- shapes

-- no ends are linked: so no call pairs anything
abbrev pub nothing_linked : Linking
nothing_linked method a b = ⊥

-- the item can be reached
abbrev pub IsReached : TypedMethod → ℕ → Type 0
IsReached x j = IsSomeAnd (slice_get x.states j) (λ s. IsSomeAnd s (λ _. Unit {0}))

-- item j makes this call
pub record MakesCall (x : TypedMethod) (j : ℕ) (insn : Insn) (called : Call) : Type 0 where
  pub is : insn_of x.code j ≡ Some insn
  pub reached : IsReached x j
  pub calls : call_of x insn ≡ Some called

-- the node of an end of the methods that are called has this number
pub record HasStandIn (x : TypedMethod) (class : Node → ℕ) (j : ℕ) (insn : Insn) (e : End2) (number : ℕ) : Type 0 where
  pub node : Node
  pub stands : StandsFor x j insn e node
  pub is_node : IsNode x node
  pub is : number ≡ class node

-- the call of item j, with the numbers of the nodes of all ends there
pub record IsCallShapeAt (x : TypedMethod) (class : Node → ℕ) (j : ℕ) (shape : CallShape) : Type 0 where
  pub insn : Insn
  pub makes : MakesCall x j insn shape.call
  pub ends : (e : End2) (number : ℕ) → Contains shape.ends (e, number) ↔ HasStandIn x class j insn e number

-- nodes have one number where the method's own pairs join them; the method's ends have the numbers
-- of their nodes; and each call is listed
pub record IsShapeOf (x : TypedMethod) (shape : Shape) : Type 0 where
  pub class : Node → ℕ
  pub same : (a b : Node) → (class a ≡ class b) ↔ Joined nothing_linked x a b
  pub ends : (e : End2) (number : ℕ) → Contains shape.ends (e, number) ↔ (IsEnd x.program.outline x.number e × (number ≡ class (node_of e)))
  pub calls : (s : CallShape) → Contains shape.calls s → (j : ℕ) × IsCallShapeAt x class j s
  pub each_call : (j : ℕ) (insn : Insn) (called : Call) → MakesCall x j insn called
      → (s : CallShape) × (Contains shape.calls s × (s.call ≡ called) × IsCallShapeAt x class j s)
