-- Which nodes of a method are paired at an item, and which are joined by chains of pairs.
use Rattle.std.specs.Prelude.{◌≡◌, ℕ, ◌+◌, ◌-◌, ◌<◌, ◌⊎◌, true, List, [], ◌∷◌, Option, Some, None, option_map, IsSomeAnd, Contains, slice_get}
use Rattle.fm_code.specs.Edges.{insn_of, IsHandlerEdge, IsNormalEdge}
use Rattle.fm_code.specs.declared.instructions.Insn.{Insn}
use Rattle.fm_code.specs.declared.instructions.Insn.TheVariants as insn
use Rattle.fm_types.specs.Named.{class_of_method, result_of}
use Rattle.fm_types.specs.States.{is_reference}
use Rattle.fm_types.specs.Typed.{entry_slots, use_by}
use Rattle.fm_world.specs.Programs.{class_id, Outline, targets}
use Rattle.fm_world.specs.declared.calls.Call.{Call}
use Rattle.fm_world.specs.declared.calls.CallKind.{CallKind}
use Rattle.fm_world.specs.declared.calls.CallKind.TheVariants as call
use Rattle.fm_world.specs.declared.uses.Use.{Use}
use Rattle.fm_world.specs.declared.uses.Use.TheVariants as resolved
use Rattle.fm_conn.specs.Nodes.{Node, Local, Slot, Return, Global, IsNode, TypedMethod, depth_at}
use Rattle.fm_conn.specs.Rows.{is_reference_kind, joined_by, RowPlace, Taken, Given, InLocal, AsResult, Outside, words_taken}
use Rattle.fm_conn.specs.declared.ends.End2.{End2}
use Rattle.fm_conn.specs.declared.ends.End2.TheVariants as end

-- ---- the item

-- what the index of an instruction refers to in the method's class
abbrev pub use_at : TypedMethod → Insn → Use
use_at x i = use_by x.program x.number i

-- the words below those that the item takes
abbrev pub depth_below : TypedMethod → ℕ → Insn → ℕ
depth_below x j i = depth_at x j - words_taken x.program.outline (use_at x i) i

-- the node at a place of the item: what is given is on the stack of each item that follows, where
-- nothing was thrown
abbrev pub StandsAt : TypedMethod → ℕ → Insn → RowPlace → Node → Type 0
StandsAt x j i (Taken n) node = node ≡ Slot j (depth_at x j - 1 - n)
StandsAt x j i (Given n) node = (next : ℕ) × (IsNormalEdge x.code j next × (node ≡ Slot next (depth_below x j i + n)))
StandsAt x j i (InLocal k) node = node ≡ Local k
StandsAt x j i AsResult node = node ≡ Return
StandsAt x j i Outside node = node ≡ Global

-- ---- calls

-- the call of a kind that a use makes, where it names a method and a type that is there
abbrev pub call_with : TypedMethod → CallKind → Use → Option Call
call_with x k (resolved.OfMethod m t) =
    option_map
    (λ named. record { kind = k; named = named; method = m; caller = class_id (class_of_method x.program.outline x.number) })
    (slice_get x.program.outline.types t.0)
call_with x k u = None

-- the call that an instruction makes, if it is one
abbrev pub call_of : TypedMethod → Insn → Option Call
call_of x i = by_insn i where
  by_insn : Insn → Option Call
  by_insn (insn.Virtual index) = call_with x call.Virtual (use_at x i)
  by_insn (insn.Interface index) = call_with x call.Interface (use_at x i)
  by_insn (insn.Special index) = call_with x call.Special (use_at x i)
  by_insn (insn.Static index) = call_with x call.Static (use_at x i)
  by_insn other = None

-- the ends of a method: its parameters that are references, its result if it is one, and Global
abbrev pub IsEnd : Outline → ℕ → End2 → Type 0
IsEnd o method (end.Parameter k) = IsSomeAnd (slice_get (entry_slots o method) k) (λ s. is_reference s ≡ true)
IsEnd o method end.Return = IsSomeAnd (result_of o method) (λ k. is_reference_kind k ≡ true)
IsEnd o method end.Global = Unit {0}

-- the node of an end of the method that is called: the words of the arguments in the order of its
-- locals, what is given, and Global
abbrev pub StandsFor : TypedMethod → ℕ → Insn → End2 → Node → Type 0
StandsFor x j i (end.Parameter k) node = node ≡ Slot j (depth_below x j i + k)
StandsFor x j i end.Return node = StandsAt x j i (Given 0) node
StandsFor x j i end.Global node = node ≡ Global

-- ---- pairs

-- which ends of which method are linked
abbrev pub Linking : Type 1
Linking = ℕ → End2 → End2 → Type 0

-- a word that isn't taken is the same one at each item that follows
pub record StaysAt (x : TypedMethod) (j : ℕ) (i : Insn) (a b : Node) : Type 0 where
  pub depth : ℕ
  pub next : ℕ
  pub below : depth < depth_below x j i
  pub edge : IsNormalEdge x.code j next
  pub before : a ≡ Slot j depth
  pub after : b ≡ Slot next depth

-- two places that the instruction joins
pub record JoinedAt (x : TypedMethod) (j : ℕ) (i : Insn) (a b : Node) : Type 0 where
  pub one : RowPlace
  pub other : RowPlace
  pub row : Contains (joined_by x.program.outline (use_at x i) i) (one, other)
  pub first : StandsAt x j i one a
  pub second : StandsAt x j i other b

-- the nodes of two ends that are linked by a method which may be called
pub record CalledAt (linked : Linking) (x : TypedMethod) (j : ℕ) (i : Insn) (a b : Node) : Type 0 where
  pub called : Call
  pub is : call_of x i ≡ Some called
  pub target : ℕ
  pub among : Contains (targets x.program called) target
  pub one : End2
  pub other : End2
  pub first_end : IsEnd x.program.outline target one
  pub second_end : IsEnd x.program.outline target other
  pub links : linked target one other
  pub first : StandsFor x j i one a
  pub second : StandsFor x j i other b

-- what is caught came from outside
pub record CaughtAt (x : TypedMethod) (j : ℕ) (a b : Node) : Type 0 where
  pub handler : ℕ
  pub edge : IsHandlerEdge x.code j handler
  pub before : a ≡ Slot handler 0
  pub after : b ≡ Global

-- two nodes that an item which can be reached pairs
pub record PairAt (linked : Linking) (x : TypedMethod) (j : ℕ) (a b : Node) : Type 0 where
  pub insn : Insn
  pub is : insn_of x.code j ≡ Some insn
  pub reachable : IsSomeAnd (slice_get x.states j) (λ s. IsSomeAnd s (λ _. Unit {0}))
  pub first : IsNode x a
  pub second : IsNode x b
  pub paired : StaysAt x j insn a b ⊎ JoinedAt x j insn a b ⊎ CalledAt linked x j insn a b ⊎ CaughtAt x j a b

-- ---- joined nodes

-- some item pairs the two, in one order or the other
abbrev pub ArePaired : Linking → TypedMethod → Node → Node → Type 0
ArePaired linked x a b = (j : ℕ) × (PairAt linked x j a b ⊎ PairAt linked x j b a)

-- the nodes lead from one end to the other, each paired with the next
abbrev pub IsPath : Linking → TypedMethod → Node → List Node → Node → Type 0
IsPath linked x a [] b = a ≡ b
IsPath linked x a (next ∷ rest) b = ArePaired linked x a next × IsPath linked x next rest b

-- some path leads from one to the other
abbrev pub Joined : Linking → TypedMethod → Node → Node → Type 0
Joined linked x a b = (path : List Node) × IsPath linked x a path b
