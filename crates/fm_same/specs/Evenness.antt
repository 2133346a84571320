-- What an effect owes to the classes of nodes, so that colours are kept: values go from one node to another of the same class, and the objects that a step
-- makes have one home. It follows from the pairs of the item, row by row.
use Rattle.std.specs.Prelude.{◌≡◌, ℕ, ◌+◌, ◌-◌, ◌<◌, ◌==◌, ◌⊎◌, Bool, true, false, List, [], length, codes, Option, Some, Contains, slice_get}
use Rattle.std.specs.List.{AllByRecursion, list_any}
use Rattle.fm_base.specs.declared.kinds.Kind.{Kind}
use Rattle.fm_base.specs.declared.kinds.Kind.TheVariants as kind
use Rattle.fm_base.specs.declared.kinds.TypeRef.{TypeRef}
use Rattle.fm_cells.specs.Objects.{Object}
use Rattle.fm_code.specs.Edges.{falls_through, IsNormalEdge}
use Rattle.fm_code.specs.SpellsCode.{targets_of}
use Rattle.fm_code.specs.Live.{stores_over}
use Rattle.fm_code.specs.declared.instructions.Insn.{Insn}
use Rattle.fm_conn.specs.Nodes.{Node, Local, Slot, Return, Global, IsNode, TypedMethod}
use Rattle.fm_conn.specs.Pairs.{call_of, IsEnd}
use Rattle.fm_conn.specs.declared.ends.End2.TheVariants as end
use Rattle.fm_types.specs.Named.{built_in_type}
use Rattle.fm_world.specs.Members.{field_at}
use Rattle.fm_world.specs.Numbers.{type_of_class}
use Rattle.fm_world.specs.Programs.{Outline, targets}
use Rattle.fm_world.specs.declared.calls.Call.{Call}
use Rattle.fm_world.specs.declared.declarations.Constant.{Constant}
use Rattle.fm_world.specs.declared.declarations.Constant.TheVariants as constant
use Rattle.fm_frames.specs.ObjectRows.{kind_of_field}
use Rattle.fm_frames.specs.Effects.{Action, Make, MakeFixed, MakeLiteral, Put, SetStatic, Start, Free, SetChain, FreeChain, Copy, Effect, Next, Falls, Jumps, JumpsIfSame, Calls, Returns, Throws, Enters, Source, Plain, OfOperand, OfLocal, LocalPlus, OfPlace, OfStatic, OfMade, OfLiteral, SameOperands}
use Rattle.fm_frames.specs.Acts.{requested}
use Rattle.fm_frames.specs.NativeRows.{class_type, text_type}
use Rattle.fm_frames.specs.Sights.{type_numbered}
use Rattle.fm_frames.specs.Steps.{is_start}
use Rattle.fm_frames.specs.declared.values.Value.TheVariants as value
use Rattle.fm_law_sound.specs.Placing.{IsPlain, kind_in}
use Rattle.fm_law_sound.specs.Going.{IsGoingOn}

-- ---- where values come from

-- an item of a method whose stack has this many words, with the numbers of nodes and the locals
-- that are live
pub record Point : Type 0 where
  pub method : TypedMethod
  pub item : ℕ
  pub depth : ℕ
  pub class : Node → ℕ
  pub live : (local item : ℕ) → Bool

-- a word of the stack, counted from its top
abbrev pub word : Point → ℕ → Node
word x n = Slot x.item (x.depth - 1 - n)

-- what the value leads to is of the class: numbers, null and literals are of each
abbrev pub ComesFrom : Point → (home class : ℕ) → Source → Type 0
ComesFrom x home class (Plain v) = IsPlain v
ComesFrom x home class (OfOperand n) = IsNode x.method (word x n) → x.class (word x n) ≡ class
ComesFrom x home class (OfLocal k) = (x.live k x.item ≡ true) × (x.class (Local k) ≡ class)
ComesFrom x home class (LocalPlus k by) = Unit {0}
ComesFrom x home class (OfPlace n place (kind.Ref t)) = IsNode x.method (word x n) → x.class (word x n) ≡ class
ComesFrom x home class (OfPlace n place other) = Unit {0}
ComesFrom x home class (OfStatic slot) = x.class Global ≡ class
ComesFrom x home class (OfMade n) = home ≡ class
ComesFrom x home class (OfLiteral text) = Unit {0}
ComesFrom x home class SameOperands = Unit {0}

-- the same of what is written into a local
abbrev pub WritesFrom : Point → (class : ℕ) → Source → Type 0
WritesFrom x class (Plain v) = IsPlain v
WritesFrom x class (OfOperand n) = IsNode x.method (word x n) → x.class (word x n) ≡ class
WritesFrom x class (LocalPlus k by) = Unit {0}
WritesFrom x class other = ⊥

-- a value that may be put where a reference is wanted: it is one
abbrev pub LeadsOn : Point → Source → Type 0
LeadsOn x (Plain v) = v ≡ value.Ref (record { 0 = 0 })
LeadsOn x (OfOperand n) = IsNode x.method (word x n) × (n < x.depth)
LeadsOn x (OfMade n) = Unit {0}
LeadsOn x (OfLiteral text) = Unit {0}
LeadsOn x (OfLocal k) = ⊥
LeadsOn x (LocalPlus k by) = ⊥
LeadsOn x (OfPlace n place kind) = ⊥
LeadsOn x (OfStatic slot) = ⊥
LeadsOn x SameOperands = ⊥

-- ---- actions

-- of a kind that isn't a reference
abbrev pub IsPlainKind : Kind → Type 0
IsPlainKind (kind.Ref t) = ⊥
IsPlainKind other = Unit {0}

-- an operand, or what the step made
abbrev pub IsObjectSource : Source → Type 0
IsObjectSource (OfOperand n) = Unit {0}
IsObjectSource (OfMade n) = Unit {0}
IsObjectSource other = ⊥

-- only an operand
abbrev pub IsOperand : Source → Type 0
IsOperand (OfOperand n) = Unit {0}
IsOperand other = ⊥

-- a reference is put into an object of its class; a number into an operand's
abbrev pub PutsEvenly : Point → ℕ → Source → Source → Kind → Type 0
PutsEvenly x home object v (kind.Ref t) =
    (class : ℕ) × IsObjectSource object × ComesFrom x home class object × ComesFrom x home class v × LeadsOn x v
PutsEvenly x home object v other = IsOperand object

-- a reference in a static field is of Global's class
abbrev pub SetsEvenly : Point → ℕ → Source → Kind → Type 0
SetsEvenly x home v (kind.Ref t) = ComesFrom x home (x.class Global) v × LeadsOn x v
SetsEvenly x home v other = Unit {0}

-- what has content is a text, or is copied of an object of its connectivity class; nothing is freed or chained
abbrev pub ActsEvenly : Outline → Point → ℕ → Action → Type 0
ActsEvenly o x home (Make t len content) = (content ≡ []) ⊎ (t ≡ text_type o)
ActsEvenly o x home (MakeFixed t) = ⊥
ActsEvenly o x home (MakeLiteral text) = Unit {0}
ActsEvenly o x home (Put object place kind v) = PutsEvenly x home object v kind
ActsEvenly o x home (SetStatic slot kind v) = SetsEvenly x home v kind
ActsEvenly o x home (Start class) = Unit {0}
ActsEvenly o x home (Free operand) = ⊥
ActsEvenly o x home (SetChain operand to) = ⊥
ActsEvenly o x home (FreeChain operand) = ⊥
ActsEvenly o x home (Copy t len operand) = ComesFrom x home home (OfOperand operand)

-- ---- the frame that goes on

-- whether a local is written
abbrev pub is_written : ℕ → List (ℕ × Source) → Bool
is_written k writes = list_any (λ (w : ℕ × Source). w.0 == k) writes

-- how deep the stack is then
abbrev pub depth_after : Point → Effect → ℕ
depth_after x e = length e.gives + (x.depth - e.takes)

-- a word that is given, at the item that follows
abbrev pub given : Point → Effect → ℕ → ℕ → Node
given x e next q = Slot next (depth_after x e - 1 - q)

-- where control goes on at an item: words that stay, words that are given and locals that are written keep their classes, and what is live there was live
-- before or is written
pub record GoesOn (x : Point) (home : ℕ) (e : Effect) (next : ℕ) : Type 0 where
  pub stays : (depth : ℕ) → depth + e.takes < x.depth → IsNode x.method (Slot x.item depth) → IsNode x.method (Slot next depth)
      → x.class (Slot x.item depth) ≡ x.class (Slot next depth)
  pub gives : (q : ℕ) (s : Source) → slice_get e.gives q ≡ Some s → IsNode x.method (given x e next q)
      → ComesFrom x home (x.class (given x e next q)) s
  pub writes : AllByRecursion (λ (w : ℕ × Source). WritesFrom x (x.class (Local w.0)) w.1) e.writes
  pub lives : (k : ℕ) → x.live k next ≡ true → is_written k e.writes ≡ false → x.live k x.item ≡ true

-- to the item after it, or to a target that the instruction has
abbrev pub LeadsRight : Insn → Next → Type 0
LeadsRight i Falls = falls_through i ≡ true
LeadsRight i (Jumps n) = n < length (targets_of i)
LeadsRight i (JumpsIfSame same) = (0 < length (targets_of i)) × (falls_through i ≡ true)
LeadsRight i other = Unit {0}

-- ---- the frame that ends

-- a result that is a reference is of the result's class, and what is thrown of Global's; what throws stores over no local; and a method that is called
-- is among the targets of the call, and one that is entered starts a class
abbrev pub EndsEvenly : Outline → Point → ℕ → Insn → Next → Type 0
EndsEvenly o x home i (Returns words) =
    (q : ℕ) → q < words → IsNode x.method (word x q)
    → (x.class (word x q) ≡ x.class Return) × IsEnd o x.method.number end.Return × (words ≡ 1)
EndsEvenly o x home i (Calls m) = (call : Call) → call_of x.method i ≡ Some call → Contains (targets x.method.program call) m
EndsEvenly o x home i (Enters methods) = AllByRecursion (λ m. is_start o m ≡ true) methods
EndsEvenly o x home i (Throws s) = IsObjectSource s × ComesFrom x home (x.class Global) s × ((k : ℕ) → stores_over k i ≡ false)
EndsEvenly o x home i other = Unit {0}

-- ---- the whole effect

-- by one home: its actions, where control goes on, and how the frame ends
pub record Obeys (o : Outline) (x : Point) (i : Insn) (e : Effect) : Type 0 where
  pub home : ℕ
  pub acts : AllByRecursion (ActsEvenly o x home) e.actions
  pub leads : LeadsRight i e.next
  pub goes : (next : ℕ) → IsGoingOn e.next → IsNormalEdge x.method.code x.item next → GoesOn x home e next
  pub ends : EndsEvenly o x home i e.next

-- ---- what linking makes sure of

-- a constant that is a number
abbrev pub IsNumber : Option Constant → Type 0
IsNumber (Some (constant.Int n)) = Unit {0}
IsNumber (Some (constant.Long n)) = Unit {0}
IsNumber other = ⊥

-- objects of the type have no place for references
abbrev pub HasNoEdge : Outline → TypeRef → Type 0
HasNoEdge o t =
    (object : Object) (len : ℕ) (fixed : Bool) → object.class ≡ (requested o t len fixed).class
    → (place : ℕ) (u : TypeRef) → kind_in o object place ≡ Some (kind.Ref u) → ⊥

-- texts, class literals and streams have no place for references, a number is the constant of a field of numbers, and the first type is that of Object
pub record HoldsNumbers (o : Outline) : Type 0 where
  pub texts : HasNoEdge o (text_type o)
  pub class_literals : HasNoEdge o (class_type o)
  pub output : HasNoEdge o (built_in_type o (codes "java/io/PrintStream"))
  pub input : HasNoEdge o (built_in_type o (codes "java/io/InputStream"))
  pub constants : (field : ℕ) → IsNumber (field_at o.classes field).field.value → IsPlainKind (kind_of_field o field)
  pub first : type_numbered o 0 ≡ type_of_class 0
