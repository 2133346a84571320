-- The effect of a step, as plain data: it names values by where they come from, and never a cell.
-- Operands are counted from the top of the stack as it was before the step.
use Rattle.std.specs.Prelude.{ℕ, ℤ, Bool, true, false, List, [], ◌∷◌, Option, None}
use Rattle.fm_base.specs.declared.kinds.Kind.{Kind}
use Rattle.fm_base.specs.declared.kinds.Kind.TheVariants as kind
use Rattle.fm_base.specs.declared.kinds.TypeRef.{TypeRef}
use Rattle.fm_frames.specs.States.{null}
use Rattle.fm_frames.specs.declared.values.Value.{Value}
use Rattle.fm_frames.specs.declared.values.Value.TheVariants as value

-- where a value comes from
pub data Source : Type 0 where
  -- a number, null, or no value
  Plain : Value → Source
  OfOperand : ℕ → Source
  OfLocal : ℕ → Source
  -- the int of a local with a number added
  LocalPlus : ℕ → ℤ → Source
  -- the element at a place of an operand's object, read by its kind
  OfPlace : (operand place : ℕ) → Kind → Source
  OfStatic : ℕ → Source
  -- the objects that the step made, in order
  OfMade : ℕ → Source
  OfLiteral : ℕ → Source
  -- 1 where the two operands on top are the same reference, and else 0
  SameOperands : Source

-- what a step does to the areas that frames share, in order
pub data Action : Type 0 where
  -- an object of `len` elements, which are these; with none named all are 0
  Make : (type : TypeRef) (len : ℕ) (content : List ℕ) → Action
  -- an object without elements that lives for ever: only the opening makes such
  MakeFixed : TypeRef → Action
  -- the object of a literal, unless it is there
  MakeLiteral : ℕ → Action
  Put : (object : Source) (place : ℕ) → Kind → (value : Source) → Action
  SetStatic : ℕ → Kind → Source → Action
  -- a class has started
  Start : ℕ → Action
  -- frees the cell of an operand; sets the chain of one operand's object to another operand; frees the chain that begins at an operand
  Free : ℕ → Action
  SetChain : (operand to : ℕ) → Action
  FreeChain : ℕ → Action
  -- an object of `len` elements, which are those of an operand's object, cut or filled with 0
  Copy : (type : TypeRef) (len operand : ℕ) → Action

-- what comes next
pub data Next : Type 0 where
  -- the next item
  Falls : Next
  -- this one of the targets that the instruction names
  Jumps : ℕ → Next
  -- the first target where it is true (or false) that the two operands on top are the same reference, and else the next item
  JumpsIfSame : Bool → Next
  -- the method that has code; the words that are taken are its arguments
  Calls : ℕ → Next
  -- to the caller, with this many words
  Returns : ℕ → Next
  Throws : Source → Next
  -- these methods start classes, the first of them at once; then the instruction is done again
  Enters : List ℕ → Next
  Exits : ℤ → Next
  -- the cell of the value is met in a way in which it can't be
  Faults : Source → Next

-- Before all else a class may have to be started. Then this many words are taken, the actions are
-- done, the words that are given are put on top, the first of them uppermost, and locals are
-- written; bytes are printed, and a byte of the input is read.
pub record Effect : Type 0 where
  pub starts : Option ℕ
  pub takes : ℕ
  pub actions : List Action
  pub gives : List Source
  pub writes : List (ℕ × Source)
  pub prints : List ℕ
  pub reads : Bool
  pub next : Next

-- ---- effects by their shape

-- words are taken and given
abbrev pub words : ℕ → List Source → Effect
words takes gives =
    record { starts = None; takes = takes; actions = []; gives = gives; writes = []; prints = []; reads = false; next = Falls }

-- the effect that takes and gives nothing and goes on to the next item
abbrev pub nothing : Effect
nothing = words 0 []

-- words are taken, and the actions are done
abbrev pub acting : ℕ → List Action → Effect
acting takes actions = record (words takes []) { actions = actions }

-- words are taken, and the object that is made is given
abbrev pub making : ℕ → Action → Effect
making takes action = record (words takes (OfMade 0 ∷ [])) { actions = action ∷ [] }

-- words are taken, and a literal is given, which is made unless it is there
abbrev pub giving_literal : ℕ → ℕ → Effect
giving_literal takes literal = record (words takes (OfLiteral literal ∷ [])) { actions = MakeLiteral literal ∷ [] }

-- words are taken, and bytes are printed
abbrev pub printing : ℕ → List ℕ → Effect
printing takes bytes = record (words takes []) { prints = bytes }

-- words are taken, and something else than the next item follows
abbrev pub going : ℕ → Next → Effect
going takes next = record (words takes []) { next = next }

-- an operand's cell is met in a way in which it can't be
abbrev pub faulty : ℕ → Effect
faulty operand = going 0 (Faults (OfOperand operand))

-- an operand of another sort than each typed program has
abbrev pub stuck : Effect
stuck = going 0 (Faults (Plain null))

-- ---- the words of values

-- an int is one word
abbrev pub int_word : ℤ → List Source
int_word n = Plain (value.Int n) ∷ []

-- on a stack the second half of a long lies above it
abbrev pub long_words : ℤ → List Source
long_words n = Plain value.Top ∷ Plain (value.Long n) ∷ []

-- the words of a long, or of an int
abbrev pub given_number : (is_long : Bool) → ℤ → List Source
given_number true n = long_words n
given_number false n = int_word n

-- null is one word
abbrev pub null_word : List Source
null_word = Plain null ∷ []

-- the words of a value of the kind
abbrev pub loaded : Kind → Source → List Source
loaded kind.Long source = Plain value.Top ∷ source ∷ []
loaded kind.Boolean source = source ∷ []
loaded kind.Byte source = source ∷ []
loaded kind.Char source = source ∷ []
loaded kind.Short source = source ∷ []
loaded kind.Int source = source ∷ []
loaded (kind.Ref t) source = source ∷ []
