-- How rows of the machine's table end before they do anything: an exception of theirs, or a fault.
use Rattle.std.proofs.Common.{ℕ, List, codes}
use Rattle.fm_frames.specs.Effects.{Effect, faulty, stuck}
use Rattle.fm_frames.specs.Operands.{thrown}
use Rattle.fm_world.specs.Programs.{Outline}

-- the exceptions that rows throw by themselves
pub data Raised : Type 0 where
  NullPointer : Raised
  Arithmetic : Raised
  ArrayStore : Raised
  ClassCast : Raised
  NegativeSize : Raised
  IndexOutside : Raised
  TextOutside : Raised
  ClassChange : Raised
  NotCloneable : Raised

-- the names of their classes
abbrev pub name_of : Raised → List ℕ
name_of NullPointer = codes "java/lang/NullPointerException"
name_of Arithmetic = codes "java/lang/ArithmeticException"
name_of ArrayStore = codes "java/lang/ArrayStoreException"
name_of ClassCast = codes "java/lang/ClassCastException"
name_of NegativeSize = codes "java/lang/NegativeArraySizeException"
name_of IndexOutside = codes "java/lang/ArrayIndexOutOfBoundsException"
name_of TextOutside = codes "java/lang/StringIndexOutOfBoundsException"
name_of ClassChange = codes "java/lang/IncompatibleClassChangeError"
name_of NotCloneable = codes "java/lang/CloneNotSupportedException"

-- what holds where a row throws, where an operand is of another sort than each typed program has, and where its cell isn't held
pub record Failures (o : Outline) (A : Effect → Type 0) : Type 0 where
  pub raised : (x : Raised) → A (thrown o (name_of x))
  pub none : A stuck
  pub lost : (operand : ℕ) → A (faulty operand)
