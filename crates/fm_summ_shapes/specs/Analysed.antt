-- What the analysis requires of a program, and the shapes that it returns.
use Rattle.std.specs.Prelude.{◌≡◌, ℕ, List, [], Option, Some, None}
use Rattle.std.specs.List.{AllByRecursion}
use Rattle.fm_check.specs.Checking.{IsLeastTyping}
use Rattle.fm_code.specs.Edges.{HasNoLeftOut}
use Rattle.fm_code.specs.Profile.{IsSupported, IsWithinLimits}
use Rattle.fm_code.specs.Spells.{HasSpelling}
use Rattle.fm_code.specs.declared.class_file.ClassDef.{ClassDef}
use Rattle.fm_code.specs.declared.code_array.Code.{Code}
use Rattle.fm_conn.specs.Links.{Typings}
use Rattle.fm_conn.specs.Shapes.{method_with, HasUsesIn, IsShapeOf}
use Rattle.fm_conn.specs.declared.shapes.Shape.{Shape}
use Rattle.fm_conn.specs.declared.summaries.Summaries.{Summaries}
use Rattle.fm_summ.specs.Exact.{no_shape, AreExact, AreShapesOf, HasBareBuiltIns}
use Rattle.fm_types.specs.States.{TypeState}
use Rattle.fm_check_program.specs.Untyped.{AreCheckable, AreTyped}
use Rattle.fm_world.specs.Linking.{refusals}
use Rattle.fm_world.specs.Programs.{code_at, Program, program_of}

-- ---- programs

-- what reading and linking make sure of, and each method with code is typed
pub record AreAnalysable (p : Program) : Type 0 where
  pub checkable : AreCheckable p
  pub typed : AreTyped p
  pub supported : (method : ℕ) (code : Code) → code_at p method ≡ Some code → HasNoLeftOut code
  pub uses : HasUsesIn p
  pub built_ins : HasBareBuiltIns p

-- a class that some bytes spell is accepted: it is within its limits and supported
pub record IsAccepted (c : ClassDef) : Type 0 where
  pub spelled : HasSpelling c
  pub within : IsWithinLimits c
  pub supported : IsSupported c

-- the program of accepted class files that link, if its methods are typed, is one of those
abbrev pub AcceptedAreAnalysable : Type 0
AcceptedAreAnalysable =
    (given : List ClassDef) (main : List ℕ) → AllByRecursion IsAccepted given → refusals given main ≡ []
    → AreTyped (program_of given main) → AreAnalysable (program_of given main)

-- ---- shapes

-- the shape of the method with this code by a least typing
pub record IsLeastShapeOf (p : Program) (method : ℕ) (code : Code) (shape : Shape) : Type 0 where
  pub states : List (Option TypeState)
  pub least : IsLeastTyping p method states
  pub shape_is : IsShapeOf (method_with p method code states) shape

-- the same of a method that may have code, and else an empty one
abbrev pub IsLeastShapeIn : Program → ℕ → Option Code → Shape → Type 0
IsLeastShapeIn p method None shape = shape ≡ no_shape
IsLeastShapeIn p method (Some code) shape = IsLeastShapeOf p method code shape

-- of a method by its number
abbrev pub IsLeastShape : Program → ℕ → Shape → Type 0
IsLeastShape p method shape = IsLeastShapeIn p method (code_at p method) shape

-- the states of each method with code are a least typing of it
abbrev pub AreLeastTypings : Program → Typings → Type 0
AreLeastTypings p typings = (method : ℕ) (code : Code) → code_at p method ≡ Some code → IsLeastTyping p method (typings method)

-- the shapes of all methods, by least typings
pub record AreLeastShapes (p : Program) (shapes : List Shape) : Type 0 where
  pub typings : Typings
  pub least : AreLeastTypings p typings
  pub are : AreShapesOf p typings shapes

-- ---- two least typings

-- shapes by the one are shapes by the other
abbrev pub LeastTypingsMakeOneShape : Type 0
LeastTypingsMakeOneShape =
    (p : Program) (typings others : Typings) → AreLeastTypings p typings → AreLeastTypings p others
    → (shapes : List Shape) → AreShapesOf p typings shapes → AreShapesOf p others shapes

-- and summaries that are exact by the one typing are exact by the other
abbrev pub LeastTypingsLinkAlike : Type 0
LeastTypingsLinkAlike =
    (p : Program) (typings others : Typings) → AreLeastTypings p typings → AreLeastTypings p others
    → (s : Summaries) → AreExact p typings s → AreExact p others s
