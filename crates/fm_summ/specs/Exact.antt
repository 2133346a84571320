-- What is required of shapes, and what makes summaries exact.
use Rattle.std.specs.Prelude.{◌≡◌, ℕ, List, [], length, Some, None}
use Rattle.std.specs.List.{slice_index_or}
use Rattle.fm_code.specs.declared.code_array.Code.{Code}
use Rattle.fm_world.specs.Members.{method_at, methods_of}
use Rattle.fm_world.specs.Programs.{code_at, Program}
use Rattle.fm_conn.specs.Links.{typed_method, Typings}
use Rattle.fm_conn.specs.Laws.{TellLinks}
use Rattle.fm_conn.specs.Shapes.{IsShapeOf}
use Rattle.fm_conn.specs.Summaries.{AreSummariesOf}
use Rattle.fm_conn.specs.declared.shapes.Shape.{Shape}
use Rattle.fm_conn.specs.declared.summaries.Summaries.{Summaries}

-- ---- shapes

-- that of a method without code
abbrev pub no_shape : Shape
no_shape = record { ends = []; calls = [] }

-- the shape of a method by its number
abbrev pub shape_at : List Shape → ℕ → Shape
shape_at shapes method = slice_index_or shapes method no_shape

-- one for each method, by these states of items: that of its code, and an empty one where it has none
pub record AreShapesOf (p : Program) (typings : Typings) (shapes : List Shape) : Type 0 where
  pub one_each : length shapes ≡ length (methods_of p.outline.classes)
  pub coded : (method : ℕ) (code : Code) → code_at p method ≡ Some code → IsShapeOf (typed_method p typings method code) (shape_at shapes method)
  pub others : (method : ℕ) → code_at p method ≡ None → shape_at shapes method ≡ no_shape

-- there are states of items by which these are the shapes
abbrev pub AreShapes : Program → List Shape → Type 0
AreShapes p shapes = (typings : Typings) × AreShapesOf p typings shapes

-- a built-in method has no code
abbrev pub HasBareBuiltIns : Program → Type 0
HasBareBuiltIns p = (method row : ℕ) → (method_at p.outline.classes method).method.row ≡ Some row → code_at p method ≡ None

-- ---- summaries

-- of the ends of each method that is there, the summaries link exactly those that are linked, an
-- end with itself among them; what isn't an end is linked with nothing
pub record AreExact (p : Program) (typings : Typings) (s : Summaries) : Type 0 where
  pub summaries : AreSummariesOf p.outline s
  pub links : TellLinks p typings s
