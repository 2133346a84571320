-- What is passed on from the methods that are called to those that call them.
use Rattle.std.specs.Prelude.{◌≡◌, ◌==◌, ◌<◌, not, ℕ, Bool, true, false, List, [], ◌∷◌, ◌++◌, map, sum_by, slice_set}
use Rattle.std.specs.List.{flat_map, list_any}
use Rattle.fm_conn.specs.inner.ListedEnds.{link_pairs}
use Rattle.fm_conn.specs.declared.ends.End2.{End2}
use Rattle.fm_conn.specs.declared.shapes.CallShape.{CallShape}
use Rattle.fm_conn.specs.declared.shapes.Shape.{Shape}
use Rattle.fm_summ.specs.Exact.{shape_at}
use Rattle.fm_summ.specs.inner.Numbers.{Merges}

-- ---- pairs

-- the ends of the method of a number
abbrev pub ends_at : List Shape → ℕ → List (End2 × ℕ)
ends_at shapes method = (shape_at shapes method).ends

-- what a target pairs at a call
abbrev pub target_pairs : List Shape → List (End2 × ℕ) → ℕ → List (ℕ × ℕ)
target_pairs shapes ends target = link_pairs ends (ends_at shapes target)

-- what all targets of a call pair
abbrev pub call_pairs : List Shape → List ℕ → CallShape → List (ℕ × ℕ)
call_pairs shapes called c = flat_map (target_pairs shapes c.ends) called

-- those of each call of a method, with the methods that it can lead to
abbrev pub method_pairs : List Shape → List (List ℕ) → List CallShape → List (ℕ × ℕ)
method_pairs shapes [] calls = []
method_pairs shapes (called ∷ targets) [] = []
method_pairs shapes (called ∷ targets) (c ∷ calls) = call_pairs shapes called c ++ method_pairs shapes targets calls

-- ---- numbers

-- ends with other classes
abbrev pub renumbered_ends : (ℕ → ℕ) → List (End2 × ℕ) → List (End2 × ℕ)
renumbered_ends f ends = map (λ e. (e.0, f e.1)) ends

-- a call with other classes
abbrev pub renumbered_call : (ℕ → ℕ) → CallShape → CallShape
renumbered_call f c = record { call = c.call; ends = renumbered_ends f c.ends }

-- a shape with other classes
abbrev pub renumbered : (ℕ → ℕ) → Shape → Shape
renumbered f s = record { ends = renumbered_ends f s.ends; calls = map (renumbered_call f) s.calls }

-- whether an end gets another class
abbrev pub is_changed : (ℕ → ℕ) → List (End2 × ℕ) → Bool
is_changed f ends = list_any (λ e. not (f e.1 == e.1)) ends

-- ---- a method is done again

-- the numbers of a method that its calls make one are one; nothing else has changed, and where nothing is to be made one, nothing at all
pub record Passes (targets : List (List ℕ)) (before after : List Shape) (method : ℕ) (changed : Bool) : Type 0 where
  pub f : ℕ → ℕ
  pub merges : Merges (method_pairs before targets (shape_at before method).calls) f
  pub after_is : after ≡ slice_set before method (renumbered f (shape_at before method))
  pub none : method_pairs before targets (shape_at before method).calls ≡ [] → after ≡ before
  pub ends : changed ≡ false → (shape_at after method).ends ≡ (shape_at before method).ends
  pub fewer : changed ≡ true
      → sum_by (λ (e : End2 × ℕ). e.1) (renumbered_ends f (shape_at before method).ends) < sum_by (λ (e : End2 × ℕ). e.1) (shape_at before method).ends
