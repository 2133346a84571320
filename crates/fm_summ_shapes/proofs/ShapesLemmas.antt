-- What is known of the methods of a program that may be analysed, and the shapes of one method after the other.
use Rattle.std.proofs.Common.{◌≡◌, refl, sym, ◌∙◌, ap, subst, ℕ, ◌+◌, ◌<◌, ◌≤◌, ⊎_elim, List, [], ◌∷◌, ◌++◌, length, get_or, Result, Ok, Err, IfOk, Option, Some, None, IfSome, arith}
use Rattle.std.proofs.lemmas.Bool.{cases_lt}
use Rattle.std.proofs.lemmas.List.{get_or_append_left, get_or_past, get_or_push, length_push}
use Rattle.fm_summ_shapes.specs.Analysed.{AreAnalysable, AreLeastShapes, IsLeastShape, IsLeastShapeIn, IsLeastShapeOf}
use Rattle.fm_base.proofs.OptionFacts.{IsSome-from_some, IsSomeAnd-at_some}
use Rattle.fm_check.specs.Checking.{coded, HasCode, IsLeastTyping, IsNarrow}
use Rattle.fm_code.specs.Edges.{FallsOff}
use Rattle.fm_code.specs.declared.code_array.Code.{Code}
use Rattle.fm_conn.specs.Shapes.{method_with, IsCoded, IsShapeOf}
use Rattle.fm_conn.specs.declared.shapes.Shape.{Shape}
use Rattle.fm_summ.specs.Exact.{no_shape, shape_at}
use Rattle.fm_types.specs.States.{TypeState}
use Rattle.fm_types.specs.Typed.{IsTypingOf}
use Rattle.fm_world.specs.Members.{methods_of}
use Rattle.fm_world.specs.Programs.{code_at, method_info, Program}
use Rattle.fm_world.specs.declared.records.Body.{Body}
use Rattle.fm_world.specs.declared.records.Body.TheVariants as body

-- ---- one method

-- a code that is there is one of a class file
pub code_facts : (p : Program) (method : ℕ) (code : Code) → AreAnalysable p → code_at p method ≡ Some code → HasCode p method code × IsNarrow code
code_facts p method code may is = subst (λ o. IfSome o (λ c. HasCode p method c × IsNarrow c)) is (may.checkable.codes method)

-- control never goes past the end of a code that is typed
pub never_falls : (p : Program) (method : ℕ) (code : Code) → AreAnalysable p → code_at p method ≡ Some code → FallsOff code → ⊥
never_falls p method code may is falls =
    let typed = may.typed method (IsSome-from_some (code_at p method) code is) in
    (IsSomeAnd-at_some (code_at p method) (λ c. IsTypingOf p method c typed.0) code is typed.1).stays_inside falls

coded_body : (b : Body) (code : Code) → coded b ≡ Some code → IsCoded b
coded_body (body.Coded own) code is = tt
coded_body b code is = absurd cc

pub is_coded : (p : Program) (method : ℕ) (code : Code) → AreAnalysable p → code_at p method ≡ Some code → IsCoded (method_info p method).body
is_coded p method code may is = coded_body (method_info p method).body code (code_facts p method code may is).0.body

body_of_code : (b : Body) (code : Code) → coded b ≡ Some code → (own : Code) × (b ≡ body.Coded own)
body_of_code (body.Coded own) code is = (own, refl)
body_of_code b code is = absurd cc

-- a method whose body is no code has none
pub no_code : (p : Program) (method : ℕ) (b : Body) → AreAnalysable p → b ≡ (method_info p method).body
    → ((code : Code) → b ≡ body.Coded code → ⊥) → code_at p method ≡ None
no_code p method b may is other = at (code_at p method) refl where
  at : (o : Option Code) → code_at p method ≡ o → code_at p method ≡ None
  at None found = found
  at (Some code) found =
      let own = body_of_code (method_info p method).body code (code_facts p method code may found).0.body in absurd (other own.0 (is ∙ own.1))

-- the shape by the states that were found
pub least_shape : {E : Type 0} (p : Program) (method : ℕ) (code : Code) (states : List (Option TypeState)) → IsLeastTyping p method states
    → (r : Result Shape E) → IfOk r (IsShapeOf (method_with p method code states)) → IfOk r (IsLeastShapeOf p method code)
least_shape p method code states least (Ok shape) is = record { states = states; least = least; shape_is = is }
least_shape p method code states least (Err e) is = tt

pub shape_with_code : {E : Type 0} (p : Program) (method : ℕ) (code : Code) → code_at p method ≡ Some code → (r : Result Shape E)
    → IfOk r (IsLeastShapeOf p method code) → IfOk r (IsLeastShape p method)
shape_with_code p method code is (Ok shape) found = subst (λ o. IsLeastShapeIn p method o shape) (sym is) found
shape_with_code p method code is (Err e) found = tt

pub shape_without_code : (p : Program) (method : ℕ) → code_at p method ≡ None → IsLeastShape p method no_shape
shape_without_code p method none = subst (λ o. IsLeastShapeIn p method o no_shape) (sym none) refl

-- ---- all methods

-- one method more
pub shapes_more : (p : Program) (n : ℕ) (before after : List Shape) (made : Shape) → length before ≡ n → after ≡ before ++ made ∷ []
    → ((k : ℕ) → k < n → IsLeastShape p k (shape_at before k)) → IsLeastShape p n made
    → (length after ≡ n + 1) × ((k : ℕ) → k < n + 1 → IsLeastShape p k (shape_at after k))
shapes_more p n before after made count more so_far now = (
  ap length more ∙ length_push before made ∙ ap (λ m. m + 1) count,
  λ k inside. ⊎_elim
      (λ (earlier : k < n).
      subst (IsLeastShape p k) (sym (ap (λ list. get_or list k no_shape) more ∙ get_or_append_left before (made ∷ []) no_shape k (omega (arith, count, earlier))))
      (so_far k earlier))
      (λ (last : n ≤ k).
      let same : k ≡ n = omega arith in
      subst (IsLeastShape p k) (sym (ap (λ list. get_or list k no_shape) more ∙ get_or_push before made no_shape k (count ∙ sym same)))
      (subst (λ m. IsLeastShape p m made) (sym same) now))
      (cases_lt k n),
)

abbrev states_in : (p : Program) (method : ℕ) (o : Option Code) (shape : Shape) → IsLeastShapeIn p method o shape → List (Option TypeState)
states_in p method None shape is = []
states_in p method (Some code) shape is = is.states

least_in : (p : Program) (method : ℕ) (o : Option Code) (shape : Shape) (is : IsLeastShapeIn p method o shape) (code : Code) → o ≡ Some code
    → IsLeastTyping p method (states_in p method o shape is)
least_in p method None shape is code found = absurd cc
least_in p method (Some own) shape is code found = is.least

shape_in : (p : Program) (method : ℕ) (o : Option Code) (shape : Shape) (is : IsLeastShapeIn p method o shape) (code : Code) → o ≡ Some code
    → IsShapeOf (method_with p method code (states_in p method o shape is)) shape
shape_in p method None shape is code found = absurd cc
shape_in p method (Some own) shape is code found =
    let same : own ≡ code = cc in subst (λ c. IsShapeOf (method_with p method c is.states) shape) same is.shape_is

empty_in : (p : Program) (method : ℕ) (o : Option Code) (shape : Shape) → IsLeastShapeIn p method o shape → o ≡ None → shape ≡ no_shape
empty_in p method None shape is none = is
empty_in p method (Some code) shape is none = absurd cc

-- those of all methods that are there, and none of a method past them
pub all_shapes : (p : Program) (shapes : List Shape) → AreAnalysable p → length shapes ≡ length (methods_of p.outline.classes)
    → ((k : ℕ) → k < length shapes → IsLeastShape p k (shape_at shapes k)) → AreLeastShapes p shapes
all_shapes p shapes may count each = record {
  typings = λ method. states_in p method (code_at p method) (shape_at shapes method) (all method);
  least = λ method code is. least_in p method (code_at p method) (shape_at shapes method) (all method) code is;
  are = record {
    one_each = count;
    coded = λ method code is. shape_in p method (code_at p method) (shape_at shapes method) (all method) code is;
    others = λ method none. empty_in p method (code_at p method) (shape_at shapes method) (all method) none;
  };
} where
  past : (method : ℕ) → length shapes ≤ method → (o : Option Code) → code_at p method ≡ o → code_at p method ≡ None
  past method beyond None is = is
  past method beyond (Some code) is = absurd (let inside = (code_facts p method code may is).0.inside in omega (arith, inside, count, beyond))

  all : (method : ℕ) → IsLeastShape p method (shape_at shapes method)
  all method = ⊎_elim
      (λ (inside : method < length shapes). each method inside)
      (λ (beyond : length shapes ≤ method).
      subst (IsLeastShape p method) (sym (get_or_past shapes method no_shape beyond))
      (shape_without_code p method (past method beyond (code_at p method) refl)))
      (cases_lt method (length shapes))
