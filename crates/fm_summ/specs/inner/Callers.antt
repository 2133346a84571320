-- The methods that calls can lead to, and those that make them, by numbers.
use Rattle.std.specs.Prelude.{◌≡◌, ◌<◌, ◌+◌, ◌-◌, ℕ, Bool, true, false, List, [], ◌∷◌, ◌++◌, length, map, Some, Contains, slice_set, if◌then◌else◌}
use Rattle.std.specs.List.{slice_get, slice_index_or}
use Rattle.std.specs.Global.{Vec}
use Rattle.fm_base.specs.declared.ids.MethodId.{MethodId}
use Rattle.fm_flow.specs.inner.LiveWalks.{list_of}
use Rattle.fm_world.specs.Programs.{targets, Outline, Program}
use Rattle.fm_world.specs.declared.calls.Call.{Call}
use Rattle.fm_world.specs.declared.calls.CallKind.{CallKind}
use Rattle.fm_world.specs.declared.calls.CallKind.TheVariants as call
use Rattle.fm_conn.specs.Summaries.{same_number}
use Rattle.fm_conn.specs.declared.shapes.CallShape.{CallShape}
use Rattle.fm_conn.specs.declared.shapes.Shape.{Shape}
use Rattle.fm_conn.specs.inner.PairLists.{IsCallIn}

-- ---- calls whose targets may be asked

-- the program may be asked for the targets of all calls
abbrev pub AreCallsIn : Outline → List Shape → Type 0
AreCallsIn o shapes = (s : Shape) (c : CallShape) → Contains shapes s → Contains s.calls c → IsCallIn o c.call

-- the targets of each call of a method
abbrev pub call_targets : Program → List CallShape → List (List ℕ)
call_targets p calls = map (λ (c : CallShape). targets p c.call) calls

-- the targets of each call of each method
abbrev pub shape_targets : Program → List Shape → List (List (List ℕ))
shape_targets p shapes = map (λ (s : Shape). call_targets p s.calls) shapes

-- calls of one method that name one type have the same targets, special ones where one class has both
abbrev pub kinds_alike : CallKind → CallKind → Bool → Bool
kinds_alike call.Static call.Static same_caller = true
kinds_alike call.Virtual call.Virtual same_caller = true
kinds_alike call.Interface call.Interface same_caller = true
kinds_alike call.Special call.Special same_caller = same_caller
kinds_alike k l same_caller = false

-- two calls have the same targets in each program
abbrev pub LeadAlike : Call → Call → Type 0
LeadAlike one other = (p : Program) → targets p one ≡ targets p other

-- the call at a place has the same targets as this one
pub record HasAlike (calls : List Call) (place : ℕ) (called : Call) : Type 0 where
  pub one : Call
  pub there : slice_get calls place ≡ Some one
  pub alike : LeadAlike one called

-- ---- lists that hold lists

-- vectors of numbers as lists
abbrev pub lists_of : List (Vec ℕ) → List (List ℕ)
lists_of xs = map (λ (x : Vec ℕ). x.items) xs

-- methods as numbers
abbrev pub numbers_of : List MethodId → List ℕ
numbers_of xs = map (λ (m : MethodId). m.0) xs

-- the lists of these numbers, one after the other
abbrev pub called_by : List (List ℕ) → List ℕ → List (List ℕ)
called_by lists numbers = map (list_of lists) numbers

-- what has a number keeps it
pub record Keeps (before after : List (List ℕ)) : Type 0 where
  pub each : (n : ℕ) (xs : List ℕ) → slice_get before n ≡ Some xs → slice_get after n ≡ Some xs

-- these are the numbers of lists
abbrev pub AreNumbersOf : List (List ℕ) → List ℕ → List (List ℕ) → Type 0
AreNumbersOf lists numbers found = map (slice_get lists) numbers ≡ map Some found

-- so are those of each method
abbrev pub AreNumbersOfAll : List (List ℕ) → List (List ℕ) → List (List (List ℕ)) → Type 0
AreNumbersOfAll lists numbers found = map (map (slice_get lists)) numbers ≡ map (map Some) found

-- ---- callers

-- whether a list ends with a number
abbrev pub ends_with : List ℕ → ℕ → Bool
ends_with xs n = same_number (slice_get xs (length xs - 1)) (Some n)

-- a number more, unless it is the last one
abbrev pub ended_by : List ℕ → ℕ → List ℕ
ended_by xs n = if ends_with xs n then xs else xs ++ n ∷ []

-- a method more at a target, if that is there, unless it is the last one there
abbrev pub with_caller : List (List ℕ) → ℕ → ℕ → List (List ℕ)
with_caller callers target caller = slice_set callers target (ended_by (slice_index_or callers target []) caller)

-- several targets have one more caller
abbrev pub with_callers : List (List ℕ) → List ℕ → ℕ → List (List ℕ)
with_callers callers [] caller = callers
with_callers callers (target ∷ rest) caller = with_callers (with_caller callers target caller) rest caller

-- all lists from a number on
abbrev pub with_all : List (List ℕ) → List (List ℕ) → ℕ → List (List ℕ)
with_all callers [] caller = callers
with_all callers (called ∷ rest) caller = with_all (with_callers callers called caller) rest (caller + 1)

-- for each number below the count there are those lists that have it, and numbers of lists alone
pub record HasListed (count : ℕ) (lists : List (List ℕ)) (found : List (List ℕ)) : Type 0 where
  pub one_each : length found ≡ count
  pub inside : (n place : ℕ) → Contains (list_of found n) place → place < length lists
  pub each : (n place : ℕ) → n < count → place < length lists → Contains (list_of lists place) n → Contains (list_of found n) place

-- each method is listed at all that its calls can lead to, and what is listed are methods
pub record HasCallers (targets : List (List (List ℕ))) (callers : List (List ℕ)) : Type 0 where
  pub one_each : length callers ≡ length targets
  pub inside : (target caller : ℕ) → Contains (slice_index_or callers target []) caller → caller < length targets
  pub each : (target caller : ℕ) (called : List ℕ) → target < length targets → caller < length targets
      → Contains (slice_index_or targets caller []) called → Contains called target → Contains (slice_index_or callers target []) caller
