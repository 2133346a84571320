-- What chains are for: of all that a site in a loop gave in an activation nothing is held where the class of its objects isn't busy.
use Rattle.std.specs.Prelude.{◌≡◌, ◌+◌, ◌⊎◌, ℕ, suc, ◌<◌, ◌≤◌, true, false, List, [], ◌∷◌, Contains, length, Some, None}
use Rattle.fm_cells.specs.Stores.{Store}
use Rattle.fm_chain.specs.Loops.{is_looped}
use Rattle.fm_conn.specs.Facts.{Facts}
use Rattle.fm_conn.specs.Nodes.{TypedMethod}
use Rattle.fm_frames.specs.States.{Frame, Moved, State}
use Rattle.fm_frames.specs.declared.values.Value.{Value}
use Rattle.fm_law_holders.specs.Holding.{HasOther, HoldsFreeable}
use Rattle.fm_law_same_runs.specs.Beside.{AreMatched, Beside, InAllRuns, is_at_kept, kept_item, Marks}
use Rattle.fm_place.specs.Places.{is_busy}
use Rattle.fm_place.specs.Safe.{method_in_facts}
use Rattle.fm_place.specs.Sites.{held_sites, site_class}
use Rattle.fm_world.specs.Programs.{Program}

-- ---- what a site gives

-- the frame is at the item that is inserted right behind this one of the old code, and to which no jump leads
pub record IsBehind (marks : Marks) (f : Frame) (j : ℕ) : Type 0 where
  pub before : ℕ
  pub next : f.item ≡ before + 1
  pub kept : kept_item marks f.method before ≡ Some j
  pub inserted : kept_item marks f.method f.item ≡ None

-- A step at an item of the old code leads right behind a held site in a loop, in the topmost frame, which has `depth` others below it; there an object of this birth is on top
-- of the stack, which doesn't live for ever: the site, whose objects are in this class, has given it.
pub record IsGivenBySite (p : Program) (facts : Facts) (marks : Marks) (y next : State) (depth class birth : ℕ) : Type 0 where
  pub from_kept : is_at_kept marks y ≡ true
  pub f : Frame
  pub callers : List Frame
  pub frames_are : next.frames ≡ f ∷ callers
  pub below : length callers ≡ depth
  pub x : TypedMethod
  pub method_is : method_in_facts p facts f.method ≡ Some x
  pub site : ℕ
  pub held : Contains (held_sites facts x) site
  pub looped : is_looped x.code site ≡ true
  pub class_is : class ≡ site_class facts x site
  pub behind : IsBehind marks f site
  pub top : Value
  pub rest : List Value
  pub stack_is : f.stack ≡ top ∷ rest
  pub gives : HoldsFreeable next.areas.store top birth

-- ---- where it isn't held any longer

-- the frame is at an item of the old code at which the class isn't busy
pub record IsQuietIn (p : Program) (facts : Facts) (marks : Marks) (class : ℕ) (f : Frame) : Type 0 where
  pub item : ℕ
  pub kept : kept_item marks f.method f.item ≡ Some item
  pub x : TypedMethod
  pub method_is : method_in_facts p facts f.method ≡ Some x
  pub quiet : is_busy facts x class item ≡ false

-- so is the frame that has `depth` others below it
abbrev pub IsQuietAt : Program → Facts → Marks → (depth class : ℕ) → List Frame → Type 0
IsQuietAt p facts marks depth class [] = ⊥
IsQuietAt p facts marks depth class (f ∷ callers) =
    ((length callers ≡ depth) × IsQuietIn p facts marks class f) ⊎ IsQuietAt p facts marks depth class callers

-- the frame that has `depth` others below it is there in all states from one to another, so that one activation lasts
abbrev pub LastsTo : (ys : ℕ → Moved) → (depth first last : ℕ) → Type 0
LastsTo ys depth first last = (n : ℕ) → first ≤ n → n ≤ last → depth < length (ys n).state.frames

-- no object of this birth is held
abbrev pub IsAbsent : Store → (birth : ℕ) → Type 0
IsAbsent store birth = (cell : ℕ) → HasOther store birth cell

-- What a site in a loop gave earlier in an activation isn't held in this state, if the class of it isn't busy there.
abbrev pub AreAllFreed : Program → Facts → Beside → (l : ℕ) → Type 0
AreAllFreed p facts b l =
    (first depth class birth : ℕ) → first < l → IsGivenBySite p facts b.marks (b.ys first).state (b.ys (suc first)).state depth class birth
    → LastsTo b.ys depth (suc first) l → IsQuietAt p facts b.marks depth class (b.ys l).state.frames → IsAbsent (b.ys l).state.areas.store birth

-- so it is in all states of the second program that are matched ones, in all runs
abbrev pub FreesAll : (p one other : Program) → Facts → Marks → Type 0
FreesAll p one other facts marks = InAllRuns one other marks (λ b. (k l : ℕ) → AreMatched b k l → AreAllFreed p facts b l)
