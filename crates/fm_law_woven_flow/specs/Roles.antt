-- What each item of code with insertions is for, and which items follow one another in it.
use Rattle.std.specs.Prelude.{◌≡◌, ℕ, ◌+◌, ◌<◌, ◌≤◌, ◌==◌, ◌⊎◌, ◌↔◌, Bool, true, false, List, length, map, Option, Some, None, IsSomeAnd, Contains, slice_get, if◌then◌else◌}
use Rattle.fm_chain.specs.declared.calls.Calls.{Calls}
use Rattle.fm_chain.specs.Chained.{looped_at}
use Rattle.fm_code.specs.Edges.{Catches, falls_through, FallsOff, insn_of, IsNormalEdge, IsReachable}
use Rattle.fm_code.specs.SpellsCode.{targets_of, with_targets}
use Rattle.fm_code.specs.declared.code_array.Code.{Code}
use Rattle.fm_code.specs.declared.code_array.Handler.{Handler}
use Rattle.fm_code.specs.declared.instructions.Insn.{Insn}
use Rattle.fm_code.specs.declared.instructions.Insn.TheVariants as insn
use Rattle.fm_code.specs.declared.operations.Reg.TheVariants as reg
use Rattle.fm_layout.specs.Spelling.{conditional, opposite}
use Rattle.fm_layout.specs.declared.rooms.Condition.{Condition}
use Rattle.fm_place.specs.Insertions.{after_at, before_at, Insertions}
use Rattle.fm_place.specs.Woven.{local_of}

-- ---- what an item is for

-- at the start, before an old item, or after one, for a holder by its number; an old item; and the goto_w behind the opposite test of a branch
pub data Role : Type 0 where
  StartNull : (holder : ℕ) → Role
  StartStore : (holder : ℕ) → Role
  LoadBefore : (j holder : ℕ) → Role
  FreeBefore : (j holder : ℕ) → Role
  NullBefore : (j holder : ℕ) → Role
  StoreBefore : (j holder : ℕ) → Role
  Keep : (j : ℕ) → Role
  JumpOf : (j : ℕ) → Role
  DupAfter : (j holder : ℕ) → Role
  LoadAfter : (j holder : ℕ) → Role
  LinkAfter : (j holder : ℕ) → Role
  StoreAfter : (j holder : ℕ) → Role

-- the old item that an item keeps, or before, behind or after which it is inserted; none at the start
abbrev pub owner : Role → Option ℕ
owner (StartNull holder) = None
owner (StartStore holder) = None
owner (LoadBefore j holder) = Some j
owner (FreeBefore j holder) = Some j
owner (NullBefore j holder) = Some j
owner (StoreBefore j holder) = Some j
owner (Keep j) = Some j
owner (JumpOf j) = Some j
owner (DupAfter j holder) = Some j
owner (LoadAfter j holder) = Some j
owner (LinkAfter j holder) = Some j
owner (StoreAfter j holder) = Some j

-- ---- the instruction

-- an instruction is a branch on a condition
pub record IsBranch (i : Insn) : Type 0 where
  pub condition : Condition
  pub target : ℕ
  pub is : i ≡ conditional condition target

-- with other targets
pub record IsRetargeted (old new : Insn) : Type 0 where
  pub targets : ℕ → ℕ
  pub is : new ≡ with_targets targets old

-- the opposite test
pub record IsOpposite (old new : Insn) : Type 0 where
  pub condition : Condition
  pub target : ℕ
  pub other : ℕ
  pub branch : old ≡ conditional condition target
  pub test : new ≡ conditional (opposite condition) other

-- a goto
pub record IsJump (i : Insn) : Type 0 where
  pub target : ℕ
  pub is : i ≡ insn.Goto target

-- the instruction of an item, by what it is for
abbrev pub HasInsn : Calls → Code → Insertions → Role → Insn → Type 0
HasInsn calls old plan (StartNull h) i = i ≡ insn.Null
HasInsn calls old plan (StartStore h) i = i ≡ insn.Store reg.Ref (local_of old h)
HasInsn calls old plan (LoadBefore j h) i = i ≡ insn.Load reg.Ref (local_of old h)
HasInsn calls old plan (FreeBefore j h) i = i ≡ insn.Static (if looped_at plan h then calls.free_chain else calls.free)
HasInsn calls old plan (NullBefore j h) i = i ≡ insn.Null
HasInsn calls old plan (StoreBefore j h) i = i ≡ insn.Store reg.Ref (local_of old h)
HasInsn calls old plan (Keep j) i = IsSomeAnd (insn_of old j) (λ kept. IsRetargeted kept i ⊎ IsOpposite kept i)
HasInsn calls old plan (JumpOf j) i = IsSomeAnd (insn_of old j) IsBranch × IsJump i
HasInsn calls old plan (DupAfter j h) i = i ≡ insn.Dup
HasInsn calls old plan (LoadAfter j h) i = i ≡ insn.Load reg.Ref (local_of old h)
HasInsn calls old plan (LinkAfter j h) i = i ≡ insn.Static calls.link
HasInsn calls old plan (StoreAfter j h) i = i ≡ insn.Store reg.Ref (local_of old h)

-- ---- which holders there are

-- the holder is there; before an item, or after one, it is one of those of that item; one that is linked holds a chain
abbrev pub HasHolder : Insertions → Role → Type 0
HasHolder plan (StartNull h) = h < length plan.holders
HasHolder plan (StartStore h) = h < length plan.holders
HasHolder plan (LoadBefore j h) = Contains (before_at plan j) h
HasHolder plan (FreeBefore j h) = Contains (before_at plan j) h
HasHolder plan (NullBefore j h) = Contains (before_at plan j) h
HasHolder plan (StoreBefore j h) = Contains (before_at plan j) h
HasHolder plan (Keep j) = Unit {0}
HasHolder plan (JumpOf j) = Unit {0}
HasHolder plan (DupAfter j h) = Contains (after_at plan j) h
HasHolder plan (LoadAfter j h) = Contains (after_at plan j) h × (looped_at plan h ≡ true)
HasHolder plan (LinkAfter j h) = Contains (after_at plan j) h × (looped_at plan h ≡ true)
HasHolder plan (StoreAfter j h) = Contains (after_at plan j) h

-- ---- what follows

-- where control enters an old item: at what frees a holder before it, or at the item itself
abbrev pub IsEntry : Code → ℕ → Role → Type 0
IsEntry old j r = (j < length old.items) × (((h : ℕ) × (r ≡ LoadBefore j h)) ⊎ (r ≡ Keep j))

-- after an old item: what keeps its object, or the next one
abbrev pub GoesOn : Code → ℕ → Role → Type 0
GoesOn old j r = ((h : ℕ) × (r ≡ DupAfter j h)) ⊎ IsEntry old (j + 1) r

-- to an old item that the instruction names
abbrev pub GoesTo : Code → ℕ → Role → Type 0
GoesTo old j r = IsSomeAnd (insn_of old j) (λ i. (t : ℕ) × (Contains (targets_of i) t) × IsEntry old t r)

-- the instruction of an item goes on to the next one
abbrev pub FallsAt : Code → ℕ → Type 0
FallsAt old j = IsSomeAnd (insn_of old j) (λ i. falls_through i ≡ true)

-- what follows the dup after an old item: for a holder of a chain that is loaded, for another one the store
abbrev pub behind_dup : (looped : Bool) → (j holder : ℕ) → Role
behind_dup true j h = LoadAfter j h
behind_dup false j h = StoreAfter j h

-- what an item leads to where it ends as usual
abbrev pub Follows : Code → Insertions → Role → Role → Type 0
Follows old plan (StartNull h) r = r ≡ StartStore h
Follows old plan (StartStore h) r = (r ≡ StartNull (h + 1)) ⊎ ((h + 1 ≡ length plan.holders) × IsEntry old 0 r)
Follows old plan (LoadBefore j h) r = r ≡ FreeBefore j h
Follows old plan (FreeBefore j h) r = r ≡ NullBefore j h
Follows old plan (NullBefore j h) r = r ≡ StoreBefore j h
Follows old plan (StoreBefore j h) r = IsEntry old j r
Follows old plan (Keep j) r = GoesTo old j r ⊎ (r ≡ JumpOf j) ⊎ (FallsAt old j × GoesOn old j r)
Follows old plan (JumpOf j) r = GoesTo old j r
Follows old plan (DupAfter j h) r = r ≡ behind_dup (looped_at plan h) j h
Follows old plan (LoadAfter j h) r = r ≡ LinkAfter j h
Follows old plan (LinkAfter j h) r = r ≡ StoreAfter j h
Follows old plan (StoreAfter j h) r = GoesOn old j r

-- ---- the code

-- one item leads to another, by what they are for
pub record RolesFollow (old : Code) (plan : Insertions) (roles : List Role) (n next : ℕ) : Type 0 where
  pub from : Role
  pub to : Role
  pub from_is : slice_get roles n ≡ Some from
  pub to_is : slice_get roles next ≡ Some to
  pub follows : Follows old plan from to

-- where a moved entry of the exception table catches an item, the old one catches its old item; and it leads to an entry of the old handler (JVMS 4.7.3)
pub record IsCaught (old : Code) (roles : List Role) (r : Role) (entry moved : Handler) : Type 0 where
  pub caught : IsSomeAnd (owner r) (λ j. Catches j entry.handler entry)
  pub to : Role
  pub to_is : slice_get roles moved.handler ≡ Some to
  pub entered : IsEntry old entry.handler to

-- the old item of an item is reached, or it is at the start
abbrev pub IsOwnerReached : Code → Option ℕ → Type 0
IsOwnerReached old None = Unit {0}
IsOwnerReached old (Some j) = IsReachable old j

-- the code is old code with these insertions, by the roles of its items, the numbers of the kept
-- ones, and how entries of the exception table move
pub record StandsFor (calls : Calls) (old : Code) (plan : Insertions) (new : Code) (roles : List Role) (numbers : ℕ → ℕ) (moved : Handler → Handler) : Type 0 where
  pub one_each : length roles ≡ length new.items
  pub insns : (n : ℕ) (r : Role) → slice_get roles n ≡ Some r → IsSomeAnd (insn_of new n) (HasInsn calls old plan r)
  pub holders : (n : ℕ) (r : Role) → slice_get roles n ≡ Some r → HasHolder plan r
  pub edges : (n next : ℕ) → IsNormalEdge new n next → RolesFollow old plan roles n next
  pub handlers_are : new.handlers ≡ map moved old.handlers
  pub catch_class : (h : Handler) → (moved h).catch_class ≡ h.catch_class
  pub caught : (n : ℕ) (r : Role) (h : Handler) → slice_get roles n ≡ Some r → Contains old.handlers h
      → Catches n (moved h).handler (moved h) → IsCaught old roles r h (moved h)
  pub reached : (n : ℕ) (r : Role) → slice_get roles n ≡ Some r → (IsReachable new n) ↔ (IsOwnerReached old (owner r))
  pub stays_inside : ¬ FallsOff old → ¬ FallsOff new
  pub first : slice_get roles 0 ≡ Some (StartNull 0)
  -- the item that keeps an old one
  pub numbered : (j : ℕ) → j < length old.items → slice_get roles (numbers j) ≡ Some (Keep j)
  pub kept_once : (n j : ℕ) → slice_get roles n ≡ Some (Keep j) → n ≡ numbers j
  pub beyond : (j : ℕ) → length old.items ≤ j → length new.items ≤ numbers j
  -- two items have one number exactly where they are the same
  pub apart : (i j : ℕ) → (numbers i == numbers j) ≡ (i == j)

-- ---- what is required of a plan

-- there are holders, and after an item that gives an object for a holder control goes on
pub record CanStand (old : Code) (plan : Insertions) : Type 0 where
  pub some : 0 < length plan.holders
  pub goes_on : (j h : ℕ) → Contains (after_at plan j) h → FallsAt old j
