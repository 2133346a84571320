-- What a method's new items are read as: what is inserted at the start, and before and after each old item, and for which holders.
use Rattle.std.specs.Prelude.{ℕ, ◌+◌, ◌-◌, ◌==◌, ◌&&◌, Bool, true, false, List, [], ◌∷◌, ◌++◌, length, map, drop, Option, Some, None, nat_lt, if◌then◌else◌}
use Rattle.std.specs.Option.{option_map}
use Rattle.fm_code.specs.declared.code_array.Item.{Item}
use Rattle.fm_code.specs.declared.instructions.Insn.{Insn}
use Rattle.fm_code.specs.declared.instructions.Insn.TheVariants as insn
use Rattle.fm_code.specs.declared.operations.Reg.TheVariants as reg
use Rattle.fm_code.specs.declared.operations.Test.{Test}
use Rattle.fm_code.specs.declared.operations.Test.TheVariants as test
use Rattle.fm_layout.specs.declared.rooms.Condition.{Condition}
use Rattle.fm_layout.specs.declared.rooms.Condition.TheVariants as condition

-- ---- one instruction

-- the number of the holder that a local is, if it is past the old ones
abbrev pub holder_in : (first local : ℕ) → Option ℕ
holder_in first local = if nat_lt local first then None else Some (local - first)

-- the holder that an instruction stores into (JVMS 6.5.astore)
abbrev pub stored : (first : ℕ) → Insn → Option ℕ
stored first (insn.Store reg.Ref local) = holder_in first local
stored first i = None

-- the holder that an instruction loads (JVMS 6.5.aload)
abbrev pub loaded : (first : ℕ) → Insn → Option ℕ
loaded first (insn.Load reg.Ref local) = holder_in first local
loaded first i = None

-- an aconst_null (JVMS 6.5.aconst_null)
abbrev pub is_null : Insn → Bool
is_null insn.Null = true
is_null i = false

-- a dup (JVMS 6.5.dup)
abbrev pub is_dup : Insn → Bool
is_dup insn.Dup = true
is_dup i = false

-- a goto or a goto_w (JVMS 6.5.goto, 6.5.goto_w)
abbrev pub is_goto : Insn → Bool
is_goto (insn.Goto target) = true
is_goto i = false

-- an invokestatic of this entry of the pool (JVMS 6.5.invokestatic)
abbrev pub calls : (free : ℕ) → Insn → Bool
calls free (insn.Static index) = index == free
calls free i = false

-- ---- what the first of these items do

-- the holder that the first two make null: aconst_null, astore
abbrev pub nulled : (first : ℕ) → List Item → Option ℕ
nulled first (a ∷ b ∷ items) = if is_null a.insn then stored first b.insn else None
nulled first items = None

-- the holder that takes, by the first two, what is on top of the stack: dup, astore
abbrev pub taken : (first : ℕ) → List Item → Option ℕ
taken first (a ∷ b ∷ items) = if is_dup a.insn then stored first b.insn else None
taken first items = None

-- a number that is found twice
abbrev pub found_twice : Option ℕ → Option ℕ → Option ℕ
found_twice (Some h) (Some k) = if h == k then Some h else None
found_twice h k = None

-- the holder that the first four free: aload, invokestatic of FreeMe.free, aconst_null, astore
abbrev pub freed : (free first : ℕ) → List Item → Option ℕ
freed free first (a ∷ b ∷ items) = if calls free b.insn then found_twice (loaded first a.insn) (nulled first items) else None
freed free first items = None

-- ---- holders one after the other

-- the first one, if there is one, and more
abbrev pub and_more : Option ℕ → List ℕ → List ℕ
and_more None more = []
and_more (Some h) more = h ∷ more

-- the items after them, if there is a first one
abbrev pub and_after : Option ℕ → (rest items : List Item) → List Item
and_after None rest items = items
and_after (Some h) rest items = rest

-- the holders that the first items make null
abbrev pub nulls : (first : ℕ) → List Item → List ℕ
nulls first (a ∷ b ∷ items) = and_more (nulled first (a ∷ b ∷ items)) (nulls first items)
nulls first items = []

-- the items after those
abbrev pub after_nulls : (first : ℕ) → List Item → List Item
after_nulls first (a ∷ b ∷ items) = and_after (nulled first (a ∷ b ∷ items)) (after_nulls first items) (a ∷ b ∷ items)
after_nulls first items = items

-- the holders that the first items free
abbrev pub frees : (free first : ℕ) → List Item → List ℕ
frees free first (a ∷ b ∷ c ∷ d ∷ items) = and_more (freed free first (a ∷ b ∷ c ∷ d ∷ items)) (frees free first items)
frees free first items = []

-- the items after those
abbrev pub after_frees : (free first : ℕ) → List Item → List Item
after_frees free first (a ∷ b ∷ c ∷ d ∷ items) =
    and_after (freed free first (a ∷ b ∷ c ∷ d ∷ items)) (after_frees free first items) (a ∷ b ∷ c ∷ d ∷ items)
after_frees free first items = items

-- ---- widened branches

-- the condition on which a branch is taken, if it is one with a condition (JVMS 6.5.if<cond>, 6.5.if_icmp<cond>, 6.5.if_acmp<cond>, 6.5.ifnull)
abbrev pub condition_of : Insn → Option Condition
condition_of (insn.IfInt test target) = Some (condition.Int test)
condition_of (insn.IfPair test target) = Some (condition.Pair test)
condition_of (insn.IfSame same target) = Some (condition.Same same)
condition_of (insn.IfNull null target) = Some (condition.Null null)
condition_of i = None

-- one test holds exactly where the other one doesn't
abbrev pub are_opposite_tests : Test → Test → Bool
are_opposite_tests test.Eq test.Ne = true
are_opposite_tests test.Ne test.Eq = true
are_opposite_tests test.Lt test.Ge = true
are_opposite_tests test.Ge test.Lt = true
are_opposite_tests test.Gt test.Le = true
are_opposite_tests test.Le test.Gt = true
are_opposite_tests t u = false

-- one of the two is true
abbrev pub differ : Bool → Bool → Bool
differ true false = true
differ false true = true
differ a b = false

-- one condition holds exactly where the other one doesn't
abbrev pub are_opposite : Condition → Condition → Bool
are_opposite (condition.Int t) (condition.Int u) = are_opposite_tests t u
are_opposite (condition.Pair t) (condition.Pair u) = are_opposite_tests t u
are_opposite (condition.Same same) (condition.Same other) = differ same other
are_opposite (condition.Null null) (condition.Null other) = differ null other
are_opposite c d = false

-- there are both, and that holds of them
abbrev pub are_both_opposite : Option Condition → Option Condition → Bool
are_both_opposite (Some c) (Some d) = are_opposite c d
are_both_opposite c d = false

-- an old branch is widened: the first two items are the opposite test and a goto
abbrev pub is_widened : Item → List Item → Bool
is_widened item (a ∷ b ∷ items) = are_both_opposite (condition_of item.insn) (condition_of a.insn) && is_goto b.insn
is_widened item items = false

-- how many items keep an old one
abbrev pub kept_count : Item → List Item → ℕ
kept_count item items = if is_widened item items then 2 else 1

-- ---- all items

-- the pairs of an item and a holder that is freed before it, and of an item and the holder that takes its object
pub record Pairs : Type 0 where
  pub before : List (ℕ × ℕ)
  pub after : List (ℕ × ℕ)

-- the items after those by which a holder takes an object
abbrev pub after_taken : Option ℕ → List Item → List Item
after_taken None items = items
after_taken (Some h) items = drop 2 items

-- the pairs of an item with each of these holders
abbrev pub pairs_of : ℕ → List ℕ → List (ℕ × ℕ)
pairs_of j holders = map (λ h. (j, h)) holders

-- the pair of an item with the holder, if there is one
abbrev pub pair_if : ℕ → Option ℕ → List (ℕ × ℕ)
pair_if j None = []
pair_if j (Some h) = (j, h) ∷ []

-- further pairs after these
abbrev pub with_pairs : List (ℕ × ℕ) → List (ℕ × ℕ) → Pairs → Pairs
with_pairs before after more = record { before = before ++ more.before; after = after ++ more.after }

-- The pairs of these old items, from a number on, where the new items are all of them with what is inserted before and after each: what is inserted before an
-- item frees holders, then the item follows, and then a holder may take what is on top of the stack.
abbrev pub read_from : (free first j : ℕ) → (old new : List Item) → Option Pairs
read_from free first j [] [] = Some (record { before = []; after = [] })
read_from free first j [] (a ∷ items) = None
read_from free first j (item ∷ old) new =
    let here = after_frees free first new in
    let next = drop (kept_count item here) here in
    if length here == 0 then None else
    option_map (with_pairs (pairs_of j (frees free first new)) (pair_if j (taken first next)))
    (read_from free first (j + 1) old (after_taken (taken first next) next))

-- what the new items of a method are read as
pub record Read : Type 0 where
  pub starts : List ℕ
  pub pairs : Pairs

-- the holders that are null at the start, and the pairs of all old items
abbrev pub read : (free first : ℕ) → (old new : List Item) → Option Read
read free first old new =
    option_map (λ pairs. record { starts = nulls first new; pairs = pairs }) (read_from free first 0 old (after_nulls first new))
