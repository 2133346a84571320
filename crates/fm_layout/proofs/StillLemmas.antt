-- Instructions that aren't branches are read alike at each offset.
use Rattle.std.proofs.Common.{◌≡◌, ℕ, Bool, true, false, List, [], ◌∷◌, ◌++◌, map, length, Some, refl, sym, ap, subst, ◌∙◌, negsuc, pos}
use Rattle.std.specs.Prelude.{ℤ, ◌+ℤ◌, ◌-ℤ◌, ◌&&◌, int_le}
use Rattle.std.specs.List.{AllByRecursion}
use Rattle.fm_base.proofs.ListFacts.{AllByRecursion-append, AllByRecursion-get_or, same_head, same_tail}
use Rattle.fm_code.proofs.InsnPrefixes.{and_then_some, map_some, cond_some, switch_is}
use Rattle.fm_code.specs.InstructionTable.{Reading, Row, constants_and_loads, stores_and_stack, arithmetic, control_and_objects, rows, reading_of, insn_at, malformed, jump, jump_to, long_jump, switch, table_switch, lookup_switch, is_number, are_rising, pairs_of, offset_from, offsets_from}
use Rattle.fm_code.specs.Numbers.{signed_two, signed_four_of}
use Rattle.fm_code.specs.declared.instructions.Insn.{Insn}
use Rattle.fm_code.specs.declared.instructions.Insn.TheVariants as insn
use Rattle.fm_code.specs.declared.operations.Test.TheVariants as test

-- the instruction names no target
abbrev pub names_target : Insn → Bool
names_target (insn.IfInt t target) = true
names_target (insn.IfPair t target) = true
names_target (insn.IfSame t target) = true
names_target (insn.IfNull t target) = true
names_target (insn.Goto target) = true
names_target (insn.Table low others targets) = true
names_target (insn.Lookup others keys targets) = true
names_target i = false

-- what is read without a target is read at each offset
abbrev pub IsStill : Reading → Type 0
IsStill reading = (o o' : ℕ) (x : List ℕ) (i : Insn) → names_target i ≡ false → reading o x ≡ Some i → reading o' x ≡ Some i

abbrev RowIsStill : Row → Type 0
RowIsStill row = IsStill row.1

-- ---- rows that don't look at the offset

still : {reading : Reading} → ((o o' : ℕ) (x : List ℕ) → reading o x ≡ reading o' x) → IsStill reading
still same o o' x i plain e = sym (same o o' x) ∙ e

all_still : (rows : List Row) → map (λ (row : Row). row.1) rows ≡ map (λ (row : Row) (o : ℕ). row.1 0) rows → AllByRecursion RowIsStill rows
all_still [] e = tt
all_still (row ∷ rows) e =
    let first : row.1 ≡ (λ (o : ℕ). row.1 0) =
    same_head row.1 (λ (o : ℕ). row.1 0) (map (λ (row : Row). row.1) rows) (map (λ (row : Row) (o : ℕ). row.1 0) rows) e in (
      still {reading = row.1} (λ o o' x. (λ k. first k o x) ∙ sym (λ k. first k o' x)),
      all_still rows (same_tail row.1 (λ (o : ℕ). row.1 0) (map (λ (row : Row). row.1) rows) (map (λ (row : Row) (o : ℕ). row.1 0) rows) e),
    )

-- ---- rows of branches

target_named : (f : ℕ → Insn) (z : ℤ) (i : Insn) → ((t : ℕ) → names_target (f t) ≡ true) → jump_to f z ≡ Some i → names_target i ≡ true
target_named f (pos t) i named e = let same : f t ≡ i = cc in subst (λ (j : Insn). names_target j ≡ true) same (named t)
target_named f (negsuc n) i named e = cc

true_not_false : (b : Bool) → b ≡ true → b ≡ false → ⊥
true_not_false b first second = cc

jumps : (f : ℕ → Insn) → ((t : ℕ) → names_target (f t) ≡ true) → IsStill (jump f)
jumps f named o o' [] i plain e = cc
jumps f named o o' (a ∷ []) i plain e = cc
jumps f named o o' (a ∷ b ∷ []) i plain e = absurd (true_not_false (names_target i) (target_named f (pos o +ℤ signed_two a b) i named e) plain)
jumps f named o o' (a ∷ b ∷ c ∷ x) i plain e = cc

long_jumps : (f : ℕ → Insn) → ((t : ℕ) → names_target (f t) ≡ true) → IsStill (long_jump f)
long_jumps f named o o' [] i plain e = cc
long_jumps f named o o' (a ∷ []) i plain e = cc
long_jumps f named o o' (a ∷ b ∷ []) i plain e = cc
long_jumps f named o o' (a ∷ b ∷ c ∷ []) i plain e = cc
long_jumps f named o o' (a ∷ b ∷ c ∷ d ∷ []) i plain e = absurd (true_not_false (names_target i) (target_named f (pos o +ℤ signed_four_of a b c d) i named e) plain)
long_jumps f named o o' (a ∷ b ∷ c ∷ d ∷ e' ∷ x) i plain e = cc

-- ---- switches

-- what a tableswitch was read from
pub record TableParts (offset : ℕ) (zs : List ℤ) (i : Insn) : Type 0 where
  pub others : ℤ
  pub low : ℤ
  pub high : ℤ
  pub jumps : List ℤ
  pub numbers : zs ≡ others ∷ low ∷ high ∷ jumps
  pub test : (int_le low high && is_number ((high -ℤ low) +ℤ pos 1) (length jumps)) ≡ true
  pub other : ℕ
  pub targets : List ℕ
  pub targets_are : offsets_from offset jumps ≡ Some targets
  pub whole : i ≡ insn.Table low other targets

pub table_parts : (offset : ℕ) (zs : List ℤ) (i : Insn) → table_switch offset zs ≡ Some i → TableParts offset zs i
table_parts offset [] i e = cc
table_parts offset (others ∷ []) i e = cc
table_parts offset (others ∷ low ∷ []) i e = cc
table_parts offset (others ∷ low ∷ high ∷ jumps) i e =
    let (test, found) = cond_some (int_le low high && is_number ((high -ℤ low) +ℤ pos 1) (length jumps)) _ i e in
    let (other, (other_is, mapped)) = and_then_some _ (offset_from (pos offset +ℤ others)) i found in
    let (targets, (targets_are, whole)) = map_some _ (offsets_from offset jumps) i mapped in
    record {
      others = others;
      low = low;
      high = high;
      jumps = jumps;
      numbers = refl;
      test = test;
      other = other;
      targets = targets;
      targets_are = targets_are;
      whole = sym whole;
    }

-- what a lookupswitch was read from
pub record LookupParts (offset : ℕ) (zs : List ℤ) (i : Insn) : Type 0 where
  pub others : ℤ
  pub count : ℤ
  pub numbers : List ℤ
  pub numbers_are : zs ≡ others ∷ count ∷ numbers
  pub keys : List ℤ
  pub jumps : List ℤ
  pub pairs : pairs_of numbers ≡ Some (keys, jumps)
  pub test : (is_number count (length keys) && are_rising keys) ≡ true
  pub other : ℕ
  pub targets : List ℕ
  pub targets_are : offsets_from offset jumps ≡ Some targets
  pub whole : i ≡ insn.Lookup other keys targets

pub lookup_parts : (offset : ℕ) (zs : List ℤ) (i : Insn) → lookup_switch offset zs ≡ Some i → LookupParts offset zs i
lookup_parts offset [] i e = cc
lookup_parts offset (others ∷ []) i e = cc
lookup_parts offset (others ∷ count ∷ numbers) i e =
    let (p, (pairs, tested)) = and_then_some _ (pairs_of numbers) i e in
    let (test, found) = cond_some (is_number count (length p.0) && are_rising p.0) _ i tested in
    let (other, (other_is, mapped)) = and_then_some _ (offset_from (pos offset +ℤ others)) i found in
    let (targets, (targets_are, whole)) = map_some _ (offsets_from offset p.1) i mapped in
    record {
      others = others;
      count = count;
      numbers = numbers;
      numbers_are = refl;
      keys = p.0;
      jumps = p.1;
      pairs = pairs;
      test = test;
      other = other;
      targets = targets;
      targets_are = targets_are;
      whole = sym whole;
    }

IsStill-table_switch : IsStill (switch table_switch)
IsStill-table_switch o o' x i plain e =
    let (long, (zs, (zs_are, found))) = switch_is table_switch o x i e in
    let parts = table_parts o zs i found in
    absurd (true_not_false (names_target i) (ap names_target parts.whole) plain)

IsStill-lookup_switch : IsStill (switch lookup_switch)
IsStill-lookup_switch o o' x i plain e =
    let (long, (zs, (zs_are, found))) = switch_is lookup_switch o x i e in
    let parts = lookup_parts o zs i found in
    absurd (true_not_false (names_target i) (ap names_target parts.whole) plain)

-- ---- the table

infixr 45 ◌also◌
-- a row's fact in front of those of the later ones
◌also◌ : {A B : Type 0} → A → B → A × B
a also b = (a, b)

IsStill-constants_and_loads : AllByRecursion RowIsStill constants_and_loads
IsStill-constants_and_loads = all_still constants_and_loads refl

IsStill-stores_and_stack : AllByRecursion RowIsStill stores_and_stack
IsStill-stores_and_stack = all_still stores_and_stack refl

IsStill-arithmetic : AllByRecursion RowIsStill arithmetic
IsStill-arithmetic = all_still arithmetic refl

IsStill-control_and_objects : AllByRecursion RowIsStill control_and_objects
IsStill-control_and_objects =
    jumps (insn.IfInt test.Eq) (λ t. refl) also jumps (insn.IfInt test.Ne) (λ t. refl) also jumps (insn.IfInt test.Lt) (λ t. refl) also
    jumps (insn.IfInt test.Ge) (λ t. refl) also jumps (insn.IfInt test.Gt) (λ t. refl) also jumps (insn.IfInt test.Le) (λ t. refl) also
    jumps (insn.IfPair test.Eq) (λ t. refl) also jumps (insn.IfPair test.Ne) (λ t. refl) also jumps (insn.IfPair test.Lt) (λ t. refl) also
    jumps (insn.IfPair test.Ge) (λ t. refl) also jumps (insn.IfPair test.Gt) (λ t. refl) also jumps (insn.IfPair test.Le) (λ t. refl) also
    jumps (insn.IfSame true) (λ t. refl) also jumps (insn.IfSame false) (λ t. refl) also jumps insn.Goto (λ t. refl) also still (λ o o' x. refl) also
    still (λ o o' x. refl) also IsStill-table_switch also IsStill-lookup_switch also still (λ o o' x. refl) also still (λ o o' x. refl) also
    still (λ o o' x. refl) also still (λ o o' x. refl) also still (λ o o' x. refl) also still (λ o o' x. refl) also still (λ o o' x. refl) also
    still (λ o o' x. refl) also still (λ o o' x. refl) also still (λ o o' x. refl) also still (λ o o' x. refl) also still (λ o o' x. refl) also
    still (λ o o' x. refl) also still (λ o o' x. refl) also still (λ o o' x. refl) also still (λ o o' x. refl) also still (λ o o' x. refl) also
    still (λ o o' x. refl) also still (λ o o' x. refl) also still (λ o o' x. refl) also still (λ o o' x. refl) also still (λ o o' x. refl) also
    still (λ o o' x. refl) also still (λ o o' x. refl) also still (λ o o' x. refl) also still (λ o o' x. refl) also
    jumps (insn.IfNull true) (λ t. refl) also jumps (insn.IfNull false) (λ t. refl) also long_jumps insn.Goto (λ t. refl) also
    still (λ o o' x. refl) also tt

IsStill-rows : AllByRecursion RowIsStill rows
IsStill-rows =
    AllByRecursion-append RowIsStill ((constants_and_loads ++ stores_and_stack) ++ arithmetic) control_and_objects
    (AllByRecursion-append RowIsStill (constants_and_loads ++ stores_and_stack) arithmetic
    (AllByRecursion-append RowIsStill constants_and_loads stores_and_stack IsStill-constants_and_loads IsStill-stores_and_stack) IsStill-arithmetic)
    IsStill-control_and_objects

-- what holds of each element's image holds of each element of the mapped list
pub All-mapped : {X Y : Type 0} (P : Y → Type 0) (f : X → Y) (xs : List X) → AllByRecursion (λ x. P (f x)) xs → AllByRecursion P (map f xs)
All-mapped P f [] all = tt
All-mapped P f (x ∷ xs) all = (all.0, All-mapped P f xs all.1)

IsStill-reading_of : (opcode : ℕ) → IsStill (reading_of opcode)
IsStill-reading_of opcode =
    AllByRecursion-get_or IsStill (map (λ (row : Row). row.1) rows) malformed (All-mapped IsStill (λ (row : Row). row.1) rows IsStill-rows) (λ o o' x i plain e. e) opcode

-- an instruction without a target is read at each offset
pub read_anywhere : (o o' : ℕ) (x : List ℕ) (i : Insn) → names_target i ≡ false → insn_at o x ≡ Some i → insn_at o' x ≡ Some i
unfolding insn_at
read_anywhere o o' [] i plain e = e
read_anywhere o o' (opcode ∷ x) i plain e = IsStill-reading_of opcode o o' x i plain e
