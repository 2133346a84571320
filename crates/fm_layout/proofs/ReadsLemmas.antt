-- The bytes of laid items are read as their instructions, but for switches.
use Rattle.std.proofs.Common.{◌≡◌, ℕ, zero, suc, ◌+◌, ◌<◌, ◌≤◌, Bool, true, false, List, [], ◌∷◌, refl, sym, ap, ◌∙◌, arith, if◌then◌else◌, Option, Some, None, option_and_then, pos}
use Rattle.std.specs.Prelude.{◌+ℤ◌, nat_lt, slice_get, IsSomeAnd}
use Rattle.std.specs.List.{AllByRecursion}
use Rattle.std.proofs.lemmas.Bool.{ltb-true}
use Rattle.fm_base.proofs.ListFacts.{AllByRecursion-at}
use Rattle.fm_code.specs.ClassBytes.{offset_in}
use Rattle.fm_code.specs.Fits.{FitsTwo}
use Rattle.fm_code.specs.InstructionTable.{insn_at, jump, jump_to, long_jump}
use Rattle.fm_code.specs.Numbers.{two}
use Rattle.fm_code.specs.SpellsCode.{ItemIsSpelled, with_targets}
use Rattle.fm_code.specs.declared.code_array.Item.{Item}
use Rattle.fm_code.specs.declared.opcodes.TheConstants.{WIDE}
use Rattle.fm_code.specs.declared.operations.Reg.TheVariants as reg
use Rattle.fm_code.specs.declared.operations.Test.TheVariants as test
use Rattle.fm_code.specs.declared.instructions.Insn.{Insn}
use Rattle.fm_code.specs.declared.instructions.Insn.TheVariants as insn
use Rattle.fm_layout.specs.Conditions.{IsInserted, IsOrigin, IsSameButTargets}
use Rattle.fm_layout.specs.Laid.{short_item, goto_w_item}
use Rattle.fm_layout.specs.Rooms.{is_in_reach}
use Rattle.fm_layout.specs.Spelling.{distance, inserted_bytes, local_bytes, plain_bytes, signed_short}
use Rattle.fm_layout.specs.declared.rooms.Condition.{Condition}
use Rattle.fm_layout.specs.declared.rooms.Condition.TheVariants as condition
use Rattle.fm_layout.proofs.NumbersLemmas.{in_reach, four_reads, distance_fits, distance_back, halves}
use Rattle.fm_layout.proofs.StillLemmas.{names_target, read_anywhere}

-- the bytes of an item are read at its offset as its instruction, with the offsets of its targets
abbrev pub IsRead : (ℕ → ℕ) → Item → Type 0
IsRead f item = insn_at item.offset item.bytes ≡ Some (with_targets f item.insn)

-- ---- branches

jumped : (make : ℕ → Insn) (start to : ℕ) (target : ℕ) (f : ℕ → ℕ) → is_in_reach start to ≡ true → f target ≡ to
    → jump make start (signed_short (distance start to)) ≡ Some (make (f target))
jumped make start to target f near e =
    let read = in_reach start to near in
    ap (λ bytes. jump make start bytes) read.bytes_are ∙ ap (λ z. jump_to make (pos start +ℤ z)) read.reads ∙ ap (λ z. jump_to make z) (distance_back start to)
    ∙ ap (λ t. Some (make t)) (sym e)

pub short_read : (start to target : ℕ) (taken : Option Condition) (f : ℕ → ℕ) → is_in_reach start to ≡ true → f target ≡ to → IsRead f (short_item start taken to target)
unfolding insn_at
short_read start to target None f near e = jumped insn.Goto start to target f near e
short_read start to target (Some (condition.Int test.Eq)) f near e = jumped (insn.IfInt test.Eq) start to target f near e
short_read start to target (Some (condition.Int test.Ne)) f near e = jumped (insn.IfInt test.Ne) start to target f near e
short_read start to target (Some (condition.Int test.Lt)) f near e = jumped (insn.IfInt test.Lt) start to target f near e
short_read start to target (Some (condition.Int test.Ge)) f near e = jumped (insn.IfInt test.Ge) start to target f near e
short_read start to target (Some (condition.Int test.Gt)) f near e = jumped (insn.IfInt test.Gt) start to target f near e
short_read start to target (Some (condition.Int test.Le)) f near e = jumped (insn.IfInt test.Le) start to target f near e
short_read start to target (Some (condition.Pair test.Eq)) f near e = jumped (insn.IfPair test.Eq) start to target f near e
short_read start to target (Some (condition.Pair test.Ne)) f near e = jumped (insn.IfPair test.Ne) start to target f near e
short_read start to target (Some (condition.Pair test.Lt)) f near e = jumped (insn.IfPair test.Lt) start to target f near e
short_read start to target (Some (condition.Pair test.Ge)) f near e = jumped (insn.IfPair test.Ge) start to target f near e
short_read start to target (Some (condition.Pair test.Gt)) f near e = jumped (insn.IfPair test.Gt) start to target f near e
short_read start to target (Some (condition.Pair test.Le)) f near e = jumped (insn.IfPair test.Le) start to target f near e
short_read start to target (Some (condition.Same true)) f near e = jumped (insn.IfSame true) start to target f near e
short_read start to target (Some (condition.Same false)) f near e = jumped (insn.IfSame false) start to target f near e
short_read start to target (Some (condition.Null true)) f near e = jumped (insn.IfNull true) start to target f near e
short_read start to target (Some (condition.Null false)) f near e = jumped (insn.IfNull false) start to target f near e

pub goto_w_read : (start to target : ℕ) (f : ℕ → ℕ) → start ≤ 65535 → to ≤ 65535 → f target ≡ to → IsRead f (goto_w_item start to target)
unfolding insn_at
goto_w_read start to target f near far e =
    let read = four_reads (distance start to) (distance_fits start to near far) in
    ap (λ bytes. long_jump insn.Goto start bytes) read.bytes_are ∙ ap (λ z. jump_to insn.Goto (pos start +ℤ z)) read.reads
    ∙ ap (λ z. jump_to insn.Goto z) (distance_back start to) ∙ ap (λ t. Some (insn.Goto t)) (sym e)

-- ---- instructions without targets

pub untargeted : (f : ℕ → ℕ) (i : Insn) → names_target i ≡ false → with_targets f i ≡ i
untargeted f (insn.IfInt t n) plain = cc
untargeted f (insn.IfPair t n) plain = cc
untargeted f (insn.IfSame t n) plain = cc
untargeted f (insn.IfNull t n) plain = cc
untargeted f (insn.Goto n) plain = cc
untargeted f (insn.Table low others targets) plain = cc
untargeted f (insn.Lookup others keys targets) plain = cc
untargeted f i plain = refl

pub names_target-with : (f : ℕ → ℕ) (i : Insn) → names_target (with_targets f i) ≡ names_target i
names_target-with f (insn.IfInt t n) = refl
names_target-with f (insn.IfPair t n) = refl
names_target-with f (insn.IfSame t n) = refl
names_target-with f (insn.IfNull t n) = refl
names_target-with f (insn.Goto n) = refl
names_target-with f (insn.Table low others targets) = refl
names_target-with f (insn.Lookup others keys targets) = refl
names_target-with f i = refl

-- the same but for targets, and without any
pub same_untargeted : (i j : Insn) → IsSameButTargets i j → names_target i ≡ false → (i ≡ j) × (names_target j ≡ false)
same_untargeted i j same plain =
    let z : ℕ → ℕ = λ t. zero in
    let other : names_target j ≡ false = sym (names_target-with z j) ∙ ap names_target (sym same) ∙ names_target-with z i ∙ plain in
    (sym (untargeted z i plain) ∙ same ∙ untargeted z j other, other)

-- a kept instruction without targets
pub kept_read : (old : List Item) (item : Item) (i : Insn) (start : ℕ) (f : ℕ → ℕ) → ItemIsSpelled old item → IsSameButTargets i item.insn → names_target i ≡ false
    → insn_at start item.bytes ≡ Some (with_targets f i)
kept_read old item i start f spelled same plain =
    let (whole, other) = same_untargeted i item.insn same plain in
    let read : insn_at item.offset item.bytes ≡ Some item.insn = spelled.instruction ∙ ap (λ j. Some j) (untargeted (offset_in old zero) item.insn other) in
    read_anywhere item.offset start item.bytes item.insn other read ∙ ap (λ j. Some j) (sym whole) ∙ ap (λ j. Some j) (sym (untargeted f i plain))

-- ---- inserted instructions

load_small : (start local : ℕ) → local < 4 → insn_at start ((42 + local) ∷ []) ≡ Some (insn.Load reg.Ref local)
unfolding insn_at
load_small start zero few = refl
load_small start (suc zero) few = refl
load_small start (suc (suc zero)) few = refl
load_small start (suc (suc (suc zero))) few = refl
load_small start (suc (suc (suc (suc n)))) few = absurd (omega arith)

store_small : (start local : ℕ) → local < 4 → insn_at start ((75 + local) ∷ []) ≡ Some (insn.Store reg.Ref local)
unfolding insn_at
store_small start zero few = refl
store_small start (suc zero) few = refl
store_small start (suc (suc zero)) few = refl
store_small start (suc (suc (suc zero))) few = refl
store_small start (suc (suc (suc (suc n)))) few = absurd (omega arith)

load_read : (start local : ℕ) → FitsTwo local → insn_at start (local_bytes 42 25 local) ≡ Some (insn.Load reg.Ref local)
unfolding insn_at two
load_read start local fits = go (nat_lt local 4) refl (nat_lt local 256) where
  go : (few : Bool) → nat_lt local 4 ≡ few → (some : Bool)
      → insn_at start (if few then (42 + local) ∷ [] else if some then 25 ∷ local ∷ [] else WIDE ∷ 25 ∷ two local) ≡ Some (insn.Load reg.Ref local)
  go true e some = load_small start local (ltb-true local 4 e)
  go false e true = refl
  go false e false = ap (λ n. Some (insn.Load reg.Ref n)) (halves local fits)

store_read : (start local : ℕ) → FitsTwo local → insn_at start (local_bytes 75 58 local) ≡ Some (insn.Store reg.Ref local)
unfolding insn_at two
store_read start local fits = go (nat_lt local 4) refl (nat_lt local 256) where
  go : (few : Bool) → nat_lt local 4 ≡ few → (some : Bool)
      → insn_at start (if few then (75 + local) ∷ [] else if some then 58 ∷ local ∷ [] else WIDE ∷ 58 ∷ two local) ≡ Some (insn.Store reg.Ref local)
  go true e some = store_small start local (ltb-true local 4 e)
  go false e true = refl
  go false e false = ap (λ n. Some (insn.Store reg.Ref n)) (halves local fits)

static_read : (start index : ℕ) → FitsTwo index → insn_at start (inserted_bytes (insn.Static index)) ≡ Some (insn.Static index)
unfolding insn_at two
static_read start index fits = ap (λ n. Some (insn.Static n)) (halves index fits)

inserted_read : (i : Insn) (start : ℕ) (f : ℕ → ℕ) → IsInserted i → insn_at start (inserted_bytes i) ≡ Some (with_targets f i)
unfolding insn_at
inserted_read insn.Null start f inserted = refl
inserted_read insn.Dup start f inserted = refl
inserted_read (insn.Load reg.Ref local) start f inserted = load_read start local inserted
inserted_read (insn.Store reg.Ref local) start f inserted = store_read start local inserted
inserted_read (insn.Static index) start f inserted = static_read start index inserted
inserted_read i start f inserted = absurd inserted

-- ---- instructions that are copied or inserted

pub plain_read : (old : List Item) (i : Insn) (kept : Option ℕ) (start : ℕ) (f : ℕ → ℕ) → AllByRecursion (ItemIsSpelled old) old → IsOrigin old i kept
    → names_target i ≡ false → insn_at start (plain_bytes (option_and_then (λ k. slice_get old k) kept) i) ≡ Some (with_targets f i)
plain_read old i None start f spelled inserted plain = inserted_read i start f inserted
plain_read old i (Some k) start f spelled origin plain = go (slice_get old k) refl origin where
  go : (o : Option Item) → slice_get old k ≡ o → IsSomeAnd o (λ item. IsSameButTargets i item.insn) → insn_at start (plain_bytes o i) ≡ Some (with_targets f i)
  go None e same = absurd same
  go (Some item) e same = kept_read old item i start f (AllByRecursion-at (ItemIsSpelled old) old k item spelled e) same plain
