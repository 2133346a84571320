-- What holds of branches and of moved items holds of all laid-out items; so each has its locals, and what it names in the pool is there.
use Rattle.std.proofs.Common.{◌≡◌, ℕ, ◌+◌, Bool, true, false, List, [], ◌∷◌, length, Option, Some, None, IsSomeAnd, refl, sym, ap, subst, ◌∙◌, option_and_then, inl}
use Rattle.std.specs.Prelude.{nat_lt, slice_get, slice_index}
use Rattle.std.specs.List.{AllByRecursion}
use Rattle.fm_base.proofs.ListFacts.{AllByRecursion-append, AllByRecursion-at}
use Rattle.fm_base.proofs.OptionFacts.{IsSome-from_some}
use Rattle.fm_chain.specs.declared.calls.Calls.{Calls}
use Rattle.fm_code.specs.ConstantPool.{method_ref_at}
use Rattle.fm_code.specs.Operands.{OperandIsValid}
use Rattle.fm_code.specs.SpellsCode.{LocalsFit, with_targets}
use Rattle.fm_code.specs.declared.code_array.Item.{Item}
use Rattle.fm_code.specs.declared.constant_pool.Entry.{Entry}
use Rattle.fm_code.specs.declared.instructions.Insn.{Insn}
use Rattle.fm_code.specs.declared.instructions.Insn.TheVariants as insn
use Rattle.fm_code.specs.declared.operations.Reg.TheVariants as reg
use Rattle.fm_layout.proofs.ReadsLemmas.{same_untargeted, untargeted}
use Rattle.fm_layout.proofs.StillLemmas.{names_target}
use Rattle.fm_layout.specs.Conditions.{HasOrigin, IsOrigin, IsSameButTargets}
use Rattle.fm_layout.specs.Laid.{goto_w_item, item_count, laid_from, laid_items, moved_item, short_item, wide_items}
use Rattle.fm_layout.specs.Rooms.{size_at}
use Rattle.fm_layout.specs.Spelling.{kept_item, moved_bytes, opposite, plain_bytes}
use Rattle.fm_layout.specs.declared.new_items.NewItem.{NewItem}
use Rattle.fm_layout.specs.declared.rooms.Condition.{Condition}
use Rattle.fm_layout.specs.declared.rooms.Condition.TheVariants as condition
use Rattle.fm_layout.specs.declared.rooms.Room.{Room}
use Rattle.fm_layout.specs.declared.rooms.Room.TheVariants as room
use Rattle.fm_law_spelled.proofs.InsertedFits.{FitsAs, InsertedFits, NamesCalls, NewFits}
use Rattle.fm_law_spelled.specs.Calling.{member_name_of}

-- ---- any fact of laid items

-- the fact holds of an item with targets, whatever they and its bytes are
abbrev pub HoldsOfTargets : (Item → Type 0) → Type 0
HoldsOfTargets P = (offset : ℕ) (bytes : List ℕ) (f : ℕ → ℕ) (i : Insn) → names_target i ≡ true → P (record { offset = offset; bytes = bytes; insn = with_targets f i })

module _ (P : Item → Type 0) (targeted : HoldsOfTargets P) where
  branch_holds : (start to target : ℕ) (taken : Option Condition) → P (short_item start taken to target)
  branch_holds start to target None = targeted start (short_item start None to target).bytes (λ t. t) (insn.Goto target) refl
  branch_holds start to target (Some (condition.Int t)) = targeted start (short_item start (Some (condition.Int t)) to target).bytes (λ t. t) (insn.IfInt t target) refl
  branch_holds start to target (Some (condition.Pair t)) = targeted start (short_item start (Some (condition.Pair t)) to target).bytes (λ t. t) (insn.IfPair t target) refl
  branch_holds start to target (Some (condition.Same same)) = targeted start (short_item start (Some (condition.Same same)) to target).bytes (λ t. t) (insn.IfSame same target) refl
  branch_holds start to target (Some (condition.Null null)) = targeted start (short_item start (Some (condition.Null null)) to target).bytes (λ t. t) (insn.IfNull null target) refl

  wide_holds : (start first : ℕ) (follows : Bool) (taken : Option Condition) (to target : ℕ) → AllByRecursion P (wide_items start first follows taken to target)
  wide_holds start first follows None to target = (targeted start (goto_w_item start to target).bytes (λ t. t) (insn.Goto target) refl, tt)
  wide_holds start first true (Some taken) to target =
      (branch_holds start (start + 8) (first + 2) (Some (opposite taken)), (targeted (start + 3) (goto_w_item (start + 3) to target).bytes (λ t. t) (insn.Goto target) refl, tt))
  wide_holds start first false (Some taken) to target =
      (branch_holds start (start + 3) (first + 1) (Some (opposite taken)), (targeted (start + 3) (goto_w_item (start + 3) to target).bytes (λ t. t) (insn.Goto target) refl, tt))

  module _ (chains : Bool) (calls : Calls) (locals : ℕ) (old : List Item)
      (kept : (starts firsts : List ℕ) (start : ℕ) (item : Item) (i : Insn) → IsSameButTargets i item.insn → P item → P (moved_item starts firsts start (Some item) i))
      (inserted : (starts firsts : List ℕ) (start : ℕ) (i : Insn) → InsertedFits chains calls locals i → P (moved_item starts firsts start None i)) (known : AllByRecursion P old) where
    moved_holds : (starts firsts : List ℕ) (start : ℕ) (i : Insn) (origin : Option ℕ) → IsOrigin old i origin → FitsAs chains calls locals i origin
        → P (moved_item starts firsts start (option_and_then (λ k. slice_get old k) origin) i)
    moved_holds starts firsts start i None is fits = inserted starts firsts start i fits
    moved_holds starts firsts start i (Some k) is fits = go (slice_get old k) refl is where
      go : (o : Option Item) → slice_get old k ≡ o → IsSomeAnd o (λ item. IsSameButTargets i item.insn) → P (moved_item starts firsts start o i)
      go None found same = absurd same
      go (Some item) found same = kept starts firsts start item i same (AllByRecursion-at P old k item known found)

    one_holds : (starts firsts : List ℕ) (start first : ℕ) (follows : Bool) (new : NewItem) (r : Room) → HasOrigin old new → NewFits chains calls locals new
        → AllByRecursion P (laid_items starts firsts start first follows (kept_item old new) new.insn r)
    one_holds starts firsts start first follows new (room.Plain n) origin fits = (moved_holds starts firsts start new.insn new.kept origin fits, tt)
    one_holds starts firsts start first follows new (room.Switch n) origin fits = (moved_holds starts firsts start new.insn new.kept origin fits, tt)
    one_holds starts firsts start first follows new (room.Narrow b) origin fits = (branch_holds start (slice_index starts b.target) (slice_index firsts b.target) b.condition, tt)
    one_holds starts firsts start first follows new (room.Wide b) origin fits = wide_holds start first follows b.condition (slice_index starts b.target) (slice_index firsts b.target)

    pub laid_hold : (starts firsts : List ℕ) (start first : ℕ) (items : List NewItem) (rooms : List Room) → AllByRecursion (HasOrigin old) items
        → AllByRecursion (NewFits chains calls locals) items → AllByRecursion P (laid_from old starts firsts start first items rooms)
    laid_hold starts firsts start first [] rooms origins fit = tt
    laid_hold starts firsts start first (new ∷ items) [] origins fit = tt
    laid_hold starts firsts start first (new ∷ items) (r ∷ rooms) origins fit =
        AllByRecursion-append P _ (laid_from old starts firsts (start + size_at start r) (first + item_count r) items rooms)
        (one_holds starts firsts start first (nat_lt 0 (length items)) new r origins.0 fit.0)
        (laid_hold starts firsts (start + size_at start r) (first + item_count r) items rooms origins.1 fit.1)

-- ---- locals and operands

-- an item's locals are among this many, and its operand is in the pool
abbrev pub ItemFits : (locals : ℕ) → List Entry → Item → Type 0
ItemFits locals entries item = LocalsFit locals item.insn × OperandIsValid entries item

-- an instruction with targets asks for nothing
targeted_fits : (locals : ℕ) (entries : List Entry) (offset : ℕ) (bytes : List ℕ) (f : ℕ → ℕ) (i : Insn) → names_target i ≡ true
    → ItemFits locals entries (record { offset = offset; bytes = bytes; insn = with_targets f i })
targeted_fits locals entries offset bytes f (insn.IfInt t n) named = (tt, tt)
targeted_fits locals entries offset bytes f (insn.IfPair t n) named = (tt, tt)
targeted_fits locals entries offset bytes f (insn.IfSame t n) named = (tt, tt)
targeted_fits locals entries offset bytes f (insn.IfNull t n) named = (tt, tt)
targeted_fits locals entries offset bytes f (insn.Goto n) named = (tt, tt)
targeted_fits locals entries offset bytes f (insn.Table low others targets) named = (tt, tt)
targeted_fits locals entries offset bytes f (insn.Lookup others keys targets) named = (tt, tt)
targeted_fits locals entries offset bytes f i named = absurd cc

-- what an item requires of the pool doesn't hang on its offset
operand_there : (entries : List Entry) (offset start : ℕ) (bytes : List ℕ) (i : Insn) → OperandIsValid entries (record { offset = offset; bytes = bytes; insn = i })
    → OperandIsValid entries (record { offset = start; bytes = bytes; insn = i })
operand_there entries offset start bytes insn.Nop valid = valid
operand_there entries offset start bytes i valid = valid

-- the bytes of an instruction without targets stay
plain_stays : (starts : List ℕ) (start : ℕ) (kept : Option Item) (i : Insn) → names_target i ≡ false → moved_bytes starts start kept i ≡ plain_bytes kept i
plain_stays starts start kept (insn.Goto n) plain = absurd cc
plain_stays starts start kept (insn.Table low others targets) plain = absurd cc
plain_stays starts start kept (insn.Lookup others keys targets) plain = absurd cc
plain_stays starts start kept i plain = refl

kept_fits : (locals : ℕ) (entries : List Entry) (starts firsts : List ℕ) (start : ℕ) (item : Item) (i : Insn) → IsSameButTargets i item.insn → ItemFits locals entries item
    → ItemFits locals entries (moved_item starts firsts start (Some item) i)
kept_fits locals entries starts firsts start item i same (local, operand) = by (names_target i) refl where
  by : (t : Bool) → names_target i ≡ t → ItemFits locals entries (moved_item starts firsts start (Some item) i)
  by true named = targeted_fits locals entries start (moved_bytes starts start (Some item) i) (slice_index firsts) i named
  by false plain =
      let own = same_untargeted i item.insn same plain in
      let whole : with_targets (slice_index firsts) i ≡ item.insn = untargeted (slice_index firsts) i plain ∙ own.0 in
      let bytes : moved_bytes starts start (Some item) i ≡ item.bytes = plain_stays starts start (Some item) i plain in
      let there = operand_there entries item.offset start item.bytes item.insn operand in
      let made : moved_item starts firsts start (Some item) i ≡ record { offset = start; bytes = item.bytes; insn = item.insn } =
      λ k. record { offset = start; bytes = bytes k; insn = whole k } in
      subst (λ (x : Item). ItemFits locals entries x) (sym made) (local, there)

inserted_fits : (chains : Bool) (calls : Calls) (locals : ℕ) (entries : List Entry) → NamesCalls chains calls entries → (starts firsts : List ℕ) (start : ℕ)
    (i : Insn) → InsertedFits chains calls locals i → ItemFits locals entries (moved_item starts firsts start None i)
inserted_fits chains calls locals entries named starts firsts start insn.Null fits = (tt, tt)
inserted_fits chains calls locals entries named starts firsts start insn.Dup fits = (tt, tt)
inserted_fits chains calls locals entries named starts firsts start (insn.Load reg.Ref local) fits = (fits, tt)
inserted_fits chains calls locals entries named starts firsts start (insn.Store reg.Ref local) fits = (fits, tt)
inserted_fits chains calls locals entries named starts firsts start (insn.Static index) fits =
    (tt, inl (IsSome-from_some (method_ref_at entries index) (member_name_of fits.0) (ap (method_ref_at entries) fits.2 ∙ named fits.0 fits.1)))
inserted_fits chains calls locals entries named starts firsts start i fits = absurd fits

-- ---- all items

pub laid_fits : (chains : Bool) (calls : Calls) (locals : ℕ) (entries : List Entry) → NamesCalls chains calls entries → (old : List Item)
    → AllByRecursion (ItemFits locals entries) old → (starts firsts : List ℕ) (start first : ℕ) (items : List NewItem) (rooms : List Room)
    → AllByRecursion (HasOrigin old) items → AllByRecursion (NewFits chains calls locals) items
    → AllByRecursion (ItemFits locals entries) (laid_from old starts firsts start first items rooms)
laid_fits chains calls locals entries named old known =
    laid_hold (ItemFits locals entries) (targeted_fits locals entries) chains calls locals old (kept_fits locals entries)
    (inserted_fits chains calls locals entries named) known
