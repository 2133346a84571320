-- What the laid items of new ones are: an inserted instruction as it is, and an old one as it is but for its targets, or widened.
use Rattle.std.proofs.Common.{◌≡◌, refl, sym, ◌∙◌, ap, subst, ℕ, ◌+◌, ◌++◌, ◌⊎◌, inl, inr, Bool, true, false, cond, List, [], ◌∷◌, length, Option, Some, None}
use Rattle.std.specs.Prelude.{nat_lt, slice_index}
use Rattle.fm_code.specs.InstructionTable.{padding_at}
use Rattle.fm_code.specs.SpellsCode.{with_targets}
use Rattle.fm_code.specs.declared.code_array.Item.{Item}
use Rattle.fm_code.specs.declared.instructions.Insn.{Insn}
use Rattle.fm_code.specs.declared.instructions.Insn.TheVariants as insn
use Rattle.fm_layout.proofs.MovedLemmas.{never_wide}
use Rattle.fm_layout.proofs.WideningLemmas.{AreWider, IsWider}
use Rattle.fm_layout.specs.Laid.{branch_count, goto_w_item, laid_from, moved_item, short_item, wide_items}
use Rattle.fm_layout.specs.Rooms.{narrow, room_of, rooms_of, wide_size}
use Rattle.fm_layout.specs.Spelling.{conditional, inserted_bytes, is_goto_w, kept_item, opposite}
use Rattle.fm_layout.specs.declared.new_items.NewItem.{NewItem}
use Rattle.fm_layout.specs.declared.rooms.Branch.{Branch}
use Rattle.fm_layout.specs.declared.rooms.Condition.{Condition}
use Rattle.fm_layout.specs.declared.rooms.Condition.TheVariants as condition
use Rattle.fm_layout.specs.declared.rooms.Room.{Room}
use Rattle.fm_layout.specs.declared.rooms.Room.TheVariants as room
use Rattle.fm_place.specs.Woven.{inserted}
use Rattle.fm_audit.specs.Reading.{condition_of, loaded, stored}

-- ---- one instruction

-- two instructions load and store the same, and branch on the same condition
pub record AreAlike (i k : Insn) : Type 0 where
  pub loads : (first : ℕ) → loaded first i ≡ loaded first k
  pub stores : (first : ℕ) → stored first i ≡ stored first k
  pub tests : condition_of i ≡ condition_of k

alike_then : (i k l : Insn) → AreAlike i k → AreAlike k l → AreAlike i l
alike_then i k l one other = record {
  loads = λ first. one.loads first ∙ other.loads first;
  stores = λ first. one.stores first ∙ other.stores first;
  tests = one.tests ∙ other.tests;
}

-- whatever its targets are
targets_alike : (f : ℕ → ℕ) (i : Insn) → AreAlike (with_targets f i) i
targets_alike f (insn.IfInt t n) = record { loads = λ first. refl; stores = λ first. refl; tests = refl }
targets_alike f (insn.IfPair t n) = record { loads = λ first. refl; stores = λ first. refl; tests = refl }
targets_alike f (insn.IfSame t n) = record { loads = λ first. refl; stores = λ first. refl; tests = refl }
targets_alike f (insn.IfNull t n) = record { loads = λ first. refl; stores = λ first. refl; tests = refl }
targets_alike f (insn.Goto n) = record { loads = λ first. refl; stores = λ first. refl; tests = refl }
targets_alike f (insn.Table low others targets) = record { loads = λ first. refl; stores = λ first. refl; tests = refl }
targets_alike f (insn.Lookup others keys targets) = record { loads = λ first. refl; stores = λ first. refl; tests = refl }
targets_alike f i = record { loads = λ first. refl; stores = λ first. refl; tests = refl }

pub condition_is : (taken : Condition) (n : ℕ) → condition_of (conditional taken n) ≡ Some taken
condition_is (condition.Int t) n = refl
condition_is (condition.Pair t) n = refl
condition_is (condition.Same t) n = refl
condition_is (condition.Null t) n = refl

-- ---- branches

same_condition : (a b : Branch) → room.Narrow a ≡ room.Narrow b → a.condition ≡ b.condition
same_condition a b e = let same : a ≡ b = cc in ap (λ (c : Branch). c.condition) same

by_condition : (start to target : ℕ) (i : Insn) (a b : Branch) → AreAlike (short_item start a.condition to target).insn i → room.Narrow a ≡ room.Narrow b
    → AreAlike (short_item start b.condition to target).insn i
by_condition start to target i a b alike e = subst (λ (taken : Option Condition). AreAlike (short_item start taken to target).insn i) (same_condition a b e) alike

-- a branch is laid as one on its condition
narrow_alike : (start to target : ℕ) (kept : Option Item) (i : Insn) (b : Branch) → room_of kept i ≡ room.Narrow b
    → AreAlike (short_item start b.condition to target).insn i
narrow_alike start to target kept (insn.IfInt t n) b e =
    by_condition start to target (insn.IfInt t n) (record { condition = Some (condition.Int t); target = n }) b
    (record { loads = λ first. refl; stores = λ first. refl; tests = refl }) e
narrow_alike start to target kept (insn.IfPair t n) b e =
    by_condition start to target (insn.IfPair t n) (record { condition = Some (condition.Pair t); target = n }) b
    (record { loads = λ first. refl; stores = λ first. refl; tests = refl }) e
narrow_alike start to target kept (insn.IfSame t n) b e =
    by_condition start to target (insn.IfSame t n) (record { condition = Some (condition.Same t); target = n }) b
    (record { loads = λ first. refl; stores = λ first. refl; tests = refl }) e
narrow_alike start to target kept (insn.IfNull t n) b e =
    by_condition start to target (insn.IfNull t n) (record { condition = Some (condition.Null t); target = n }) b
    (record { loads = λ first. refl; stores = λ first. refl; tests = refl }) e
narrow_alike start to target kept (insn.Goto n) b e = go (is_goto_w kept) e where
  go : (t : Bool) → cond t (room.Plain 5) (narrow None n) ≡ room.Narrow b → AreAlike (short_item start b.condition to target).insn (insn.Goto n)
  go true same = cc
  go false same =
      by_condition start to target (insn.Goto n) (record { condition = None; target = n }) b
      (record { loads = λ first. refl; stores = λ first. refl; tests = refl }) same
narrow_alike start to target kept (insn.Table low others targets) b e = cc
narrow_alike start to target kept (insn.Lookup others keys targets) b e = cc
narrow_alike start to target kept i b e = cc

-- so is one that is widened, but for the condition
branch_alike : (start to target : ℕ) (kept : Option Item) (i : Insn) (b : Branch) → IsWider (room_of kept i) (room.Narrow b)
    → AreAlike (short_item start b.condition to target).insn i
branch_alike start to target kept i b (inl e) = narrow_alike start to target kept i b e
branch_alike start to target kept i b (inr (c, is, wide)) = cc

wide_alike : (start to target : ℕ) (kept : Option Item) (i : Insn) (b : Branch) → IsWider (room_of kept i) (room.Wide b)
    → AreAlike (short_item start b.condition to target).insn i
wide_alike start to target kept i b (inl e) = absurd (never_wide kept i b e)
wide_alike start to target kept i b (inr (c, is, wide)) =
    let same : c ≡ b = (let h = wide in cc) in
    subst (λ (d : Branch). AreAlike (short_item start d.condition to target).insn i) same (narrow_alike start to target kept i c is)

-- ---- laid items

plain_stays : (n : ℕ) (r : Room) → IsWider (room.Plain n) r → r ≡ room.Plain n
plain_stays n r (inl e) = sym e
plain_stays n r (inr (b, is, wide)) = cc

module _ (old : List Item) (starts firsts : List ℕ) where
  -- these are laid items of new ones, by rooms some of which may be widened
  pub record AreLaid (items : List NewItem) (laid : List Item) : Type 0 where
    pub start : ℕ
    pub number : ℕ
    pub rooms : List Room
    pub wider : AreWider (rooms_of old items) rooms
    pub is : laid ≡ laid_from old starts firsts start number items rooms

  -- the first one has this instruction, and the others are laid items of these new ones
  pub record IsFirst (i : Insn) (rest : List NewItem) (laid : List Item) : Type 0 where
    pub front : Item
    pub insn_is : front.insn ≡ i
    pub more : List Item
    pub more_laid : AreLaid rest more
    pub is : laid ≡ front ∷ more

  -- the first one keeps the old item
  pub record IsWhole (item : Item) (rest : List NewItem) (laid : List Item) : Type 0 where
    pub front : Item
    pub alike : AreAlike front.insn item.insn
    pub more : List Item
    pub more_laid : AreLaid rest more
    pub is : laid ≡ front ∷ more

  -- the first two keep the old item: they are the opposite test and a goto
  pub record IsSplit (item : Item) (rest : List NewItem) (laid : List Item) : Type 0 where
    pub taken : Condition
    pub tests : condition_of item.insn ≡ Some taken
    pub next : ℕ
    pub target : ℕ
    pub test : Item
    pub goto : Item
    pub test_is : test.insn ≡ conditional (opposite taken) next
    pub goto_is : goto.insn ≡ insn.Goto target
    pub more : List Item
    pub more_laid : AreLaid rest more
    pub is : laid ≡ test ∷ goto ∷ more

  -- one of the two
  abbrev pub IsKept : Item → List NewItem → List Item → Type 0
  IsKept item rest laid = IsWhole item rest laid ⊎ IsSplit item rest laid

  -- ---- an inserted one

  first_in : (i : Insn) → room_of None i ≡ room.Plain (length (inserted_bytes i)) → with_targets (slice_index firsts) i ≡ i → (rest : List NewItem) (start number : ℕ)
      (rooms : List Room) → AreWider (rooms_of old (inserted i ∷ rest)) rooms → IsFirst i rest (laid_from old starts firsts start number (inserted i ∷ rest) rooms)
  first_in i plain same rest start number [] wider = absurd wider
  first_in i plain same rest start number (r ∷ rooms) wider =
      let n = length (inserted_bytes i) in
      let r_is : r ≡ room.Plain n = plain_stays n r (subst (λ q. IsWider q r) plain wider.0) in
      subst (λ q. IsFirst i rest (laid_from old starts firsts start number (inserted i ∷ rest) (q ∷ rooms))) (sym r_is)
      (record {
        front = moved_item starts firsts start None i;
        insn_is = same;
        more = laid_from old starts firsts (start + n) (number + 1) rest rooms;
        more_laid = record { start = start + n; number = number + 1; rooms = rooms; wider = wider.1; is = refl };
        is = refl;
      })

  pub inserted_first : (i : Insn) → room_of None i ≡ room.Plain (length (inserted_bytes i)) → with_targets (slice_index firsts) i ≡ i → (rest : List NewItem)
      (laid : List Item) → AreLaid (inserted i ∷ rest) laid → IsFirst i rest laid
  inserted_first i plain same rest laid are = subst (IsFirst i rest) (sym are.is) (first_in i plain same rest are.start are.number are.rooms are.wider)

  -- ---- a kept one

  module _ (item : Item) (f : ℕ → ℕ) (j : ℕ) (rest : List NewItem) where
    abbrev new : NewItem
    new = record { insn = with_targets f item.insn; kept = Some j }

    abbrev old_one : Option Item
    old_one = kept_item old new

    -- it isn't a branch of two bytes
    moved : (start s n : ℕ) (rooms : List Room) → AreWider (rooms_of old rest) rooms
        → IsKept item rest (moved_item starts firsts start old_one (with_targets f item.insn) ∷ laid_from old starts firsts s n rest rooms)
    moved start s n rooms wider = inl (record {
      front = moved_item starts firsts start old_one (with_targets f item.insn);
      alike = alike_then (with_targets (slice_index firsts) (with_targets f item.insn)) (with_targets f item.insn) item.insn
          (targets_alike (slice_index firsts) (with_targets f item.insn)) (targets_alike f item.insn);
      more = laid_from old starts firsts s n rest rooms;
      more_laid = record { start = s; number = n; rooms = rooms; wider = wider; is = refl };
      is = refl;
    })

    -- it is one that isn't widened
    short : (start to target s n : ℕ) (taken : Option Condition) (rooms : List Room) → AreWider (rooms_of old rest) rooms
        → AreAlike (short_item start taken to target).insn (with_targets f item.insn)
        → IsKept item rest (short_item start taken to target ∷ laid_from old starts firsts s n rest rooms)
    short start to target s n taken rooms wider alike = inl (record {
      front = short_item start taken to target;
      alike = alike_then (short_item start taken to target).insn (with_targets f item.insn) item.insn alike (targets_alike f item.insn);
      more = laid_from old starts firsts s n rest rooms;
      more_laid = record { start = s; number = n; rooms = rooms; wider = wider; is = refl };
      is = refl;
    })

    split : (start to target next past s n : ℕ) (taken : Condition) (rooms : List Room) → AreWider (rooms_of old rest) rooms
        → AreAlike (short_item start (Some taken) to target).insn (with_targets f item.insn)
        → IsSplit item rest (short_item start (Some (opposite taken)) past next ∷ goto_w_item (start + 3) to target ∷ laid_from old starts firsts s n rest rooms)
    split start to target next past s n taken rooms wider alike = record {
      taken = taken;
      tests = sym (alike.tests ∙ (targets_alike f item.insn).tests) ∙ condition_is taken target;
      next = next;
      target = target;
      test = short_item start (Some (opposite taken)) past next;
      goto = goto_w_item (start + 3) to target;
      test_is = refl;
      goto_is = refl;
      more = laid_from old starts firsts s n rest rooms;
      more_laid = record { start = s; number = n; rooms = rooms; wider = wider; is = refl };
      is = refl;
    }

    -- it is widened
    wide : (start to target number s n : ℕ) (follows : Bool) (taken : Option Condition) (rooms : List Room) → AreWider (rooms_of old rest) rooms
        → AreAlike (short_item start taken to target).insn (with_targets f item.insn)
        → IsKept item rest (wide_items start number follows taken to target ++ laid_from old starts firsts s n rest rooms)
    wide start to target number s n follows None rooms wider alike = inl (record {
      front = goto_w_item start to target;
      alike = alike_then (insn.Goto target) (with_targets f item.insn) item.insn
          (record { loads = alike.loads; stores = alike.stores; tests = alike.tests }) (targets_alike f item.insn);
      more = laid_from old starts firsts s n rest rooms;
      more_laid = record { start = s; number = n; rooms = rooms; wider = wider; is = refl };
      is = refl;
    })
    wide start to target number s n true (Some taken) rooms wider alike =
        inr (split start to target (number + 2) (start + (3 + 5)) s n taken rooms wider alike)
    wide start to target number s n false (Some taken) rooms wider alike =
        inr (split start to target (number + 1) (start + 3) s n taken rooms wider alike)

    kept_in : (start number : ℕ) (rooms : List Room) → AreWider (rooms_of old (new ∷ rest)) rooms
        → IsKept item rest (laid_from old starts firsts start number (new ∷ rest) rooms)
    kept_in start number [] wider = absurd wider
    kept_in start number (room.Plain size ∷ rooms) wider = moved start (start + size) (number + 1) rooms wider.1
    kept_in start number (room.Switch size ∷ rooms) wider = moved start (start + ((1 + padding_at start) + size)) (number + 1) rooms wider.1
    kept_in start number (room.Narrow b ∷ rooms) wider =
        let to = slice_index starts b.target in
        let target = slice_index firsts b.target in
        short start to target (start + 3) (number + 1) b.condition rooms wider.1
        (branch_alike start to target old_one (with_targets f item.insn) b wider.0)
    kept_in start number (room.Wide b ∷ rooms) wider =
        let to = slice_index starts b.target in
        let target = slice_index firsts b.target in
        wide start to target number (start + wide_size b.condition) (number + branch_count b.condition) (nat_lt 0 (length rest)) b.condition rooms wider.1
        (wide_alike start to target old_one (with_targets f item.insn) b wider.0)

    pub kept_first : (laid : List Item) → AreLaid (new ∷ rest) laid → IsKept item rest laid
    kept_first laid are = subst (IsKept item rest) (sym are.is) (kept_in are.start are.number are.rooms are.wider)
