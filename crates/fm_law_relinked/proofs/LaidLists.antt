-- A view of the instructions of code with insertions that doesn't depend on targets and has nothing for what
-- is inserted is that of the old ones, in their order.
use Rattle.std.proofs.Common.{◌≡◌, refl, sym, ◌∙◌, ap, ℕ, ◌+◌, inl, inr, Bool, true, false, List, [], ◌∷◌, ◌++◌, length, Option, Some, None}
use Rattle.std.specs.Prelude.{nat_lt, slice_index}
use Rattle.std.specs.List.{cons_option, filter_map, flat_map, range_with_len}
use Rattle.std.proofs.lemmas.List.Elements.{filter_map-append}
use Rattle.fm_chain.specs.Chained.{anchors_of, chained, chained_code, chained_item, chained_items, looped_at, released, taken}
use Rattle.fm_chain.specs.declared.calls.Calls.{Calls}
use Rattle.fm_code.specs.SpellsCode.{with_targets}
use Rattle.fm_code.specs.declared.code_array.Code.{Code}
use Rattle.fm_code.specs.declared.code_array.Item.{Item}
use Rattle.fm_code.specs.declared.instructions.Insn.{Insn}
use Rattle.fm_code.specs.declared.instructions.Insn.TheVariants as insn
use Rattle.fm_code.specs.declared.operations.Reg.TheVariants as reg
use Rattle.fm_layout.proofs.MovedLemmas.{never_wide}
use Rattle.fm_layout.proofs.ReadsLemmas.{names_target-with, untargeted}
use Rattle.fm_layout.proofs.StillLemmas.{names_target}
use Rattle.fm_layout.proofs.WideningLemmas.{AreWider, IsWider, rounds_wider}
use Rattle.fm_layout.specs.Laid.{firsts_from, item_count, laid_from, laid_items, laid_of, short_item, wide_items}
use Rattle.fm_layout.specs.Rooms.{room_of, rooms_of, size_at, starts_from, widened_rooms}
use Rattle.fm_layout.specs.Spelling.{kept_item, opposite}
use Rattle.fm_layout.specs.declared.new_items.NewItem.{NewItem}
use Rattle.fm_layout.specs.declared.rooms.Branch.{Branch}
use Rattle.fm_layout.specs.declared.rooms.Condition.{Condition}
use Rattle.fm_layout.specs.declared.rooms.Condition.TheVariants as condition
use Rattle.fm_layout.specs.declared.rooms.Room.{Room}
use Rattle.fm_layout.specs.declared.rooms.Room.TheVariants as room
use Rattle.fm_place.specs.Insertions.{after_at, before_at, Insertions}
use Rattle.fm_law_spelled.specs.Calling.{CallsChain, CallsFree, CallsLink, IsCall}
use Rattle.fm_place.specs.Woven.{freed, kept, local_of, null_stored}

-- the view has nothing for instructions with targets and for what is inserted
pub record IsView {B : Type 0} (chains : Bool) (calls : Calls) (view : Insn → Option B) : Type 0 where
  pub branches : (i : Insn) → names_target i ≡ true → view i ≡ None
  pub null : view insn.Null ≡ None
  pub doubled : view insn.Dup ≡ None
  pub load : (k : ℕ) → view (insn.Load reg.Ref k) ≡ None
  pub store : (k : ℕ) → view (insn.Store reg.Ref k) ≡ None
  pub call : (index : ℕ) → IsCall chains calls index → view (insn.Static index) ≡ None

-- ---- rooms of branches

narrow_named : (kept : Option Item) (i : Insn) (b : Branch) → room_of kept i ≡ room.Narrow b → names_target i ≡ true
narrow_named kept (insn.IfInt t n) b e = refl
narrow_named kept (insn.IfPair t n) b e = refl
narrow_named kept (insn.IfSame t n) b e = refl
narrow_named kept (insn.IfNull t n) b e = refl
narrow_named kept (insn.Goto n) b e = refl
narrow_named kept (insn.Table low others targets) b e = refl
narrow_named kept (insn.Lookup others keys targets) b e = refl
narrow_named kept i b e = cc

-- a branch is widened or isn't
branch_named : (kept : Option Item) (i : Insn) (b : Branch) → IsWider (room_of kept i) (room.Narrow b) → names_target i ≡ true
branch_named kept i b (inl e) = narrow_named kept i b e
branch_named kept i b (inr (c, narrow, wide)) = cc

wide_named : (kept : Option Item) (i : Insn) (b : Branch) → IsWider (room_of kept i) (room.Wide b) → names_target i ≡ true
wide_named kept i b (inl e) = absurd (never_wide kept i b e)
wide_named kept i b (inr (c, narrow, wide)) = narrow_named kept i c narrow

module _ {B : Type 0} (chains : Bool) (calls : Calls) (view : Insn → Option B) (is : IsView chains calls view) where
  abbrev of_item : Item → Option B
  of_item item = view item.insn

  abbrev of_new : NewItem → Option B
  of_new new = view new.insn

  -- the view doesn't depend on targets
  alike : (f : ℕ → ℕ) (i : Insn) → view (with_targets f i) ≡ view i
  alike f i = by_target (names_target i) refl where
    by_target : (b : Bool) → names_target i ≡ b → view (with_targets f i) ≡ view i
    by_target true named = is.branches (with_targets f i) (names_target-with f i ∙ named) ∙ sym (is.branches i named)
    by_target false plain = ap view (untargeted f i plain)

  -- ---- laid items

  short_none : (start to target : ℕ) (taken : Option Condition) → view (short_item start taken to target).insn ≡ None
  short_none start to target None = is.branches (insn.Goto target) refl
  short_none start to target (Some (condition.Int t)) = is.branches (insn.IfInt t target) refl
  short_none start to target (Some (condition.Pair t)) = is.branches (insn.IfPair t target) refl
  short_none start to target (Some (condition.Same t)) = is.branches (insn.IfSame t target) refl
  short_none start to target (Some (condition.Null t)) = is.branches (insn.IfNull t target) refl

  both_none : (o p : Option B) → o ≡ None → p ≡ None → cons_option o (cons_option p []) ≡ []
  both_none o p first second = λ k. cons_option (first k) (cons_option (second k) [])

  wide_none : (start first : ℕ) (follows : Bool) (taken : Option Condition) (to target : ℕ) → filter_map of_item (wide_items start first follows taken to target) ≡ []
  wide_none start first follows None to target = λ k. cons_option (is.branches (insn.Goto target) refl k) []
  wide_none start first true (Some taken) to target = both_none _ _ (short_none start (start + 8) (first + 2) (Some (opposite taken))) (is.branches (insn.Goto target) refl)
  wide_none start first false (Some taken) to target = both_none _ _ (short_none start (start + 3) (first + 1) (Some (opposite taken))) (is.branches (insn.Goto target) refl)

  one_listed : (starts firsts : List ℕ) (start first : ℕ) (follows : Bool) (kept : Option Item) (i : Insn) (r : Room) → IsWider (room_of kept i) r
      → filter_map of_item (laid_items starts firsts start first follows kept i r) ≡ cons_option (view i) []
  one_listed starts firsts start first follows kept i (room.Plain n) wider = λ k. cons_option (alike (slice_index firsts) i k) []
  one_listed starts firsts start first follows kept i (room.Switch n) wider = λ k. cons_option (alike (slice_index firsts) i k) []
  one_listed starts firsts start first follows kept i (room.Narrow b) wider =
      ap (λ (o : Option B). cons_option o []) (short_none start (slice_index starts b.target) (slice_index firsts b.target) b.condition)
      ∙ ap (λ (o : Option B). cons_option o []) (sym (is.branches i (branch_named kept i b wider)))
  one_listed starts firsts start first follows kept i (room.Wide b) wider =
      wide_none start first follows b.condition (slice_index starts b.target) (slice_index firsts b.target)
      ∙ ap (λ (o : Option B). cons_option o []) (sym (is.branches i (wide_named kept i b wider)))

  onto : (o : Option B) (xs : List B) → cons_option o [] ++ xs ≡ cons_option o xs
  onto None xs = refl
  onto (Some x) xs = refl

  laid_listed : (old : List Item) (starts firsts : List ℕ) (start first : ℕ) (items : List NewItem) (rooms : List Room) → AreWider (rooms_of old items) rooms
      → filter_map of_item (laid_from old starts firsts start first items rooms) ≡ filter_map of_new items
  laid_listed old starts firsts start first [] rooms wider = refl
  laid_listed old starts firsts start first (new ∷ items) [] wider = absurd wider
  laid_listed old starts firsts start first (new ∷ items) (r ∷ rooms) wider =
      let here = laid_items starts firsts start first (nat_lt 0 (length items)) (kept_item old new) new.insn r in
      let rest = laid_from old starts firsts (start + size_at start r) (first + item_count r) items rooms in
      filter_map-append of_item here rest
      ∙ (λ k. one_listed starts firsts start first (nat_lt 0 (length items)) (kept_item old new) new.insn r wider.0 k
      ++ laid_listed old starts firsts (start + size_at start r) (first + item_count r) items rooms wider.1 k)
      ∙ onto (view new.insn) (filter_map of_new items)

  all_laid : (old : List Item) (items : List NewItem) → filter_map of_item (laid_of old items).items ≡ filter_map of_new items
  unfolding laid_of
  all_laid old items =
      let rooms = widened_rooms (rooms_of old items) in
      laid_listed old (starts_from 0 rooms) (firsts_from 0 rooms) 0 0 items rooms (rounds_wider (length (rooms_of old items)) (rooms_of old items))

  -- ---- what is inserted

  null_none : (local : ℕ) → filter_map of_new (null_stored local) ≡ []
  null_none local = both_none _ _ is.null (is.store local)

  freed_none : (call local : ℕ) → IsCall chains calls call → filter_map of_new (freed call local) ≡ []
  freed_none call local may = λ k. cons_option (is.load local k) (cons_option (is.call call may k) (null_none local k))

  released_none : (looped : Bool) (local : ℕ) → (looped ≡ true → chains ≡ true) → filter_map of_new (released calls looped local) ≡ []
  released_none true local may = freed_none calls.free_chain local (CallsChain, may refl, refl)
  released_none false local may = freed_none calls.free local (CallsFree, tt, refl)

  taken_none : (looped : Bool) (local : ℕ) → (looped ≡ true → chains ≡ true) → filter_map of_new (taken calls looped local) ≡ []
  taken_none true local may =
      λ k. cons_option (is.doubled k) (cons_option (is.load local k) (cons_option (is.call calls.link (CallsLink, may refl, refl) k) (cons_option (is.store local k) [])))
  taken_none false local may = both_none _ _ is.doubled (is.store local)

  each_none : (f : ℕ → List NewItem) → ((h : ℕ) → filter_map of_new (f h) ≡ []) → (hs : List ℕ) → filter_map of_new (flat_map f hs) ≡ []
  each_none f none [] = refl
  each_none f none (h ∷ hs) = filter_map-append of_new (f h) (flat_map f hs) ∙ (λ k. none h k ++ each_none f none hs k)

  module _ (code : Code) (plan : Insertions) (may : (h : ℕ) → looped_at plan h ≡ true → chains ≡ true) where
    item_listed : (anchors : List ℕ) (j : ℕ) (i : Insn) → filter_map of_new (chained_item calls code plan anchors j i) ≡ cons_option (view i) []
    item_listed anchors j i =
        let before = flat_map (λ h. released calls (looped_at plan h) (local_of code h)) (before_at plan j) in
        let after = flat_map (λ h. taken calls (looped_at plan h) (local_of code h)) (after_at plan j) in
        filter_map-append of_new before (kept anchors j i ∷ after)
        ∙ (λ k. each_none (λ h. released calls (looped_at plan h) (local_of code h))
        (λ h. released_none (looped_at plan h) (local_of code h) (may h)) (before_at plan j) k
        ++ cons_option (alike (slice_index anchors) i k)
        (each_none (λ h. taken calls (looped_at plan h) (local_of code h)) (λ h. taken_none (looped_at plan h) (local_of code h) (may h)) (after_at plan j) k))

    from_listed : (anchors : List ℕ) (j : ℕ) (items : List Item) → filter_map of_new (chained_items calls code plan anchors j items) ≡ filter_map of_item items
    from_listed anchors j [] = refl
    from_listed anchors j (item ∷ items) =
        filter_map-append of_new (chained_item calls code plan anchors j item.insn) (chained_items calls code plan anchors (j + 1) items)
        ∙ (λ k. item_listed anchors j item.insn k ++ from_listed anchors (j + 1) items k) ∙ onto (view item.insn) (filter_map of_item items)

    -- the view of all items of the new code
    pub chained_listed : filter_map of_item (chained_code calls code plan).items ≡ filter_map of_item code.items
    chained_listed =
        let nulls = flat_map (λ h. null_stored (local_of code h)) (range_with_len 0 (length plan.holders)) in
        all_laid code.items (chained calls code plan) ∙ filter_map-append of_new nulls (chained_items calls code plan (anchors_of plan code.items) 0 code.items)
        ∙ (λ k. each_none (λ h. null_stored (local_of code h)) (λ h. null_none (local_of code h)) (range_with_len 0 (length plan.holders)) k
        ++ from_listed (anchors_of plan code.items) 0 code.items k)
