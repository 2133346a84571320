-- Moved tables are valid where the old ones are.
use Rattle.std.proofs.Common.{◌≡◌, ℕ, zero, suc, ◌+◌, ◌<◌, ◌≤◌, ◌⊎◌, inl, inr, Bool, true, false, List, [], ◌∷◌, length, get_or, refl, sym, ap, arith, Option, Some, None, length-append}
use Rattle.std.specs.Prelude.{slice_index, nat_lt}
use Rattle.std.specs.List.{AllByRecursion, filter_map}
use Rattle.std.specs.List.Sorted.{IsStrictlyIncreasing}
use Rattle.std.proofs.lemmas.Bool.{cases_lt}
use Rattle.fm_base.proofs.ListFacts.{AllByRecursion-mapped}
use Rattle.fm_code.specs.CodeRules.{CodeAttrIsValid, HandlerIsValid, VarIsValid}
use Rattle.fm_code.specs.declared.code_array.Code.{Code}
use Rattle.fm_code.specs.declared.code_array.CodeAttr.{CodeAttr}
use Rattle.fm_code.specs.declared.code_array.CodeAttr.TheVariants as attribute
use Rattle.fm_code.specs.declared.code_array.Handler.{Handler}
use Rattle.fm_code.specs.declared.code_array.Item.{Item}
use Rattle.fm_code.specs.declared.code_array.Line.{Line}
use Rattle.fm_code.specs.declared.code_array.Var.{Var}
use Rattle.fm_code.specs.declared.constant_pool.Entry.{Entry}
use Rattle.fm_code.specs.declared.instructions.Insn.{Insn}
use Rattle.fm_layout.specs.Laid.{branch_count, firsts_from, item_count, laid_from, laid_items, laid_of, wide_items}
use Rattle.fm_layout.specs.Rooms.{rooms_of, size_at, starts_from, widened_rooms}
use Rattle.fm_layout.specs.Spelling.{kept_item}
use Rattle.fm_layout.specs.Tables.{AreAnchors, AreValid, moved_attribute, moved_handler, moved_line, moved_number, moved_tables, moved_var}
use Rattle.fm_layout.specs.declared.new_items.NewItem.{NewItem}
use Rattle.fm_layout.specs.declared.rooms.Condition.{Condition}
use Rattle.fm_layout.specs.declared.rooms.Room.{Room}
use Rattle.fm_layout.specs.declared.rooms.Room.TheVariants as room
use Rattle.fm_layout.proofs.LayoutLemmas.{one_each}
use Rattle.fm_layout.proofs.SpelledLemmas.{item_count-ge}

-- ---- the numbers of laid items

length-wide_items : (start first : ℕ) (follows : Bool) (taken : Option Condition) (to target : ℕ) → length (wide_items start first follows taken to target) ≡ branch_count taken
length-wide_items start first follows None to target = refl
length-wide_items start first true (Some taken) to target = refl
length-wide_items start first false (Some taken) to target = refl

pub length-laid_items : (starts firsts : List ℕ) (start first : ℕ) (follows : Bool) (kept : Option Item) (i : Insn) (r : Room)
    → length (laid_items starts firsts start first follows kept i r) ≡ item_count r
length-laid_items starts firsts start first follows kept i (room.Plain n) = refl
length-laid_items starts firsts start first follows kept i (room.Switch n) = refl
length-laid_items starts firsts start first follows kept i (room.Narrow b) = refl
length-laid_items starts firsts start first follows kept i (room.Wide b) =
    length-wide_items start first follows b.condition (slice_index starts b.target) (slice_index firsts b.target)

-- the last number is that of all laid items
pub last_first : (old : List Item) (starts firsts : List ℕ) (start first : ℕ) (items : List NewItem) (rooms : List Room) → length items ≡ length rooms
    → get_or (firsts_from first rooms) (length rooms) 0 ≡ first + length (laid_from old starts firsts start first items rooms)
last_first old starts firsts start first [] [] same = omega arith
last_first old starts firsts start first [] (r ∷ rooms) same = absurd (omega arith)
last_first old starts firsts start first (new ∷ items) [] same = absurd (omega arith)
last_first old starts firsts start first (new ∷ items) (r ∷ rooms) same =
    let here = laid_items starts firsts start first (nat_lt 0 (length items)) (kept_item old new) new.insn r in
    let rest = laid_from old starts firsts (start + size_at start r) (first + item_count r) items rooms in
    let later = last_first old starts firsts (start + size_at start r) (first + item_count r) items rooms (omega arith) in
    let number = length-laid_items starts firsts start first (nat_lt 0 (length items)) (kept_item old new) new.insn r in
    omega (arith, length-append here rest)

pub length-firsts_from : (first : ℕ) (rooms : List Room) → length (firsts_from first rooms) ≡ suc (length rooms)
length-firsts_from first [] = refl
length-firsts_from first (r ∷ rooms) = ap suc (length-firsts_from (first + item_count r) rooms)

pub first_le : (first : ℕ) (rooms : List Room) (k : ℕ) → k ≤ length rooms → first ≤ get_or (firsts_from first rooms) k 0
first_le first [] zero inside = omega arith
first_le first [] (suc k) inside = absurd (omega arith)
first_le first (r ∷ rooms) zero inside = omega arith
first_le first (r ∷ rooms) (suc k) inside = let later = first_le (first + item_count r) rooms k (omega arith) in omega arith

pub firsts_rise : (first : ℕ) (rooms : List Room) (k l : ℕ) → k < l → l ≤ length rooms → get_or (firsts_from first rooms) k 0 < get_or (firsts_from first rooms) l 0
firsts_rise first [] k l below inside = absurd (omega arith)
firsts_rise first (r ∷ rooms) k zero below inside = absurd (omega arith)
firsts_rise first (r ∷ rooms) zero (suc l) below inside =
    let some = item_count-ge r in
    let later = first_le (first + item_count r) rooms l (omega arith) in
    omega arith
firsts_rise first (r ∷ rooms) (suc k) (suc l) below inside = firsts_rise (first + item_count r) rooms k l (omega arith) (omega arith)

-- no number is above the last one
at_most : (rooms : List Room) (k total : ℕ) → k ≤ length rooms → get_or (firsts_from 0 rooms) (length rooms) 0 ≡ 0 + total → get_or (firsts_from 0 rooms) k 0 ≤ total
at_most rooms k total inside last = go (cases_lt k (length rooms)) where
  go : (k < length rooms) ⊎ (length rooms ≤ k) → get_or (firsts_from 0 rooms) k 0 ≤ total
  go (inl less) = let below = firsts_rise 0 rooms k (length rooms) less (omega arith) in omega arith
  go (inr more) =
      let equal : k ≡ length rooms = omega arith in
      let same = ap (λ n. get_or (firsts_from 0 rooms) n 0) equal in
      omega arith

-- ---- rising lists

pub rise : (xs : List ℕ) → IsStrictlyIncreasing xs → (k l : ℕ) → k < l → l < length xs → slice_index xs k < slice_index xs l
rise xs rising k zero below inside = absurd (omega arith)
rise xs rising k (suc l) below inside = go (cases_lt k l) (λ less. rise xs rising k l less (omega arith)) where
  go : (k < l) ⊎ (l ≤ k) → (k < l → slice_index xs k < slice_index xs l) → slice_index xs k < slice_index xs (suc l)
  go (inl less) before =
      let here = before less in
      let step = rising l (omega arith) in
      let same : l + 1 ≡ suc l = omega arith in
      let at = ap (λ n. slice_index xs n) same in
      omega arith
  go (inr more) before =
      let equal : k ≡ l = omega arith in
      let step = rising l (omega arith) in
      let same : l + 1 ≡ suc l = omega arith in
      let at = ap (λ n. slice_index xs n) same in
      let here = ap (λ n. slice_index xs n) equal in
      omega arith

-- ---- moved numbers

-- numbers of old items, up to their count, go to rising numbers up to another count
pub record MovesUp (move : ℕ → ℕ) (count total : ℕ) : Type 0 where
  pub rises : (a b : ℕ) → a < b → b ≤ count → move a < move b
  pub inside : (b : ℕ) → b ≤ count → move b ≤ total

pub below_total : (move : ℕ → ℕ) (count total : ℕ) → MovesUp move count total → (a : ℕ) → a < count → move a < total
below_total move count total up a below = let first = up.rises a count below (omega arith) in let last = up.inside count (omega arith) in omega arith

handler_moved : (entries : List Entry) (count total : ℕ) (firsts anchors : List ℕ) → MovesUp (moved_number firsts anchors) count total → (h : Handler) → HandlerIsValid entries count h
    → HandlerIsValid entries total (moved_handler firsts anchors h)
handler_moved entries count total firsts anchors up h valid = record {
  not_empty = up.rises h.start h.end valid.not_empty valid.end;
  end = up.inside h.end valid.end;
  handler = below_total (moved_number firsts anchors) count total up h.handler valid.handler;
  catch_class = valid.catch_class;
}

var_moved : (entries : List Entry) (count total : ℕ) (firsts anchors : List ℕ) → MovesUp (moved_number firsts anchors) count total → (v : Var) → VarIsValid entries count v
    → VarIsValid entries total (moved_var firsts anchors v)
var_moved entries count total firsts anchors up v valid = record {
  start = go (cases_lt v.start v.end);
  end = up.inside v.end valid.end;
  name = valid.name;
  kind = valid.kind;
} where
  go : (v.start < v.end) ⊎ (v.end ≤ v.start) → moved_number firsts anchors v.start ≤ moved_number firsts anchors v.end
  go (inl less) = let moved = up.rises v.start v.end less valid.end in omega arith
  go (inr more) =
      let below = valid.start in
      let equal : v.start ≡ v.end = omega arith in
      let same = ap (λ n. moved_number firsts anchors n) equal in
      omega arith

attributes_moved : (entries : List Entry) (count total : ℕ) (firsts anchors : List ℕ) → MovesUp (moved_number firsts anchors) count total → (attributes : List CodeAttr)
    → AllByRecursion (CodeAttrIsValid entries count) attributes → AllByRecursion (CodeAttrIsValid entries total) (filter_map (moved_attribute firsts anchors) attributes)
attributes_moved entries count total firsts anchors up [] all = tt
attributes_moved entries count total firsts anchors up (attribute.Lines name lines ∷ attributes) all = (
  (
    all.0.0,
    AllByRecursion-mapped (λ (l : Line). l.item < count) (λ (l : Line). l.item < total) (moved_line firsts anchors)
        (λ l below. below_total (moved_number firsts anchors) count total up l.item below) lines all.0.1,
  ),
  attributes_moved entries count total firsts anchors up attributes all.1,
)
attributes_moved entries count total firsts anchors up (attribute.Vars name false vars ∷ attributes) all = (
  (
    all.0.0,
    AllByRecursion-mapped (VarIsValid entries count) (VarIsValid entries total) (moved_var firsts anchors)
        (λ v valid. var_moved entries count total firsts anchors up v valid) vars all.0.1,
  ),
  attributes_moved entries count total firsts anchors up attributes all.1,
)
attributes_moved entries count total firsts anchors up (attribute.Vars name true vars ∷ attributes) all = (
  (
    all.0.0,
    AllByRecursion-mapped (VarIsValid entries count) (VarIsValid entries total) (moved_var firsts anchors)
        (λ v valid. var_moved entries count total firsts anchors up v valid) vars all.0.1,
  ),
  attributes_moved entries count total firsts anchors up attributes all.1,
)
attributes_moved entries count total firsts anchors up (attribute.Other raw ∷ attributes) all = attributes_moved entries count total firsts anchors up attributes all.1

-- ---- the law

pub moves_up : (code : Code) (items : List NewItem) (anchors : List ℕ) → AreAnchors code (laid_of code.items items) anchors
    → MovesUp (moved_number (laid_of code.items items).firsts anchors) (length code.items) (length (laid_of code.items items).items)
unfolding laid_of
moves_up code items anchors are =
    let rooms = widened_rooms (rooms_of code.items items) in
    let starts = starts_from 0 rooms in
    let firsts = firsts_from 0 rooms in
    let size = length-firsts_from 0 rooms in
    let last = last_first code.items starts firsts 0 0 items rooms (sym (one_each code.items items)) in
    let count = are.count in
    record {
      rises = λ a b below inside.
          (let anchors_rise = rise anchors are.rising a b below (omega arith) in
          let within = are.within b (omega arith) in
          firsts_rise 0 rooms (slice_index anchors a) (slice_index anchors b) anchors_rise (omega arith));
      inside = λ b inside. (let within = are.within b (omega arith) in at_most rooms (slice_index anchors b) (length (laid_from code.items starts firsts 0 0 items rooms)) (omega arith) last);
    }

pub tables_valid : (entries : List Entry) (code : Code) (items : List NewItem) (anchors : List ℕ) → AreAnchors code (laid_of code.items items) anchors
    → AreValid entries (length code.items) (record { handlers = code.handlers; attributes = code.attributes })
    → AreValid entries (length (laid_of code.items items).items) (moved_tables code (laid_of code.items items) anchors)
tables_valid entries code items anchors are valid =
    let firsts = (laid_of code.items items).firsts in
    let total = length (laid_of code.items items).items in
    let up = moves_up code items anchors are in
    record {
      handlers = AllByRecursion-mapped (HandlerIsValid entries (length code.items)) (HandlerIsValid entries total) (moved_handler firsts anchors)
          (λ h here. handler_moved entries (length code.items) total firsts anchors up h here) code.handlers valid.handlers;
      attributes = attributes_moved entries (length code.items) total firsts anchors up code.attributes valid.attributes;
    }
