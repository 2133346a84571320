-- What layout needs of its old and new items, and what it returns.
use Rattle.std.proofs.Common.{◌≡◌, ℕ, suc, [], ◌∷◌, ◌<◌, ◌≤◌, List, length, refl, ap, ◌∙◌, arith, if◌then◌else◌}
use Rattle.std.specs.Prelude.{nat_lt}
use Rattle.std.proofs.lemmas.Bool.{lt-ltb, le-ltb}
use Rattle.fm_code.specs.declared.code_array.TheConstants.{MAX_CODE_BYTES}
use Rattle.fm_code.specs.declared.code_array.Item.{Item}
use Rattle.fm_layout.specs.Conditions.{AreNewItems, AreOldItems}
use Rattle.fm_layout.specs.Laid.{IsCause, laid_from, firsts_from, laid_of, laid_in, laid_length, narrow_length}
use Rattle.fm_layout.specs.Rooms.{end_from, rooms_of, starts_from, widened_rooms}
use Rattle.fm_layout.specs.declared.error.LayFail.TheVariants as fail
use Rattle.fm_layout.specs.declared.new_items.NewItem.{NewItem}
use Rattle.fm_layout.specs.declared.rooms.Room.{Room}
use Rattle.fm_layout.proofs.BoundsLemmas.{weight_fits}
use Rattle.fm_layout.proofs.RoomsLemmas.{end_weight, weight-rounds_after, length-rounds_after}
use Rattle.fm_layout.proofs.WideningLemmas.{rounds_wider, wider_end}

pub narrow_fits : (old : List Item) (items : List NewItem) → AreOldItems old → AreNewItems old items → end_from 0 (rooms_of old items) < 4294967296
narrow_fits old items are new =
    let bound = end_weight 0 (rooms_of old items) in
    let weight = weight_fits old items are new in
    omega arith

pub wide_fits : (old : List Item) (items : List NewItem) → AreOldItems old → AreNewItems old items → end_from 0 (widened_rooms (rooms_of old items)) < 4294967296
wide_fits old items are new =
    let bound = end_weight 0 (widened_rooms (rooms_of old items)) in
    let same = weight-rounds_after (length (rooms_of old items)) (rooms_of old items) in
    let weight = weight_fits old items are new in
    omega arith

-- one room for each new item
pub one_each : (old : List Item) (items : List NewItem) → length (widened_rooms (rooms_of old items)) ≡ length items
one_each old items =
    length-rounds_after (length (rooms_of old items)) (rooms_of old items) ∙ count items where
      count : (news : List NewItem) → length (rooms_of old news) ≡ length news
      count [] = refl
      count (new ∷ news) = ap suc (count news)

-- widening makes no code shorter
narrow_le : (rooms : List Room) → end_from 0 rooms ≤ end_from 0 (widened_rooms rooms)
narrow_le rooms = wider_end 0 0 rooms (widened_rooms rooms) (omega arith) (rounds_wider (length rooms) rooms)

chosen : (n m : ℕ) → MAX_CODE_BYTES < n → n ≡ (if nat_lt MAX_CODE_BYTES n then n else m)
chosen n m long = rw (lt-ltb MAX_CODE_BYTES n long) refl

other : (n m : ℕ) → n ≤ MAX_CODE_BYTES → m ≡ (if nat_lt MAX_CODE_BYTES n then n else m)
other n m short = rw (le-ltb MAX_CODE_BYTES n short) refl

pub refused_narrow : (old : List Item) (items : List NewItem) (n : ℕ) → n ≡ end_from 0 (rooms_of old items) → MAX_CODE_BYTES < n → IsCause old items (fail.TooLong n)
unfolding narrow_length laid_length
refused_narrow old items n is long =
    let grows = narrow_le (rooms_of old items) in
    let narrow = end_from 0 (rooms_of old items) in
    (omega arith, is ∙ chosen narrow (end_from 0 (widened_rooms (rooms_of old items))) (omega arith))

pub refused_wide : (old : List Item) (items : List NewItem) (n m : ℕ) → n ≡ end_from 0 (rooms_of old items) → n ≤ MAX_CODE_BYTES
    → m ≡ end_from 0 (widened_rooms (rooms_of old items)) → MAX_CODE_BYTES < m → IsCause old items (fail.TooLong m)
unfolding narrow_length laid_length
refused_wide old items n m is short wide long =
    (omega arith, wide ∙ other (end_from 0 (rooms_of old items)) (end_from 0 (widened_rooms (rooms_of old items))) (omega arith))

pub fits_short : (old : List Item) (items : List NewItem) (m : ℕ) → m ≡ end_from 0 (widened_rooms (rooms_of old items)) → m ≤ MAX_CODE_BYTES → laid_length old items ≤ MAX_CODE_BYTES
unfolding laid_length
fits_short old items m wide short = omega arith

pub laid_is : (old : List Item) (items : List NewItem) (rooms : List Room) (laid : List Item) (firsts starts : List ℕ) (n : ℕ) → rooms ≡ widened_rooms (rooms_of old items)
    → starts ≡ starts_from 0 rooms → firsts ≡ firsts_from 0 rooms → laid ≡ laid_from old starts firsts 0 0 items rooms → n ≡ end_from 0 rooms
    → record { items = laid; firsts = firsts; length = n } ≡ laid_of old items
unfolding laid_of
laid_is old items rooms laid firsts starts n rooms_are starts_are firsts_are laid_are n_is =
    let whole : record { items = laid; firsts = firsts; length = n } ≡ laid_in old items rooms =
    (λ k. record { items = (laid_are ∙ (λ j. laid_from old (starts_are j) (firsts_are j) 0 0 items rooms)) k; firsts = firsts_are k; length = n_is k }) in
    whole ∙ ap (λ rs. laid_in old items rs) rooms_are
