-- A round in place: rooms before some number are widened, the others are as they were.
use Rattle.std.proofs.Common.{◌≡◌, ℕ, ◌+◌, ◌<◌, ◌≤◌, List, [], ◌∷◌, ◌++◌, length, take, drop, get_or, set, refl, sym, ap, ◌∙◌, append_assoc, append-nil, length-set, arith}
use Rattle.std.proofs.Math.ListN.{drop_of_length-le}
use Rattle.std.proofs.lemmas.Grind.{drop_more_same}
use Rattle.std.proofs.lemmas.List.{drop-set-lt, get_or_default, take_all, take_more_set}
use Rattle.fm_base.proofs.ListFacts.{drop_here}
use Rattle.fm_layout.proofs.RoomsLemmas.{end_grows}
use Rattle.fm_layout.specs.Rooms.{end_from, size_at, widened_at, widened_from}
use Rattle.fm_layout.specs.declared.rooms.Room.{Room}
use Rattle.fm_layout.specs.declared.rooms.Room.TheVariants as room

-- the rooms before number k are those after the round, and the rest of the old ones begins at an offset
pub record Widening (starts : List ℕ) (old rooms : List Room) (k start : ℕ) : Type 0 where
  pub end : end_from start (drop k old) ≡ end_from 0 old
  pub made : take k rooms ++ widened_from starts start (drop k old) ≡ widened_from starts 0 old
  pub rest : drop k rooms ≡ drop k old
  pub size : length rooms ≡ length old

pub Widening-none : (starts : List ℕ) (old : List Room) → Widening starts old old 0 0
Widening-none starts old = record { end = refl; made = refl; rest = refl; size = refl }

module _ (starts : List ℕ) (old rooms : List Room) (k start : ℕ) where
  -- the room of number k, as a branch that isn't there would be read
  abbrev here : Room
  here = get_or rooms k (room.Plain 0)

  old_here : k < length rooms → Widening starts old rooms k start → drop k old ≡ here ∷ drop (k + 1) old
  old_here within so_far =
      sym so_far.rest ∙ drop_here rooms k here within (get_or_default rooms k (room.Plain 0) here within)
      ∙ ap (λ (rs : List Room). here ∷ rs) (drop_more_same rooms old k so_far.rest)

  next_end : k < length rooms → Widening starts old rooms k start → end_from (start + size_at start here) (drop (k + 1) old) ≡ end_from 0 old
  next_end within so_far = sym (ap (λ (rs : List Room). end_from start rs) (old_here within so_far)) ∙ so_far.end

  -- it ends where all rooms do, at most
  pub Widening-fits : k < length rooms → Widening starts old rooms k start → start + size_at start (get_or rooms k (room.Plain 0)) ≤ end_from 0 old
  Widening-fits within so_far =
      let later = end_grows (start + size_at start here) (drop (k + 1) old) in
      let same = next_end within so_far in
      omega arith

  -- it is widened
  pub Widening-next : (wider : Room) (bytes : ℕ) → k < length rooms → wider ≡ widened_at starts start (get_or rooms k (room.Plain 0))
      → bytes ≡ size_at start (get_or rooms k (room.Plain 0)) → Widening starts old rooms k start → Widening starts old (set rooms k wider) (k + 1) (start + bytes)
  Widening-next wider bytes within wider_is bytes_is so_far =
      let rest = drop (k + 1) old in
      let offset = start + size_at start here in
      let same : start + bytes ≡ offset = ap (λ n. start + n) bytes_is in
      record {
        end = ap (λ n. end_from n rest) same ∙ next_end within so_far;
        made = ap (λ (rs : List Room). rs ++ widened_from starts (start + bytes) rest) (take_more_set rooms k wider within)
            ∙ append_assoc (take k rooms) (wider ∷ []) (widened_from starts (start + bytes) rest)
            ∙ ap (λ n. take k rooms ++ (wider ∷ widened_from starts n rest)) same
            ∙ ap (λ r. take k rooms ++ (r ∷ widened_from starts offset rest)) wider_is
            ∙ ap (λ (rs : List Room). take k rooms ++ widened_from starts start rs) (sym (old_here within so_far))
            ∙ so_far.made;
        rest = drop-set-lt (k + 1) rooms k wider (omega arith) ∙ drop_more_same rooms old k so_far.rest;
        size = length-set rooms k wider ∙ so_far.size;
      }

  -- all are
  pub Widening-all : length rooms ≤ k → Widening starts old rooms k start → rooms ≡ widened_from starts 0 old
  Widening-all past so_far =
      let size = so_far.size in
      let all : take k rooms ≡ rooms = take_all k rooms past in
      let none : drop k old ≡ [] = drop_of_length-le old (omega arith) in
      sym (append-nil rooms) ∙ ap (λ (rs : List Room). rs ++ []) (sym all)
      ∙ ap (λ (rs : List Room). take k rooms ++ widened_from starts start rs) (sym none) ∙ so_far.made
