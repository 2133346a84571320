-- Moving all that is listed in place: those before some number are moved, the others are as they were.
use Rattle.std.proofs.Common.{◌≡◌, ℕ, ◌+◌, ◌<◌, ◌≤◌, List, [], ◌∷◌, ◌++◌, length, map, take, drop, get_or, set, sym, ap, subst, ◌∙◌, append_assoc, append-nil, length-set, arith}
use Rattle.std.specs.List.{AllByRecursion}
use Rattle.std.proofs.Math.ListN.{drop_of_length-le}
use Rattle.std.proofs.lemmas.Grind.{drop_more_same}
use Rattle.std.proofs.lemmas.List.{drop-set-lt, get_or_default, take_all, take_more_set}
use Rattle.fm_base.proofs.ListFacts.{drop_here}
use Rattle.fm_layout.specs.inner.Spots.{FitsAfter, moved}
use Rattle.fm_layout.specs.declared.spots.Change.{Change}
use Rattle.fm_layout.specs.declared.spots.Spot.{Spot}

pub record Moving (change : Change) (old spots : List Spot) (k : ℕ) : Type 0 where
  pub made : take k spots ++ map (moved change) (drop k old) ≡ map (moved change) old
  pub rest : drop k spots ≡ drop k old
  pub fits : AllByRecursion (FitsAfter change) (drop k old)
  pub size : length spots ≡ length old

module _ (change : Change) (old spots : List Spot) (k : ℕ) (d : Spot) where
  abbrev here : Spot
  here = get_or spots k d

  old_here : k < length spots → Moving change old spots k → drop k old ≡ here ∷ drop (k + 1) old
  old_here within so_far =
      sym so_far.rest ∙ drop_here spots k here within (get_or_default spots k d here within)
      ∙ ap (λ (rs : List Spot). here ∷ rs) (drop_more_same spots old k so_far.rest)

  all_here : k < length spots → Moving change old spots k → AllByRecursion (FitsAfter change) (here ∷ drop (k + 1) old)
  all_here within so_far = subst (λ (rs : List Spot). AllByRecursion (FitsAfter change) rs) (old_here within so_far) so_far.fits

  pub Moving-fits : k < length spots → Moving change old spots k → FitsAfter change (get_or spots k d)
  Moving-fits within so_far = (all_here within so_far).0

  pub Moving-next : (new : Spot) → k < length spots → new ≡ moved change (get_or spots k d) → Moving change old spots k → Moving change old (set spots k new) (k + 1)
  Moving-next new within is so_far =
      let rest = drop (k + 1) old in
      record {
        made = ap (λ (rs : List Spot). rs ++ map (moved change) rest) (take_more_set spots k new within)
            ∙ append_assoc (take k spots) (new ∷ []) (map (moved change) rest)
            ∙ ap (λ r. take k spots ++ (r ∷ map (moved change) rest)) is
            ∙ ap (λ (rs : List Spot). take k spots ++ map (moved change) rs) (sym (old_here within so_far))
            ∙ so_far.made;
        rest = drop-set-lt (k + 1) spots k new (omega arith) ∙ drop_more_same spots old k so_far.rest;
        fits = (all_here within so_far).1;
        size = length-set spots k new ∙ so_far.size;
      }

pub Moving-all : (change : Change) (old spots : List Spot) (k : ℕ) → length spots ≤ k → Moving change old spots k → spots ≡ map (moved change) old
Moving-all change old spots k past so_far =
    let size = so_far.size in
    let all : take k spots ≡ spots = take_all k spots past in
    let none : drop k old ≡ [] = drop_of_length-le old (omega arith) in
    sym (append-nil spots) ∙ ap (λ (rs : List Spot). rs ++ []) (sym all)
    ∙ ap (λ (rs : List Spot). take k spots ++ map (moved change) rs) (sym none) ∙ so_far.made
