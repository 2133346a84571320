-- Steps of the walk: what a state that is brought to an item shows, and what it leaves.
use Rattle.std.proofs.Common.{◌≡◌, ◌≢◌, refl, sym, ◌∙◌, ap, inl, inr, ◌⊎◌, ⊎_elim, ℕ, zero, suc, ◌+◌, ◌<◌, ◌≤◌, ◌==◌, ◌&&◌, nat_le, Bool, true, false, List, [], ◌∷◌, ◌++◌, length, get_or, set, Option, Some, None, cond, Contains, subst, sum_by, arith, length-set}
use Rattle.std.proofs.lemmas.Bool.{and_from, and_parts, cases_eq, eq-eqb, eqb-true, false≢true, le-leb, leb-true}
use Rattle.std.proofs.lemmas.List.{get_or-map, get_or-set_same, get_or-set_other}
use Rattle.std.specs.Option.{option_map}
use Rattle.std.proofs.lemmas.List.Sums.{sum_by-set}
use Rattle.std.proofs.lemmas.List.Elements.{Contains-append_left, Contains-append_right, length_all_zip}
use Rattle.fm_base.proofs.OptionFacts.{IsSomeAnd-from_some, same_value, Some-from_some_and}
use Rattle.fm_check_walk.proofs.MergingLemmas.{AreLevel, fits-parts, IsStateJoin, join_state-least, join_state-some, state-refl, state-trans}
use Rattle.fm_check_walk.proofs.RankLemmas.{state-less, state-within}
use Rattle.fm_check_walk.proofs.RisenLemmas.{alike-more, alike-refl, alike-then}
use Rattle.fm_check_walk.specs.inner.Merging.{join_state}
use Rattle.fm_check_walk.specs.inner.Ranks.{IsBoundedState, rank_at, state_rank}
use Rattle.fm_check_walk.specs.inner.Risen.{IsRisenIn, noted}
use Rattle.fm_types.specs.Typings.{known_state}
use Rattle.fm_check_walk.specs.inner.Walks.{Brings, is_marked, IsForced, IsKept, IsTracked, risen_at, Rises, Stands, states_seen, Untypable, Walked, Went, with_state, waiting_count, with_waiting, work_left}
use Rattle.fm_check_walk.specs.inner.Tasks.{is_within, IsSound, Task}
use Rattle.fm_code.specs.declared.code_array.Code.{Code}
use Rattle.fm_flow.proofs.ReachLemmas.{IsFlowPath-more}
use Rattle.fm_base.proofs.RowFacts.{has-set_kept}
use Rattle.fm_types.proofs.StateOrder.{Fitting}
use Rattle.fm_types.specs.Fits.{AreTree}
use Rattle.fm_types.specs.States.{state_fits, TypeState}
use Rattle.fm_types.specs.Typed.{FitsAt, state_at}
use Rattle.fm_types.specs.declared.known_state.KnownState.{KnownState}
use Rattle.fm_types.specs.declared.known_state.SlotPlace.{SlotPlace}
use Rattle.fm_world.specs.Programs.{Outline}
use Rattle.fm_code.specs.Edges.{IsEdge, IsReachable}

-- ---- states as they are seen

pub state_seen : (states slice : List (Option KnownState)) (j : ℕ) (o : Option TypeState) → slice ≡ states → o ≡ state_at (states_seen slice) j
    → state_at (states_seen states) j ≡ o
state_seen states slice j o same is = ap (λ (xs : List (Option KnownState)). state_at (states_seen xs) j) (sym same) ∙ sym is

-- the same of a copy
pub state_copied : (states slice : List (Option KnownState)) (j : ℕ) (own copy : TypeState) → slice ≡ states → Some own ≡ state_at (states_seen slice) j → copy ≡ own
    → state_at (states_seen states) j ≡ Some copy
state_copied states slice j own copy same is copied = state_seen states slice j (Some own) same is ∙ ap Some (sym copied)

-- ---- what no typing has

-- the state of a typing that this one fits
pub record FitsOne (t : Task) (states : List (Option TypeState)) (j : ℕ) (s : TypeState) : Type 0 where
  pub state : TypeState
  pub is : state_at states j ≡ Some state
  pub fits : state_fits t.program.outline s state ≡ true

pub fits_one : (t : Task) (states : List (Option TypeState)) (j : ℕ) (s : TypeState) → FitsAt t.program states j s → FitsOne t states j s
fits_one t states j s h =
    let found = Some-from_some_and (state_at states j) (λ u. state_fits t.program.outline s u ≡ true) h in
    record { state = found.0; is = found.1; fits = found.2 }

pub fits_at : (t : Task) (states : List (Option TypeState)) (j : ℕ) (s u : TypeState) → state_at states j ≡ Some u
    → state_fits t.program.outline s u ≡ true → FitsAt t.program states j s
fits_at t states j s u is fits = IsSomeAnd-from_some (state_at states j) (λ u. state_fits t.program.outline s u ≡ true) u is fits

within-from : (code : Code) (s : TypeState) → length s.locals ≡ code.max_locals → length s.stack ≤ code.max_stack → is_within code s ≡ true
within-from code s locals stack =
    and_from (length s.locals == code.max_locals) (nat_le (length s.stack) code.max_stack) (eq-eqb (length s.locals) code.max_locals locals)
    (le-leb (length s.stack) code.max_stack stack)

-- a state that is too large
pub too_large : (t : Task) (j : ℕ) (s : TypeState) → IsForced t j s → is_within t.code s ≡ false → Untypable t
too_large t j s forced large states typing =
    let found = fits_one t states j s (forced.below states typing) in
    let meets = typing.items j found.state found.is in
    let parts = fits-parts t.program.outline s found.state found.fits in
    let locals = length_all_zip (Fitting t.program.outline) s.locals found.state.locals parts.locals in
    let stack = length_all_zip (Fitting t.program.outline) s.stack found.state.stack parts.stack in
    false≢true (sym large ∙ within-from t.code s (locals ∙ meets.locals) (omega (arith, stack, meets.stack)))

-- one that doesn't fit that of the first item
pub first_unfit : (t : Task) (w : Walked) (s old : TypeState) → Stands t w → IsForced t 0 s → state_at w.states 0 ≡ Some old
    → state_fits t.program.outline s old ≡ false → Untypable t
first_unfit t w s old stands forced is unfit states typing =
    let found = fits_one t states 0 s (forced.below states typing) in
    let same : found.state ≡ old = cc (typing.first, stands.first, found.is, is) in
    false≢true (sym unfit ∙ ap (state_fits t.program.outline s) (sym same) ∙ found.fits)

-- states without a join
pub no_join : (t : Task) (w : Walked) (j : ℕ) (s old : TypeState) → IsSound t → Stands t w → IsForced t j s → state_at w.states j ≡ Some old
    → join_state t.program.outline old s ≡ None → Untypable t
no_join t w j s old sound stands forced is none states typing =
    let kept = stands.each j old is in
    let first = fits_one t states j old (kept.forced.below states typing) in
    let second = fits_one t states j s (forced.below states typing) in
    let same : first.state ≡ second.state = same_value (state_at states j) first.state second.state first.is second.is in
    let whole = (typing.items j first.state first.is).whole in
    join_state-some t.program.outline sound.tree old s first.state kept.forced.whole forced.whole whole first.fits
    (ap (state_fits t.program.outline s) same ∙ second.fits) none

-- ---- items that wait

pub record Waits (item : ℕ) (old new : Walked) : Type 0 where
  pub states : new.states ≡ old.states
  pub one_mark : length new.marks ≡ length old.marks
  pub risen : new.risen ≡ old.risen
  pub listed : is_marked new item ≡ true
  pub still : (j : ℕ) → is_marked old j ≡ true → is_marked new j ≡ true
  pub longer : waiting_count new ≤ waiting_count old + 1

pub with_waiting-waits : (item : ℕ) (w : Walked) → item < length w.marks → Waits item w (with_waiting item w)
with_waiting-waits item w inside = record {
  states = refl;
  one_mark = length-set w.marks item true;
  risen = refl;
  listed = get_or-set_same w.marks item true false inside;
  still = λ j was. has-set_kept w.marks item j was;
  longer =
      let one : Bool → ℕ = λ mark. cond mark 1 0 in
      let sums : waiting_count (with_waiting item w) + one (get_or w.marks item false) ≡ waiting_count w + one true =
      sum_by-set one w.marks item true false inside in
      omega arith;
}

-- what an item's state is where it was looked up
pub seen_read : (states : List (Option KnownState)) (item : ℕ) (d : Option KnownState) (state : KnownState) → item < length states → d ≡ get_or states item d
    → d ≡ Some state → state_at (states_seen states) item ≡ Some (known_state state)
seen_read states item d state inside read is =
    get_or-map (option_map known_state) states item d None inside ∙ ap (option_map known_state) (sym read ∙ is)

pub set_twice : {X : Type 0} (xs : List X) (k : ℕ) (x y : X) → set (set xs k x) k y ≡ set xs k y
set_twice [] k x y = refl
set_twice (z ∷ xs) zero x y = refl
set_twice (z ∷ xs) (suc k) x y = ap (λ zs. z ∷ zs) (set_twice xs k x y)

-- ---- what rose

-- nothing rose since
pub tracked-same : (w : Walked) (j : ℕ) (locals : List SlotPlace) (s : TypeState) → risen_at w j ≡ Some locals → state_at w.states j ≡ Some s
    → IsTracked w j locals s
tracked-same w j locals s known is =
    record { known = locals; before = s; is_known = known; was = is; among = λ k found. found; alike = alike-refl locals s }

-- what is noted in all
record NotedParts (known rose : Option (List SlotPlace)) (locals : List SlotPlace) : Type 0 where
  early : List SlotPlace
  late : List SlotPlace
  is_known : known ≡ Some early
  is_rose : rose ≡ Some late
  all : locals ≡ early ++ late

noted-parts : (most : ℕ) (known rose : Option (List SlotPlace)) (locals : List SlotPlace) → noted most known rose ≡ Some locals → NotedParts known rose locals
noted-parts most None rose locals e = absurd cc
noted-parts most (Some early) None locals e = absurd cc
noted-parts most (Some early) (Some late) locals e = by_test (nat_le most (length early)) e where
  by_test : (b : Bool) → cond b None (Some (early ++ late)) ≡ Some locals → NotedParts (Some early) (Some late) locals
  by_test true h = absurd cc
  by_test false h = record { early = early; late = late; is_known = refl; is_rose = refl; all = cc }

pub noted-tracked : (w : Walked) (item most : ℕ) (rose : Option (List SlotPlace)) (new old : TypeState) → state_at w.states item ≡ Some old
    → IsRisenIn rose new old → (locals : List SlotPlace) → noted most (risen_at w item) rose ≡ Some locals → IsTracked w item locals new
noted-tracked w item most rose new old is risen locals e =
    let parts = noted-parts most (risen_at w item) rose locals e in
    let in_all : (k : SlotPlace) → Contains parts.early k → Contains locals k = λ k found.
    subst (λ (xs : List SlotPlace). Contains xs k) (sym parts.all) (Contains-append_left parts.early parts.late k found) in
    let late_in_all : (k : SlotPlace) → Contains parts.late k → Contains locals k = λ k found.
    subst (λ (xs : List SlotPlace). Contains xs k) (sym parts.all) (Contains-append_right parts.early parts.late k found) in
    record {
      known = parts.early;
      before = old;
      is_known = parts.is_known;
      was = is;
      among = in_all;
      alike = alike-more parts.late locals new old late_in_all (risen parts.late parts.is_rose);
    }

-- ---- a state is given

-- the item itself, or another one that is as before
pub given_at : (states : List (Option TypeState)) (item j : ℕ) (s : TypeState) → item < length states
    → ((j ≡ item) × (state_at (set states item (Some s)) j ≡ Some s)) ⊎ ((j ≢ item) × (state_at (set states item (Some s)) j ≡ state_at states j))
given_at states item j s inside =
    ⊎_elim
    (λ (same : j ≡ item). inl (same, ap (λ n. get_or (set states item (Some s)) n None) same ∙ get_or-set_same states item (Some s) None inside))
    (λ (apart : j ≢ item). inr (apart, get_or-set_other states item j (Some s) None apart))
    (cases_eq j item)

-- the same of what rose
rise_given_at : (risen : List (Option (List SlotPlace))) (item j : ℕ) (rose : Option (List SlotPlace)) → item < length risen
    → ((j ≡ item) × (get_or (set risen item rose) j None ≡ rose)) ⊎ ((j ≢ item) × (get_or (set risen item rose) j None ≡ get_or risen j None))
rise_given_at risen item j rose inside =
    ⊎_elim
    (λ (same : j ≡ item). inl (same, ap (λ n. get_or (set risen item rose) n None) same ∙ get_or-set_same risen item rose None inside))
    (λ (apart : j ≢ item). inr (apart, get_or-set_other risen item j rose None apart))
    (cases_eq j item)

-- what is given ranks below what was there
given_less : (t : Task) (item : ℕ) (rose : Option (List SlotPlace)) (new : TypeState) (w : Walked) → item < length w.states
    → item < length w.marks
    → state_rank t.program.outline new < rank_at t.program.outline t.code (state_at w.states item)
    → work_left t (with_state item rose new w) ≤ work_left t w
given_less t item rose new w inside marks less =
    let waits = with_waiting-waits item (record w { states = set w.states item (Some new); risen = set w.risen item rose }) marks in
    let longer = waits.longer in
    let sums = sum_by-set (rank_at t.program.outline t.code) w.states item (Some new) None inside in
    let same : sum_by (rank_at t.program.outline t.code) (with_state item rose new w).states
    ≡ sum_by (rank_at t.program.outline t.code) (set w.states item (Some new)) =
    ap (sum_by (rank_at t.program.outline t.code)) waits.states in
    omega arith

-- a state that is new, or above the old one
pub Went-given : (t : Task) (item : ℕ) (rose : Option (List SlotPlace)) (new : TypeState) (w : Walked) → IsSound t → Stands t w → IsKept t item new → (item ≡ 0 → ⊥)
    → ((s : TypeState) → state_at w.states item ≡ Some s → state_fits t.program.outline s new ≡ true)
    → state_rank t.program.outline new < rank_at t.program.outline t.code (state_at w.states item)
    → ((locals : List SlotPlace) → rose ≡ Some locals → IsTracked w item locals new)
    → Went t w (with_state item rose new w)
Went-given t item rose new w sound stands kept later above less tracked =
    let put : Walked = record w { states = set w.states item (Some new); risen = set w.risen item rose } in
    let one = stands.one_each in
    let below = kept.forced.inside in
    let one_mark = stands.one_mark in
    let marks : item < length w.marks = omega (arith, below, one_mark) in
    let waits = with_waiting-waits item put marks in
    let inside : item < length w.states = omega arith in
    let at = λ (j : ℕ). given_at w.states item j new inside in
    let seen : (j : ℕ) → state_at (with_state item rose new w).states j ≡ state_at (set w.states item (Some new)) j =
    λ j. ap (λ (states : List (Option TypeState)). state_at states j) waits.states in
    let one_rise = stands.one_rise in
    let risen = λ (j : ℕ). rise_given_at w.risen item j rose (omega (arith, one, one_rise, inside)) in
    let rise_seen : (j : ℕ) → risen_at (with_state item rose new w) j ≡ get_or (set w.risen item rose) j None =
    λ j. ap (λ (xs : List (Option (List SlotPlace))). get_or xs j None) waits.risen in
    let rise_kept : (j : ℕ) → j ≢ item → risen_at (with_state item rose new w) j ≡ risen_at w j =
    λ j apart. rise_seen j ∙ get_or-set_other w.risen item j rose None apart in
    record {
      stands = record {
        one_each = ap length waits.states ∙ length-set w.states item (Some new) ∙ stands.one_each;
        one_mark = waits.one_mark ∙ stands.one_mark;
        one_rise = ap length waits.risen ∙ length-set w.risen item rose ∙ stands.one_rise;
        first = ⊎_elim (λ (this : (0 ≡ item) × (state_at (set w.states item (Some new)) 0 ≡ Some new)). absurd (later (sym this.0)))
            (λ (other : (0 ≢ item) × (state_at (set w.states item (Some new)) 0 ≡ state_at w.states 0)). seen 0 ∙ other.1 ∙ stands.first)
            (at 0);
        each = λ j s is.
            ⊎_elim
            (λ (this : (j ≡ item) × (state_at (set w.states item (Some new)) j ≡ Some new)).
            let same : new ≡ s = same_value (state_at (set w.states item (Some new)) j) new s this.1 (sym (seen j) ∙ is) in
            subst (λ (n : ℕ). IsKept t n s) (sym this.0) (subst (λ (x : TypeState). IsKept t item x) same kept))
            (λ (other : (j ≢ item) × (state_at (set w.states item (Some new)) j ≡ state_at w.states j)).
            stands.each j s (sym other.1 ∙ sym (seen j) ∙ is))
            (at j);
      };
      rises = record {
        rises = λ j s is.
            ⊎_elim
            (λ (this : (j ≡ item) × (state_at (set w.states item (Some new)) j ≡ Some new)).
            fits_at t (with_state item rose new w).states j s new (seen j ∙ this.1)
            (above s (ap (λ (n : ℕ). state_at w.states n) (sym this.0) ∙ is)))
            (λ (other : (j ≢ item) × (state_at (set w.states item (Some new)) j ≡ state_at w.states j)).
            fits_at t (with_state item rose new w).states j s s (seen j ∙ other.1 ∙ is) (state-refl t.program.outline sound.tree s))
            (at j);
        changed = λ j.
            ⊎_elim
            (λ (this : (j ≡ item) × (state_at (set w.states item (Some new)) j ≡ Some new)).
            inr (subst (λ (n : ℕ). is_marked (with_state item rose new w) n ≡ true) (sym this.0) waits.listed))
            (λ (other : (j ≢ item) × (state_at (set w.states item (Some new)) j ≡ state_at w.states j)).
            inl (seen j ∙ other.1, rise_kept j other.0))
            (at j);
        still = waits.still;
        tracks = λ j locals s known is.
            ⊎_elim
            (λ (this : (j ≡ item) × (state_at (set w.states item (Some new)) j ≡ Some new)).
            let same : new ≡ s = same_value (state_at (set w.states item (Some new)) j) new s this.1 (sym (seen j) ∙ is) in
            let noted : rose ≡ Some locals =
            ⊎_elim (λ (here : (j ≡ item) × (get_or (set w.risen item rose) j None ≡ rose)). sym here.1 ∙ sym (rise_seen j) ∙ known)
            (λ (there : (j ≢ item) × (get_or (set w.risen item rose) j None ≡ get_or w.risen j None)). absurd (there.0 this.0))
            (risen j) in
            subst (λ (n : ℕ). IsTracked w n locals s) (sym this.0) (subst (λ (x : TypeState). IsTracked w item locals x) same (tracked locals noted)))
            (λ (other : (j ≢ item) × (state_at (set w.states item (Some new)) j ≡ state_at w.states j)).
            tracked-same w j locals s (sym (rise_kept j other.0) ∙ known) (sym other.1 ∙ sym (seen j) ∙ is))
            (at j);
      };
      falls = given_less t item rose new w inside marks less;
    }

-- and a state that fits it was brought
Brings-given : (t : Task) (item : ℕ) (rose : Option (List SlotPlace)) (s new : TypeState) (w : Walked) → IsSound t → Stands t w → IsKept t item new → (item ≡ 0 → ⊥)
    → ((s : TypeState) → state_at w.states item ≡ Some s → state_fits t.program.outline s new ≡ true) → state_fits t.program.outline s new ≡ true
    → state_rank t.program.outline new < rank_at t.program.outline t.code (state_at w.states item)
    → ((locals : List SlotPlace) → rose ≡ Some locals → IsTracked w item locals new)
    → Brings t item s w (with_state item rose new w)
Brings-given t item rose s new w sound stands kept later above fits less tracked =
    let one = stands.one_each in
    let below = kept.forced.inside in
    let one_mark = stands.one_mark in
    let waits = with_waiting-waits item (record w { states = set w.states item (Some new); risen = set w.risen item rose })
    (omega (arith, below, one_mark)) in
    let inside : item < length w.states = omega arith in
    record {
      went = Went-given t item rose new w sound stands kept later above less tracked;
      fits = fits_at t (with_state item rose new w).states item s new
          (ap (λ (states : List (Option TypeState)). state_at states item) waits.states ∙ get_or-set_same w.states item (Some new) None inside)
          fits;
    }

-- ---- the cases of a state that is brought

-- an item without a state
pub Brings-first : (t : Task) (item : ℕ) (s : TypeState) (w : Walked) → IsSound t → Stands t w → IsForced t item s → is_within t.code s ≡ true
    → state_at w.states item ≡ None → Brings t item s w (with_state item None s w)
Brings-first t item s w sound stands forced within none =
    Brings-given t item None s s w sound stands (record { forced = forced; within = within })
    (λ same. let first : state_at w.states item ≡ Some _ = ap (λ (n : ℕ). state_at w.states n) same ∙ stands.first in cc)
    (λ u is. absurd cc)
    (state-refl t.program.outline sound.tree s)
    (subst (λ (x : Option TypeState). state_rank t.program.outline s < rank_at t.program.outline t.code x) (sym none)
    (state-within t.program.outline t.code s within))
    (λ locals e. absurd cc)

pub Went-none : (t : Task) (w : Walked) → IsSound t → Stands t w → Went t w w
Went-none t w sound stands = record {
  stands = stands;
  rises = record {
    rises = λ j s is. fits_at t w.states j s s is (state-refl t.program.outline sound.tree s);
    changed = λ j. inl (refl, refl);
    still = λ j h. h;
    tracks = λ j locals s known is. tracked-same w j locals s known is;
  };
  falls = omega arith;
}

-- a state that fits
pub Brings-fit : (t : Task) (item : ℕ) (s old : TypeState) (w : Walked) → IsSound t → Stands t w → state_at w.states item ≡ Some old
    → state_fits t.program.outline s old ≡ true → Brings t item s w w
Brings-fit t item s old w sound stands is fits = record { went = Went-none t w sound stands; fits = fits_at t w.states item s old is fits }

-- the join is within the counts where one of the two is
join-within : (o : Outline) (code : Code) (a b : TypeState) → state_fits o a b ≡ true → is_within code a ≡ is_within code b
join-within o code a b fits =
    let parts = fits-parts o a b fits in
    ap (λ n. (n == code.max_locals) && nat_le (length a.stack) code.max_stack) (length_all_zip (Fitting o) a.locals b.locals parts.locals)
    ∙ ap (λ n. (length b.locals == code.max_locals) && nat_le n code.max_stack) (length_all_zip (Fitting o) a.stack b.stack parts.stack)

-- and as large as each of them
pub joined_level : (o : Outline) (old s joined : TypeState) → AreTree o.classes → join_state o old s ≡ Some joined → AreLevel joined old
joined_level o old s joined tree gives =
    let parts = fits-parts o old joined (join_state-least o tree old s joined gives).first in
    record {
      locals = sym (length_all_zip (Fitting o) old.locals joined.locals parts.locals);
      stack = sym (length_all_zip (Fitting o) old.stack joined.stack parts.stack);
    }

pub few_locals : (code : Code) (old joined : TypeState) → AreLevel joined old → is_within code old ≡ true → code.max_locals ≤ 65535
    → length joined.locals ≤ 65535
few_locals code old joined level within few =
    let parts = and_parts (length old.locals == code.max_locals) (nat_le (length old.stack) code.max_stack) within in
    let same = eqb-true (length old.locals) code.max_locals parts.0 in
    let size = level.locals in
    omega (arith, same, size, few)

pub few_words : (code : Code) (old joined : TypeState) → AreLevel joined old → is_within code old ≡ true → code.max_stack ≤ 65535
    → length joined.stack ≤ 65535
few_words code old joined level within few =
    let parts = and_parts (length old.locals == code.max_locals) (nat_le (length old.stack) code.max_stack) within in
    let below = leb-true (length old.stack) code.max_stack parts.1 in
    let size = level.stack in
    omega (arith, below, size, few)

-- what all typings have above both they have above the join
join-forced : (t : Task) (j : ℕ) (a b joined : TypeState) → IsForced t j a → IsForced t j b → IsStateJoin t.program.outline a b joined → IsForced t j joined
join-forced t j a b joined first second join = record {
  reachable = first.reachable;
  inside = first.inside;
  whole = join.whole;
  below = λ states typing.
      let above = fits_one t states j a (first.below states typing) in
      let other = fits_one t states j b (second.below states typing) in
      let same : other.state ≡ above.state = same_value (state_at states j) other.state above.state other.is above.is in
      fits_at t states j joined above.state above.is
      (join.least above.state above.fits (ap (state_fits t.program.outline b) (sym same) ∙ other.fits));
}

-- a join that the old state doesn't fit ranks below it
joined_less : (t : Task) (s old joined : TypeState) → IsSound t → IsBoundedState old → IsStateJoin t.program.outline old s joined
    → state_fits t.program.outline s old ≡ false → state_rank t.program.outline joined < state_rank t.program.outline old
joined_less t s old joined sound bounded join unfit =
    state-less t.program.outline sound.tree old joined bounded join.first (by_fit (state_fits t.program.outline joined old) refl) where
      by_fit : (b : Bool) → state_fits t.program.outline joined old ≡ b → state_fits t.program.outline joined old ≡ false
      by_fit false e = e
      by_fit true e = absurd (false≢true (sym unfit ∙ state-trans t.program.outline sound.tree s joined old join.second e))

-- a state that is joined
pub Brings-joined : (t : Task) (item most : ℕ) (rose : Option (List SlotPlace)) (s old joined : TypeState) (w : Walked) → IsSound t → Stands t w → IsForced t item s → (item ≡ 0 → ⊥)
    → state_at w.states item ≡ Some old → join_state t.program.outline old s ≡ Some joined → IsBoundedState old
    → state_fits t.program.outline s old ≡ false → IsRisenIn rose joined old
    → Brings t item s w (with_state item (noted most (risen_at w item) rose) joined w)
Brings-joined t item most rose s old joined w sound stands forced later is gives bounded unfit risen =
    let join = join_state-least t.program.outline sound.tree old s joined gives in
    let kept = stands.each item old is in
    Brings-given t item (noted most (risen_at w item) rose) s joined w sound stands
    (record {
      forced = join-forced t item old s joined kept.forced forced join;
      within = sym (join-within t.program.outline t.code old joined join.first) ∙ kept.within;
    })
    later
    (λ u also. let same : old ≡ u = same_value (state_at w.states item) old u is also in ap (λ (x : TypeState). state_fits t.program.outline x joined) (sym same) ∙ join.first)
    join.second
    (subst (λ (x : Option TypeState). state_rank t.program.outline joined < rank_at t.program.outline t.code x) (sym is)
    (joined_less t s old joined sound bounded join unfit))
    (noted-tracked w item most rose joined old is risen)

-- ---- one step after the other

pub Rises-then : (t : Task) (a b c : Walked) → IsSound t → Rises t.program.outline a b → Rises t.program.outline b c → Rises t.program.outline a c
Rises-then t a b c sound first second = record {
  rises = λ j s is.
      let middle = fits_one t b.states j s (first.rises j s is) in
      let last = fits_one t c.states j middle.state (second.rises j middle.state middle.is) in
      fits_at t c.states j s last.state last.is (state-trans t.program.outline sound.tree s middle.state last.state middle.fits last.fits);
  changed = λ j.
      ⊎_elim
      (λ (late : (state_at c.states j ≡ state_at b.states j) × (risen_at c j ≡ risen_at b j)).
      ⊎_elim
      (λ (early : (state_at b.states j ≡ state_at a.states j) × (risen_at b j ≡ risen_at a j)). inl (late.0 ∙ early.0, late.1 ∙ early.1))
      (λ waits. inr (second.still j waits))
      (first.changed j))
      (λ waits. inr waits)
      (second.changed j);
  still = λ j h. second.still j (first.still j h);
  tracks = λ j locals s known is.
      let late = second.tracks j locals s known is in
      let early = first.tracks j late.known late.before late.is_known late.was in
      record {
        known = early.known;
        before = early.before;
        is_known = early.is_known;
        was = early.was;
        among = λ k found. late.among k (early.among k found);
        alike = alike-then late.known locals s late.before early.before late.among late.alike early.alike;
      };
}

pub Went-then : (t : Task) (a b c : Walked) → IsSound t → Went t a b → Went t b c → Went t a c
Went-then t a b c sound first second = record {
  stands = second.stands;
  rises = Rises-then t a b c sound first.rises second.rises;
  falls = let before = first.falls in let after = second.falls in omega arith;
}

-- what fits at an item fits later
pub fits_later : (t : Task) (a b : Walked) (j : ℕ) (s : TypeState) → IsSound t → Rises t.program.outline a b → FitsAt t.program a.states j s → FitsAt t.program b.states j s
fits_later t a b j s sound rises h =
    let before = fits_one t a.states j s h in
    let after = fits_one t b.states j before.state (rises.rises j before.state before.is) in
    fits_at t b.states j s after.state after.is (state-trans t.program.outline sound.tree s before.state after.state before.fits after.fits)

-- ---- paths

pub reachable-more : (code : Code) (j next : ℕ) → IsReachable code j → IsEdge code j next → IsReachable code next
reachable-more code j next (path, leads) edge = (path ++ next ∷ [], IsFlowPath-more code 0 path j next leads edge)

-- ---- states that are kept

pub kept-locals : (code : Code) (s : TypeState) → is_within code s ≡ true → length s.locals ≡ code.max_locals
kept-locals code s h = eqb-true (length s.locals) code.max_locals (and_parts (length s.locals == code.max_locals) (nat_le (length s.stack) code.max_stack) h).0

pub kept-stack : (code : Code) (s : TypeState) → is_within code s ≡ true → length s.stack ≤ code.max_stack
kept-stack code s h = leb-true (length s.stack) code.max_stack (and_parts (length s.locals == code.max_locals) (nat_le (length s.stack) code.max_stack) h).1
