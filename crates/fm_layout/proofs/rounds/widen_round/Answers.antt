use Rattle.std.proofs.Common.{◌≡◌, ◌<◌, ◌++◌, ℕ, List, length, take, drop, ap, sym, subst, ◌∙◌, arith}
use Rattle.std.specs.List.{AllByRecursion}
use Rattle.std.proofs.lemmas.List.{take-append-le, take_all}
use Rattle.fm_layout.specs.Rooms.{widened_from}
use Rattle.fm_layout.specs.inner.Spots.{Tracks}
use Rattle.fm_layout.specs.declared.spots.Spot.{Spot}
use Rattle.fm_layout.proofs.ChangeLemmas.{far_widened, far_within, light_end, light_round, listed_anew}
use Rattle.fm_layout.proofs.rounds.widen_round.Goals as goal

pub widen_far-requires-clause-within : goal.widen_far-requires-clause-within
widen_far-requires-clause-within c =
    subst (λ (items : List ℕ). AllByRecursion (λ item. item < length c.args.rooms.now) items) (sym c.requires.far)
    (far_within c.args.rooms.now c.args.spots.now.items c.requires.tracks.each)

pub widen_far-requires-clause-tracks : goal.widen_far-requires-clause-tracks
widen_far-requires-clause-tracks c = subst (λ (all : List Spot). Tracks c.args.rooms.now all) (sym c.as_mut_slice.ensures.value) c.requires.tracks

pub returns-then-far-le-FEW_BRANCHES-clause-widened : goal.returns-then-far-le-FEW_BRANCHES-clause-widened
returns-then-far-le-FEW_BRANCHES-clause-widened c =
    far_widened c.args.rooms.now c.args.spots.now.items c.args.far.now c.widen_far.new.rooms c.requires.tracks c.requires.far c.widen_far.ensures.widened

pub returns-then-far-le-FEW_BRANCHES-clause-tracks : goal.returns-then-far-le-FEW_BRANCHES-clause-tracks
returns-then-far-le-FEW_BRANCHES-clause-tracks c =
    let old = c.args.spots.now.items in
    let new = c.widen_far.new.spots in
    let ok = c.args.spots.now.ok.0 in
    let kept : length new ≡ length old = c.widen_far.auto.spots ∙ ap length c.as_mut_slice.ensures.value in
    let written : take c.args.spots.now.len (new ++ drop (length new) old) ≡ new =
    take-append-le c.args.spots.now.len new (drop (length new) old) (omega (arith, ok, kept)) ∙ take_all c.args.spots.now.len new (omega (arith, ok, kept)) in
    subst (λ (all : List Spot). Tracks c.widen_far.new.rooms all) (sym written) c.widen_far.ensures.tracks

pub put_starts-requires : goal.put_starts-requires
put_starts-requires c = light_end c.args.rooms.now c.requires.tracks.weight

pub widen_each-requires : goal.widen_each-requires
widen_each-requires c = light_end c.args.rooms.now c.requires.tracks.weight

pub put_starts-requires-2 : goal.put_starts-requires-2
put_starts-requires-2 c = light_end c.widen_each.new.rooms (light_round c.as_slice.result.now c.args.rooms.now c.widen_each.new.rooms c.requires.tracks.weight c.widen_each.ensures)

pub put_spots-requires : goal.put_spots-requires
put_spots-requires c = light_end c.widen_each.new.rooms (light_round c.as_slice.result.now c.args.rooms.now c.widen_each.new.rooms c.requires.tracks.weight c.widen_each.ensures)

pub returns-clause-widened : goal.returns-clause-widened
returns-clause-widened c = c.widen_each.ensures ∙ ap (λ (starts : List ℕ). widened_from starts 0 c.args.rooms.now) (c.as_slice.ensures.value ∙ c.in_ok-put_starts.ensures)

pub returns-clause-tracks : goal.returns-clause-tracks
returns-clause-tracks c =
    listed_anew c.widen_each.new.rooms c.put_spots.new.spots.items c.as_slice-2.result.now
    (light_round c.as_slice.result.now c.args.rooms.now c.widen_each.new.rooms c.requires.tracks.weight c.widen_each.ensures)
    (c.as_slice-2.ensures.value ∙ c.in_ok-put_starts-2.ensures) c.in_ok-put_spots.ensures
