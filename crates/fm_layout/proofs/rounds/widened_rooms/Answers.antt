use Rattle.std.proofs.Common.{◌≡◌, ◌-◌, ◌+◌, ◌<◌, ◌++◌, List, length, take, drop, ap, sym, subst, ◌∙◌, arith}
use Rattle.std.proofs.lemmas.Bool.{eqb-true}
use Rattle.std.proofs.lemmas.List.{take-append-le, take_all}
use Rattle.fm_layout.proofs.ChangeLemmas.{light_end, listed_anew, none_widened}
use Rattle.fm_layout.proofs.RoomsLemmas.{rounds_settled, round_next}
use Rattle.fm_layout.specs.Rooms.{end_from, round_after, rounds_after, starts_from}
use Rattle.fm_layout.specs.inner.Spots.{Tracks, far_items, spots_from}
use Rattle.fm_layout.specs.inner.Weights.{weight_of}
use Rattle.fm_layout.specs.declared.rooms.Room.{Room}
use Rattle.fm_layout.specs.declared.spots.Spot.{Spot}
use Rattle.fm_layout.proofs.rounds.widened_rooms.Goals as goal

pub starts_of-requires : goal.starts_of-requires
starts_of-requires c =
    let light : weight_of c.args.rooms.items < 4294967288 = omega (arith, c.requires) in
    let low = light_end c.args.rooms.items light in
    let same = ap (λ (rooms : List Room). end_from 0 rooms) c.as_slice.ensures.value in
    omega arith

pub put_spots-requires : goal.put_spots-requires
put_spots-requires c =
    let light : weight_of c.args.rooms.items < 4294967288 = omega (arith, c.requires) in
    let low = light_end c.args.rooms.items light in
    let same = ap (λ (rooms : List Room). end_from 0 rooms) c.as_slice-2.ensures.value in
    omega arith

pub loop-init : goal.loop-init
loop-init c =
    let rooms = c.args.rooms.items in
    let starts : c.as_slice-3.result.now ≡ starts_from 0 rooms = c.as_slice-3.ensures.value ∙ c.in_ok-starts.ensures ∙ ap (λ (rs : List Room). starts_from 0 rs) c.as_slice.ensures.value in
    let all : length rooms - 0 ≡ length rooms = omega arith in
    record {
      tracks = listed_anew rooms c.put_spots.new.spots.items c.as_slice-3.result.now (omega (arith, c.requires)) starts
          (c.in_ok-put_spots.ensures ∙ ap (λ (rs : List Room). spots_from c.as_slice-3.result.now 0 0 rs) c.as_slice-2.ensures.value);
      rounds = ap (λ n. rounds_after n rooms) all;
    }

pub returns-then-is_empty : goal.returns-then-is_empty
returns-then-is_empty c =
    let rooms = c.loop.rooms.items in
    let far = c.put_far.new.far.items in
    let ok = c.put_far.new.far.ok.0 in
    let empty = eqb-true _ 0 (sym c.is_empty.ensures ∙ c.if-is_empty.true) in
    let none : length far ≡ 0 = omega (arith, ok, empty) in
    let are : far ≡ far_items c.loop.spots.items = c.in_ok-put_far.ensures ∙ ap (λ (all : List Spot). far_items all) c.as_slice-in-loop.ensures.value in
    sym (rounds_settled (length c.args.rooms.items - c.loop.counter) rooms (none_widened rooms c.loop.spots.items far c.loop.invariant.tracks are none)) ∙ c.loop.invariant.rounds

pub widen_round-requires-clause-tracks : goal.widen_round-requires-clause-tracks
widen_round-requires-clause-tracks c = subst (λ (rooms : List Room). Tracks rooms c.loop.spots.items) (sym c.as_mut_slice.ensures.value) c.loop.invariant.tracks

pub widen_round-requires-clause-far : goal.widen_round-requires-clause-far
widen_round-requires-clause-far c =
    c.as_slice-in-loop-2.ensures.value ∙ c.in_ok-put_far.ensures ∙ ap (λ (all : List Spot). far_items all) c.as_slice-in-loop.ensures.value

pub loop-preserved : goal.loop-preserved
loop-preserved c =
    let rooms = c.loop.rooms.items in
    let new = c.widen_round.new.rooms in
    let ok = c.loop.rooms.ok.0 in
    let kept : length new ≡ length rooms = c.widen_round.auto.rooms ∙ ap length c.as_mut_slice.ensures.value in
    let written : take c.loop.rooms.len (new ++ drop (length new) rooms) ≡ new =
    take-append-le c.loop.rooms.len new (drop (length new) rooms) (omega (arith, ok, kept)) ∙ take_all c.loop.rooms.len new (omega (arith, ok, kept)) in
    let wider = written ∙ c.in_ok-widen_round.ensures.widened ∙ ap (λ (rs : List Room). round_after rs) c.as_mut_slice.ensures.value in
    record {
      tracks = subst (λ (rs : List Room). Tracks rs c.widen_round.new.spots.items) (sym written) c.in_ok-widen_round.ensures.tracks;
      rounds = ap (λ (rs : List Room). rounds_after (length c.args.rooms.items - (c.loop.counter + 1)) rs) wider
          ∙ sym (round_next (length c.args.rooms.items) c.loop.counter rooms (omega (arith, c.len-end.ensures, c.loop-test.true))) ∙ c.loop.invariant.rounds;
    }
