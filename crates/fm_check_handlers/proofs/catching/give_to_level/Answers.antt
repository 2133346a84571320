use Rattle.std.proofs.Common.{◌<◌, ◌≤◌, length, set, arith}
use Rattle.fm_check_handlers.proofs.GivingLemmas.{entries_read, given_read, GivesLevel-past, GivesLevel-set}
use Rattle.fm_check_walk.proofs.Outcomes.{ok_weaker}
use Rattle.fm_check_handlers.specs.inner.Runs.{GivesLevel, GivesRun, is_taken}
use Rattle.fm_check_walk.specs.inner.Walks.{Untypable, walked}
use Rattle.fm_check_walk.specs.inner.Tasks.{task}
use Rattle.fm_check_handlers.proofs.catching.give_to_level.Goals as goal

pub returns-then-len-place : goal.returns-then-len-place
returns-then-len-place c =
    let t = task c.args.method.now in
    let long = c.len.ensures in
    let ok = c.args.level.now.runs.ok.0 in
    let test = c.if-len-place.true in
    let past : length c.args.level.now.runs.items ≤ c.args.place = omega (arith, long, ok, test) in
    GivesLevel-past (is_taken t c.args.item c.args.giving) t c.args.place c.args.level.now.runs.items (walked c.args.walk.now) c.requires.sound
    c.requires.stands c.requires.given past

pub give_to_run-requires-clause-given : goal.give_to_run-requires-clause-given
give_to_run-requires-clause-given c =
    let t = task c.args.method.now in
    let long = c.len.ensures in
    let ok = c.args.level.now.runs.ok.0 in
    let test = c.if-len-place.false in
    let inside : c.args.place < length c.args.level.now.runs.items = omega (arith, long, ok, test) in
    given_read t (walked c.args.walk.now).states c.args.level.now.runs.items c.args.place c.index_mut.result.now c.index_mut.result.now inside
    c.index_mut.ensures.value c.requires.given

pub give_to_run-requires-clause-holds : goal.give_to_run-requires-clause-holds
give_to_run-requires-clause-holds c = λ h found.
    let long = c.len.ensures in
    let ok = c.args.level.now.runs.ok.0 in
    let test = c.if-len-place.false in
    let inside : c.args.place < length c.args.level.now.runs.items = omega (arith, long, ok, test) in
    c.requires.holds h
    (entries_read c.args.level.now.runs.items c.args.place c.index_mut.result.now c.index_mut.result.now h inside c.index_mut.ensures.value found)

pub returns : goal.returns
returns c =
    let t = task c.args.method.now in
    let W = is_taken t c.args.item c.args.giving in
    let runs = c.args.level.now.runs.items in
    let read = c.index_mut.result.now in
    let given = c.give_to_run.new.run in
    let old = walked c.args.walk.now in
    let new = walked c.give_to_run.new.walk in
    let long = c.len.ensures in
    let ok = c.args.level.now.runs.ok.0 in
    let test = c.if-len-place.false in
    let inside : c.args.place < length runs = omega (arith, long, ok, test) in
    ok_weaker (GivesRun W t read given old new) (GivesLevel W t c.args.place runs (set runs c.args.place given) old new) (Untypable t)
    c.give_to_run.result
    (λ gives. GivesLevel-set W t c.args.place runs read given read old new c.requires.sound inside c.index_mut.ensures.value c.requires.given gives)
    c.give_to_run.ensures
