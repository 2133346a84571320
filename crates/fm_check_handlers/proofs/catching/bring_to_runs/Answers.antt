use Rattle.std.proofs.Common.{rules, ◌≡◌, length, arith}
use Rattle.fm_check_handlers.proofs.GivingLemmas.{GivesAll-all, GivesLevels-none}
use Rattle.fm_check_handlers.specs.inner.Runs.{is_brought}
use Rattle.fm_check_walk.specs.inner.Walks.{walked}
use Rattle.fm_check_walk.specs.inner.Tasks.{task}
use Rattle.fm_types.specs.Typings.{type_state}
use Rattle.fm_check_handlers.proofs.catching.bring_to_runs.Goals as goal

pub returns-then-is_empty : goal.returns-then-is_empty
returns-then-is_empty c =
    let t = task c.args.method.now in
    let W = is_brought t c.args.item (type_state c.args.state.now) in
    let levels = c.args.levels.now.items in
    let w = walked c.args.walk.now in
    let none : length levels ≡ 0 = search rules in
    GivesAll-all W t c.args.item 0 levels levels w w (omega (arith, none)) (GivesLevels-none W t c.args.item levels w c.requires.sound c.requires.stands c.requires.guarded)

pub give_to_levels-requires-clause-may : goal.give_to_levels-requires-clause-may
give_to_levels-requires-clause-may c = record { forced = c.requires.forced; within = c.requires.within }
