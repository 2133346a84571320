use Rattle.std.proofs.Common.{ap, rules}
use Rattle.fm_world.proofs.LayerLemmas.{IsNode-empty, entry_of-empty}
use Rattle.fm_world.specs.inner.Layers.{value_of_entry}
use Rattle.fm_world.specs.inner.Nodes.{AreNodes}
use Rattle.fm_world.proofs.layers.Layers.new.Goals as goal

pub returns-clause-empty : goal.returns-clause-empty
returns-clause-empty c =
    let a : AreNodes c.push.new.self.items = search rules in
    IsNode-empty c.push.new.self.items a c.levels_of-levels.result

pub returns-clause-nothing : goal.returns-clause-nothing
returns-clause-nothing c key =
    let a : AreNodes c.push.new.self.items = search rules in
    ap value_of_entry (entry_of-empty c.push.new.self.items a c.levels_of-levels.result key)
