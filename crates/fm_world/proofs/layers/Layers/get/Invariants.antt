use Rattle.std.proofs.Common.{◌≡◌, ◌-◌}
use Rattle.fm_world.specs.inner.Nodes.{entry_of}
use Rattle.fm_world.proofs.layers.Layers.get.Given as goal

abbrev pub invariant-loop : goal.invariant-loop
invariant-loop l = entry_of l.self.nodes.items (l.end - l.counter) l.node l.rest ≡ entry_of l.self.nodes.items l.end l.fn.table l.fn.key
