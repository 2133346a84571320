use Rattle.std.proofs.Common.{heap_items}
use Rattle.fm_check_walk.proofs.TurnLemmas.{keys-more}
use Rattle.fm_check_walk.proofs.turns.Turns.add.Goals as goal

pub invariant_of-self-2 : goal.invariant_of-self-2
invariant_of-self-2 c =
    keys-more c.self.inside.marks.items (heap_items c.self.inside.keys) (heap_items c.push.new.self) c.key_of.result c.args.item c.self.invariant
    c.in_ok-push.ensures.permutation c.key_of.ensures
