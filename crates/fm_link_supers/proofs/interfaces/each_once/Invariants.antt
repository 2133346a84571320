use Rattle.std.proofs.Common.{◌≡◌, ◌++◌, ℕ, drop, map, nat_eq}
use Rattle.std.specs.Global.{Vec}
use Rattle.fm_link_supers.specs.inner.ListTables.{lists}
use Rattle.fm_world.specs.Chains.{distinct}
use Rattle.fm_link_supers.proofs.interfaces.each_once.Given as goal

abbrev pub invariant-loop-interfaces : goal.invariant-loop-interfaces
invariant-loop-interfaces l =
    lists l.once.items ++ map (λ (list : Vec ℕ). distinct nat_eq list.items) (drop l.interfaces-index l.listed)
    ≡ map (λ (list : Vec ℕ). distinct nat_eq list.items) l.listed
