use Rattle.std.proofs.Common.{◌≡◌, drop}
use Rattle.fm_link.specs.inner.MainClass.{main_method_in, own_main_in}
use Rattle.fm_world.specs.Chains.{first_found}
use Rattle.fm_link.proofs.main_class.main_method.Given as goal

abbrev pub invariant-loop-above : goal.invariant-loop-above
invariant-loop-above l = first_found (own_main_in l.linking) (drop l.above-index l.above-items) ≡ main_method_in l.linking l.class
