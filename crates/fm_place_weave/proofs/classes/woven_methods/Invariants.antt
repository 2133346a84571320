use Rattle.std.proofs.Common.{◌≡◌, ◌++◌, drop}
use Rattle.fm_place_weave.specs.ClassByPlan.{first_long, methods_by, MayDoAll}
use Rattle.fm_place_weave.proofs.classes.woven_methods.Given as goal

abbrev pub invariant-loop-place : goal.invariant-loop-place
invariant-loop-place l = record {
  may : MayDoAll l.calls (drop l.place l.planned) (drop l.place l.methods);
  made : l.woven.items ++ methods_by l.calls (drop l.place l.planned) (drop l.place l.methods) ≡ methods_by l.calls l.planned l.methods;
  none : first_long l.calls l.place (drop l.place l.planned) (drop l.place l.methods) ≡ first_long l.calls 0 l.planned l.methods;
}
