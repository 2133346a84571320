use Rattle.std.proofs.Common.{◌≡◌, drop}
use Rattle.std.specs.List.{list_any}
use Rattle.fm_world.specs.Lookups.{opens}
use Rattle.fm_world.specs.Members.{method_at}
use Rattle.fm_world.proofs.program.Program.is_opened_in.Given as goal

abbrev pub invariant-loop-class : goal.invariant-loop-class
invariant-loop-class l =
    list_any (opens l.self.outline.classes (method_at l.self.outline.classes l.m.0)) (drop l.class-index l.classes)
    ≡ list_any (opens l.self.outline.classes (method_at l.self.outline.classes l.m.0)) l.classes
