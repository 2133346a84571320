use Rattle.std.proofs.Common.{◌≡◌, drop, map}
use Rattle.std.specs.List.{position_from}
use Rattle.std.specs.Str.{bytes_eq}
use Rattle.fm_world.proofs.built_ins.built_in_class.Given as goal
use Rattle.fm_world.specs.BuiltIns.{built_in}
use Rattle.fm_world.specs.Descriptors.{class_number}
use Rattle.fm_world.specs.declared.declarations.DeclaredClass.{DeclaredClass}
use Rattle.fm_world.specs.inner.BuiltInTable.{class_of_row}

-- the number is the same among the rows that are left
abbrev pub invariant-loop-place : goal.invariant-loop-place
invariant-loop-place l =
    position_from (λ (c : DeclaredClass). bytes_eq c.name l.name) l.place (map class_of_row (drop l.place l.classes)) ≡ class_number built_in l.name
