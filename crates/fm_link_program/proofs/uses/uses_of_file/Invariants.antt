use Rattle.std.proofs.Common.{◌≡◌, map}
use Rattle.std.specs.List.{range_with_len}
use Rattle.fm_link_refusals.specs.inner.GivenClasses.{class_in}
use Rattle.fm_link_program.specs.inner.Resolved.{outline_by, use_if}
use Rattle.fm_world.specs.Uses.{is_used}
use Rattle.fm_link_program.proofs.uses.uses_of_file.Given as goal

abbrev pub invariant-loop-place : goal.invariant-loop-place
invariant-loop-place l =
    l.uses.items ≡ map (λ k. use_if (outline_by l.resolving) (class_in l.file) (is_used (class_in l.file) k) k) (range_with_len 0 l.place)
