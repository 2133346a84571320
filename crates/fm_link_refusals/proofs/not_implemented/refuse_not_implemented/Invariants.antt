use Rattle.std.proofs.Common.{◌≡◌, length}
use Rattle.fm_link_refusals.proofs.LeftOver.{each_left}
use Rattle.fm_link_refusals.specs.inner.GivenClasses.{given_in}
use Rattle.fm_link_refusals.specs.inner.Linking.{IsLinking}
use Rattle.fm_world.specs.BuiltIns.{built_in}
use Rattle.fm_world.specs.Causes.{not_implemented}
use Rattle.fm_world.specs.Linking.{refused_not_implemented}
use Rattle.fm_world.specs.Programs.{classes_of}
use Rattle.fm_link_refusals.proofs.not_implemented.refuse_not_implemented.Given as goal

abbrev pub invariant-loop-file : goal.invariant-loop-file
invariant-loop-file l = record {
  left : IsLinking (classes_of (given_in l.files)) l.linking
      → refused_not_implemented (given_in l.files)
      ≡ each_left (length built_in) (not_implemented (classes_of (given_in l.files))) l.files l.file-index;
}
