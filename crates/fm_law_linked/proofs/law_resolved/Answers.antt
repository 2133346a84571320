use Rattle.std.proofs.Common.{ℕ, ◌^◌, ◌<◌, ◌≤◌, length}
use Rattle.fm_frames.specs.Runnable.{KeepsTable}
use Rattle.fm_law_linked.proofs.ObjectSizes.{few_types, small_objects}
use Rattle.fm_law_linked.proofs.law_resolved.Goals as goal
use Rattle.fm_law_linked.specs.Laws.{IsLinkedWell}
use Rattle.fm_same.specs.Resolved.{IsResolved}
use Rattle.fm_world.specs.Members.{size_of}
use Rattle.fm_world.specs.Programs.{Program, program_of}

-- what linking makes sure of and the two bounds are all that is asked
resolved : (p : Program) → IsLinkedWell p → length p.outline.types ≤ 2 ^ 28 → ((class : ℕ) → size_of p.outline.classes class < 2 ^ 31) → IsResolved p
unfolding KeepsTable
resolved p well few small = record {
  runnable = record {
    given = well.given;
    classes = well.classes;
    completed = well.completed;
    few_types = few;
    sizes = small;
    types = well.types;
    owners = well.owners;
    uses = well.uses;
    codes = well.codes;
    no_row = well.no_row;
  };
  class_types = well.class_types;
  rows = well.rows;
  calls = well.calls;
  tree = well.tree;
  below_object = well.below_object;
  no_interface = well.no_interface;
  fields = well.fields;
  message = well.message;
  constants = well.constants;
}

pub returns : goal.returns
unfolding program_of
returns c given main spelled none few =
    resolved (program_of given main) (c.law_linking.ensures given main spelled none) (few_types given main spelled few) (small_objects given main spelled few)
