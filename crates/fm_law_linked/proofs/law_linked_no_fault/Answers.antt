use Rattle.fm_world.specs.Programs.{program_of}
use Rattle.fm_law_linked.proofs.law_linked_no_fault.Goals as goal

pub returns : goal.returns
returns c given main spelled supported none few typings =
    c.law_no_fault.ensures.runs (program_of given main) typings (c.law_resolved.ensures given main spelled none few)
    (c.law_sound_steps.ensures given main spelled supported none few) (c.law_makeable.ensures given main spelled none few)
    (c.law_cells.ensures given main spelled supported none few) (c.law_main.ensures given main spelled supported none)
