use Rattle.std.proofs.Common.{◌∙◌, ap}
use Rattle.fm_link_records.proofs.SizeSteps.{sizes-all}
use Rattle.fm_link_program.proofs.program_tables.class_infos_of.Goals as goal
use Rattle.fm_link_supers.specs.inner.ListTables.{lists}

pub class_infos-requires-clause-parents : goal.class_infos-requires-clause-parents
class_infos-requires-clause-parents c = c.as_slice-parents.ensures.value ∙ c.requires.hierarchy.parents

pub class_infos-requires-clause-listed : goal.class_infos-requires-clause-listed
class_infos-requires-clause-listed c = ap lists c.as_slice-listed.ensures.value ∙ c.requires.hierarchy.listed

pub class_infos-requires-clause-first : goal.class_infos-requires-clause-first
class_infos-requires-clause-first c = c.as_slice-first.ensures.value ∙ c.requires.first

pub class_infos-requires-clause-sizes : goal.class_infos-requires-clause-sizes
class_infos-requires-clause-sizes c =
    sizes-all c.args.hierarchy.now.classes.now c.as_slice-own.result.now c.as_slice-along.result.now (lists c.as_slice-chains.result.now)
    (c.as_slice-own.ensures.value ∙ c.in_ok-sizes.ensures) (ap lists c.as_slice-chains.ensures.value ∙ c.requires.hierarchy.chains)
    (c.as_slice-along.ensures.value ∙ c.in_ok-summed.ensures)
