use Rattle.fm_world.proofs.Acyclic.{IsLinear-acyclic, superinterfaces_of-listed}
use Rattle.fm_world.proofs.laws.law_acyclic.Goals as goal

pub returns-clause-superclasses : goal.returns-clause-superclasses
returns-clause-superclasses c classes acyclic = IsLinear-acyclic classes acyclic.superclasses

pub returns-clause-interfaces : goal.returns-clause-interfaces
returns-clause-interfaces c classes acyclic class within = superinterfaces_of-listed classes class (acyclic.interfaces class within)
