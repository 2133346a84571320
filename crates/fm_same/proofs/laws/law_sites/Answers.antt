use Rattle.fm_same.proofs.SiteNodes.{sites_are_nodes, sites_make_busy}
use Rattle.fm_same.proofs.laws.law_sites.Goals as goal

pub returns : goal.returns
returns c = record { nodes = sites_are_nodes; busy = sites_make_busy }
