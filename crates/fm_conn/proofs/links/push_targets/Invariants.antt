use Rattle.std.proofs.Common.{◌≡◌, ◌++◌, map, take}
use Rattle.std.specs.List.{flat_map}
use Rattle.fm_base.specs.declared.ids.MethodId.{MethodId}
use Rattle.fm_conn.specs.Summaries.{ends_at}
use Rattle.fm_conn.specs.inner.ListedEnds.{link_pairs}
use Rattle.fm_conn.proofs.links.push_targets.Given as goal

abbrev pub invariant-loop-target : goal.invariant-loop-target
invariant-loop-target l =
    l.pairs.items ≡ l.initial.pairs.items
    ++ flat_map (λ target. link_pairs l.ends (ends_at l.summaries target)) (map (λ (m : MethodId). m.0) (take l.target-index l.targets))
