-- Targets that were found before they are asked for.
use Rattle.std.proofs.Common.{◌≡◌, subst, ◌∷◌, ◌++◌, [], map, ⊎_elim}
use Rattle.std.proofs.lemmas.List.Elements.{Contains-push_cases}
use Rattle.std.specs.Prelude.{Contains}
use Rattle.fm_base.specs.declared.ids.MethodId.{MethodId}
use Rattle.fm_world.specs.Programs.{Program}
use Rattle.fm_world.specs.declared.known_targets.KnownTargets.{KnownTargets}
use Rattle.fm_world.specs.declared.known_targets.TargetList.{TargetList}
use Rattle.fm_world.specs.inner.KnownTargets.{selected_methods, KnowsTargets}

-- a list more
pub knows_more : (p : Program) (before after : KnownTargets) (list : TargetList) → KnowsTargets p before
    → after.lists.items ≡ before.lists.items ++ list ∷ []
    → map (λ (m : MethodId). m.0) list.targets.items ≡ selected_methods p list.named list.method.0 → KnowsTargets p after
knows_more p before after list knows more is other found =
    ⊎_elim (λ was. knows other was)
    (λ (same : list ≡ other). subst (λ (l : TargetList). map (λ (m : MethodId). m.0) l.targets.items ≡ selected_methods p l.named l.method.0) same is)
    (Contains-push_cases before.lists.items list other (subst (λ lists. Contains lists other) more found))
