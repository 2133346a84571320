-- Lists of targets that were found before they are asked for.
use Rattle.std.specs.Prelude.{◌≡◌, ◌<◌, ℕ, List, filter, length, map, Contains}
use Rattle.std.specs.List.{range_with_len}
use Rattle.fm_base.specs.declared.ids.MethodId.{MethodId}
use Rattle.fm_base.specs.declared.kinds.TypeRef.{TypeRef}
use Rattle.fm_world.specs.Chains.{is_among}
use Rattle.fm_world.specs.Members.{methods_of}
use Rattle.fm_world.specs.Programs.{selected, IsTypeIn, Outline, Program}
use Rattle.fm_world.specs.declared.known_targets.KnownTargets.{KnownTargets}
use Rattle.fm_world.specs.declared.known_targets.TargetList.{TargetList}

-- there is this list for the type and the method
pub record IsListed (known : KnownTargets) (named : TypeRef) (method : MethodId) (found : List MethodId) : Type 0 where
  pub list : TargetList
  pub among : Contains known.lists.items list
  pub named_is : list.named ≡ named
  pub method_is : list.method ≡ method
  pub targets : found ≡ list.targets.items

-- a type whose class, if it has one, is there, and a method that is
pub record IsPairIn (o : Outline) (pair : TypeRef × MethodId) : Type 0 where
  pub named : IsTypeIn o.classes pair.0
  pub method : pair.1.0 < length (methods_of o.classes)

-- the methods that are selected over all receivers of the type, rising and each once
abbrev pub selected_methods : Program → TypeRef → ℕ → List ℕ
selected_methods p named method =
    filter (λ k. is_among k (selected p named method)) (range_with_len 0 (length (methods_of p.outline.classes)))

-- each list has what is selected for its type and its method
abbrev pub KnowsTargets : Program → KnownTargets → Type 0
KnowsTargets p known =
    (list : TargetList) → Contains known.lists.items list
    → map (λ (m : MethodId). m.0) list.targets.items ≡ selected_methods p list.named list.method.0
