-- The targets of a call are methods of the same descriptor as the one that is named, and have a receiver as it has.
use Rattle.std.proofs.Common.{◌≡◌, ℕ, cond, [], ◌++◌, length, filter, Contains, refl, sym, subst}
use Rattle.std.specs.Prelude.{option_to_list, nat_eq}
use Rattle.std.specs.List.{range_with_len}
use Rattle.std.proofs.lemmas.Bool.{eqb-true}
use Rattle.fm_code.proofs.EdgesLemmas.{Contains-from_filter}
use Rattle.fm_conn.proofs.ListLemmas.{Contains-one}
use Rattle.fm_base.proofs.ContainsFacts.{any-found}
use Rattle.fm_world.proofs.ElementLemmas.{Contains-from_filter_map}
use Rattle.fm_world.specs.Chains.{is_among}
use Rattle.fm_world.specs.Lookups.{select, special_target}
use Rattle.fm_world.specs.Members.{methods_of}
use Rattle.fm_world.specs.Programs.{class_of_type, Program, selected, takes_arrays, takes_class, targets}
use Rattle.fm_world.specs.Lookups.{object_number}
use Rattle.fm_world.specs.declared.calls.Call.{Call}
use Rattle.fm_world.specs.declared.calls.CallKind.{CallKind}
use Rattle.fm_world.specs.declared.calls.CallKind.TheVariants as call
use Rattle.fm_law_sound.proofs.FoundMethods.{alike_itself, IsAlike, select_alike, special_alike}

-- ---- targets

selected_alike : (p : Program) (c : Call) (target : ℕ)
    → Contains (filter (λ method. is_among method (selected p c.named c.method.0)) (range_with_len 0 (length (methods_of p.outline.classes)))) target
    → IsAlike p.outline.classes c.method.0 target
selected_alike p c target h =
    let passes = (Contains-from_filter (λ method. is_among method (selected p c.named c.method.0)) (range_with_len 0 (length (methods_of p.outline.classes)))
    target h).1 in
    let found = any-found (nat_eq target) (selected p c.named c.method.0) passes in
    let same : target ≡ found.0 = eqb-true target found.0 found.2 in
    let receiver = Contains-from_filter_map (λ class. select p.outline.classes class c.method.0)
    (filter (takes_class p c.named) (range_with_len 0 (length p.outline.classes))
    ++ cond (takes_arrays p.outline.classes c.named) (option_to_list (object_number p.outline.classes)) []) found.0 found.1 in
    subst (IsAlike p.outline.classes c.method.0) (sym same) (select_alike p.outline.classes receiver.0 c.method.0 found.0 receiver.2)

-- each target is alike, and that of invokestatic is the method itself
pub target_alike : (p : Program) (c : Call) (target : ℕ) → Contains (targets p c) target → IsAlike p.outline.classes c.method.0 target
unfolding targets
target_alike p c target h = by_kind c.kind refl h where
  by_kind : (k : CallKind) → c.kind ≡ k → Contains (targets p c) target → IsAlike p.outline.classes c.method.0 target
  by_kind call.Static is among =
      alike_itself p.outline.classes c.method.0 target (Contains-one c.method.0 target (rw is at among))
  by_kind call.Special is among =
      subst (IsAlike p.outline.classes c.method.0)
      (sym (Contains-one (special_target p.outline.classes c.caller.0 (class_of_type c.named) c.method.0) target (rw is at among)))
      (special_alike p.outline.classes c.caller.0 (class_of_type c.named) c.method.0)
  by_kind call.Virtual is among = selected_alike p c target (rw is at among)
  by_kind call.Interface is among = selected_alike p c target (rw is at among)
