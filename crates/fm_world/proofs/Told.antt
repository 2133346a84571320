-- What the records hold, field by field, and the cases of the selected method.
use Rattle.std.proofs.Common.{length, [], ◌∷◌, filter, ◌⊎◌, inl, inr, ◌&&◌, unwrap_or, Option, None, nat_lt, arith, ◌≡◌, refl, ◌∙◌, ap, ℕ, ◌<◌, true, false, List, Some, if◌then◌else◌}
use Rattle.std.specs.List.{range_with_len}
use Rattle.std.proofs.lemmas.Bool.{eq-eqb, ne_eqb, lt-ltb, le-ltb}
use Rattle.fm_base.specs.declared.kinds.TypeRef.{TypeRef}
use Rattle.fm_code.specs.AccessFlags.{is_private}
use Rattle.fm_world.specs.Chains.{is_among, first_found, superclasses_of, chain_of, class_at, is_base_above_arrays, is_sub, is_sub_base}
use Rattle.fm_world.specs.Lookups.{overriding, own_instance, package_of, searches_above, select, special_target}
use Rattle.fm_world.specs.Members.{methods_of, method_at, slot_of}
use Rattle.fm_world.specs.Programs.{Outline, Program, class_info, class_of_type, field_info, method_info, selected, targets}
use Rattle.fm_world.specs.declared.calls.Call.{Call}
use Rattle.fm_world.specs.declared.calls.CallKind.TheVariants as call
use Rattle.fm_world.specs.declared.declarations.DeclaredClass.{DeclaredClass}

pub class_info-flags : (o : Outline) (class : ℕ) → (class_info o class).flags ≡ (class_at o.classes class).flags
unfolding class_info
class_info-flags o class = refl

pub class_info-name : (o : Outline) (class : ℕ) → (class_info o class).name ≡ (class_at o.classes class).name
unfolding class_info
class_info-name o class = refl

pub class_info-package : (o : Outline) (class : ℕ) → (class_info o class).package_bytes ≡ length (package_of (class_at o.classes class).name)
unfolding class_info
class_info-package o class = refl

pub field_info-slot : (o : Outline) (field : ℕ) → (field_info o field).slot ≡ slot_of o.classes field
unfolding field_info
field_info-slot o field = refl

pub method_info-name : (p : Program) (method : ℕ) → (method_info p method).name ≡ (method_at p.outline.classes method).method.name
unfolding method_info
method_info-name p method = refl

pub method_info-flags : (p : Program) (method : ℕ) → (method_info p method).flags ≡ (method_at p.outline.classes method).method.flags
unfolding method_info
method_info-flags p method = refl

pub method_info-class : (p : Program) (method : ℕ) → (method_info p method).class.0 ≡ (method_at p.outline.classes method).class
unfolding method_info
method_info-class p method = refl

-- ---- the selected method

pub select-private : (classes : List DeclaredClass) (class method : ℕ) → is_private (method_at classes method).method.flags ≡ true
    → select classes class method ≡ Some method
unfolding select
select-private classes class method private =
    ap (λ b. if b then Some method else first_found (overriding classes (method_at classes method)) (chain_of classes class)) private

pub select-other : (classes : List DeclaredClass) (class method : ℕ) → is_private (method_at classes method).method.flags ≡ false
    → select classes class method ≡ first_found (overriding classes (method_at classes method)) (chain_of classes class)
unfolding select
select-other classes class method other =
    ap (λ b. if b then Some method else first_found (overriding classes (method_at classes method)) (chain_of classes class)) other

-- ---- the cases of what can be cast

pub is_sub-level : (classes : List DeclaredClass) (a b : TypeRef) → a.dims ≡ b.dims → is_sub classes a b ≡ is_sub_base classes a.base b.base
unfolding is_sub
is_sub-level classes a b same =
    ap (λ t. if t then is_sub_base classes a.base b.base else (nat_lt b.dims a.dims && is_base_above_arrays classes b.base))
    (eq-eqb a.dims b.dims same)

pub is_sub-deeper : (classes : List DeclaredClass) (a b : TypeRef) → b.dims < a.dims → is_sub classes a b ≡ is_base_above_arrays classes b.base
unfolding is_sub
is_sub-deeper classes a b deeper =
    ap (λ t. if t then is_sub_base classes a.base b.base else (nat_lt b.dims a.dims && is_base_above_arrays classes b.base))
    (ne_eqb a.dims b.dims (λ same. omega (arith, same, deeper)))
    ∙ ap (λ t. t && is_base_above_arrays classes b.base) (lt-ltb b.dims a.dims deeper)

pub is_sub-flatter : (classes : List DeclaredClass) (a b : TypeRef) → a.dims < b.dims → is_sub classes a b ≡ false
unfolding is_sub
is_sub-flatter classes a b flatter =
    ap (λ t. if t then is_sub_base classes a.base b.base else (nat_lt b.dims a.dims && is_base_above_arrays classes b.base))
    (ne_eqb a.dims b.dims (λ same. omega (arith, same, flatter)))
    ∙ ap (λ t. t && is_base_above_arrays classes b.base) (le-ltb b.dims a.dims (omega (arith, flatter)))

-- ---- the cases of a special call

pub special_target-unnamed : (classes : List DeclaredClass) (caller method : ℕ) → special_target classes caller None method ≡ method
unfolding special_target
special_target-unnamed classes caller method = refl

pub special_target-above : (classes : List DeclaredClass) (caller : ℕ) (named : Option ℕ) (method : ℕ)
    → searches_above classes caller named (method_at classes method).method.name ≡ true
    → special_target classes caller named method ≡ unwrap_or (first_found (own_instance classes method) (superclasses_of classes caller)) method
unfolding special_target
special_target-above classes caller named method above =
    ap (λ b. if b then unwrap_or (first_found (own_instance classes method) (superclasses_of classes caller)) method else method) above

pub special_target-itself : (classes : List DeclaredClass) (caller : ℕ) (named : Option ℕ) (method : ℕ)
    → searches_above classes caller named (method_at classes method).method.name ≡ false → special_target classes caller named method ≡ method
unfolding special_target
special_target-itself classes caller named method itself =
    ap (λ b. if b then unwrap_or (first_found (own_instance classes method) (superclasses_of classes caller)) method else method) itself

-- ---- the cases of the targets of a call

pub targets-static : (p : Program) (c : Call) → c.kind ≡ call.Static → targets p c ≡ c.method.0 ∷ []
unfolding targets
targets-static p c kind = ap (λ k. targets p (record c { kind = k })) kind

pub targets-special : (p : Program) (c : Call) → c.kind ≡ call.Special
    → targets p c ≡ special_target p.outline.classes c.caller.0 (class_of_type c.named) c.method.0 ∷ []
unfolding targets
targets-special p c kind = ap (λ k. targets p (record c { kind = k })) kind

pub targets-selected : (p : Program) (c : Call) → (c.kind ≡ call.Virtual) ⊎ (c.kind ≡ call.Interface)
    → targets p c ≡ filter (λ method. is_among method (selected p c.named c.method.0)) (range_with_len 0 (length (methods_of p.outline.classes)))
unfolding targets
targets-selected p c (inl kind) = ap (λ k. targets p (record c { kind = k })) kind
targets-selected p c (inr kind) = ap (λ k. targets p (record c { kind = k })) kind
