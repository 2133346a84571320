-- The methods that start classes have code and no arguments.
use Rattle.std.proofs.Common.{◌≡◌, ℕ, ◌==◌, cond, Bool, true, false, List, [], ◌∷◌, ◌++◌, Option, Some, None, codes, refl, sym, ◌∙◌, ap, eq-eqb, eqb-true}
use Rattle.std.specs.List.{AllByRecursion, cons_option, filter_map, flat_map}
use Rattle.std.proofs.lemmas.Bool.{false≢true}
use Rattle.std.proofs.lemmas.Slice.Eq.{bytes_eq-Decides}
use Rattle.fm_code.specs.AccessFlags.{is_static}
use Rattle.fm_types.specs.CallRows.{has_name, is_constructor}
use Rattle.fm_types.specs.Named.{class_of_method, this_class}
use Rattle.fm_types.specs.States.{local_slots}
use Rattle.fm_types.specs.declared.slots.Slot.{Slot}
use Rattle.fm_types.specs.declared.slots.Slot.TheVariants as slot
use Rattle.fm_world.specs.Descriptors.{parameter_kinds}
use Rattle.fm_world.specs.Members.{method_at, start_of}
use Rattle.fm_world.specs.Numbers.{type_of_class}
use Rattle.fm_world.specs.Programs.{Outline, Program}
use Rattle.fm_frames.proofs.Programs.{start_by}
use Rattle.fm_frames.specs.Starts.{start_methods}
use Rattle.fm_frames.specs.Steps.{is_start}
use Rattle.fm_law_sound.specs.Going.{StartsClass}
use Rattle.fm_law_sound.specs.Resolved.{CallsAreResolved}
use Rattle.fm_law_sound.proofs.BuiltInMethods.{start_is_given}
use Rattle.fm_world.proofs.OwnedMethods.{IsFound, own_method_found}

-- ---- which methods start classes

-- a method of another name starts none
pub not_start : (o : Outline) (target : ℕ) → has_name o target (codes "<clinit>") ≡ false → is_start o target ≡ false
not_start o target other = by_start (start_of o.classes (class_of_method o target)) refl where
  by_start : (s : Option ℕ) → start_of o.classes (class_of_method o target) ≡ s → start_by target s ≡ false
  by_start None is = refl
  by_start (Some start) is = by_same (start == target) refl where
    by_same : (b : Bool) → (start == target) ≡ b → (start == target) ≡ false
    by_same true same =
        let found = own_method_found o.classes is_static (codes "<clinit>") (codes "()V") (class_of_method o target) start is in
        let name : (method_at o.classes target).method.name ≡ codes "<clinit>" =
        ap (λ n. (method_at o.classes n).method.name) (sym (eqb-true start target same)) ∙ found.name_is in
        absurd (false≢true (sym other ∙ (bytes_eq-Decides (method_at o.classes target).method.name (codes "<clinit>")).1 name))
    by_same false same = same

module _ (p : Program) (ready : CallsAreResolved p) (class method : ℕ) (is : start_of p.outline.classes class ≡ Some method) where
  found : IsFound p.outline.classes is_static (codes "<clinit>") (codes "()V") class method
  found = own_method_found p.outline.classes is_static (codes "<clinit>") (codes "()V") class method is

  -- it has no receiver, and its descriptor no parameters
  no_slots : (static constructor : Bool) (s : Slot) (descriptor : List ℕ) → static ≡ true → descriptor ≡ codes "()V"
      → cond static [] (cond constructor (slot.UninitThis ∷ []) (s ∷ [])) ++ flat_map local_slots (parameter_kinds p.outline.classes descriptor) ≡ []
  no_slots static constructor s descriptor flag same =
      ap (λ b. cond b [] (cond constructor (slot.UninitThis ∷ []) (s ∷ [])) ++ flat_map local_slots (parameter_kinds p.outline.classes descriptor)) flag
      ∙ ap (λ d. flat_map local_slots (parameter_kinds p.outline.classes d)) same

  starts_class : StartsClass p method
  starts_class =
      let coded = ready.coded method found.inside (ready.concrete method found.flags) (start_is_given p ready method found.name_is) in
      record {
        code = coded.0;
        code_is = coded.1;
        starts = ap (start_by method) (ap (start_of p.outline.classes) found.owner ∙ is) ∙ eq-eqb method method refl;
        no_arguments = no_slots (is_static (method_at p.outline.classes method).method.flags) (is_constructor p.outline method)
            (slot.Ref (type_of_class (this_class p.outline method))) (method_at p.outline.classes method).method.descriptor found.flags found.descriptor_is;
      }

pub starts_are_methods : (p : Program) → CallsAreResolved p → (classes : List ℕ) → AllByRecursion (StartsClass p) (start_methods p.outline classes)
starts_are_methods p ready [] = tt
starts_are_methods p ready (class ∷ classes) = by_start (start_of p.outline.classes class) refl (starts_are_methods p ready classes) where
  by_start : (o : Option ℕ) → start_of p.outline.classes class ≡ o → AllByRecursion (StartsClass p) (start_methods p.outline classes)
      → AllByRecursion (StartsClass p) (cons_option o (filter_map (start_of p.outline.classes) classes))
  by_start None is later = later
  by_start (Some method) is later = (starts_class p ready class method is, later)
