-- The classes of files that have no cause of refusal are a tree below Object.
use Rattle.std.proofs.Common.{◌≡◌, refl, sym, ◌∙◌, ap, ℕ, List, [], ◌∷◌, ◌++◌, Some, unwrap_or}
use Rattle.std.specs.List.{AllByRecursion}
use Rattle.fm_code.specs.Spells.{HasSpelling}
use Rattle.fm_code.specs.declared.class_file.ClassDef.{ClassDef}
use Rattle.fm_link_supers.proofs.ParentRefusals.{are_sound, tree_interfaces, tree_object, tree_object_is_class, tree_parents, tree_top}
use Rattle.fm_types.specs.Fits.{AreTree, object_of}
use Rattle.fm_world.proofs.Acyclic.{IsLinear-acyclic}
use Rattle.fm_world.specs.Causes.{Refusal}
use Rattle.fm_world.specs.Chains.{parent_of}
use Rattle.fm_world.specs.Linking.{refusals, refused_built_ins, refused_duplicates, refused_fields, refused_main, refused_methods, refused_missing_classes, refused_not_implemented, refused_parents}
use Rattle.fm_world.specs.Lookups.{is_interface_at}
use Rattle.fm_world.specs.Programs.{classes_of}

-- ---- no superclass and no interface is refused

first_part : (xs ys : List Refusal) → xs ++ ys ≡ [] → xs ≡ []
first_part [] ys e = refl
first_part (x ∷ xs) ys e = cc

second_part : (xs ys : List Refusal) → xs ++ ys ≡ [] → ys ≡ []
second_part [] ys e = e
second_part (x ∷ xs) ys e = cc

pub no_parent_refused : (given : List ClassDef) (main : List ℕ) → refusals given main ≡ [] → refused_parents given ≡ []
unfolding refusals
no_parent_refused given main none =
    let before = refused_duplicates given ++ refused_built_ins given ++ refused_missing_classes given in
    let to_parents = before ++ refused_parents given in
    let to_fields = to_parents ++ refused_fields given in
    let to_methods = to_fields ++ refused_methods given in
    second_part before (refused_parents given)
    (first_part to_parents (refused_fields given)
    (first_part to_fields (refused_methods given)
    (first_part to_methods (refused_not_implemented given)
    (first_part (to_methods ++ refused_not_implemented given) (refused_main given main) none))))

pub no_built_in_refused : (given : List ClassDef) (main : List ℕ) → refusals given main ≡ [] → refused_built_ins given ≡ []
unfolding refusals
no_built_in_refused given main none =
    let to_built_ins = refused_duplicates given ++ refused_built_ins given in
    let to_classes = to_built_ins ++ refused_missing_classes given in
    let to_parents = to_classes ++ refused_parents given in
    let to_fields = to_parents ++ refused_fields given in
    let to_methods = to_fields ++ refused_methods given in
    second_part (refused_duplicates given) (refused_built_ins given)
    (first_part to_built_ins (refused_missing_classes given)
    (first_part to_classes (refused_parents given)
    (first_part to_parents (refused_fields given)
    (first_part to_fields (refused_methods given)
    (first_part to_methods (refused_not_implemented given)
    (first_part (to_methods ++ refused_not_implemented given) (refused_main given main) none))))))

-- ---- the tree

-- Object is the first of all classes
object_is_first : (given : List ClassDef) → object_of (classes_of given) ≡ 0
object_is_first given = ap (λ o. unwrap_or o 0) (tree_object given)

pub tree_of : (given : List ClassDef) → AllByRecursion HasSpelling given → refused_built_ins given ≡ [] → refused_parents given ≡ []
    → AreTree (classes_of given)
tree_of given spelled apart none =
    let classes = classes_of given in
    let first = object_is_first given in
    record {
      linear = IsLinear-acyclic classes (are_sound given spelled apart none).acyclic.superclasses;
      object = tree_object given ∙ ap Some (sym first);
      top = ap (parent_of classes) first ∙ tree_top given;
      object_is_class = ap (is_interface_at classes) first ∙ tree_object_is_class given;
      parents = tree_parents given spelled apart none;
      interfaces = λ class is. tree_interfaces given spelled apart none class is ∙ ap Some (sym first);
    }
