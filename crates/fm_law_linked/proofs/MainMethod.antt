-- Main of a linked program: a static method of a class file, which has code and takes only the
-- array of the arguments.
use Rattle.std.proofs.Common.{◌≡◌, refl, sym, ◌∙◌, ap, ℕ, ◌<◌, ◌≤◌, ◌⊎◌, inl, inr, not, Bool, true, false, cond, List, [], ◌∷◌, ◌++◌, length, codes, get_or, Option, Some, None, is_some, option_and_then, option_map, unwrap_or, arith}
use Rattle.std.specs.List.{AllByRecursion, flat_map, list_all}
use Rattle.std.specs.Str.{bytes_eq}
use Rattle.std.proofs.lemmas.Bool.{cases_lt, false≢true}
use Rattle.std.proofs.lemmas.List.{get_or_append_left}
use Rattle.std.proofs.lemmas.List.Folds.{list_all_at}
use Rattle.std.proofs.lemmas.Slice.Eq.{bytes_eq-Decides}
use Rattle.fm_base.specs.declared.kinds.Base.TheVariants as base
use Rattle.fm_base.specs.declared.kinds.Kind.TheVariants as kind
use Rattle.fm_base.specs.declared.kinds.TypeRef.{TypeRef}
use Rattle.fm_code.specs.AccessFlags.{is_static}
use Rattle.fm_code.specs.Profile.{IsSupported}
use Rattle.fm_code.specs.Spells.{HasSpelling}
use Rattle.fm_code.specs.declared.class_file.ClassDef.{ClassDef}
use Rattle.fm_frames.proofs.Programs.{string-is, string_number}
use Rattle.fm_frames.specs.Natives.{native_of_row}
use Rattle.fm_frames.specs.Runs.{arguments_type}
use Rattle.fm_law_linked.proofs.ConcreteCodes.{concrete_coded}
use Rattle.fm_link_supers.proofs.ParentRefusals.{nil_right}
use Rattle.fm_law_linked.proofs.Rows.{all_methods, row_past}
use Rattle.fm_law_linked.proofs.Steps.{concrete_there}
use Rattle.fm_world.proofs.OverridingLemmas.{found_among}
use Rattle.fm_world.proofs.OwnedMethods.{IsFound, own_method_found}
use Rattle.fm_law_sound.specs.Resolved.{MainIsReady}
use Rattle.fm_types.specs.CallRows.{is_constructor}
use Rattle.fm_types.specs.Named.{parameters_of, this_class}
use Rattle.fm_types.specs.States.{local_slots}
use Rattle.fm_types.specs.Typed.{entry_slots}
use Rattle.fm_types.specs.declared.slots.Slot.TheVariants as slot
use Rattle.fm_world.specs.BuiltIns.{built_in, string_name}
use Rattle.fm_world.specs.Causes.{is_there_and, no_main, NoMain, Refusal, refused_if}
use Rattle.fm_world.specs.Chains.{chain_of, given_number}
use Rattle.fm_world.specs.Declarations.{declared_from, no_method}
use Rattle.fm_world.specs.Descriptors.{class_number, kind_with, of_class, parameter_kinds}
use Rattle.fm_world.specs.Linking.{refusals, refused_built_ins, refused_duplicates, refused_fields, refused_main, refused_methods, refused_missing_classes, refused_not_implemented, refused_parents}
use Rattle.fm_world.specs.Members.{method_at, methods_from, methods_of, own_method, OwnedMethod}
use Rattle.fm_world.specs.Numbers.{type_of_class}
use Rattle.fm_world.specs.Programs.{classes_of, main_of, Outline, outline_of, program_of}
use Rattle.fm_world.specs.declared.declarations.DeclaredClass.{DeclaredClass}

-- ---- no cause against main

no_main_refused : (given : List ClassDef) (main : List ℕ) → refusals given main ≡ [] → no_main (classes_of given) main ≡ []
unfolding refusals refused_main
no_main_refused given main none =
    nil_right
    (refused_duplicates given ++ refused_built_ins given ++ refused_missing_classes given ++ refused_parents given ++ refused_fields given
    ++ refused_methods given ++ refused_not_implemented given)
    (refused_main given main) none

-- the method that the program has for its main
abbrev main_in : List DeclaredClass → List ℕ → ℕ
main_in classes name = unwrap_or (main_of classes (unwrap_or (given_number classes name) 0)) 0

-- it is the main of a class
main_found : (classes : List DeclaredClass) (name : List ℕ) → no_main classes name ≡ [] → (class : ℕ) × (main_of classes class ≡ Some (main_in classes name))
main_found classes name none = by_class (given_number classes name) none where
  refusal : Refusal
  refusal = record { cause = NoMain; name = name; user = name }

  by_method : (o : Option ℕ) → refused_if (not (is_some o)) refusal ≡ [] → o ≡ Some (unwrap_or o 0)
  by_method None e = absurd (omega (arith, ap length e))
  by_method (Some method) e = refl

  by_class : (o : Option ℕ) → refused_if (not (is_there_and (λ k. is_some (main_of classes k)) o)) refusal ≡ []
      → (class : ℕ) × (main_of classes class ≡ Some (unwrap_or (main_of classes (unwrap_or o 0)) 0))
  by_class None e = absurd (omega (arith, ap length e))
  by_class (Some class) e = (class, by_method (main_of classes class) e)

-- ---- what a main is

abbrev IsMain : List DeclaredClass → ℕ → ℕ → Type 0
IsMain classes class method = IsFound classes is_static (codes "main") (codes "([Ljava/lang/String;)V") class method

main_is : (classes : List DeclaredClass) (class method : ℕ) → main_of classes class ≡ Some method → (owner : ℕ) × IsMain classes owner method
main_is classes class method is =
    let among = found_among (own_method classes is_static (codes "main") (codes "([Ljava/lang/String;)V")) (chain_of classes class) method is in
    (among.0, own_method_found classes is_static (codes "main") (codes "([Ljava/lang/String;)V") among.0 method among.1)

abbrev is_other : OwnedMethod → Bool
is_other m = not (bytes_eq m.method.name (codes "main"))

-- no built-in method has its name
table_other : list_all is_other (methods_of built_in) ≡ true
unfolding built_in methods_of
table_other = refl

main_past : (given : List ClassDef) (method : ℕ) → (method_at (classes_of given) method).method.name ≡ codes "main" → length (methods_of built_in) ≤ method
main_past given method named = by_place (cases_lt method (length (methods_of built_in))) where
  nothing : OwnedMethod
  nothing = record { class = 0; method = no_method }

  by_place : (method < length (methods_of built_in)) ⊎ (length (methods_of built_in) ≤ method) → length (methods_of built_in) ≤ method
  by_place (inr past) = past
  by_place (inl within) =
      let at : method_at (classes_of given) method ≡ get_or (methods_of built_in) method nothing =
      ap (λ list. get_or list method nothing) (all_methods given)
      ∙ get_or_append_left (methods_of built_in) (methods_from (length built_in) (declared_from 0 given)) nothing method within in
      let alike : is_other (get_or (methods_of built_in) method nothing) ≡ false =
      ap is_other (sym at) ∙ ap not ((bytes_eq-Decides (method_at (classes_of given) method).method.name (codes "main")).1 named) in
      absurd (false≢true (sym (list_all_at is_other (methods_of built_in) method nothing within alike) ∙ table_other))

-- ---- what it takes

arguments_array : TypeRef
arguments_array = record { dims = 1; base = base.OfClass (record { 0 = 1 }) }

main_takes : (o : Outline) (given : List DeclaredClass) (method : ℕ) → o.classes ≡ built_in ++ given
    → is_static (method_at o.classes method).method.flags ≡ true
    → (method_at o.classes method).method.descriptor ≡ codes "([Ljava/lang/String;)V"
    → entry_slots o method ≡ slot.Ref arguments_array ∷ []
unfolding arguments_array
main_takes o given method classes static descriptor =
    ap (λ b. cond b [] (cond (is_constructor o method) (slot.UninitThis ∷ []) (slot.Ref (type_of_class (this_class o method)) ∷ []))
    ++ flat_map local_slots (parameters_of o method)) static
    ∙ ap (λ d. flat_map local_slots (parameter_kinds o.classes d)) descriptor
    ∙ ap (λ n. flat_map local_slots (unwrap_or (option_map (kind_with 1) (option_map of_class n)) kind.Int ∷ []))
    (ap (λ all. class_number all string_name) classes ∙ string_number given)

-- ---- main of linked programs

-- main takes only the array of the arguments
pub main_slots : (given : List ClassDef) (main : List ℕ) → refusals given main ≡ []
    → entry_slots (outline_of given main) (outline_of given main).main ≡ slot.Ref (arguments_type (outline_of given main)) ∷ []
unfolding outline_of classes_of arguments_array
main_slots given main none =
    let o = outline_of given main in
    let found = main_found (classes_of given) main (no_main_refused given main none) in
    let is = (main_is (classes_of given) found.0 o.main found.1).1 in
    let text = string-is o (declared_from 0 given) refl in
    main_takes o (declared_from 0 given) o.main refl is.flags is.descriptor_is
    ∙ ap (λ (t : TypeRef). slot.Ref (record { dims = 1; base = t.base }) ∷ []) (sym text)

pub main_ready : (given : List ClassDef) (main : List ℕ) → AllByRecursion HasSpelling given → AllByRecursion IsSupported given → refusals given main ≡ []
    → MainIsReady (program_of given main)
unfolding program_of outline_of classes_of
main_ready given main spelled supported none =
    let o = outline_of given main in
    let found = main_found (classes_of given) main (no_main_refused given main none) in
    let is = (main_is (classes_of given) found.0 o.main found.1).1 in
    let no_row = ap (option_and_then native_of_row) (row_past given o.main (main_past given o.main is.name_is)) in
    let coded = concrete_coded given main spelled supported o.main is.inside (concrete_there given spelled o.main is.flags) no_row in
    record {
      code = coded.0;
      code_is = coded.1;
      arguments = arguments_array;
      takes = main_takes o (declared_from 0 given) o.main refl is.flags is.descriptor_is;
    }
