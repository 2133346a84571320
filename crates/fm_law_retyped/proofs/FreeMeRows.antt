-- The rows of calls of FreeMe's methods take whatever references are on top.
use Rattle.std.proofs.Common.{◌≡◌, refl, ◌∙◌, ap, ℕ, ◌==◌, Bool, true, false, ◌||◌, cond, List, [], ◌∷◌, Option, Some, None, option_and_then, option_map, codes, arith}
use Rattle.std.proofs.lemmas.Bool.{or_right}
use Rattle.std.specs.Prelude.{option_to_list, unwrap_or}
use Rattle.std.specs.Str.{bytes_eq}
use Rattle.fm_law_relinked.proofs.FreeMethod.{chain_method_number, free_class_number, free_method_number, link_method_number}
use Rattle.fm_law_relinked.proofs.FreeUse.{HasFree, type_found}
use Rattle.fm_base.proofs.TestFacts.{same-nat_eq}
use Rattle.fm_base.specs.declared.kinds.Kind.{Kind}
use Rattle.fm_base.specs.declared.kinds.Kind.TheVariants as kind
use Rattle.fm_base.specs.declared.kinds.TypeRef.{TypeRef}
use Rattle.fm_chain.specs.ChainEntries.{chain_name, link_descriptor, link_name}
use Rattle.fm_code.specs.FreeEntries.{free_descriptor, free_name}
use Rattle.fm_code.specs.declared.class_file.ClassDef.{ClassDef}
use Rattle.fm_code.specs.declared.instructions.Insn.TheVariants as insn
use Rattle.fm_types.proofs.Order.{below_objects-fits}
use Rattle.fm_types.specs.CallRows.{is_initializer, static_call_row}
use Rattle.fm_types.specs.Fits.{AreTree, fits, is_object_base, object_of}
use Rattle.fm_types.specs.Named.{argument_words, object_slot, result_words}
use Rattle.fm_types.specs.Rows.{row_after}
use Rattle.fm_types.specs.States.{pushed, stack_slots, taken, TypeState, worked}
use Rattle.fm_types.specs.declared.slots.Slot.{Slot}
use Rattle.fm_types.specs.declared.slots.Slot.TheVariants as slot
use Rattle.fm_world.specs.BuiltIns.{built_in}
use Rattle.fm_world.specs.Descriptors.{kind_with, of_class, parameter_kinds, result_kind}
use Rattle.fm_world.specs.Lookups.{constructor_name, is_interface_at}
use Rattle.fm_world.specs.Members.{method_at, methods_of}
use Rattle.fm_world.specs.Numbers.{type_of_class}
use Rattle.fm_world.specs.Programs.{classes_of, method_use, Outline, outline_of}
use Rattle.fm_world.specs.declared.declarations.DeclaredClass.{DeclaredClass}

-- ---- the methods

free_named : (given : List ClassDef) → (method_at (classes_of given) free_method_number).method.name ≡ free_name
unfolding classes_of built_in methods_of
free_named given = refl

free_described : (given : List ClassDef) → (method_at (classes_of given) free_method_number).method.descriptor ≡ free_descriptor
unfolding classes_of built_in methods_of
free_described given = refl

link_named : (given : List ClassDef) → (method_at (classes_of given) link_method_number).method.name ≡ link_name
unfolding classes_of built_in methods_of
link_named given = refl

link_described : (given : List ClassDef) → (method_at (classes_of given) link_method_number).method.descriptor ≡ link_descriptor
unfolding classes_of built_in methods_of
link_described given = refl

chain_named : (given : List ClassDef) → (method_at (classes_of given) chain_method_number).method.name ≡ chain_name
unfolding classes_of built_in methods_of
chain_named given = refl

chain_described : (given : List ClassDef) → (method_at (classes_of given) chain_method_number).method.descriptor ≡ free_descriptor
unfolding classes_of built_in methods_of
chain_described given = refl

classes_are : (given : List ClassDef) (main : List ℕ) → (outline_of given main).classes ≡ classes_of given
unfolding outline_of
classes_are given main = refl

abbrev initializer_by : List ℕ → Bool
initializer_by name = bytes_eq name constructor_name || bytes_eq name (codes "<clinit>")

not_initializer : (given : List ClassDef) (main : List ℕ) (m : ℕ) (name : List ℕ) → (method_at (classes_of given) m).method.name ≡ name
    → initializer_by name ≡ false → is_initializer (outline_of given main) m ≡ false
not_initializer given main m name named plain =
    ap (λ classes. initializer_by (method_at classes m).method.name) (classes_are given main) ∙ ap initializer_by named ∙ plain

own_descriptor : (given : List ClassDef) (main : List ℕ) (m : ℕ) (descriptor : List ℕ) → (method_at (classes_of given) m).method.descriptor ≡ descriptor
    → (method_at (outline_of given main).classes m).method.descriptor ≡ descriptor
own_descriptor given main m descriptor described =
    ap (λ classes. (method_at classes m).method.descriptor) (classes_are given main) ∙ described

-- ---- their types

abbrev object_kind : List DeclaredClass → Kind
object_kind classes = kind.Ref (type_of_class (object_of classes))

abbrev kind_by : Option ℕ → Kind
kind_by n = unwrap_or (option_map (kind_with 0) (option_map of_class n)) kind.Int

one_object : (classes : List DeclaredClass) → AreTree classes → parameter_kinds classes free_descriptor ≡ object_kind classes ∷ []
one_object classes tree = ap (λ n. kind_by n ∷ []) tree.object

two_objects : (classes : List DeclaredClass) → AreTree classes → parameter_kinds classes link_descriptor ≡ object_kind classes ∷ object_kind classes ∷ []
two_objects classes tree = ap (λ n. kind_by n ∷ kind_by n ∷ []) tree.object

nothing_given : (classes : List DeclaredClass) → result_kind classes free_descriptor ≡ None
nothing_given classes = refl

object_given : (classes : List DeclaredClass) → AreTree classes → result_kind classes link_descriptor ≡ Some (object_kind classes)
object_given classes tree = ap (λ n. option_map (kind_with 0) (option_map of_class n)) tree.object

-- ---- the rows

module _ (given : List ClassDef) (main : List ℕ) (tree : AreTree (outline_of given main).classes) where
  abbrev o : Outline
  o = outline_of given main

  takes_one : (m : ℕ) → (method_at (classes_of given) m).method.descriptor ≡ free_descriptor → argument_words o m ≡ object_slot o ∷ []
  takes_one m described = ap stack_slots (ap (parameter_kinds o.classes) (own_descriptor given main m free_descriptor described) ∙ one_object o.classes tree)

  gives_nothing : (m : ℕ) → (method_at (classes_of given) m).method.descriptor ≡ free_descriptor → result_words o m ≡ []
  gives_nothing m described =
      ap (λ (k : Option Kind). stack_slots (option_to_list k))
      (ap (result_kind o.classes) (own_descriptor given main m free_descriptor described) ∙ nothing_given o.classes)

  takes_two : argument_words o link_method_number ≡ object_slot o ∷ object_slot o ∷ []
  takes_two =
      ap stack_slots
      (ap (parameter_kinds o.classes) (own_descriptor given main link_method_number link_descriptor (link_described given)) ∙ two_objects o.classes tree)

  gives_object : result_words o link_method_number ≡ object_slot o ∷ []
  gives_object =
      ap (λ (k : Option Kind). stack_slots (option_to_list k))
      (ap (result_kind o.classes) (own_descriptor given main link_method_number link_descriptor (link_described given)) ∙ object_given o.classes tree)

  -- each reference fits Object
  fits_object : (t : TypeRef) → fits o (slot.Ref t) (object_slot o) ≡ true
  unfolding fits
  fits_object t =
      let there : is_object_base o.classes (of_class (object_of o.classes)) ≡ true =
      or_right (is_interface_at o.classes (object_of o.classes)) (object_of o.classes == object_of o.classes) (same-nat_eq (object_of o.classes)) in
      below_objects-fits o.classes t (type_of_class (object_of o.classes)) (omega arith) there

  object_taken : (t : TypeRef) (s : TypeState) → worked o (object_slot o ∷ []) [] (pushed (slot.Ref t ∷ []) s) ≡ Some s
  object_taken t s = ap (λ b. option_map (λ (stack : List Slot). record s { stack = stack }) (cond b (Some s.stack) None)) (fits_object t)

  abbrev given_one : TypeState → Option (List Slot) → Option TypeState
  given_one s left = option_map (λ (stack : List Slot). record s { stack = object_slot o ∷ stack }) left

  objects_taken : (a b : TypeRef) (s : TypeState)
      → worked o (object_slot o ∷ object_slot o ∷ []) (object_slot o ∷ []) (pushed (slot.Ref a ∷ slot.Ref b ∷ []) s)
      ≡ Some (pushed (object_slot o ∷ []) s)
  objects_taken a b s =
      ap (λ x. given_one s (cond x (taken o (object_slot o ∷ []) (slot.Ref b ∷ s.stack)) None)) (fits_object a)
      ∙ ap (λ x. given_one s (cond x (Some s.stack) None)) (fits_object b)

  abbrev called : TypeState → ℕ → TypeRef → Option TypeState
  called s m named = cond (is_initializer o m) None (worked o (argument_words o m) (result_words o m) s)

  -- a call of a method of FreeMe that takes and gives these slots
  row_by : HasFree o → (m : ℕ) (takes gives : List Slot) → is_initializer o m ≡ false → argument_words o m ≡ takes → result_words o m ≡ gives
      → (method item : ℕ) (news : ℕ → Option TypeRef) (index : ℕ) (s : TypeState)
      → row_after o method item news (method_use free_class_number m) (insn.Static index) s ≡ worked o takes gives s
  unfolding row_after static_call_row
  row_by has m takes gives plain takes_is gives_is method item news index s =
      ap (option_and_then (called s m)) (type_found o.types has.number)
      ∙ ap (λ b. cond b None (worked o (argument_words o m) (result_words o m) s)) plain ∙ (λ k. worked o (takes_is k) (gives_is k) s)

  pub free_row : HasFree o → (method item : ℕ) (news : ℕ → Option TypeRef) (index : ℕ) (t : TypeRef) (s : TypeState)
      → row_after o method item news (method_use free_class_number free_method_number) (insn.Static index) (pushed (slot.Ref t ∷ []) s) ≡ Some s
  free_row has method item news index t s =
      row_by has free_method_number (object_slot o ∷ []) [] (not_initializer given main free_method_number free_name (free_named given) refl)
      (takes_one free_method_number (free_described given)) (gives_nothing free_method_number (free_described given)) method item news index
      (pushed (slot.Ref t ∷ []) s)
      ∙ object_taken t s

  pub chain_row : HasFree o → (method item : ℕ) (news : ℕ → Option TypeRef) (index : ℕ) (t : TypeRef) (s : TypeState)
      → row_after o method item news (method_use free_class_number chain_method_number) (insn.Static index) (pushed (slot.Ref t ∷ []) s) ≡ Some s
  chain_row has method item news index t s =
      row_by has chain_method_number (object_slot o ∷ []) [] (not_initializer given main chain_method_number chain_name (chain_named given) refl)
      (takes_one chain_method_number (chain_described given)) (gives_nothing chain_method_number (chain_described given)) method item news index
      (pushed (slot.Ref t ∷ []) s)
      ∙ object_taken t s

  pub link_row : HasFree o → (method item : ℕ) (news : ℕ → Option TypeRef) (index : ℕ) (a b : TypeRef) (s : TypeState)
      → row_after o method item news (method_use free_class_number link_method_number) (insn.Static index) (pushed (slot.Ref a ∷ slot.Ref b ∷ []) s)
      ≡ Some (pushed (object_slot o ∷ []) s)
  link_row has method item news index a b s =
      row_by has link_method_number (object_slot o ∷ object_slot o ∷ []) (object_slot o ∷ [])
      (not_initializer given main link_method_number link_name (link_named given) refl) takes_two gives_object method item news index
      (pushed (slot.Ref a ∷ slot.Ref b ∷ []) s)
      ∙ objects_taken a b s
