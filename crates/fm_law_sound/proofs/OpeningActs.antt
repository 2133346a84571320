-- The actions of the opening fit: streams have no fields, and the array of the arguments takes their texts.
use Rattle.std.proofs.Common.{◌≡◌, ℕ, ◌+◌, ◌^◌, ◌<◌, Bool, true, false, List, [], ◌∷◌, ◌++◌, length, codes, Some, refl, sym, ◌∙◌, ap, subst, slice_get, arith}
use Rattle.std.specs.List.{AllByRecursion}
use Rattle.std.specs.Str.{bytes_eq}
use Rattle.std.proofs.lemmas.Iterator.Adapters.{position_from-zero}
use Rattle.fm_base.proofs.ListFacts.{slice_get-append_left}
use Rattle.fm_base.specs.declared.kinds.TypeRef.{TypeRef}
use Rattle.fm_cells.specs.Stores.{Store}
use Rattle.fm_types.specs.Named.{built_in_type}
use Rattle.fm_world.specs.BuiltIns.{built_in, built_in_classes}
use Rattle.fm_world.specs.Chains.{chain_of}
use Rattle.fm_world.specs.Descriptors.{class_number}
use Rattle.fm_world.specs.Members.{kinds_of, size_of}
use Rattle.fm_world.specs.Programs.{Outline, Program}
use Rattle.fm_world.specs.declared.declarations.DeclaredClass.{DeclaredClass}
use Rattle.fm_world.specs.inner.Completions.{AreCompleted}
use Rattle.fm_frames.proofs.Programs.{completed-are}
use Rattle.fm_frames.proofs.BuiltInTypes.{named_class}
use Rattle.fm_frames.specs.NativeRows.{text_kind, text_type}
use Rattle.fm_frames.specs.Runs.{argument_actions, arguments_type, Job, opening_actions}
use Rattle.fm_frames.specs.States.{Frame}
use Rattle.fm_law_sound.specs.Acting.{ActsFit, MakeFits, PlaceFits}
use Rattle.fm_law_sound.specs.Making.{ArgumentsFit, AreUnits, IsMakeable}
use Rattle.fm_law_sound.specs.Sound.{HasLengthBy}
use Rattle.fm_law_sound.proofs.FieldPlaces.{kinds_many}
use Rattle.fm_law_sound.proofs.MadeObjects.{array_made, class_fits, input_kinds, IsPlain, output_kinds, text_fits}
use Rattle.fm_law_sound.proofs.NestedArrays.{array_place}

-- a class whose objects have no kinds has no fields
no_size : (classes : List DeclaredClass) (class : ℕ) → kinds_of classes class ≡ [] → size_of classes class ≡ 0
unfolding size_of kinds_of
no_size classes class none = sym (kinds_many classes (chain_of classes class)) ∙ ap length none

output_size : (given : List DeclaredClass) → AreCompleted (built_in ++ given) → size_of (built_in ++ given) 5 ≡ 0
output_size given completed = no_size (built_in ++ given) 5 (output_kinds given completed)

input_size : (given : List DeclaredClass) → AreCompleted (built_in ++ given) → size_of (built_in ++ given) 6 ≡ 0
input_size given completed = no_size (built_in ++ given) 6 (input_kinds given completed)

module _ (p : Program) (ready : IsMakeable p) (store : Store) (f : Frame) where
  abbrev o : Outline
  o = p.outline

  no_length : (class : ℕ) → ((given : List DeclaredClass) → AreCompleted (built_in ++ given) → size_of (built_in ++ given) class ≡ 0) → (is_text : Bool) → HasLengthBy o is_text (Some class) 0
  no_length class size true = omega arith
  no_length class size false = sym (ap (λ all. size_of all class) ready.runnable.classes ∙ size ready.runnable.given (completed-are ready.runnable.given ready.runnable.completed))

  -- an object without elements of a built-in class
  fixed_fits : (name : List ℕ) (class : ℕ) → class < built_in_classes → ((given : List DeclaredClass) → class_number (built_in ++ given) name ≡ Some class)
      → ((given : List DeclaredClass) → IsPlain (built_in ++ given) class)
      → ((given : List DeclaredClass) → AreCompleted (built_in ++ given) → size_of (built_in ++ given) class ≡ 0)
      → MakeFits o (built_in_type o name) 0 []
  fixed_fits name class early found plain size =
      subst (λ t. MakeFits o t 0 []) (sym (named_class p name class ready.runnable found))
      (class_fits p ready class 0 [] early plain (no_length class size _) tt)

  output_fits : MakeFits o (built_in_type o (codes "java/io/PrintStream")) 0 []
  unfolding built_in
  output_fits =
      fixed_fits (codes "java/io/PrintStream") 5 (omega arith)
      (λ given. position_from-zero (λ (c : DeclaredClass). bytes_eq c.name (codes "java/io/PrintStream")) (built_in ++ given)) (λ given. (refl, refl)) output_size

  input_fits : MakeFits o (built_in_type o (codes "java/io/InputStream")) 0 []
  unfolding built_in
  input_fits =
      fixed_fits (codes "java/io/InputStream") 6 (omega arith)
      (λ given. position_from-zero (λ (c : DeclaredClass). bytes_eq c.name (codes "java/io/InputStream")) (built_in ++ given)) (λ given. (refl, refl)) input_size

  argument_place : (place : ℕ) → PlaceFits o (arguments_type o) place (text_kind o)
  argument_place place = array_place o (arguments_type o) place (omega arith)

  arguments_fit : (place : ℕ) (texts : List (List ℕ)) (types : List TypeRef) → slice_get types 2 ≡ Some (arguments_type o)
      → AllByRecursion (λ text. (length text < 2 ^ 31) × AreUnits text) texts → ActsFit o store f types (argument_actions o place texts)
  arguments_fit place [] types array all = tt
  arguments_fit place (text ∷ texts) types array all =
      let later : slice_get (types ++ text_type o ∷ []) 2 ≡ Some (arguments_type o) = slice_get-append_left types (text_type o ∷ []) 2 (arguments_type o) array in (
        text_fits p ready text all.0.0 all.0.1,
        (
          (arguments_type o, later, argument_place place),
          (λ areas cells statics. tt),
          arguments_fit (place + 1) texts (types ++ text_type o ∷ []) later all.1,
        ),
      )

  pub opening_fits : (job : Job) → ArgumentsFit job.arguments → ActsFit o store f [] (opening_actions o job)
  unfolding opening_actions
  opening_fits job given = (
    output_fits,
    (
      input_fits,
      (
        array_made o (arguments_type o) (length job.arguments) ready.arguments (omega arith) given.few,
        arguments_fit 0 job.arguments
            (built_in_type o (codes "java/io/PrintStream") ∷ built_in_type o (codes "java/io/InputStream") ∷ arguments_type o ∷ []) refl given.texts,
      ),
    ),
  )
