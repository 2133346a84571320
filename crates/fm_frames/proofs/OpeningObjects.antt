-- The first objects of the opening: the streams, and the array of the arguments with their texts.
use Rattle.std.proofs.Common.{◌≡◌, ℕ, Bool, true, false, List, [], ◌∷◌, ◌++◌, codes, length, Option, Some, None, refl, ap, sym, ◌∙◌, subst}
use Rattle.std.specs.Prelude.{slice_set}
use Rattle.std.proofs.lemmas.Iterator.Adapters.{position_from-zero}
use Rattle.std.specs.List.{slice_index_or}
use Rattle.std.specs.Str.{bytes_eq}
use Rattle.fm_base.specs.declared.kinds.TypeRef.{TypeRef}
use Rattle.fm_cells.specs.declared.answers.Cell.{Cell}
use Rattle.fm_frames.proofs.BuiltInTypes.{named_class}
use Rattle.fm_frames.proofs.OpeningSteps.{added, as_made, asks-fixed, asks-object}
use Rattle.fm_frames.proofs.Programs.{string-is}
use Rattle.fm_frames.specs.Acts.{Choose, requested}
use Rattle.fm_frames.specs.Effects.{Action, Make, MakeFixed}
use Rattle.fm_frames.specs.Runnable.{IsRunnable}
use Rattle.fm_frames.specs.Runs.{argument_actions, arguments_type, Job, opened_by, opening_actions, with_streams}
use Rattle.fm_frames.specs.States.{ref, State}
use Rattle.fm_frames.specs.inner.Opening.{Follows, OpensArguments, OpensAsked}
use Rattle.fm_types.specs.Named.{built_in_type}
use Rattle.fm_world.specs.BuiltIns.{built_in}
use Rattle.fm_world.specs.Descriptors.{class_number}
use Rattle.fm_world.specs.Numbers.{type_of_class}
use Rattle.fm_world.specs.Programs.{Outline, Program}
use Rattle.fm_world.specs.declared.declarations.DeclaredClass.{DeclaredClass}

-- ---- the types

abbrev out_name : List ℕ
out_name = codes "java/io/PrintStream"

abbrev in_name : List ℕ
in_name = codes "java/io/InputStream"

out_number : (given : List DeclaredClass) → class_number (built_in ++ given) out_name ≡ Some 5
unfolding built_in
out_number given = position_from-zero (λ (c : DeclaredClass). bytes_eq c.name out_name) (built_in ++ given)

in_number : (given : List DeclaredClass) → class_number (built_in ++ given) in_name ≡ Some 6
unfolding built_in
in_number given = position_from-zero (λ (c : DeclaredClass). bytes_eq c.name in_name) (built_in ++ given)

out_is : (p : Program) → IsRunnable p → built_in_type p.outline out_name ≡ type_of_class 5
out_is p runnable = named_class p out_name 5 runnable out_number

in_is : (p : Program) → IsRunnable p → built_in_type p.outline in_name ≡ type_of_class 6
in_is p runnable = named_class p in_name 6 runnable in_number

abbrev pub texts_type : TypeRef
texts_type = record { dims = 1; base = (type_of_class 1).base }

array_is : (p : Program) → IsRunnable p → arguments_type p.outline ≡ texts_type
array_is p runnable = ap (λ (t : TypeRef). record { dims = 1; base = t.base }) (string-is p.outline runnable.given runnable.classes)

pub told-by : (p : Program) (choose : Choose) (x y : State) (t u : TypeRef) (len : ℕ) (fixed : Bool) (made known : Option Cell) → t ≡ u → made ≡ known
    → OpensAsked p choose x y (requested p.outline t len fixed) [] made → OpensAsked p choose x y (requested p.outline u len fixed) [] known
told-by p choose x y t u len fixed made known same is told =
    subst (λ t. OpensAsked p choose x y (requested p.outline t len fixed) [] known) same
    (subst (OpensAsked p choose x y (requested p.outline t len fixed) []) is told)

-- ---- one after the other

abbrev then_array : Outline → List (List ℕ) → List Action
then_array o arguments = Make (arguments_type o) (length arguments) [] ∷ argument_actions o 0 arguments

abbrev then_in : Outline → List (List ℕ) → List Action
then_in o arguments = MakeFixed (built_in_type o in_name) ∷ then_array o arguments

-- the actions by the arguments
actions_are : (o : Outline) (job : Job) (arguments : List (List ℕ)) → job.arguments ≡ arguments
    → opening_actions o job ≡ MakeFixed (built_in_type o out_name) ∷ then_in o arguments
unfolding opening_actions
actions_are o job arguments is = ap (λ arguments. MakeFixed (built_in_type o out_name) ∷ then_in o arguments) is

module _ (p : Program) (runnable : IsRunnable p) (choose : Choose) (x0 : State) (job : Job) (arguments : List (List ℕ)) (is : job.arguments ≡ arguments) where
  pub ended-out : (x1 : State) → OpensAsked p choose x0 x1 (requested p.outline (type_of_class 5) 0 true) [] None
      → (follows : Follows) → opened_by p choose (opening_actions p.outline job) x0 [] follows ≡ x1
  ended-out x1 told follows =
      ap (λ actions. opened_by p choose actions x0 [] follows) (actions_are p.outline job arguments is)
      ∙ told (MakeFixed (built_in_type p.outline out_name)) as_made added
      (asks-fixed p.outline x0.areas (built_in_type p.outline out_name) _ (ap (λ t. requested p.outline t 0 true) (out_is p runnable)))
      (then_in p.outline arguments) [] follows

  opened-out : (x1 : State) (out : Cell) → OpensAsked p choose x0 x1 (requested p.outline (type_of_class 5) 0 true) [] (Some out)
      → (follows : Follows) → opened_by p choose (opening_actions p.outline job) x0 [] follows ≡ opened_by p choose (then_in p.outline arguments) x1 (out.0 ∷ []) follows
  opened-out x1 out told follows =
      ap (λ actions. opened_by p choose actions x0 [] follows) (actions_are p.outline job arguments is)
      ∙ told (MakeFixed (built_in_type p.outline out_name)) as_made added
      (asks-fixed p.outline x0.areas (built_in_type p.outline out_name) _ (ap (λ t. requested p.outline t 0 true) (out_is p runnable)))
      (then_in p.outline arguments) [] follows

  pub ended-in : (x1 x2 : State) (out : Cell) → OpensAsked p choose x0 x1 (requested p.outline (type_of_class 5) 0 true) [] (Some out)
      → OpensAsked p choose x1 x2 (requested p.outline (type_of_class 6) 0 true) [] None
      → (follows : Follows) → opened_by p choose (opening_actions p.outline job) x0 [] follows ≡ x2
  ended-in x1 x2 out first told follows =
      opened-out x1 out first follows
      ∙ told (MakeFixed (built_in_type p.outline in_name)) as_made added
      (asks-fixed p.outline x1.areas (built_in_type p.outline in_name) _ (ap (λ t. requested p.outline t 0 true) (in_is p runnable)))
      (then_array p.outline arguments) (out.0 ∷ []) follows

  opened-in : (x1 x2 : State) (out input : Cell) → OpensAsked p choose x0 x1 (requested p.outline (type_of_class 5) 0 true) [] (Some out)
      → OpensAsked p choose x1 x2 (requested p.outline (type_of_class 6) 0 true) [] (Some input)
      → (follows : Follows) → opened_by p choose (opening_actions p.outline job) x0 [] follows
      ≡ opened_by p choose (then_array p.outline arguments) x2 (out.0 ∷ input.0 ∷ []) follows
  opened-in x1 x2 out input first told follows =
      opened-out x1 out first follows
      ∙ told (MakeFixed (built_in_type p.outline in_name)) as_made added
      (asks-fixed p.outline x1.areas (built_in_type p.outline in_name) _ (ap (λ t. requested p.outline t 0 true) (in_is p runnable)))
      (then_array p.outline arguments) (out.0 ∷ []) follows

  pub ended-array : (x1 x2 x3 : State) (out input : Cell) (len : ℕ) → len ≡ length arguments
      → OpensAsked p choose x0 x1 (requested p.outline (type_of_class 5) 0 true) [] (Some out)
      → OpensAsked p choose x1 x2 (requested p.outline (type_of_class 6) 0 true) [] (Some input)
      → OpensAsked p choose x2 x3 (requested p.outline texts_type len false) [] None
      → (follows : Follows) → opened_by p choose (opening_actions p.outline job) x0 [] follows ≡ x3
  ended-array x1 x2 x3 out input len many first second told follows =
      opened-in x1 x2 out input first second follows
      ∙ told (Make (arguments_type p.outline) (length arguments) []) as_made added
      (asks-object p.outline x2.areas (arguments_type p.outline) (length arguments) [] _
      (λ i. requested p.outline (array_is p runnable i) (sym many i) false))
      (argument_actions p.outline 0 arguments) (out.0 ∷ input.0 ∷ []) follows

  pub opened-array : (x1 x2 x3 : State) (out input array : Cell) (len : ℕ) → len ≡ length arguments
      → OpensAsked p choose x0 x1 (requested p.outline (type_of_class 5) 0 true) [] (Some out)
      → OpensAsked p choose x1 x2 (requested p.outline (type_of_class 6) 0 true) [] (Some input)
      → OpensAsked p choose x2 x3 (requested p.outline texts_type len false) [] (Some array)
      → (follows : Follows) → opened_by p choose (opening_actions p.outline job) x0 [] follows
      ≡ opened_by p choose (argument_actions p.outline 0 arguments) x3 (out.0 ∷ input.0 ∷ array.0 ∷ []) follows
  opened-array x1 x2 x3 out input array len many first second told follows =
      opened-in x1 x2 out input first second follows
      ∙ told (Make (arguments_type p.outline) (length arguments) []) as_made added
      (asks-object p.outline x2.areas (arguments_type p.outline) (length arguments) [] _
      (λ i. requested p.outline (array_is p runnable i) (sym many i) false))
      (argument_actions p.outline 0 arguments) (out.0 ∷ input.0 ∷ []) follows

  -- ---- with the texts, and the streams as static fields

  pub objects-stopped : (x1 x2 x3 x4 : State) (out input array : Cell) (len : ℕ) → len ≡ length arguments
      → OpensAsked p choose x0 x1 (requested p.outline (type_of_class 5) 0 true) [] (Some out)
      → OpensAsked p choose x1 x2 (requested p.outline (type_of_class 6) 0 true) [] (Some input)
      → OpensAsked p choose x2 x3 (requested p.outline texts_type len false) [] (Some array)
      → OpensArguments p choose x3 x4 array.0 arguments false
      → (follows : Follows) → opened_by p choose (opening_actions p.outline job) x0 [] follows ≡ x4
  objects-stopped x1 x2 x3 x4 out input array len many first second third texts follows =
      opened-array x1 x2 x3 out input array len many first second third follows ∙ texts (out.0 ∷ input.0 ∷ array.0 ∷ []) refl refl follows

  pub objects-opened : (x1 x2 x3 x4 y : State) (out input array : Cell) (len : ℕ) → len ≡ length arguments
      → OpensAsked p choose x0 x1 (requested p.outline (type_of_class 5) 0 true) [] (Some out)
      → OpensAsked p choose x1 x2 (requested p.outline (type_of_class 6) 0 true) [] (Some input)
      → OpensAsked p choose x2 x3 (requested p.outline texts_type len false) [] (Some array)
      → OpensArguments p choose x3 x4 array.0 arguments true
      → y ≡ record x4 { areas = record x4.areas { statics = slice_set (slice_set x4.areas.statics 0 (ref out.0)) 1 (ref input.0) } }
      → (cells : List ℕ) × (slice_index_or cells 2 0 ≡ array.0)
      × ((follows : Follows)
      → opened_by p choose (opening_actions p.outline job) x0 [] (λ z made. follows (record z { areas = with_streams z.areas made }) made) ≡ follows y cells)
  objects-opened x1 x2 x3 x4 y out input array len many first second third texts is =
      let (more, opened) = texts (out.0 ∷ input.0 ∷ array.0 ∷ []) refl refl in (
        out.0 ∷ input.0 ∷ array.0 ∷ more,
        refl,
        λ follows.
            opened-array x1 x2 x3 out input array len many first second third (λ z made. follows (record z { areas = with_streams z.areas made }) made)
            ∙ opened (λ z made. follows (record z { areas = with_streams z.areas made }) made)
            ∙ ap (λ y. follows y (out.0 ∷ input.0 ∷ array.0 ∷ more)) (sym is),
      )
