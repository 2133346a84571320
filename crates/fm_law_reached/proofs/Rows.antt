-- What an instruction of a method makes, calls and starts is in the sets, where these have what it leads to.
use Rattle.std.proofs.Common.{◌≡◌, ℕ, ◌+◌, ◌*◌, ◌≤◌, Bool, true, List, [], ◌∷◌, ◌++◌, length, reverse, Option, Some, IfSome, option_and_then, sym, ◌∙◌, ap, subst, slice_get, arith}
use Rattle.std.specs.List.{AllByRecursion, range_with_len}
use Rattle.std.proofs.lemmas.List.{length-reverse}
use Rattle.std.proofs.lemmas.List.FromFn.{length-range_with_len}
use Rattle.fm_base.proofs.ListFacts.{AllByRecursion-append}
use Rattle.fm_base.specs.Rows.{has}
use Rattle.fm_base.specs.declared.ids.TypeId.{TypeId}
use Rattle.fm_base.specs.declared.kinds.TypeRef.{TypeRef}
use Rattle.fm_cells.specs.Stores.{Store}
use Rattle.fm_code.specs.declared.instructions.Insn.{Insn}
use Rattle.fm_code.specs.declared.instructions.Insn.TheVariants as insn
use Rattle.fm_frames.proofs.EachCall.{any_calls}
use Rattle.fm_frames.proofs.EachInsn.{each_insn, magnitudes}
use Rattle.fm_frames.proofs.Failures.{Failures, NotCloneable, TextOutside}
use Rattle.fm_frames.proofs.NestedActions.{all_flat}
use Rattle.fm_frames.proofs.UsualAsks.{each_native}
use Rattle.fm_frames.specs.ArrayRows.{array_actions, arrays_made, element_kind, element_type}
use Rattle.fm_frames.specs.Effects.{Effect, OfMade, Put}
use Rattle.fm_frames.specs.Literals.{class_literal}
use Rattle.fm_frames.specs.NativeRows.{native_effect}
use Rattle.fm_frames.specs.Rows.{effect_of}
use Rattle.fm_frames.specs.Sights.{Looks, Sight, sights, Thing}
use Rattle.fm_frames.specs.declared.natives.Native.{Native}
use Rattle.fm_frames.specs.declared.values.Value.{Value}
use Rattle.fm_law_reached.proofs.MadeTypes.{array_number, HasBuiltIns, literal_is_made, MakesMade, number_made, raised_made, text_is_made}
use Rattle.fm_law_reached.specs.Reached.{HoldsMade, IsMadeType}
use Rattle.fm_law_sound.proofs.InsnActs.{array_deep, ints_many, magnitudes_many}
use Rattle.fm_law_sound.proofs.SeenObjects.{seen_at}
use Rattle.fm_law_sound.specs.Making.{IsMakeable}
use Rattle.fm_rapid.specs.Reach.{made_by}
use Rattle.fm_types.specs.Typed.{type_of_use}
use Rattle.fm_world.specs.Programs.{class_of_type, Outline, Program}
use Rattle.fm_world.specs.declared.uses.Use.{Use}
use Rattle.fm_world.specs.declared.uses.Use.TheVariants as resolved

-- an array of arrays has a dimension for each count
abbrev pub NestsDeep : Outline → Insn → Use → Type 0
NestsDeep o i u =
    (index dimensions : ℕ) (n : TypeId) (t : TypeRef) → i ≡ insn.MultiArray index dimensions → u ≡ resolved.OfType n → slice_get o.types n.0 ≡ Some t
    → dimensions ≤ t.dims

-- the class of which the instruction makes an object is in the set
abbrev pub NewIsMade : Outline → List Bool → Insn → Use → Type 0
NewIsMade o made i u = (class : ℕ) → made_by o i u ≡ Some class → has made class ≡ true

module _ (p : Program) (ready : IsMakeable p) (made : List Bool) (built : HasBuiltIns made) (store : Store) (holds : HoldsMade p.outline made store)
    (stack : List Value) where
  abbrev o : Outline
  o = p.outline

  abbrev s : List Sight
  s = sights o store stack

  -- each action makes only what is of such a type
  abbrev A : Effect → Type 0
  A e = AllByRecursion (MakesMade o made) e.actions

  failures : Failures o A
  failures = record { raised = λ x. (raised_made p ready made built x, tt); none = tt; lost = λ n. tt }

  -- what is seen is an object that is held
  seen_made : (n : ℕ) (it : Looks) → slice_get s n ≡ Some (Thing it) → IsMadeType made it.type
  seen_made n it seen =
      let found = seen_at o store stack n it seen in subst (IsMadeType made) (sym found.type_is) (holds _ found.object found.held)

  native_acts : (row : Native) (byte : Option ℕ) → A (native_effect o row byte s)
  native_acts row byte =
      each_native o s A failures (λ n it seen hides. tt) row
      (record {
        nothing = λ n takes result. tt;
        number = λ n shown is takes result z. tt;
        same = λ n takes result. tt;
        text_given = λ n takes result units fit. (text_is_made p ready made built, tt);
        byte = λ n takes result z. tt;
        printed = λ n takes result bytes. tt;
        exits = λ n takes z. tt;
        outside = failures.raised TextOutside;
        begun = λ it seen hides takes result. (tt, tt);
        text_put = λ n operand it seen hides takes result units fit. (text_is_made p ready made built, (tt, tt));
        itself = λ is. tt;
        appended = λ shown is it seen builds units fit. (text_is_made p ready made built, (tt, tt));
        message_put = λ is it seen fits. (tt, tt);
        message_given = λ is it seen fits. tt;
        class_given = λ is it seen type inside. (literal_is_made p ready made built (class_literal o type), tt);
        unnumbered = λ is it seen none. tt;
        freed = λ is it seen. (tt, tt);
        unlinked = λ is. tt;
        linked = λ is it seen loose. (tt, tt);
        chain_freed = λ is. (tt, tt);
        copied = λ is it seen may. (number_made p ready made built it.type (seen_made 0 it seen), tt);
        uncopied = λ is. failures.raised NotCloneable;
      })
      byte

  -- arrays of arrays are made, and put into one another
  nested_acts : (t : TypeRef) (counts : List ℕ) (first : ℕ) → length counts ≤ t.dims → AllByRecursion (MakesMade o made) (array_actions t counts first)
  unfolding array_actions
  nested_acts t [] first within = tt
  nested_acts t (count ∷ []) first within = (array_number p ready made built t (omega (arith, within)), tt)
  nested_acts t (count ∷ next ∷ counts) first within = (
    array_number p ready made built t (omega (arith, within)),
    all_flat (MakesMade o made)
        (λ place. array_actions (element_type t) (next ∷ counts) (first + 1 + place * arrays_made (next ∷ counts))
        ++ Put (OfMade first) place (element_kind t) (OfMade (first + 1 + place * arrays_made (next ∷ counts))) ∷ [])
        (range_with_len 0 count)
        (λ place. AllByRecursion-append (MakesMade o made)
        (array_actions (element_type t) (next ∷ counts) (first + 1 + place * arrays_made (next ∷ counts)))
        (Put (OfMade first) place (element_kind t) (OfMade (first + 1 + place * arrays_made (next ∷ counts))) ∷ [])
        (nested_acts (element_type t) (next ∷ counts) (first + 1 + place * arrays_made (next ∷ counts)) (omega (arith, within))) (tt, tt)),
  )

  new_made : (i : Insn) (u : Use) (index : ℕ) (n : TypeId) (t : TypeRef) (class : ℕ) → NewIsMade o made i u → i ≡ insn.New index → u ≡ resolved.OfType n
      → slice_get o.types n.0 ≡ Some t → class_of_type t ≡ Some class → IsMadeType made t
  new_made i u index n t class news it_is used at is =
      subst (λ (found : Option ℕ). IfSome found (λ c. has made c ≡ true)) (sym is)
      (news class
      (ap (λ j. made_by o j u) it_is ∙ ap (λ v. option_and_then class_of_type (type_of_use o v)) used ∙ ap (option_and_then class_of_type) at ∙ is))

  pub insn_acts : (method : ℕ) (i : Insn) (u : Use) (byte : Option ℕ) → NewIsMade o made i u → NestsDeep o i u → A (effect_of o method u i byte s)
  insn_acts method i u byte news deep =
      each_insn o s method byte A i u
      (record {
        failures = failures;
        plain = λ e gives writes named written. tt;
        goes = λ e next leads. tt;
        throws = λ it it_is seen fits. tt;
        literal = λ index literal it_is named. (literal_is_made p ready made built literal, tt);
        new = λ index n t class it_is used at is. (number_made p ready made built t (new_made i u index n t class news it_is used at is), tt);
        number_array = λ e b len it_is is. (array_number p ready made built (record { dims = 1; base = b }) (omega arith), tt);
        reference_array = λ index n t array len it_is used at is. (array_number p ready made built array (array_deep t array is), tt);
        nested = λ index dimensions n t counts it_is used at found.
            let all : length (magnitudes counts) ≡ dimensions =
            magnitudes_many counts ∙ ints_many s (reverse (range_with_len 0 dimensions)) counts found ∙ length-reverse (range_with_len 0 dimensions)
            ∙ length-range_with_len 0 dimensions in
            let enough = deep index dimensions n t it_is used at in
            nested_acts t (magnitudes counts) 0 (omega (arith, all, enough));
        put_static = λ index f n t it_is used at. (tt, tt);
        get_field = λ index f n t it it_is used at seen fits. tt;
        put_field = λ index f n t it it_is used at seen fits. (tt, tt);
        get_element = λ e it place it_is seen passes. tt;
        put_element = λ e it place it_is seen passes. (tt, tt);
        calls = λ is. any_calls o s method u byte A failures (λ class e h. h) (λ count target. tt) (λ row. native_acts row byte);
      })
