-- All rows read and put by the kinds of places: those of fields by what linking makes sure of, those of arrays by the array that is seen, and the others
-- read no place and put no number.
use Rattle.std.proofs.Common.{◌≡◌, ℕ, ◌+◌, ◌-◌, true, false, List, [], ◌∷◌, ◌++◌, Option, Some, ap, refl, map, slice_get}
use Rattle.std.specs.List.{AllByRecursion}
use Rattle.fm_base.proofs.ListFacts.{AllByRecursion-append, AllByRecursion-mapped, AllByRecursion-weaker}
use Rattle.fm_base.specs.Kinds.{kind_words}
use Rattle.fm_base.specs.declared.ids.FieldId.{FieldId}
use Rattle.fm_base.specs.declared.ids.TypeId.{TypeId}
use Rattle.fm_base.specs.declared.kinds.Kind.{Kind}
use Rattle.fm_base.specs.declared.kinds.TypeRef.{TypeRef}
use Rattle.fm_cells.specs.Stores.{Store}
use Rattle.fm_code.specs.StackWords.{element_words}
use Rattle.fm_code.specs.declared.instructions.Insn.{Insn}
use Rattle.fm_types.specs.Fits.{fits_type}
use Rattle.fm_types.specs.Named.{throwable_type}
use Rattle.fm_world.specs.Causes.{static_field_wanted}
use Rattle.fm_world.specs.Members.{slot_of}
use Rattle.fm_world.specs.Programs.{kind_at, Outline}
use Rattle.fm_world.specs.declared.uses.Use.{Use}
use Rattle.fm_world.specs.declared.uses.Use.TheVariants as resolved
use Rattle.fm_frames.specs.ArrayRows.{element_kind, put_element}
use Rattle.fm_frames.specs.Effects.{acting, Copy, Effect, Exits, Falls, giving_literal, going, int_word, loaded, making, Next, OfOperand, OfPlace, Plain, printing, SameOperands, SetChain, Source, Throws, words}
use Rattle.fm_frames.specs.NativeRows.{has_text, native_effect, text_kind, text_made, text_type}
use Rattle.fm_frames.specs.declared.natives.Native.{Native}
use Rattle.fm_frames.specs.ObjectRows.{kind_of_field}
use Rattle.fm_frames.specs.Rows.{effect_of}
use Rattle.fm_frames.specs.Sights.{Sight, sights}
use Rattle.fm_frames.specs.declared.values.Value.{Value}
use Rattle.fm_frames.specs.declared.values.Value.TheVariants as value
use Rattle.fm_frames.proofs.EachCall.{any_calls}
use Rattle.fm_frames.proofs.EachInsn.{each_insn, IsNamed, LeadsOn, magnitudes, WritesNamed}
use Rattle.fm_frames.proofs.Failures.{Failures, name_of, NotCloneable, TextOutside}
use Rattle.fm_frames.proofs.NestedActions.{nested_actions}
use Rattle.fm_frames.proofs.UsualAsks.{each_native}
use Rattle.fm_frames.specs.Literals.{class_literal}
use Rattle.fm_law_sound.specs.Placing.{PutAgrees, ReadAgrees, sources_in, thrown_in}
use Rattle.fm_law_sound.proofs.InsnActs.{elements_deep}
use Rattle.fm_law_sound.proofs.KindsAgree.{Agrees, bare, gone, loaded_agrees, made_agrees, put_agrees, seen_place, set_agrees, stucks, throws}
use Rattle.fm_law_sound.proofs.NestedArrays.{array_kind}
use Rattle.fm_law_sound.proofs.SeenObjects.{seen_at}

module _ (o : Outline) (store : Store) (stack : List Value) where
  abbrev A : Effect → Type 0
  A e = Agrees o store stack e

  abbrev s : List Sight
  s = sights o store stack

  abbrev Reads : Source → Type 0
  Reads source = ReadAgrees o store stack source

  failures : Failures o A
  failures = record { raised = λ x. throws o store stack (name_of x); none = stucks o store stack; lost = λ n. gone o store stack n }

  -- words that are no places
  plain : (e : Effect) → AllByRecursion (PutAgrees o store stack) e.actions → AllByRecursion Reads (sources_in e) → A e
  plain e puts reads = bare o store stack e puts reads

  named_agrees : (i : Insn) (source : Source) → IsNamed i source → Reads source
  named_agrees i (Plain value.Top) named = tt
  named_agrees i (Plain (value.Int n)) named = tt
  named_agrees i (Plain (value.Long n)) named = tt
  named_agrees i (Plain (value.Ref cell)) named = named
  named_agrees i (OfPlace n place k) named = absurd named
  named_agrees i source named = tt

  none_thrown : (i : Insn) (next : Next) → LeadsOn i next → AllByRecursion Reads (thrown_in next ++ [] ++ [])
  none_thrown i (Throws source) leads = absurd leads
  none_thrown i next leads = tt

  -- a throwable's message is its first field
  abbrev pub HasMessage : Type 0
  HasMessage = (t : TypeRef) → fits_type o.classes t (throwable_type o) ≡ true → kind_at o.classes t 0 ≡ Some (text_kind o)

  native_rows : HasMessage → (row : Native) (byte : Option ℕ) → A (native_effect o row byte s)
  native_rows message row byte =
      each_native o s A failures (λ n it seen hides. plain _ tt tt) row
      (record {
        nothing = λ n takes result. plain (words n []) tt tt;
        number = λ n shown is takes result z. plain (words n (int_word z)) tt (tt, tt);
        same = λ n takes result. plain (words n (SameOperands ∷ [])) tt (tt, tt);
        text_given = λ n takes result units fit. plain (making n (text_made o units)) (tt, tt) (tt, tt);
        byte = λ n takes result z. plain (record (words n (int_word z)) { reads = true }) tt (tt, tt);
        printed = λ n takes result bytes. plain (printing n bytes) tt tt;
        exits = λ n takes z. plain (going n (Exits z)) tt tt;
        outside = failures.raised TextOutside;
        begun = λ it seen hides takes result. plain _ (refl, tt) tt;
        text_put = λ n operand it seen hides takes result units fit. plain (acting n (has_text o operand units)) (tt, (tt, tt)) tt;
        itself = λ is. plain _ tt (tt, tt);
        appended = λ shown is it seen builds units fit. plain _ (tt, (tt, tt)) (tt, tt);
        message_put = λ is it seen fits. plain _ (tt, tt) tt;
        message_given = λ is it seen fits.
            let place = seen_place o store stack 0 0 (text_kind o) it seen (message it.type fits) in
            plain (words 1 (OfPlace 0 0 (text_kind o) ∷ [])) tt ((place.0, place.1, text_type o, place.2), tt);
        class_given = λ is it seen type inside. plain (giving_literal 1 (class_literal o type)) (tt, tt) (tt, tt);
        unnumbered = λ is it seen none. failures.none;
        freed = λ is it seen. plain _ (tt, tt) tt;
        unlinked = λ is. plain _ tt (tt, tt);
        linked = λ is it seen loose. plain (record (acting 2 (SetChain 1 0 ∷ [])) { gives = OfOperand 1 ∷ [] }) (tt, tt) (tt, tt);
        chain_freed = λ is. plain _ (tt, tt) tt;
        copied = λ is it seen may.
            let found = seen_at o store stack 0 it seen in
            plain (making 1 (Copy it.type it.len 0)) ((found.object, found.held, found.type_is), tt) (tt, tt);
        uncopied = λ is. failures.raised NotCloneable;
      })
      byte

  -- the object that is seen fits the type that an instruction names, and so has the field at its place
  abbrev pub HasField : Use → Type 0
  HasField u =
      (f : FieldId) (t : TypeId) (named of : TypeRef) → u ≡ resolved.OfField f t → slice_get o.types t.0 ≡ Some named
      → fits_type o.classes of named ≡ true → kind_at o.classes of (slot_of o.classes f.0) ≡ Some (kind_of_field o f.0)

  pub row_agrees : HasMessage → (method : ℕ) (u : Use) (i : Insn) (byte : Option ℕ) → (static_field_wanted i ≡ Some false → HasField u) → A (effect_of o method u i byte s)
  row_agrees message method u i byte has =
      each_insn o s method byte A i u
      (record {
        failures = failures;
        plain = λ e gives writes named written. plain (record e { actions = []; gives = gives; writes = writes; next = Falls }) tt
            (AllByRecursion-append Reads (map (λ (w : ℕ × Source). w.1) writes) gives
            (AllByRecursion-mapped (WritesNamed i) Reads (λ (w : ℕ × Source). w.1) (λ w h. named_agrees i w.1 h.1) writes written)
            (AllByRecursion-weaker (IsNamed i) Reads (named_agrees i) gives named));
        goes = λ e next leads. plain (record e { actions = []; gives = []; writes = []; next = next }) tt (none_thrown i next leads);
        throws = λ it it_is seen fits. plain _ tt (tt, tt);
        literal = λ index n it_is named. plain _ (tt, tt) (tt, tt);
        new = λ index n t class it_is used at is. plain _ (tt, tt) (tt, tt);
        number_array = λ e b len it_is is. plain _ (tt, tt) (tt, tt);
        reference_array = λ index n t array len it_is used at is. plain _ (tt, tt) (tt, tt);
        nested = λ index dimensions n t counts it_is used at is. plain _
            (nested_actions (PutAgrees o store stack) (λ t count. tt) (λ first place inner k. made_agrees o store stack first place k _ tt) t (magnitudes counts) 0)
            (tt, tt);
        put_static = λ index f n t it_is used at.
            let k : Kind = kind_of_field o f.0 in
            plain _ (set_agrees o store stack (slot_of o.classes f.0) k (OfOperand (kind_words k - 1)) tt, tt) tt;
        get_field = λ index f n t it it_is used at seen fits.
            let k : Kind = kind_of_field o f.0 in
            plain _ tt
            (loaded_agrees o store stack 0 (slot_of o.classes f.0) k
            (seen_place o store stack 0 (slot_of o.classes f.0) k it seen (has (ap static_field_wanted it_is) f n t it.type used at fits)));
        put_field = λ index f n t it it_is used at seen fits.
            let k : Kind = kind_of_field o f.0 in
            plain _ (
              put_agrees o store stack (kind_words k) (slot_of o.classes f.0) k (OfOperand (kind_words k - 1)) tt
                  (seen_place o store stack (kind_words k) (slot_of o.classes f.0) k it seen (has (ap static_field_wanted it_is) f n t it.type used at fits)),
              tt,
            ) tt;
        get_element = λ e it place it_is seen passes. plain (words 2 (loaded (element_kind it.type) (OfPlace 1 place (element_kind it.type)))) tt
            (loaded_agrees o store stack 1 place (element_kind it.type)
            (seen_place o store stack 1 place (element_kind it.type) it seen (array_kind o.classes it.type place (elements_deep e it.type passes))));
        put_element = λ e it place it_is seen passes. plain (put_element (element_words e) it place) (
          put_agrees o store stack (element_words e + 1) place (element_kind it.type) (OfOperand (element_words e - 1)) tt
              (seen_place o store stack (element_words e + 1) place (element_kind it.type) it seen
              (array_kind o.classes it.type place (elements_deep e it.type passes))),
          tt,
        ) tt;
        calls = λ is. any_calls o s method u byte A failures (λ class e h. record { puts = h.puts; reads = h.reads })
            (λ count target. plain _ tt tt) (λ row. native_rows message row byte);
      })
