-- All rows of the table but those of FreeMe do the same on both memories: they read numbers where
-- no reference is, what they throw or fault at is read as it should be, and values go into static
-- fields by their kinds.
use Rattle.std.proofs.Common.{◌≡◌, arith, ℕ, ◌+◌, ◌-◌, ◌<◌, ◌⊎◌, inl, inr, true, false, List, [], ◌∷◌, ◌++◌, map, Option, Some, refl, sym, ◌∙◌, ap, subst, slice_get, ⊎_elim}
use Rattle.std.specs.List.{AllByRecursion}
use Rattle.std.proofs.lemmas.Bool.{cases_Bool, false≢true}
use Rattle.fm_base.proofs.ListFacts.{AllByRecursion-append, AllByRecursion-mapped, AllByRecursion-weaker}
use Rattle.fm_base.specs.Kinds.{kind_words}
use Rattle.fm_base.specs.declared.ids.FieldId.{FieldId}
use Rattle.fm_base.specs.declared.ids.MethodId.{MethodId}
use Rattle.fm_base.specs.declared.ids.TypeId.{TypeId}
use Rattle.fm_base.specs.declared.kinds.Kind.{Kind}
use Rattle.fm_base.specs.declared.kinds.Kind.TheVariants as kind
use Rattle.fm_base.specs.declared.kinds.TypeRef.{TypeRef}
use Rattle.fm_cells.specs.Stores.{Store}
use Rattle.fm_code.specs.AccessFlags.{is_static}
use Rattle.fm_code.specs.StackWords.{element_words}
use Rattle.fm_code.specs.declared.instructions.Insn.{Insn}
use Rattle.fm_code.specs.declared.instructions.Insn.TheVariants as insn
use Rattle.fm_types.specs.Named.{class_of_method}
use Rattle.fm_world.specs.Causes.{static_field_wanted}
use Rattle.fm_world.specs.Lookups.{special_target}
use Rattle.fm_world.specs.Members.{method_at, slot_of}
use Rattle.fm_world.specs.Programs.{class_of_type, Outline}
use Rattle.fm_world.specs.declared.uses.Use.{Use}
use Rattle.fm_world.specs.declared.uses.Use.TheVariants as resolved
use Rattle.fm_frames.specs.ArrayRows.{element_kind, put_element}
use Rattle.fm_frames.specs.CallRows.{entered_as, native_of, words_of_arguments}
use Rattle.fm_frames.specs.Effects.{acting, Calls, Effect, Exits, Falls, Faults, giving_literal, going, int_word, loaded, making, Next, OfOperand, OfPlace, printing, SameOperands, Source, Throws, words}
use Rattle.fm_frames.specs.NativeRows.{has_text, native_effect, text_kind, text_made, text_type}
use Rattle.fm_frames.specs.Natives.{is_free_me}
use Rattle.fm_frames.specs.declared.natives.Native.{Native}
use Rattle.fm_frames.specs.declared.natives.Native.TheVariants.{FreeMeFree, FreeMeFreeChain, FreeMeLink}
use Rattle.fm_frames.specs.ObjectRows.{kind_of_field, starting}
use Rattle.fm_frames.specs.Rows.{effect_of}
use Rattle.fm_frames.specs.Sights.{Sight, sights}
use Rattle.fm_frames.specs.States.{Frame, word_at}
use Rattle.fm_frames.proofs.EachCall.{call_rows, entered_cases, Reaches, Selected, Special}
use Rattle.fm_frames.proofs.EachInsn.{each_insn, IsNamed, LeadsOn, loaded_all, magnitudes, WritesNamed}
use Rattle.fm_frames.proofs.Failures.{Failures, NotCloneable, TextOutside}
use Rattle.fm_frames.proofs.NestedActions.{nested_actions}
use Rattle.fm_frames.proofs.UsualAsks.{each_native}
use Rattle.fm_frames.specs.Literals.{class_literal, literal_count, literal_named}
use Rattle.fm_same.specs.Evenness.{IsObjectSource}
use Rattle.fm_law_sound.specs.Making.{HaveTextFirst}
use Rattle.fm_law_sound.specs.Placing.{ReadAgrees, sources_in, thrown_in}
use Rattle.fm_law_sound.proofs.FoundMethods.{select_alike, special_alike}
use Rattle.fm_law_sound.proofs.InsnActs.{elements_deep}
use Rattle.fm_law_sound.proofs.KindsAgree.{HasPlace, hidden_place, put_agrees, seen_place}
use Rattle.fm_law_sound.proofs.NestedArrays.{array_kind}
use Rattle.fm_law_sound.proofs.PlaceRows.{HasField}
use Rattle.fm_law_two_memories.specs.Reading.{ActsAlike, EffectAlike, IsOfKind, NumberAgrees, sources_of_next}

module _ (o : Outline) (store : Store) (f : Frame) where
  abbrev A : Effect → Type 0
  A e = EffectAlike o store f e

  abbrev s : List Sight
  s = sights o store f.stack

  abbrev Numbers : Source → Type 0
  Numbers source = NumberAgrees o store f.stack source

  -- ---- places

  -- a number at a place is no reference
  number_place : (n place : ℕ) (k : Kind) → HasPlace o store f.stack n place k → Numbers (OfPlace n place k)
  number_place n place (kind.Ref t) h = tt
  number_place n place k h = put_agrees o store f.stack n place k (OfOperand 0) tt h

  -- ---- effects

  named_number : (i : Insn) (source : Source) → IsNamed i source → Numbers source
  named_number i (OfPlace n place k) named = absurd named
  named_number i source named = tt

  none_thrown : (next : Next) → sources_of_next next ≡ [] → AllByRecursion IsObjectSource (thrown_in next)
  none_thrown (Throws source) quiet = absurd (cc)
  none_thrown next quiet = tt

  on_quietly : (i : Insn) (next : Next) → LeadsOn i next → (sources_of_next next ≡ []) × AllByRecursion Numbers (thrown_in next ++ [] ++ [])
  on_quietly i (Throws source) leads = absurd leads
  on_quietly i (Faults source) leads = absurd leads
  on_quietly i next leads = (refl, tt)

  -- an effect that throws nothing
  plain : (e : Effect) → AllByRecursion Numbers (sources_in e) → AllByRecursion (ActsAlike o store f) e.actions → sources_of_next e.next ≡ [] → A e
  plain e reads acts quiet = record {
    numbers = reads;
    acts = acts;
    thrown = subst (AllByRecursion (ReadAgrees o store f.stack)) (sym quiet) tt;
    thrown_numbers = subst (AllByRecursion Numbers) (sym quiet) tt;
    thrown_found = none_thrown e.next quiet;
  }

  failures : Failures o A
  failures = record {
    raised = λ x. record { numbers = (tt, tt); acts = (tt, tt); thrown = (tt, tt); thrown_numbers = (tt, tt); thrown_found = (tt, tt) };
    none = record { numbers = tt; acts = tt; thrown = (refl, tt); thrown_numbers = (tt, tt); thrown_found = tt };
    lost = λ n. record { numbers = tt; acts = tt; thrown = (tt, tt); thrown_numbers = (tt, tt); thrown_found = tt };
  }

  started : (class : ℕ) (e : Effect) → A e → A (starting class e)
  started class e h =
      record { numbers = h.numbers; acts = h.acts; thrown = h.thrown; thrown_numbers = h.thrown_numbers; thrown_found = h.thrown_found }

  inner_lost : (n : ℕ) → HasPlace o store f.stack n 0 (text_kind o) → A (going 0 (Faults (OfPlace n 0 (text_kind o))))
  inner_lost n place = record {
    numbers = tt;
    acts = tt;
    thrown = ((place.0, place.1, text_type o, place.2), tt);
    thrown_numbers = (tt, tt);
    thrown_found = tt;
  }

  -- ---- built-in methods

  module _ (first : HaveTextFirst o) where
    native_rows : (row : Native) (byte : Option ℕ) → is_free_me row ≡ false → A (native_effect o row byte s)
    native_rows row byte other =
        each_native o s A failures (λ n it seen hides. inner_lost n (seen_place o store f.stack n 0 (text_kind o) it seen (hidden_place o first it hides))) row
        (record {
          nothing = λ n takes result. plain (words n []) tt tt refl;
          number = λ n shown is takes result z. plain (words n (int_word z)) (tt, tt) tt refl;
          same = λ n takes result. plain (words n (SameOperands ∷ [])) (tt, tt) tt refl;
          text_given = λ n takes result units fit. plain (making n (text_made o units)) (tt, tt) (tt, tt) refl;
          byte = λ n takes result z. plain (record (words n (int_word z)) { reads = true }) (tt, tt) tt refl;
          printed = λ n takes result bytes. plain (printing n bytes) tt tt refl;
          exits = λ n takes z. plain (going n (Exits z)) tt tt refl;
          outside = failures.raised TextOutside;
          begun = λ it seen hides takes result. plain _ tt (tt, tt) refl;
          text_put = λ n operand it seen hides takes result units fit. plain (acting n (has_text o operand units)) tt (tt, (tt, tt)) refl;
          itself = λ is. plain _ (tt, tt) tt refl;
          appended = λ shown is it seen builds units fit. plain _ (tt, tt) (tt, (tt, tt)) refl;
          message_put = λ is it seen fits. plain _ tt (tt, tt) refl;
          message_given = λ is it seen fits. plain (words 1 (OfPlace 0 0 (text_kind o) ∷ [])) (tt, tt) tt refl;
          class_given = λ is it seen type inside. plain (giving_literal 1 (class_literal o type)) (tt, tt) (omega (arith, inside), tt) refl;
          unnumbered = λ is it seen none. failures.none;
          freed = λ is it seen. none_freed FreeMeFree is refl;
          unlinked = λ is. none_freed FreeMeLink is refl;
          linked = λ is it seen loose. none_freed FreeMeLink is refl;
          chain_freed = λ is. none_freed FreeMeFreeChain is refl;
          copied = λ is it seen may. plain _ (tt, tt) (tt, tt) refl;
          uncopied = λ is. failures.raised NotCloneable;
        })
        byte where
          none_freed : {X : Type 0} (freeing : Native) → row ≡ freeing → is_free_me freeing ≡ true → X
          none_freed freeing is frees = absurd (false≢true (sym other ∙ ap is_free_me is ∙ frees))

    -- ---- calls

    -- no method of FreeMe is called
    abbrev IsOther : ℕ → Type 0
    IsOther method = (row : Native) → native_of o method ≡ Some row → is_free_me row ≡ false

    -- methods of FreeMe are static
    abbrev pub FreesAreStatic : Type 0
    FreesAreStatic =
        (target : ℕ) (row : Native) → native_of o target ≡ Some row → is_free_me row ≡ true → is_static (method_at o.classes target).method.flags ≡ true

    -- the instruction names none of FreeMe
    abbrev pub NamesOthers : Use → Type 0
    NamesOthers u = (m : MethodId) (t : TypeId) → u ≡ resolved.OfMethod m t → IsOther m.0

    module _ (static : FreesAreStatic) where
      other_row : (named target : ℕ) → IsOther named → (target ≡ named) ⊎ (is_static (method_at o.classes target).method.flags ≡ false) → IsOther target
      other_row named target others (inl same) row native = others row (sym (ap (native_of o) same) ∙ native)
      other_row named target others (inr instance) row native =
          ⊎_elim (λ free. absurd (false≢true (sym instance ∙ static target row native free))) (λ is_other. is_other) (cases_Bool (is_free_me row))

      other_target : (method named target : ℕ) (of : TypeRef) → IsOther named → Reaches o method of named target → IsOther target
      other_target method named target of others (Selected class found) = other_row named target others (select_alike o.classes class named target found).flags
      other_target method named target of others (Special is) =
          subst IsOther is
          (other_row named (special_target o.classes (class_of_method o method) (class_of_type of) named) others
          (special_alike o.classes (class_of_method o method) (class_of_type of) named).flags)

      entered : (count target : ℕ) (byte : Option ℕ) → IsOther target → A (entered_as o count target byte s (native_of o target))
      entered count target byte others =
          entered_cases o s byte A count target (plain (going count (Calls target)) tt tt refl) (λ row native. native_rows row byte (others row native))

    -- ---- the whole table

    -- what goes into the static field that is named
    abbrev pub HasStaticValue : Use → Type 0
    HasStaticValue u =
        (g : FieldId) (n : TypeId) (t : TypeRef) → u ≡ resolved.OfField g n → slice_get o.types n.0 ≡ Some t
        → IsOfKind (kind_of_field o g.0) (word_at f.stack (kind_words (kind_of_field o g.0) - 1))

    abbrev pub HasLiteral : Use → Type 0
    HasLiteral u = (literal : ℕ) → literal_named o u ≡ Some literal → literal < literal_count o

    -- what linking and the checker know of the instruction
    pub record IsKnown (u : Use) (i : Insn) : Type 0 where
      pub fields : static_field_wanted i ≡ Some false → HasField o store f.stack u
      pub static_value : (index : ℕ) → i ≡ insn.PutStatic index → HasStaticValue u
      pub literals : HasLiteral u
      pub others : NamesOthers u

    pub row_alike : FreesAreStatic → (method : ℕ) (u : Use) (i : Insn) (byte : Option ℕ) → IsKnown u i → A (effect_of o method u i byte s)
    row_alike static method u i byte known =
        each_insn o s method byte A i u
        (record {
          failures = failures;
          plain = λ e gives writes named written. plain (record e { actions = []; gives = gives; writes = writes; next = Falls })
              (AllByRecursion-append Numbers (map (λ (w : ℕ × Source). w.1) writes) gives
              (AllByRecursion-mapped (WritesNamed i) Numbers (λ (w : ℕ × Source). w.1) (λ w h. named_number i w.1 h.1) writes written)
              (AllByRecursion-weaker (IsNamed i) Numbers (named_number i) gives named))
              tt refl;
          goes = λ e next leads.
              let quiet = on_quietly i next leads in plain (record e { actions = []; gives = []; writes = []; next = next }) quiet.1 tt quiet.0;
          throws = λ it it_is seen fits. record { numbers = (tt, tt); acts = tt; thrown = (tt, tt); thrown_numbers = (tt, tt); thrown_found = (tt, tt) };
          literal = λ index n it_is named. plain _ (tt, tt) (known.literals n named, tt) refl;
          new = λ index n t class it_is used at is. plain _ (tt, tt) (tt, tt) refl;
          number_array = λ e b len it_is is. plain _ (tt, tt) (tt, tt) refl;
          reference_array = λ index n t array len it_is used at is. plain _ (tt, tt) (tt, tt) refl;
          nested = λ index dimensions n t counts it_is used at is. plain _ (tt, tt)
              (nested_actions (ActsAlike o store f) (λ t count. tt) (λ first place inner k. tt) t (magnitudes counts) 0) refl;
          put_static = λ index g n t it_is used at.
              plain _ tt ((tt, λ areas made statics. known.static_value index it_is g n t used at), tt) refl;
          get_field = λ index g n t it it_is used at seen fits.
              let k : Kind = kind_of_field o g.0 in
              plain (words 1 (loaded k (OfPlace 0 (slot_of o.classes g.0) k)))
              (loaded_all Numbers tt k (OfPlace 0 (slot_of o.classes g.0) k)
              (number_place 0 (slot_of o.classes g.0) k
              (seen_place o store f.stack 0 (slot_of o.classes g.0) k it seen (known.fields (ap static_field_wanted it_is) g n t it.type used at fits))))
              tt refl;
          put_field = λ index g n t it it_is used at seen fits. plain _ tt (tt, tt) refl;
          get_element = λ e it place it_is seen passes.
              let k : Kind = element_kind it.type in
              plain (words 2 (loaded k (OfPlace 1 place k)))
              (loaded_all Numbers tt k (OfPlace 1 place k)
              (number_place 1 place k (seen_place o store f.stack 1 place k it seen (array_kind o.classes it.type place (elements_deep e it.type passes)))))
              tt refl;
          put_element = λ e it place it_is seen passes. plain (put_element (element_words e) it place) tt (tt, tt) refl;
          calls = λ is. call_rows o s method u byte A failures
              (λ m n t target used at reaches.
              entered static (words_of_arguments o m.0 + 1) target byte (other_target static method m.0 target t (known.others m n used) reaches))
              (λ m n t used at.
              started (class_of_method o m.0) (entered_as o (words_of_arguments o m.0) m.0 byte s (native_of o m.0))
              (entered static (words_of_arguments o m.0) m.0 byte (known.others m n used)));
        })
