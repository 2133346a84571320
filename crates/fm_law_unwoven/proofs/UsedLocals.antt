-- An instruction uses the locals that it names at most.
use Rattle.std.proofs.Common.{ℕ, ◌<◌, ◌≤◌, arith, List, [], ◌∷◌, length, Option}
use Rattle.std.specs.List.{AllByRecursion}
use Rattle.fm_base.proofs.ListFacts.{AllByRecursion-weaker}
use Rattle.fm_code.specs.SpellsCode.{LocalsFit, targets_of}
use Rattle.fm_code.specs.declared.instructions.Insn.{Insn}
use Rattle.fm_frames.specs.ArrayRows.{element_kind}
use Rattle.fm_frames.specs.Effects.{Effect, Enters, Faults, int_word, Jumps, JumpsIfSame, LocalPlus, Next, OfLocal, OfOperand, OfPlace, SameOperands, Source, Throws, words}
use Rattle.fm_frames.specs.NativeRows.{native_effect, text_kind}
use Rattle.fm_frames.specs.declared.natives.Native.{Native}
use Rattle.fm_frames.specs.ObjectRows.{kind_of_field}
use Rattle.fm_frames.specs.Rows.{effect_of}
use Rattle.fm_frames.specs.Sights.{Sight}
use Rattle.fm_world.specs.Members.{slot_of}
use Rattle.fm_world.specs.Programs.{Outline}
use Rattle.fm_world.specs.declared.uses.Use.{Use}
use Rattle.fm_frames.proofs.EachCall.{any_calls}
use Rattle.fm_frames.proofs.EachInsn.{each_insn, IsNamed, LeadsOn, loaded_all, magnitudes, WritesNamed}
use Rattle.fm_frames.proofs.Failures.{Failures, NotCloneable, TextOutside}
use Rattle.fm_frames.proofs.NestedActions.{nested_actions}
use Rattle.fm_frames.proofs.UsualAsks.{each_native}
use Rattle.fm_law_unwoven.specs.UnseenCode.{ActsWithout, GoesWithin, IsWithin, UsesNamed}

-- a local that the instruction names is one of its method's
named_within : (max : ℕ) (i : Insn) → LocalsFit max i → (source : Source) → IsNamed i source → IsWithin max source
named_within max i fits (OfLocal k) named = named max fits
named_within max i fits (LocalPlus k by) named = named max fits
named_within max i fits (OfPlace n place k) named = tt
named_within max i fits source named = tt

leads_within : (o : Outline) (targets : ℕ) (i : Insn) → length (targets_of i) ≤ targets → (next : Next) → LeadsOn i next → GoesWithin o targets next
leads_within o targets i few (Jumps n) leads = omega (arith, few, leads)
leads_within o targets i few (JumpsIfSame same) leads = omega (arith, few, leads)
leads_within o targets i few (Throws source) leads = absurd leads
leads_within o targets i few (Faults source) leads = absurd leads
leads_within o targets i few (Enters methods) leads = absurd leads
leads_within o targets i few next leads = tt

module _ (max targets : ℕ) (o : Outline) where
  abbrev A : Effect → Type 0
  A e = UsesNamed o max targets e

  -- what writes no local
  words_of : (takes : ℕ) (gives : List Source) → AllByRecursion (IsWithin max) gives → A (words takes gives)
  words_of takes gives within = record { acts = tt; gives = within; writes = tt; next = tt }

  failures : Failures o A
  failures = record {
    raised = λ x. record { acts = (tt, tt); gives = tt; writes = tt; next = tt };
    none = record { acts = tt; gives = tt; writes = tt; next = tt };
    lost = λ n. record { acts = tt; gives = tt; writes = tt; next = tt };
  }

  native_rows : (s : List Sight) (row : Native) (byte : Option ℕ) → A (native_effect o row byte s)
  native_rows s row byte =
      each_native o s A failures (λ n it seen hides. record { acts = tt; gives = tt; writes = tt; next = tt }) row
      (record {
        nothing = λ n takes result. words_of n [] tt;
        number = λ n shown is takes result z. words_of n (int_word z) (tt, tt);
        same = λ n takes result. words_of n (SameOperands ∷ []) (tt, tt);
        text_given = λ n takes result units fit. record { acts = (tt, tt); gives = (tt, tt); writes = tt; next = tt };
        byte = λ n takes result z. record { acts = tt; gives = (tt, tt); writes = tt; next = tt };
        printed = λ n takes result bytes. record { acts = tt; gives = tt; writes = tt; next = tt };
        exits = λ n takes z. record { acts = tt; gives = tt; writes = tt; next = tt };
        outside = failures.raised TextOutside;
        begun = λ it seen hides takes result. record { acts = ((tt, tt), tt); gives = tt; writes = tt; next = tt };
        text_put = λ n operand it seen hides takes result units fit. record { acts = (tt, ((tt, tt), tt)); gives = tt; writes = tt; next = tt };
        itself = λ is. words_of 1 (OfOperand 0 ∷ []) (tt, tt);
        appended = λ shown is it seen builds units fit. record { acts = (tt, ((tt, tt), tt)); gives = (tt, tt); writes = tt; next = tt };
        message_put = λ is it seen fits. record { acts = ((tt, tt), tt); gives = tt; writes = tt; next = tt };
        message_given = λ is it seen fits. words_of 1 (OfPlace 0 0 (text_kind o) ∷ []) (tt, tt);
        class_given = λ is it seen type inside. record { acts = (tt, tt); gives = (tt, tt); writes = tt; next = tt };
        unnumbered = λ is it seen none. failures.none;
        freed = λ is it seen. record { acts = (tt, tt); gives = tt; writes = tt; next = tt };
        unlinked = λ is. words_of 2 (OfOperand 0 ∷ []) (tt, tt);
        linked = λ is it seen loose. record { acts = (tt, tt); gives = (tt, tt); writes = tt; next = tt };
        chain_freed = λ is. record { acts = (tt, tt); gives = tt; writes = tt; next = tt };
        copied = λ is it seen may. record { acts = (tt, tt); gives = (tt, tt); writes = tt; next = tt };
        uncopied = λ is. failures.raised NotCloneable;
      })
      byte

  pub rows_within : (s : List Sight) (method : ℕ) (i : Insn) (u : Use) (byte : Option ℕ) → LocalsFit max i → length (targets_of i) ≤ targets → A (effect_of o method u i byte s)
  rows_within s method i u byte fits few =
      each_insn o s method byte A i u
      (record {
        failures = failures;
        plain = λ e gives writes named written. record {
          acts = tt;
          gives = AllByRecursion-weaker (IsNamed i) (IsWithin max) (named_within max i fits) gives named;
          writes =
              AllByRecursion-weaker (WritesNamed i) (λ (w : ℕ × Source). (w.0 < max) × IsWithin max w.1)
              (λ w h. (h.0 max fits, named_within max i fits w.1 h.1)) writes written;
          next = tt;
        };
        goes = λ e next leads. record { acts = tt; gives = tt; writes = tt; next = leads_within o targets i few next leads };
        throws = λ it it_is seen fits. record { acts = tt; gives = tt; writes = tt; next = tt };
        literal = λ index n it_is named. record { acts = (tt, tt); gives = (tt, tt); writes = tt; next = tt };
        new = λ index n t class it_is used at is. record { acts = (tt, tt); gives = (tt, tt); writes = tt; next = tt };
        number_array = λ e b len it_is is. record { acts = (tt, tt); gives = (tt, tt); writes = tt; next = tt };
        reference_array = λ index n t array len it_is used at is. record { acts = (tt, tt); gives = (tt, tt); writes = tt; next = tt };
        nested = λ index dimensions n t counts it_is used at is. record {
          acts = nested_actions ActsWithout (λ t count. tt) (λ first place inner k. (tt, tt)) t (magnitudes counts) 0;
          gives = (tt, tt);
          writes = tt;
          next = tt;
        };
        put_static = λ index f n t it_is used at. record { acts = (tt, tt); gives = tt; writes = tt; next = tt };
        get_field = λ index f n t it it_is used at seen fits.
            words_of 1 _ (loaded_all (IsWithin max) tt (kind_of_field o f.0) (OfPlace 0 (slot_of o.classes f.0) (kind_of_field o f.0)) tt);
        put_field = λ index f n t it it_is used at seen fits. record { acts = ((tt, tt), tt); gives = tt; writes = tt; next = tt };
        get_element = λ e it place it_is seen passes. words_of 2 _ (loaded_all (IsWithin max) tt (element_kind it.type) (OfPlace 1 place (element_kind it.type)) tt);
        put_element = λ e it place it_is seen passes. record { acts = ((tt, tt), tt); gives = tt; writes = tt; next = tt };
        calls = λ is. any_calls o s method u byte A failures (λ class e h. record { acts = h.acts; gives = h.gives; writes = h.writes; next = h.next })
            (λ count target. record { acts = tt; gives = tt; writes = tt; next = tt }) (λ row. native_rows s row byte);
      })
