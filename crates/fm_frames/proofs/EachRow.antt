-- What holds of each effect by its actions holds of all rows of the machine's table: one lemma with a field for each sort of what an effect does.
use Rattle.std.proofs.Common.{◌≡◌, ℕ, ◌<◌, arith, List, [], ◌∷◌, Option, Some, None, option_and_then, true, refl}
use Rattle.fm_base.specs.declared.kinds.Kind.{Kind}
use Rattle.fm_base.specs.declared.kinds.TypeRef.{TypeRef}
use Rattle.fm_code.specs.declared.instructions.Insn.{Insn}
use Rattle.fm_code.specs.declared.instructions.Insn.TheVariants as insn
use Rattle.fm_frames.specs.ArrayRows.{array_actions}
use Rattle.fm_frames.specs.CallRows.{entered_as, native_of}
use Rattle.fm_frames.specs.Effects.{acting, Copy, Effect, Exits, Falls, Free, FreeChain, giving_literal, going, int_word, Make, MakeLiteral, making, printing, Put, SameOperands, SetChain, SetStatic, Source, words}
use Rattle.fm_frames.specs.NativeRows.{has_text, native_effect, text_made}
use Rattle.fm_frames.specs.Natives.{native_of_row}
use Rattle.fm_frames.specs.declared.natives.Native.{Native}
use Rattle.fm_frames.specs.ObjectRows as objects
use Rattle.fm_frames.specs.Operands.{thrown}
use Rattle.fm_frames.specs.Rows.{effect_of}
use Rattle.fm_frames.specs.Sights.{Sight}
use Rattle.fm_types.specs.Named.{class_of_method}
use Rattle.fm_world.specs.Members.{method_at}
use Rattle.fm_world.specs.Programs.{Outline}
use Rattle.fm_world.specs.declared.uses.Use.{Use}
use Rattle.fm_world.specs.declared.uses.Use.TheVariants as resolved
use Rattle.fm_frames.proofs.EachCall.{call_rows, entered_cases}
use Rattle.fm_frames.proofs.EachInsn.{each_insn}
use Rattle.fm_frames.proofs.Failures.{Failures, name_of, NotCloneable, TextOutside}
use Rattle.fm_frames.proofs.UsualAsks.{each_native}
use Rattle.fm_frames.specs.Literals.{class_literal, literal_count, literal_named}

-- no class has to be started, or that of a method that has a row
abbrev pub IsOfRow : Outline → Option ℕ → Type 0
IsOfRow o None = Unit {0}
IsOfRow o (Some class) =
    (method row : ℕ) × ((method_at o.classes method).method.row ≡ Some row) × (class ≡ class_of_method o method)

-- what holds of effects by their actions
pub record Leaves (o : Outline) (A : Effect → Type 0) : Type 0 where
  -- no action: words, prints, jumps, calls, returns and faults
  pub plain : (e : Effect) → e.actions ≡ [] → A e
  -- what the machine throws
  pub thrown : (name : List ℕ) → A (thrown o name)
  -- an object whose elements are 0; a text; and one that an operand's object builds from now on
  pub made : (e : Effect) (t : TypeRef) (len : ℕ) → e.actions ≡ Make t len [] ∷ [] → A e
  pub text : (e : Effect) (units : List ℕ) → e.actions ≡ text_made o units ∷ [] → A e
  pub text_put : (e : Effect) (operand : ℕ) (units : List ℕ) → e.actions ≡ has_text o operand units → A e
  -- a place, a static field or a chain is set
  pub put : (e : Effect) (object : Source) (place : ℕ) (k : Kind) (value : Source) → e.actions ≡ Put object place k value ∷ [] → A e
  pub static_put : (e : Effect) (place : ℕ) (k : Kind) (value : Source) → e.actions ≡ SetStatic place k value ∷ [] → A e
  pub chained : (e : Effect) (operand to : ℕ) → e.actions ≡ SetChain operand to ∷ [] → A e
  -- a literal that is there to be made is given
  pub given_literal : (e : Effect) (literal : ℕ) → literal < literal_count o → e.actions ≡ MakeLiteral literal ∷ [] → A e
  -- a cell or a chain is freed, where at most the class of a built-in method has to be started before
  pub freed : (e : Effect) → IsOfRow o e.starts → (operand : ℕ) → e.actions ≡ Free operand ∷ [] → A e
  pub chain_freed : (e : Effect) → IsOfRow o e.starts → (operand : ℕ) → e.actions ≡ FreeChain operand ∷ [] → A e
  -- an object is copied
  pub copied : (e : Effect) (t : TypeRef) (len operand : ℕ) → e.actions ≡ Copy t len operand ∷ [] → A e

-- the same where a class has to be started before, that of a method that has a row
starting_leaves : (o : Outline) (A : Effect → Type 0) (class : ℕ) → IsOfRow o (Some class) → Leaves o A → Leaves o (λ e. A (objects.starting class e))
starting_leaves o A class known l = record {
  plain = λ e is. l.plain (objects.starting class e) is;
  thrown = λ name. l.made (objects.starting class (thrown o name)) _ _ refl;
  made = λ e t len is. l.made (objects.starting class e) t len is;
  text = λ e units is. l.text (objects.starting class e) units is;
  text_put = λ e operand units is. l.text_put (objects.starting class e) operand units is;
  put = λ e object place k value is. l.put (objects.starting class e) object place k value is;
  static_put = λ e place k value is. l.static_put (objects.starting class e) place k value is;
  chained = λ e operand to is. l.chained (objects.starting class e) operand to is;
  given_literal = λ e literal inside is. l.given_literal (objects.starting class e) literal inside is;
  freed = λ e none operand is. l.freed (objects.starting class e) known operand is;
  chain_freed = λ e none operand is. l.chain_freed (objects.starting class e) known operand is;
  copied = λ e t len operand is. l.copied (objects.starting class e) t len operand is;
}

failures : (o : Outline) (A : Effect → Type 0) → Leaves o A → Failures o A
failures o A l = record { raised = λ x. l.thrown (name_of x); none = l.plain _ refl; lost = λ n. l.plain _ refl }

-- a row of a built-in method
each_row_of_native : (o : Outline) (A : Effect → Type 0) → Leaves o A → (s : List Sight) (row : Native) (byte : Option ℕ) → A (native_effect o row byte s)
each_row_of_native o A l s row byte =
    each_native o s A (failures o A l) (λ n it seen hides. l.plain _ refl) row
    (record {
      nothing = λ n takes result. l.plain (words n []) refl;
      number = λ n shown is takes result z. l.plain (words n (int_word z)) refl;
      same = λ n takes result. l.plain (words n (SameOperands ∷ [])) refl;
      text_given = λ n takes result units fit. l.text (making n (text_made o units)) units refl;
      byte = λ n takes result z. l.plain (record (words n (int_word z)) { reads = true }) refl;
      printed = λ n takes result bytes. l.plain (printing n bytes) refl;
      exits = λ n takes z. l.plain (going n (Exits z)) refl;
      outside = l.thrown (name_of TextOutside);
      begun = λ it seen hides takes result. l.put _ _ _ _ _ refl;
      text_put = λ n operand it seen hides takes result units fit. l.text_put (acting n (has_text o operand units)) operand units refl;
      itself = λ is. l.plain _ refl;
      appended = λ shown is it seen builds units fit. l.text_put _ _ units refl;
      message_put = λ is it seen fits. l.put _ _ _ _ _ refl;
      message_given = λ is it seen fits. l.plain _ refl;
      class_given = λ is it seen type inside. l.given_literal (giving_literal 1 (class_literal o type)) (class_literal o type) (omega (arith, inside)) refl;
      unnumbered = λ is it seen none. l.plain _ refl;
      freed = λ is it seen. l.freed (acting 1 (Free 0 ∷ [])) tt 0 refl;
      unlinked = λ is. l.plain _ refl;
      linked = λ is it seen loose. l.chained _ _ _ refl;
      chain_freed = λ is. l.chain_freed (acting 1 (FreeChain 0 ∷ [])) tt 0 refl;
      copied = λ is it seen may. l.copied (making 1 (Copy it.type it.len 0)) it.type it.len 0 refl;
      uncopied = λ is. l.thrown (name_of NotCloneable);
    })
    byte

-- what holds of an effect by the literal that is named, and of one that makes arrays of arrays
abbrev pub LiteralLeaf : Outline → (Effect → Type 0) → Use → Type 0
LiteralLeaf o A u = (e : Effect) (literal : ℕ) → literal_named o u ≡ Some literal → e.actions ≡ MakeLiteral literal ∷ [] → A e

abbrev pub NestedLeaf : (Effect → Type 0) → Type 0
NestedLeaf A = (e : Effect) (t : TypeRef) (counts : List ℕ) → e.actions ≡ array_actions t counts 0 → A e

module _ (o : Outline) (A : Effect → Type 0) (l : Leaves o A) (s : List Sight) where
  -- a static method is built in, or has code
  module _ (method : ℕ) (byte : Option ℕ) (count : ℕ) where
    abbrev Started : Effect → Type 0
    Started e = A (objects.starting (class_of_method o method) e)

    built_in_row : (n : Native) (row : Option ℕ) → (method_at o.classes method).method.row ≡ row → option_and_then native_of_row row ≡ Some n
        → Started (native_effect o n byte s)
    built_in_row n None is known = absurd (cc)
    built_in_row n (Some row) is known =
        each_row_of_native o Started (starting_leaves o A (class_of_method o method) (method, row, is, refl) l) s n byte

    static_entered : Started (entered_as o count method byte s (native_of o method))
    static_entered =
        entered_cases o s byte Started count method (l.plain _ refl) (λ n is. built_in_row n (method_at o.classes method).method.row refl is)

  -- each row: a literal is one that the instruction names, and only one instruction makes arrays of arrays
  pub each_row : (method : ℕ) (i : Insn) (u : Use) (byte : Option ℕ) → LiteralLeaf o A u
      → ((index dimensions : ℕ) → i ≡ insn.MultiArray index dimensions → NestedLeaf A) → A (effect_of o method u i byte s)
  each_row method i u byte literal nested =
      each_insn o s method byte A i u
      (record {
        failures = failures o A l;
        plain = λ e gives writes named written. l.plain (record e { actions = []; gives = gives; writes = writes; next = Falls }) refl;
        goes = λ e next leads. l.plain (record e { actions = []; gives = []; writes = []; next = next }) refl;
        throws = λ it it_is seen fits. l.plain _ refl;
        literal = λ index n it_is named. literal _ n named refl;
        new = λ index n t class it_is used at is. l.made _ t _ refl;
        number_array = λ e b len it_is is. l.made _ _ len refl;
        reference_array = λ index n t array len it_is used at is. l.made _ array len refl;
        nested = λ index dimensions n t counts it_is used at is. nested index dimensions it_is _ t _ refl;
        put_static = λ index f n t it_is used at. l.static_put _ _ _ _ refl;
        get_field = λ index f n t it it_is used at seen fits. l.plain _ refl;
        put_field = λ index f n t it it_is used at seen fits. l.put _ _ _ _ _ refl;
        get_element = λ e it place it_is seen passes. l.plain _ refl;
        put_element = λ e it place it_is seen passes. l.put _ _ _ _ _ refl;
        calls = λ is. call_rows o s method u byte A (failures o A l)
            (λ m n t target used at reaches. entered_cases o s byte A _ target (l.plain _ refl) (λ row is_row. each_row_of_native o A l s row byte))
            (λ m n t used at. static_entered m.0 byte _);
      })
