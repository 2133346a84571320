-- The start of classes gives static fields what suits them, and makes nothing but literals; so an effect owes what it should with it, too.
use Rattle.std.proofs.Common.{◌≡◌, ℕ, Bool, List, [], ◌∷◌, ◌++◌, Option, Some, None, refl, sym, subst, length, true, ◌<◌}
use Rattle.std.specs.List.{AllByRecursion, flat_map}
use Rattle.fm_base.proofs.ListFacts.{AllByRecursion-append}
use Rattle.fm_base.specs.Texts.{units}
use Rattle.fm_base.specs.declared.kinds.Kind.{Kind}
use Rattle.fm_base.specs.declared.kinds.Kind.TheVariants as kind
use Rattle.fm_base.specs.declared.kinds.TypeRef.{TypeRef}
use Rattle.fm_cells.specs.Stores.{Store}
use Rattle.fm_frames.proofs.LiteralSteps.{text-literal}
use Rattle.fm_types.specs.Fits.{AreTree, fits_type}
use Rattle.fm_types.specs.Named.{throwable_type}
use Rattle.fm_types.specs.States.{TypeState}
use Rattle.fm_world.specs.Members.{field_at, slot_of}
use Rattle.fm_world.specs.Numbers.{text_number}
use Rattle.fm_world.specs.Programs.{Outline, Program}
use Rattle.fm_world.specs.declared.declarations.Constant.{Constant}
use Rattle.fm_world.specs.declared.declarations.Constant.TheVariants as constant
use Rattle.fm_frames.specs.Effects.{Action, Copy, Effect, Calls, Enters, Exits, Falls, Faults, Free, FreeChain, Jumps, JumpsIfSame, Make, MakeFixed, MakeLiteral, Next, nothing, OfLiteral, Put, Returns, SetChain, SetStatic, Source, Start, Throws}
use Rattle.fm_frames.specs.NativeRows.{text_kind, text_type}
use Rattle.fm_frames.specs.ObjectRows.{kind_of_field}
use Rattle.fm_frames.specs.Starts.{fields_at, set_constant, start_actions, start_methods, start_of_class, started_by, to_start, with_start}
use Rattle.fm_frames.specs.States.{Areas, Frame}
use Rattle.fm_frames.specs.Steps.{stack_after, written}
use Rattle.fm_frames.specs.declared.values.Value.{Value}
use Rattle.fm_same.specs.Evenness.{IsNumber, IsPlainKind}
use Rattle.fm_law_sound.specs.Leading.{sources_of}
use Rattle.fm_law_no_fault.specs.CellsResolved.{CellsAreResolved}
use Rattle.fm_law_no_fault.proofs.ActsKeep.{types_after, Went}
use Rattle.fm_law_no_fault.proofs.Owing.{ActsSuit, CellsFit, NextSuits, RowIsWhole, SourceIsA, Suits}
use Rattle.fm_types.proofs.Order.{type-refl}
use Rattle.std.proofs.lemmas.List.Quantifiers.{position-Some}
use Rattle.std.specs.Str.{bytes_eq}

-- a number is the constant of a field of numbers
abbrev pub NumbersAreConstants : Outline → Type 0
NumbersAreConstants o = (field : ℕ) → IsNumber (field_at o.classes field).field.value → IsPlainKind (kind_of_field o field)

module _ (p : Program) (cells : CellsAreResolved p) (tree : AreTree p.outline.classes) (numbers : NumbersAreConstants p.outline) (store : Store) (stack : List Value) where
  abbrev o : Outline
  o = p.outline

  -- what the start of a class does
  abbrev StartSuits : Action → Type 0
  StartSuits (Make t len content) = ⊥
  StartSuits (MakeFixed t) = ⊥
  StartSuits (MakeLiteral text) = Unit {0}
  StartSuits (Put object place k v) = ⊥
  StartSuits (SetStatic field k v) = (types : List TypeRef) → Suits o store stack types k v
  StartSuits (Start class) = Unit {0}
  StartSuits (Free operand) = ⊥
  StartSuits (SetChain operand to) = ⊥
  StartSuits (FreeChain operand) = ⊥
  StartSuits (Copy t len operand) = ⊥

  plain_suits : (k : Kind) (v : Source) → IsPlainKind k → (types : List TypeRef) → Suits o store stack types k v
  plain_suits kind.Boolean v is types = tt
  plain_suits kind.Byte v is types = tt
  plain_suits kind.Char v is types = tt
  plain_suits kind.Short v is types = tt
  plain_suits kind.Int v is types = tt
  plain_suits kind.Long v is types = tt
  plain_suits (kind.Ref t) v is types = absurd is

  literal_suits : (k : Kind) (text : ℕ) → text < length o.texts → k ≡ text_kind o → (types : List TypeRef) → Suits o store stack types k (OfLiteral text)
  literal_suits k text inside is types =
      subst (λ q. Suits o store stack types q (OfLiteral text)) (sym is)
      (subst (λ t. fits_type o.classes t (text_type o) ≡ true) (sym (text-literal o text inside)) (type-refl o.classes tree (text_type o)))

  -- the constant of a field that holds a text
  abbrev text_set : ℕ → Option ℕ → List Action
  text_set field None = []
  text_set field (Some number) = MakeLiteral number ∷ SetStatic (slot_of o.classes field) (kind_of_field o field) (OfLiteral number) ∷ []

  text_suits : (field : ℕ) → kind_of_field o field ≡ text_kind o → (text : List ℕ) (number : Option ℕ) → text_number o.texts text ≡ number
      → AllByRecursion StartSuits (text_set field number)
  text_suits field is text None found = tt
  text_suits field is text (Some number) found =
      (tt, (literal_suits (kind_of_field o field) number (position-Some (bytes_eq text) o.texts number [] found).0 is, tt))

  constant_suits : (field : ℕ) (value : Option Constant) → (field_at o.classes field).field.value ≡ value
      → AllByRecursion StartSuits (set_constant o field value)
  constant_suits field None is = tt
  constant_suits field (Some (constant.Int n)) is =
      (plain_suits (kind_of_field o field) _ (numbers field (subst IsNumber (sym is) tt)), tt)
  constant_suits field (Some (constant.Long n)) is =
      (plain_suits (kind_of_field o field) _ (numbers field (subst IsNumber (sym is) tt)), tt)
  constant_suits field (Some (constant.Text text)) is = text_suits field (cells.places.constants field text is) (units text) (text_number o.texts (units text)) refl

  all_flat : {X : Type 0} (f : X → List Action) → ((x : X) → AllByRecursion StartSuits (f x)) → (xs : List X) → AllByRecursion StartSuits (flat_map f xs)
  all_flat f each [] = tt
  all_flat f each (x ∷ xs) = AllByRecursion-append StartSuits (f x) (flat_map f xs) (each x) (all_flat f each xs)

  class_suits : (class : ℕ) → AllByRecursion StartSuits (start_of_class o class)
  class_suits class = (
    tt,
    all_flat (λ field. set_constant o field (field_at o.classes field).field.value) (λ field. constant_suits field (field_at o.classes field).field.value refl)
        (fields_at o class),
  )

  starts_suit : (classes : List ℕ) → AllByRecursion StartSuits (start_actions o classes)
  starts_suit classes = all_flat (start_of_class o) class_suits classes

  -- ---- before other actions

  before_suits : (xs ys : List Action) (types : List TypeRef) → AllByRecursion StartSuits xs → ActsSuit o store stack types ys
      → ActsSuit o store stack types (xs ++ ys)
  before_suits [] ys types each suit = suit
  before_suits (Make t len content ∷ xs) ys types each suit = absurd each.0
  before_suits (MakeFixed t ∷ xs) ys types each suit = absurd each.0
  before_suits (MakeLiteral text ∷ xs) ys types each suit = before_suits xs ys types each.1 suit
  before_suits (Put object place k v ∷ xs) ys types each suit = absurd each.0
  before_suits (SetStatic field k v ∷ xs) ys types each suit = (each.0 types, before_suits xs ys types each.1 suit)
  before_suits (Start class ∷ xs) ys types each suit = before_suits xs ys types each.1 suit
  before_suits (Free operand ∷ xs) ys types each suit = absurd each.0
  before_suits (SetChain operand to ∷ xs) ys types each suit = absurd each.0
  before_suits (FreeChain operand ∷ xs) ys types each suit = absurd each.0
  before_suits (Copy t len operand ∷ xs) ys types each suit = absurd each.0

  before_types : (xs ys : List Action) (types : List TypeRef) → AllByRecursion StartSuits xs → types_after types (xs ++ ys) ≡ types_after types ys
  before_types [] ys types each = refl
  before_types (Make t len content ∷ xs) ys types each = absurd each.0
  before_types (MakeFixed t ∷ xs) ys types each = absurd each.0
  before_types (MakeLiteral text ∷ xs) ys types each = before_types xs ys types each.1
  before_types (Put object place k v ∷ xs) ys types each = absurd each.0
  before_types (SetStatic field k v ∷ xs) ys types each = before_types xs ys types each.1
  before_types (Start class ∷ xs) ys types each = before_types xs ys types each.1
  before_types (Free operand ∷ xs) ys types each = absurd each.0
  before_types (SetChain operand to ∷ xs) ys types each = absurd each.0
  before_types (FreeChain operand ∷ xs) ys types each = absurd each.0
  before_types (Copy t len operand ∷ xs) ys types each = absurd each.0

  pub starts_alone : (classes : List ℕ) (types : List TypeRef) → ActsSuit o store stack types (start_actions o classes)
  starts_alone classes types =
      alone (start_actions o classes) (starts_suit classes) where
        alone : (xs : List Action) → AllByRecursion StartSuits xs → ActsSuit o store stack types xs
        alone [] each = tt
        alone (Make t len content ∷ xs) each = absurd each.0
        alone (MakeFixed t ∷ xs) each = absurd each.0
        alone (MakeLiteral text ∷ xs) each = alone xs each.1
        alone (Put object place k v ∷ xs) each = absurd each.0
        alone (SetStatic field k v ∷ xs) each = (each.0 types, alone xs each.1)
        alone (Start class ∷ xs) each = alone xs each.1
        alone (Free operand ∷ xs) each = absurd each.0
        alone (SetChain operand to ∷ xs) each = absurd each.0
        alone (FreeChain operand ∷ xs) each = absurd each.0
        alone (Copy t len operand ∷ xs) each = absurd each.0

  -- ---- an effect with what its class's start makes of it

  module _ (own : ℕ) (news : ℕ → Option TypeRef) (after : TypeState) (f : Frame) (same : stack ≡ f.stack) where
    abbrev Owes : Effect → Type 0
    Owes e = RowIsWhole p store own news after f e

    -- what is left once these are the areas
    abbrev Left : Effect → Areas → List ℕ → Type 0
    Left e y made = CellsFit o y.store own news after (written (sources_of f y made) e.writes f.locals) (stack_after (sources_of f y made) e f.stack)

    after_start : (classes : List ℕ) (e : Effect) (P : List TypeRef → Type 0) → P (types_after [] e.actions)
        → P (types_after [] (start_actions o classes ++ e.actions))
    after_start classes e P h = subst P (sym (before_types (start_actions o classes) e.actions [] (starts_suit classes))) h

    next_before : (classes : List ℕ) (e : Effect) (next : Next) → NextSuits p store own news after f e next
        → NextSuits p store own news after f (record e { starts = None; actions = start_actions o classes ++ e.actions }) next
    next_before classes e Falls owes = after_start classes e (λ types. (y : Areas) (made : List ℕ) → Went o store types y made → Left e y made) owes
    next_before classes e (Jumps n) owes = after_start classes e (λ types. (y : Areas) (made : List ℕ) → Went o store types y made → Left e y made) owes
    next_before classes e (JumpsIfSame again) owes = after_start classes e (λ types. (y : Areas) (made : List ℕ) → Went o store types y made → Left e y made) owes
    next_before classes e (Calls target) owes = owes
    next_before classes e (Returns n) owes = owes
    next_before classes e (Throws s) owes =
        after_start classes e (λ types. SourceIsA o store f.stack types (λ u. fits_type o.classes u (throwable_type o)) s) owes
    next_before classes e (Enters methods) owes = owes
    next_before classes e (Exits n) owes = owes
    next_before classes e (Faults s) owes = owes

    -- the effect after the classes are started, or the methods that start them
    abbrev pub with_methods : List ℕ → Effect → List ℕ → Effect
    with_methods classes e [] = record e { starts = None; actions = start_actions o classes ++ e.actions }
    with_methods classes e (m ∷ methods) = record nothing { actions = start_actions o classes; next = Enters (m ∷ methods) }

    methods_owe : (classes : List ℕ) (e : Effect) (methods : List ℕ) → Owes e → Owes (with_methods classes e methods)
    methods_owe classes e [] owes = record {
      acts = subst (λ words. ActsSuit o store words [] (start_actions o classes ++ e.actions)) same
          (before_suits (start_actions o classes) e.actions [] (starts_suit classes)
          (subst (λ words. ActsSuit o store words [] e.actions) (sym same) owes.acts));
      next = next_before classes e e.next owes.next;
    }
    methods_owe classes e (m ∷ methods) owes = record {
      acts = subst (λ words. ActsSuit o store words [] (start_actions o classes)) same (starts_alone classes []);
      next = tt;
    }

    abbrev pub with_class : List Bool → Effect → Option ℕ → Effect
    with_class started e None = e
    with_class started e (Some class) = started_by o (to_start o started class) e

    class_owes : (started : List Bool) (e : Effect) (class : Option ℕ) → Owes e → Owes (with_class started e class)
    class_owes started e None owes = owes
    class_owes started e (Some class) owes =
        methods_owe (to_start o started class) e (start_methods o (to_start o started class)) owes

    pub start_owes : (started : List Bool) (e : Effect) → Owes e → Owes (with_start o started e)
    start_owes started e owes = class_owes started e e.starts owes
