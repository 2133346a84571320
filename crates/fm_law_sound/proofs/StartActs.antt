-- What the start of classes does to their static fields fits.
use Rattle.std.proofs.Common.{◌≡◌, ℕ, zero, suc, ◌<◌, ◌≤◌, ◌⊎◌, inl, inr, Bool, List, [], ◌∷◌, ◌++◌, length, Option, Some, None, refl, sym, ◌∙◌, ap, subst, get_or, arith, append_assoc}
use Rattle.std.specs.List.{AllByRecursion, flat_map}
use Rattle.std.proofs.lemmas.Bool.{cases_lt}
use Rattle.std.proofs.lemmas.List.{append-nil}
use Rattle.std.proofs.lemmas.Option.{none-some}
use Rattle.fm_base.specs.Texts.{units}
use Rattle.fm_base.specs.declared.kinds.TypeRef.{TypeRef}
use Rattle.fm_cells.specs.Stores.{Store}
use Rattle.fm_world.specs.Declarations.{no_field}
use Rattle.fm_world.specs.Members.{field_at, fields_of, OwnedField, slot_of}
use Rattle.fm_world.specs.Numbers.{text_number}
use Rattle.fm_world.specs.Programs.{Outline, Program}
use Rattle.fm_world.specs.declared.declarations.Constant.{Constant}
use Rattle.fm_world.specs.declared.declarations.Constant.TheVariants as constant
use Rattle.fm_frames.specs.Effects.{Action, Effect, Enters, MakeLiteral, nothing, OfLiteral, SetStatic}
use Rattle.fm_frames.specs.ObjectRows.{kind_of_field}
use Rattle.fm_frames.specs.Starts.{fields_at, set_constant, start_actions, start_methods, start_of_class, started_by, to_start, with_start}
use Rattle.fm_frames.specs.States.{Frame}
use Rattle.fm_law_sound.proofs.MadeObjects.{literal_fits}
use Rattle.fm_law_sound.specs.Acting.{ActsFit}
use Rattle.fm_law_sound.specs.Making.{AreFew, ConstantsAreStatic, IsFew, IsMakeable}
use Rattle.fm_law_sound.proofs.ObjectRows.{static_slot_at}

-- past the last field there is none, and no value
past_fields : (fields : List OwnedField) (field : ℕ) → length fields ≤ field → get_or fields field (record { class = 0; field = no_field }) ≡ record { class = 0; field = no_field }
past_fields [] field past = refl
past_fields (g ∷ fields) zero past = absurd (omega (arith, past))
past_fields (g ∷ fields) (suc field) past = past_fields fields field (omega (arith, past))

-- the effect after classes are started, by their methods, and by the class that has to be started
abbrev pub after_methods : Outline → List ℕ → Effect → List ℕ → Effect
after_methods o classes effect [] = record effect { starts = None; actions = start_actions o classes ++ effect.actions }
after_methods o classes effect (m ∷ methods) = record nothing { actions = start_actions o classes; next = Enters (m ∷ methods) }

abbrev pub for_class : Outline → List Bool → Effect → Option ℕ → Effect
for_class o started effect None = effect
for_class o started effect (Some class) = started_by o (to_start o started class) effect

module _ (p : Program) (ready : IsMakeable p) (statics : ConstantsAreStatic p.outline) (store : Store) (f : Frame) (types : List TypeRef) where
  abbrev o : Outline
  o = p.outline

  abbrev Fits : List Action → Type 0
  Fits actions = ActsFit o store f types actions

  valued_within : (field : ℕ) (c : Constant) → (field_at o.classes field).field.value ≡ Some c → field < length (fields_of o.classes)
  valued_within field c is = by_place (cases_lt field (length (fields_of o.classes))) where
    by_place : (field < length (fields_of o.classes)) ⊎ (length (fields_of o.classes) ≤ field) → field < length (fields_of o.classes)
    by_place (inl inside) = inside
    by_place (inr past) =
        absurd (none-some c (sym (ap (λ (g : OwnedField). g.field.value) (past_fields (fields_of o.classes) field past)) ∙ is))

  -- a text is set by its literal, where it has a number
  abbrev of_number : ℕ → Option ℕ → List Action
  of_number field None = []
  of_number field (Some number) = MakeLiteral number ∷ SetStatic (slot_of o.classes field) (kind_of_field o field) (OfLiteral number) ∷ []

  text_set : (field : ℕ) (c : Constant) (number : Option ℕ) (rest : List Action) → (field_at o.classes field).field.value ≡ Some c → Fits rest
      → Fits (of_number field number ++ rest)
  text_set field c None rest is follows = follows
  text_set field c (Some number) rest is follows = (
    literal_fits p ready number,
    (static_slot_at o field (valued_within field c is) (statics field c is), follows),
  )

  constant_set : (field : ℕ) (value : Option Constant) (rest : List Action) → (field_at o.classes field).field.value ≡ value → Fits rest
      → Fits (set_constant o field value ++ rest)
  constant_set field None rest is follows = follows
  constant_set field (Some (constant.Int n)) rest is follows =
      (static_slot_at o field (valued_within field (constant.Int n) is) (statics field (constant.Int n) is), follows)
  constant_set field (Some (constant.Long n)) rest is follows =
      (static_slot_at o field (valued_within field (constant.Long n) is) (statics field (constant.Long n) is), follows)
  constant_set field (Some (constant.Text text)) rest is follows =
      text_set field (constant.Text text) (text_number o.texts (units text)) rest is follows

  abbrev set_field : ℕ → List Action
  set_field field = set_constant o field (field_at o.classes field).field.value

  constants_set : (fields : List ℕ) (rest : List Action) → Fits rest → Fits (flat_map set_field fields ++ rest)
  constants_set [] rest follows = follows
  constants_set (field ∷ fields) rest follows =
      subst Fits (sym (append_assoc (set_field field) (flat_map set_field fields) rest))
      (constant_set field (field_at o.classes field).field.value (flat_map set_field fields ++ rest) refl (constants_set fields rest follows))

  -- classes are started before what else is done
  pub starts_fit : (classes : List ℕ) (rest : List Action) → Fits rest → Fits (start_actions o classes ++ rest)
  starts_fit [] rest follows = follows
  starts_fit (class ∷ classes) rest follows =
      subst Fits (sym (append_assoc (start_of_class o class) (start_actions o classes) rest))
      (constants_set (fields_at o class) (start_actions o classes ++ rest) (starts_fit classes rest follows))

-- alone
pub start_alone : (p : Program) → IsMakeable p → ConstantsAreStatic p.outline → (store : Store) (f : Frame) (classes : List ℕ)
    → ActsFit p.outline store f [] (start_actions p.outline classes)
start_alone p ready statics store f classes =
    subst (λ actions. ActsFit p.outline store f [] actions) (append-nil (start_actions p.outline classes))
    (starts_fit p ready statics store f [] classes [] tt)

-- ---- before an effect

pub all_after : {X : Type 0} (P : X → Type 0) (xs ys : List X) → AllByRecursion P (xs ++ ys) → AllByRecursion P ys
all_after P [] ys all = all
all_after P (x ∷ xs) ys all = all_after P xs ys all.1

module _ (p : Program) (ready : IsMakeable p) (statics : ConstantsAreStatic p.outline) (store : Store) (f : Frame) (started : List Bool) (e : Effect)
    (fits : AreFew p.outline e.actions → ActsFit p.outline store f [] e.actions) where
  -- the effect fits, where its objects are few
  abbrev FitsFew : Effect → Type 0
  FitsFew other = AreFew p.outline other.actions → ActsFit p.outline store f [] other.actions

  by_methods : (classes methods : List ℕ) → start_methods p.outline classes ≡ methods → FitsFew (started_by p.outline classes e)
  by_methods classes [] is =
      subst FitsFew (sym (ap (after_methods p.outline classes e) is))
      (λ few. starts_fit p ready statics store f [] classes e.actions (fits (all_after (IsFew p.outline) (start_actions p.outline classes) e.actions few)))
  by_methods classes (m ∷ methods) is = subst FitsFew (sym (ap (after_methods p.outline classes e) is)) (λ few. start_alone p ready statics store f classes)

  pub before_fits : FitsFew (with_start p.outline started e)
  before_fits = by_class e.starts refl where
    by_class : (class : Option ℕ) → e.starts ≡ class → FitsFew (with_start p.outline started e)
    by_class None is = subst FitsFew (sym (ap (for_class p.outline started e) is)) fits
    by_class (Some class) is =
        subst FitsFew (sym (ap (for_class p.outline started e) is))
        (by_methods (to_start p.outline started class) (start_methods p.outline (to_start p.outline started class)) refl)
