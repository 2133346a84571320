-- What the start of classes requires of the constants of static fields; and that only built-in
-- methods have rows.
use Rattle.std.proofs.Common.{◌≡◌, ℕ, ◌<◌, ◌≤◌, List, [], length, Option, Some, None, refl, sym, subst, arith}
use Rattle.std.specs.List.{AllByRecursion}
use Rattle.std.specs.Str.{bytes_eq}
use Rattle.std.proofs.lemmas.List.Quantifiers.{position-Some}
use Rattle.fm_alu.proofs.TwosComplementLemmas.{low_bits-lt}
use Rattle.fm_base.specs.Texts.{units}
use Rattle.fm_base.specs.declared.kinds.Kind.TheVariants as kind
use Rattle.fm_base.specs.declared.kinds.TypeRef.{TypeRef}
use Rattle.fm_exec_calls.specs.Calls.{AreRowsBuiltIn}
use Rattle.fm_exec_calls.specs.Constants.{ConstantsSuit}
use Rattle.fm_exec_calls.specs.inner.Actions.{AllSuit}
use Rattle.fm_frames.specs.Elements.{int_bits}
use Rattle.fm_frames.specs.Literals.{literal_count}
use Rattle.fm_frames.specs.ObjectRows.{kind_of_field}
use Rattle.fm_frames.specs.Starts.{fields_at, set_constant, start_actions, start_of_class}
use Rattle.fm_frames.specs.States.{State}
use Rattle.fm_frames.specs.inner.Opening.{opening_classes, StartFits}
use Rattle.fm_law_can_step.specs.Ready.{CanRun, IsGoing}
use Rattle.fm_law_sound.proofs.Opening.{all_flat, with_text}
use Rattle.fm_world.specs.Members.{field_at}
use Rattle.fm_world.specs.Numbers.{text_number}
use Rattle.fm_world.specs.Programs.{Program}
use Rattle.fm_world.specs.declared.declarations.Constant.{Constant}
use Rattle.fm_world.specs.declared.declarations.Constant.TheVariants as constant

-- a text that has a number is there
number_inside : (texts : List (List ℕ)) (text : List ℕ) (number : ℕ) → text_number texts text ≡ Some number → number < length texts
number_inside texts text number is = (position-Some (bytes_eq text) texts number [] is).0

-- ---- in the midst of a run

module _ (p : Program) (can : CanRun p) (literals : ℕ) (same : literals ≡ literal_count p.outline) (field : ℕ) where
  text_suits : (t : TypeRef) → kind_of_field p.outline field ≡ kind.Ref t → (found : Option ℕ) → ((number : ℕ) → found ≡ Some number → number < length p.outline.texts)
      → AllSuit p literals (with_text p.outline field found)
  text_suits t is None inside = tt
  text_suits t is (Some number) inside = let there = inside number refl in ((there, omega (arith, there, same)), ((t, is), tt))

  constant_suits : (c : Option Constant) → (field_at p.outline.classes field).field.value ≡ c → AllSuit p literals (set_constant p.outline field c)
  constant_suits None is = tt
  constant_suits (Some (constant.Int n)) is = (low_bits-lt (int_bits (kind_of_field p.outline field)) n, tt)
  constant_suits (Some (constant.Long n)) is = (low_bits-lt (int_bits (kind_of_field p.outline field)) n, tt)
  constant_suits (Some (constant.Text text)) is =
      let found = can.constants field text is in
      text_suits found.0 found.1 (text_number p.outline.texts (units text)) (number_inside p.outline.texts (units text))

-- the constants of static fields suit them
pub suit : (p : Program) (x : State) → CanRun p → IsGoing p x → ConstantsSuit p x
suit p x can going = λ field.
    constant_suits p can (length x.areas.literals) going.sound.1.areas.literals field (field_at p.outline.classes field).field.value refl

-- only built-in methods have rows
pub rows : (p : Program) → CanRun p → AreRowsBuiltIn p.outline
rows p can = can.steps.calls.rows

-- ---- at the opening

module _ (p : Program) (can : CanRun p) (field : ℕ) where
  text_fits : (t : TypeRef) → kind_of_field p.outline field ≡ kind.Ref t → (found : Option ℕ) → ((number : ℕ) → found ≡ Some number → number < length p.outline.texts)
      → AllByRecursion (StartFits p.outline) (with_text p.outline field found)
  text_fits t is None inside = tt
  text_fits t is (Some number) inside =
      let reference : 32 ≤ int_bits (kind.Ref t) = omega arith in
      ((inside number refl, (can.makes.makeable.texts number).0), (subst (λ k. 32 ≤ int_bits k) (sym is) reference, tt))

  constant_fits : (c : Option Constant) → (field_at p.outline.classes field).field.value ≡ c
      → AllByRecursion (StartFits p.outline) (set_constant p.outline field c)
  constant_fits None is = tt
  constant_fits (Some (constant.Int n)) is = (low_bits-lt (int_bits (kind_of_field p.outline field)) n, tt)
  constant_fits (Some (constant.Long n)) is = (low_bits-lt (int_bits (kind_of_field p.outline field)) n, tt)
  constant_fits (Some (constant.Text text)) is =
      let found = can.constants field text is in
      text_fits found.0 found.1 (text_number p.outline.texts (units text)) (number_inside p.outline.texts (units text))

class_fits : (p : Program) → CanRun p → (class : ℕ) → AllByRecursion (StartFits p.outline) (start_of_class p.outline class)
class_fits p can class = (
  tt,
  all_flat (StartFits p.outline) (λ field. set_constant p.outline field (field_at p.outline.classes field).field.value) (fields_at p.outline class)
      (λ field. constant_fits p can field (field_at p.outline.classes field).field.value refl),
)

-- what the start of main's class does fits
pub start_fits : (p : Program) → CanRun p → AllByRecursion (StartFits p.outline) (start_actions p.outline (opening_classes p.outline))
start_fits p can = all_flat (StartFits p.outline) (start_of_class p.outline) (opening_classes p.outline) (class_fits p can)
