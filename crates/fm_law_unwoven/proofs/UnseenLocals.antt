-- What actions do is the same over any locals, and so is what the start of a class does before an instruction.
use Rattle.std.proofs.Common.{◌≡◌, ℕ, Bool, true, false, cond, List, [], ◌∷◌, ◌++◌, length, Option, Some, None, refl, arith, ap, subst, ◌∙◌}
use Rattle.std.specs.List.{AllByRecursion}
use Rattle.fm_base.proofs.ListFacts.{AllByRecursion-append}
use Rattle.fm_base.specs.Texts.{units}
use Rattle.fm_cells.specs.Changes.{Choice, RefuseStore, Take}
use Rattle.fm_cells.specs.Objects.{Request}
use Rattle.fm_code.specs.SpellsCode.{targets_of}
use Rattle.fm_world.specs.Members.{field_at}
use Rattle.fm_world.specs.Numbers.{text_number}
use Rattle.fm_world.specs.Programs.{Outline}
use Rattle.fm_world.specs.declared.declarations.Constant.{Constant}
use Rattle.fm_world.specs.declared.declarations.Constant.TheVariants as constant
use Rattle.fm_frames.specs.Acts.{cell_of, chain_freed, chain_from, chained, class_started, copied, freed, is_there, literal_made, literal_text, literal_type, made_then, performed, Performed, put_value, requested, set_static, value_of}
use Rattle.fm_frames.specs.Effects.{Copy, Effect, Free, FreeChain, LocalPlus, Make, MakeFixed, MakeLiteral, OfLiteral, OfLocal, OfMade, OfOperand, OfPlace, OfStatic, Plain, Put, SameOperands, SetChain, SetStatic, Source, Start}
use Rattle.fm_frames.specs.Rows.{effect_of}
use Rattle.fm_frames.specs.Starts.{fields_at, set_constant, start_actions, start_methods, start_of_class, to_start, with_start}
use Rattle.fm_frames.specs.States.{Areas, word_at}
use Rattle.fm_frames.specs.Steps.{is_start}
use Rattle.fm_frames.specs.declared.values.Value.{Value}
use Rattle.fm_law_sound.proofs.Opening.{all_flat, with_text}
use Rattle.fm_law_sound.proofs.StartActs.{after_methods, for_class}
use Rattle.fm_law_unwoven.proofs.UsedLocals.{rows_within}
use Rattle.fm_same.proofs.Starting.{starts_are}
use Rattle.fm_law_unwoven.specs.UnseenCode.{ActsWithout, IsWithin, LocalsAreUnseen, OnlyNamedIsUsed, UsesNamed}

-- ---- values

-- what comes from no local is the same over any locals
pub same_value : (locals others stack : List Value) (areas : Areas) (made : List ℕ) (source : Source) → IsWithin 0 source
    → value_of (record { locals = locals; stack = stack; areas = areas; made = made }) source
    ≡ value_of (record { locals = others; stack = stack; areas = areas; made = made }) source
same_value locals others stack areas made (Plain v) without = refl
same_value locals others stack areas made (OfOperand n) without = refl
same_value locals others stack areas made (OfLocal k) without = absurd (omega arith)
same_value locals others stack areas made (LocalPlus k by) without = absurd (omega arith)
same_value locals others stack areas made (OfPlace n place kind) without = refl
same_value locals others stack areas made (OfStatic slot) without = refl
same_value locals others stack areas made (OfMade n) without = refl
same_value locals others stack areas made (OfLiteral text) without = refl
same_value locals others stack areas made SameOperands without = refl

-- ---- actions

then_same : (x : Areas) (request : Request) (content : List ℕ) (choice : Choice) (k l : Areas → ℕ → Performed) → ((y : Areas) (cell : ℕ) → k y cell ≡ l y cell)
    → made_then x request content choice k ≡ made_then x request content choice l
then_same x request content RefuseStore k l each = refl
then_same x request content (Take cell grows) k l each = each _ cell

freed_same : (x : Areas) (v : Value) (cells : Option (List ℕ)) (k l : Areas → Performed) → ((y : Areas) → k y ≡ l y) → chain_freed x v cells k ≡ chain_freed x v cells l
freed_same x v None k l each = refl
freed_same x v (Some cells) k l each = each _

if_same : (b : Bool) (one other one' other' : Performed) → one ≡ one' → other ≡ other' → cond b one other ≡ cond b one' other'
if_same true one other one' other' first second = first
if_same false one other one' other' first second = second

pub locals_unseen : LocalsAreUnseen
unfolding performed
locals_unseen o choose locals others stack [] x made all = refl
locals_unseen o choose locals others stack (Make t len content ∷ more) x made all =
    then_same x (requested o t len false) content (choose x.store (requested o t len false)) _ _
    (λ y cell. locals_unseen o choose locals others stack more y (made ++ cell ∷ []) all.1)
locals_unseen o choose locals others stack (MakeFixed t ∷ more) x made all =
    then_same x (requested o t 0 true) [] (choose x.store (requested o t 0 true)) _ _
    (λ y cell. locals_unseen o choose locals others stack more y (made ++ cell ∷ []) all.1)
locals_unseen o choose locals others stack (MakeLiteral text ∷ more) x made all =
    let request = requested o (literal_type o text) (length (literal_text o text)) true in
    if_same (is_there x text) _ _ _ _ (locals_unseen o choose locals others stack more x made all.1)
    (then_same x request (literal_text o text) (choose x.store request) _ _
    (λ y cell. locals_unseen o choose locals others stack more (literal_made y text cell) made all.1))
locals_unseen o choose locals others stack (Put object place kind v ∷ more) x made all =
    let into = same_value locals others stack x made object all.0.0 in
    let what = same_value locals others stack x made v all.0.1 in
    (λ i. performed o choose locals stack more (put_value x (into i) place kind (what i)) made)
    ∙ locals_unseen o choose locals others stack more _ made all.1
locals_unseen o choose locals others stack (SetStatic slot kind v ∷ more) x made all =
    ap (λ w. performed o choose locals stack more (set_static x slot kind w) made) (same_value locals others stack x made v all.0)
    ∙ locals_unseen o choose locals others stack more _ made all.1
locals_unseen o choose locals others stack (Start class ∷ more) x made all =
    locals_unseen o choose locals others stack more (class_started x class) made all.1
locals_unseen o choose locals others stack (Free operand ∷ more) x made all =
    locals_unseen o choose locals others stack more (freed x (cell_of (word_at stack operand))) made all.1
locals_unseen o choose locals others stack (SetChain operand to ∷ more) x made all =
    locals_unseen o choose locals others stack more (chained x (cell_of (word_at stack operand)) (cell_of (word_at stack to))) made all.1
locals_unseen o choose locals others stack (FreeChain operand ∷ more) x made all =
    let first = word_at stack operand in
    freed_same x first (chain_from x.store (cell_of first)) _ _ (λ y. locals_unseen o choose locals others stack more y made all.1)
locals_unseen o choose locals others stack (Copy t len operand ∷ more) x made all =
    then_same x (requested o t len false) (copied x.store (cell_of (word_at stack operand)) len) (choose x.store (requested o t len false)) _ _
    (λ y cell. locals_unseen o choose locals others stack more y (made ++ cell ∷ []) all.1)

-- ---- starts of classes

text_without : (o : Outline) (field : ℕ) (found : Option ℕ) → AllByRecursion ActsWithout (with_text o field found)
text_without o field None = tt
text_without o field (Some number) = (tt, (tt, tt))

constant_without : (o : Outline) (field : ℕ) (value : Option Constant) → AllByRecursion ActsWithout (set_constant o field value)
constant_without o field None = tt
constant_without o field (Some (constant.Int n)) = (tt, tt)
constant_without o field (Some (constant.Long n)) = (tt, tt)
constant_without o field (Some (constant.Text text)) = text_without o field (text_number o.texts (units text))

starts_without : (o : Outline) (classes : List ℕ) → AllByRecursion ActsWithout (start_actions o classes)
starts_without o classes =
    all_flat ActsWithout (start_of_class o) classes
    (λ class. (
      tt,
      all_flat ActsWithout (λ field. set_constant o field (field_at o.classes field).field.value) (fields_at o class)
          (λ field. constant_without o field (field_at o.classes field).field.value),
    ))

module _ (max targets : ℕ) (o : Outline) (started : List Bool) (e : Effect) (uses : UsesNamed o max targets e) where
  methods_within : (classes methods : List ℕ) → start_methods o classes ≡ methods → UsesNamed o max targets (after_methods o classes e methods)
  methods_within classes [] are = record {
    acts = AllByRecursion-append ActsWithout (start_actions o classes) e.actions (starts_without o classes) uses.acts;
    gives = uses.gives;
    writes = uses.writes;
    next = uses.next;
  }
  methods_within classes (m ∷ methods) are = record {
    acts = starts_without o classes;
    gives = tt;
    writes = tt;
    next = subst (AllByRecursion (λ n. is_start o n ≡ true)) are (starts_are o classes);
  }

  class_within : (class : Option ℕ) → UsesNamed o max targets (for_class o started e class)
  class_within None = uses
  class_within (Some class) = methods_within (to_start o started class) (start_methods o (to_start o started class)) refl

  pub start_within : UsesNamed o max targets (with_start o started e)
  start_within = class_within e.starts

pub only_named : OnlyNamedIsUsed
only_named max o started method u i byte s fits =
    let targets = length (targets_of i) in
    start_within max targets o started (effect_of o method u i byte s) (rows_within max targets o s method i u byte fits (omega arith))
