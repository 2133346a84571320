-- At a sound state places are read and put by their kinds, also where classes are started first.
use Rattle.std.proofs.Common.{◌≡◌, ℕ, Bool, List, [], ◌∷◌, Option, Some, None, option_and_then, refl, sym, ◌∙◌, ap, slice_get}
use Rattle.std.specs.List.{AllByRecursion}
use Rattle.fm_base.proofs.ListFacts.{AllByRecursion-append}
use Rattle.fm_base.specs.Texts.{units}
use Rattle.fm_cells.specs.Stores.{Store}
use Rattle.fm_code.specs.Edges.{insn_of}
use Rattle.fm_code.specs.declared.code_array.Code.{Code}
use Rattle.fm_code.specs.declared.instructions.Insn.{Insn}
use Rattle.fm_types.specs.Typed.{use_by}
use Rattle.fm_world.specs.Members.{field_at, slot_of}
use Rattle.fm_world.specs.Numbers.{text_number}
use Rattle.fm_world.specs.Programs.{Outline, Program}
use Rattle.fm_world.specs.declared.declarations.Constant.{Constant}
use Rattle.fm_world.specs.declared.declarations.Constant.TheVariants as constant
use Rattle.fm_frames.specs.Effects.{Effect, OfLiteral, Plain}
use Rattle.fm_frames.specs.ObjectRows.{kind_of_field}
use Rattle.fm_frames.specs.Starts.{fields_at, set_constant, start_actions, start_methods, start_of_class, to_start, with_start}
use Rattle.fm_frames.specs.States.{Frame, State}
use Rattle.fm_frames.specs.Steps.{effect_by, next_insn, next_effect}
use Rattle.fm_frames.specs.declared.values.Value.{Value}
use Rattle.fm_frames.specs.declared.values.Value.TheVariants as value
use Rattle.fm_law_sound.specs.Making.{HaveTextFirst}
use Rattle.fm_law_sound.specs.Placing.{PlacesAgree, PutAgrees}
use Rattle.fm_law_sound.specs.Resolved.{StepsAreResolved}
use Rattle.fm_law_sound.specs.Sound.{StandsWithout, Typings}
use Rattle.fm_law_sound.proofs.KindsAgree.{set_agrees, stucks}
use Rattle.fm_law_sound.proofs.Opening.{all_flat, with_text}
use Rattle.fm_law_sound.proofs.PlaceRows.{row_agrees}
use Rattle.fm_law_sound.proofs.StartActs.{after_methods, for_class}

module _ (o : Outline) (store : Store) (stack : List Value) where
  -- what starts classes puts nothing into objects, and into static fields what it names outright, and literals
  text_agrees : (field : ℕ) (number : Option ℕ) → AllByRecursion (PutAgrees o store stack) (with_text o field number)
  text_agrees field None = tt
  text_agrees field (Some number) = (tt, (set_agrees o store stack (slot_of o.classes field) (kind_of_field o field) (OfLiteral number) tt, tt))

  constant_agrees : (field : ℕ) (given : Option Constant) → AllByRecursion (PutAgrees o store stack) (set_constant o field given)
  constant_agrees field None = tt
  constant_agrees field (Some (constant.Int n)) =
      (set_agrees o store stack (slot_of o.classes field) (kind_of_field o field) (Plain (value.Int n)) tt, tt)
  constant_agrees field (Some (constant.Long n)) =
      (set_agrees o store stack (slot_of o.classes field) (kind_of_field o field) (Plain (value.Long n)) tt, tt)
  constant_agrees field (Some (constant.Text text)) = text_agrees field (text_number o.texts (units text))

  pub starts_agree : (classes : List ℕ) → AllByRecursion (PutAgrees o store stack) (start_actions o classes)
  starts_agree classes =
      all_flat (PutAgrees o store stack) (start_of_class o) classes
      (λ class. (
        tt,
        all_flat (PutAgrees o store stack) (λ field. set_constant o field (field_at o.classes field).field.value) (fields_at o class)
            (λ field. constant_agrees field (field_at o.classes field).field.value),
      ))

  -- an effect before which classes are started
  pub methods_agree : (classes methods : List ℕ) (e : Effect) → PlacesAgree o store stack e → PlacesAgree o store stack (after_methods o classes e methods)
  methods_agree classes [] e h = record {
    puts = AllByRecursion-append (PutAgrees o store stack) (start_actions o classes) e.actions (starts_agree classes) h.puts;
    reads = h.reads;
  }
  methods_agree classes (m ∷ methods) e h = record { puts = starts_agree classes; reads = tt }

  class_agrees : (started : List Bool) (e : Effect) (class : Option ℕ) → PlacesAgree o store stack e → PlacesAgree o store stack (for_class o started e class)
  class_agrees started e None h = h
  class_agrees started e (Some class) h =
      methods_agree (to_start o started class) (start_methods o (to_start o started class)) e h

  started_agrees : (started : List Bool) (e : Effect) → PlacesAgree o store stack e → PlacesAgree o store stack (with_start o started e)
  started_agrees started e h = class_agrees started e e.starts h

module _ (p : Program) (typings : Typings) (ready : StepsAreResolved p) (first : HaveTextFirst p.outline) (z : State) (f : Frame) (callers : List Frame) (stands : StandsWithout p typings 0 f) where
  -- the state, with its frames
  abbrev x : State
  x = record z { frames = f ∷ callers }

  frame_agrees : (found : Option Insn) → next_insn p f ≡ found → PlacesAgree p.outline z.areas.store f.stack (effect_by p x f found)
  frame_agrees None is = stucks p.outline z.areas.store f.stack
  frame_agrees (Some i) is =
      row_agrees p.outline z.areas.store f.stack first.throwables f.method (use_by p f.method i) i (slice_get z.input 0)
      (λ wanted field t named of used there fits. ready.places f.method i field t named of
      (record {
        code = stands.code;
        code_is = stands.code_is;
        item = f.item;
        insn_is = sym (ap (λ found. option_and_then (λ (c : Code). insn_of c f.item) found) stands.code_is) ∙ is;
        use_is = used;
      }) wanted there fits)

  pub next_agrees : PlacesAgree p.outline z.areas.store f.stack (next_effect p x)
  unfolding next_effect
  next_agrees = started_agrees p.outline z.areas.store f.stack z.areas.started (effect_by p x f (next_insn p f)) (frame_agrees (next_insn p f) refl)
