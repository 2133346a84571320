-- What the start of classes does, by what the code knows of fields.
use Rattle.std.proofs.Common.{◌≡◌, ℕ, ◌+◌, ◌-◌, ◌<◌, ◌≤◌, List, [], ◌∷◌, ◌++◌, length, map, take, get_or, Option, Some, None, refl, ap, sym, ◌∙◌, arith}
use Rattle.std.proofs.lemmas.Grind.{flat_map-append}
use Rattle.std.proofs.lemmas.List.{append-nil, append_assoc, get_or_past, map-append, map-id, map_more}
use Rattle.std.proofs.lemmas.List.FromFn.{map-range_with_len_more}
use Rattle.std.proofs.lemmas.List.Sums.{sum_by_more}
use Rattle.std.specs.List.{flat_map, range_with_len}
use Rattle.fm_base.specs.Texts.{units}
use Rattle.fm_base.specs.declared.ids.ClassId.{ClassId}
use Rattle.fm_world.specs.Chains.{class_at}
use Rattle.fm_world.specs.Declarations.{no_class}
use Rattle.fm_world.specs.Members.{field_at, first_field, slot_of}
use Rattle.fm_world.specs.Numbers.{text_number}
use Rattle.fm_world.specs.Programs.{field_info, first_value, Outline, with_number}
use Rattle.fm_world.specs.declared.declarations.Constant.{Constant}
use Rattle.fm_world.specs.declared.declarations.Constant.TheVariants as constant
use Rattle.fm_world.specs.declared.declarations.DeclaredClass.{DeclaredClass}
use Rattle.fm_world.specs.declared.records.FieldInfo.{FieldInfo}
use Rattle.fm_world.specs.declared.uses.Use.TheVariants as used
use Rattle.fm_frames.specs.Effects.{Action, Start}
use Rattle.fm_frames.specs.ObjectRows.{kind_of_field}
use Rattle.fm_frames.specs.Starts.{fields_at, set_constant, start_actions, start_of_class}
use Rattle.fm_frames.specs.declared.actions.StartAction.{StartAction}
use Rattle.fm_frames.specs.declared.actions.StartAction.TheVariants as starting
use Rattle.fm_frames.specs.inner.StartActions.{action_of, actions_by, constant_at}

-- ---- one field

abbrev with_text : Outline → ℕ → Option ℕ → List Action
with_text o field found = actions_by (slot_of o.classes field) (kind_of_field o field) (with_number used.OfText found)

by_text : (o : Outline) (field : ℕ) (text : List ℕ) → set_constant o field (Some (constant.Text text)) ≡ with_text o field (text_number o.texts (units text))
by_text o field text =
    elim (text_number o.texts (units text)) as (λ found. text_number o.texts (units text) ≡ found
    → set_constant o field (Some (constant.Text text)) ≡ with_text o field found) [
      | None ↦ λ is. (rw is refl)
      | Some n ↦ λ is. (rw is refl)
    ] refl

by_value : (o : Outline) (field : ℕ) (value : Option Constant)
    → actions_by (slot_of o.classes field) (kind_of_field o field) (first_value o value) ≡ set_constant o field value
by_value o field None = refl
by_value o field (Some (constant.Int n)) = refl
by_value o field (Some (constant.Long n)) = refl
by_value o field (Some (constant.Text text)) = sym (by_text o field text)

pub constant_told : (o : Outline) (field : ℕ) (info : FieldInfo) → info ≡ field_info o field
    → actions_by info.slot info.kind info.first ≡ constant_at o field
unfolding field_info
constant_told o field info is =
    ap (λ (i : FieldInfo). actions_by i.slot i.kind i.first) is ∙ by_value o field (field_at o.classes field).field.value

-- ---- the fields of a class

range_more : (a n : ℕ) → range_with_len a (n + 1) ≡ range_with_len a n ++ (a + n) ∷ []
range_more a n =
    sym (map-id (range_with_len a (n + 1))) ∙ map-range_with_len_more (λ (k : ℕ). k) a n (a + n) refl
    ∙ ap (λ xs. xs ++ (a + n) ∷ []) (map-id (range_with_len a n))

pub fields_more : (o : Outline) (first place : ℕ) (info : FieldInfo) (start before after : List Action) → info ≡ field_info o (first + place)
    → before ≡ start ++ flat_map (constant_at o) (range_with_len first place) → after ≡ before ++ actions_by info.slot info.kind info.first
    → after ≡ start ++ flat_map (constant_at o) (range_with_len first (place + 1))
fields_more o first place info start before after is so_far added =
    let done = flat_map (constant_at o) (range_with_len first place) in
    let one = constant_at o (first + place) in
    added ∙ (λ i. so_far i ++ constant_told o (first + place) info is i) ∙ append_assoc start done one
    ∙ ap (λ actions. start ++ actions)
    (sym (ap (flat_map (constant_at o)) (range_more first place) ∙ flat_map-append (constant_at o) (range_with_len first place) ((first + place) ∷ [])
    ∙ ap (λ actions. done ++ actions) (append-nil one)))

-- ---- a class

fields_of_class : (o : Outline) (class first end : ℕ) → class < length o.classes → first ≡ first_field o.classes class
    → end ≡ first_field o.classes (class + 1) → range_with_len first (end - first) ≡ fields_at o class
fields_of_class o class first end inside first_is end_is =
    let counted = sum_by_more (λ (c : DeclaredClass). length c.fields) o.classes class no_class inside in
    let many : end - first ≡ length (class_at o.classes class).fields = omega (arith, counted, first_is, end_is) in
    (λ i. range_with_len (first_is i) (many i))

pub class_done : (o : Outline) (class : ClassId) (first end : ℕ) (start before after : List Action) → class.0 < length o.classes
    → first ≡ first_field o.classes class.0 → end ≡ first_field o.classes (class.0 + 1) → before ≡ start ++ Start class.0 ∷ []
    → after ≡ before ++ flat_map (constant_at o) (range_with_len first (end - first)) → after ≡ start ++ start_of_class o class.0
class_done o class first end start before after inside first_is end_is begun done =
    done ∙ (λ i. begun i ++ flat_map (constant_at o) (fields_of_class o class.0 first end inside first_is end_is i))
    ∙ append_assoc start (Start class.0 ∷ []) (flat_map (constant_at o) (fields_at o class.0))

pub class_begun : (class : ClassId) (old new : List StartAction) → new ≡ old ++ starting.Start class ∷ []
    → map action_of new ≡ map action_of old ++ Start class.0 ∷ []
class_begun class old new pushed = ap (map action_of) pushed ∙ map-append action_of old (starting.Start class ∷ [])

-- a number that no class has
abbrev start_by : Outline → ℕ → DeclaredClass → List Action
start_by o class c = Start class ∷ flat_map (constant_at o) (range_with_len (first_field o.classes class) (length c.fields))

pub class_outside : (o : Outline) (class : ClassId) (old new : List StartAction) → length o.classes ≤ class.0 → new ≡ old ++ starting.Start class ∷ []
    → map action_of new ≡ map action_of old ++ start_of_class o class.0
class_outside o class old new outside pushed =
    class_begun class old new pushed
    ∙ ap (λ c. map action_of old ++ start_by o class.0 c) (sym (get_or_past o.classes class.0 no_class outside))

-- fields are in order
pub first_rises : (classes : List DeclaredClass) (class first end : ℕ) → class < length classes → first ≡ first_field classes class
    → end ≡ first_field classes (class + 1) → first ≤ end
first_rises classes class first end inside first_is end_is =
    let counted = sum_by_more (λ (c : DeclaredClass). length c.fields) classes class no_class inside in
    omega (arith, counted, first_is, end_is)

-- ---- classes

pub classes_more : (o : Outline) (classes : List ClassId) (i : ℕ) (c : ClassId) (before after : List Action) → i < length classes → c ≡ get_or classes i c
    → before ≡ start_actions o (map (λ (c : ClassId). c.0) (take i classes)) → after ≡ before ++ start_of_class o c.0
    → after ≡ start_actions o (map (λ (c : ClassId). c.0) (take (i + 1) classes))
classes_more o classes i c before after inside here so_far added =
    let number : ClassId → ℕ = λ (c : ClassId). c.0 in
    added ∙ ap (λ actions. actions ++ start_of_class o c.0) so_far
    ∙ sym (ap (start_actions o) (map_more number classes i c inside ∙ ap (λ (d : ClassId). map number (take i classes) ++ d.0 ∷ []) (sym here))
    ∙ flat_map-append (start_of_class o) (map number (take i classes)) (c.0 ∷ [])
    ∙ ap (λ actions. start_actions o (map number (take i classes)) ++ actions) (append-nil (start_of_class o c.0)))
