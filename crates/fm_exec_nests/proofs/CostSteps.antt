-- What the next step costs, by the instruction at which the topmost frame is.
use Rattle.std.proofs.Common.{◌≡◌, ℕ, ℤ, zero, suc, ◌+◌, ◌*◌, ◌≤◌, Bool, true, false, if◌then◌else◌, List, [], ◌∷◌, ◌++◌, length, max, Option, Some, None, option_map, option_and_then, slice_get, refl, ap, sym, ◌∙◌, subst, append_assoc, arith, ◌<◌}
use Rattle.std.specs.Prelude.{int_lt, pos}
use Rattle.std.specs.List.{AllByRecursion, flat_map, list_any, range_with_len}
use Rattle.std.specs.Prelude.{reverse}
use Rattle.std.proofs.lemmas.List.Quantifiers.{position-Some}
use Rattle.std.proofs.lemmas.List.Sums.{sum_by-cons}
use Rattle.std.proofs.lemmas.List.{append-nil}
use Rattle.std.proofs.lemmas.Option.{none-some, same_Some}
use Rattle.std.specs.Str.{bytes_eq}
use Rattle.fm_base.specs.Texts.{units}
use Rattle.fm_base.specs.declared.kinds.TypeRef.{TypeRef}
use Rattle.fm_code.specs.Edges.{insn_of}
use Rattle.fm_code.specs.declared.code_array.Code.{Code}
use Rattle.fm_code.specs.declared.code_array.Item.{Item}
use Rattle.fm_code.specs.declared.instructions.Insn.{Insn}
use Rattle.fm_code.specs.declared.instructions.Insn.TheVariants as insn
use Rattle.fm_exec.specs.Steps.{seen}
use Rattle.fm_frames.specs.ArrayRows.{array_actions, arrays_made, arrays_of, element_type, ints_at, multi_array_effect, thrown_negative}
use Rattle.fm_frames.specs.Effects.{Action, Effect, MakeLiteral, OfLiteral, Plain, SetStatic, Start, stuck}
use Rattle.fm_frames.specs.ObjectRows.{kind_of_field}
use Rattle.fm_frames.specs.Rows.{effect_of}
use Rattle.fm_frames.specs.Runnable.{IsRunnable, IsUseIn}
use Rattle.fm_frames.specs.Sights.{Sight, sights}
use Rattle.fm_frames.specs.Starts.{fields_at, set_constant, start_actions, start_methods, start_of_class, to_start, with_start}
use Rattle.fm_frames.specs.States.{Frame, State}
use Rattle.fm_frames.specs.Steps.{cost, effect_by, next_insn, next_effect, objects_made}
use Rattle.fm_frames.specs.declared.values.Value.{Value}
use Rattle.fm_frames.specs.declared.values.Value.TheVariants as value
use Rattle.fm_frames.specs.inner.Frames.{place_of, stack_in, topmost}
use Rattle.fm_exec_nests.proofs.NestActions.{parts-joined, places_from, put_at}
use Rattle.fm_exec_nests.proofs.RowMakes.{insn-cheap, IsCheap, IsMade}
use Rattle.fm_exec_nests.specs.inner.Costs.{nest_of}
use Rattle.fm_exec_nests.specs.inner.Nests.{nest_effect}
use Rattle.fm_law_sound.proofs.CallCases.{used_at}
use Rattle.fm_law_sound.proofs.Cases.{by_on_type}
use Rattle.fm_law_sound.proofs.InsnActs.{magnitudes}
use Rattle.fm_law_sound.proofs.StartActs.{after_methods, for_class}
use Rattle.fm_types.specs.Named.{class_of_method}
use Rattle.fm_types.specs.Typed.{use_by, use_in}
use Rattle.fm_world.specs.Members.{field_at, slot_of}
use Rattle.fm_world.specs.Numbers.{text_number}
use Rattle.fm_world.specs.Programs.{code_at, Outline, Program}
use Rattle.fm_world.specs.declared.declarations.Constant.{Constant}
use Rattle.fm_world.specs.declared.declarations.Constant.TheVariants as constant
use Rattle.fm_code.specs.Operands.{pool_index}
use Rattle.fm_world.specs.declared.uses.Use.{Use}

-- ---- the start of classes makes only literals

-- the actions make as many objects as those that follow them, and what they make is there
pub record IsQuiet (o : Outline) (first rest : List Action) : Type 0 where
  pub same : objects_made (first ++ rest) ≡ objects_made rest
  pub made : AllByRecursion (IsMade o) (first ++ rest)

module _ (o : Outline) where
  -- actions without objects, before others
  abbrev Quiet : List Action → List Action → Type 0
  Quiet first rest = IsQuiet o first rest

  one-quiet : (action : Action) (rest : List Action) → objects_made (action ∷ rest) ≡ 0 + objects_made rest → IsMade o action → AllByRecursion (IsMade o) rest
      → Quiet (action ∷ []) rest
  one-quiet action rest none there made = record { same = omega (arith, none); made = (there, made) }

  then-quiet : (first second rest : List Action) → Quiet first (second ++ rest) → Quiet second rest → Quiet (first ++ second) rest
  then-quiet first second rest one other =
      let joined : (first ++ second) ++ rest ≡ first ++ (second ++ rest) = append_assoc first second rest in
      record {
        same = ap objects_made joined ∙ one.same ∙ other.same;
        made = subst (AllByRecursion (IsMade o)) (sym joined) one.made;
      }

  -- a text is set by its literal, where it has a number
  abbrev of_number : ℕ → Option ℕ → List Action
  of_number field None = []
  of_number field (Some number) = MakeLiteral number ∷ SetStatic (slot_of o.classes field) (kind_of_field o field) (OfLiteral number) ∷ []

  text-quiet : (field : ℕ) (text : List ℕ) (found : Option ℕ) (rest : List Action) → text_number o.texts text ≡ found → AllByRecursion (IsMade o) rest
      → Quiet (of_number field found) rest
  text-quiet field text None rest is made = record { same = refl; made = made }
  text-quiet field text (Some number) rest is made =
      let set : Action = SetStatic (slot_of o.classes field) (kind_of_field o field) (OfLiteral number) in
      let literal : objects_made (MakeLiteral number ∷ set ∷ rest) ≡ 0 + objects_made (set ∷ rest) = sum_by-cons _ (MakeLiteral number) (set ∷ rest) in
      let static : objects_made (set ∷ rest) ≡ 0 + objects_made rest = sum_by-cons _ set rest in
      let inside : number < length o.texts = (position-Some (bytes_eq text) o.texts number [] is).0 in
      record { same = omega (arith, literal, static); made = (omega (arith, inside), (tt, made)) }

  number-quiet : (field : ℕ) (v : Value) (rest : List Action) → AllByRecursion (IsMade o) rest
      → Quiet (SetStatic (slot_of o.classes field) (kind_of_field o field) (Plain v) ∷ []) rest
  number-quiet field v rest made =
      let set : Action = SetStatic (slot_of o.classes field) (kind_of_field o field) (Plain v) in one-quiet set rest (sum_by-cons _ set rest) tt made

  constant-quiet : (field : ℕ) (value : Option Constant) (rest : List Action) → AllByRecursion (IsMade o) rest → Quiet (set_constant o field value) rest
  constant-quiet field None rest made = record { same = refl; made = made }
  constant-quiet field (Some (constant.Int n)) rest made = number-quiet field (value.Int n) rest made
  constant-quiet field (Some (constant.Long n)) rest made = number-quiet field (value.Long n) rest made
  constant-quiet field (Some (constant.Text text)) rest made = text-quiet field (units text) (text_number o.texts (units text)) rest refl made

  abbrev set_field : ℕ → List Action
  set_field field = set_constant o field (field_at o.classes field).field.value

  constants-quiet : (fields : List ℕ) (rest : List Action) → AllByRecursion (IsMade o) rest → Quiet (flat_map set_field fields) rest
  constants-quiet [] rest made = record { same = refl; made = made }
  constants-quiet (field ∷ fields) rest made =
      let others = constants-quiet fields rest made in
      then-quiet (set_field field) (flat_map set_field fields) rest
      (constant-quiet field (field_at o.classes field).field.value (flat_map set_field fields ++ rest) others.made) others

  class-quiet : (class : ℕ) (rest : List Action) → AllByRecursion (IsMade o) rest → Quiet (start_of_class o class) rest
  class-quiet class rest made =
      let constants = constants-quiet (fields_at o class) rest made in
      let first : objects_made (Start class ∷ (flat_map set_field (fields_at o class) ++ rest)) ≡ 0 + objects_made (flat_map set_field (fields_at o class) ++ rest) =
      sum_by-cons _ (Start class) (flat_map set_field (fields_at o class) ++ rest) in
      let same = constants.same in
      record { same = omega (arith, first, same); made = (tt, constants.made) }

  pub starts-quiet : (classes : List ℕ) (rest : List Action) → AllByRecursion (IsMade o) rest → Quiet (start_actions o classes) rest
  starts-quiet [] rest made = record { same = refl; made = made }
  starts-quiet (class ∷ classes) rest made =
      let others = starts-quiet classes rest made in
      then-quiet (start_of_class o class) (start_actions o classes) rest (class-quiet class (start_actions o classes ++ rest) others.made) others

  -- ---- before an effect

  alone : (classes : List ℕ) → objects_made (start_actions o classes) ≡ 0
  alone classes =
      let joined : start_actions o classes ≡ start_actions o classes ++ [] = sym (append-nil (start_actions o classes)) in
      ap objects_made joined ∙ (starts-quiet classes [] tt).same

  by-methods : (classes methods : List ℕ) (e : Effect) → start_methods o classes ≡ methods → IsCheap o e → IsCheap o (after_methods o classes e methods)
  by-methods classes [] e is h =
      let quiet = starts-quiet classes e.actions h.made in
      let same = quiet.same in
      let few = h.few in
      record { few = omega (arith, same, few); made = quiet.made }
  by-methods classes (m ∷ methods) e is h =
      let none = alone classes in
      record {
        few = omega (arith, none);
        made = subst (AllByRecursion (IsMade o)) (append-nil (start_actions o classes)) (starts-quiet classes [] tt).made;
      }

  by-class : (started : List Bool) (e : Effect) (class : Option ℕ) → IsCheap o e → IsCheap o (for_class o started e class)
  by-class started e None h = h
  by-class started e (Some class) h =
      let classes = to_start o started class in by-methods classes (start_methods o classes) e refl h

  pub start-cheap : (started : List Bool) (e : Effect) → IsCheap o e → IsCheap o (with_start o started e)
  start-cheap started e h = by-class started e e.starts h

-- ---- the instruction that makes arrays of arrays starts no class

-- the effect starts no class
record StartsNone (e : Effect) : Type 0 where
  none : e.starts ≡ None

counts-start-none : (o : Outline) (t : TypeRef) (dimensions : ℕ) (counts : Option (List ℤ)) → StartsNone (arrays_of o t dimensions counts)
counts-start-none o t dimensions None = record { none = refl }
counts-start-none o t dimensions (Some counts) = by_sign (list_any (λ n. int_lt n (pos 0)) counts) where
  by_sign : (negative : Bool) → StartsNone (if negative then thrown_negative o else nest_effect dimensions t (magnitudes counts))
  by_sign true = record { none = refl }
  by_sign false = record { none = refl }

nest-starts-none : (o : Outline) (u : Use) (dimensions : ℕ) (s : List Sight) → StartsNone (multi_array_effect o u dimensions s)
unfolding multi_array_effect
nest-starts-none o u dimensions s =
    by_on_type StartsNone o u _ (record { none = refl }) (λ n t is at. counts-start-none o t dimensions (ints_at s (reverse (range_with_len 0 dimensions))))

pub nest-alone : (o : Outline) (started : List Bool) (u : Use) (dimensions : ℕ) (s : List Sight)
    → with_start o started (multi_array_effect o u dimensions s) ≡ multi_array_effect o u dimensions s
nest-alone o started u dimensions s = ap (for_class o started (multi_array_effect o u dimensions s)) (nest-starts-none o u dimensions s).none

-- ---- by the topmost frame

-- the effect by the frames, and by the instruction of the topmost one
abbrev pub frames_effect : Program → State → List Frame → Effect
frames_effect p x [] = stuck
frames_effect p x (f ∷ callers) = effect_by p x f (next_insn p f)

abbrev price : Program → State → Effect → ℕ
price p x e = max 1 (objects_made (with_start p.outline x.areas.started e).actions)

pub cost-none : (p : Program) (x : State) → x.frames ≡ [] → cost p x ≡ 1
unfolding cost next_effect
cost-none p x none = ap (λ frames. price p x (frames_effect p x frames)) none

pub cost-at : (p : Program) (x : State) (f : Frame) (callers : List Frame) (found : Option Insn) → x.frames ≡ f ∷ callers → next_insn p f ≡ found
    → cost p x ≡ price p x (effect_by p x f found)
unfolding cost next_effect
cost-at p x f callers found is at = ap (λ frames. price p x (frames_effect p x frames)) is ∙ ap (λ i. price p x (effect_by p x f i)) at

index-inside : (p : Program) (method : ℕ) (operand : Option ℕ) → IsRunnable p → IsUseIn p.outline (used_at p method operand)
index-inside p method None runnable = tt
index-inside p method (Some index) runnable = runnable.uses (class_of_method p.outline method) index

pub cost-cheap : (p : Program) (x : State) (f : Frame) (callers : List Frame) (i : Insn) → IsRunnable p → x.frames ≡ f ∷ callers → next_insn p f ≡ Some i → nest_of i ≡ None
    → cost p x ≡ 1
cost-cheap p x f callers i runnable is at other =
    let own : IsCheap p.outline (effect_by p x f (Some i)) =
    insn-cheap p.outline (sights p.outline x.areas.store f.stack) f.method i (use_by p f.method i) (slice_get x.input 0)
    (index-inside p f.method (pool_index i) runnable) other in
    let cheap = start-cheap p.outline x.areas.started (effect_by p x f (Some i)) own in
    let few = cheap.few in
    let told = cost-at p x f callers (Some i) is at in
    omega (arith, told, few)

pub cost-nest : (p : Program) (x : State) (f : Frame) (callers : List Frame) (index dimensions : ℕ) → x.frames ≡ f ∷ callers
    → next_insn p f ≡ Some (insn.MultiArray index dimensions)
    → cost p x ≡ max 1 (objects_made (multi_array_effect p.outline (use_in p f.method index) dimensions (seen p x)).actions)
unfolding effect_of
cost-nest p x f callers index dimensions is at =
    let s : List Sight = sights p.outline x.areas.store f.stack in
    let stack : sights p.outline x.areas.store f.stack ≡ seen p x = ap (λ frames. sights p.outline x.areas.store (stack_in frames)) (sym is) in
    cost-at p x f callers (Some (insn.MultiArray index dimensions)) is at
    ∙ ap (λ (e : Effect). max 1 (objects_made e.actions)) (nest-alone p.outline x.areas.started (use_in p f.method index) dimensions s)
    ∙ ap (λ s. max 1 (objects_made (multi_array_effect p.outline (use_in p f.method index) dimensions s).actions)) stack

-- ---- by the cursor of the topmost frame

pub no-frames : (frames : List Frame) → None ≡ option_map place_of (topmost frames) → frames ≡ []
no-frames [] is = refl
no-frames (f ∷ callers) is = absurd (none-some _ is)

-- a frame at this item of a method is on top
pub record IsOnTop (frames : List Frame) (method item : ℕ) : Type 0 where
  pub frame : Frame
  pub callers : List Frame
  pub frames_are : frames ≡ frame ∷ callers
  pub method_is : frame.method ≡ method
  pub item_is : frame.item ≡ item

pub on-top : (frames : List Frame) (method item : ℕ) → Some (method, item) ≡ option_map place_of (topmost frames) → IsOnTop frames method item
on-top [] method item is = absurd (none-some _ (sym is))
on-top (f ∷ callers) method item is = record {
  frame = f;
  callers = callers;
  frames_are = refl;
  method_is = ap (λ (q : ℕ × ℕ). q.0) (sym (same_Some _ _ is));
  item_is = ap (λ (q : ℕ × ℕ). q.1) (sym (same_Some _ _ is));
}

abbrev insn_by : Option Code → ℕ → Option Insn
insn_by code item = option_and_then (λ code. insn_of code item) code

pub found-insn : (p : Program) (frames : List Frame) (method item : ℕ) (top : IsOnTop frames method item) (code : Option Code) → code ≡ code_at p method
    → next_insn p top.frame ≡ insn_by code item
found-insn p frames method item top code is =
    (λ i. insn_by (code_at p (top.method_is i)) (top.item_is i)) ∙ ap (λ code. insn_by code item) (sym is)

pub insn-found : (p : Program) (frames : List Frame) (method item : ℕ) (top : IsOnTop frames method item) (code : Code) (found : Item) → Some code ≡ code_at p method
    → slice_get code.items item ≡ Some found → next_insn p top.frame ≡ Some found.insn
insn-found p frames method item top code found is at =
    found-insn p frames method item top (Some code) is ∙ ap (option_map (λ (item : Item). item.insn)) at

pub insn-missing : (p : Program) (frames : List Frame) (method item : ℕ) (top : IsOnTop frames method item) (code : Code) → Some code ≡ code_at p method
    → slice_get code.items item ≡ None → next_insn p top.frame ≡ None
insn-missing p frames method item top code is at =
    found-insn p frames method item top (Some code) is ∙ ap (option_map (λ (item : Item). item.insn)) at

-- past the last item there is none
pub past-items : (items : List Item) (i : ℕ) → length items ≤ i → slice_get items i ≡ None
past-items [] i past = refl
past-items (item ∷ items) zero past = absurd (omega (arith, past))
past-items (item ∷ items) (suc i) past = past-items items i (omega (arith, past))

-- the instruction that makes arrays of arrays
pub nest-insn : (i : Insn) (index dimensions : ℕ) → nest_of i ≡ Some (index, dimensions) → i ≡ insn.MultiArray index dimensions
nest-insn (insn.MultiArray index dimensions) other more is =
    (λ j. insn.MultiArray (same_Some _ _ is j).0 (same_Some _ _ is j).1)
nest-insn i index dimensions is = absurd (none-some _ is)

-- ---- what the next instruction makes

places-all : (o : Outline) (t : TypeRef) (inner : List ℕ) (first : ℕ)
    → ((at : ℕ) (rest : List Action) → AllByRecursion (IsMade o) rest → AllByRecursion (IsMade o) (array_actions (element_type t) inner at ++ rest))
    → (start count : ℕ) (rest : List Action) → AllByRecursion (IsMade o) rest → AllByRecursion (IsMade o) (places_from t inner first start count ++ rest)
places-all o t inner first each start zero rest made = made
places-all o t inner first each start (suc count) rest made =
    let at : ℕ = first + 1 + start * arrays_made inner in
    let actions : List Action = array_actions (element_type t) inner at in
    let more : List Action = places_from t inner first (start + 1) count in
    subst (AllByRecursion (IsMade o)) (sym (parts-joined actions (put_at t inner first start) more rest))
    (each at (put_at t inner first start ∷ more ++ rest) (tt, places-all o t inner first each (start + 1) count rest made))

nest-all : (o : Outline) (t : TypeRef) (lens : List ℕ) (first : ℕ) (rest : List Action) → AllByRecursion (IsMade o) rest
    → AllByRecursion (IsMade o) (array_actions t lens first ++ rest)
unfolding array_actions
nest-all o t [] first rest made = made
nest-all o t (len ∷ []) first rest made = (tt, made)
nest-all o t (len ∷ next ∷ lens) first rest made =
    (tt, places-all o t (next ∷ lens) first (λ at more all. nest-all o (element_type t) (next ∷ lens) at more all) 0 len rest made)

counts-made : (o : Outline) (t : TypeRef) (dimensions : ℕ) (counts : Option (List ℤ)) → AllByRecursion (IsMade o) (arrays_of o t dimensions counts).actions
counts-made o t dimensions None = tt
counts-made o t dimensions (Some counts) = by_sign (list_any (λ n. int_lt n (pos 0)) counts) where
  by_sign : (negative : Bool) → AllByRecursion (IsMade o) (if negative then thrown_negative o else nest_effect dimensions t (magnitudes counts)).actions
  by_sign true = (tt, tt)
  by_sign false =
      subst (AllByRecursion (IsMade o)) (append-nil (array_actions t (magnitudes counts) 0)) (nest-all o t (magnitudes counts) 0 [] tt)

-- what the effect makes is there
record Making (o : Outline) (e : Effect) : Type 0 where
  all : AllByRecursion (IsMade o) e.actions

nest-making : (o : Outline) (u : Use) (dimensions : ℕ) (s : List Sight) → Making o (multi_array_effect o u dimensions s)
unfolding multi_array_effect
nest-making o u dimensions s =
    by_on_type (Making o) o u _ (record { all = tt })
    (λ n t is at. record { all = counts-made o t dimensions (ints_at s (reverse (range_with_len 0 dimensions))) })

nest-insn-made : (p : Program) (x : State) (f : Frame) (index dimensions : ℕ)
    → AllByRecursion (IsMade p.outline) (with_start p.outline x.areas.started (effect_by p x f (Some (insn.MultiArray index dimensions)))).actions
unfolding effect_of
nest-insn-made p x f index dimensions =
    let s : List Sight = sights p.outline x.areas.store f.stack in
    let making = nest-making p.outline (use_in p f.method index) dimensions s in
    subst (λ (e : Effect). AllByRecursion (IsMade p.outline) e.actions) (sym (nest-alone p.outline x.areas.started (use_in p f.method index) dimensions s)) making.all

by-nest : (p : Program) (x : State) (f : Frame) (i : Insn) (found : Option (ℕ × ℕ)) → IsRunnable p → nest_of i ≡ found
    → AllByRecursion (IsMade p.outline) (with_start p.outline x.areas.started (effect_by p x f (Some i))).actions
by-nest p x f i None runnable is =
    let own : IsCheap p.outline (effect_by p x f (Some i)) =
    insn-cheap p.outline (sights p.outline x.areas.store f.stack) f.method i (use_by p f.method i) (slice_get x.input 0)
    (index-inside p f.method (pool_index i) runnable) is in
    let cheap = start-cheap p.outline x.areas.started (effect_by p x f (Some i)) own in cheap.made
by-nest p x f (insn.MultiArray index dimensions) (Some nest) runnable is = nest-insn-made p x f index dimensions
by-nest p x f other (Some nest) runnable is = absurd (none-some nest is)

pub next-made : (p : Program) (x : State) → IsRunnable p → AllByRecursion (IsMade p.outline) (next_effect p x).actions
unfolding next_effect
next-made p x runnable = by_frames x.frames where
  by_insn : (f : Frame) (found : Option Insn) → AllByRecursion (IsMade p.outline) (with_start p.outline x.areas.started (effect_by p x f found)).actions
  by_insn f None = tt
  by_insn f (Some i) = by-nest p x f i (nest_of i) runnable refl

  by_frames : (frames : List Frame) → AllByRecursion (IsMade p.outline) (with_start p.outline x.areas.started (frames_effect p x frames)).actions
  by_frames [] = tt
  by_frames (f ∷ callers) = by_insn f (next_insn p f)
