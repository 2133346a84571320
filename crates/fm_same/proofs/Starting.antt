-- What the start of a class makes of an effect owes no more than the effect; so the next effect of a sound state owes what it should.
use Rattle.std.proofs.Common.{◌≡◌, ℕ, Bool, true, List, [], ◌∷◌, Option, Some, None, codes, refl, sym, ◌∙◌, ap, subst, slice_get, eq-eqb}
use Rattle.std.specs.List.{AllByRecursion, cons_option}
use Rattle.fm_base.proofs.ListFacts.{AllByRecursion-append}
use Rattle.fm_base.specs.Texts.{units}
use Rattle.fm_base.specs.declared.kinds.Kind.{Kind}
use Rattle.fm_base.specs.declared.kinds.Kind.TheVariants as kind
use Rattle.fm_cells.specs.Stores.{Store}
use Rattle.fm_code.specs.declared.instructions.Insn.{Insn}
use Rattle.fm_conn.specs.Facts.{AreFacts, Facts}
use Rattle.fm_code.specs.AccessFlags.{is_static}
use Rattle.fm_world.specs.Members.{field_at, slot_of, start_of}
use Rattle.fm_world.specs.Numbers.{text_number}
use Rattle.fm_world.specs.Programs.{Outline, Program}
use Rattle.fm_world.specs.declared.declarations.Constant.{Constant}
use Rattle.fm_world.specs.declared.declarations.Constant.TheVariants as constant
use Rattle.fm_frames.proofs.Programs.{start_by}
use Rattle.fm_frames.specs.Effects.{Effect, OfLiteral, Plain}
use Rattle.fm_frames.specs.ObjectRows.{kind_of_field}
use Rattle.fm_frames.specs.Sights.{sights}
use Rattle.fm_frames.specs.Starts.{fields_at, set_constant, start_actions, start_methods, start_of_class, to_start}
use Rattle.fm_frames.specs.States.{Frame, State}
use Rattle.fm_frames.specs.Steps.{effect_at, effect_by, is_start, next_effect}
use Rattle.fm_frames.specs.declared.values.Value.{Value}
use Rattle.fm_frames.specs.declared.values.Value.TheVariants as value
use Rattle.fm_same.specs.Advances.{OwesAt, point_of}
use Rattle.fm_same.specs.Covering.{CoversAt, MeetsCalls}
use Rattle.fm_same.specs.Evenness.{ActsEvenly, HoldsNumbers, IsNumber, IsPlainKind, Obeys, Point, SetsEvenly}
use Rattle.fm_same.specs.Standing.{Goes, Stand}
use Rattle.fm_same.proofs.ItemFacts.{AtInsn, depth_is}
use Rattle.fm_same.proofs.Owing.{effect_obeys}
use Rattle.fm_same.proofs.PlacesSound.{insn_here as insn_is}
use Rattle.fm_law_sound.specs.Placing.{PlacesAgree}
use Rattle.fm_world.proofs.OwnedMethods.{own_method_found}
use Rattle.fm_law_sound.proofs.Opening.{all_flat, with_text}
use Rattle.fm_law_sound.proofs.NextPlaces.{methods_agree}
use Rattle.fm_law_sound.proofs.StartActs.{after_methods}

-- ---- the actions of starts

number_set : (o : Outline) (x : Point) (home : ℕ) (slot : ℕ) (k : Kind) (v : Value) → IsPlainKind k → SetsEvenly x home (Plain v) k
number_set o x home slot (kind.Ref t) v h = absurd h
number_set o x home slot k v h = tt

literal_set : (x : Point) (home text : ℕ) (k : Kind) → SetsEvenly x home (OfLiteral text) k
literal_set x home text (kind.Ref t) = (tt, tt)
literal_set x home text k = tt

text_even : (o : Outline) (x : Point) (home field : ℕ) (number : Option ℕ) → AllByRecursion (ActsEvenly o x home) (with_text o field number)
text_even o x home field None = tt
text_even o x home field (Some number) = (tt, (literal_set x home number (kind_of_field o field), tt))

constant_even : (o : Outline) (x : Point) (home field : ℕ) (value : Option Constant) → (IsNumber value → IsPlainKind (kind_of_field o field))
    → AllByRecursion (ActsEvenly o x home) (set_constant o field value)
constant_even o x home field None plain = tt
constant_even o x home field (Some (constant.Int n)) plain =
    (number_set o x home (slot_of o.classes field) (kind_of_field o field) (value.Int n) (plain tt), tt)
constant_even o x home field (Some (constant.Long n)) plain =
    (number_set o x home (slot_of o.classes field) (kind_of_field o field) (value.Long n) (plain tt), tt)
constant_even o x home field (Some (constant.Text text)) plain = text_even o x home field (text_number o.texts (units text))

starts_even : (o : Outline) (x : Point) (home : ℕ) → HoldsNumbers o → (classes : List ℕ) → AllByRecursion (ActsEvenly o x home) (start_actions o classes)
starts_even o x home numbers classes =
    all_flat (ActsEvenly o x home) (start_of_class o) classes
    (λ class. (
      tt,
      all_flat (ActsEvenly o x home) (λ field. set_constant o field (field_at o.classes field).field.value) (fields_at o class)
          (λ field. constant_even o x home field (field_at o.classes field).field.value (numbers.constants field)),
    ))

-- ---- the effect with what starts make of it

abbrev by_class : Outline → List Bool → Effect → Option ℕ → Effect
by_class o started e None = e
by_class o started e (Some class) = after_methods o (to_start o started class) e (start_methods o (to_start o started class))

abbrev Both : Outline → Point → Insn → Store → List Value → Effect → Type 0
Both o x i store stack e = Obeys o x i e × PlacesAgree o store stack e

-- the methods that start classes are such ones
start_itself : (o : Outline) (class m : ℕ) → start_of o.classes class ≡ Some m → is_start o m ≡ true
start_itself o class m is =
    let found = own_method_found o.classes is_static (codes "<clinit>") (codes "()V") class m is in
    ap (start_by m) (ap (start_of o.classes) found.owner ∙ is) ∙ eq-eqb m m refl

pub starts_are : (o : Outline) (classes : List ℕ) → AllByRecursion (λ m. is_start o m ≡ true) (start_methods o classes)
starts_are o [] = tt
starts_are o (class ∷ classes) = by_start (start_of o.classes class) refl (starts_are o classes) where
  by_start : (found : Option ℕ) → start_of o.classes class ≡ found → AllByRecursion (λ m. is_start o m ≡ true) (start_methods o classes)
      → AllByRecursion (λ m. is_start o m ≡ true) (cons_option found (start_methods o classes))
  by_start None is rest = rest
  by_start (Some m) is rest = (start_itself o class m is, rest)

methods_owe : (o : Outline) (x : Point) (i : Insn) (store : Store) (stack : List Value) → HoldsNumbers o → (classes : List ℕ) (e : Effect)
    → Both o x i store stack e → (methods : List ℕ) → AllByRecursion (λ m. is_start o m ≡ true) methods
    → Both o x i store stack (after_methods o classes e methods)
methods_owe o x i store stack numbers classes e owes [] starts = (
  record {
    home = owes.0.home;
    acts = AllByRecursion-append (ActsEvenly o x owes.0.home) (start_actions o classes) e.actions (starts_even o x owes.0.home numbers classes) owes.0.acts;
    leads = owes.0.leads;
    goes = λ next going edge.
        let on = owes.0.goes next going edge in
        record { stays = on.stays; gives = on.gives; writes = on.writes; lives = on.lives };
    ends = owes.0.ends;
  },
  methods_agree o store stack classes [] e owes.1,
)
methods_owe o x i store stack numbers classes e owes (m ∷ methods) starts = (
  record { home = 0; acts = starts_even o x 0 numbers classes; leads = tt; goes = λ next going edge. absurd going; ends = starts },
  methods_agree o store stack classes (m ∷ methods) e owes.1,
)

class_owes : (o : Outline) (x : Point) (i : Insn) (store : Store) (stack : List Value) → HoldsNumbers o → (started : List Bool) (e : Effect)
    → Both o x i store stack e → (class : Option ℕ) → Both o x i store stack (by_class o started e class)
class_owes o x i store stack numbers started e owes None = owes
class_owes o x i store stack numbers started e owes (Some class) =
    methods_owe o x i store stack numbers (to_start o started class) e owes (start_methods o (to_start o started class))
    (starts_are o (to_start o started class))

-- ---- at a state

module _ (p : Program) (facts : Facts) (exact : AreFacts p facts) (numbers : HoldsNumbers p.outline) where
  topmost_owes : (y : State) (f : Frame) (callers : List Frame) → Goes p facts f → CoversAt p facts (record y { frames = f ∷ callers }) (f ∷ callers)
      → OwesAt p facts y.areas.store (next_effect p (record y { frames = f ∷ callers })) (f ∷ callers)
  unfolding next_effect
  topmost_owes y f callers goes covers at =
      let x : State = record y { frames = f ∷ callers } in
      let h : AtInsn p facts f at.insn = record {
        code = at.code;
        code_is = at.code_is;
        insn_is = at.insn_is;
        state = at.state;
        state_is = at.state_is;
        depth = goes.depth ∙ depth_is p facts f at.code f.item at.state at.state_is;
      } in
      let asks : MeetsCalls p facts x f at.code at.insn = covers at in
      let is : effect_at p x ≡ effect_by p x f (Some at.insn) = ap (effect_by p x f) (insn_is p f at.code at.insn at.code_is at.insn_is) in
      let owes : Obeys p.outline (point_of p facts f at.code) at.insn (effect_at p x) =
      subst (λ e. Obeys p.outline (point_of p facts f at.code) at.insn e) (sym is)
      (effect_obeys p facts exact f at.insn h (slice_get y.input 0) (sights p.outline y.areas.store f.stack) asks.calls) in
      class_owes p.outline (point_of p facts f at.code) at.insn y.areas.store f.stack numbers y.areas.started (effect_at p x) (owes, asks.places)
      (effect_at p x).starts

  frames_owe : (y : State) (frames : List Frame) → Stand p facts frames → CoversAt p facts (record y { frames = frames }) frames
      → OwesAt p facts y.areas.store (next_effect p (record y { frames = frames })) frames
  unfolding next_effect
  frames_owe y [] stand covers = refl
  frames_owe y (f ∷ callers) stand covers = topmost_owes y f callers stand.0 covers

  -- the next effect owes to the classes what it should
  pub state_owes : (x : State) → Stand p facts x.frames → CoversAt p facts x x.frames → OwesAt p facts x.areas.store (next_effect p x) x.frames
  state_owes x stand covers = frames_owe x x.frames stand covers
