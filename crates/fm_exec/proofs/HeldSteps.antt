-- Rows whose operand has to be an object: what the effect is where it is one, and where it isn't.
use Rattle.std.proofs.Common.{◌≡◌, ℕ, zero, suc, Bool, ◌==◌, if◌then◌else◌, List, Option, Some, None, slice_get, option_map, length, refl, ap, sym, ◌∙◌, subst, arith}
use Rattle.std.proofs.lemmas.Bool.{ne_eqb}
use Rattle.std.proofs.lemmas.Option.{get_or_from_slice_get, none-some, same_Some, slice_get-map}
use Rattle.fm_cells.specs.Answers.{head_at, head_of}
use Rattle.fm_cells.specs.Objects.{Object}
use Rattle.fm_cells.specs.Stores.{object_at, Store}
use Rattle.fm_cells.specs.declared.answers.Cell.{Cell}
use Rattle.fm_cells.specs.declared.answers.Head.{Head}
use Rattle.fm_frames.specs.Effects.{Effect, faulty, stuck}
use Rattle.fm_frames.specs.Operands.{on_held, on_held_of}
use Rattle.fm_frames.specs.Sights.{looks, Looks, sight, sight_of_cell, sight_of_object, sights, type_numbered}
use Rattle.fm_frames.specs.States.{word_at}
use Rattle.fm_frames.specs.declared.looks.Look.{Look}
use Rattle.fm_frames.specs.declared.looks.Look.TheVariants as look
use Rattle.fm_frames.specs.declared.values.Value.{Value}
use Rattle.fm_frames.specs.declared.values.Value.TheVariants as value
use Rattle.fm_frames.specs.inner.Looks.{look_at, look_head, object_in}
use Rattle.fm_world.specs.Programs.{Outline}

-- ---- what an object looks like

pub looks-type : (o : Outline) (store : Store) (object : Object) → (looks o store object).type ≡ type_numbered o object.class
unfolding looks
looks-type o store object = refl

pub looks-len : (o : Outline) (store : Store) (object : Object) → (looks o store object).len ≡ length object.elements
unfolding looks
looks-len o store object = refl

-- ---- what is no object

-- what follows of such an operand where null gives this effect
abbrev pub refused_as : Effect → ℕ → Look → Effect
refused_as of_null operand look.Other = stuck
refused_as of_null operand look.Null = of_null
refused_as of_null operand (look.Gone cell) = faulty operand
refused_as of_null operand (look.Object cell head) = stuck

cell-refused : (o : Outline) (store : Store) (of_null : Effect) (operand : ℕ) (follows : Looks → Effect) (cell : ℕ)
    → object_in (if cell == 0 then look.Null else look_head (record { 0 = cell }) (head_at store cell)) ≡ None
    → on_held_of of_null operand (Some (sight_of_cell o store cell)) follows
    ≡ refused_as of_null operand (if cell == 0 then look.Null else look_head (record { 0 = cell }) (head_at store cell))
cell-refused o store of_null operand follows zero none = refl
cell-refused o store of_null operand follows (suc cell) none =
    let P : Bool → Type 0 = λ null.
    object_in (if null then look.Null else look_head (record { 0 = suc cell }) (head_at store (suc cell))) ≡ None
    → on_held_of of_null operand (Some (sight_of_cell o store (suc cell))) follows
    ≡ refused_as of_null operand (if null then look.Null else look_head (record { 0 = suc cell }) (head_at store (suc cell))) in
    subst P (sym (ne_eqb (suc cell) 0 (λ e. absurd (omega (arith, e))))) (by_object (object_at store (suc cell))) none where
      by_object : (object : Option Object) → object_in (look_head (record { 0 = suc cell }) (option_map head_of object)) ≡ None
          → on_held_of of_null operand (Some (sight_of_object o store object)) follows
          ≡ refused_as of_null operand (look_head (record { 0 = suc cell }) (option_map head_of object))
      by_object None none = refl
      by_object (Some object) none = absurd (none-some _ (sym none))

value-refused : (o : Outline) (store : Store) (of_null : Effect) (operand : ℕ) (follows : Looks → Effect) (v : Option Value)
    → object_in (look_at store v) ≡ None
    → on_held_of of_null operand (option_map (sight o store) v) follows ≡ refused_as of_null operand (look_at store v)
value-refused o store of_null operand follows None none = refl
value-refused o store of_null operand follows (Some value.Top) none = refl
value-refused o store of_null operand follows (Some (value.Int n)) none = refl
value-refused o store of_null operand follows (Some (value.Long n)) none = refl
value-refused o store of_null operand follows (Some (value.Ref cell)) none = cell-refused o store of_null operand follows cell.0 none

pub held-refused : (o : Outline) (store : Store) (stack : List Value) (of_null : Effect) (operand : ℕ) (follows : Looks → Effect) (seen : Look)
    → seen ≡ look_at store (slice_get stack operand) → object_in (look_at store (slice_get stack operand)) ≡ None
    → on_held of_null (sights o store stack) operand follows ≡ refused_as of_null operand seen
held-refused o store stack of_null operand follows seen is none =
    ap (λ s. on_held_of of_null operand s follows) (slice_get-map (sight o store) stack operand)
    ∙ value-refused o store of_null operand follows (slice_get stack operand) none ∙ ap (refused_as of_null operand) (sym is)

-- ---- what is an object

pub record Seen (o : Outline) (store : Store) (stack : List Value) (operand : ℕ) (cell : Cell) (head : Head) : Type 0 where
  pub object : Object
  pub held : object_at store cell.0 ≡ Some object
  pub head_is : head_of object ≡ head
  pub word : word_at stack operand ≡ value.Ref cell
  pub any : (of_null : Effect) (follows : Looks → Effect) → on_held of_null (sights o store stack) operand follows ≡ follows (looks o store object)

record SeenValue (o : Outline) (store : Store) (operand : ℕ) (v : Option Value) (cell : Cell) (head : Head) : Type 0 where
  object : Object
  held : object_at store cell.0 ≡ Some object
  head_is : head_of object ≡ head
  is : v ≡ Some (value.Ref cell)
  any : (of_null : Effect) (follows : Looks → Effect) → on_held_of of_null operand (option_map (sight o store) v) follows ≡ follows (looks o store object)

seen-cell : (o : Outline) (store : Store) (operand n : ℕ) (cell : Cell) (head : Head)
    → object_in (if n == 0 then look.Null else look_head (record { 0 = n }) (head_at store n)) ≡ Some (cell, head)
    → SeenValue o store operand (Some (value.Ref (record { 0 = n }))) cell head
seen-cell o store operand zero cell head e = absurd (none-some _ e)
seen-cell o store operand (suc n) cell head e =
    let P : Bool → Type 0 = λ null.
    object_in (if null then look.Null else look_head (record { 0 = suc n }) (head_at store (suc n))) ≡ Some (cell, head)
    → SeenValue o store operand (Some (value.Ref (record { 0 = suc n }))) cell head in
    subst P (sym (ne_eqb (suc n) 0 (λ e. absurd (omega (arith, e))))) (by_object (object_at store (suc n)) refl) e where
      found : Cell
      found = record { 0 = suc n }

      by_object : (object : Option Object) → object_at store (suc n) ≡ object
          → object_in (look_head (record { 0 = suc n }) (option_map head_of object)) ≡ Some (cell, head)
          → SeenValue o store operand (Some (value.Ref (record { 0 = suc n }))) cell head
      by_object None at e = absurd (none-some _ e)
      by_object (Some object) at e =
          let same : ◌≡◌ {A = Cell × Head} (found, head_of object) (cell, head) = same_Some _ _ e in
          subst (λ (q : Cell × Head). SeenValue o store operand (Some (value.Ref found)) q.0 q.1) same
          (record {
            object = object;
            held = at;
            head_is = refl;
            is = refl;
            any = λ of_null follows. ap (λ there. on_held_of of_null operand (Some (sight_of_object o store there)) follows) at;
          })

seen-value : (o : Outline) (store : Store) (operand : ℕ) (v : Option Value) (cell : Cell) (head : Head)
    → object_in (look_at store v) ≡ Some (cell, head) → SeenValue o store operand v cell head
seen-value o store operand None cell head e = absurd (none-some _ e)
seen-value o store operand (Some value.Top) cell head e = absurd (none-some _ e)
seen-value o store operand (Some (value.Int n)) cell head e = absurd (none-some _ e)
seen-value o store operand (Some (value.Long n)) cell head e = absurd (none-some _ e)
seen-value o store operand (Some (value.Ref d)) cell head e = seen-cell o store operand d.0 cell head e

pub object-found : (o : Outline) (store : Store) (stack : List Value) (operand : ℕ) (cell : Cell) (head : Head)
    → Some (cell, head) ≡ object_in (look_at store (slice_get stack operand)) → Seen o store stack operand cell head
object-found o store stack operand cell head e =
    let it = seen-value o store operand (slice_get stack operand) cell head (sym e) in
    record {
      object = it.object;
      held = it.held;
      head_is = it.head_is;
      word = get_or_from_slice_get stack operand (value.Ref cell) value.Top it.is;
      any = λ of_null follows.
          ap (λ s. on_held_of of_null operand s follows) (slice_get-map (sight o store) stack operand) ∙ it.any of_null follows;
    }
