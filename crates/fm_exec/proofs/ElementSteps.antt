-- The effects of rows of elements, by what the operands are.
use Rattle.std.proofs.Common.{◌≡◌, ◌≢◌, ℕ, ◌+◌, ◌-◌, ℤ, pos, Bool, true, false, not, ◌||◌, if◌then◌else◌, List, [], ◌∷◌, Option, Some, None, slice_get, refl, ap, sym, ◌∙◌, codes}
use Rattle.std.specs.Prelude.{int_lt, unsigned_abs}
use Rattle.std.proofs.lemmas.Option.{none-some, same_Some}
use Rattle.fm_base.specs.declared.kinds.TypeRef.{TypeRef}
use Rattle.fm_cells.specs.Stores.{Store}
use Rattle.fm_cells.specs.declared.answers.Cell.{Cell}
use Rattle.fm_cells.specs.declared.answers.Head.{Head}
use Rattle.fm_code.specs.declared.operations.Elem.{Elem}
use Rattle.fm_code.specs.declared.operations.Elem.TheVariants as elem
use Rattle.fm_exec.proofs.HeldSteps.{held-refused, looks-len, looks-type, refused_as, Seen}
use Rattle.fm_exec.proofs.Seen.{int-seen}
use Rattle.fm_code.specs.StackWords.{element_words}
use Rattle.fm_frames.specs.ArrayRows.{array_load_effect, array_store_effect, element_kind, element_type, on_element, put_element, put_reference}
use Rattle.fm_frames.specs.Effects.{Effect, OfOperand, OfPlace, Put, acting, faulty, loaded, stuck, words}
use Rattle.fm_frames.specs.Operands.{on_held, on_int, thrown, thrown_null}
use Rattle.fm_frames.specs.Sights.{looks, Looks, Sight, sights, type_numbered}
use Rattle.fm_frames.specs.declared.values.Value.{Value}
use Rattle.fm_frames.specs.declared.looks.Look.{Look}
use Rattle.fm_frames.specs.inner.Doings.{int_in}
use Rattle.fm_frames.specs.inner.Looks.{look_at, object_in}
use Rattle.fm_types.specs.ArrayRows.{is_array_of}
use Rattle.fm_world.specs.Chains.{is_sub}
use Rattle.fm_world.specs.Programs.{Outline}

-- ---- elements

-- the place that an index means, where the array has it
abbrev pub place_in : ℕ → ℤ → Option ℕ
place_in len i = if int_lt i (pos 0) || not (int_lt i (pos len)) then None else Some (unsigned_abs i)

abbrev pub outside : Outline → Effect
outside o = thrown o (codes "java/lang/ArrayIndexOutOfBoundsException")

-- a place of an array, or the exception where the array hasn't it
abbrev pub by_place : Outline → ℕ → ℤ → (ℕ → Effect) → Effect
by_place o len i follows = if int_lt i (pos 0) || not (int_lt i (pos len)) then outside o else follows (unsigned_abs i)

abbrev tested : Outline → ℕ → Effect → Bool → Effect
tested o operand follows array = if array then follows else faulty operand

-- the object below the index with its type and its length, as it is seen
pub element-array : (o : Outline) (store : Store) (stack : List Value) (e : Elem) (index : ℕ) (cell : Cell) (head : Head) (array : Bool) (follows : Looks → ℕ → Effect)
    → (it : Seen o store stack (index + 1) cell head) → array ≡ is_array_of e (type_numbered o head.class)
    → on_element o e (sights o store stack) index follows
    ≡ tested o (index + 1) (on_int (sights o store stack) index (λ i. by_place o head.len i (follows (looks o store it.object)))) array
element-array o store stack e index cell head array follows it is =
    let s = sights o store stack in
    it.any (thrown_null o)
    (λ l. tested o (index + 1) (on_int s index (λ i. by_place o l.len i (follows l))) (is_array_of e l.type))
    ∙ ap (λ type. tested o (index + 1) (on_int s index (λ i. by_place o (looks o store it.object).len i (follows (looks o store it.object)))) (is_array_of e type))
    (looks-type o store it.object ∙ ap (λ (h : Head). type_numbered o h.class) it.head_is)
    ∙ ap (λ len. tested o (index + 1) (on_int s index (λ i. by_place o len i (follows (looks o store it.object)))) (is_array_of e (type_numbered o head.class)))
    (looks-len o store it.object ∙ ap (λ (h : Head). h.len) it.head_is)
    ∙ ap (tested o (index + 1) (on_int s index (λ i. by_place o head.len i (follows (looks o store it.object))))) (sym is)

-- no array of such elements
pub element-faulty : (o : Outline) (store : Store) (stack : List Value) (e : Elem) (index : ℕ) (cell : Cell) (head : Head) (follows : Looks → ℕ → Effect)
    → Seen o store stack (index + 1) cell head → false ≡ is_array_of e (type_numbered o head.class)
    → on_element o e (sights o store stack) index follows ≡ faulty (index + 1)
element-faulty o store stack e index cell head follows it is = element-array o store stack e index cell head false follows it is

-- no index
pub element-stuck : (o : Outline) (store : Store) (stack : List Value) (e : Elem) (index : ℕ) (cell : Cell) (head : Head) (follows : Looks → ℕ → Effect)
    → Seen o store stack (index + 1) cell head → true ≡ is_array_of e (type_numbered o head.class) → None ≡ int_in (slice_get stack index)
    → on_element o e (sights o store stack) index follows ≡ stuck
element-stuck o store stack e index cell head follows it is none =
    element-array o store stack e index cell head true follows it is
    ∙ int-seen o store stack index None (λ i. by_place o head.len i (follows (looks o store it.object))) none

placed-outside : (o : Outline) (len : ℕ) (i : ℤ) (follows : ℕ → Effect) → place_in len i ≡ None → by_place o len i follows ≡ outside o
placed-outside o len i follows none = by_test (int_lt i (pos 0) || not (int_lt i (pos len))) none where
  by_test : (out : Bool) → (if out then None else Some (unsigned_abs i)) ≡ None → (if out then outside o else follows (unsigned_abs i)) ≡ outside o
  by_test true none = refl
  by_test false none = absurd (none-some _ (sym none))

placed-inside : (o : Outline) (len : ℕ) (i : ℤ) (place : ℕ) (follows : ℕ → Effect) → place_in len i ≡ Some place → by_place o len i follows ≡ follows place
placed-inside o len i place follows some = by_test (int_lt i (pos 0) || not (int_lt i (pos len))) some where
  by_test : (out : Bool) → (if out then None else Some (unsigned_abs i)) ≡ Some place → (if out then outside o else follows (unsigned_abs i)) ≡ follows place
  by_test true some = absurd (none-some _ some)
  by_test false some = ap follows (same_Some _ _ some)

-- a place that the array hasn't
pub element-outside : (o : Outline) (store : Store) (stack : List Value) (e : Elem) (index : ℕ) (cell : Cell) (head : Head) (i : ℤ) (follows : Looks → ℕ → Effect)
    → Seen o store stack (index + 1) cell head → true ≡ is_array_of e (type_numbered o head.class) → Some i ≡ int_in (slice_get stack index)
    → place_in head.len i ≡ None
    → on_element o e (sights o store stack) index follows ≡ outside o
element-outside o store stack e index cell head i follows it is some none =
    element-array o store stack e index cell head true follows it is
    ∙ int-seen o store stack index (Some i) (λ i. by_place o head.len i (follows (looks o store it.object))) some
    ∙ placed-outside o head.len i (follows (looks o store it.object)) none

-- a place that the array has
pub element-inside : (o : Outline) (store : Store) (stack : List Value) (e : Elem) (index : ℕ) (cell : Cell) (head : Head) (i : ℤ) (place : ℕ)
    (follows : Looks → ℕ → Effect) (it : Seen o store stack (index + 1) cell head) → true ≡ is_array_of e (type_numbered o head.class)
    → Some i ≡ int_in (slice_get stack index) → place_in head.len i ≡ Some place
    → on_element o e (sights o store stack) index follows ≡ follows (looks o store it.object) place
element-inside o store stack e index cell head i place follows it is some there =
    element-array o store stack e index cell head true follows it is
    ∙ int-seen o store stack index (Some i) (λ i. by_place o head.len i (follows (looks o store it.object))) some
    ∙ placed-inside o head.len i place (follows (looks o store it.object)) there

-- ---- loads

-- what follows of the element that is loaded
abbrev pub load_of : Looks → ℕ → Effect
load_of it place = words 2 (loaded (element_kind it.type) (OfPlace 1 place (element_kind it.type)))

pub load-is : (o : Outline) (e : Elem) (s : List Sight) → array_load_effect o e s ≡ on_element o e s 0 load_of
unfolding array_load_effect
load-is o e s = refl

-- what follows of the object that was looked at, where it is refused
abbrev pub load_held : Outline → Elem → List Sight → Looks → Effect
load_held o e s it = if is_array_of e it.type then on_int s 0 (λ i. by_place o it.len i (load_of it)) else faulty 1

pub load-kind : (o : Outline) (store : Store) (stack : List Value) (operand : ℕ) (cell : Cell) (head : Head) (place : ℕ) (it : Seen o store stack operand cell head)
    → load_of (looks o store it.object) place
    ≡ words 2 (loaded (element_kind (type_numbered o head.class)) (OfPlace 1 place (element_kind (type_numbered o head.class))))
load-kind o store stack operand cell head place it =
    ap (λ (t : TypeRef). words 2 (loaded (element_kind t) (OfPlace 1 place (element_kind t))))
    (looks-type o store it.object ∙ ap (λ (h : Head). type_numbered o h.class) it.head_is)

-- ---- stores of numbers

pub store-is : (o : Outline) (e : Elem) (s : List Sight) (n : ℕ) → n ≡ element_words e → e ≢ elem.Ref
    → array_store_effect o e s ≡ on_element o e s n (put_element n)
unfolding array_store_effect
store-is o e s n many number = by_elem e number ∙ ap (λ n. on_element o e s n (put_element n)) (sym many) where
  by_elem : (e : Elem) → e ≢ elem.Ref → array_store_effect o e s ≡ on_element o e s (element_words e) (put_element (element_words e))
  by_elem elem.Boolean number = refl
  by_elem elem.Byte number = refl
  by_elem elem.Char number = refl
  by_elem elem.Short number = refl
  by_elem elem.Int number = refl
  by_elem elem.Long number = refl
  by_elem elem.Ref number = absurd (number refl)

-- what follows of the object that was looked at, where it is refused
abbrev pub store_held : Outline → Elem → List Sight → ℕ → Looks → Effect
store_held o e s n it = if is_array_of e it.type then on_int s n (λ i. by_place o it.len i (put_element n it)) else faulty (n + 1)

pub put-kind : (o : Outline) (store : Store) (stack : List Value) (operand : ℕ) (cell : Cell) (head : Head) (n place : ℕ) (it : Seen o store stack operand cell head)
    → put_element n (looks o store it.object) place
    ≡ acting (n + 2) (Put (OfOperand (n + 1)) place (element_kind (type_numbered o head.class)) (OfOperand (n - 1)) ∷ [])
put-kind o store stack operand cell head n place it =
    ap (λ (t : TypeRef). acting (n + 2) (Put (OfOperand (n + 1)) place (element_kind t) (OfOperand (n - 1)) ∷ []))
    (looks-type o store it.object ∙ ap (λ (h : Head). type_numbered o h.class) it.head_is)

-- ---- stores of references

pub reference-is : (o : Outline) (s : List Sight) → array_store_effect o elem.Ref s ≡ on_element o elem.Ref s 1 (put_reference o s)
unfolding array_store_effect
reference-is o s = refl

-- what follows of the object that was looked at, where it is refused
abbrev pub reference_held : Outline → List Sight → Looks → Effect
reference_held o s it = if is_array_of elem.Ref it.type then on_int s 1 (λ i. by_place o it.len i (put_reference o s it)) else faulty 2

-- the value is put there
abbrev pub put_of : TypeRef → ℕ → Effect
put_of t place = acting 3 (Put (OfOperand 2) place (element_kind t) (OfOperand 0) ∷ [])

-- by whether its type fits
abbrev pub put_fitting : Outline → TypeRef → ℕ → Bool → Effect
put_fitting o t place fits = if fits then put_of t place else thrown o (codes "java/lang/ArrayStoreException")

pub value-asked : (o : Outline) (s : List Sight) (it : Looks) (t : TypeRef) (place : ℕ) → it.type ≡ t
    → put_reference o s it place ≡ on_held (put_of t place) s 0 (λ v. put_fitting o t place (is_sub o.classes v.type (element_type t)))
value-asked o s it t place same = ap (λ t. on_held (put_of t place) s 0 (λ v. put_fitting o t place (is_sub o.classes v.type (element_type t)))) same

-- a value that is no object
pub value-refused : (o : Outline) (store : Store) (stack : List Value) (it : Looks) (t : TypeRef) (place : ℕ) (seen : Look) → it.type ≡ t
    → seen ≡ look_at store (slice_get stack 0) → object_in seen ≡ None
    → put_reference o (sights o store stack) it place ≡ refused_as (put_of t place) 0 seen
value-refused o store stack it t place seen same is none =
    value-asked o (sights o store stack) it t place same
    ∙ held-refused o store stack (put_of t place) 0 (λ v. put_fitting o t place (is_sub o.classes v.type (element_type t))) seen is
    (ap object_in (sym is) ∙ none)

-- a value that is an object, whose type fits or doesn't
pub value-told : (o : Outline) (store : Store) (stack : List Value) (it : Looks) (t : TypeRef) (place : ℕ) (cell : Cell) (head : Head) (fits : Bool) → it.type ≡ t
    → Seen o store stack 0 cell head → fits ≡ is_sub o.classes (type_numbered o head.class) (element_type t)
    → put_reference o (sights o store stack) it place ≡ put_fitting o t place fits
value-told o store stack it t place cell head fits same v is =
    value-asked o (sights o store stack) it t place same
    ∙ v.any (put_of t place) (λ v. put_fitting o t place (is_sub o.classes v.type (element_type t)))
    ∙ ap (λ type. put_fitting o t place (is_sub o.classes type (element_type t)))
    (looks-type o store v.object ∙ ap (λ (h : Head). type_numbered o h.class) v.head_is)
    ∙ ap (put_fitting o t place) (sym is)
