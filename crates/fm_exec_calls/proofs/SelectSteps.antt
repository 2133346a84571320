-- The effects of calls whose method is selected, by what the receiver is.
use Rattle.std.proofs.Common.{◌≡◌, ℕ, ◌+◌, Bool, true, if◌then◌else◌, List, Option, Some, unwrap_or, slice_get, ap, sym, ◌∙◌, codes}
use Rattle.fm_base.specs.declared.ids.MethodId.{MethodId}
use Rattle.fm_base.specs.declared.ids.TypeId.{TypeId}
use Rattle.fm_base.specs.declared.kinds.TypeRef.{TypeRef}
use Rattle.fm_cells.specs.Stores.{Store}
use Rattle.fm_cells.specs.declared.answers.Cell.{Cell}
use Rattle.fm_cells.specs.declared.answers.Head.{Head}
use Rattle.fm_exec.proofs.HeldSteps.{looks-type, Seen}
use Rattle.fm_exec.proofs.NullSteps.{by_look, reference-seen}
use Rattle.fm_frames.specs.CallRows.{entered, interface_effect, receiver_class, special_effect, virtual_effect, words_of_arguments}
use Rattle.fm_frames.specs.Effects.{Effect, faulty}
use Rattle.fm_frames.specs.Operands.{on_any, on_receiver, thrown, thrown_null}
use Rattle.fm_frames.specs.Sights.{looks, Looks, Sight, sights, type_numbered}
use Rattle.fm_frames.specs.Uses.{by_type}
use Rattle.fm_frames.specs.declared.looks.Look.{Look}
use Rattle.fm_frames.specs.declared.values.Value.{Value}
use Rattle.fm_frames.specs.inner.Looks.{look_at}
use Rattle.fm_types.specs.Fits.{fits_type, object_of}
use Rattle.fm_types.specs.Named.{class_of_method}
use Rattle.fm_world.specs.Chains.{is_sub}
use Rattle.fm_world.specs.Lookups.{select, special_target}
use Rattle.fm_world.specs.Programs.{class_of_type, Outline}
use Rattle.fm_world.specs.declared.uses.Use.TheVariants as used

-- ---- the method that is selected

-- the one that is selected for an object of the type is entered
abbrev pub entered_for : Outline → MethodId → Option ℕ → List Sight → TypeRef → Effect
entered_for o m byte s t =
    entered o (words_of_arguments o m.0 + 1) (select o.classes (unwrap_or (class_of_type t) (object_of o.classes)) m.0) byte s

abbrev pub selected_of : Outline → MethodId → Option ℕ → List Sight → Looks → Effect
selected_of o m byte s it = entered o (words_of_arguments o m.0 + 1) (select o.classes (receiver_class o it) m.0) byte s

pub selected-told : (o : Outline) (m : MethodId) (byte : Option ℕ) (s : List Sight) (it : Looks) (t : TypeRef) (found : Option ℕ) → it.type ≡ t
    → found ≡ select o.classes (unwrap_or (class_of_type t) (object_of o.classes)) m.0
    → selected_of o m byte s it ≡ entered o (words_of_arguments o m.0 + 1) found byte s
selected-told o m byte s it t found type is =
    ap (entered_for o m byte s) type ∙ ap (λ found. entered o (words_of_arguments o m.0 + 1) found byte s) (sym is)

-- ---- invokevirtual

-- what follows of the receiver, which has to fit the named type
abbrev pub virtual_of : Outline → MethodId → TypeRef → Option ℕ → List Sight → Looks → Effect
virtual_of o m named byte s it = if fits_type o.classes it.type named then selected_of o m byte s it else faulty (words_of_arguments o m.0)

pub virtual-named : (o : Outline) (m : MethodId) (t : TypeId) (named : TypeRef) (byte : Option ℕ) (s : List Sight) → slice_get o.types t.0 ≡ Some named
    → virtual_effect o (used.OfMethod m t) byte s ≡ on_any o s (words_of_arguments o m.0) (virtual_of o m named byte s)
unfolding virtual_effect
virtual-named o m t named byte s at = ap (λ found. by_type found (λ named. on_any o s (words_of_arguments o m.0) (virtual_of o m named byte s))) at

pub virtual-told : (o : Outline) (store : Store) (stack : List Value) (m : MethodId) (id : TypeId) (named : TypeRef) (byte : Option ℕ) (cell : Cell) (head : Head)
    (t : TypeRef) (fits : Bool) → slice_get o.types id.0 ≡ Some named → (it : Seen o store stack (words_of_arguments o m.0) cell head)
    → t ≡ type_numbered o head.class → fits ≡ fits_type o.classes t named
    → virtual_effect o (used.OfMethod m id) byte (sights o store stack)
    ≡ (if fits then selected_of o m byte (sights o store stack) (looks o store it.object) else faulty (words_of_arguments o m.0))
virtual-told o store stack m id named byte cell head t fits at it type_is is =
    let s = sights o store stack in
    let type = looks-type o store it.object ∙ ap (λ (h : Head). type_numbered o h.class) it.head_is ∙ sym type_is in
    virtual-named o m id named byte s at
    ∙ it.any (thrown_null o) (virtual_of o m named byte s)
    ∙ ap (λ t. if fits_type o.classes t named then selected_of o m byte s (looks o store it.object) else faulty (words_of_arguments o m.0)) type
    ∙ ap (λ b. if b then selected_of o m byte s (looks o store it.object) else faulty (words_of_arguments o m.0)) (sym is)

pub virtual-selected : (o : Outline) (store : Store) (stack : List Value) (m : MethodId) (id : TypeId) (named : TypeRef) (byte : Option ℕ) (cell : Cell) (head : Head)
    (t : TypeRef) (found : Option ℕ) → slice_get o.types id.0 ≡ Some named → Seen o store stack (words_of_arguments o m.0) cell head
    → t ≡ type_numbered o head.class → true ≡ fits_type o.classes t named
    → found ≡ select o.classes (unwrap_or (class_of_type t) (object_of o.classes)) m.0
    → virtual_effect o (used.OfMethod m id) byte (sights o store stack) ≡ entered o (words_of_arguments o m.0 + 1) found byte (sights o store stack)
virtual-selected o store stack m id named byte cell head t found at it type_is fits is =
    virtual-told o store stack m id named byte cell head t true at it type_is fits
    ∙ selected-told o m byte (sights o store stack) (looks o store it.object) t found
    (looks-type o store it.object ∙ ap (λ (h : Head). type_numbered o h.class) it.head_is ∙ sym type_is) is

-- ---- invokeinterface

-- what follows of the receiver, which has to implement the named interface
abbrev pub interface_of : Outline → MethodId → TypeRef → Option ℕ → List Sight → Looks → Effect
interface_of o m named byte s it =
    if is_sub o.classes it.type named then selected_of o m byte s it else thrown o (codes "java/lang/IncompatibleClassChangeError")

pub interface-named : (o : Outline) (m : MethodId) (t : TypeId) (named : TypeRef) (byte : Option ℕ) (s : List Sight) → slice_get o.types t.0 ≡ Some named
    → interface_effect o (used.OfMethod m t) byte s ≡ on_any o s (words_of_arguments o m.0) (interface_of o m named byte s)
unfolding interface_effect
interface-named o m t named byte s at = ap (λ found. by_type found (λ named. on_any o s (words_of_arguments o m.0) (interface_of o m named byte s))) at

pub interface-told : (o : Outline) (store : Store) (stack : List Value) (m : MethodId) (id : TypeId) (named : TypeRef) (byte : Option ℕ) (cell : Cell) (head : Head)
    (t : TypeRef) (implements : Bool) → slice_get o.types id.0 ≡ Some named → (it : Seen o store stack (words_of_arguments o m.0) cell head)
    → t ≡ type_numbered o head.class → implements ≡ is_sub o.classes t named
    → interface_effect o (used.OfMethod m id) byte (sights o store stack)
    ≡ (if implements then selected_of o m byte (sights o store stack) (looks o store it.object) else thrown o (codes "java/lang/IncompatibleClassChangeError"))
interface-told o store stack m id named byte cell head t implements at it type_is is =
    let s = sights o store stack in
    let type = looks-type o store it.object ∙ ap (λ (h : Head). type_numbered o h.class) it.head_is ∙ sym type_is in
    interface-named o m id named byte s at
    ∙ it.any (thrown_null o) (interface_of o m named byte s)
    ∙ ap (λ t. if is_sub o.classes t named then selected_of o m byte s (looks o store it.object) else thrown o (codes "java/lang/IncompatibleClassChangeError")) type
    ∙ ap (λ b. if b then selected_of o m byte s (looks o store it.object) else thrown o (codes "java/lang/IncompatibleClassChangeError")) (sym is)

pub interface-selected : (o : Outline) (store : Store) (stack : List Value) (m : MethodId) (id : TypeId) (named : TypeRef) (byte : Option ℕ) (cell : Cell) (head : Head)
    (t : TypeRef) (found : Option ℕ) → slice_get o.types id.0 ≡ Some named → Seen o store stack (words_of_arguments o m.0) cell head
    → t ≡ type_numbered o head.class → true ≡ is_sub o.classes t named
    → found ≡ select o.classes (unwrap_or (class_of_type t) (object_of o.classes)) m.0
    → interface_effect o (used.OfMethod m id) byte (sights o store stack) ≡ entered o (words_of_arguments o m.0 + 1) found byte (sights o store stack)
interface-selected o store stack m id named byte cell head t found at it type_is implements is =
    interface-told o store stack m id named byte cell head t true at it type_is implements
    ∙ selected-told o m byte (sights o store stack) (looks o store it.object) t found
    (looks-type o store it.object ∙ ap (λ (h : Head). type_numbered o h.class) it.head_is ∙ sym type_is) is

-- ---- invokespecial

-- the method is entered
abbrev pub special_of : Outline → ℕ → MethodId → TypeRef → Option ℕ → List Sight → Effect
special_of o caller m named byte s =
    entered o (words_of_arguments o m.0 + 1) (Some (special_target o.classes (class_of_method o caller) (class_of_type named) m.0)) byte s

pub special-named : (o : Outline) (caller : ℕ) (m : MethodId) (t : TypeId) (named : TypeRef) (byte : Option ℕ) (s : List Sight) → slice_get o.types t.0 ≡ Some named
    → special_effect o caller (used.OfMethod m t) byte s ≡ on_receiver o s (words_of_arguments o m.0) (special_of o caller m named byte s)
unfolding special_effect
special-named o caller m t named byte s at =
    ap (λ found. by_type found (λ named. on_receiver o s (words_of_arguments o m.0) (special_of o caller m named byte s))) at

-- by what the receiver is, which isn't looked at
pub special-seen : (o : Outline) (store : Store) (stack : List Value) (caller : ℕ) (m : MethodId) (id : TypeId) (named : TypeRef) (byte : Option ℕ) (words : ℕ)
    (found : Look) → slice_get o.types id.0 ≡ Some named → words ≡ words_of_arguments o m.0 → found ≡ look_at store (slice_get stack words)
    → special_effect o caller (used.OfMethod m id) byte (sights o store stack)
    ≡ by_look found (λ is_null. if is_null then thrown_null o else special_of o caller m named byte (sights o store stack))
special-seen o store stack caller m id named byte words found at many is =
    special-named o caller m id named byte (sights o store stack) at
    ∙ reference-seen o store stack (words_of_arguments o m.0) found
    (λ is_null. if is_null then thrown_null o else special_of o caller m named byte (sights o store stack))
    (is ∙ ap (λ n. look_at store (slice_get stack n)) many)

-- the method that was found is entered
pub special-entered : (o : Outline) (caller : ℕ) (m target : MethodId) (named : TypeRef) (byte : Option ℕ) (s : List Sight)
    → target.0 ≡ special_target o.classes (class_of_method o caller) (class_of_type named) m.0
    → special_of o caller m named byte s ≡ entered o (words_of_arguments o m.0 + 1) (Some target.0) byte s
special-entered o caller m target named byte s is = ap (λ n. entered o (words_of_arguments o m.0 + 1) (Some n) byte s) (sym is)
