-- Calls: what a method that is entered does is the effect of the call that found it.
use Rattle.std.proofs.Common.{◌≡◌, ℕ, Bool, List, [], Option, Some, None, option_and_then, slice_get, refl, ap, sym, ◌∙◌, subst}
use Rattle.fm_base.specs.declared.ids.MethodId.{MethodId}
use Rattle.fm_base.specs.declared.ids.TypeId.{TypeId}
use Rattle.fm_base.specs.declared.kinds.TypeRef.{TypeRef}
use Rattle.fm_exec_calls.proofs.BuiltInStarts.{nothing-starts}
use Rattle.fm_exec_calls.proofs.PlainEffects.{entered-plain, IsPlain}
use Rattle.fm_exec_calls.specs.Calls.{AreRowsBuiltIn, CallsAs, effect_with_start, FailsCall}
use Rattle.fm_exec_calls.specs.Selections.{Selects}
use Rattle.fm_exec.specs.Steps.{seen, Steps}
use Rattle.fm_files.specs.Sink.{Output}
use Rattle.fm_frames.specs.Acts.{Choose}
use Rattle.fm_frames.specs.CallRows.{entered, entered_as, static_effect, words_of_arguments}
use Rattle.fm_frames.specs.Effects.{Calls, Effect, going}
use Rattle.fm_frames.specs.NativeRows.{native_effect}
use Rattle.fm_frames.specs.Natives.{native_of_row}
use Rattle.fm_frames.specs.declared.natives.Native.{Native}
use Rattle.fm_frames.specs.ObjectRows.{starting}
use Rattle.fm_frames.specs.Runnable.{IsRunnable}
use Rattle.fm_frames.specs.Sights.{Sight}
use Rattle.fm_frames.specs.Starts.{started_by, to_start, with_start}
use Rattle.fm_frames.specs.States.{State}
use Rattle.fm_frames.specs.Uses.{by_type}
use Rattle.fm_frames.specs.inner.Doings.{DoesIn}
use Rattle.fm_native.proofs.Prints.{fails-as, quiet-does, steps-as}
use Rattle.fm_native.specs.Doing.{FailsRow, PrintsRow}
use Rattle.fm_types.specs.Named.{class_of_method}
use Rattle.fm_world.specs.Members.{method_at}
use Rattle.fm_world.specs.Programs.{body_of, code_at, method_info, Outline, Program}
use Rattle.fm_world.specs.declared.declarations.DeclaredMethod.{DeclaredMethod}
use Rattle.fm_world.specs.declared.records.Body.{Body}
use Rattle.fm_world.specs.declared.records.Body.TheVariants as body
use Rattle.fm_world.specs.declared.uses.Use.TheVariants as used
use Rattle.fm_code.specs.declared.code_array.Code.{Code}

-- ---- rows

-- the row of a body, if it is built in
abbrev pub row_in : Body → Option ℕ
row_in (body.Coded code) = None
row_in (body.Native row) = Some row
row_in body.Abstract = None

row_in-body : (m : DeclaredMethod) (code : Option Code) → row_in (body_of m code) ≡ m.row
row_in-body m code = by_row m.row code where
  by_row : (row : Option ℕ) (code : Option Code) → row_in (body_of (record m { row = row }) code) ≡ row
  by_row (Some row) code = refl
  by_row None None = refl
  by_row None (Some c) = refl

pub row-is : (p : Program) (method : ℕ) → row_in (method_info p method).body ≡ (method_at p.outline.classes method).method.row
unfolding method_info
row-is p method = row_in-body (method_at p.outline.classes method).method (code_at p method)

-- ---- the start of the class of an effect that has none, or of which nothing is to start

abbrev for_class : Outline → List Bool → Effect → Option ℕ → Effect
for_class o started e None = e
for_class o started e (Some class) = started_by o (to_start o started class) e

pub plain-start : (o : Outline) (started : List Bool) (e : Effect) → IsPlain e → with_start o started e ≡ e
plain-start o started e plain = ap (for_class o started e) plain

started-start : (o : Outline) (started : List Bool) (class : ℕ) (e : Effect) → to_start o started class ≡ [] → IsPlain e
    → with_start o started (starting class e) ≡ with_start o started e
started-start o started class e none plain =
    ap (λ classes. started_by o classes (starting class e)) none
    ∙ ap (λ (s : Option ℕ). record e { starts = s }) (sym plain)
    ∙ sym (plain-start o started e plain)

-- ---- a method is entered

entered-native : (o : Outline) (started : List Bool) (words target row : ℕ) (n : Native) (byte : Option ℕ) (s : List Sight)
    → (method_at o.classes target).method.row ≡ Some row → native_of_row row ≡ Some n
    → with_start o started (entered o words (Some target) byte s) ≡ native_effect o n byte s
entered-native o started words target row n byte s is known =
    plain-start o started (entered o words (Some target) byte s) (entered-plain o words target byte s)
    ∙ ap (entered_as o words target byte s) (ap (option_and_then native_of_row) is ∙ known)

pub native-steps : (p : Program) (choose : Choose) (x y : State) (old new : Output) (words target row : ℕ) (n : Native)
    → (method_at p.outline.classes target).method.row ≡ Some row → native_of_row row ≡ Some n
    → PrintsRow p choose x y old new n → CallsAs p choose x y old new (entered p.outline words (Some target))
native-steps p choose x y old new words target row n is known does =
    steps-as p choose x y old new _ _ (entered-native p.outline x.areas.started words target row n (slice_get x.input 0) (seen p x) is known) does

pub native-fails : (p : Program) (choose : Choose) (x : State) (old new : Output) (words target row : ℕ) (n : Native)
    → (method_at p.outline.classes target).method.row ≡ Some row → native_of_row row ≡ Some n
    → FailsRow p choose x old new n → FailsCall p choose x old new (entered p.outline words (Some target))
native-fails p choose x old new words target row n is known fails =
    fails-as p choose x old new _ _ (entered-native p.outline x.areas.started words target row n (slice_get x.input 0) (seen p x) is known) fails

pub called-steps : (p : Program) (choose : Choose) (x y : State) (out : Output) (words target : ℕ)
    → (method_at p.outline.classes target).method.row ≡ None → DoesIn p choose x y (going words (Calls target))
    → CallsAs p choose x y out out (entered p.outline words (Some target))
called-steps p choose x y out words target none does =
    let byte = slice_get x.input 0 in
    let s = seen p x in
    let same : effect_with_start p x (entered p.outline words (Some target)) ≡ going words (Calls target) =
    plain-start p.outline x.areas.started (entered p.outline words (Some target) byte s) (entered-plain p.outline words target byte s)
    ∙ ap (λ row. entered_as p.outline words target byte s (option_and_then native_of_row row)) none in
    quiet-does p choose x y out _ (subst (DoesIn p choose x y) (sym same) does)

-- ---- a method is found first

pub selected-steps : (p : Program) (choose : Choose) (x y z : State) (old new : Output) (words given : ℕ) (target : MethodId) (call : Option ℕ → List Sight → Effect)
    → Selects p choose x y words (λ byte. call byte (seen p x)) (Some target) → given ≡ words
    → CallsAs p choose y z old new (entered p.outline given (Some target.0)) → CallsAs p choose x z old new call
selected-steps p choose x y z old new words given target call found many does =
    let here : CallsAs p choose x z old new (entered p.outline words (Some target.0)) =
    subst (λ n. CallsAs p choose x z old new (entered p.outline n (Some target.0))) many
    (subst (λ y. CallsAs p choose y z old new (entered p.outline given (Some target.0))) found.0 does) in
    steps-as p choose x z old new _ _ (ap (with_start p.outline x.areas.started) (found.1 (slice_get x.input 0))) here

pub selected-fails : (p : Program) (choose : Choose) (x y : State) (old new : Output) (words given : ℕ) (target : MethodId) (call : Option ℕ → List Sight → Effect)
    → Selects p choose x y words (λ byte. call byte (seen p x)) (Some target) → given ≡ words
    → FailsCall p choose y old new (entered p.outline given (Some target.0)) → FailsCall p choose x old new call
selected-fails p choose x y old new words given target call found many fails =
    let here : FailsCall p choose x old new (entered p.outline words (Some target.0)) =
    subst (λ n. FailsCall p choose x old new (entered p.outline n (Some target.0))) many
    (subst (λ y. FailsCall p choose y old new (entered p.outline given (Some target.0))) found.0 fails) in
    fails-as p choose x old new _ _ (ap (with_start p.outline x.areas.started) (found.1 (slice_get x.input 0))) here

-- the whole step was done without a method, and nothing is printed
pub refused-steps : (p : Program) (choose : Choose) (x y : State) (out : Output) (call : Option ℕ → List Sight → Effect)
    → ((byte : Option ℕ) → Steps p choose x y (call byte (seen p x))) → CallsAs p choose x y out out call
refused-steps p choose x y out call does = quiet-does p choose x y out (effect_with_start p x call) (does (slice_get x.input 0))

-- ---- a static built-in method: its class has always started

pub static-is : (p : Program) (started : List Bool) (m : MethodId) (named : TypeId) (t : TypeRef) (words row : ℕ) (byte : Option ℕ) (s : List Sight)
    → IsRunnable p → AreRowsBuiltIn p.outline → (method_at p.outline.classes m.0).method.row ≡ Some row
    → slice_get p.outline.types named.0 ≡ Some t → words ≡ words_of_arguments p.outline m.0
    → with_start p.outline started (static_effect p.outline (used.OfMethod m named) byte s)
    ≡ with_start p.outline started (entered p.outline words (Some m.0) byte s)
unfolding static_effect
static-is p started m named t words row byte s runnable rows is at many =
    let o = p.outline in
    let class = class_of_method o m.0 in
    ap (λ found. with_start o started (by_type found (λ named. starting class (entered o (words_of_arguments o m.0) (Some m.0) byte s)))) at
    ∙ started-start o started class (entered o (words_of_arguments o m.0) (Some m.0) byte s) (nothing-starts p started m.0 row runnable rows is)
    (entered-plain o (words_of_arguments o m.0) m.0 byte s)
    ∙ ap (λ n. with_start o started (entered o n (Some m.0) byte s)) (sym many)
