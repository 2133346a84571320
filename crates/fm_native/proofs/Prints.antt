-- Steps with what they print.
use Rattle.std.proofs.Common.{◌≡◌, inr, ℕ, List, [], Option, Some, None, Result, Ok, Err, OnOk, IsErrOf, slice_get, refl, ap, sym, ◌∙◌, subst}
use Rattle.fm_base.specs.declared.error.NoMemory.{NoMemory}
use Rattle.fm_frames.specs.declared.turns.StepFail.{StepFail}
use Rattle.fm_frames.specs.declared.turns.StepFail.TheVariants as fail
use Rattle.fm_files.specs.Sink.{FailsPiece, Output}
use Rattle.fm_frames.specs.Acts.{Choose, performed}
use Rattle.fm_frames.specs.Effects.{Effect, printing}
use Rattle.fm_frames.specs.Natives.{native_of_row}
use Rattle.fm_frames.specs.declared.natives.Native.{Native}
use Rattle.std.proofs.lemmas.Option.{none-some, same_Some}
use Rattle.fm_frames.specs.States.{State}
use Rattle.fm_frames.specs.inner.Doings.{DoesIn, DoesPrinting}
use Rattle.fm_native.specs.Doing.{DoesRow, effect_of_native, FailsAt, PrintsRow, PutsOnce, quiet, StepsTo}
use Rattle.fm_world.specs.Programs.{Program}

-- bytes that were put in one piece, or none
pub printing-does : (p : Program) (choose : Choose) (x y : State) (old new : Output) (takes : ℕ) (bytes : List ℕ)
    → DoesPrinting p choose x y (printing takes bytes) bytes → PutsOnce bytes old new → StepsTo p choose x y old new (printing takes bytes)
printing-does p choose x y old new takes bytes does put = record { printed = bytes; does = does; put = put }

pub printing-fails : (p : Program) (choose : Choose) (x : State) (old new : Output) (takes : ℕ) (bytes : List ℕ) → FailsPiece bytes old new
    → FailsAt p choose x old new (printing takes bytes)
unfolding performed
printing-fails p choose x old new takes bytes fails = fails

-- a step that prints nothing
pub quiet-does : (p : Program) (choose : Choose) (x y : State) (out : Output) (e : Effect) → DoesIn p choose x y e → StepsTo p choose x y out out e
quiet-does p choose x y out e does = record { printed = []; does = does; put = inr (refl, refl) }

pub quiet-row : (p : Program) (choose : Choose) (x y : State) (out : Output) (n : Native) → DoesRow p choose x y n → PrintsRow p choose x y out out n
quiet-row p choose x y out n does = quiet-does p choose x y out (effect_of_native p x n) (does (slice_get x.input 0))

-- by an equal effect
pub steps-as : (p : Program) (choose : Choose) (x y : State) (old new : Output) (e f : Effect) → e ≡ f → StepsTo p choose x y old new f
    → StepsTo p choose x y old new e
steps-as p choose x y old new e f same does = subst (StepsTo p choose x y old new) (sym same) does

pub fails-as : (p : Program) (choose : Choose) (x : State) (old new : Output) (e f : Effect) → e ≡ f → FailsAt p choose x old new f → FailsAt p choose x old new e
fails-as p choose x old new e f same fails = subst (FailsAt p choose x old new) (sym same) fails

-- what holds of a quiet step
pub quiet-told : {T : Type 0} (P Q : Type 0) (done : Result T NoMemory) (result : Result T StepFail) → result ≡ quiet done → (P → Q) → OnOk done P → OnOk result Q
quiet-told P Q (Ok u) result is f h = subst (λ r. OnOk r Q) (sym is) (f h)
quiet-told P Q (Err e) result is f h = subst (λ r. OnOk r Q) (sym is) tt

pub quiet-fails : {T : Type 0} (done : Result T NoMemory) (result : Result T StepFail) → result ≡ quiet done → IsErrOf result fail.SinkFailed → ⊥
quiet-fails (Ok u) result is h = let e = sym is ∙ h in absurd (cc)
quiet-fails (Err e) result is h = let e' = sym is ∙ h in absurd (cc)

-- the built-in method of a row
pub row-of : (row : ℕ) (found : Option Native) (native n : Native) → found ≡ native_of_row row → found ≡ Some native → native_of_row row ≡ Some n → native ≡ n
row-of row found native n told is named = same_Some _ _ (sym is ∙ told ∙ named)

pub no-row-of : (row : ℕ) (found : Option Native) (n : Native) → found ≡ native_of_row row → found ≡ None → native_of_row row ≡ Some n → ⊥
no-row-of row found n told is named = none-some n (sym is ∙ told ∙ named)

-- an error that is handed on
pub error-kept : {A B : Type 0} (e f : StepFail) → IsErrOf {T = A} (Err e) f → IsErrOf {T = B} (Err e) f
error-kept e f h = let same : e ≡ f = cc in ap Err same
