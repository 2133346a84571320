-- What lies in a hidden field is put and read.
use Rattle.std.proofs.Common.{◌≡◌, ℕ, ◌^◌, ◌<◌, [], ◌∷◌, ap, sym, ◌∙◌, subst}
use Rattle.fm_base.specs.declared.kinds.Kind.{Kind}
use Rattle.fm_cells.proofs.Elements.{pack_at-some}
use Rattle.fm_cells.specs.Sizes.{element_bits}
use Rattle.fm_cells.specs.Stores.{Store}
use Rattle.fm_cells.specs.declared.answers.Cell.{Cell}
use Rattle.fm_frames.specs.Acts.{cell_of, Choose, value_of}
use Rattle.fm_frames.specs.Effects.{OfOperand, OfPlace, Put, acting}
use Rattle.fm_frames.specs.Elements.{kept, read}
use Rattle.fm_frames.specs.NativeRows.{text_kind}
use Rattle.fm_frames.specs.States.{State, word_at}
use Rattle.fm_frames.specs.Steps.{stack_of}
use Rattle.fm_frames.specs.declared.values.Value.{Value}
use Rattle.fm_frames.specs.declared.values.Value.TheVariants as value
use Rattle.fm_frames.specs.inner.Doings.{before, DoesIn}
use Rattle.fm_frames.specs.inner.Places.{element_at, FitsIn, IsOfKind, IsWide}
use Rattle.fm_native.proofs.HiddenRows.{kept_message}
use Rattle.fm_native.proofs.Hidings.{first-is}
use Rattle.fm_native.specs.declared.asked.Held.{Held}
use Rattle.fm_native.specs.inner.Hidden.{HidesText}
use Rattle.fm_world.specs.Programs.{Outline, Program}

-- whatever a word keeps fits a place that is a whole word
pub message-fits : (store : Store) (cell : ℕ) (k : Kind) (v : Value) (element : ℕ) → IsWide store cell → element ≡ kept k v → element < 2 ^ 64
    → FitsIn store cell k v
message-fits store cell k v element (object, held, pack) is small =
    subst (λ n. kept k v < 2 ^ element_bits n) (sym (pack_at-some store cell object held ∙ pack)) (subst (λ n. n < 2 ^ 64) is small)

pub message-kept : (p : Program) (choose : Choose) (x z : State) (k : Kind) → k ≡ text_kind p.outline
    → DoesIn p choose x z (acting 2 (Put (OfOperand 1) 0 k (OfOperand 0) ∷ [])) → DoesIn p choose x z (kept_message p.outline)
message-kept p choose x z k is does = subst (λ k. DoesIn p choose x z (acting 2 (Put (OfOperand 1) 0 k (OfOperand 0) ∷ []))) is does

pub message-of-kind : (o : Outline) (store : Store) (held : Held) (k : Kind) → k ≡ text_kind o → HidesText o store held
    → IsOfKind k (element_at store held.cell.0 0)
message-of-kind o store held k is hides =
    subst (λ k. IsOfKind k (element_at store held.cell.0 0)) (sym is) (subst (λ n. n < 2 ^ 32) (sym (first-is o store held hides)) hides.cell)

pub message-read : (o : Outline) (x : State) (held : Held) (k : Kind) (v : Value) → k ≡ text_kind o → word_at (stack_of x) 0 ≡ value.Ref held.cell
    → v ≡ read k (element_at x.areas.store held.cell.0 0) → value_of (before x) (OfPlace 0 0 (text_kind o)) ≡ v
message-read o x held k v is word v_is =
    ap (λ w. read (text_kind o) (element_at x.areas.store (cell_of w) 0)) word
    ∙ ap (λ k. read k (element_at x.areas.store held.cell.0 0)) (sym is) ∙ sym v_is

-- the cell to which the hidden field leads
pub lost-at : (o : Outline) (x : State) (operand : ℕ) (held : Held) (cell : Cell) → word_at (stack_of x) operand ≡ value.Ref held.cell
    → cell.0 ≡ element_at x.areas.store held.cell.0 0 → cell_of (value_of (before x) (OfPlace operand 0 (text_kind o))) ≡ cell.0
unfolding read
lost-at o x operand held cell word is = ap (λ w. element_at x.areas.store (cell_of w) 0) word ∙ sym is
