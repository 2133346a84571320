-- The effects of rows of numbers and locals, by what the operands are.
use Rattle.std.proofs.Common.{◌≡◌, ℕ, ◌+◌, ℤ, List, [], ◌∷◌, Option, Some, None, slice_get, ap, ◌∙◌}
use Rattle.fm_alu.specs.Operations.{result_of_op}
use Rattle.fm_cells.specs.Stores.{Store}
use Rattle.fm_code.specs.declared.operations.Op.{Op}
use Rattle.fm_code.specs.declared.operations.Reg.{Reg}
use Rattle.fm_code.specs.declared.operations.Reg.TheVariants as reg
use Rattle.fm_exec.proofs.Seen.{int-seen}
use Rattle.fm_frames.specs.Effects.{Effect, OfLocal, OfOperand, Plain, int_word, stuck, words}
use Rattle.fm_frames.specs.NumberRows.{int_op_effect, load_effect, store_effect}
use Rattle.fm_frames.specs.Operands.{on_int, or_thrown}
use Rattle.fm_frames.specs.Sights.{Sight, sights}
use Rattle.fm_frames.specs.declared.values.Value.{Value}
use Rattle.fm_frames.specs.declared.values.Value.TheVariants as value
use Rattle.fm_frames.specs.inner.Doings.{int_in}
use Rattle.fm_world.specs.Programs.{Outline}

-- ---- iadd and its like

-- what follows of two operands, and of the one on top
abbrev pub int_op_result : Outline → Option ℤ → Effect
int_op_result o result = or_thrown o result (λ n. words 2 (int_word n))

abbrev int_op_on : Outline → Op → List Sight → ℤ → Effect
int_op_on o op s b = on_int s 1 (λ a. int_op_result o (result_of_op op 32 a b))

pub int_op-first : (o : Outline) (op : Op) (store : Store) (stack : List Value) → None ≡ int_in (slice_get stack 0)
    → int_op_effect o op (sights o store stack) ≡ stuck
unfolding int_op_effect
int_op-first o op store stack none = int-seen o store stack 0 None (int_op_on o op (sights o store stack)) none

pub int_op-second : (o : Outline) (op : Op) (store : Store) (stack : List Value) (b : ℤ) → Some b ≡ int_in (slice_get stack 0)
    → None ≡ int_in (slice_get stack 1) → int_op_effect o op (sights o store stack) ≡ stuck
unfolding int_op_effect
int_op-second o op store stack b top none =
    int-seen o store stack 0 (Some b) (int_op_on o op (sights o store stack)) top
    ∙ int-seen o store stack 1 None (λ a. int_op_result o (result_of_op op 32 a b)) none

pub int_op-both : (o : Outline) (op : Op) (store : Store) (stack : List Value) (b a : ℤ) (result : Option ℤ)
    → Some b ≡ int_in (slice_get stack 0) → Some a ≡ int_in (slice_get stack 1) → result_of_op op 32 a b ≡ result
    → int_op_effect o op (sights o store stack) ≡ int_op_result o result
unfolding int_op_effect
int_op-both o op store stack b a result top below is =
    int-seen o store stack 0 (Some b) (int_op_on o op (sights o store stack)) top
    ∙ int-seen o store stack 1 (Some a) (λ a. int_op_result o (result_of_op op 32 a b)) below
    ∙ ap (int_op_result o) is

-- ---- locals

pub load-int : (kind : Reg) (k : ℕ) → kind ≡ reg.Int → load_effect kind k ≡ words 0 (OfLocal k ∷ [])
unfolding load_effect
load-int kind k is = ap (λ r. load_effect r k) is

pub load-long : (kind : Reg) (k : ℕ) → kind ≡ reg.Long → load_effect kind k ≡ words 0 (Plain value.Top ∷ OfLocal k ∷ [])
unfolding load_effect
load-long kind k is = ap (λ r. load_effect r k) is

pub load-ref : (kind : Reg) (k : ℕ) → kind ≡ reg.Ref → load_effect kind k ≡ words 0 (OfLocal k ∷ [])
unfolding load_effect
load-ref kind k is = ap (λ r. load_effect r k) is

pub store-int : (kind : Reg) (k : ℕ) → kind ≡ reg.Int → store_effect kind k ≡ record (words 1 []) { writes = (k, OfOperand 0) ∷ [] }
unfolding store_effect
store-int kind k is = ap (λ r. store_effect r k) is

pub store-long : (kind : Reg) (k : ℕ) → kind ≡ reg.Long
    → store_effect kind k ≡ record (words 2 []) { writes = (k, OfOperand 1) ∷ (k + 1, Plain value.Top) ∷ [] }
unfolding store_effect
store-long kind k is = ap (λ r. store_effect r k) is

pub store-ref : (kind : Reg) (k : ℕ) → kind ≡ reg.Ref → store_effect kind k ≡ record (words 1 []) { writes = (k, OfOperand 0) ∷ [] }
unfolding store_effect
store-ref kind k is = ap (λ r. store_effect r k) is
