-- The instructions that only move words of the stack (JVMS 6.5.pop, 6.5.dup and its like, 6.5.swap). A stack has its top first.
use Rattle.std.specs.Prelude.{ℕ, List, [], ◌∷◌, ◌++◌, length, drop, Option, Some, None, option_and_then, nat_lt, if◌then◌else◌, slice_get}
use Rattle.std.specs.Option.{option_map}
use Rattle.fm_code.specs.declared.instructions.Insn.{Insn}
use Rattle.fm_code.specs.declared.instructions.Insn.TheVariants as insn

-- a given number of words are taken, and the new ones are those at these places of the old stack, counted from its top
pub record Moves : Type 0 where
  pub takes : ℕ
  pub gives : List ℕ

-- a move of a given number of words, which leaves these
abbrev pub moving : ℕ → List ℕ → Option Moves
moving takes gives = Some (record { takes = takes; gives = gives })

-- what each of them moves; none for other instructions
abbrev pub moves_of : Insn → Option Moves
moves_of insn.Pop = moving 1 []
moves_of insn.Pop2 = moving 2 []
moves_of insn.Dup = moving 1 (0 ∷ 0 ∷ [])
moves_of insn.DupX1 = moving 2 (0 ∷ 1 ∷ 0 ∷ [])
moves_of insn.DupX2 = moving 3 (0 ∷ 1 ∷ 2 ∷ 0 ∷ [])
moves_of insn.Dup2 = moving 2 (0 ∷ 1 ∷ 0 ∷ 1 ∷ [])
moves_of insn.Dup2X1 = moving 3 (0 ∷ 1 ∷ 2 ∷ 0 ∷ 1 ∷ [])
moves_of insn.Dup2X2 = moving 4 (0 ∷ 1 ∷ 2 ∷ 3 ∷ 0 ∷ 1 ∷ [])
moves_of insn.Swap = moving 2 (1 ∷ 0 ∷ [])
moves_of i = None

-- the words at these places of a stack, where it is deep enough
abbrev pub words_at : {A : Type 0} → List A → List ℕ → Option (List A)
words_at stack [] = Some []
words_at stack (place ∷ places) = option_and_then (λ word. option_map (λ words. word ∷ words) (words_at stack places)) (slice_get stack place)

-- the stack after the moves, where it is deep enough
abbrev pub moved : {A : Type 0} → Moves → List A → Option (List A)
moved m stack = if nat_lt (length stack) m.takes then None else option_map (λ words. words ++ drop m.takes stack) (words_at stack m.gives)
