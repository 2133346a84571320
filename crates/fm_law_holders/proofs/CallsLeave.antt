-- The state after a call, against the frame that made it and a result on top of the words below those of the call.
use Rattle.std.proofs.Common.{◌≡◌, ℕ, ◌+◌, List, ◌++◌, length, drop, Option, Some, None, option_to_list}
use Rattle.std.specs.List.{AllByRecursion}
use Rattle.fm_base.specs.declared.kinds.Kind.{Kind}
use Rattle.fm_base.specs.declared.kinds.TypeRef.{TypeRef}
use Rattle.fm_cells.specs.Stores.{Store}
use Rattle.fm_code.specs.declared.instructions.Insn.{Insn}
use Rattle.fm_types.specs.Named.{result_of, result_words}
use Rattle.fm_types.specs.Rows.{row_after}
use Rattle.fm_types.specs.States.{stack_slots, TypeState}
use Rattle.fm_world.specs.Programs.{Outline}
use Rattle.fm_world.specs.declared.uses.Use.{Use}
use Rattle.fm_frames.specs.declared.values.Value.{Value}
use Rattle.fm_law_sound.specs.Going.{ConstructorsGiveNothing}
use Rattle.fm_law_sound.specs.Sound.{words_of_call}
use Rattle.fm_law_sound.proofs.CallsLeft.{call_left, method_in}
use Rattle.fm_law_holders.specs.Uninitialised.{Made}
use Rattle.fm_law_holders.proofs.PlainRows.{kind_other}
use Rattle.fm_law_holders.proofs.Slots.{Are, AreAt, Is, others_are}
use Rattle.fm_types.proofs.EachCheckRow.{IsPlain}

-- ---- results

pub result_other : (given : Option Kind) → AllByRecursion IsPlain (stack_slots (option_to_list given))
result_other None = tt
result_other (Some k) = kind_other k

-- ---- the state after a call

module _ (o : Outline) (store : Store) (made : Made) (method : ℕ) (news : ℕ → Option TypeRef) (nothing_given : ConstructorsGiveNothing o) (s : TypeState) (named : ℕ) (locals words result : List Value) (in_locals : Are store made s.locals locals) (long : length result ≡ length (result_words o named)) where
  pub call_are : (i : Insn) (item count : ℕ) (u : Use) (after : TypeState) → words_of_call o i named ≡ Some count → method_in u ≡ Some named
      → Are store made (drop count s.stack) words → row_after o method item news u i s ≡ Some after → AreAt store made after locals (result ++ words)
  call_are i item count u after takes names in_stack row =
      let given : Are store made (result_words o named) result = others_are store made (result_words o named) result (result_other (result_of o named)) long in
      let are = call_left (Is store made) (Is store made) o method news (λ item t is. ((λ s v marked h. tt), (λ s v marked h. tt)))
      ((λ s v marked h. tt), (λ s v marked h. tt)) nothing_given s named locals words result in_locals given i item count u after takes names in_stack row in
      record { in_locals = are.in_locals; in_stack = are.in_stack }
