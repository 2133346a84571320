-- Where new items are among the laid ones, and in which form.
use Rattle.std.specs.Prelude.{◌≡◌, ℕ, ◌+◌, ◌⊎◌, Bool, List, Option, Some, slice_get, slice_index, if◌then◌else◌}
use Rattle.std.specs.Option.{option_map}
use Rattle.fm_code.specs.SpellsCode.{with_targets}
use Rattle.fm_code.specs.declared.code_array.Item.{Item}
use Rattle.fm_code.specs.declared.instructions.Insn.{Insn}
use Rattle.fm_code.specs.declared.instructions.Insn.TheVariants as insn
use Rattle.fm_layout.specs.Spelling.{conditional, opposite}
use Rattle.fm_layout.specs.declared.rooms.Condition.{Condition}

-- the instruction of an item, where there is that item
abbrev pub insn_of : List Item → ℕ → Option Insn
insn_of items number = option_map (λ (item : Item). item.insn) (slice_get items number)

-- the instruction is there with the first laid items of its targets
abbrev pub StandsWhole : List Item → List ℕ → ℕ → Insn → Type 0
StandsWhole laid firsts number i = insn_of laid number ≡ Some (with_targets (slice_index firsts) i)

-- a branch on a condition is there as the opposite test, which skips the goto_w behind it; where no new item follows it names the goto_w
pub record StandsSplit (laid : List Item) (firsts : List ℕ) (number : ℕ) (follows : Bool) (i : Insn) : Type 0 where
  pub condition : Condition
  pub target : ℕ
  pub branch : i ≡ conditional condition target
  pub test : insn_of laid number ≡ Some (conditional (opposite condition) (if follows then number + 2 else number + 1))
  pub jump : insn_of laid (number + 1) ≡ Some (insn.Goto (slice_index firsts target))

-- an instruction is at a laid item in one of the two forms
abbrev pub Stands : List Item → List ℕ → ℕ → Bool → Insn → Type 0
Stands laid firsts number follows i = StandsWhole laid firsts number i ⊎ StandsSplit laid firsts number follows i
