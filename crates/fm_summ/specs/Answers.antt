-- What the analysis returns for all methods of a program, and the facts that this makes.
use Rattle.std.specs.Prelude.{◌≡◌, ℕ, Some}
use Rattle.fm_code.specs.declared.code_array.Code.{Code}
use Rattle.fm_flow.specs.LiveRows.{is_live, IsLiveRowsOf}
use Rattle.fm_flow.specs.declared.live_rows.LiveRows.{LiveRows}
use Rattle.fm_types.specs.Typed.{IsTypingOf}
use Rattle.fm_world.specs.Programs.{code_at, Program}
use Rattle.fm_conn.specs.Classes.{class_of, AreClassesOf}
use Rattle.fm_conn.specs.Facts.{AreFacts, Facts}
use Rattle.fm_conn.specs.Links.{typed_method, Typings}
use Rattle.fm_conn.specs.Summaries.{is_linked, linked_by}
use Rattle.fm_conn.specs.declared.class_numbers.Classes.{Classes}
use Rattle.fm_conn.specs.declared.summaries.Summaries.{Summaries}
use Rattle.fm_summ.specs.Exact.{AreExact}

-- by the numbers of methods: the states of items, the live locals and the classes; and the summaries
pub record Answers : Type 0 where
  pub typings : Typings
  pub live : ℕ → LiveRows
  pub classes : ℕ → Classes
  pub summaries : Summaries

-- the results for a method that has code are those of checking, of liveness, and of classes by the
-- summaries
pub record AreAnswersOn (p : Program) (answers : Answers) (method : ℕ) (code : Code) : Type 0 where
  pub typing : IsTypingOf p method code (answers.typings method)
  pub live : IsLiveRowsOf code (answers.live method)
  pub classes : AreClassesOf (linked_by answers.summaries) (typed_method p answers.typings method code) (answers.classes method)

-- the summaries are exact, and so are the results for each method that has code
pub record AreAnswers (p : Program) (answers : Answers) : Type 0 where
  pub summaries : AreExact p answers.typings answers.summaries
  pub methods : (method : ℕ) (code : Code) → code_at p method ≡ Some code → AreAnswersOn p answers method code

-- the facts that they make, as tables
abbrev pub facts_of : Answers → Facts
facts_of answers = record {
  typing = answers.typings;
  linked = is_linked answers.summaries;
  live = λ method local item. is_live (answers.live method) local item;
  class = λ method node. class_of (answers.classes method) node;
}

-- what is returned for a program makes its facts
abbrev pub AnswersAreFacts : Type 0
AnswersAreFacts = (p : Program) (answers : Answers) → AreAnswers p answers → AreFacts p (facts_of answers)
