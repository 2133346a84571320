-- Facts of one method, made of its classes and the summaries of all methods.
use Rattle.std.specs.Prelude.{[], false}
use Rattle.fm_conn.specs.Classes.{class_of}
use Rattle.fm_conn.specs.Facts.{Facts}
use Rattle.fm_conn.specs.Summaries.{is_linked}
use Rattle.fm_conn.specs.declared.class_numbers.Classes.{Classes}
use Rattle.fm_conn.specs.declared.summaries.Summaries.{Summaries}

-- they have no states, which sites have from the method, and of live locals, which they don't look
-- at
abbrev pub facts_by : Classes → Summaries → Facts
facts_by classes summaries = record {
  typing = λ method. [];
  linked = is_linked summaries;
  live = λ method local item. false;
  class = λ method. class_of classes;
}
