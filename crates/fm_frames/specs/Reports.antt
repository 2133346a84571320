-- The report of a run.
use Rattle.std.specs.List.{sum}
use Rattle.fm_cells.specs.Stores.{live_words}
use Rattle.fm_frames.specs.Runs.{end_of}
use Rattle.fm_frames.specs.States.{State}
use Rattle.fm_frames.specs.declared.report.Report.{Report}

-- how the run ended or that it goes on, the steps that were done, the objects made, those freed and their words, the words that live, the most that lived
-- at once, and the cells made
abbrev pub report_of : State → Report
report_of x = record {
  end = end_of x;
  steps = x.steps;
  objects = x.areas.store.births;
  frees = x.areas.frees;
  freed_words = x.areas.freed_words;
  live_words = live_words x.areas.store;
  peak_words = x.areas.store.peak;
  cells_made = sum x.areas.store.made;
}
