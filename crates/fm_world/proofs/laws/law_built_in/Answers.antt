use Rattle.fm_world.proofs.Example.{classes_are, methods_are, rows_are, free_row, throwable_row_is, last_throwable_row, hidden_is}
use Rattle.fm_world.proofs.laws.law_built_in.Goals as goal

pub returns-clause-classes : goal.returns-clause-classes
returns-clause-classes c = classes_are

pub returns-clause-methods : goal.returns-clause-methods
returns-clause-methods c = methods_are

pub returns-clause-rows : goal.returns-clause-rows
returns-clause-rows c = rows_are

pub returns-clause-free : goal.returns-clause-free
returns-clause-free c = free_row

pub returns-clause-throwable : goal.returns-clause-throwable
returns-clause-throwable c = throwable_row_is

pub returns-clause-last_throwable : goal.returns-clause-last_throwable
returns-clause-last_throwable c = last_throwable_row

pub returns-clause-hidden : goal.returns-clause-hidden
returns-clause-hidden c = hidden_is
