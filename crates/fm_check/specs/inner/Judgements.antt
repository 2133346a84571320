-- What the checker's result means for the code that was walked over.
use Rattle.std.specs.Prelude.{Ok, Err, Result}
use Rattle.fm_check.specs.Checking.{IsNarrow, IsTooWide}
use Rattle.fm_check.specs.declared.error.CheckFail.{CheckFail}
use Rattle.fm_check.specs.declared.error.CheckFail.TheVariants as fail
use Rattle.fm_check.specs.inner.Steps.{IsLeast}
use Rattle.fm_check_walk.specs.inner.Walks.{Untypable}
use Rattle.fm_check_walk.specs.inner.Tasks.{Task}
use Rattle.fm_types.specs.Typings.{states_of}
use Rattle.fm_types.specs.declared.states.Typing.{Typing}

-- Ok has the least typing; TooWide and NotTyped come for their causes alone
abbrev pub Judged : Task → Result Typing CheckFail → Type 0
Judged t (Ok typing) = IsNarrow t.code × IsLeast t (states_of typing)
Judged t (Err (fail.TooWide count)) = IsTooWide t.code count
Judged t (Err fail.NotTyped) = IsNarrow t.code × Untypable t
Judged t (Err fail.NoMemory) = Unit {0}
