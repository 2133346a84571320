use Rattle.fm_law_unwoven.proofs.TodosDone.{todos_done}
use Rattle.fm_law_unwoven.proofs.laws.law_todos.Goals as goal

pub returns : goal.returns
returns c = todos_done
