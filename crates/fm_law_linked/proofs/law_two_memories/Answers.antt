use Rattle.fm_world.specs.Programs.{program_of}
use Rattle.fm_law_linked.proofs.law_two_memories.Goals as goal

pub returns : goal.returns
returns c = record {
  alike = λ given main spelled supported none few typings typed no_free.
      let plain = c.law_without_frees.ensures given main spelled supported none few typings typed no_free in (
        c.law_runs.ensures.alike (program_of given main) typings plain,
        c.law_runs.ensures.same (program_of given main) typings plain,
        c.law_runs.ensures.ends (program_of given main) typings plain,
      );
  limited = λ given main spelled supported none few typings typed no_free.
      let plain = c.law_without_frees.ensures given main spelled supported none few typings typed no_free in (
        c.law_memories.ensures.states (program_of given main) typings plain,
        c.law_memories.ensures.runs (program_of given main) typings plain,
      );
}
