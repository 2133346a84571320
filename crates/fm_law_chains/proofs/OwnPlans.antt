-- All that is inserted with chains is safe.
use Rattle.std.proofs.Common.{ℕ, List}
use Rattle.fm_chain.specs.SafeChains.{FullChainsOf, SafeChainsOf}
use Rattle.fm_code.specs.declared.class_file.ClassDef.{ClassDef}
use Rattle.fm_law_same_runs.specs.Beside.{Marks}
use Rattle.fm_place.proofs.FullLemmas.{method-safe}
use Rattle.fm_place.specs.Safe.{full_plans}
use Rattle.fm_world.specs.Programs.{Program}

-- with these facts and plans
abbrev pub own_chains : (p : Program) (given written : List ClassDef) (marks : Marks) → FullChainsOf p given written marks → SafeChainsOf p given written marks
own_chains p given written marks full = record {
  facts = full.facts;
  exact = full.exact;
  plans = full_plans p full.facts;
  methods = method-safe p full.facts;
  written_is = full.written_is;
  marks_are = full.marks_are;
}
