-- Exact facts over least typings serve alike where holders of sites in loops hold chains.
use Rattle.std.specs.Prelude.{◌≡◌, List}
use Rattle.fm_chain.specs.Chaining.{chained_classes, chained_marks_with}
use Rattle.fm_chain.specs.SafeChains.{full_chains}
use Rattle.fm_code.specs.declared.class_file.ClassDef.{ClassDef}
use Rattle.fm_conn.specs.Facts.{Facts}
use Rattle.fm_law_beside_freeme.specs.Exact.{AreLeastFacts}
use Rattle.fm_place.specs.Rewriting.{Plans}
use Rattle.fm_rewrite.specs.Rewritten.{counts_of}
use Rattle.fm_rewrite.specs.Causes.{first_cause}
use Rattle.fm_world.specs.Programs.{Program}

-- by both plans the given classes are written alike, with the same marks and counts, and the first cause against it is the same
pub record ServeChainsAlike (given : List ClassDef) (plans others : Plans) : Type 0 where
  pub written : chained_classes plans given ≡ chained_classes others given
  pub marks : chained_marks_with plans given ≡ chained_marks_with others given
  pub counts : counts_of plans given ≡ counts_of others given
  pub cause : first_cause plans given ≡ first_cause others given

-- full plans by exact facts over least typings do, whichever facts are taken
abbrev pub LeastFactsServeChains : Type 0
LeastFactsServeChains =
    (given : List ClassDef) (p : Program) (facts others : Facts) → AreLeastFacts p facts → AreLeastFacts p others
    → ServeChainsAlike given (full_chains p facts) (full_chains p others)
