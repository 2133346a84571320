-- How the runs of both programs open.
use Rattle.std.specs.Prelude.{◌≤◌}
use Rattle.fm_base.specs.declared.limits.TheConstants.{MAX_LIVE_WORDS}
use Rattle.fm_law_lockstep.specs.Both.{Both}
use Rattle.fm_law_lockstep.specs.Known.{IsLinked}
use Rattle.fm_law_lockstep.specs.Together.{OpeningsGoTogether}
use Rattle.fm_law_same_runs.specs.Beside.{most_original_words}
use Rattle.fm_law_unwoven.specs.WovenFrom.{IsWovenFrom}

-- they open together, where the second program is the first one with insertions, and each is given no more words than runs have that are compared
abbrev pub OpeningsAreTogether : Type 0
OpeningsAreTogether =
    (b : Both) → IsWovenFrom b.one b.other b.facts b.plans b.marks → IsLinked b.one b.facts → b.words ≤ most_original_words
    → b.other_words ≤ MAX_LIVE_WORDS → OpeningsGoTogether b
