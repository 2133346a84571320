use Rattle.std.proofs.Common.{◌∷◌, ◌↔◌, ◌<◌, ◌^◌, length}
use Rattle.fm_pool_texts.specs.Facts.{AreMethodFacts}
use Rattle.fm_pool_texts.specs.declared.descriptors.MethodFacts.{MethodFacts}
use Rattle.fm_pool_texts.proofs.MethodDescriptors.{IsMethodRest}
use Rattle.fm_pool_texts.proofs.descriptors.method_facts_after.Given as goal

-- the rest decides
abbrev pub invariant-loop-after : goal.invariant-loop-after
invariant-loop-after l = record { fits : l.words < 2 ^ 32; decides : (m : MethodFacts) → AreMethodFacts (40 ∷ l.bytes) m ↔ IsMethodRest m l.words l.rest }

abbrev pub decreases-loop-after : goal.decreases-loop-after
decreases-loop-after l = length l.rest
