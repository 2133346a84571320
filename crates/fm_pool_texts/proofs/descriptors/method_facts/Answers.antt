use Rattle.std.proofs.Common.{◌≡◌, ◌↔◌, List, ℕ, Some, sym, subst, arith}
use Rattle.fm_pool_texts.specs.Facts.{AreMethodFacts}
use Rattle.fm_pool_texts.proofs.DescriptorsLemmas.{cons_is}
use Rattle.fm_pool_texts.proofs.descriptors.method_facts.Goals as goal

pub returns-in-40 : goal.returns-in-40
returns-in-40 c = λ m.
    subst (λ (text : List ℕ). (c.method_facts_after.result ≡ Some m) ↔ AreMethodFacts text m) (sym (cons_is 40 c.args.descriptor.now (omega arith) (omega arith))) (c.method_facts_after.ensures m)
