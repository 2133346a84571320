use Rattle.std.proofs.Common.{List, [], Option, sym, subst, arith}
use Rattle.std.proofs.lemmas.List.{take_all}
use Rattle.fm_code.specs.declared.constant_pool.Entry.{Entry}
use Rattle.fm_pool_texts.specs.declared.facts.TextFacts.{TextFacts}
use Rattle.fm_pool_texts.proofs.FactsLemmas.{AreListed, listed_next, listed_all}
use Rattle.fm_pool_texts.proofs.facts.facts_of_entries.Goals as goal

pub loop-entry-init : goal.loop-entry-init
loop-entry-init c = subst (λ (fs : List (Option TextFacts)). AreListed [] fs) (sym (c.in_ok-facts.ensures.items)) tt

pub loop-entry-preserved : goal.loop-entry-preserved
loop-entry-preserved c =
    listed_next c.args.entries.now c.loop-entry.entry-index c.entry-item.result c.loop-entry.facts.items c.push.new.self.items c.facts_of_entry.result c.loop-entry-test.true c.entry-item.is
    c.in_ok-push.ensures.items c.loop-entry.invariant c.facts_of_entry.ensures

pub returns : goal.returns
returns c =
    listed_all c.args.entries.now c.loop-entry.facts.items
    (subst (λ (es : List Entry). AreListed es c.loop-entry.facts.items) (take_all c.loop-entry.entry-index c.args.entries.now (omega arith)) c.loop-entry.invariant)
