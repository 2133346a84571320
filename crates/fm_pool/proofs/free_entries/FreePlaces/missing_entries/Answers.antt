use Rattle.fm_pool.proofs.FreeEntriesLemmas.{all_placed}
use Rattle.fm_pool.proofs.free_entries.FreePlaces.missing_entries.Goals as goal

pub returns-clause-placed : goal.returns-clause-placed
returns-clause-placed c =
    (all_placed c.args.pool.now.entries c.args.self _ _ _ c.in_ok-class_text.class_text c.in_ok-class.class c.in_ok-method.method c.in_ok-method.descriptor _ _ _ _
    c.requires.found c.new.ensures.items c.len.ensures c.in_ok-class_text.ensures.count c.in_ok-class.ensures.count
    c.in_ok-class_text.ensures.placed c.in_ok-class.ensures.placed c.in_ok-method.ensures.placed).method_at

pub returns-clause-class : goal.returns-clause-class
returns-clause-class c =
    (all_placed c.args.pool.now.entries c.args.self _ _ _ c.in_ok-class_text.class_text c.in_ok-class.class c.in_ok-method.method c.in_ok-method.descriptor _ _ _ _
    c.requires.found c.new.ensures.items c.len.ensures c.in_ok-class_text.ensures.count c.in_ok-class.ensures.count
    c.in_ok-class_text.ensures.placed c.in_ok-class.ensures.placed c.in_ok-method.ensures.placed).class_at

pub returns-clause-descriptor : goal.returns-clause-descriptor
returns-clause-descriptor c =
    (all_placed c.args.pool.now.entries c.args.self _ _ _ c.in_ok-class_text.class_text c.in_ok-class.class c.in_ok-method.method c.in_ok-method.descriptor _ _ _ _
    c.requires.found c.new.ensures.items c.len.ensures c.in_ok-class_text.ensures.count c.in_ok-class.ensures.count
    c.in_ok-class_text.ensures.placed c.in_ok-class.ensures.placed c.in_ok-method.ensures.placed).descriptor_at
