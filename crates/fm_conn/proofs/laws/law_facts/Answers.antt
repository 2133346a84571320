use Rattle.fm_conn.proofs.LinkLemmas.{classes_are_by_links, ends_of_one_class_are_linked, pairs_have_one_class}
use Rattle.fm_conn.proofs.laws.law_facts.Goals as goal

pub returns : goal.returns
returns c = record { pairs = pairs_have_one_class; ends = ends_of_one_class_are_linked; classes = classes_are_by_links }
