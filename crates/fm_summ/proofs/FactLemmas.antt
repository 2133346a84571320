-- The results of the analysis make the facts of a program.
use Rattle.fm_conn.proofs.LinkLemmas.{classes_are_by_links}
use Rattle.fm_summ.specs.Answers.{AnswersAreFacts}

pub answers_are_facts : AnswersAreFacts
answers_are_facts p answers are = record {
  linked = λ method a b first second. (
    λ told. are.summaries.links.no_more method a b told,
    λ linked. are.summaries.links.all method a b first second linked,
  );
  methods = λ method code is.
      let on = are.methods method code is in
      record {
        typing = on.typing;
        live = on.live.each;
        class = classes_are_by_links p answers.typings answers.summaries are.summaries.links method code (answers.classes method) on.classes;
      };
}
