use Rattle.std.proofs.Common.{◌∙◌, List, ℕ, true, Contains, sym, subst, length-set}
use Rattle.std.proofs.lemmas.List.Elements.{Contains-push}
use Rattle.fm_summ.proofs.WaitLemmas.{push_inside, push_marked}
use Rattle.fm_summ.proofs.waiting.Waiting.push.Goals as goal

pub returns-in_ok-push_back-clause-kept : goal.returns-in_ok-push_back-clause-kept
returns-in_ok-push_back-clause-kept c =
    let queue = c.args.self.now.queue.items in
    let waits = c.args.self.now.waits.items in
    let method = c.args.method in
    let longer = c.in_ok-push_back.ensures.items in
    record {
      one_each = length-set waits method true ∙ c.requires.kept.one_each;
      inside = λ m found. push_inside queue method c.args.count c.requires.kept.inside c.requires.inside m (subst (λ (list : List ℕ). Contains list m) longer found);
      marked = λ m is.
          subst (λ (list : List ℕ). Contains list m) (sym longer) (push_marked queue method waits c.requires.kept.marked m is);
    }

pub returns-in_ok-push_back-clause-waits : goal.returns-in_ok-push_back-clause-waits
returns-in_ok-push_back-clause-waits c =
    subst (λ (list : List ℕ). Contains list c.args.method) (sym c.in_ok-push_back.ensures.items) (Contains-push c.args.self.now.queue.items c.args.method)
