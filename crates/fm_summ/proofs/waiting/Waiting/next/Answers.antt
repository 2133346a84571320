use Rattle.std.proofs.Common.{◌<◌, ◌∙◌, ◌∷◌, List, ℕ, false, Contains, sym, subst, arith, length-set}
use Rattle.fm_code.proofs.EdgesLemmas.{Contains-later}
use Rattle.fm_conn.proofs.ListLemmas.{Contains-first}
use Rattle.fm_summ.proofs.WaitLemmas.{next_marked}
use Rattle.fm_summ.proofs.waiting.Waiting.next.Goals as goal

pub index_mut-requires : goal.index_mut-requires
index_mut-requires c =
    let front = c.in_ok-method.ensures.items in
    let here = c.requires.inside c.in_ok-method.method (subst (λ (list : List ℕ). Contains list c.in_ok-method.method) (sym front) (Contains-first c.in_ok-method.method c.pop_front.new.self.items)) in
    let ok = c.args.self.now.waits.ok.0 in omega (arith, here, c.requires.one_each)

pub returns-clause-kept : goal.returns-clause-kept
returns-clause-kept c =
    let front = c.in_ok-method.ensures.items in
    let method = c.in_ok-method.method in
    let rest = c.pop_front.new.self.items in
    let waits = c.args.self.now.waits.items in
    let inside : (m : ℕ) → Contains (method ∷ rest) m → m < c.args.count = λ m found. c.requires.inside m (subst (λ (list : List ℕ). Contains list m) (sym front) found) in
    record {
      one_each = length-set waits method false ∙ c.requires.one_each;
      inside = λ m found. inside m (Contains-later method rest m found);
      marked = next_marked method rest waits (let here = inside method (Contains-first method rest) in omega (arith, here, c.requires.one_each))
          (λ m is. subst (λ (list : List ℕ). Contains list m) front (c.requires.marked m is));
    }

pub returns-clause-first : goal.returns-clause-first
returns-clause-first c =
    let front = c.in_ok-method.ensures.items in
    (c.requires.inside c.in_ok-method.method (subst (λ (list : List ℕ). Contains list c.in_ok-method.method) (sym front) (Contains-first c.in_ok-method.method c.pop_front.new.self.items)), front)
