use Rattle.std.proofs.Common.{◌≡◌, ◌∙◌, ap, subst, arith, List, ℕ, Contains, length, eqb-true}
use Rattle.std.specs.Global.{Vec}
use Rattle.fm_rapid.proofs.Elements.{listed_there}
use Rattle.fm_flow.specs.inner.LiveWalks.{list_of}
use Rattle.fm_summ.specs.inner.Callers.{lists_of}
use Rattle.fm_rapid.proofs.walk.Walk.is_listed.Goals as goal

pub list_at-listed-requires : goal.list_at-listed-requires
list_at-listed-requires c =
    let same = ap (λ (lists : List (Vec ℕ)). length (lists_of lists)) c.as_slice.ensures.value in
    omega (arith, c.requires, same)

pub returns-in-Some-get : goal.returns-in-Some-get
returns-in-Some-get c = λ is.
    let listed : c.list_at-listed.result.now ≡ list_of (lists_of c.args.self.now.called.items) c.args.named =
    c.list_at-listed.ensures ∙ ap (λ (lists : List (Vec ℕ)). list_of (lists_of lists) c.args.named) c.as_slice.ensures.value in
    let there = listed_there c.list_at-listed.result.now c.in-Some.place.now c.in-Some-get.one.now c.in-Some-get.ensures.lookup.0
    c.in-Some-get.ensures.lookup.1 in
    subst (λ (xs : List ℕ). Contains xs c.args.method) listed (subst (λ (n : ℕ). Contains c.list_at-listed.result.now n) (eqb-true _ _ is) there)
