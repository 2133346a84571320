use Rattle.std.proofs.Common.{◌∙◌, subst, arith}
use Rattle.std.proofs.lemmas.List.{get_or_read}
use Rattle.std.specs.List.Sorted.{IsBinarySearchResult}
use Rattle.std.specs.Ordering.{nat_cmp}
use Rattle.std.proofs.Common.{List, ℕ, Ok, Err}
use Rattle.fm_summ.proofs.CodeLemmas.{number_found, number_missing, place_found}
use Rattle.fm_summ.proofs.renumbering.Renumbering.number.Goals as goal

pub returns-in-Ok : goal.returns-in-Ok
returns-in-Ok c =
    let names = c.args.self.now.names.items in
    let values = c.args.self.now.least.items in
    let found = subst (λ (list : List ℕ). IsBinarySearchResult (λ y. nat_cmp y c.args.n) list (Ok c.in-Ok.index)) c.as_slice.ensures.value c.in-Ok.ensures.position in
    let place = place_found names c.args.n c.in-Ok.index c.requires.rising found in
    get_or_read values c.in-Ok.index c.index.result.now (omega (arith, place.0, c.requires.one_each)) c.index.ensures 0
    ∙ number_found names values c.args.n c.in-Ok.index c.requires.rising c.requires.one_each found

pub returns-in-Err : goal.returns-in-Err
returns-in-Err c =
    let names = c.args.self.now.names.items in
    let found = subst (λ (list : List ℕ). IsBinarySearchResult (λ y. nat_cmp y c.args.n) list (Err c.in-Err.field-0)) c.as_slice.ensures.value c.in-Err.ensures.position in
    number_missing names c.args.self.now.least.items c.args.n c.in-Err.field-0 c.requires.rising found
