use Rattle.std.proofs.Common.{◌<◌, ◌∙◌, Some, ap, arith, length, sym}
use Rattle.std.proofs.lemmas.Option.{slice_get-get_or}
use Rattle.fm_summ.proofs.target_lists.TargetLists.find.Goals as goal

pub returns-then-leads_alike : goal.returns-then-leads_alike
returns-then-leads_alike c =
    let calls = c.args.self.now.calls in
    let place = c.in_ok-place.field-0.now in
    let inside : place < length calls.items = let ok = calls.ok.0 in omega (arith, c.if-place-len.false, c.len.ensures) in
    record {
      one = c.index.result.now;
      there = slice_get-get_or calls.items place c.index.result.now inside ∙ ap Some (sym c.index.ensures);
      alike = c.leads_alike.ensures c.if-leads_alike.true;
    }
