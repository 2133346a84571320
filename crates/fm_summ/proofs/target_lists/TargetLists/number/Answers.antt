use Rattle.std.proofs.Common.{◌∙◌, ap}
use Rattle.fm_summ.proofs.ListLemmas.{alike_is, kept_more, known_more, last_is}
use Rattle.fm_summ.specs.inner.Callers.{numbers_of}
use Rattle.fm_summ.proofs.target_lists.TargetLists.number.Goals as goal

pub targets-requires-clause-caller : goal.targets-requires-clause-caller
targets-requires-clause-caller c = c.requires.call.caller

pub targets-requires-clause-method : goal.targets-requires-clause-method
targets-requires-clause-method c = c.requires.call.method

pub targets-requires-clause-named : goal.targets-requires-clause-named
targets-requires-clause-named c = c.requires.call.named

pub returns-in-Some : goal.returns-in-Some
returns-in-Some c = record {
  known = c.requires.known;
  kept = record { each = λ n xs is. is };
  is = alike_is c.args.program.now c.args.self.now.lists.items c.args.self.now.calls.items c.in-Some.place c.args.call c.requires.known c.in-Some.ensures;
}

pub returns : goal.returns
returns c =
    let p = c.args.program.now in
    let before = c.args.self.now.lists.items in
    let list = c.in_ok-targets.targets in
    let pushed = c.in_ok-place.ensures in
    let is = c.in_ok-targets.ensures ∙ ap numbers_of c.as_slice.ensures.value ∙ c.in_ok-found.ensures in
    record {
      known = known_more p before _ c.args.self.now.calls.items _ list c.args.call c.requires.known pushed.lists pushed.calls is;
      kept = kept_more before _ list pushed.lists;
      is = last_is p before _ list c.args.call c.in_ok-place.place pushed.lists is pushed.is;
    }
