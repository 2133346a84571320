use Rattle.std.proofs.Common.{◌≡◌, ◌∙◌, [], ℕ, List, Contains, get_or, subst, arith}
use Rattle.std.proofs.lemmas.List.{get_or_read, take_all}
use Rattle.std.proofs.lemmas.List.Elements.{Contains-get_or}
use Rattle.fm_flow.proofs.SourcesLemmas.{MarksRuns-more, MarksRuns-none}
use Rattle.fm_flow.specs.inner.LiveWalks.{list_of}
use Rattle.fm_flow.specs.inner.Sources.{MarksRuns}
use Rattle.fm_flow.specs.inner.Walks.{MarksRun}
use Rattle.fm_flow.proofs.live_walk.mark_runs.Goals as goal

pub index-requires-in-loop-run : goal.index-requires-in-loop-run
index-requires-in-loop-run c =
    let runs = c.args.runs.now in
    let i = c.loop-run.run-index in
    let list = c.as_slice-list.result.now in
    let run = get_or list i 0 in
    let are : list ≡ list_of runs.by_handler.items c.args.j =
    c.as_slice-list.ensures ∙ get_or_read runs.by_handler.items c.args.j c.index.result.now c.requires.inside c.index.ensures [] in
    let within = c.requires.within run (subst (λ (xs : List ℕ). Contains xs run) are (Contains-get_or list i 0 c.loop-run-test.true)) in
    let ok = runs.items.ok.0 in omega (arith, within, ok)

pub mark_run-requires : goal.mark_run-requires
mark_run-requires c =
    let runs = c.args.runs.now in
    let i = c.loop-run.run-index in
    let list = c.as_slice-list.result.now in
    let run = get_or list i 0 in
    let are : list ≡ list_of runs.by_handler.items c.args.j =
    c.as_slice-list.ensures ∙ get_or_read runs.by_handler.items c.args.j c.index.result.now c.requires.inside c.index.ensures [] in
    let there = subst (λ (xs : List ℕ). Contains xs run) are (Contains-get_or list i 0 c.loop-run-test.true) in
    let within = c.requires.within run there in
    let items : c.as_slice-items.result.now ≡ list_of runs.items.items run =
    c.as_slice-items.ensures ∙ get_or_read runs.items.items run c.index-in-loop-run.result.now within c.index-in-loop-run.ensures [] in
    let so_far = c.loop-run.invariant in
    let count = so_far.covers.one_each in
    let same = so_far.marks.same_length in
    record {
      inside = omega arith;
      below = λ x found. let low = c.requires.below run x (subst (λ (xs : List ℕ). Contains xs x) items found) in omega arith;
      marked = λ is_done x found. so_far.covers.each run x is_done (subst (λ (xs : List ℕ). Contains xs x) items found);
    }

pub loop-run-init : goal.loop-run-init
loop-run-init c = MarksRuns-none c.args.runs.now.items.items c.args.seen.now c.args.waiting.now.items c.args.done.now c.requires.covers

pub loop-run-preserved : goal.loop-run-preserved
loop-run-preserved c =
    let runs = c.args.runs.now in
    let i = c.loop-run.run-index in
    let list = c.as_slice-list.result.now in
    let run = get_or list i 0 in
    let are : list ≡ list_of runs.by_handler.items c.args.j =
    c.as_slice-list.ensures ∙ get_or_read runs.by_handler.items c.args.j c.index.result.now c.requires.inside c.index.ensures [] in
    let there = subst (λ (xs : List ℕ). Contains xs run) are (Contains-get_or list i 0 c.loop-run-test.true) in
    let within = c.requires.within run there in
    let items : c.as_slice-items.result.now ≡ list_of runs.items.items run =
    c.as_slice-items.ensures ∙ get_or_read runs.items.items run c.index-in-loop-run.result.now within c.index-in-loop-run.ensures [] in
    let marked = subst (λ (xs : List ℕ). MarksRun xs run c.loop-run.seen c.mark_run.new.seen c.loop-run.waiting.items c.mark_run.new.waiting.items c.loop-run.done c.mark_run.new.done)
    items c.in_ok-mark_run.ensures in
    MarksRuns-more runs.items.items list i c.args.seen.now c.loop-run.seen c.mark_run.new.seen c.args.waiting.now.items c.loop-run.waiting.items
    c.mark_run.new.waiting.items c.loop-run.done c.mark_run.new.done c.loop-run-test.true c.loop-run.invariant marked

pub returns : goal.returns
returns c =
    let runs = c.args.runs.now in
    let list = c.as_slice-list.result.now in
    let are : list ≡ list_of runs.by_handler.items c.args.j =
    c.as_slice-list.ensures ∙ get_or_read runs.by_handler.items c.args.j c.index.result.now c.requires.inside c.index.ensures [] in
    let All : List ℕ → Type 0 = λ xs. MarksRuns runs.items.items xs c.args.seen.now c.loop-run.seen c.args.waiting.now.items c.loop-run.waiting.items c.loop-run.done in
    subst All are (subst All (take_all c.loop-run.run-index list c.loop-run-test.false) c.loop-run.invariant)
