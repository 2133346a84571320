use Rattle.std.proofs.Common.{◌≡◌, ◌++◌, [], ℕ, List, Contains, get_or, subst, arith}
use Rattle.std.proofs.lemmas.List.{get_or_read}
use Rattle.std.proofs.lemmas.List.Elements.{Contains-append_left, Contains-append_right}
use Rattle.fm_flow.proofs.ReachLemmas.{Marks-append}
use Rattle.fm_flow.proofs.RunLemmas.{Covers-kept, Covers-more}
use Rattle.fm_flow.specs.inner.Walks.{MarksRun}
use Rattle.fm_flow.specs.Marking.{Marks}
use Rattle.fm_flow.proofs.edge_tables.EdgeTables.mark_from.Goals as goal

pub mark-requires : goal.mark-requires
mark-requires c = λ x found.
    let e = c.args.self.now in
    let own = get_or e.own c.args.j [] in
    let caught = get_or e.caught (get_or e.runs.items c.args.j 0) [] in
    let there : Contains own x = subst (λ (xs : List ℕ). Contains xs x) c.list.ensures found in
    let low = c.requires.within.ends c.args.j x c.requires.item (Contains-append_left own caught x there) in
    let row = c.requires.row in omega arith

pub index-run-requires : goal.index-run-requires
index-run-requires c =
    let each = c.requires.within.one_each in
    let item = c.requires.item in
    let ok = c.args.self.now.runs.ok.0 in omega (arith, each, item, ok)

pub list-requires-2 : goal.list-requires-2
list-requires-2 c =
    let e = c.args.self.now in
    let each = c.requires.within.one_each in
    let item = c.requires.item in
    let run_is : c.index-run.result.now ≡ get_or e.runs.items c.args.j 0 = get_or_read e.runs.items c.args.j c.index-run.result.now (omega arith) c.index-run.ensures 0 in
    let low = c.requires.within.each_run c.args.j item in omega arith

pub mark_run-requires : goal.mark_run-requires
mark_run-requires c =
    let e = c.args.self.now in
    let j = c.args.j in
    let run = c.index-run.result.now in
    let own = get_or e.own j [] in
    let each = c.requires.within.one_each in
    let item = c.requires.item in
    let run_is : run ≡ get_or e.runs.items j 0 = get_or_read e.runs.items j run (omega arith) c.index-run.ensures 0 in
    let low = c.requires.within.each_run j c.requires.item in
    let list : c.list-2.result.now ≡ get_or e.caught run [] = c.list-2.ensures in
    let there : (x : ℕ) → Contains c.list-2.result.now x → Contains (get_or e.caught run []) x = λ x found. subst (λ (xs : List ℕ). Contains xs x) list found in
    let marks = c.in_ok-mark.ensures in
    let same = marks.same_length in
    let row = c.requires.row in
    let count = c.requires.covers.one_each in
    record {
      inside = omega arith;
      below = λ x found.
          let ends = c.requires.within.ends j x c.requires.item
          (Contains-append_right own (get_or e.caught (get_or e.runs.items j 0) []) x (subst (λ (r : ℕ). Contains (get_or e.caught r []) x) run_is (there x found))) in
          omega arith;
      marked = λ is x found. marks.kept x (c.requires.covers.each run x is (there x found));
    }

pub returns : goal.returns
returns c =
    let e = c.args.self.now in
    let j = c.args.j in
    let run = c.index-run.result.now in
    let own = get_or e.own j [] in
    let each = c.requires.within.one_each in
    let item = c.requires.item in
    let run_is : run ≡ get_or e.runs.items j 0 = get_or_read e.runs.items j run (omega arith) c.index-run.ensures 0 in
    let caught : c.list-2.result.now ≡ get_or e.caught run [] = c.list-2.ensures in
    let first = subst (λ (xs : List ℕ). Marks xs c.args.row.now c.mark.new.reached c.args.waiting.now.items c.mark.new.waiting.items) c.list.ensures c.in_ok-mark.ensures in
    let second = subst (λ (xs : List ℕ). MarksRun xs run c.mark.new.reached c.mark_run.new.seen c.mark.new.waiting.items c.mark_run.new.waiting.items c.args.done.now c.mark_run.new.done)
    caught c.in_ok-mark_run.ensures in
    let marks = Marks-append own (get_or e.caught run []) c.args.row.now c.mark.new.reached c.mark_run.new.seen c.args.waiting.now.items c.mark.new.waiting.items
    c.mark_run.new.waiting.items first second.marks in
    record {
      marks = subst (λ (r : ℕ). Marks (own ++ get_or e.caught r []) c.args.row.now c.mark_run.new.seen c.args.waiting.now.items c.mark_run.new.waiting.items) run_is marks;
      covers = Covers-more e.caught run c.mark.new.reached c.mark_run.new.seen c.mark.new.waiting.items c.mark_run.new.waiting.items c.args.done.now
          c.mark_run.new.done (Covers-kept e.caught c.args.done.now c.args.row.now c.mark.new.reached c.requires.covers first.kept) second;
    }
