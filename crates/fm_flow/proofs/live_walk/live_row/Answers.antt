use Rattle.std.proofs.Common.{◌≡◌, ◌∙◌, ◌+◌, ◌<◌, [], List, Bool, ℕ, false, replicate, length, Contains, inl, ap, sym, subst, arith}
use Rattle.std.proofs.lemmas.List.{get_or_read, nil_from_length, length_push, length-replicate}
use Rattle.fm_code.proofs.EdgesLemmas.{insn_inside}
use Rattle.fm_code.specs.Edges.{IsEdge}
use Rattle.fm_code.specs.Live.{Loads}
use Rattle.fm_code.specs.declared.operations.Reg.TheVariants as reg
use Rattle.fm_code.specs.declared.instructions.Insn.TheVariants as insn
use Rattle.fm_flow.proofs.LiveLemmas.{stored_inside, Tracing-first, Tracing-more, tracing_inside, IsLiveRow-all}
use Rattle.fm_flow.proofs.ReachLemmas.{edge_from_item, Marks-append}
use Rattle.fm_flow.proofs.RunLemmas.{Covers-kept, Covers-none}
use Rattle.fm_flow.proofs.SourcesLemmas.{came_from-is}
use Rattle.fm_flow.specs.inner.LiveWalks.{list_of, Tracing}
use Rattle.fm_flow.specs.inner.Sources.{came_from, items_of}
use Rattle.fm_flow.specs.Marking.{Marks, unset}
use Rattle.fm_flow.proofs.live_walk.live_row.Goals as goal

pub mark-requires : goal.mark-requires
mark-requires c = λ j found.
    let code = c.args.code.now in
    let k = c.args.local in
    let stores = c.args.uses.now.stores.items in
    let below : c.from.result < length stores = omega (arith, c.requires.uses.stored.one_each, c.requires.local, c.from.ensures) in
    let are : c.as_slice-stores.result.now ≡ list_of stores k =
    c.as_slice-stores.ensures ∙ get_or_read stores c.from.result c.index.result.now below c.index.ensures [] ∙ ap (list_of stores) c.from.ensures in
    let inside = stored_inside code k j ((c.requires.uses.stored.each k c.requires.local j).0 (subst (λ (list : List ℕ). Contains list j) are found)) in
    let bits = ap (λ (row : List Bool). length row) c.in_ok-seen.ensures in
    omega (arith, inside, bits, length-replicate c.item_count-2.result false, c.item_count-2.ensures.count)

pub mark-requires-2 : goal.mark-requires-2
mark-requires-2 c = λ j found.
    let code = c.args.code.now in
    let k = c.args.local in
    let loads = c.args.uses.now.loads.items in
    let below : c.from-2.result < length loads = omega (arith, c.requires.uses.loaded.one_each, c.requires.local, c.from-2.ensures) in
    let are : c.as_slice-loads.result.now ≡ list_of loads k =
    c.as_slice-loads.ensures ∙ get_or_read loads c.from-2.result c.index-2.result.now below c.index-2.ensures [] ∙ ap (list_of loads) c.from-2.ensures in
    let loaded : Loads code k j = (c.requires.uses.loaded.each k c.requires.local j).0 (subst (λ (list : List ℕ). Contains list j) are found) in
    let inside = insn_inside code j (insn.Load reg.Ref k) loaded in
    let bits = ap (λ (row : List Bool). length row) c.in_ok-seen.ensures in
    omega (arith, inside, bits, c.in_ok-mark.ensures.same_length, length-replicate c.item_count-2.result false, c.item_count-2.ensures.count)

pub run_count-requires : goal.run_count-requires
run_count-requires c = let few = c.requires.sources.runs.few in omega (arith, few, c.item_count.ensures.count, c.item_count.ensures.few)

pub loop-j-init : goal.loop-j-init
loop-j-init c =
    let code = c.args.code.now in
    let k = c.args.local in
    let n = length code.items in
    let stores = c.args.uses.now.stores.items in
    let loads = c.args.uses.now.loads.items in
    let stores_below : c.from.result < length stores = omega (arith, c.requires.uses.stored.one_each, c.requires.local, c.from.ensures) in
    let loads_below : c.from-2.result < length loads = omega (arith, c.requires.uses.loaded.one_each, c.requires.local, c.from-2.ensures) in
    let stores_are : c.as_slice-stores.result.now ≡ list_of stores k =
    c.as_slice-stores.ensures ∙ get_or_read stores c.from.result c.index.result.now stores_below c.index.ensures [] ∙ ap (list_of stores) c.from.ensures in
    let loads_are : c.as_slice-loads.result.now ≡ list_of loads k =
    c.as_slice-loads.ensures ∙ get_or_read loads c.from-2.result c.index-2.result.now loads_below c.index-2.ensures [] ∙ ap (list_of loads) c.from-2.ensures in
    let row_is : c.in_ok-row.row ≡ replicate n false = c.in_ok-row.ensures ∙ ap (λ m. replicate m false) c.item_count.ensures.count in
    let seen_is : c.in_ok-seen.seen ≡ replicate n false = c.in_ok-seen.ensures ∙ ap (λ m. replicate m false) c.item_count-2.ensures.count in
    let left = c.mark.new.waiting.items in
    let waiting = c.mark-2.new.waiting.items in
    let stored = c.mark.new.reached in
    let seen = c.mark-2.new.reached in
    let first : Marks (list_of stores k) (replicate n false) stored [] left =
    subst (λ (list : List ℕ). Marks list (replicate n false) stored [] left) stores_are
    (subst (λ (row : List Bool). Marks c.as_slice-stores.result.now row stored [] left) seen_is
    (subst (λ (items : List ℕ). Marks c.as_slice-stores.result.now c.in_ok-seen.seen stored items left) c.new-waiting.ensures.items c.in_ok-mark.ensures)) in
    let second : Marks (list_of loads k) stored seen [] waiting =
    subst (λ (list : List ℕ). Marks list stored seen [] waiting) loads_are
    (subst (λ (items : List ℕ). Marks c.as_slice-loads.result.now stored seen items waiting) c.clear.ensures.items c.in_ok-mark-2.ensures) in
    let tracing : Tracing code k c.in_ok-row.row seen waiting =
    subst (λ (row : List Bool). Tracing code k row seen waiting) (sym row_is)
    (Tracing-first code k (list_of stores k) (list_of loads k) stored seen left waiting (c.requires.uses.stored.each k c.requires.local)
    (c.requires.uses.loaded.each k c.requires.local) first second) in
    record {
      tracing = tracing;
      covers = rw c.in_ok-done.ensures
          (Covers-none c.args.sources.now.runs.items.items c.run_count.result seen c.run_count.ensures);
    }

pub set-requires : goal.set-requires
set-requires c =
    let before = subst (λ (waiting : List ℕ). Tracing c.args.code.now c.args.local c.loop-j.row c.loop-j.seen waiting) c.in-Some.ensures.items c.loop-j.invariant.tracing in
    let inside = tracing_inside c.args.code.now c.args.local c.loop-j.row c.loop-j.seen c.pop.new.self.items c.in-Some.j before in
    let bits = c.loop-j.invariant.tracing.row_bits in omega arith

pub index-requires-in-Some : goal.index-requires-in-Some
index-requires-in-Some c =
    let before = subst (λ (waiting : List ℕ). Tracing c.args.code.now c.args.local c.loop-j.row c.loop-j.seen waiting) c.in-Some.ensures.items c.loop-j.invariant.tracing in
    let inside = tracing_inside c.args.code.now c.args.local c.loop-j.row c.loop-j.seen c.pop.new.self.items c.in-Some.j before in
    let count = c.requires.sources.own.one_each in omega arith

pub mark-requires-in-Some : goal.mark-requires-in-Some
mark-requires-in-Some c = λ x found.
    let code = c.args.code.now in
    let j = c.in-Some.j in
    let own = c.args.sources.now.own.items in
    let before = subst (λ (waiting : List ℕ). Tracing code c.args.local c.loop-j.row c.loop-j.seen waiting) c.in-Some.ensures.items c.loop-j.invariant.tracing in
    let inside = tracing_inside code c.args.local c.loop-j.row c.loop-j.seen c.pop.new.self.items j before in
    let count = c.requires.sources.own.one_each in
    let list : c.as_slice.result.now ≡ list_of own j = c.as_slice.ensures ∙ get_or_read own j c.index-in-Some.result.now (omega arith) c.index-in-Some.ensures [] in
    let edge : IsEdge code x j = inl ((c.requires.sources.own.each j inside x).0 (subst (λ (xs : List ℕ). Contains xs x) list found)) in
    let from = edge_from_item code x j edge in
    let bits = c.loop-j.invariant.tracing.seen_bits in omega arith

pub mark_runs-requires : goal.mark_runs-requires
mark_runs-requires c =
    let code = c.args.code.now in
    let j = c.in-Some.j in
    let runs = c.requires.sources.runs.runs in
    let before = subst (λ (waiting : List ℕ). Tracing code c.args.local c.loop-j.row c.loop-j.seen waiting) c.in-Some.ensures.items c.loop-j.invariant.tracing in
    let inside = tracing_inside code c.args.local c.loop-j.row c.loop-j.seen c.pop.new.self.items j before in
    let bits = c.loop-j.invariant.tracing.seen_bits in
    let marks = c.in_ok-mark-3.ensures in
    let same = marks.same_length in
    record {
      inside = let count = runs.one_each in omega arith;
      within = λ r found. runs.within j r found;
      below = λ r x found. let low = runs.below r x found in omega arith;
      covers = Covers-kept c.args.sources.now.runs.items.items c.loop-j.done c.loop-j.seen c.mark-in-Some.new.reached c.loop-j.invariant.covers marks.kept;
    }

pub loop-j-preserved : goal.loop-j-preserved
loop-j-preserved c =
    let code = c.args.code.now in
    let k = c.args.local in
    let s = c.args.sources.now in
    let j = c.in-Some.j in
    let own = s.own.items in
    let rest = c.pop.new.self.items in
    let before = subst (λ (waiting : List ℕ). Tracing code k c.loop-j.row c.loop-j.seen waiting) c.in-Some.ensures.items c.loop-j.invariant.tracing in
    let inside = tracing_inside code k c.loop-j.row c.loop-j.seen rest j before in
    let count = c.requires.sources.own.one_each in
    let list : c.as_slice.result.now ≡ list_of own j = c.as_slice.ensures ∙ get_or_read own j c.index-in-Some.result.now (omega arith) c.index-in-Some.ensures [] in
    let first = subst (λ (xs : List ℕ). Marks xs c.loop-j.seen c.mark-in-Some.new.reached rest c.mark-in-Some.new.waiting.items) list c.in_ok-mark-3.ensures in
    let second = c.in_ok-mark_runs.ensures.marks in
    let marks = Marks-append (list_of own j) (items_of s.runs.items.items (list_of s.runs.by_handler.items j)) c.loop-j.seen c.mark-in-Some.new.reached
    c.mark_runs.new.seen rest c.mark-in-Some.new.waiting.items c.mark_runs.new.waiting.items first second in
    record {
      tracing = rw c.set.ensures
          (Tracing-more code k (came_from s j) c.loop-j.row c.loop-j.seen c.mark_runs.new.seen rest c.mark_runs.new.waiting.items j
          (came_from-is code s j c.requires.sources inside) before marks);
      covers = c.in_ok-mark_runs.ensures.covers;
    }

pub loop-j-smaller : goal.loop-j-smaller
loop-j-smaller c =
    let own : unset c.mark-in-Some.new.reached + length c.mark-in-Some.new.waiting.items ≡ unset c.loop-j.seen + length c.pop.new.self.items = c.in_ok-mark-3.ensures.work in
    let runs : unset c.mark_runs.new.seen + length c.mark_runs.new.waiting.items ≡ unset c.mark-in-Some.new.reached + length c.mark-in-Some.new.waiting.items = c.in_ok-mark_runs.ensures.marks.work in
    let longer : length c.loop-j.waiting.items ≡ length c.pop.new.self.items + 1 =
    ap length c.in-Some.ensures.items ∙ length_push c.pop.new.self.items c.in-Some.j in
    omega arith

pub returns : goal.returns
returns c =
    let empty : c.loop-j.waiting.items ≡ [] = nil_from_length c.loop-j.waiting.items (let ok = c.loop-j.waiting.ok.0 in omega (arith, c.in_default.ensures.cases.0)) in
    IsLiveRow-all c.args.code.now c.args.local c.loop-j.row c.loop-j.seen
    (subst (λ (waiting : List ℕ). Tracing c.args.code.now c.args.local c.loop-j.row c.loop-j.seen waiting) empty c.loop-j.invariant.tracing)
