use Rattle.std.proofs.Common.{◌≡◌, ◌∙◌, ◌++◌, ◌∷◌, [], length, map, ap, sym, append_assoc, arith}
use Rattle.std.specs.List.{range_with_len}
use Rattle.std.specs.Option.{option_map}
use Rattle.std.specs.Slice.Iter.{iter_rest}
use Rattle.fm_types.specs.Typings.{known_state}
use Rattle.fm_conn.proofs.TableLemmas.{first_of_none, next_more, starts_done, starts_more}
use Rattle.fm_conn.specs.inner.NodeTables.{first_word, table_in, words_of_state}
use Rattle.fm_conn.proofs.nodes.Nodes.of.Goals as goal

pub loop-state-init : goal.loop-state-init
loop-state-init c =
    let none = c.new-words.ensures.items in
    record {
      words = (λ k. none k ++ map words_of_state (map (option_map known_state) (c.into_iter-state-iterator.ensures.into_iter_gives.0 k)));
      starts = c.new-starts.ensures.items ∙ ap (λ words. map (first_word (table_in c.args.locals words)) (range_with_len 0 (length words))) (sym none);
      next = omega (arith, c.from-next.ensures, first_of_none c.args.locals, ap (λ words. first_word (table_in c.args.locals words) (length words)) none);
      few = omega (arith, c.from-next.ensures);
    }

pub loop-state-preserved : goal.loop-state-preserved
loop-state-preserved c =
    let words = c.loop-state.words.items in
    let w = c.in_ok-references.references.items in
    let pushed : c.push-in-loop-state.new.self.items ≡ words ++ w ∷ [] = c.in_ok-push-2.ensures.items ∙ ap (λ v. words ++ v ∷ []) c.new.ensures in
    record {
      words = (λ k. (pushed ∙ ap (λ v. words ++ v ∷ []) c.in_ok-references.ensures) k
          ++ map words_of_state (map (option_map known_state) (iter_rest c.next.new.self)))
          ∙ append_assoc words (words_of_state (option_map known_state c.in-Some.state.now) ∷ []) _
          ∙ ap (λ list. words ++ map words_of_state (map (option_map known_state) list)) (sym c.in-Some.ensures.steps)
          ∙ c.loop-state.invariant.words;
      starts = c.in_ok-push.ensures.items
          ∙ starts_more c.args.locals words w c.loop-state.starts.items c.loop-state.next c.loop-state.invariant.starts c.loop-state.invariant.next
          ∙ ap (λ list. map (first_word (table_in c.args.locals list)) (range_with_len 0 (length list))) (sym pushed);
      next = c.in_ok-next.ensures.sum ∙ (let e = next_more c.args.locals words w in omega (arith, c.loop-state.invariant.next, c.len.ensures))
          ∙ ap (λ list. first_word (table_in c.args.locals list) (length list)) (sym pushed);
      few = c.in_ok-next.ensures.few;
    }

pub invariant_of-result : goal.invariant_of-result
invariant_of-result c =
    let made = starts_done c.args.locals c.loop-state.words.items c.loop-state.starts.items c.loop-state.next c.loop-state.invariant.starts
    c.loop-state.invariant.next c.loop-state.invariant.few in
    rw c.in_ok-push-3.ensures.items made
