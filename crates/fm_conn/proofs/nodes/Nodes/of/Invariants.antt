use Rattle.std.proofs.Common.{◌≡◌, ◌^◌, ◌<◌, ◌++◌, length, map}
use Rattle.std.specs.List.{range_with_len}
use Rattle.std.specs.Option.{option_map}
use Rattle.std.specs.Slice.Iter.{iter_rest}
use Rattle.fm_types.specs.Typings.{known_state, states_of}
use Rattle.fm_conn.specs.inner.NodeTables.{first_word, table_in, words_of_state}
use Rattle.fm_conn.proofs.nodes.Nodes.of.Given as goal

abbrev pub invariant-loop-state : goal.invariant-loop-state
invariant-loop-state l = record {
  words : l.words.items ++ map words_of_state (map (option_map known_state) (iter_rest l.state-iterator)) ≡ map words_of_state (states_of l.typing);
  starts : l.starts.items ≡ map (first_word (table_in l.locals l.words.items)) (range_with_len 0 (length l.words.items));
  next : l.next ≡ first_word (table_in l.locals l.words.items) (length l.words.items);
  few : l.next < 2 ^ 32;
}
