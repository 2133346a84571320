-- Laid-out code is code.
use Rattle.std.proofs.Common.{ℕ, ◌≤◌, List, length, sym, subst}
use Rattle.fm_code.proofs.CodePrefixes.{AreBytes-items}
use Rattle.fm_code.specs.Fits.{AreBytes}
use Rattle.fm_code.specs.declared.code_array.TheConstants.{MAX_CODE_BYTES}
use Rattle.fm_code.specs.declared.code_array.Item.{Item}
use Rattle.fm_layout.specs.Conditions.{AreNewItems, AreOldItems}
use Rattle.fm_layout.specs.Laid.{IsCode, firsts_from, laid_length, laid_of}
use Rattle.fm_layout.specs.Rooms.{rooms_of, starts_from, widened_rooms}
use Rattle.fm_layout.specs.declared.new_items.NewItem.{NewItem}
use Rattle.fm_layout.proofs.BytesLemmas.{laid_bytes}
use Rattle.fm_layout.proofs.RoomsLemmas.{starts_within}
use Rattle.fm_layout.proofs.SpelledLemmas.{OldFacts, laid_spelled}
use Rattle.fm_layout.proofs.WideningLemmas.{rounds_wider, widened_settled}

old_facts : (old : List Item) → AreOldItems old → OldFacts old
old_facts old are = record { spelled = are.spelled.spelled; bytes = AreBytes-items old (subst (λ (code : List ℕ). AreBytes code) are.spelled.bytes_are are.bytes) }

pub laid_is_code : (old : List Item) (items : List NewItem) → AreOldItems old → AreNewItems old items → laid_length old items ≤ MAX_CODE_BYTES → IsCode (laid_of old items)
unfolding laid_of laid_length
laid_is_code old items are new short =
    let narrow = rooms_of old items in
    let rooms = widened_rooms narrow in
    let known = old_facts old are in
    let law = laid_spelled old items rooms known new.each new.targets (rounds_wider (length narrow) narrow) (widened_settled narrow) short (starts_within rooms short) in
    record {
      bytes = laid_bytes old (starts_from 0 rooms) (firsts_from 0 rooms) 0 0 items rooms known.bytes new.each;
      spelled = law.0;
      measured = sym law.1;
    }
