use Rattle.std.proofs.Common.{◌≡◌, ◌+◌, ℕ, List, Option, Some, None, take, length, refl, subst, sym, ap, ◌∙◌}
use Rattle.std.specs.Prelude.{option_copied}
use Rattle.std.proofs.lemmas.List.{take_all}
use Rattle.std.proofs.lemmas.Map.Text.{btree_map_updates_str}
use Rattle.fm_code.specs.declared.constant_pool.Entry.{Entry}
use Rattle.fm_pool_texts.proofs.TextsInTurn.{HasNumbers, HasNumbers-known, HasNumbers-new, HasNumbers-turn, HasNumbers-all, no_text, Learns, Learns-from_update, IsNumbered, known_of}
use Rattle.fm_pool_texts.specs.inner.Entries.{own_text}
use Rattle.fm_pool_texts.proofs.text_numbers.TextNumbers.of.Goals as goal
use Rattle.fm_pool_texts.proofs.text_numbers.TextNumbers.of.Goals.{in-Utf8+in-Some, in-Utf8+in-None+in_ok-insert-in-None, in_default}

pub loop-entry-preserved : goal.loop-entry-preserved
loop-entry-preserved c =
    let entries = c.args.entries.now in
    let i = c.loop-entry.entry-index in
    let e = c.entry-item.result in
    let numbers = c.loop-entry.numbers.items in
    let known = c.loop-entry.known in
    elim c.match-entry.branch [
      | in-Utf8+in-Some w ↦
          let n = w.in-Some.number.now in
          let found : known_of known w.as_slice-text.result.now ≡ Some n = sym w.get.ensures.value ∙ ap option_copied w.in-Some.is in
          let named : known_of known w.in-Utf8.name ≡ Some n = subst (λ (t : List ℕ). known_of known t ≡ Some n) w.as_slice-text.ensures found in
          let numbered : IsNumbered (known_of known) (own_text e) n = subst (λ (v : Entry). IsNumbered (known_of known) (own_text v) n) (sym w.in-Utf8.is) named in
          HasNumbers-turn known c.match-entry.known entries i e numbers c.push.new.self.items n c.match-entry.number c.loop-entry-test.true c.entry-item.is w.known-is w.number-is c.in_ok-push.ensures.items
          (HasNumbers-known (known_of known) (take i entries) numbers e n c.loop-entry.invariant numbered)
      | in-Utf8+in-None+in_ok-insert-in-None w ↦
          let text = w.as_slice-text.result.now in
          let more = w.insert.new.self in
          let n_is : w.len-fresh.result + 1 ≡ length numbers + 1 = ap (λ (k : ℕ). k + 1) (w.len-fresh.ensures ∙ c.loop-entry.numbers.ok.0) in
          let none : known_of known text ≡ None = sym w.get.ensures.value ∙ ap option_copied w.in-None.is in
          let learns = subst (λ (k : ℕ). Learns text k (known_of known) (known_of more)) n_is
          (Learns-from_update text (w.len-fresh.result + 1) (known_of known) (known_of more) none (btree_map_updates_str text known more (Some (w.len-fresh.result + 1)) w.in_ok-insert-in-None.ensures.updates)) in
          let is : own_text e ≡ Some text = ap own_text w.in-Utf8.is ∙ ap (λ (t : List ℕ). Some t) (sym w.as_slice-text.ensures) in
          HasNumbers-turn more c.match-entry.known entries i e numbers c.push.new.self.items (length numbers + 1) c.match-entry.number c.loop-entry-test.true c.entry-item.is w.known-is (w.number-is ∙ n_is) c.in_ok-push.ensures.items
          (HasNumbers-new (known_of known) (known_of more) (take i entries) numbers e text is learns c.loop-entry.invariant)
      | in_default w ↦
          let none : own_text e ≡ None = no_text e w.in_default.not-Utf8 in
          let numbered : IsNumbered (known_of known) (own_text e) 0 = subst (λ (o : Option (List ℕ)). IsNumbered (known_of known) o 0) (sym none) refl in
          HasNumbers-turn known c.match-entry.known entries i e numbers c.push.new.self.items 0 c.match-entry.number c.loop-entry-test.true c.entry-item.is w.known-is w.number-is c.in_ok-push.ensures.items
          (HasNumbers-known (known_of known) (take i entries) numbers e 0 c.loop-entry.invariant numbered)
    ]

pub returns : goal.returns
returns c =
    HasNumbers-all (known_of c.loop-entry.known) c.args.entries.now c.loop-entry.numbers.items
    (subst (λ (es : List Entry). HasNumbers (known_of c.loop-entry.known) es c.loop-entry.numbers.items) (take_all c.loop-entry.entry-index c.args.entries.now c.loop-entry-test.false) c.loop-entry.invariant)
