use Rattle.std.proofs.Common.{◌++◌, length, sym, ◌∙◌, ap, subst, append_assoc, List, ℕ}
use Rattle.std.specs.Int.{to_le_bytes, w64}
use Rattle.sha2.specs.Hashers.{Holds256}
use Rattle.fm_world.specs.inner.NameKeys.{framed_text}
use Rattle.fm_world.proofs.name_key.add_text.Goals as goal

pub returns-in-Utf8 : goal.returns-in-Utf8
returns-in-Utf8 c = λ m holds.
    let count = c.to_le_bytes.result in
    let bytes = c.as_slice-bytes.result.now in
    let Taken : List ℕ → Type 0 = λ message. Holds256 c.update-in-Utf8.new.self message in
    subst (λ framed. Taken (m ++ framed))
    (ap (λ ns. ns ++ bytes) c.to_le_bytes.ensures
    ∙ ap (λ (text : List ℕ). to_le_bytes w64 (length text) ++ text) c.as_slice-bytes.ensures
    ∙ ap framed_text (sym c.in-Utf8.is))
    (subst Taken (append_assoc m count bytes) (c.update-in-Utf8.ensures (m ++ count) (c.update.ensures m holds)))
