use Rattle.std.proofs.Common.{◌++◌, ◌∷◌, [], ◌∙◌, ap, subst, append_assoc, List, ℕ}
use Rattle.std.specs.Int.{to_le_bytes, w64}
use Rattle.sha2.specs.Hashers.{Holds256}
use Rattle.fm_world.proofs.name_key.add_type.Goals as goal

pub returns : goal.returns
returns c = λ m holds.
    let dims = c.args.one.dims in
    let base = c.to_le_bytes.result in
    let Taken : List ℕ → Type 0 = λ message. Holds256 c.update-2.new.self message in
    subst (λ bytes. Taken (m ++ dims ∷ bytes)) (c.to_le_bytes.ensures ∙ ap (to_le_bytes w64) c.base_number.ensures)
    (subst Taken (append_assoc m (dims ∷ []) base) (c.update-2.ensures (m ++ dims ∷ []) (c.update.ensures m holds)))
