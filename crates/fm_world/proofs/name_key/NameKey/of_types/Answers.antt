use Rattle.std.proofs.Common.{◌≡◌, ◌++◌, ◌∙◌, ap, [], List, ℕ}
use Rattle.std.specs.Hash.DefaultHasher as sip
use Rattle.std.specs.Int.{to_le_bytes, w64}
use Rattle.std.specs.List.{flat_map}
use Rattle.sha2.specs.Sha256.{sha256}
use Rattle.fm_world.specs.inner.NameKeys.{type_bytes}
use Rattle.fm_world.proofs.name_key.NameKey.of_types.Goals as goal

pub returns : goal.returns
returns c =
    let first = c.to_le_bytes.result in
    let second = c.to_le_bytes-2.result in
    let named = flat_map type_bytes c.args.named.now in
    let made = flat_map type_bytes c.args.made.now in
    let digest : c.finalize.result ≡ sha256 (first ++ second ++ named ++ made) =
    c.finalize.ensures (first ++ second ++ named ++ made)
    (c.add_types-2.ensures (first ++ second ++ named)
    (c.add_types.ensures (first ++ second) (c.update-2.ensures first (c.update.ensures [] c.new-digest.ensures)))) in
    ap (λ h. record { initial = h })
    (c.write.ensures
    ∙ ap (λ start. sip.write start c.finalize.result) c.new-initial.ensures
    ∙ ap (sip.write sip.initial)
    (digest
    ∙ ap (λ (f : List ℕ). sha256 (f ++ second ++ named ++ made)) c.to_le_bytes.ensures
    ∙ ap (λ (s : List ℕ). sha256 (to_le_bytes w64 c.args.classes ++ s ++ named ++ made)) c.to_le_bytes-2.ensures))
