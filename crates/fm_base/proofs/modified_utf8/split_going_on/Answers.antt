use Rattle.std.proofs.Common.{◌≡◌, ◌∙◌, ap, sym, take, drop, subst, List, ℕ}
use Rattle.std.specs.List.{prefix_len}
use Rattle.fm_base.specs.Texts.{goes_on}
use Rattle.fm_base.specs.inner.Texts.{IsSplit}
use Rattle.fm_base.proofs.SplitLemmas.{split_at_count}
use Rattle.fm_base.proofs.modified_utf8.split_going_on.Goals as goal

pub returns : goal.returns
returns c =
    let bytes = c.args.bytes.now in
    let count = sym c.going_on_len.ensures.count in
    let front : take (prefix_len goes_on bytes) bytes ≡ c.split_at.result.0.now = ap (λ n. take n bytes) count ∙ sym c.split_at.ensures.front in
    let back : drop (prefix_len goes_on bytes) bytes ≡ c.split_at.result.1.now = ap (λ n. drop n bytes) count ∙ sym c.split_at.ensures.back in
    subst (λ (going_on : List ℕ). IsSplit bytes going_on c.split_at.result.1.now) front
    (subst (IsSplit bytes (take (prefix_len goes_on bytes) bytes)) back (split_at_count bytes))
