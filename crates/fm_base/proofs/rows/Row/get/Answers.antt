use Rattle.std.proofs.Common.{sym, ◌∙◌, ◌≡◌, ap, length, arith, ◌<◌, ◌/◌, ◌%◌, eqb, get_or}
use Rattle.std.specs.Int.{bit_at}
use Rattle.std.proofs.lemmas.List.{get_or_default}
use Rattle.std.proofs.lemmas.Nat.Bits.{shr_and_one}
use Rattle.fm_base.specs.Rows.{has}
use Rattle.fm_base.proofs.RowsLemmas.{length-bits_of, word_within, has-row, bit_of-word}
use Rattle.fm_base.proofs.rows.Row.get.Goals as goal

pub index-requires : goal.index-requires
index-requires c =
    let known = length-bits_of c.self.inside.words.items c.self.inside.bits in
    let below : c.args.i < c.self.inside.bits = omega (arith, ap length c.self.view_is) in
    let within = word_within _ _ _ c.self.invariant below in omega arith

pub returns : goal.returns
returns c =
    let known = length-bits_of c.self.inside.words.items c.self.inside.bits in
    let below : c.args.i < c.self.inside.bits = omega (arith, ap length c.self.view_is) in
    let within = word_within _ _ _ c.self.invariant below in
    let word : c.index.result.now ≡ get_or c.self.inside.words.items (c.args.i / 64) 0 =
    c.index.ensures ∙ get_or_default c.self.inside.words.items (c.args.i / 64) c.index.result.now 0 within in
    ap (λ n. eqb n 1) (shr_and_one c.index.result.now (c.args.i % 64))
    ∙ ap (λ n. eqb (bit_at n (c.args.i % 64)) 1) word
    ∙ sym (bit_of-word c.self.inside.words.items c.args.i)
    ∙ sym (has-row _ _ c.args.i c.self.invariant)
    ∙ ap (λ row. has row c.args.i) c.self.view_is
