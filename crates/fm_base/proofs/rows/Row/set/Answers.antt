use Rattle.std.proofs.Common.{◌∙◌, ◌≡◌, ap, length, arith, ◌<◌, ◌/◌, get_or, set, true}
use Rattle.std.proofs.lemmas.List.{get_or_default}
use Rattle.fm_base.proofs.RowsLemmas.{length-bits_of, word_within, IsRow-set, bits_of-set}
use Rattle.fm_base.proofs.rows.Row.set.Goals as goal

pub index_mut-requires : goal.index_mut-requires
index_mut-requires c =
    let known = length-bits_of c.self.inside.words.items c.self.inside.bits in
    let below : c.args.i < c.self.inside.bits = omega (arith, ap length c.self.view_is) in
    let within = word_within _ _ _ c.self.invariant below in omega arith

pub invariant_of-self : goal.invariant_of-self
invariant_of-self c =
    let known = length-bits_of c.self.inside.words.items c.self.inside.bits in
    let below : c.args.i < c.self.inside.bits = omega (arith, ap length c.self.view_is) in
    let within = word_within _ _ _ c.self.invariant below in
    let word : c.index_mut.result.now ≡ get_or c.self.inside.words.items (c.args.i / 64) 0 =
    c.index_mut.ensures.value ∙ get_or_default c.self.inside.words.items (c.args.i / 64) c.index_mut.result.now 0 within in
    rw word (IsRow-set _ _ c.args.i c.self.invariant below)

pub returns : goal.returns
returns c =
    let known = length-bits_of c.self.inside.words.items c.self.inside.bits in
    let below : c.args.i < c.self.inside.bits = omega (arith, ap length c.self.view_is) in
    let within = word_within _ _ _ c.self.invariant below in
    let word : c.index_mut.result.now ≡ get_or c.self.inside.words.items (c.args.i / 64) 0 =
    c.index_mut.ensures.value ∙ get_or_default c.self.inside.words.items (c.args.i / 64) c.index_mut.result.now 0 within in
    rw word (bits_of-set _ _ c.args.i c.self.invariant below ∙ ap (λ row. set row c.args.i true) c.self.view_is)
