use Rattle.std.proofs.Common.{◌≡◌, ◌∙◌, ap, arith, length}
use Rattle.fm_code.specs.declared.code_array.Item.{Item}
use Rattle.fm_gen.proofs.LoopLemmas.{few_bytes, laid_more}
use Rattle.fm_gen.specs.Made.{size_of}
use Rattle.fm_gen.proofs.code.code_with.Goals as goal

pub overflow_cast-length : goal.overflow_cast-length
overflow_cast-length c =
    let size : length c.as_slice.result.now ≡ size_of c.insn-item.result = ap length (c.as_slice.ensures ∙ ap (λ (i : Item). i.bytes) c.in_ok-item.ensures) in
    omega (arith, size, few_bytes c.insn-item.result)

pub overflow_add-length : goal.overflow_add-length
overflow_add-length c =
    let size : length c.as_slice.result.now ≡ size_of c.insn-item.result = ap length (c.as_slice.ensures ∙ ap (λ (i : Item). i.bytes) c.in_ok-item.ensures) in
    omega (arith, size, few_bytes c.insn-item.result, c.loop-insn.invariant.few, c.loop-insn-test.true, c.requires)

pub loop-insn-preserved : goal.loop-insn-preserved
loop-insn-preserved c =
    let size : length c.as_slice.result.now ≡ size_of c.insn-item.result = ap length (c.as_slice.ensures ∙ ap (λ (i : Item). i.bytes) c.in_ok-item.ensures) in
    let was = c.loop-insn.invariant in
    let more = laid_more c.args.insns.now c.loop-insn.insn-index c.loop-insn.length (length c.as_slice.result.now) c.insn-item.result c.in_ok-item.item c.loop-insn.items.items c.push.new.self.items
    (omega (arith, c.loop-insn-test.true)) c.insn-item.is c.in_ok-item.ensures size c.in_ok-push.ensures.items (record { items = was.items; sum = was.sum; few = was.few }) in
    record { items = more.items; sum = more.sum; few = more.few }
