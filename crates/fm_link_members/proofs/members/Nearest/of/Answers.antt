use Rattle.std.proofs.Common.{◌∙◌, ◌<◌, ap, arith, get_or, length, set, None}
use Rattle.std.proofs.lemmas.List.{get_or_default}
use Rattle.fm_link_members.proofs.NearestLemmas.{made_end, made_step}
use Rattle.fm_link_members.specs.inner.MemberTables.{passes_of}
use Rattle.fm_link_members.proofs.members.Nearest.of.Goals as goal

pub loop-class-preserved : goal.loop-class-preserved
loop-class-preserved c =
    let h = c.args.hierarchy.now in
    let i = c.loop-class.class-index in
    let class = get_or c.deref-class-items.result.now i 0 in
    let old = c.loop-class.nearest in
    let value = c.deref-class-items.ensures.value in
    let within : i < length h.order.items = omega (arith, c.loop-class-test.true, ap length value) in
    record {
      items = value;
      made =
          made_step h c.args.members.now c.args.signatures.now.of_members.items (passes_of c.args.kept) old c.set_top.new.self
          c.top_over.new.self.layers i class c.in_ok-top.top c.at-parent.result c.loop-class.invariant.made within
          (ap (λ xs. get_or xs i 0) value ∙ get_or_default h.order.items i 0 class within)
          (c.at-parent.ensures ∙ ap (λ ps. get_or ps class None) c.deref.ensures.value) c.top_over.ensures.keeps c.in_ok-top.ensures.puts
          (c.set_top.ensures.tops ∙ ap (λ ts. set ts.items class c.in_ok-top.top) c.top_over.ensures.tops) c.set_top.ensures.layers;
    }

pub returns : goal.returns
returns c = λ classes is are.
    made_end c.args.hierarchy.now c.args.members.now c.args.signatures.now.of_members.items (passes_of c.args.kept) c.loop-class.nearest
    c.loop-class.class-index c.loop-class.invariant.made (omega (arith, c.loop-class-test.false, ap length c.deref-class-items.ensures.value)) classes
    is
    are
