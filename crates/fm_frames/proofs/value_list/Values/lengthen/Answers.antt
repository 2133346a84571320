use Rattle.std.proofs.Common.{◌≡◌, ◌∙◌, ◌-◌, ◌++◌, ap, cond, is_ok, replicate, take, true, rules}
use Rattle.fm_frames.proofs.ValueLists.{is-lengthened}
use Rattle.fm_frames.proofs.value_list.Values.lengthen.Goals as goal
use Rattle.fm_frames.specs.declared.value_list.ValueKind.TheVariants as kind

pub returns-clause-longer : goal.returns-clause-longer
returns-clause-longer c =
    let len = c.args.len in
    let bits = c.self.inside.bits.items in
    let ok : is_ok c.resize-2.result ≡ true = search rules in
    let longer : c.resize-2.new.self.items ≡ take len bits ++ replicate (len - c.self.inside.bits.len) 0 =
    c.resize-2.ensures.items ∙ (λ k. cond (ok k) (take len bits ++ replicate (len - c.self.inside.bits.len) 0) bits) in
    is-lengthened c.self.inside.kinds.items c.resize.new.self.items bits c.resize-2.new.self.items c.args.self.now len c.self.invariant c.self.view_is
    c.requires
    (c.in_ok-resize.ensures.items ∙ ap (λ n. take len c.self.inside.kinds.items ++ replicate (len - n) kind.Top) c.self.inside.kinds.ok.0)
    (longer ∙ ap (λ n. take len bits ++ replicate (len - n) 0) c.self.inside.bits.ok.0)
