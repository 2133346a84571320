use Rattle.std.proofs.Common.{◌≡◌, ◌++◌, ap, sym, ◌∙◌, arith}
use Rattle.fm_frames.proofs.NameTexts.{class-alone, class-in-array}
use Rattle.fm_frames.proofs.names.push_base.Goals as goal
use Rattle.fm_world.proofs.Told.{class_info-name}
use Rattle.fm_world.specs.Chains.{class_at}
use Rattle.fm_world.specs.declared.records.ClassInfo.{ClassInfo}
use Rattle.fm_frames.proofs.Throwing.{told-ok}

pub returns-then-dims-eq0 : goal.returns-then-dims-eq0
returns-then-dims-eq0 c =
    let o = c.args.program.now.outline in
    let named : (class_at o.classes c.in-OfClass.class.0).name ≡ c.as_slice-name.result.now =
    sym (class_info-name o c.in-OfClass.class.0) ∙ ap (λ (i : ClassInfo). i.name) (sym c.class.ensures) ∙ sym c.as_slice-name.ensures in
    c.in_ok-extend_from_slice-in-OfClass.ensures.items
    ∙ ap (λ text. c.args.bytes.now.items ++ text)
    (class-alone o c.args.t c.in-OfClass.class c.as_slice-name.result.now c.in-OfClass.is (omega (arith, c.if-dims-eq0.true)) named)

pub returns-else-dims-eq0 : goal.returns-else-dims-eq0
returns-else-dims-eq0 c =
    let o = c.args.program.now.outline in
    let named : (class_at o.classes c.in-OfClass.class.0).name ≡ c.as_slice-name.result.now =
    sym (class_info-name o c.in-OfClass.class.0) ∙ ap (λ (i : ClassInfo). i.name) (sym c.class.ensures) ∙ sym c.as_slice-name.ensures in
    told-ok c.push_class.result _ _
    (λ pushed. pushed ∙ ap (λ text. c.args.bytes.now.items ++ text)
    (class-in-array o c.args.t c.in-OfClass.class c.as_slice-name.result.now c.in-OfClass.is (λ e. absurd (omega (arith, e, c.if-dims-eq0.false))) named))
    c.push_class.ensures
