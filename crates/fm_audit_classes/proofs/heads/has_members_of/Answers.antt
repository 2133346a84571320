use Rattle.std.proofs.Common.{rules, ◌≡◌, sym, ◌∙◌, ap, map}
use Rattle.std.proofs.lemmas.Bool.{false≢true}
use Rattle.fm_code.specs.declared.class_file.ClassDef.{ClassDef}
use Rattle.fm_audit_classes.proofs.PairLemmas.{never_other, same_unless}
use Rattle.fm_audit.proofs.SameLemmas.{member_lists, numbers, raw_lists}
use Rattle.fm_audit_classes.specs.Parts.{bare_method}
use Rattle.fm_audit_classes.proofs.heads.has_members_of.Goals as goal

pub returns-then-ne : goal.returns-then-ne
returns-then-ne c =
    let old = c.args.class.now in
    let new = c.args.written.now in (
      λ is. absurd (false≢true is),
      λ same. absurd (never_other c.ne.result _ c.ne.ensures c.if-ne.true
          ((numbers old.interfaces new.interfaces).1 (ap (λ (d : ClassDef). d.interfaces) (sym same)))),
    )

pub returns-then-ne-2 : goal.returns-then-ne-2
returns-then-ne-2 c =
    let old = c.args.class.now in
    let new = c.args.written.now in (
      λ is. absurd (false≢true is),
      λ same. absurd (never_other c.ne-2.result _ c.ne-2.ensures c.if-ne-2.true
          ((member_lists old.fields new.fields).1 (ap (λ (d : ClassDef). d.fields) (sym same)))),
    )

pub returns-then-ne-3 : goal.returns-then-ne-3
returns-then-ne-3 c =
    let old = c.args.class.now in
    let new = c.args.written.now in (
      λ is. absurd (false≢true is),
      λ same. absurd (never_other c.ne-3.result _ c.ne-3.ensures c.if-ne-3.true
          ((raw_lists old.attributes new.attributes).1 (ap (λ (d : ClassDef). d.attributes) (sym same)))),
    )

pub returns : goal.returns
returns c =
    let old = c.args.class.now in
    let new = c.args.written.now in
    let flags : new.flags ≡ old.flags = search rules in
    let this : new.this_class ≡ old.this_class = search rules in
    let super : new.super_class ≡ old.super_class = search rules in
    let interfaces : new.interfaces ≡ old.interfaces =
    sym (same_unless c.ne.result _ (numbers old.interfaces new.interfaces) c.ne.ensures c.if-ne.false) in
    let fields : new.fields ≡ old.fields = sym (same_unless c.ne-2.result _ (member_lists old.fields new.fields) c.ne-2.ensures c.if-ne-2.false) in
    let attributes : new.attributes ≡ old.attributes =
    sym (same_unless c.ne-3.result _ (raw_lists old.attributes new.attributes) c.ne-3.ensures c.if-ne-3.false) in
    let old_is : c.deref.result.now ≡ old.methods = search rules in
    let new_is : c.deref-2.result.now ≡ new.methods = search rules in (
      λ is. let methods = ap (map bare_method) (sym new_is) ∙ c.are_same_members.ensures.0 is ∙ ap (map bare_method) old_is in
          λ k. record {
            minor = new.minor;
            major = new.major;
            pool = new.pool;
            flags = flags k;
            this_class = this k;
            super_class = super k;
            interfaces = interfaces k;
            fields = fields k;
            methods = methods k;
            attributes = attributes k;
          },
      λ same. c.are_same_members.ensures.1 (ap (map bare_method) new_is ∙ ap (λ (d : ClassDef). d.methods) same ∙ sym (ap (map bare_method) old_is)),
    )
