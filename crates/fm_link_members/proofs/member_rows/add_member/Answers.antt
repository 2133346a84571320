use Rattle.std.proofs.Common.{refl, subst, sym}
use Rattle.fm_code.specs.ConstantPool.{utf8_at}
use Rattle.fm_link_names.proofs.FileLemmas.{extends_through}
use Rattle.fm_link_names.specs.inner.Numbering.{texts_in, IsNumberOf}
use Rattle.fm_world.specs.Declarations.{text_at}
use Rattle.fm_link_members.proofs.RowSteps.{adds_one, has_kept}
use Rattle.fm_link_members.specs.inner.MemberSteps.{member_alike}
use Rattle.fm_link_members.proofs.member_rows.add_member.Goals as goal

pub returns-clause-rows : goal.returns-clause-rows
returns-clause-rows c = λ has.
    let file = c.args.file.now in
    let entries = file.class.now.pool.entries in
    let m = c.args.member.now in
    let old = texts_in c.args.texts.now in
    let middle = texts_in c.number_or_empty.new.texts in
    let new = texts_in c.number_or_empty-2.new.texts in
    let first = c.number_or_empty.ensures.grows.extends in
    let second = c.number_or_empty-2.ensures.grows.extends in
    let name = c.in_ok-name.ensures.number (utf8_at entries m.name)
    (subst (λ n. IsNumberOf old (utf8_at entries m.name) n) (sym c.text.ensures) (has m.name)) in
    let descriptor = c.in_ok-descriptor.ensures.number (utf8_at entries m.descriptor)
    (subst (λ n. IsNumberOf middle (utf8_at entries m.descriptor) n) (sym c.text-2.ensures) (has_kept old middle file first has m.descriptor)) in
    adds_one old new (member_alike c.args.class entries m)
    (record { class = c.args.class; name = c.in_ok-name.name; descriptor = c.in_ok-descriptor.descriptor; flags = m.flags }) c.args.rows.now.items
    c.push.new.self.items (extends_through old middle new first second)
    (record { class_is = refl; name = second c.in_ok-name.name (text_at entries m.name) name; descriptor = descriptor; flags = refl })
    c.in_ok-push.ensures.items
