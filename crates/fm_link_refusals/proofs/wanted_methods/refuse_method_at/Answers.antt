use Rattle.std.proofs.Common.{◌≡◌, refl, sym, ◌∙◌, ap, true, false, Some, option_map, slice_get}
use Rattle.fm_code.specs.ConstantPool.{entry_at}
use Rattle.fm_link_names.specs.inner.Numbering.{texts_in}
use Rattle.fm_link_names.specs.inner.Wanting.{is_something, wanted_of}
use Rattle.fm_world.specs.Causes.{method_flags, method_text, names_wrong_sort, MissingMethod, static_method_wanted, wanted_at}
use Rattle.fm_world.specs.Lookups.{resolved_method}
use Rattle.fm_link_refusals.proofs.MissingNames.{refusal_is}
use Rattle.fm_link_refusals.proofs.WantedMembers.{method_judged, member_at_index}
use Rattle.fm_link_refusals.specs.inner.GivenClasses.{class_in}
use Rattle.fm_link_refusals.specs.inner.Linking.{is_unlike}
use Rattle.fm_link_refusals.proofs.wanted_methods.refuse_method_at.Goals as goal

pub returns-then-names_wrong_sort : goal.returns-then-names_wrong_sort
returns-then-names_wrong_sort c = λ classes linked wanted.
    let class = class_in c.args.file.now in
    let texts = texts_in c.args.linking.texts.now in
    let place = c.args.place in
    let flags = wanted_at static_method_wanted class place in
    let k = member_at_index texts c.args.file.now c.requires place c.in_ok-index.index c.in-Some.member c.member.result c.in_ok-index.ensures
    c.member.ensures c.in-Some.is in
    let some : is_something (wanted_of flags) ≡ true = ap is_something (sym wanted) ∙ sym c.is_something.ensures ∙ c.if-not-is_something.false in
    let sorted : names_wrong_sort classes (entry_at class.pool.entries place) k.0.class ≡ true =
    ap (λ i. names_wrong_sort classes (entry_at class.pool.entries i) k.0.class) (sym c.in_ok-index.ensures)
    ∙ sym (c.names_wrong_sort.ensures classes k.0 linked k.2)
    ∙ c.if-names_wrong_sort.true in
    ap (λ xs. slice_get xs 0) (method_judged classes class place k.0 true true k.1 some sorted refl)
    ∙ ap (λ r. Some r) (refusal_is MissingMethod class (method_text k.0) c.in_ok-bad_method.field-0 (c.in_ok-bad_method.ensures k.0 k.2).0
    (c.in_ok-bad_method.ensures k.0 k.2).1)

pub returns-then-is_unlike : goal.returns-then-is_unlike
returns-then-is_unlike c = λ classes linked wanted.
    let class = class_in c.args.file.now in
    let texts = texts_in c.args.linking.texts.now in
    let place = c.args.place in
    let flags = wanted_at static_method_wanted class place in
    let k = member_at_index texts c.args.file.now c.requires place c.in_ok-index.index c.in-Some.member c.member.result c.in_ok-index.ensures
    c.member.ensures c.in-Some.is in
    let some : is_something (wanted_of flags) ≡ true = ap is_something (sym wanted) ∙ sym c.is_something.ensures ∙ c.if-not-is_something.false in
    let sorted : names_wrong_sort classes (entry_at class.pool.entries place) k.0.class ≡ false =
    ap (λ i. names_wrong_sort classes (entry_at class.pool.entries i) k.0.class) (sym c.in_ok-index.ensures)
    ∙ sym (c.names_wrong_sort.ensures classes k.0 linked k.2)
    ∙ c.if-names_wrong_sort.false in
    let unlike : is_unlike (option_map (method_flags classes) (resolved_method classes k.0)) flags ≡ true =
    ap (λ o. is_unlike o flags) (sym (c.method_flags.ensures classes k.0 linked k.2)) ∙ sym (c.is_unlike.ensures flags wanted)
    ∙ c.if-is_unlike.true in
    ap (λ xs. slice_get xs 0) (method_judged classes class place k.0 false true k.1 some sorted unlike)
    ∙ ap (λ r. Some r) (refusal_is MissingMethod class (method_text k.0) c.in_ok-bad_method-2.field-0 (c.in_ok-bad_method-2.ensures k.0 k.2).0
    (c.in_ok-bad_method-2.ensures k.0 k.2).1)

pub returns : goal.returns
returns c = λ classes linked wanted.
    let class = class_in c.args.file.now in
    let texts = texts_in c.args.linking.texts.now in
    let place = c.args.place in
    let flags = wanted_at static_method_wanted class place in
    let k = member_at_index texts c.args.file.now c.requires place c.in_ok-index.index c.in-Some.member c.member.result c.in_ok-index.ensures
    c.member.ensures c.in-Some.is in
    let some : is_something (wanted_of flags) ≡ true = ap is_something (sym wanted) ∙ sym c.is_something.ensures ∙ c.if-not-is_something.false in
    let sorted : names_wrong_sort classes (entry_at class.pool.entries place) k.0.class ≡ false =
    ap (λ i. names_wrong_sort classes (entry_at class.pool.entries i) k.0.class) (sym c.in_ok-index.ensures)
    ∙ sym (c.names_wrong_sort.ensures classes k.0 linked k.2)
    ∙ c.if-names_wrong_sort.false in
    let unlike : is_unlike (option_map (method_flags classes) (resolved_method classes k.0)) flags ≡ false =
    ap (λ o. is_unlike o flags) (sym (c.method_flags.ensures classes k.0 linked k.2)) ∙ sym (c.is_unlike.ensures flags wanted)
    ∙ c.if-is_unlike.false in
    method_judged classes class place k.0 false false k.1 some sorted unlike
