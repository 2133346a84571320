use Rattle.std.proofs.Common.{◌≡◌, sym, ◌∙◌, ap, ◌&&◌, not, true, false}
use Rattle.fm_code.specs.AccessFlags.{is_abstract, is_interface}
use Rattle.fm_world.specs.Chains.{class_at, is_sub}
use Rattle.fm_world.specs.Numbers.{type_of_class}
use Rattle.fm_world.specs.Programs.{is_made}
use Rattle.fm_world.proofs.Told.{class_info-flags}
use Rattle.fm_world.proofs.program.Program.takes_class.Goals as goal

pub returns-then-has_flag : goal.returns-then-has_flag
returns-then-has_flag c =
    let p = c.args.self.now in
    let k = c.args.c.0 in
    let flags = ap (λ i. i.flags) c.class.ensures ∙ class_info-flags p.outline k in
    let abstract : is_abstract (class_at p.outline.classes k).flags ≡ true =
    sym (ap is_abstract flags) ∙ sym c.has_flag.ensures ∙ c.if-has_flag.true in
    sym (ap (λ a. not a && not (is_interface (class_at p.outline.classes k).flags) && is_made p.made k && is_sub p.outline.classes
    (type_of_class k) c.args.named) abstract)

pub returns-then-has_flag-2 : goal.returns-then-has_flag-2
returns-then-has_flag-2 c =
    let p = c.args.self.now in
    let k = c.args.c.0 in
    let flags = ap (λ i. i.flags) c.class.ensures ∙ class_info-flags p.outline k in
    let abstract : is_abstract (class_at p.outline.classes k).flags ≡ false =
    sym (ap is_abstract flags) ∙ sym c.has_flag.ensures ∙ c.if-has_flag.false in
    let interface : is_interface (class_at p.outline.classes k).flags ≡ true =
    sym (ap is_interface flags) ∙ sym c.has_flag-2.ensures ∙ c.if-has_flag-2.true in
    sym (ap (λ a. not a && not (is_interface (class_at p.outline.classes k).flags) && is_made p.made k && is_sub p.outline.classes
    (type_of_class k) c.args.named) abstract
    ∙ ap (λ i. not i && is_made p.made k && is_sub p.outline.classes (type_of_class k) c.args.named) interface)

pub returns : goal.returns
returns c =
    let p = c.args.self.now in
    let k = c.args.c.0 in
    let flags = ap (λ i. i.flags) c.class.ensures ∙ class_info-flags p.outline k in
    let abstract : is_abstract (class_at p.outline.classes k).flags ≡ false =
    sym (ap is_abstract flags) ∙ sym c.has_flag.ensures ∙ c.if-has_flag.false in
    let interface : is_interface (class_at p.outline.classes k).flags ≡ false =
    sym (ap is_interface flags) ∙ sym c.has_flag-2.ensures ∙ c.if-has_flag-2.false in
    let made : is_made p.made k ≡ true = sym c.is_made.ensures ∙ c.if-not-is_made.false in
    c.is_sub.ensures
    ∙ sym (ap (λ a. not a && not (is_interface (class_at p.outline.classes k).flags) && is_made p.made k && is_sub p.outline.classes
    (type_of_class k) c.args.named) abstract
    ∙ ap (λ i. not i && is_made p.made k && is_sub p.outline.classes (type_of_class k) c.args.named) interface
    ∙ ap (λ m. m && is_sub p.outline.classes (type_of_class k) c.args.named) made)
