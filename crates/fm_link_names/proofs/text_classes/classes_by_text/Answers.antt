use Rattle.std.proofs.Common.{sym, ◌∙◌, ap, ℕ, map, List, [], ◌∷◌, ◌++◌, get_or, Option}
use Rattle.std.proofs.lemmas.List.{map_more, take_all}
use Rattle.std.specs.Borrow.{Bor}
use Rattle.fm_link_names.specs.inner.ClassNumbering.{number_in}
use Rattle.fm_world.specs.Descriptors.{class_number}
use Rattle.fm_link_names.proofs.NumberSteps.{map_lent}
use Rattle.fm_link_names.proofs.text_classes.classes_by_text.Goals as goal

pub loop-text-preserved : goal.loop-text-preserved
loop-text-preserved c =
    let texts = c.args.texts.now in
    let i = c.loop-text.text-index in
    let number : Bor (List ℕ) → Option ℕ = λ b. number_in c.args.numbers.now.numbers b.now in
    let nothing : Bor (List ℕ) = record { ref_ptr = (0, 0); now = [] } in
    c.in_ok-push.ensures.items
    ∙ ap (λ n. c.loop-text.found.items ++ n ∷ []) c.number.ensures
    ∙ ap (λ ns. ns ++ number (get_or texts i nothing) ∷ []) c.loop-text.invariant
    ∙ sym (map_more number texts i nothing c.loop-text-test.true)

pub returns : goal.returns
returns c =
    λ classes numbers.
    c.loop-text.invariant
    ∙ ap (map (λ (b : Bor (List ℕ)). number_in c.args.numbers.now.numbers b.now))
    (take_all c.loop-text.text-index c.args.texts.now c.loop-text-test.false)
    ∙ map_lent (number_in c.args.numbers.now.numbers) (class_number classes) numbers c.args.texts.now
