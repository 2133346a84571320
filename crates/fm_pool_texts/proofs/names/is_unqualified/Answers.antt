use Rattle.std.proofs.Common.{◌≡◌, sym, ◌∙◌, rules, tests, arith, eq-eqb}
use Rattle.std.specs.List.{list_all}
use Rattle.std.proofs.lemmas.Iterator.{YieldsList-from_slice}
use Rattle.std.proofs.lemmas.Iterator.Search.{all_from_yields_List}
use Rattle.fm_code.specs.Names.{is_name_character}
use Rattle.fm_pool_texts.proofs.DescriptorsLemmas.{is_unqualified-some}
use Rattle.fm_pool_texts.proofs.names.is_unqualified.Goals as goal

pub returns-then-not-is_empty : goal.returns-then-not-is_empty
returns-then-not-is_empty c =
    let all : c.all.result ≡ list_all is_name_character c.args.name.now =
    all_from_yields_List is_name_character _ _ c.all.result c.all.ensures.ran (YieldsList-from_slice c.args.name.now cc) (λ x b q k. search (rules, tests)) in
    all ∙ sym (is_unqualified-some c.args.name.now (λ e. grind (arith, eq-eqb)))
