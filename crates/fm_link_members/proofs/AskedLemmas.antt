-- What the entries of a file's pool name, one by one.
use Rattle.std.proofs.Common.{◌≡◌, ◌∙◌, ℕ, ◌+◌, List, [], ◌∷◌, ◌++◌, Option, Some, None, ap, append_assoc, option_to_list, refl, sym}
use Rattle.std.specs.List.{cons_option, filter_map, range_with_len}
use Rattle.std.proofs.lemmas.List.Elements.{filter_map-append}
use Rattle.fm_world.proofs.Marks.{range-more}

one : {X : Type 0} (o : Option X) → option_to_list o ≡ cons_option o []
one None = refl
one (Some x) = refl

-- what one index more names
pub one_asked : {X : Type 0} (f : ℕ → Option X) (n : ℕ) (o : Option X) (first before after : List X) → o ≡ f n → before ≡ first ++ filter_map f (range_with_len 0 n)
    → after ≡ before ++ option_to_list o → after ≡ first ++ filter_map f (range_with_len 0 (n + 1))
one_asked f n o first before after is so_far more =
    let old = filter_map f (range_with_len 0 n) in
    more ∙ ap (λ p. before ++ option_to_list p) is ∙ ap (λ list. list ++ option_to_list (f n)) so_far ∙ append_assoc first old (option_to_list (f n))
    ∙ ap (λ list. first ++ list)
    (ap (λ list. old ++ list) (one (f n)) ∙ sym (filter_map-append f (range_with_len 0 n) (n ∷ [])) ∙ ap (filter_map f) (sym (range-more n)))
