-- The words of the arguments of built-in methods, whatever stands for a word.
use Rattle.std.proofs.Common.{◌≡◌, inl, inr, ℕ, ◌+◌, List, [], ◌∷◌, ◌++◌, length, Some, sym, ◌∙◌, ap, subst, slice_get, arith}
use Rattle.std.proofs.lemmas.List.{length-append}
use Rattle.fm_base.proofs.ListFacts.{slice_get-append_left, slice_get-append_right}
use Rattle.fm_frames.specs.NativeRows.{arguments_words, given_words}
use Rattle.fm_frames.specs.Natives.{from_top, Given}
use Rattle.fm_frames.proofs.NativeCases.{IsAmong}

module _ (X : Type 0) (words_of : Given → List X) (each : (given : Given) → length (words_of given) ≡ given_words given) where
  pub arguments_count : (arguments : List Given) → length (from_top words_of arguments) ≡ arguments_words arguments
  arguments_count [] = omega arith
  arguments_count (argument ∷ []) = each argument
  arguments_count (argument ∷ next ∷ arguments) =
      let one = each argument in
      let others = arguments_count (next ∷ arguments) in
      let all = length-append (from_top words_of (next ∷ arguments)) (words_of argument) in
      omega (arith, one, others, all)

  -- the word of an argument of one word
  pub argument_found : (arguments : List Given) (n : ℕ) (given : Given) (w : X) → IsAmong arguments n given → words_of given ≡ w ∷ []
      → slice_get (from_top words_of arguments) n ≡ Some w
  argument_found [] n given w is one = absurd is
  argument_found (argument ∷ []) n given w is one =
      subst (λ words. slice_get words n ≡ Some w) (sym (ap words_of is.0 ∙ one)) (ap (slice_get (w ∷ [])) is.1)
  argument_found (argument ∷ next ∷ arguments) n given w (inl here) one =
      let others : List X = from_top words_of (next ∷ arguments) in
      let count = arguments_count (next ∷ arguments) in
      let place : n ≡ length others + 0 = let below = here.1 in omega (arith, below, count) in
      ap (slice_get (others ++ words_of argument)) place ∙ slice_get-append_right others (words_of argument) 0
      ∙ ap (λ words. slice_get words 0) (ap words_of here.0 ∙ one)
  argument_found (argument ∷ next ∷ arguments) n given w (inr later) one =
      slice_get-append_left (from_top words_of (next ∷ arguments)) (words_of argument) n w (argument_found (next ∷ arguments) n given w later one)
