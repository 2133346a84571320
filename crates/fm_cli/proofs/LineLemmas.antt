-- What is known of a call: the status that goes with its line, or that of a failed put or of memory.
use Rattle.std.proofs.Common.{◌≡◌, ◌≢◌, ◌<◌, ℕ, inl, inr, List, [], ◌∷◌, length, Contains, refl, sym, ap, ◌∙◌, subst, arith}
use Rattle.fm_files.specs.Sink.{GetsAtMostOne, Output, with_piece}
use Rattle.fm_cli.specs.Line.{Tells}
use Rattle.fm_cli.specs.Status.{ComesExactly}
use Rattle.fm_cli.specs.declared.status.TheConstants.{READ, WRITE, OUT_OF_MEMORY}

-- the statuses that may come instead of one that is for a file, and of one that is for the words alone
abbrev pub instead_for_file : List ℕ
instead_for_file = READ ∷ WRITE ∷ OUT_OF_MEMORY ∷ []

abbrev pub instead_for_words : List ℕ
instead_for_words = WRITE ∷ OUT_OF_MEMORY ∷ []

module _ (line : List ℕ) (status : ℕ) (old new : Output) (result : ℕ) (tells : Tells line status old new result) where
  -- the result is among statuses of which these three are
  pub told_among : (statuses : List ℕ) → Contains statuses status → Contains statuses WRITE → Contains statuses OUT_OF_MEMORY → Contains statuses result
  told_among statuses own write memory = go tells where
    P : ℕ → Type 0
    P = Contains statuses

    go : Tells line status old new result → Contains statuses result
    go (inl put) = subst P (sym put.0) own
    go (inr (inl failed)) = subst P (sym failed.0) write
    go (inr (inr lacking)) = subst P (sym lacking.0) memory

  -- at a status that is neither that of a failed put nor that of memory the line is put
  pub is_put : (wanted : ℕ) → wanted ≢ WRITE → wanted ≢ OUT_OF_MEMORY → result ≡ wanted → (status ≡ wanted) × (new ≡ with_piece line old)
  is_put wanted write memory is = go tells where
    go : Tells line status old new result → (status ≡ wanted) × (new ≡ with_piece line old)
    go (inl put) = (sym put.0 ∙ is, put.1)
    go (inr (inl failed)) = absurd (write (sym is ∙ failed.0))
    go (inr (inr lacking)) = absurd (memory (sym is ∙ lacking.0))

  -- where the faults of the sink rose the put failed
  pub put_fails : old.faults < new.faults → result ≡ WRITE
  put_fails rose = go tells where
    go : Tells line status old new result → result ≡ WRITE
    go (inl put) = absurd (let same = ap (λ (o : Output). o.faults) put.1 in omega arith)
    go (inr (inl failed)) = failed.0
    go (inr (inr lacking)) = absurd (let same = ap (λ (o : Output). o.faults) lacking.1 in omega arith)

  -- a line that has bytes is the only piece that the sink gets
  pub line_once : 0 < length line → GetsAtMostOne old new
  line_once some = go tells where
    go : Tells line status old new result → GetsAtMostOne old new
    go (inl put) = inr (line, inl (some, put.1))
    go (inr (inl failed)) = inr (line, inr (some, failed.1))
    go (inr (inr lacking)) = inl lacking.1

  -- a cause that decides the status decides the result, but for a failed put and for memory
  pub told_of_file : (wanted : ℕ) → Contains (wanted ∷ instead_for_file) status → Contains (wanted ∷ instead_for_file) result
  told_of_file wanted own = told_among (wanted ∷ instead_for_file) own (2, omega arith, refl) (3, omega arith, refl)

  pub told_of_words : (wanted : ℕ) → Contains (wanted ∷ instead_for_words) status → Contains (wanted ∷ instead_for_words) result
  told_of_words wanted own = told_among (wanted ∷ instead_for_words) own (1, omega arith, refl) (2, omega arith, refl)

  -- and so a status comes exactly with what it says
  pub comes_of_file : {Said Cause : Type 0} (wanted : ℕ) → wanted ≢ WRITE → wanted ≢ OUT_OF_MEMORY → (status ≡ wanted → new ≡ with_piece line old → Said)
      → (Cause → Contains (wanted ∷ instead_for_file) status) → ComesExactly wanted instead_for_file result Said Cause
  comes_of_file wanted write memory said own = record {
    only = λ is. let put = is_put wanted write memory is in said put.0 put.1;
    there = λ cause. told_of_file wanted (own cause);
  }

  pub comes_of_words : {Said Cause : Type 0} (wanted : ℕ) → wanted ≢ WRITE → wanted ≢ OUT_OF_MEMORY → (status ≡ wanted → new ≡ with_piece line old → Said)
      → (Cause → Contains (wanted ∷ instead_for_words) status) → ComesExactly wanted instead_for_words result Said Cause
  comes_of_words wanted write memory said own = record {
    only = λ is. let put = is_put wanted write memory is in said put.0 put.1;
    there = λ cause. told_of_words wanted (own cause);
  }
