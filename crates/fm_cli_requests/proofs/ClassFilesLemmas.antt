-- The class files that words name, by what clap matched.
use Rattle.std.proofs.Common.{◌≡◌, ◌≤◌, ◌∙◌, ℕ, List, [], Option, Some, None, IfSome, MatchOption, codes, map, refl, ap, sym}
use Rattle.std.specs.Str.Parse.{digits_value}
use Rattle.clap.specs.Words.{Row, all_of, first_of}
use Rattle.fm_base.proofs.OptionFacts.{Some-from_some_and, same_value}
use Rattle.fm_cli_requests.specs.ClassFiles.{NameClasses, NameFiles, NameMade}
use Rattle.fm_cli_requests.specs.Values.{IsNumber}
use Rattle.fm_cli_requests.specs.declared.class_files.NamedClasses.{NamedClasses}
use Rattle.fm_cli_requests.specs.inner.ClassFiles.{NameNoClasses}

module _ (id : List ℕ) (matches : List Row) where
  -- what is returned names the class files, and nothing does where nothing is
  abbrev pub IsNamedBy : Option NamedClasses → Type 0
  IsNamedBy asked = MatchOption asked (NameNoClasses id matches) (λ c. NameClasses id matches c.main.now (map (λ f. f.now) c.files.items) c.made)

  -- where a number is given only a class that is made can be named, and where none is only files
  pub none_made : (digits : List ℕ) → first_of (codes "make") matches ≡ Some digits → ((main : List ℕ) (files : List (List ℕ)) (n : ℕ) → ¬ NameMade id matches main files n)
      → NameNoClasses id matches
  none_made digits there none main files None named = let missing = named.no_number in cc
  none_made digits there none main files (Some n) named = none main files n named

  pub none_named : first_of (codes "make") matches ≡ None → ((main : List ℕ) (files : List (List ℕ)) → ¬ NameFiles id matches main files) → NameNoClasses id matches
  none_named missing none main files None named = none main files named
  none_named missing none main files (Some n) named =
      let found = Some-from_some_and (first_of (codes "make") matches) (λ digits. IsNumber 3 digits 1 100 n) named.number in
      let there = found.1 in cc

  -- a class is made only where no file is named
  pub made_alone : (main : List ℕ) (files : List (List ℕ)) (made : Option ℕ) → NameClasses id matches main files made → IfSome made (λ n. (1 ≤ n) × (n ≤ 100) × (files ≡ []))
  made_alone main files None named = tt
  made_alone main files (Some n) named =
      let found = Some-from_some_and (first_of (codes "make") matches) (λ digits. IsNumber 3 digits 1 100 n) named.number in
      (found.2.above, found.2.within, named.files_are)

  -- class files are named in one way
  pub record AreSame (main others : List ℕ) (files more : List (List ℕ)) (made number : Option ℕ) : Type 0 where
    pub main_is : main ≡ others
    pub files_are : files ≡ more
    pub made_is : made ≡ number

  pub named_once : (main others : List ℕ) (files more : List (List ℕ)) (made number : Option ℕ) → NameClasses id matches main files made → NameClasses id matches others more number
      → AreSame main others files more made number
  named_once main others files more None None a b = record {
    main_is = same_value (first_of id matches) main others a.main_is b.main_is;
    files_are = same_value (all_of (codes "file") matches) files more a.files_are b.files_are;
    made_is = refl;
  }
  named_once main others files more None (Some n) a b =
      absurd (let found = Some-from_some_and (first_of (codes "make") matches) (λ digits. IsNumber 3 digits 1 100 n) b.number in let there = found.1 in let missing = a.no_number in cc)
  named_once main others files more (Some n) None a b =
      absurd (let found = Some-from_some_and (first_of (codes "make") matches) (λ digits. IsNumber 3 digits 1 100 n) a.number in let there = found.1 in let missing = b.no_number in cc)
  named_once main others files more (Some m) (Some n) a b =
      let first = Some-from_some_and (first_of (codes "make") matches) (λ digits. IsNumber 3 digits 1 100 m) a.number in
      let second = Some-from_some_and (first_of (codes "make") matches) (λ digits. IsNumber 3 digits 1 100 n) b.number in
      let digits : second.0 ≡ first.0 = same_value (first_of (codes "make") matches) second.0 first.0 second.1 first.1 in
      let value = ap (digits_value 10) digits in
      record {
        main_is = a.main_is ∙ sym b.main_is;
        files_are = a.files_are ∙ sym b.files_are;
        made_is = ap (λ (k : ℕ). Some k) (sym first.2.value ∙ sym value ∙ second.2.value);
      }
