-- The class files that words name, in one of two ways: files with their main class, or the number of a class that is made.
use Rattle.std.specs.Prelude.{◌≡◌, ℕ, ◌<◌, List, [], length, codes, Option, Some, None, IsSomeAnd}
use Rattle.std.specs.List.{AllByRecursion}
use Rattle.clap.specs.Words.{Row, all_of, first_of}
use Rattle.fm_cli_requests.specs.Values.{IsNumber, IsValue}

-- there is no number; the main class is the value of this id, and there is a file
pub record NameFiles (id : List ℕ) (matches : List Row) (main : List ℕ) (files : List (List ℕ)) : Type 0 where
  pub no_number : first_of (codes "make") matches ≡ None
  pub main_is : first_of id matches ≡ Some main
  pub files_are : all_of (codes "file") matches ≡ Some files
  pub some_file : 0 < length files
  pub main_is_value : IsValue main
  pub files_are_values : AllByRecursion IsValue files

-- there is a number of one to three digits, from 1 to 100; there is no main class and no file among the words, and the main class is G
pub record NameMade (id : List ℕ) (matches : List Row) (main : List ℕ) (files : List (List ℕ)) (n : ℕ) : Type 0 where
  pub number : IsSomeAnd (first_of (codes "make") matches) (λ digits. IsNumber 3 digits 1 100 n)
  pub no_main : first_of id matches ≡ None
  pub no_file : all_of (codes "file") matches ≡ None
  pub main_is : main ≡ codes "G"
  pub files_are : files ≡ []

-- one of the two, by whether a class is made
abbrev pub NameClasses : List ℕ → List Row → List ℕ → List (List ℕ) → Option ℕ → Type 0
NameClasses id matches main files None = NameFiles id matches main files
NameClasses id matches main files (Some n) = NameMade id matches main files n
