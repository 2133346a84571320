-- The lengths of tables fit their bytes.
use Rattle.std.proofs.Common.{◌≡◌, ℕ, ◌*◌, ◌≤◌, List, [], ◌∷◌, length, arith, length-append}
use Rattle.std.specs.List.{flat_map}
use Rattle.fm_code.specs.Numbers.{two}
use Rattle.fm_code.specs.ClassBytes.{counted, line_bytes, var_bytes}
use Rattle.fm_code.specs.Fits.{FitsTwo, FitsFour}
use Rattle.fm_code.specs.declared.code_array.Code.{Code}
use Rattle.fm_code.specs.declared.code_array.Line.{Line}
use Rattle.fm_code.specs.declared.code_array.Var.{Var}
use Rattle.fm_code.proofs.Bytes.{length-two}

-- short pieces are short together
length-flat_map_short : {X : Type 0} (spell : X → List ℕ) → ((x : X) → length (spell x) ≤ 10) → (xs : List X) → length (flat_map spell xs) ≤ 10 * length xs
length-flat_map_short spell each [] = omega arith
length-flat_map_short spell each (x ∷ xs) =
    let here = each x in
    let rest = length-flat_map_short spell each xs in
    omega (arith, length-append (spell x) (flat_map spell xs))

-- so is a table of them
FitsFour-counted : {X : Type 0} (spell : X → List ℕ) → ((x : X) → length (spell x) ≤ 10) → (xs : List X) → FitsTwo (length xs) → FitsFour (length (counted spell xs))
FitsFour-counted spell each xs fits =
    let count = length-two (length xs) in
    let rest = length-flat_map_short spell each xs in
    omega (arith, length-append (two (length xs)) (flat_map spell xs))

-- a line takes four bytes, and a variable ten
length-line_bytes : (code : Code) (l : Line) → length (line_bytes code l) ≡ 4
length-line_bytes code l = simp (length-append, length-two)

length-var_bytes : (code : Code) (v : Var) → length (var_bytes code v) ≡ 10
length-var_bytes code v = simp (length-append, length-two)

-- so their tables are short
pub lines_fit : (code : Code) (lines : List Line) → FitsTwo (length lines) → FitsFour (length (counted (line_bytes code) lines))
lines_fit code lines fits = FitsFour-counted (line_bytes code) (λ l. omega (arith, length-line_bytes code l)) lines fits

pub vars_fit : (code : Code) (vars : List Var) → FitsTwo (length vars) → FitsFour (length (counted (var_bytes code) vars))
vars_fit code vars fits = FitsFour-counted (var_bytes code) (λ v. omega (arith, length-var_bytes code v)) vars fits
