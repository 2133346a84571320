-- The cells of a chain are found one by one.
use Rattle.std.proofs.Common.{◌≡◌, ℕ, zero, suc, ◌-◌, ◌==◌, Bool, true, false, if◌then◌else◌, List, [], ◌∷◌, ◌++◌, Option, Some, None, option_map, unwrap_or, refl, ap, sym, ◌∙◌, arith}
use Rattle.std.specs.Prelude.{map as map_list}
use Rattle.fm_cells.specs.declared.answers.Cell.{Cell}
use Rattle.std.proofs.lemmas.Bool.{eqb-true, false≢true}
use Rattle.std.proofs.lemmas.List.{append_assoc, append-nil}
use Rattle.std.specs.Io.KnownBytes.{prepend_known}
use Rattle.fm_cells.specs.Answers.{head_at}
use Rattle.fm_cells.specs.Objects.{Object}
use Rattle.fm_cells.specs.Stores.{chain_at, object_at, Store}
use Rattle.fm_cells.specs.declared.answers.Head.{Head}
use Rattle.fm_frames.specs.Acts.{cells_with, chain_cells}
use Rattle.fm_native.proofs.Hidings.{head-held, none-held}

-- with none found so far
pub none-before : (rest : Option (List ℕ)) → prepend_known [] rest ≡ rest
none-before None = refl
none-before (Some cells) = refl

-- a chain that leads to null ends
pub chain-null : (bound : ℕ) (store : Store) (cell : ℕ) (found : List ℕ) → cell ≡ 0 → prepend_known found (chain_cells bound store cell) ≡ Some found
unfolding chain_cells
chain-null bound store cell found null = ap (λ n. prepend_known found (chain_cells bound store n)) null ∙ ap Some (append-nil found)

-- no more cells may follow
pub chain-over : (bound : ℕ) (store : Store) (cell : ℕ) (found : List ℕ) → (cell == 0) ≡ false → (bound == 0) ≡ true
    → prepend_known found (chain_cells bound store cell) ≡ None
unfolding chain_cells
chain-over bound store zero found there none = absurd (false≢true (sym there))
chain-over zero store (suc cell) found there none = refl
chain-over (suc bound) store (suc cell) found there none =
    let over : suc bound ≡ 0 = eqb-true (suc bound) 0 none in absurd (omega (arith, over))

-- the first cell, and those after it
chain-open : (bound : ℕ) (store : Store) (cell : ℕ) → (cell == 0) ≡ false → (bound == 0) ≡ false
    → chain_cells bound store cell ≡ cells_with cell (object_at store cell) (λ object. chain_cells (bound - 1) store object.chain)
unfolding chain_cells
chain-open bound store zero there some = absurd (false≢true (sym there))
chain-open zero store (suc cell) there some = absurd (false≢true (sym some))
chain-open (suc bound) store (suc cell) there some =
    let less : bound ≡ suc bound - 1 = omega arith in
    ap (λ n. cells_with (suc cell) (object_at store (suc cell)) (λ object. chain_cells n store object.chain)) less

pub chain-gone : (bound : ℕ) (store : Store) (cell : ℕ) (found : List ℕ) → (cell == 0) ≡ false → (bound == 0) ≡ false → None ≡ head_at store cell
    → prepend_known found (chain_cells bound store cell) ≡ None
chain-gone bound store cell found there some gone =
    ap (prepend_known found) (chain-open bound store cell there some)
    ∙ ap (λ object. prepend_known found (cells_with cell object (λ object. chain_cells (bound - 1) store object.chain))) (none-held store cell gone)

-- by whether the object lives for ever
abbrev cells-by : ℕ → ℕ → Store → List ℕ → Object → Bool → Option (List ℕ)
cells-by bound cell store found object fixed =
    prepend_known found (if fixed then Some [] else option_map (λ cells. cell ∷ cells) (chain_cells (bound - 1) store object.chain))

chain-held : (bound : ℕ) (store : Store) (cell : ℕ) (found : List ℕ) (head : Head) (object : Object) (fixed : Bool) → (cell == 0) ≡ false → (bound == 0) ≡ false
    → object_at store cell ≡ Some object → object.fixed ≡ fixed
    → prepend_known found (chain_cells bound store cell) ≡ cells-by bound cell store found object fixed
chain-held bound store cell found head object fixed there some held is =
    ap (prepend_known found) (chain-open bound store cell there some)
    ∙ ap (λ object. prepend_known found (cells_with cell object (λ object. chain_cells (bound - 1) store object.chain))) held
    ∙ ap (cells-by bound cell store found object) is

pub chain-fixed : (bound : ℕ) (store : Store) (cell : ℕ) (found : List ℕ) (head : Head) → (cell == 0) ≡ false → (bound == 0) ≡ false
    → Some head ≡ head_at store cell → head.fixed ≡ true → prepend_known found (chain_cells bound store cell) ≡ Some found
chain-fixed bound store cell found head there some at fixed =
    let (object, held, head_is) = head-held store cell head at in
    chain-held bound store cell found head object true there some held (ap (λ (h : Head). h.fixed) head_is ∙ fixed) ∙ ap Some (append-nil found)

one-more : (cell : ℕ) (found : List ℕ) (rest : Option (List ℕ)) → prepend_known found (option_map (λ cells. cell ∷ cells) rest) ≡ prepend_known (found ++ cell ∷ []) rest
one-more cell found None = refl
one-more cell found (Some cells) = ap Some (sym (append_assoc found (cell ∷ []) cells))

pub chain-next : (bound : ℕ) (store : Store) (cell next : ℕ) (found : List ℕ) (head : Head) → (cell == 0) ≡ false → (bound == 0) ≡ false
    → Some head ≡ head_at store cell → head.fixed ≡ false → next ≡ chain_at store cell
    → prepend_known found (chain_cells bound store cell) ≡ prepend_known (found ++ cell ∷ []) (chain_cells (bound - 1) store next)
chain-next bound store cell next found head there some at fixed is =
    let (object, held, head_is) = head-held store cell head at in
    let chain : next ≡ object.chain = is ∙ ap (λ o. unwrap_or (option_map (λ (object : Object). object.chain) o) 0) held in
    chain-held bound store cell found head object false there some held (ap (λ (h : Head). h.fixed) head_is ∙ fixed)
    ∙ one-more cell found (chain_cells (bound - 1) store object.chain)
    ∙ ap (λ n. prepend_known (found ++ cell ∷ []) (chain_cells (bound - 1) store n)) (sym chain)

-- the numbers of the cells, and one more
pub cells-more : (cells : List Cell) (cell : Cell) → map_list (λ (c : Cell). c.0) (cells ++ cell ∷ []) ≡ map_list (λ (c : Cell). c.0) cells ++ cell.0 ∷ []
cells-more [] cell = refl
cells-more (c ∷ cells) cell = ap (λ xs. c.0 ∷ xs) (cells-more cells cell)
