-- The table of a class gives the method that is selected.
use Rattle.std.proofs.Common.{◌≡◌, sym, ◌∙◌, ap, subst, ℕ, ◌<◌, List, length, get_or, nat_eq, HashMap, BuildHasherDefault, FoldHasher}
use Rattle.std.specs.HashMap.{get}
use Rattle.fm_world.proofs.TableLemmas.{known_at, known_within, to_parts, from_parts}
use Rattle.fm_world.specs.Chains.{chain_of, first_found}
use Rattle.fm_world.specs.Lookups.{own_instance, own_selectable, is_selectable}
use Rattle.fm_world.specs.Members.{method_at, method_among, methods_of}
use Rattle.fm_world.specs.Programs.{Program}
use Rattle.fm_world.specs.declared.parts.Parts.{Parts}
use Rattle.fm_world.specs.inner.Layers.{value_at}
use Rattle.fm_world.specs.inner.Tables.{AreTables, program_in}

-- what the table of a class says of one signature
abbrev pub SaysSelected : Parts → ℕ → ℕ → ℕ → Type 0
SaysSelected x class method table =
    value_at x.selected table (get_or x.signatures method 0)
    ≡ (let m = (method_at x.declared method).method in method_among x.declared is_selectable m.name m.descriptor (chain_of x.declared class))

pub selected_within : (x : Parts) (p : Program) (class method : ℕ) (tables : List ℕ) → program_in x ≡ p → AreTables x
    → class < length p.outline.classes
    → method < length (methods_of p.outline.classes) → tables ≡ x.tops → class < length tables
selected_within x p class method tables e inv c_in m_in same =
    let c_within = to_parts (λ q. class < length q.outline.classes) x p e c_in in
    let m_within = to_parts (λ q. method < length (methods_of q.outline.classes)) x p e m_in in
    let P : List ℕ → Type 0 = λ zs. class < length zs in
    subst P (sym same) (known_within (SaysSelected x class method) x.tops class (inv.answers.selected class method c_within m_within))

pub selected_by_table : (x : Parts) (p : Program) (class method : ℕ) (tables : List ℕ) (table : ℕ) (signatures : List ℕ) → program_in x ≡ p
    → AreTables x → class < length p.outline.classes → method < length (methods_of p.outline.classes) → tables ≡ x.tops → signatures ≡ x.signatures
    → table ≡ get_or tables class table
    → value_at x.selected table (get_or signatures method 0)
    ≡ first_found (own_selectable p.outline.classes (method_at p.outline.classes method)) (chain_of p.outline.classes class)
selected_by_table x p class method tables table signatures e inv c_in m_in same same_signatures read =
    let c_within = to_parts (λ q. class < length q.outline.classes) x p e c_in in
    let m_within = to_parts (λ q. method < length (methods_of q.outline.classes)) x p e m_in in
    let says = known_at (SaysSelected x class method) tables x.tops class table same (inv.answers.selected class method c_within m_within) read in
    from_parts
    (λ q. value_at x.selected table (get_or signatures method 0)
    ≡ first_found (own_selectable q.outline.classes (method_at q.outline.classes method)) (chain_of q.outline.classes class)) x p e
    (ap (λ zs. value_at x.selected table (get_or zs method 0)) same_signatures ∙ says)

-- ---- a class's own methods

abbrev pub Table : Type 0
Table = HashMap ℕ ℕ (BuildHasherDefault FoldHasher)

abbrev pub SaysOwn : Parts → ℕ → ℕ → Table → Type 0
SaysOwn x class method table = get nat_eq table (get_or x.signatures method 0) ≡ own_instance x.declared method class

pub own_by_table : (x : Parts) (p : Program) (class method : ℕ) (tables : List Table) (table : Table) (signatures : List ℕ) → program_in x ≡ p
    → AreTables x
    → class < length tables → method < length (methods_of p.outline.classes) → tables ≡ x.own → signatures ≡ x.signatures
    → table ≡ get_or tables class table
    → get nat_eq table (get_or signatures method 0) ≡ own_instance p.outline.classes method class
own_by_table x p class method tables table signatures e inv inside m_in same same_signatures read =
    let P : ℕ → Type 0 = λ n. class < n in
    let c_within : class < length x.declared = subst P (ap length same ∙ inv.calls.one_each) inside in
    let m_within = to_parts (λ q. method < length (methods_of q.outline.classes)) x p e m_in in
    let says = known_at (SaysOwn x class method) tables x.own class table same (inv.calls.own class method c_within m_within) read in
    from_parts (λ q. get nat_eq table (get_or signatures method 0) ≡ own_instance q.outline.classes method class) x p e
    (ap (λ zs. get nat_eq table (get_or zs method 0)) same_signatures ∙ says)
