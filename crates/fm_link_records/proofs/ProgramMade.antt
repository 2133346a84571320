-- Parts that are made of the tables of class files are their program.
use Rattle.std.proofs.Common.{◌≡◌, sym, ◌∙◌, ap, ℕ, List, Option}
use Rattle.std.specs.Prelude.{unwrap_or}
use Rattle.fm_code.specs.declared.class_file.ClassDef.{ClassDef}
use Rattle.fm_link_names.specs.declared.descriptors.Kinds.{Kinds}
use Rattle.fm_world.specs.Chains.{given_number}
use Rattle.fm_world.specs.Numbers.{types_of}
use Rattle.fm_world.specs.Programs.{classes_of, codes_of, main_of, outline_of, program_of, uses_of}
use Rattle.fm_world.specs.declared.parts.Parts.{Parts}
use Rattle.fm_world.specs.declared.uses.Use.{Use}
use Rattle.fm_world.specs.inner.Tables.{outline_in, program_in}
use Rattle.fm_link_records.specs.inner.Made.{AreMade, IsMadeOf}
use Rattle.fm_link_records.proofs.TablesMade.{codes-made}

outline-made : (given : List ClassDef) (main : List ℕ) (x : Parts) → IsMadeOf given main x → outline_in x ≡ outline_of given main
unfolding outline_of
outline-made given main x made =
    let class_is : x.main_class.0 ≡ unwrap_or (given_number (classes_of given) main) 0 = sym (ap (λ o. unwrap_or o 0) made.main_class) in
    let main_is : x.main.0 ≡ unwrap_or (main_of (classes_of given) (unwrap_or (given_number (classes_of given) main) 0)) 0 =
    sym (ap (λ o. unwrap_or o 0) (ap (main_of (classes_of given)) (sym class_is) ∙ made.main_method)) in
    ap (λ cs. record (outline_in x) { classes = cs }) made.declared
    ∙ ap (λ ts. record (outline_in x) { classes = classes_of given; types = ts }) made.types
    ∙ ap (λ ts. record (outline_in x) { classes = classes_of given; types = types_of (classes_of given) given; texts = ts }) made.texts
    ∙ ap (λ n. record (outline_of given main) { main_class = n; main = x.main.0 }) class_is
    ∙ ap (λ n. record (outline_of given main) { main = n }) main_is

pub program-made : (given : List ClassDef) (main : List ℕ) (x : Parts) (kinds fields : List (Option Kinds)) (slots : List ℕ) (firsts : List Use)
    → AreMade x kinds fields (codes_of given) slots firsts → IsMadeOf given main x → program_in x ≡ program_of given main
unfolding program_of
program-made given main x kinds fields slots firsts tables made =
    ap (λ cs. record (program_in x) { codes = cs }) (codes-made x kinds fields (codes_of given) slots firsts tables)
    ∙ ap (λ us. record (program_in x) { codes = codes_of given; uses = us }) made.uses
    ∙ ap (λ m. record (program_in x) { codes = codes_of given; uses = uses_of (outline_in x) given; made = m }) made.made
    ∙ ap (λ o. record (program_of given main) { outline = o; uses = uses_of o given }) (outline-made given main x made)
