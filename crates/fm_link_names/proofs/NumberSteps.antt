-- The map of class numbers from the last class to the first.
use Rattle.std.proofs.Common.{◌≡◌, refl, sym, ◌∙◌, ap, ℕ, ◌+◌, ◌<◌, cond, List, [], ◌∷◌, map, length, drop, get_or, Some}
use Rattle.std.specs.Borrow.{Bor}
use Rattle.std.specs.List.{position_from}
use Rattle.std.specs.Str.{bytes_eq}
use Rattle.std.proofs.lemmas.Iterator.Adapters.{position_from-zero}
use Rattle.std.proofs.lemmas.Map.Text.{hash_map_updates_str}
use Rattle.indexmap.specs.IndexMap.{IndexMap, Updates}
use Rattle.fm_base.proofs.ListFacts.{drop_here}
use Rattle.fm_link_names.specs.inner.ClassNumbering.{number_in}
use Rattle.fm_world.specs.declared.name_key.NameKey.{NameKey}
use Rattle.fm_link_names.specs.inner.Numbering.{lent}
use Rattle.fm_world.specs.Descriptors.{class_number}
use Rattle.fm_world.specs.declared.declarations.DeclaredClass.{DeclaredClass}

-- one class more, before the others
pub numbers_step : (classes : List DeclaredClass) (k : ℕ) (c : DeclaredClass) (m n : IndexMap (Bor (List ℕ)) ℕ NameKey) (key : Bor (List ℕ)) (number : ℕ)
    → k < length classes
    → c ≡ get_or classes k c → key.now ≡ c.name → number ≡ k
    → ((name : List ℕ) → number_in m name ≡ position_from (λ d. bytes_eq d.name name) (k + 1) (drop (k + 1) classes))
    → Updates (λ (a b : Bor (List ℕ)). bytes_eq a.now b.now) m n key (Some number)
    → (name : List ℕ) → number_in n name ≡ position_from (λ d. bytes_eq d.name name) k (drop k classes)
numbers_step classes k c m n key number within is named at so_far updates name =
    hash_map_updates_str key.now m n (Some number) updates name
    ∙ ap (λ t. cond (bytes_eq t name) (Some number) (number_in m name)) named
    ∙ ap (λ j. cond (bytes_eq c.name name) (Some j) (number_in m name)) at
    ∙ ap (λ o. cond (bytes_eq c.name name) (Some k) o) (so_far name)
    ∙ sym (ap (position_from (λ (d : DeclaredClass). bytes_eq d.name name) k) (drop_here classes k c within is))

-- no class is left
pub numbers_end : (classes : List DeclaredClass) (left : ℕ) (m : IndexMap (Bor (List ℕ)) ℕ NameKey) → left ≡ 0
    → ((name : List ℕ) → number_in m name ≡ position_from (λ d. bytes_eq d.name name) left (drop left classes))
    → (name : List ℕ) → number_in m name ≡ class_number classes name
numbers_end classes left m none all name =
    all name
    ∙ ap (λ j. position_from (λ (d : DeclaredClass). bytes_eq d.name name) j (drop j classes)) none
    ∙ sym (position_from-zero (λ (d : DeclaredClass). bytes_eq d.name name) classes)

-- functions that agree make the same of what is lent
pub map_lent : {Y : Type 0} (f g : List ℕ → Y) → ((text : List ℕ) → f text ≡ g text) → (texts : List (Bor (List ℕ)))
    → map (λ (b : Bor (List ℕ)). f b.now) texts ≡ map g (lent texts)
map_lent f g same [] = refl
map_lent f g same (x ∷ xs) = ap (λ y. y ∷ map (λ (b : Bor (List ℕ)). f b.now) xs) (same x.now) ∙ ap (λ ys. g x.now ∷ ys) (map_lent f g same xs)
