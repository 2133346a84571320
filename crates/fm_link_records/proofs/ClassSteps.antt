-- What is recorded about a class, by tables.
use Rattle.std.proofs.Common.{◌≡◌, sym, ◌∙◌, ap, ℕ, ◌+◌, ◌<◌, ◌≤◌, true, cond, List, length, map, drop, get_or, Option, Some, None, zero-add}
use Rattle.std.specs.Global.{Vec}
use Rattle.std.specs.List.{position_from}
use Rattle.std.specs.Option.{option_map}
use Rattle.std.proofs.Math.ListN.{get_or-map}
use Rattle.std.proofs.lemmas.Iterator.Adapters.{position_from-zero}
use Rattle.std.proofs.lemmas.List.{drop_all, get_or_default, length-map}
use Rattle.std.proofs.lemmas.List.FromFn.{get_or-map-range_with_len}
use Rattle.fm_base.proofs.ListFacts.{drop_here}
use Rattle.fm_world.proofs.TableLemmas.{length-row}
use Rattle.fm_world.specs.Chains.{class_at, listed_interfaces, parent_of}
use Rattle.fm_world.specs.Members.{first_method, size_of}
use Rattle.fm_world.specs.Programs.{class_info, method_id}
use Rattle.fm_world.specs.Declarations.{no_class}
use Rattle.fm_world.specs.declared.declarations.DeclaredClass.{DeclaredClass}
use Rattle.fm_world.specs.declared.declarations.DeclaredMethod.{DeclaredMethod}
use Rattle.fm_world.specs.declared.records.ClassInfo.{ClassInfo}
use Rattle.fm_world.specs.inner.Tables.{numbers_below}
use Rattle.fm_link_records.specs.inner.Classes.{bare_outline, class_told, is_start, start_from}
use Rattle.fm_link_supers.specs.inner.ListTables.{lists}

pub info_is : (classes : List DeclaredClass) (place : ℕ) (c : DeclaredClass) (parent : Option ℕ) (listed : List ℕ) (first size : ℕ) (info : ClassInfo)
    → place < length classes → c ≡ get_or classes place c → parent ≡ parent_of classes place → listed ≡ listed_interfaces classes place
    → first ≡ first_method classes place → size ≡ size_of classes place → info ≡ class_told c parent listed first size
    → info ≡ class_info (bare_outline classes) place
unfolding class_info
info_is classes place c parent listed first size info within here parent_is listed_are first_is size_is told =
    told ∙ ap (λ d. class_told d parent listed first size) (here ∙ get_or_default classes place c no_class within)
    ∙ ap (λ p. class_told (class_at classes place) p listed first size) parent_is
    ∙ ap (λ l. class_told (class_at classes place) (parent_of classes place) l first size) listed_are
    ∙ ap (λ k. class_told (class_at classes place) (parent_of classes place) (listed_interfaces classes place) k size) first_is
    ∙ ap (class_told (class_at classes place) (parent_of classes place) (listed_interfaces classes place) (first_method classes place)) size_is

pub length-lists : (f : ℕ → List ℕ) (n : ℕ) (vectors : List (Vec ℕ)) → lists vectors ≡ map f (numbers_below n) → length vectors ≡ n
length-lists f n vectors is = sym (length-map vectors (λ (v : Vec ℕ). v.items)) ∙ length-row f n (lists vectors) is

pub list_at : (f : ℕ → List ℕ) (n i : ℕ) (vectors : List (Vec ℕ)) (v : Vec ℕ) → lists vectors ≡ map f (numbers_below n) → i < n → v
    ≡ get_or vectors i v → v.items ≡ f i
list_at f n i vectors v are within read =
    ap (λ (w : Vec ℕ). w.items) read ∙ sym (get_or-map (λ (w : Vec ℕ). w.items) vectors i v)
    ∙ ap (λ t. get_or t i v.items) are ∙ get_or-map-range_with_len f 0 n i i v.items within (zero-add i)

pub table_default : {X : Type 0} (f : ℕ → X) (n i : ℕ) (table : List X) (d : X) → table ≡ map f (numbers_below n) → i < n → get_or table i d ≡ f i
table_default f n i table d is within = ap (λ t. get_or t i d) is ∙ get_or-map-range_with_len f 0 n i i d within (zero-add i)

-- ---- the method that starts a class

pub start_found : (c : DeclaredClass) (first place : ℕ) (m : DeclaredMethod) (sum : ℕ) → place < length c.methods → m ≡ get_or c.methods place m
    → is_start m ≡ true
    → position_from is_start place (drop place c.methods) ≡ position_from is_start 0 c.methods → sum ≡ first + place
    → Some (record { 0 = sum }) ≡ start_from c first
start_found c first place m sum within here starts rest is =
    ap (λ n. Some (method_id n)) is
    ∙ ap (λ o. option_map method_id (option_map (λ k. first + k) o))
    (sym (ap (λ b. cond b (Some place) (position_from is_start (place + 1) (drop (place + 1) c.methods))) starts)
    ∙ sym (ap (position_from is_start place) (drop_here c.methods place m within here)) ∙ rest ∙ sym (position_from-zero is_start c.methods))

pub no_start : (c : DeclaredClass) (first place : ℕ) → length c.methods ≤ place
    → position_from is_start place (drop place c.methods) ≡ position_from is_start 0 c.methods
    → None ≡ start_from c first
no_start c first place end rest =
    ap (λ o. option_map method_id (option_map (λ k. first + k) o))
    (sym (ap (position_from is_start place) (drop_all place c.methods end)) ∙ rest ∙ sym (position_from-zero is_start c.methods))
