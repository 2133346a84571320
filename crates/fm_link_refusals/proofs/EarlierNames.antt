-- The names of the files so far, as a loop keeps them.
use Rattle.std.proofs.Common.{◌≡◌, refl, sym, ◌∙◌, ap, ℕ, ◌+◌, ◌<◌, Bool, true, false, cond, ◌||◌, List, [], ◌∷◌, ◌++◌, length, drop, get_or, Bor, Option, Some, None, is_some, not, slice_get, ◌⊎◌, inl, inr}
use Rattle.std.specs.BTreeMap.{BTreeMap, get_by, is_at, UpdatesBy}
use Rattle.std.proofs.lemmas.Map.Text.{btree_map_updates_str}
use Rattle.std.specs.Cmp.Lexicographic.{slice_cmp}
use Rattle.std.specs.List.{list_any}
use Rattle.std.specs.Map.{lookup}
use Rattle.std.specs.Ordering.{nat_cmp}
use Rattle.std.specs.Str.{bytes_eq}
use Rattle.fm_base.proofs.ListFacts.{drop_here}
use Rattle.fm_base.proofs.TestFacts.{same_or_other, bytes_eq-other}
use Rattle.fm_code.specs.declared.class_file.ClassDef.{ClassDef}
use Rattle.fm_world.specs.BuiltIns.{built_in}
use Rattle.fm_world.specs.Descriptors.{class_number}
use Rattle.fm_world.specs.Causes.{BuiltIn, Refusal, Duplicate, built_in_named, completes, duplicates, own_name, refused, refused_if, refused_where}
use Rattle.fm_world.specs.Chains.{class_at}
use Rattle.fm_link_refusals.specs.inner.Completions.{is_built_in, leaves}
use Rattle.fm_world.specs.Linking.{refused_duplicates}
use Rattle.fm_link_refusals.specs.Refused.{refusal_as}
use Rattle.fm_link_refusals.specs.declared.error.LinkBad.{LinkBad}

-- what a map has at a text
abbrev pub known_of : {X : Type 0} → BTreeMap (Bor (List ℕ)) X → List ℕ → Option X
known_of m text = get_by (λ (k : Bor (List ℕ)). slice_cmp nat_cmp text k.now) m

-- nothing is refused so far: what is left is refused after some names, and these are known
pub record AreEarlier {X : Type 0} (given left : List ClassDef) (known : List ℕ → Option X) : Type 0 where
  pub earlier : List (List ℕ)
  pub rest : refused_duplicates given ≡ duplicates earlier left
  pub seen : (name : List ℕ) → is_some (known name) ≡ list_any (bytes_eq name) earlier

-- ---- texts

pub bytes_eq-swapped : (a b : List ℕ) → bytes_eq a b ≡ bytes_eq b a
bytes_eq-swapped a b = go (same_or_other a b) where
  go : (a ≡ b) ⊎ (a ≡ b → ⊥) → bytes_eq a b ≡ bytes_eq b a
  go (inl e) = ap (λ x. bytes_eq x b) e ∙ ap (bytes_eq b) (sym e)
  go (inr d) = bytes_eq-other a b d ∙ sym (bytes_eq-other b a (λ e. d (sym e)))

-- ---- the loop

pub earlier-none : (given : List ClassDef) (m : BTreeMap (Bor (List ℕ)) (Unit {0})) → m.entries ≡ [] → AreEarlier given given (known_of m)
unfolding refused_duplicates
earlier-none given m empty = record {
  earlier = [];
  rest = refl;
  seen = λ name. ap (λ es. is_some (lookup (is_at (λ (k : Bor (List ℕ)). slice_cmp nat_cmp name k.now)) es)) empty;
}

-- what is left begins with a class
left_here : {X : Type 0} (given : List ClassDef) (i : ℕ) (c : ClassDef) (known : List ℕ → Option X) (e : AreEarlier given (drop i given) known)
    → i < length given → c ≡ get_or given i c
    → refused_duplicates given ≡ duplicates e.earlier (c ∷ drop (i + 1) given)
left_here given i c known e within is = e.rest ∙ ap (duplicates e.earlier) (drop_here given i c within is)

pub duplicate_here : {X : Type 0} (given : List ClassDef) (i : ℕ) (c : ClassDef) (known : List ℕ → Option X) (name : List ℕ) (bad : LinkBad)
    → AreEarlier given (drop i given) known → i < length given → c ≡ get_or given i c → name ≡ own_name c → is_some (known name) ≡ true → bad.name
    ≡ name → bad.user ≡ name
    → slice_get (refused_duplicates given) 0 ≡ Some (refusal_as Duplicate bad)
duplicate_here given i c known name bad e within is own there named used =
    let own_there : list_any (bytes_eq (own_name c)) e.earlier ≡ true = ap (λ n. list_any (bytes_eq n) e.earlier) (sym own) ∙ sym (e.seen name)
    ∙ there in
    let here : duplicates e.earlier (c ∷ drop (i + 1) given)
    ≡ refused Duplicate c (own_name c) ∷ duplicates (own_name c ∷ e.earlier) (drop (i + 1) given) =
    ap (λ b. refused_if b (refused Duplicate c (own_name c)) ++ duplicates (own_name c ∷ e.earlier) (drop (i + 1) given)) own_there in
    let same : refused Duplicate c (own_name c) ≡ refusal_as Duplicate bad =
    ap (λ n. let r : Refusal = record { cause = Duplicate; name = n; user = own_name c } in r) (sym own ∙ sym named)
    ∙ ap (λ n. let r : Refusal = record { cause = Duplicate; name = bad.name; user = n } in r) (sym own ∙ sym used) in
    ap (λ rs. slice_get rs 0) (left_here given i c known e within is ∙ here) ∙ ap (λ r. Some r) same

pub earlier-more : (given : List ClassDef) (i : ℕ) (c : ClassDef) (m n : BTreeMap (Bor (List ℕ)) (Unit {0})) (name : List ℕ)
    → AreEarlier given (drop i given) (known_of m) → i < length given → c ≡ get_or given i c → name ≡ own_name c → is_some (known_of m name) ≡ false
    → UpdatesBy (λ x y. slice_cmp nat_cmp x.now y.now) (λ k. slice_cmp nat_cmp name k.now) m n (Some tt)
    → AreEarlier given (drop (i + 1) given) (known_of n)
earlier-more given i c m n name e within is own absent updates = record { earlier = own_name c ∷ e.earlier; rest = left; seen = seen } where
  fresh : list_any (bytes_eq (own_name c)) e.earlier ≡ false
  fresh = ap (λ t. list_any (bytes_eq t) e.earlier) (sym own) ∙ sym (e.seen name) ∙ absent

  left : refused_duplicates given ≡ duplicates (own_name c ∷ e.earlier) (drop (i + 1) given)
  left =
      left_here given i c (known_of m) e within is
      ∙ ap (λ b. refused_if b (refused Duplicate c (own_name c)) ++ duplicates (own_name c ∷ e.earlier) (drop (i + 1) given)) fresh

  either : (b : Bool) (o : Option (Unit {0})) → is_some (cond b (Some tt) o) ≡ (b || is_some o)
  either true o = refl
  either false o = refl

  seen : (q : List ℕ) → is_some (known_of n q) ≡ list_any (bytes_eq q) (own_name c ∷ e.earlier)
  seen q =
      ap is_some (btree_map_updates_str name m n (Some tt) updates q)
      ∙ either (bytes_eq name q) (known_of m q)
      ∙ ap (λ b. b || is_some (known_of m q)) (bytes_eq-swapped name q ∙ ap (bytes_eq q) own)
      ∙ ap (λ b. bytes_eq q (own_name c) || b) (e.seen q)

-- ---- names of built-in classes

-- what is refused of a file for its name
named_by : (c : ClassDef) (found : Option ℕ) → refused_where (λ class. refused_if (not (completes (class_at built_in class) c)) (refused BuiltIn c (own_name c))) found
    ≡ refused_if (leaves c found) (refused BuiltIn c (own_name c))
named_by c None = refl
named_by c (Some class) = refl

pub built_in_here : (c : ClassDef) (name : List ℕ) (bad : LinkBad) → name ≡ own_name c → is_built_in name c ≡ true → bad.name
    ≡ name → bad.user ≡ name
    → slice_get (built_in_named c) 0 ≡ Some (refusal_as BuiltIn bad)
built_in_here c name bad own there named used =
    let same : refused BuiltIn c (own_name c) ≡ refusal_as BuiltIn bad =
    ap (λ n. let r : Refusal = record { cause = BuiltIn; name = n; user = own_name c } in r) (sym own ∙ sym named)
    ∙ ap (λ n. let r : Refusal = record { cause = BuiltIn; name = bad.name; user = n } in r) (sym own ∙ sym used) in
    ap (λ refusals. slice_get refusals 0) (named_by c (class_number built_in (own_name c)))
    ∙ ap (λ b. slice_get (refused_if b (refused BuiltIn c (own_name c))) 0) (ap (λ n. is_built_in n c) (sym own) ∙ there)
    ∙ ap (λ r. Some r) same

pub built_in_other : (c : ClassDef) (name : List ℕ) → name ≡ own_name c → is_built_in name c ≡ false → built_in_named c ≡ []
built_in_other c name own absent =
    named_by c (class_number built_in (own_name c))
    ∙ ap (λ b. refused_if b (refused BuiltIn c (own_name c))) (ap (λ n. is_built_in n c) (sym own) ∙ absent)
