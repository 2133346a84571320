-- What descriptors declare, one text after the other.
use Rattle.std.proofs.Common.{◌≡◌, sym, ◌∙◌, ap, subst, ℕ, ◌+◌, ◌<◌, ◌≤◌, ◌⊎◌, inl, inr, Bool, false, List, [], ◌∷◌, ◌++◌, length, get_or, Option, None, arith}
use Rattle.std.proofs.Math.Seq.{get_or-append_seam}
use Rattle.std.proofs.lemmas.Bool.{cases_lt}
use Rattle.std.proofs.lemmas.List.{get_or_append_left, length_push}
use Rattle.fm_link_names.specs.declared.descriptors.Kinds.{Kinds}
use Rattle.fm_world.specs.declared.declarations.DeclaredClass.{DeclaredClass}
use Rattle.fm_link_records.specs.inner.DeclaredKinds.{AreKinds, IsKinds}

pub kinds_more : (classes : List DeclaredClass) (texts : List (List ℕ)) (marks : List Bool) (old new : List (Option Kinds)) (one : Option Kinds)
    (place : ℕ)
    (text : List ℕ) (mark : Bool) → new ≡ old ++ one ∷ [] → length old ≡ place → text ≡ get_or texts place [] → mark ≡ get_or marks place false
    → IsKinds classes text mark one → AreKinds classes texts marks old → AreKinds classes texts marks new
kinds_more classes texts marks old new one place text mark is count at marked here before n h = by (cases_lt n (length old)) where
  P : Option Kinds → Type 0
  P o = IsKinds classes (get_or texts n []) (get_or marks n false) o

  by : (n < length old) ⊎ (length old ≤ n) → P (get_or new n None)
  by (inl below) = subst P (sym (ap (λ ks. get_or ks n None) is ∙ get_or_append_left old (one ∷ []) None n below)) (before n below)
  by (inr above) =
      let l = length_push old one in let e = ap length is in
      let last : length old ≡ n = omega (arith, h, above, l, e) in
      let same : place ≡ n = omega (arith, last, count) in
      let found : get_or new n None ≡ one =
      ap (λ ks. get_or ks n None) is ∙ ap (λ k. get_or (old ++ one ∷ []) k None) (sym last) ∙ get_or-append_seam old one [] None in
      let Q : List ℕ → Type 0 = λ t. IsKinds classes t mark one in
      let R : Bool → Type 0 = λ m. IsKinds classes (get_or texts n []) m one in
      subst P (sym found) (subst R (marked ∙ ap (λ k. get_or marks k false) same) (subst Q (at ∙ ap (λ k. get_or texts k []) same) here))
