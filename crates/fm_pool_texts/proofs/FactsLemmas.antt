-- The facts of one entry after the other.
use Rattle.std.proofs.Common.{◌≡◌, ◌↔◌, ℕ, zero, suc, ◌+◌, ◌<◌, ◌≤◌, true, List, [], ◌∷◌, ◌++◌, length, take, get_or, Option, Some, None, refl, sym, ap, subst, ◌∙◌, arith}
use Rattle.std.specs.List.{sum_by}
use Rattle.std.specs.Option.{is_none}
use Rattle.std.proofs.lemmas.List.{take_more}
use Rattle.fm_code.specs.ConstantPool.{utf8_at}
use Rattle.fm_code.specs.declared.constant_pool.Entry.{Entry}
use Rattle.fm_code.specs.declared.constant_pool.Entry.TheVariants as entry
use Rattle.fm_code.specs.Members.{ReturnsNothing}
use Rattle.fm_code.specs.Names.{FieldType, words_of, MethodType, IsMethodType, method_descriptor, IsMethodDescriptor}
use Rattle.fm_code.specs.Operands.{TakesWords}
use Rattle.fm_pool_texts.specs.Facts.{AreFactsOf, AreFactsAt, AreFacts, counted_words}
use Rattle.fm_pool_texts.specs.inner.Entries.{own_text}
use Rattle.fm_pool_texts.specs.declared.descriptors.MethodFacts.{MethodFacts}
use Rattle.fm_pool_texts.specs.declared.facts.TextFacts.{TextFacts}
use Rattle.fm_pool_texts.proofs.MethodDescriptors.{known, same_facts}

-- the facts of each entry's own text
abbrev pub AreListed : List Entry → List (Option TextFacts) → Type 0
AreListed [] [] = Unit {0}
AreListed [] (f ∷ facts) = ⊥
AreListed (e ∷ entries) [] = ⊥
AreListed (e ∷ entries) (f ∷ facts) = AreFactsAt (own_text e) f × AreListed entries facts

-- those of one more entry
listed_push : (entries : List Entry) (facts : List (Option TextFacts)) (e : Entry) (f : Option TextFacts) → AreListed entries facts → AreFactsAt (own_text e) f → AreListed (entries ++ e ∷ []) (facts ++ f ∷ [])
listed_push [] [] e f h is = (is, tt)
listed_push [] (g ∷ facts) e f h is = absurd h
listed_push (d ∷ entries) [] e f h is = absurd h
listed_push (d ∷ entries) (g ∷ facts) e f h is = (h.0, listed_push entries facts e f h.1 is)

pub listed_next : (entries : List Entry) (i : ℕ) (e : Entry) (facts pushed : List (Option TextFacts)) (f : Option TextFacts) → i < length entries → e ≡ get_or entries i e → pushed ≡ facts ++ f ∷ [] → AreListed (take i entries) facts → AreFactsAt (own_text e) f
    → AreListed (take (i + 1) entries) pushed
listed_next entries i e facts pushed f lt is pushed_is h known =
    let prefix : take (i + 1) entries ≡ take i entries ++ e ∷ [] = take_more entries i e lt ∙ ap (λ (x : Entry). take i entries ++ x ∷ []) (sym is) in
    subst (λ (es : List Entry). AreListed es pushed) (sym prefix) (subst (AreListed (take i entries ++ e ∷ [])) (sym pushed_is) (listed_push (take i entries) facts e f h known))

-- an entry's own text is the one at its index
own_text_is : (e : Entry) (entries : List Entry) → own_text e ≡ utf8_at (e ∷ entries) 0
own_text_is (entry.Utf8 name) entries = refl
own_text_is e entries = refl

pub listed_all : (entries : List Entry) (facts : List (Option TextFacts)) → AreListed entries facts → AreFacts entries facts
listed_all [] [] h index = tt
listed_all [] (f ∷ facts) h index = absurd h
listed_all (e ∷ entries) [] h index = absurd h
listed_all (e ∷ entries) (f ∷ facts) h zero = subst (λ (o : Option (List ℕ)). AreFactsAt o f) (own_text_is e entries) h.0
listed_all (e ∷ entries) (f ∷ facts) h (suc index) = listed_all entries facts h.1 index

-- ---- the descriptors of methods

is_known : (text : List ℕ) (facts : TextFacts) (t : MethodType) → AreFactsOf text facts → IsMethodType t → text ≡ method_descriptor t
    → facts.method ≡ known (record { argument_words = counted_words (sum_by words_of t.parameters); returns_nothing = is_none t.result })
is_known text facts t of ok spelled = (of.method _).1 (record { type = t; is_type = ok; spelled = spelled; argument_words = refl; returns_nothing = refl })

-- what is known of a method's descriptor is that of its type
told : (text : List ℕ) (facts : TextFacts) (m : MethodFacts) (t : MethodType) → AreFactsOf text facts → facts.method ≡ Some m → IsMethodType t → text ≡ method_descriptor t
    → (m.argument_words ≡ counted_words (sum_by words_of t.parameters)) × (m.returns_nothing ≡ is_none t.result)
told text facts m t of is ok spelled =
    let same = same_facts m _ (sym is ∙ is_known text facts t of ok spelled) in (ap (λ (f : MethodFacts). f.argument_words) same, ap (λ (f : MethodFacts). f.returns_nothing) same)

pub no_method : (text : List ℕ) (facts : TextFacts) (t : MethodType) → AreFactsOf text facts → facts.method ≡ None → IsMethodType t → text ≡ method_descriptor t → ⊥
no_method text facts t of is ok spelled = let some = is_known text facts t of ok spelled in cc

pub few_words : (text : List ℕ) (facts : TextFacts) (m : MethodFacts) (receiver : ℕ) → AreFactsOf text facts → facts.method ≡ Some m → (m.argument_words + receiver ≤ 255) ↔ IsMethodDescriptor receiver text
few_words text facts m receiver of is = (
  λ few. let w = (of.method m).0 is in (w.type, (w.is_type, (w.spelled, omega (arith, few, w.argument_words)))),
  λ w. let words = told text facts m w.0 of is w.1.0 w.1.1.0 in omega (arith, words.0, w.1.1.1),
)

pub these_words : (text : List ℕ) (facts : TextFacts) (m : MethodFacts) (words : ℕ) → words < 256 → AreFactsOf text facts → facts.method ≡ Some m → (m.argument_words + 1 ≡ words) ↔ TakesWords words text
these_words text facts m words fits of is = (
  λ e. let w = (of.method m).0 is in (w.type, (w.is_type, (w.spelled, omega (arith, e, fits, w.argument_words)))),
  λ w. let all = told text facts m w.0 of is w.1.0 w.1.1.0 in omega (arith, all.0, fits, w.1.1.1),
)

nothing : (result : Option FieldType) → (is_none result ≡ true) ↔ (result ≡ None)
nothing None = (λ e. refl, λ e. refl)
nothing (Some t) = (λ e. absurd cc, λ e. absurd cc)

pub no_result : (text : List ℕ) (facts : TextFacts) (m : MethodFacts) → AreFactsOf text facts → facts.method ≡ Some m → (m.returns_nothing ≡ true) ↔ ReturnsNothing text
no_result text facts m of is = (
  λ e. let w = (of.method m).0 is in (w.type, (w.is_type, (w.spelled, (nothing w.type.result).0 (sym w.returns_nothing ∙ e)))),
  λ w. (told text facts m w.0 of is w.1.0 w.1.1.0).1 ∙ (nothing w.0.result).1 w.1.1.1,
)
