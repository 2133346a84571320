-- The words that the start of classes needs: each literal is counted once.
use Rattle.std.proofs.Common.{◌≡◌, ℕ, ◌+◌, ◌<◌, ◌≤◌, ◌||◌, ◌⊎◌, inl, inr, Bool, true, false, List, [], ◌∷◌, ◌++◌, get_or, zero, suc, length, drop, map, min, set, refl, ap, sym, ◌∙◌, subst, arith}
use Rattle.std.proofs.lemmas.Bool.{cases_eq, eq-eqb, ne_eqb}
use Rattle.std.proofs.lemmas.List.{get_or-set_other, get_or-set_same, length-set}
use Rattle.std.specs.List.{AllByRecursion}
use Rattle.std.proofs.Math.ListN.{drop_of_length-le}
use Rattle.fm_base.specs.Rows.{has}
use Rattle.fm_exec_calls.specs.inner.Actions.{AreCounted}
use Rattle.fm_frames.specs.Effects.{Action}
use Rattle.fm_frames.specs.States.{Areas}
use Rattle.fm_frames.specs.Steps.{literal_of, most_words, words_among, words_made, words_of}
use Rattle.fm_world.specs.Chains.{is_among}
use Rattle.fm_world.specs.Programs.{Outline}

-- what actions need and what others need that come after them
pub words-append : (o : Outline) (x : Areas) (own : ℕ) (actions more : List Action) → ((x : Areas) (literals : List ℕ) → words_among o x literals more ≡ own)
    → (literals : List ℕ) → words_among o x literals (actions ++ more) ≡ words_among o x literals actions + own
words-append o x own [] more needs literals = let all = needs x literals in omega (arith, all)
words-append o x own (action ∷ actions) more needs literals =
    let rest = words-append o x own actions more needs (literal_of action ++ literals) in omega (arith, rest)

-- a further text is counted
pub counted-more : (counted : List Bool) (literals : List ℕ) (text : ℕ) → text < length counted → AreCounted counted literals
    → AreCounted (set counted text true) (text ∷ literals)
counted-more counted literals text inside known other within = by_same (cases_eq other text) where
  by_same : (other ≡ text) ⊎ (other ≡ text → ⊥) → has (set counted text true) other ≡ is_among other (text ∷ literals)
  by_same (inl same) =
      ap (λ n. get_or (set counted text true) n false) same ∙ get_or-set_same counted text true false inside
      ∙ ap (λ b. b || is_among other literals) (sym (eq-eqb other text same))
  by_same (inr apart) =
      get_or-set_other counted text other true false apart
      ∙ known other (subst (λ n. other < n) (length-set counted text true) within)
      ∙ ap (λ b. b || is_among other literals) (sym (ne_eqb other text apart))

-- how far the words are counted: with those of the actions that are left they are the whole
pub record IsCounting (o : Outline) (x : Areas) (own words : ℕ) (counted : List Bool) (all left : List Action) : Type 0 where
  pub literals : List ℕ
  pub known : AreCounted counted literals
  pub many : length counted ≡ length o.texts
  pub few : words ≤ most_words
  pub sum : min (words + words_among o x literals left) most_words ≡ min (own + words_among o x [] all) most_words

pub counting-from : (o : Outline) (x : Areas) (own : ℕ) (counted : List Bool) (all : List Action) → AreCounted counted [] → length counted ≡ length o.texts
    → own ≤ most_words → IsCounting o x own own counted all all
counting-from o x own counted all known many few = record { literals = []; known = known; many = many; few = few; sum = refl }

pub counting-next : (o : Outline) (x : Areas) (own words needed sum : ℕ) (counted next : List Bool) (all left : List Action) (action : Action)
    → IsCounting o x own words counted all (action ∷ left)
    → ((literals : List ℕ) → AreCounted counted literals → needed ≡ words_of o x literals action)
    → ((literals : List ℕ) → AreCounted counted literals → AreCounted next (literal_of action ++ literals))
    → length next ≡ length counted → sum ≡ min (words + needed) most_words
    → IsCounting o x own sum next all left
counting-next o x own words needed sum counted next all left action so needs more same is =
    let needed_is = needs so.literals so.known in
    record {
      literals = literal_of action ++ so.literals;
      known = more so.literals so.known;
      many = same ∙ so.many;
      few = omega (arith, is);
      sum = (let s = so.sum in omega (arith, is, needed_is, s));
    }

pub counting-end : (o : Outline) (x : Areas) (own words : ℕ) (counted : List Bool) (all : List Action)
    → IsCounting o x own words counted all [] → words ≡ min (own + words_among o x [] all) most_words
counting-end o x own words counted all so =
    let s = so.sum in
    let few = so.few in omega (arith, few, s)

-- the words of all, and of what comes after them
pub words-whole : (o : Outline) (x : Areas) (own needed : ℕ) (first actions : List Action) → ((x : Areas) (literals : List ℕ) → words_among o x literals actions ≡ own)
    → needed ≡ min (own + words_among o x [] first) most_words → words_made o x (first ++ actions) ≡ needed
words-whole o x own needed first actions has is = let all = words-append o x own first actions has [] in omega (arith, all, is)

-- the same where nothing comes after them
pub words-alone : (o : Outline) (x : Areas) (needed : ℕ) (first : List Action) → needed ≡ min (0 + words_among o x [] first) most_words → words_made o x first ≡ needed
words-alone o x needed first is = omega (arith, is)

-- ---- lists

-- what holds of each element of a mapped list
pub all-at : {A B : Type 0} (P : B → Type 0) (f : A → B) (xs : List A) (i : ℕ) (d : A) → AllByRecursion P (map f xs) → i < length xs → P (f (get_or xs i d))
all-at P f [] i d all inside = absurd (omega (arith, inside))
all-at P f (x ∷ xs) zero d all inside = all.0
all-at P f (x ∷ xs) (suc i) d all inside = all-at P f xs i d all.1 (omega (arith, inside))

-- what is left of it, by its first element
pub left-at : {A B : Type 0} (f : A → B) (xs : List A) (i : ℕ) (d : A) → i < length xs → map f (drop i xs) ≡ f (get_or xs i d) ∷ map f (drop (i + 1) xs)
left-at f [] i d inside = absurd (omega (arith, inside))
left-at f (x ∷ xs) zero d inside = refl
left-at f (x ∷ xs) (suc i) d inside =
    let next : suc (i + 1) ≡ suc i + 1 = omega arith in
    left-at f xs i d (omega (arith, inside)) ∙ ap (λ n. f (get_or xs i d) ∷ map f (drop n (x ∷ xs))) next

pub none-left : {A B : Type 0} (f : A → B) (xs : List A) (i : ℕ) → length xs ≤ i → map f (drop i xs) ≡ []
none-left f xs i over = ap (map f) (drop_of_length-le xs over)
