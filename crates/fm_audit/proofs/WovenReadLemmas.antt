-- New code that is woven by insertions is read as these.
use Rattle.std.proofs.Common.{◌≡◌, refl, sym, ◌∙◌, ap, ℕ, ◌+◌, ◌≤◌, ◌++◌, Bool, true, false, cond, List, [], ◌∷◌, length, map, append-nil, arith}
use Rattle.std.specs.Prelude.{nat_eq}
use Rattle.std.specs.List.{AllByRecursion, IsDistinct, range_with_len}
use Rattle.std.specs.Option.{option_map}
use Rattle.std.proofs.lemmas.Bool.{eq-eqb, eqb-true, false≢true}
use Rattle.fm_base.proofs.TestFacts.{apart-nat_eq}
use Rattle.fm_layout.proofs.WideningLemmas.{rounds_wider}
use Rattle.fm_layout.specs.Laid.{firsts_from, laid_of}
use Rattle.fm_layout.specs.Rooms.{rooms_of, starts_from, widened_rooms}
use Rattle.fm_place.specs.Insertions.{after_at, Holder, numbers_of}
use Rattle.fm_place.specs.Woven.{anchors_of, woven, woven_code, woven_from}
use Rattle.fm_audit.proofs.LaidLemmas.{AreLaid}
use Rattle.fm_audit.proofs.ListedLemmas.{with_starts}
use Rattle.fm_audit.proofs.ReadBackLemmas.{nulls_read, quiet_from, read_back}
use Rattle.fm_audit.proofs.ReadingLemmas.{nulls_none}
use Rattle.fm_audit.specs.ReadBack.{WovenIsRead}
use Rattle.fm_audit.specs.Reading.{nulls, read_from}

-- ---- the holders of one site

none_apart : (j x a : ℕ) (holders : List Holder) → x ≡ j → AllByRecursion (λ y. nat_eq x y ≡ false) (map (λ (h : Holder). h.site) holders)
    → numbers_of (λ h. nat_eq h.site j) a holders ≡ []
none_apart j x a [] same apart = refl
none_apart j x a (g ∷ holders) same apart =
    let rest = numbers_of (λ h. nat_eq h.site j) (a + 1) holders in
    let other : nat_eq g.site j ≡ false = apart-nat_eq g.site j (λ is. false≢true (sym apart.0 ∙ eq-eqb x g.site (same ∙ sym is))) in
    ap (λ b. cond b (a ∷ rest) rest) other ∙ none_apart j x (a + 1) holders same apart.1

one_at_most : (j a : ℕ) (holders : List Holder) → IsDistinct nat_eq (map (λ (h : Holder). h.site) holders)
    → length (numbers_of (λ h. nat_eq h.site j) a holders) ≤ 1
unfolding IsDistinct
one_at_most j a [] own = omega arith
one_at_most j a (h ∷ holders) own = by_test (nat_eq h.site j) refl (one_at_most j (a + 1) holders own.1) where
  rest : List ℕ
  rest = numbers_of (λ g. nat_eq g.site j) (a + 1) holders

  by_test : (b : Bool) → nat_eq h.site j ≡ b → length rest ≤ 1 → length (cond b (a ∷ rest) rest) ≤ 1
  by_test false other few = few
  by_test true same few =
      let none : length rest ≡ 0 = ap length (none_apart j h.site (a + 1) holders (eqb-true h.site j same) own.0) in omega (arith, none)

-- ---- all items

pub woven_is_read : WovenIsRead
unfolding laid_of
woven_is_read free code ins rules own =
    let first = code.max_locals in
    let anchors = anchors_of ins code.items in
    let all = woven free code ins in
    let rooms = rooms_of code.items all in
    let wider = widened_rooms rooms in
    let starts = starts_from 0 wider in
    let firsts = firsts_from 0 wider in
    let items = (woven_code free code ins).items in
    let laid : AreLaid code.items starts firsts all items =
    record { start = 0; number = 0; rooms = wider; wider = rounds_wider (length rooms) rooms; is = refl } in
    let single : (j : ℕ) → length (after_at ins j) ≤ 1 = λ j. one_at_most j 0 ins.holders own in
    let begun = nulls_read code.items starts firsts free first (range_with_len 0 (length ins.holders)) (woven_from free code ins anchors 0 code.items) items laid in
    let quiet = quiet_from code.items starts firsts free code ins anchors single 0 code.items begun.here rules.1.locals begun.here_laid in
    let none = nulls_none first begun.here quiet.nulls in
    let holders : nulls first items ≡ range_with_len 0 (length ins.holders) =
    begun.holders ∙ ap (λ (l : List ℕ). range_with_len 0 (length ins.holders) ++ l) none.0 ∙ append-nil (range_with_len 0 (length ins.holders)) in
    let back = read_back code.items starts firsts free code ins anchors single 0 code.items begun.here rules.1.locals begun.here_laid in
    (λ k. option_map (with_starts (holders k)) (read_from free first 0 code.items ((begun.after ∙ none.1) k)))
    ∙ ap (option_map (with_starts (range_with_len 0 (length ins.holders)))) back
