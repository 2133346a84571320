-- Where contents are known, class files have one verdict, and so one status.
use Rattle.std.proofs.Common.{◌≡◌, ◌<◌, ◌≤◌, ℕ, ◌+◌, zero, suc, ◌⊎◌, inl, inr, ⊎_elim, List, [], ◌∷◌, length, take, Option, Some, None, IsSomeAnd, refl, sym, ap, ◌∙◌, subst, arith}
use Rattle.std.specs.List.{slice_get}
use Rattle.std.proofs.lemmas.Bool.{cases_lt}
use Rattle.std.proofs.lemmas.List.{take_all}
use Rattle.std.proofs.lemmas.List.Sums.{sum_by_more_le}
use Rattle.std.proofs.lemmas.Option.{slice_get_within, get_or_from_slice_get}
use Rattle.fm_base.proofs.OptionFacts.{same_value}
use Rattle.fm_base.specs.declared.limits.TheConstants.{MAX_CLASS_FILES, MAX_ALL_CLASS_FILES_BYTES}
use Rattle.fm_files.specs.Files.{Bytes}
use Rattle.fm_code.specs.ClassBytes.{class_bytes}
use Rattle.fm_code.specs.Spells.{Spells}
use Rattle.fm_code.specs.declared.class_file.ClassDef.{ClassDef}
use Rattle.fm_code.proofs.ClassLaw.{one_record}
use Rattle.fm_check_program.specs.Untyped.{AreTyped}
use Rattle.fm_cli.specs.declared.status.TheConstants.{READ, LIMIT, LINK, CHECK}
use Rattle.fm_world.specs.Linking.{refusals}
use Rattle.fm_world.specs.Programs.{program_of}
use Rattle.fm_load.specs.ClassRefusal.{class_refusal_status}
use Rattle.fm_load.specs.Taking.{IsTaken, AreTaken, total_bytes, AllTaken, Reaches, IsTooLong, IsRefused}
use Rattle.fm_load.specs.declared.class_refusal.ClassRefusal.{ClassRefusal}
use Rattle.fm_load.proofs.ReadLemmas.{same_number}
use Rattle.fm_load.proofs.RefusalLemmas.{one_status, refused_not_taken}

-- ---- verdicts

-- why a file of these bytes isn't taken, after others that have a given number of bytes together
abbrev pub FailsAs : ℕ → ℕ → Bytes → Type 0
FailsAs status total bytes = (IsTooLong total bytes × (status ≡ LIMIT)) ⊎ ((r : ClassRefusal) × IsRefused r total bytes × (status ≡ class_refusal_status r))

-- why a file isn't taken: it isn't there, or its bytes aren't taken
abbrev pub Fails : ℕ → ℕ → Option Bytes → Type 0
Fails status total there = ((there ≡ None) × (status ≡ READ)) ⊎ IsSomeAnd there (FailsAs status total)

-- the call reaches a file that isn't taken
pub record Stops (held : Bytes → Option Bytes) (files : List Bytes) (status : ℕ) : Type 0 where
  pub file : Bytes
  pub before : List ClassDef
  pub reaches : Reaches (Some held) files file before
  pub fails : Fails status (total_bytes before) (held file)

-- the outcome of classes after all, by their status
abbrev pub Ends : Type 1
Ends = List ClassDef → ℕ → Type 0

-- not each method of their program is typed, or each is, and the rest follows
abbrev pub Checks : Ends → List ℕ → Ends
Checks Rest main classes status =
    ((¬ AreTyped (program_of classes main)) × (status ≡ CHECK)) ⊎ (AreTyped (program_of classes main) × Rest classes status)

-- classes make no program with that main class, or they do
abbrev pub Links : Ends → List ℕ → Ends
Links Rest main classes status = ((¬ (refusals classes main ≡ [])) × (status ≡ LINK)) ⊎ ((refusals classes main ≡ []) × Checks Rest main classes status)

-- all files are taken
pub record Passes (Last : Ends) (held : Bytes → Option Bytes) (files : List Bytes) (status : ℕ) : Type 0 where
  pub classes : List ClassDef
  pub taken : AllTaken (Some held) files classes
  pub last : Last classes status

-- the outcome of files, of which there aren't too many
abbrev pub Judged : Ends → (Bytes → Option Bytes) → List Bytes → ℕ → Type 0
Judged Last held files status = Stops held files status ⊎ Passes Last held files status

-- the outcome of files, which begins with their number
abbrev pub Verdict : Ends → (Bytes → Option Bytes) → List Bytes → ℕ → Type 0
Verdict Last held files status = ((MAX_CLASS_FILES < length files) × (status ≡ LIMIT)) ⊎ Judged Last held files status

-- classes have one outcome
abbrev pub EndsOnce : Ends → Type 0
EndsOnce Last = (classes : List ClassDef) (s t : ℕ) → Last classes s → Last classes t → s ≡ t

-- the same where they are linked and checked first
pub links_once : (Rest : Ends) (main : List ℕ) → EndsOnce Rest → EndsOnce (Links Rest main)
links_once Rest main once classes s t (inl a) (inl b) = a.1 ∙ sym b.1
links_once Rest main once classes s t (inl a) (inr b) = absurd (a.0 b.0)
links_once Rest main once classes s t (inr a) (inl b) = absurd (b.0 a.0)
links_once Rest main once classes s t (inr (_, inl a)) (inr (_, inl b)) = a.1 ∙ sym b.1
links_once Rest main once classes s t (inr (_, inl a)) (inr (_, inr b)) = absurd (a.0 b.0)
links_once Rest main once classes s t (inr (_, inr a)) (inr (_, inl b)) = absurd (b.0 a.0)
links_once Rest main once classes s t (inr (_, inr a)) (inr (_, inr b)) = once classes s t a.1 b.1

-- ---- one file

-- a file is taken as one class
one_class : (held : Bytes → Option Bytes) (file : Bytes) (c d : ClassDef) → IsTaken (Some held) file c → IsTaken (Some held) file d → c ≡ d
one_class held file c d first second =
    let same : class_bytes d ≡ class_bytes c = same_value (held file) (class_bytes d) (class_bytes c) second.holds first.holds in
    let Spelled : Bytes → Type 0 = λ bytes. Spells bytes d in
    one_record (class_bytes c) c d first.spelled (subst Spelled same second.spelled)

-- bytes aren't taken for one reason
one_failure : (bytes : Bytes) (total s t : ℕ) → FailsAs s total bytes → FailsAs t total bytes → s ≡ t
one_failure bytes total s t (inl p) (inl q) = p.1 ∙ sym q.1
one_failure bytes total s t (inl (inl long, is)) (inr (r, refused, is_r)) = absurd (let short = refused.short in omega arith)
one_failure bytes total s t (inl (inr long, is)) (inr (r, refused, is_r)) = absurd (let short = refused.all_short in omega arith)
one_failure bytes total s t (inr (r, refused, is_r)) (inl (inl long, is)) = absurd (let short = refused.short in omega arith)
one_failure bytes total s t (inr (r, refused, is_r)) (inl (inr long, is)) = absurd (let short = refused.all_short in omega arith)
one_failure bytes total s t (inr (r, refused, is_r)) (inr (q, also, is_q)) = is_r ∙ one_status bytes r q refused.refused also.refused ∙ sym is_q

-- and so isn't a file
one_reason : (there : Option Bytes) (total s t : ℕ) → Fails s total there → Fails t total there → s ≡ t
one_reason None total s t (inl p) (inl q) = p.1 ∙ sym q.1
one_reason None total s t (inl p) (inr q) = absurd q
one_reason None total s t (inr p) q = absurd p
one_reason (Some bytes) total s t (inl p) q = absurd (let none = p.0 in cc)
one_reason (Some bytes) total s t (inr p) (inl q) = absurd (let none = q.0 in cc)
one_reason (Some bytes) total s t (inr p) (inr q) = one_failure bytes total s t p q

-- a file that is taken doesn't fail
taken_not_failing : (held : Bytes → Option Bytes) (file : Bytes) (c : ClassDef) (total s : ℕ) → IsTaken (Some held) file c → total + length (class_bytes c) ≤ MAX_ALL_CLASS_FILES_BYTES → ¬ Fails s total (held file)
taken_not_failing held file c total s taken short fails = at (class_bytes c) refl (subst (Fails s total) taken.holds fails) where
  at : (bytes : Bytes) → bytes ≡ class_bytes c → Fails s total (Some bytes) → ⊥
  at bytes same (inl p) = let none = p.0 in cc
  at bytes same (inr (inl (inl long, is))) = let size = ap length same in let limit = taken.short in omega arith
  at bytes same (inr (inl (inr long, is))) = let size = ap length same in omega arith
  at bytes same (inr (inr (r, refused, is))) =
      let P : Bytes → Type 0 = λ b. Spells b c in refused_not_taken bytes r c refused.refused (subst P (sym same) taken.spelled) taken.profile

-- ---- many files

-- the shorter one of two lists of classes begins the other
begins : (held : Bytes → Option Bytes) (files : List Bytes) (m n : ℕ) (bs ds : List ClassDef) → AreTaken (Some held) (take m files) bs → AreTaken (Some held) (take n files) ds → length bs ≤ length ds → take (length bs) ds ≡ bs
begins held files m n [] ds first second short = refl
begins held files m n (b ∷ bs) [] first second short = absurd (omega arith)
begins held [] m n (b ∷ bs) (d ∷ ds) first second short = absurd (none m first) where
  none : (m : ℕ) → AreTaken (Some held) (take m []) (b ∷ bs) → ⊥
  none zero taken = taken
  none (suc m) taken = taken
begins held (f ∷ files) zero n (b ∷ bs) (d ∷ ds) first second short = absurd first
begins held (f ∷ files) (suc m) zero (b ∷ bs) (d ∷ ds) first second short = absurd second
begins held (f ∷ files) (suc m) (suc n) (b ∷ bs) (d ∷ ds) first second short =
    let rest = begins held files m n bs ds first.1 second.1 (omega arith) in
    let same = one_class held f b d first.0 second.0 in cc

-- the class of a file among those that are taken
class_at : (held : Bytes → Option Bytes) (files : List Bytes) (n k : ℕ) (file : Bytes) (ds : List ClassDef) → AreTaken (Some held) (take n files) ds → slice_get files k ≡ Some file → k < length ds →
    (d : ClassDef) × (slice_get ds k ≡ Some d) × IsTaken (Some held) file d
class_at held files n k file [] taken there within = absurd (omega arith)
class_at held [] n k file (d ∷ ds) taken there within = absurd (let past = slice_get_within [] k file there in omega arith)
class_at held (f ∷ files) zero k file (d ∷ ds) taken there within = absurd taken
class_at held (f ∷ files) (suc n) zero file (d ∷ ds) taken there within =
    let same : f ≡ file = cc in let P : Bytes → Type 0 = λ x. IsTaken (Some held) x d in (d, refl, subst P same taken.0)
class_at held (f ∷ files) (suc n) (suc k) file (d ∷ ds) taken there within = class_at held files n k file ds taken.1 there (omega arith)

-- the call doesn't stop among files that are taken
goes_on : (held : Bytes → Option Bytes) (files : List Bytes) (s n : ℕ) (stops : Stops held files s) (ds : List ClassDef) → AreTaken (Some held) (take n files) ds → total_bytes ds ≤ MAX_ALL_CLASS_FILES_BYTES → length stops.before < length ds → ⊥
goes_on held files s n stops ds taken short within =
    let k = length stops.before in
    let found = class_at held files n k stops.file ds taken stops.reaches.there within in
    let first : take k ds ≡ stops.before = begins held files k n stops.before ds stops.reaches.taken taken (omega arith) in
    let Totals : List ClassDef → Type 0 = λ cs. total_bytes cs + length (class_bytes found.0) ≤ total_bytes ds in
    let At : ClassDef → Type 0 = λ c. total_bytes (take k ds) + length (class_bytes c) ≤ total_bytes ds in
    let more = subst Totals first (subst At (get_or_from_slice_get ds k found.0 found.0 found.1) (sum_by_more_le (λ (c : ClassDef). length (class_bytes c)) ds k found.0 within)) in
    taken_not_failing held stops.file found.0 (total_bytes stops.before) s found.2 (omega arith) stops.fails

-- a call that stops doesn't pass
not_both : (Last : Ends) (held : Bytes → Option Bytes) (files : List Bytes) (s t : ℕ) → Stops held files s → Passes Last held files t → ⊥
not_both Last held files s t stops passes =
    let all : take (length files) files ≡ files = take_all (length files) files (omega arith) in
    let P : List Bytes → Type 0 = λ fs. AreTaken (Some held) fs passes.classes in
    let number = same_number (Some held) files passes.classes passes.taken.taken in
    let within = slice_get_within files (length stops.before) stops.file stops.reaches.there in
    goes_on held files s (length files) stops passes.classes (subst P (sym all) passes.taken.taken) passes.taken.short (omega arith)

-- a call stops at one file
one_stop : (held : Bytes → Option Bytes) (files : List Bytes) (s t : ℕ) → Stops held files s → Stops held files t → s ≡ t
one_stop held files s t p q = ⊎_elim
    (λ (lower : length p.before < length q.before). absurd (goes_on held files s (length q.before) p q.before q.reaches.taken q.reaches.short lower))
    (λ (high : length q.before ≤ length p.before). ⊎_elim
    (λ (lower : length q.before < length p.before). absurd (goes_on held files t (length p.before) q p.before p.reaches.taken p.reaches.short lower))
    (λ (low : length p.before ≤ length q.before).
    let same : length p.before ≡ length q.before = omega arith in
    let begun : take (length p.before) q.before ≡ p.before = begins held files (length p.before) (length q.before) p.before q.before p.reaches.taken q.reaches.taken low in
    let all : take (length p.before) q.before ≡ q.before = take_all (length p.before) q.before high in
    let classes : q.before ≡ p.before = sym all ∙ begun in
    let file : q.file ≡ p.file = same_value (slice_get files (length p.before)) q.file p.file (ap (slice_get files) same ∙ q.reaches.there) p.reaches.there in
    let Of : Bytes → Type 0 = λ f. Fails t (total_bytes p.before) (held f) in
    let After : List ClassDef → Type 0 = λ cs. Fails t (total_bytes cs) (held q.file) in
    one_reason (held p.file) (total_bytes p.before) s t p.fails (subst Of file (subst After classes q.fails)))
    (cases_lt (length q.before) (length p.before)))
    (cases_lt (length p.before) (length q.before))

-- a call passes in one way
one_pass : (Last : Ends) → EndsOnce Last → (held : Bytes → Option Bytes) (files : List Bytes) (s t : ℕ) → Passes Last held files s → Passes Last held files t → s ≡ t
one_pass Last once held files s t p q = once p.classes s t p.last (subst After classes q.last) where
  all : take (length files) files ≡ files
  all = take_all (length files) files (omega arith)

  taken : (cs : List ClassDef) → AreTaken (Some held) files cs → AreTaken (Some held) (take (length files) files) cs
  taken cs = let P : List Bytes → Type 0 = λ fs. AreTaken (Some held) fs cs in subst P (sym all)

  number : length p.classes ≡ length q.classes
  number = same_number (Some held) files p.classes p.taken.taken ∙ sym (same_number (Some held) files q.classes q.taken.taken)

  classes : q.classes ≡ p.classes
  classes =
      sym (take_all (length p.classes) q.classes (omega (arith, number)))
      ∙ begins held files (length files) (length files) p.classes q.classes (taken p.classes p.taken.taken) (taken q.classes q.taken.taken) (omega (arith, number))

  After : List ClassDef → Type 0
  After cs = Last cs t

-- files of which there aren't too many have one status
pub one_judgement : (Last : Ends) → EndsOnce Last → (held : Bytes → Option Bytes) (files : List Bytes) (s t : ℕ) → Judged Last held files s → Judged Last held files t → s ≡ t
one_judgement Last once held files s t (inl p) (inl q) = one_stop held files s t p q
one_judgement Last once held files s t (inl p) (inr q) = absurd (not_both Last held files s t p q)
one_judgement Last once held files s t (inr p) (inl q) = absurd (not_both Last held files t s q p)
one_judgement Last once held files s t (inr p) (inr q) = one_pass Last once held files s t p q

-- nor are there where they are judged
few_judged : (Last : Ends) (held : Bytes → Option Bytes) (files : List Bytes) (s : ℕ) → Judged Last held files s → length files ≤ MAX_CLASS_FILES
few_judged Last held files s (inl p) = p.reaches.few
few_judged Last held files s (inr p) = p.taken.few

-- files have one verdict
pub one_verdict : (Last : Ends) → EndsOnce Last → (held : Bytes → Option Bytes) (files : List Bytes) (s t : ℕ) → Verdict Last held files s → Verdict Last held files t → s ≡ t
one_verdict Last once held files s t (inl p) (inl q) = p.1 ∙ sym q.1
one_verdict Last once held files s t (inl p) (inr q) = absurd (let many = p.0 in let few = few_judged Last held files t q in omega arith)
one_verdict Last once held files s t (inr p) (inl q) = absurd (let many = q.0 in let few = few_judged Last held files s p in omega arith)
one_verdict Last once held files s t (inr p) (inr q) = one_judgement Last once held files s t p q
