-- Runs that a walk goes over once each.
use Rattle.std.proofs.Common.{◌≡◌, ℕ, Bool, true, false, List, length, replicate, get_or, set, Contains, refl, ⊎_elim, ap, sym, ◌∙◌, subst, length-set, []}
use Rattle.std.proofs.lemmas.Bool.{false≢true}
use Rattle.std.proofs.lemmas.List.{length-replicate, set-get_or}
use Rattle.fm_base.specs.Rows.{has}
use Rattle.fm_flow.proofs.ReachLemmas.{Marks-all}
use Rattle.fm_base.proofs.RowFacts.{has-replicate, has-set_only}
use Rattle.fm_flow.specs.inner.Walks.{MarksRun}
use Rattle.fm_flow.specs.Marking.{Covers, Marks}

-- the run was gone over
pub MarksRun-done : (list : List ℕ) (run : ℕ) (row : List Bool) (waiting : List ℕ) (done : List Bool) → has done run ≡ true →
    ((x : ℕ) → Contains list x → has row x ≡ true) → MarksRun list run row row waiting waiting done done
MarksRun-done list run row waiting done is all = record {
  marks = Marks-all list row waiting all;
  done_more = sym (ap (set done run) (sym is) ∙ set-get_or done run false);
}

pub MarksRun-new : (list : List ℕ) (run : ℕ) (old new : List Bool) (old_waiting waiting : List ℕ) (done : List Bool) → Marks list old new old_waiting waiting →
    MarksRun list run old new old_waiting waiting done (set done run true)
MarksRun-new list run old new old_waiting waiting done marks = record {
  marks = marks;
  done_more = refl;
}

-- no run is done
pub Covers-none : (items : List (List ℕ)) (n : ℕ) (row : List Bool) → n ≡ length items → Covers items (replicate n false) row
Covers-none items n row count = record {
  one_each = length-replicate n false ∙ count;
  each = λ r x is there. absurd (false≢true (sym (has-replicate n r) ∙ is));
}

-- a run more
pub Covers-more : (items : List (List ℕ)) (run : ℕ) (old new : List Bool) (old_waiting waiting : List ℕ) (old_done done : List Bool) → Covers items old_done old →
    MarksRun (get_or items run []) run old new old_waiting waiting old_done done → Covers items done new
Covers-more items run old new old_waiting waiting old_done done covers one = record {
  one_each = ap length one.done_more ∙ length-set old_done run true ∙ covers.one_each;
  each = λ r x is_done there.
      ⊎_elim (λ (same : r ≡ run). one.marks.listed x (subst (λ (k : ℕ). Contains (get_or items k []) x) same there))
      (λ before. one.marks.kept x (covers.each r x before there))
      (has-set_only old_done run r (sym (ap (λ (row : List Bool). has row r) one.done_more) ∙ is_done));
}

-- marks more
pub Covers-kept : (items : List (List ℕ)) (done old new : List Bool) → Covers items done old → ((x : ℕ) → has old x ≡ true → has new x ≡ true) → Covers items done new
Covers-kept items done old new covers kept = record { one_each = covers.one_each; each = λ r x is there. kept x (covers.each r x is there) }
