-- Summaries: which ends of methods are linked.
use Rattle.std.specs.Prelude.{◌≡◌, ◌==◌, ℕ, Bool, true, false, List, [], ◌∷◌, length, Option, Some, None, IsSome, if◌then◌else◌}
use Rattle.std.specs.List.{slice_index_or}
use Rattle.fm_world.specs.Members.{methods_of}
use Rattle.fm_world.specs.Programs.{Outline}
use Rattle.fm_conn.specs.Pairs.{IsEnd, Linking}
use Rattle.fm_conn.specs.declared.ends.End2.{End2}
use Rattle.fm_conn.specs.declared.ends.End2.TheVariants as end
use Rattle.fm_conn.specs.declared.summaries.Summaries.{Summaries}

-- whether two ends of a method are one
abbrev pub is_same_end : End2 → End2 → Bool
is_same_end (end.Parameter k) (end.Parameter l) = k == l
is_same_end end.Return end.Return = true
is_same_end end.Global end.Global = true
is_same_end a b = false

-- the number of an end, where it is listed
abbrev pub end_number : List (End2 × ℕ) → End2 → Option ℕ
end_number [] e = None
end_number (entry ∷ entries) e = if is_same_end entry.0 e then Some entry.1 else end_number entries e

-- one number, that is there
abbrev pub same_number : Option ℕ → Option ℕ → Bool
same_number (Some m) (Some n) = m == n
same_number m n = false

-- two ends that are listed are linked where they have one number
abbrev pub links : List (End2 × ℕ) → End2 → End2 → Bool
links entries a b = same_number (end_number entries a) (end_number entries b)

-- the ends of a method
abbrev pub ends_at : Summaries → ℕ → List (End2 × ℕ)
ends_at s method = (slice_index_or s.methods method (record { ends = [] })).ends

-- two ends of a method are linked
abbrev pub is_linked : Summaries → ℕ → End2 → End2 → Bool
is_linked s method a b = links (ends_at s method) a b

-- what they link
abbrev pub linked_by : Summaries → Linking
linked_by s method a b = is_linked s method a b ≡ true

-- there is an entry for each method, and what it lists are ends of the method
pub record AreSummariesOf (o : Outline) (s : Summaries) : Type 0 where
  pub one_each : length s.methods ≡ length (methods_of o.classes)
  pub ends : (method : ℕ) (e : End2) → IsSome (end_number (ends_at s method) e) → IsEnd o method e
