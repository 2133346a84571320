-- What a walk along edges has marked.
use Rattle.std.specs.Prelude.{◌≡◌, ℕ, ◌+◌, ◌⊎◌, Bool, true, false, not, List, [], length, Contains, count_by}
use Rattle.std.specs.List.{slice_index_or}
use Rattle.fm_base.specs.Rows.{has}

-- how many bits aren't set
abbrev pub unset : List Bool → ℕ
unset row = count_by not row

-- the items of a list are marked, and those that weren't marked before wait
pub record Marks (list : List ℕ) (old new : List Bool) (old_waiting waiting : List ℕ) : Type 0 where
  pub same_length : length new ≡ length old
  pub kept : (j : ℕ) → has old j ≡ true → has new j ≡ true
  pub listed : (j : ℕ) → Contains list j → has new j ≡ true
  pub only_listed : (j : ℕ) → has new j ≡ true → (has old j ≡ true) ⊎ (Contains list j × Contains waiting j)
  pub still_waiting : (j : ℕ) → Contains old_waiting j → Contains waiting j
  pub waiting_listed : (j : ℕ) → Contains waiting j → Contains old_waiting j ⊎ (Contains list j × (has old j ≡ false))
  pub work : unset new + length waiting ≡ unset old + length old_waiting

-- what each run that is done has is marked
pub record Covers (items : List (List ℕ)) (done row : List Bool) : Type 0 where
  pub one_each : length done ≡ length items
  pub each : (run x : ℕ) → has done run ≡ true → Contains (slice_index_or items run []) x → has row x ≡ true
