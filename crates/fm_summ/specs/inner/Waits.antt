-- The methods that wait.
use Rattle.std.specs.Prelude.{◌≡◌, ◌<◌, ℕ, true, false, length, Contains}
use Rattle.std.specs.List.{slice_index_or}
use Rattle.fm_summ.specs.declared.waiting.Waiting.{Waiting}

-- each is a method, and those that are marked wait
pub record IsWaiting (count : ℕ) (w : Waiting) : Type 0 where
  pub one_each : length w.waits.items ≡ count
  pub inside : (m : ℕ) → Contains w.queue.items m → m < count
  pub marked : (m : ℕ) → slice_index_or w.waits.items m false ≡ true → Contains w.queue.items m
