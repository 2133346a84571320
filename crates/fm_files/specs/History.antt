-- What an object that reaches the system was asked for, and what came of it.
use Rattle.std.specs.Prelude.{ℕ, List, [], refl}
use Rattle.std.specs.Coded.{Coded, code_by, coded×, coded_ℕ, coded_list, coded_option}
use Rattle.fm_files.specs.Files.{Call}
use Rattle.fm_files.specs.Sink.{Got}

-- the reads and the writes, in order, and what was handed to puts
pub record Past : Type 0 where
  pub reads : List Call
  pub writes : List Call
  pub got : Got

-- nothing was asked for
abbrev pub no_past : Past
no_past = record { reads = []; writes = []; got = record { pieces = []; bytes = [] } }

abbrev pub coded_calls : Coded (List Call)
coded_calls = coded_list (code_by (List ℕ × _) (coded× (coded_list coded_ℕ) (coded_option (coded_list coded_ℕ))) (λ c. (c.name, c.bytes)) (λ p. record { name = p.0; bytes = p.1 }) (λ _. refl))

abbrev pub coded_got : Coded Got
coded_got = code_by (List (List ℕ) × List ℕ) (coded× (coded_list (coded_list coded_ℕ)) (coded_list coded_ℕ)) (λ g. (g.pieces, g.bytes)) (λ p. record { pieces = p.0; bytes = p.1 }) (λ _. refl)

abbrev pub past_code : Coded Past
past_code = code_by (List Call × (List Call × Got)) (coded× coded_calls (coded× coded_calls coded_got)) (λ p. (p.reads, (p.writes, p.got))) (λ q. record { reads = q.0; writes = q.1.0; got = q.1.1 }) (λ _. refl)
