use Rattle.fm_law_beside_freeme.proofs.Exact.{refused_for_one_cause, serve_alike, written_in_one_way, written_or_refused}
use Rattle.fm_law_beside_freeme.proofs.SafeAgain.{safe_again}
use Rattle.fm_law_beside_freeme.proofs.exact_facts.law_exact.Goals as goal

pub returns : goal.returns
returns c = record { alike = serve_alike; safe = safe_again; written = written_in_one_way; refused = written_or_refused; cause = refused_for_one_cause }
