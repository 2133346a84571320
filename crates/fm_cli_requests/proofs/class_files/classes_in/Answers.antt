use Rattle.std.proofs.Common.{List, ℕ, ap, codes, option_map, ◌∙◌}
use Rattle.std.specs.Borrow.{Bor}
use Rattle.clap.specs.Words.{found_of}
use Rattle.fm_cli_requests.proofs.MatchLemmas.{first_found, first_is}
use Rattle.fm_cli_requests.proofs.class_files.classes_in.Goals as goal

pub made_in-requires : goal.made_in-requires
made_in-requires c = first_found (found_of c.args.matches.now) (codes "make") c.get_str.result c.in-Some.digits c.get_str.ensures c.in-Some.is

pub files_in-requires : goal.files_in-requires
files_in-requires c = first_is (found_of c.args.matches.now) (codes "make") c.get_str.result c.get_str.ensures ∙ ap (option_map (λ (s : Bor (List ℕ)). s.now)) c.in-None.is
