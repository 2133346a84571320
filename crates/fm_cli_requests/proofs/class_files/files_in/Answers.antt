use Rattle.std.proofs.Common.{refl, ◌≡◌, ◌∙◌, ◌<◌, Some, ap, sym, codes, subst, length}
use Rattle.std.specs.List.{AllByRecursion}
use Rattle.clap.specs.Words.{found_of, rows_of}
use Rattle.fm_cli_requests.specs.Values.{IsValue}
use Rattle.fm_cli_requests.proofs.ClassFilesLemmas.{none_named}
use Rattle.fm_cli_requests.proofs.MatchLemmas.{all_found, all_missing, empty_all, first_found, first_missing, of_texts, some_text, texts_of, untested, untested_all}
use Rattle.fm_cli_requests.proofs.class_files.files_in.Goals as goal
use Rattle.fm_cli_requests.proofs.class_files.files_in.Goals.{then-is_empty-via-then-is_empty, then-is_empty-via-else-is_empty+then-not-is_value, then-is_empty-via-else-is_empty+else-not-is_value+then-not-are_values}

pub returns-in_default : goal.returns-in_default
returns-in_default c =
    none_named c.args.id.now (rows_of (found_of c.args.matches.now)) c.requires
    (λ main files h. first_missing (found_of c.args.matches.now) c.args.id.now c.get_str.result main c.get_str.ensures c.in_default.is h.main_is)

pub returns-in_default-get_strs : goal.returns-in_default-get_strs
returns-in_default-get_strs c =
    none_named c.args.id.now (rows_of (found_of c.args.matches.now)) c.requires
    (λ main files h. all_missing (found_of c.args.matches.now) (codes "file") c.get_strs.result files c.get_strs.ensures c.in_default-get_strs.is h.files_are)

pub returns-then-is_empty : goal.returns-then-is_empty
returns-then-is_empty c =
    let found = found_of c.args.matches.now in
    let at_main = first_found found c.args.id.now c.get_str.result c.in-Some.main c.get_str.ensures c.in-Some.is in
    let at_files = all_found found (codes "file") c.get_strs.result c.in-Some-get_strs.files c.get_strs.ensures c.in-Some-get_strs.is in
    none_named c.args.id.now (rows_of found) c.requires (λ main files h. elim c.then-is_empty.branch [
      | then-is_empty-via-then-is_empty w ↦ empty_all _ c.in-Some-get_strs.files.now files w.if-is_empty.ensures at_files h.files_are h.some_file
      | then-is_empty-via-else-is_empty+then-not-is_value w ↦ untested IsValue _ c.in-Some.main.now main w.if-not-is_value.ensures.1 at_main h.main_is h.main_is_value
      | then-is_empty-via-else-is_empty+else-not-is_value+then-not-are_values w ↦ untested_all IsValue _ c.in-Some-get_strs.files.now files w.if-not-are_values.ensures.1 at_files h.files_are h.files_are_values
    ])

pub returns : goal.returns
returns c =
    let found = found_of c.args.matches.now in
    let same : texts_of c.in-Some-get_strs.files.now ≡ texts_of c.in_ok-files.files.items = ap texts_of (sym c.in_ok-files.ensures.items) in
    record {
      no_number = c.requires;
      main_is = first_found found c.args.id.now c.get_str.result c.in-Some.main c.get_str.ensures c.in-Some.is;
      files_are = all_found found (codes "file") c.get_strs.result c.in-Some-get_strs.files c.get_strs.ensures c.in-Some-get_strs.is ∙ ap (λ xs. Some xs) same;
      some_file = subst (λ xs. 0 < length xs) same (some_text c.in-Some-get_strs.files.now c.if-is_empty.ensures);
      main_is_value = c.if-not-is_value.ensures.0 refl;
      files_are_values = subst (AllByRecursion IsValue) same (of_texts IsValue c.in-Some-get_strs.files.now (c.if-not-are_values.ensures.0 refl));
    }
