use Rattle.std.proofs.Common.{List, ℕ, ◌≡◌, ap, codes, map, refl, subst}
use Rattle.std.specs.Borrow.{Bor}
use Rattle.std.proofs.lemmas.Bool.{false≢true}
use Rattle.clap.specs.Words.{first_of, found_of, rows_of}
use Rattle.fm_base.proofs.OptionFacts.{IsSomeAnd-from_some, Some-from_some_and, same_value}
use Rattle.fm_cli_requests.specs.Values.{IsNumber}
use Rattle.fm_cli_requests.proofs.ClassFilesLemmas.{none_made}
use Rattle.fm_cli_requests.proofs.class_files.made_in.Goals as goal

pub returns-then-not-lacks_value : goal.returns-then-not-lacks_value
returns-then-not-lacks_value c =
    none_made c.args.id.now (rows_of (found_of c.args.matches.now)) c.args.digits.now c.requires (λ main files n h. false≢true (c.if-not-lacks_value.ensures.1 h.no_main))

pub returns-then-not-lacks_values : goal.returns-then-not-lacks_values
returns-then-not-lacks_values c =
    none_made c.args.id.now (rows_of (found_of c.args.matches.now)) c.args.digits.now c.requires (λ main files n h. false≢true (c.if-not-lacks_values.ensures.1 h.no_file))

pub returns-in_default : goal.returns-in_default
returns-in_default c =
    let rows = rows_of (found_of c.args.matches.now) in
    none_made c.args.id.now rows c.args.digits.now c.requires (λ main files n h.
    let found = Some-from_some_and (first_of (codes "make") rows) (λ digits. IsNumber 3 digits 1 100 n) h.number in
    let same : found.0 ≡ c.args.digits.now = same_value (first_of (codes "make") rows) found.0 c.args.digits.now found.1 c.requires in
    c.in_default.ensures n (subst (λ digits. IsNumber 3 digits 1 100 n) same found.2))

pub returns : goal.returns
returns c = record {
  number =
      IsSomeAnd-from_some (first_of (codes "make") (rows_of (found_of c.args.matches.now))) (λ digits. IsNumber 3 digits 1 100 c.in-Some.number) c.args.digits.now c.requires
      c.in-Some.ensures;
  no_main = c.if-not-lacks_value.ensures.0 refl;
  no_file = c.if-not-lacks_values.ensures.0 refl;
  main_is = c.made_name.ensures;
  files_are = ap (map (λ (f : Bor (List ℕ)). f.now)) c.new.ensures.items;
}
