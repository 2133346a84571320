-- The lines of each outcome have bytes, so a call puts at most one piece, which isn't empty.
use Rattle.std.proofs.Common.{◌≡◌, ◌<◌, ℕ, inl, inr, List, [], ◌∷◌, ◌++◌, length, length-append, codes, Option, Some, None, Ok, Err, string_bytes, ap, arith}
use Rattle.std.proofs.lemmas.List.{length-map}
use Rattle.fm_base.proofs.ListFacts.{AllByRecursion-weaker}
use Rattle.fm_cli.proofs.LineLemmas.{line_once}
use Rattle.fm_cli.specs.declared.status.TheConstants.{DONE}
use Rattle.fm_cli_requests.specs.ClassFiles.{NameClasses}
use Rattle.fm_cli_requests.specs.FreemeRequest.{Asks, FreemeJob, matched_in}
use Rattle.fm_code.specs.ClassBytes.{class_bytes}
use Rattle.fm_code.specs.Spells.{HasSpelling}
use Rattle.fm_code.specs.declared.class_file.ClassDef.{ClassDef}
use Rattle.fm_files.specs.Files.{Bytes, Contents, Disk}
use Rattle.fm_law_spelled.proofs.ApartLemmas.{printed_name}
use Rattle.fm_load.proofs.GivenLemmas.{given_spelled}
use Rattle.fm_load.proofs.ReadLemmas.{same_number}
use Rattle.fm_load.proofs.RefusalLemmas.{refusal_some as job_refusal_some}
use Rattle.fm_load.specs.Given.{AreGiven, made_classes}
use Rattle.fm_load.specs.ProgramCalls.{ProgramCall}
use Rattle.fm_load.specs.Taking.{AreTaken, ClassIsSpelled}
use Rattle.fm_rewrite.specs.declared.counts.Count.{Count}
use Rattle.fm_rewrite.specs.declared.error.RewriteFail.TheVariants as fail
use Rattle.freeme.proofs.ReportedLemmas.{outcome_line}
use Rattle.freeme.proofs.WrittenLemmas.{names_same, one_count_each}
use Rattle.freeme.specs.Causes.{PutsOnce}
use Rattle.freeme.specs.Jobs.{given_of}
use Rattle.freeme.specs.Refusal.{refusal_line, refusal_status}
use Rattle.freeme.specs.TopCall.{ComesOf, IsDone, Outcome, Reports}
use Rattle.freeme.specs.Writing.{class_line, class_lines, class_text}
use Rattle.freeme.specs.declared.refusal.FreeRefusal.{FreeRefusal}
use Rattle.freeme.specs.declared.refusal.FreeRefusal.TheVariants as free_refusal

-- ---- the lines of refusals

pub refusal_some : (r : FreeRefusal) → 0 < length (refusal_line r)
refusal_some (free_refusal.Job r) = job_refusal_some r
refusal_some (free_refusal.Rewrite (fail.CallsFree method offset) name) = omega arith
refusal_some (free_refusal.Rewrite (fail.PoolFull class indices) name) = omega arith
refusal_some (free_refusal.Rewrite (fail.MethodTooLong method bytes) name) = omega arith
refusal_some (free_refusal.Rewrite fail.NoMemory name) = omega arith
refusal_some (free_refusal.NotSafe name part) = omega arith

-- ---- the lines of classes

line_some : (c : ClassDef) (count : Count) → 0 < length (class_line c count)
line_some c count = go (class_text c) _ (omega arith) where
  go : (s t : List ℕ) → 0 < length t → 0 < length (s ++ t)
  go s t some = omega (arith, length-append s t)

lines_some : (classes : List ClassDef) (counts : List Count) → length counts ≡ length classes → 0 < length classes → 0 < length (class_lines classes counts)
lines_some [] counts same some = absurd (omega arith)
lines_some (c ∷ classes) [] same some = absurd (omega arith)
lines_some (c ∷ classes) (count ∷ counts) same some =
    let own = line_some c count in omega (arith, length-append (class_line c count) (class_lines classes counts))

more_some : (read : List ClassDef) (c : ClassDef) → 0 < length (read ++ c ∷ [])
more_some read c = omega (arith, length-append read (c ∷ []))

-- a job has a class: that of a file, or the one that is made
pub classes_some : (id : List ℕ) (matches : _) (main : List ℕ) (files : List Bytes) (number : Option ℕ) (contents : Contents) (read : List ClassDef)
    → NameClasses id matches main files number → AreTaken contents files read → 0 < length (read ++ made_classes number)
classes_some id matches main files None contents read names taken =
    let same = same_number contents files read taken in let some = names.some_file in omega (arith, length-append read [])
classes_some id matches main files (Some n) contents read names taken = more_some read _

given_some : (words : List Bytes) (job : FreemeJob) → Asks words job → (contents : Contents) (classes : List ClassDef) → AreGiven (given_of job) contents classes → 0 < length classes
given_some words job asked contents classes are =
    let some = classes_some (codes "main") (matched_in words) job.main job.files job.made contents are.read asked.values.classes are.taken.taken in
    let size = ap length are.classes_are in
    omega arith

done_some : (words : List Bytes) (job : FreemeJob) (old new : Disk) (lines : List ℕ) → Asks words job → IsDone job lines old new → 0 < length lines
done_some words job old new lines asked done =
    let given = done.freed.classes in
    let source = done.freed.checked.linked.source in
    let spelled = AllByRecursion-weaker ClassIsSpelled HasSpelling (λ c spells. (class_bytes c, spells)) given (given_spelled source) in
    let names = ap length (names_same given done.made spelled done.freed.rewritten) in
    let counted = one_count_each given done.made done.freed.rewritten in
    let some = given_some words job asked old.contents given source in
    let is = ap length done.lines_are in
    let own = lines_some done.made.classes.items done.made.counts.items counted (omega (arith, length-map done.made.classes.items printed_name, length-map given printed_name)) in
    omega arith

outcome_some : (words : List Bytes) (old new : Disk) (o : Outcome) → ComesOf words old new o → 0 < length (outcome_line o)
outcome_some words old new (Err refusal) comes = refusal_some refusal
outcome_some words old new (Ok lines) (inl j) = done_some words j.job old new (string_bytes lines) j.asked j.comes
outcome_some words old new (Ok lines) (inr (inl nothing)) = absurd (let other = nothing.refused in cc)
outcome_some words old new (Ok lines) (inr (inr lacking)) = absurd (let other = lacking.refused in cc)

-- ---- puts

pub outcome_once : (call : ProgramCall) (o : Outcome) → 0 < length (outcome_line o) → Reports o call → PutsOnce call
outcome_once call (Ok lines) some reports = inl (line_once (string_bytes lines) DONE call.before call.after call.status reports.0 some, reports.1)
outcome_once call (Err refusal) some reports =
    inr (line_once (refusal_line refusal) (refusal_status refusal) call.report call.reported call.status reports.0 some, reports.1)

pub puts_once : (call : ProgramCall) (o : Outcome) → ComesOf call.words call.old call.new o → Reports o call → PutsOnce call
puts_once call o comes = outcome_once call o (outcome_some call.words call.old call.new o comes)
