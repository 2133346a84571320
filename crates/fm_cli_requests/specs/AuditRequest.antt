-- The class files that words ask freeme to audit, by what clap matches in them.
use Rattle.std.specs.Prelude.{◌≡◌, ℕ, List, Some, None, map, codes}
use Rattle.clap.specs.Words.{Row, first_of}
use Rattle.fm_cli_requests.specs.ClassFiles.{NameClasses}
use Rattle.fm_cli_requests.specs.Values.{IsGiven, IsValue}
use Rattle.fm_cli_requests.specs.declared.audit_request.AuditRequest.{AuditRequest}

-- the folder of the class files that are audited, the main class, and the class files of the program in order
pub record Audit : Type 0 where
  pub folder : List ℕ
  pub main : List ℕ
  pub files : List (List ℕ)

-- what clap matched is the audit: the folder and the class files; there is no folder to write into, no class is made, and
-- neither `--rapid` nor `--chains` is given
pub record HasAuditOf (matches : List Row) (audit : Audit) : Type 0 where
  pub no_out : first_of (codes "out") matches ≡ None
  pub no_rapid : ¬ IsGiven (codes "rapid") matches
  pub no_chains : ¬ IsGiven (codes "chains") matches
  pub folder : first_of (codes "audit") matches ≡ Some audit.folder
  pub folder_is_value : IsValue audit.folder
  pub classes : NameClasses (codes "main") matches audit.main audit.files None

-- what clap matched is no audit
abbrev pub HasNoAudit : List Row → Type 0
HasNoAudit matches = (audit : Audit) → ¬ HasAuditOf matches audit

-- the audit of a request
abbrev pub audit_of : AuditRequest → Audit
audit_of r = record { folder = r.folder.now; main = r.main.now; files = map (λ file. file.now) r.files.items }
