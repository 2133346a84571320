-- What one call of freeme does, fact by fact.
use Rattle.fm_cli.specs.declared.status.TheConstants.{MALFORMED, UNSUPPORTED, VERSION}
use Rattle.fm_load.specs.ProgramCalls.{ProgramCall}
use Rattle.freeme.specs.Causes.{ChangesOnly, IsFaultless, IsForBytes, IsForCheck, IsForDone, IsForLimit, IsForLink, IsForMemory, IsForNotSafe, IsForRead, IsForReturned, IsForRewrite, IsForSafe, IsForText, IsForWords, IsForWrite, IsSilent, IsStatus, IsUnwrittenByAudits, KeepsContents, OfJobs, PutsOnce}
use Rattle.freeme.specs.Complete.{AuditsComplete, AuditsDecide, IsComplete}
use Rattle.freeme.specs.Meaning.{AuditsAlike, KeepsMeaning, RunsAlike}
use Rattle.freeme.specs.TopCall.{IsTopCall}
use Rattle.freeme.specs.declared.status.TheConstants.{CALLS_FREE, METHOD_TOO_LONG, POOL_FULL}

-- what a call of freeme does, fact by fact
pub record IsFreemeCall (call : ProgramCall) : Type 0 where
  -- the whole: what the words ask for, what becomes of it, and the lines that are put
  pub whole : IsTopCall call
  -- each status: when it comes, and what it says; there is no other, and that of an audit is in the whole
  pub status : IsStatus call.status
  pub done : OfJobs IsForDone call
  pub text : IsForText call
  pub words : IsForWords call
  pub read : OfJobs IsForRead call
  pub malformed : OfJobs (IsForBytes MALFORMED) call
  pub version : OfJobs (IsForBytes VERSION) call
  pub limit : OfJobs IsForLimit call
  pub unsupported : OfJobs (IsForBytes UNSUPPORTED) call
  pub link : OfJobs IsForLink call
  pub check : OfJobs IsForCheck call
  pub calls_free : OfJobs (IsForRewrite CALLS_FREE) call
  pub pool_full : IsForRewrite POOL_FULL call
  pub method_too_long : IsForRewrite METHOD_TOO_LONG call
  pub write : OfJobs IsForWrite call
  pub memory : OfJobs IsForMemory call
  -- where nothing is against a job and nothing fails, it is done, or memory can't be had
  pub complete : IsComplete call
  -- what the reads of a job returned decides the status as known contents do
  pub returned : IsForReturned call
  -- what fails and what changes
  pub faultless : IsFaultless call
  pub kept : KeepsContents call
  pub silent : IsSilent call
  pub once : PutsOnce call
  pub others : ChangesOnly call
  -- where it is done: the classes written do what the classes read do
  pub same : OfJobs KeepsMeaning call
  pub runs : RunsAlike call
  -- an audit: what is safe, which does what the classes of the program do, and what isn't
  pub safe : IsForSafe call
  pub not_safe : IsForNotSafe call
  pub audited : AuditsComplete call
  pub decided : AuditsDecide call
  pub unwritten : IsUnwrittenByAudits call
  pub alike : AuditsAlike call
