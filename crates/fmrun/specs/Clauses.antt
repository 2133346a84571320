-- What one call of fmrun does, fact by fact.
use Rattle.fm_cli.specs.declared.status.TheConstants.{MALFORMED, UNSUPPORTED, VERSION}
use Rattle.fm_load.specs.ProgramCalls.{ProgramCall}
use Rattle.fmrun.specs.Causes.{IsFaultless, IsForBytes, IsForCheck, IsForFault, IsForLimit, IsForLink, IsForMemory, IsForRead, IsForReturned, IsForRun, IsForText, IsForWords, IsForWrite, IsSilent, IsStatus, OnlyReads, PutsPieces, ReportsMostHeld}
use Rattle.fmrun.specs.Complete.{IsComplete}
use Rattle.fmrun.specs.TopCall.{IsTopCall}

-- what a call of fmrun does, fact by fact
pub record IsFmrunCall (call : ProgramCall) : Type 0 where
  -- the whole: what the words ask for, what becomes of it, and the line that is put
  pub whole : IsTopCall call
  -- each status: when it comes, and what it says; there is no other
  pub status : IsStatus call.status
  pub run : IsForRun call
  pub text : IsForText call
  pub words : IsForWords call
  pub read : IsForRead call
  pub malformed : IsForBytes MALFORMED call
  pub version : IsForBytes VERSION call
  pub limit : IsForLimit call
  pub unsupported : IsForBytes UNSUPPORTED call
  pub link : IsForLink call
  pub check : IsForCheck call
  pub fault : IsForFault call
  pub write : IsForWrite call
  pub memory : IsForMemory call
  -- where nothing is against a job and nothing fails, its run ends, or memory can't be had
  pub complete : IsComplete call
  -- what the reads returned decides the status as known contents do
  pub returned : IsForReturned call
  -- of each size class as many cells are made as were held at once
  pub most_held : ReportsMostHeld call
  -- what fails and what changes
  pub faultless : IsFaultless call
  pub silent : IsSilent call
  pub pieces : PutsPieces call
  pub reads : OnlyReads call
