-- What is reported of a run: one line, and the exit status.
use Rattle.std.specs.Prelude.{ℕ, ◌<◌, ◌%◌, ◌&&◌, ℤ, nat_le, List, [], ◌∷◌, ◌++◌, codes, length, if◌then◌else◌}
use Rattle.std.specs.Fmt.{decimal, signed_decimal}
use Rattle.std.specs.Int.{w32, cast_unsigned}
use Rattle.fm_base.specs.declared.characters.TheConstants.{LINE_FEED}
use Rattle.fm_frames.specs.declared.ends.Ended.{Ended}
use Rattle.fm_frames.specs.declared.ends.Ended.TheVariants as end
use Rattle.fm_frames.specs.declared.report.Report.{Report}
use Rattle.fm_cli.specs.Printed.{printed}
use Rattle.fm_cli.specs.declared.status.TheConstants.{DONE, RUNNING, TOO_DEEP}
use Rattle.fm_world.specs.Causes.{declared_name, method_text}
use Rattle.fm_world.specs.Chains.{class_at}
use Rattle.fm_world.specs.Members.{methods_of}
use Rattle.fm_world.specs.Programs.{Program}
use Rattle.fm_run_job.specs.declared.status.TheConstants.{UNCAUGHT, EXHAUSTED, FAULT, INIT_FAILED, STORE_FULL, OTHER_EXIT}

-- a class as text
abbrev pub class_text : Program → ℕ → List ℕ
class_text p class = printed (class_at p.outline.classes class).name

-- a method as text, with its class and its descriptor
abbrev pub full_method_text : Program → ℕ → List ℕ
full_method_text p method = printed (method_text (declared_name p.outline.classes method))

-- the end in words
abbrev pub end_text : Program → Ended → List ℕ
end_text p end.Returned = codes "returned"
end_text p (end.Exit n) = codes "exit " ++ signed_decimal n
end_text p (end.Uncaught class) = codes "uncaught " ++ class_text p class.0
end_text p end.Running = codes "running"
end_text p (end.Exhausted live needed) = codes "exhausted " ++ (decimal live ++ (codes " needs " ++ decimal needed))
end_text p (end.TooDeep frames) = codes "deep " ++ decimal frames
end_text p (end.InitFailed class) = codes "init-failed " ++ class_text p class.0
end_text p (end.StoreFull made needed) = codes "store-full " ++ (decimal made ++ (codes " needs " ++ decimal needed))
end_text p (end.Fault method offset cell) = codes "fault " ++ (full_method_text p method.0 ++ (codes " " ++ decimal offset))

-- the steps, the objects made and the frees
abbrev pub counts_text : Report → List ℕ
counts_text r =
    codes "steps " ++ (decimal r.steps ++ (codes ", objects " ++ (decimal r.objects ++ (codes ", frees " ++ decimal r.frees))))

-- the words freed, those that live and the most that lived, and the cells made
abbrev pub words_text : Report → List ℕ
words_text r =
    codes "freed words " ++ (decimal r.freed_words ++ (codes ", live words " ++ (decimal r.live_words
    ++ (codes ", peak words " ++ (decimal r.peak_words ++ (codes ", cells made " ++ decimal r.cells_made))))))

-- the line of a report, with its line end
abbrev pub report_line : Program → Report → List ℕ
report_line p r = end_text p r.end ++ (codes "; " ++ (counts_text r ++ (codes ", " ++ (words_text r ++ LINE_FEED ∷ []))))

-- the lowest 8 bits of the number with which a program exits, but another status where they are those of a refusal or of an end
abbrev pub exit_status : ℤ → ℕ
exit_status n =
    let low = cast_unsigned w32 n % 256 in if nat_le 64 low && nat_le low 85 then OTHER_EXIT else low

-- the exit status of each end
abbrev pub end_status : Ended → ℕ
end_status end.Returned = DONE
end_status (end.Exit n) = exit_status n
end_status (end.Uncaught class) = UNCAUGHT
end_status end.Running = RUNNING
end_status (end.Exhausted live needed) = EXHAUSTED
end_status (end.TooDeep frames) = TOO_DEEP
end_status (end.InitFailed class) = INIT_FAILED
end_status (end.StoreFull made needed) = STORE_FULL
end_status (end.Fault method offset cell) = FAULT

-- the class or the method of an end is there
abbrev pub IsEndIn : Program → Ended → Type 0
IsEndIn p (end.Uncaught class) = class.0 < length p.outline.classes
IsEndIn p (end.InitFailed class) = class.0 < length p.outline.classes
IsEndIn p (end.Fault method offset cell) = method.0 < length (methods_of p.outline.classes)
IsEndIn p e = Unit {0}
