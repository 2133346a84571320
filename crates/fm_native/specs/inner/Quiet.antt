-- Which built-in methods only work on what frames share.
use Rattle.std.specs.Prelude.{Bool, true, false}
use Rattle.fm_frames.specs.declared.natives.Native.{Native}
use Rattle.fm_frames.specs.declared.natives.Native.TheVariants.{Exit, Print, Println, PrintlnNothing, Read}

-- whether a built-in method neither prints nor reads, nor ends the run
abbrev pub is_quiet : Native → Bool
is_quiet Exit = false
is_quiet (Print shown) = false
is_quiet (Println shown) = false
is_quiet PrintlnNothing = false
is_quiet Read = false
is_quiet row = true
