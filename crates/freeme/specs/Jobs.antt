-- What a job gives to its program, and by which program its dead objects are found.
use Rattle.std.specs.Prelude.{◌≡◌, ℕ, Bool, true, false, List}
use Rattle.fm_cli.specs.Encoding.{modified}
use Rattle.fm_cli_requests.specs.FreemeRequest.{FreemeJob}
use Rattle.fm_code.specs.declared.class_file.ClassDef.{ClassDef}
use Rattle.fm_load.specs.Given.{Given}
use Rattle.fm_rapid.specs.Reach.{narrowed, Reach}
use Rattle.fm_world.specs.Programs.{Program, program_of}

-- the main class as class files spell it
abbrev pub main_name : FreemeJob → List ℕ
main_name job = modified job.main

-- its class files or the class that is made, and its main class
abbrev pub given_of : FreemeJob → Given
given_of job = record { files = job.files; made = job.made; main = main_name job }

-- the program narrowed to the classes of which it comes to make objects: its virtual calls lead only to what these classes and arrays select
pub record IsNarrowed (whole p : Program) : Type 0 where
  pub methods : List Bool
  pub made : List Bool
  pub reached : Reach whole methods made
  pub narrowed_is : p ≡ narrowed whole made

-- a program as it is analysed: narrowed where that is asked for, and else as it is
abbrev pub IsAnalysed : (rapid : Bool) → (whole p : Program) → Type 0
IsAnalysed false whole p = p ≡ whole
IsAnalysed true whole p = IsNarrowed whole p

-- the program by which the dead objects of a job's classes are found
abbrev pub IsJobProgram : FreemeJob → List ClassDef → Program → Type 0
IsJobProgram job classes p = IsAnalysed job.rapid (program_of classes (main_name job)) p
