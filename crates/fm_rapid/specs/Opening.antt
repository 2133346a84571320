-- What has to be there before anything is reached.
use Rattle.std.specs.Prelude.{◌<◌, ◌≤◌, length}
use Rattle.fm_world.specs.BuiltIns.{built_in}
use Rattle.fm_world.specs.Members.{methods_of}
use Rattle.fm_world.specs.Programs.{Outline}

-- the main method and the class that was named are there, and so are the built-in classes: linking makes sure of it
pub record HasOpening (o : Outline) : Type 0 where
  pub main : o.main < length (methods_of o.classes)
  pub main_class : o.main_class < length o.classes
  pub built_ins : length built_in ≤ length o.classes
