pub mod MostHeld
