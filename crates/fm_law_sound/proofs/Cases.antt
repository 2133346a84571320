-- What holds of each effect that a row can have holds of the row: the lemmas of the machine, by the name that the laws know.
pub use Rattle.fm_frames.proofs.Cases.{by_any, by_held, by_if, by_int, by_long, by_number, by_object, by_on_field, by_on_method, by_on_type, by_passing, by_reference, by_thrown}
