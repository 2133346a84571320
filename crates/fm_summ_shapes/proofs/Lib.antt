pub mod AcceptedLemmas
pub mod LeastLemmas
pub mod ShapesLemmas
