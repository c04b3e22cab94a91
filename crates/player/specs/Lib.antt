-- What a reader must believe: Answer, Moves. Steps is what the parts of a move ensure.
pub mod Answer
pub mod Moves
pub mod Steps
