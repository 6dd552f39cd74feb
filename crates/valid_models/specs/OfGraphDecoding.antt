-- What is passed on of `graph_decoding`, so that the crates above need not name it.
pub use Rattle.graph_decoding.specs.Decoding
