pub mod Frames
-- definitions of crates below, passed on to the crates above
pub use Rattle.meaning_json_calls.specs as calls
