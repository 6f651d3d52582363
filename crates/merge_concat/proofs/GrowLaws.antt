-- Laws of BelowLaws under the name that others know.
pub use Rattle.merge_concat.proofs.BelowLaws.{cells_append}
