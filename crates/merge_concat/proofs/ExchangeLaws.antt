-- Joins of the same sides, and of the exchanged sides, hold the same pairs as often.
pub use Rattle.merge_concat.proofs.JoinLaws.{exchange_changes_order, joins_alike, made_alike}
