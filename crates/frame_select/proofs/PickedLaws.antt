-- Laws of CutLaws under the name that others know.
pub use Rattle.frame_select.proofs.CutLaws.{list_is, listed_is, mapped_more, one_more_place, places_count, places_inside, read_is}
