-- No Series has `merge`.
use Rattle.{
  frame_methods.proofs.frame_parts.Common.{◌≡◌, true, subst, Some, Text, Shape, Frame},
  meaning_call.{specs.{declared.{Method.{Method, TheVariants.{Other}}, OtherMethod.TheVariants.{Merge}}, Signature.{method_names, method_named, fits_shape}}, proofs.ShapeLaws.{named_fits, of_frame}},
}

merge_of_frame : (shape : Shape) → fits_shape (Other Merge) shape ≡ true → shape ≡ Frame
unfolding method_names
merge_of_frame = search of_frame

pub merge_named : (shape : Shape) (name : Text) (m : Method) → method_named shape name ≡ Some m → m ≡ Other Merge → shape ≡ Frame
merge_named shape name m named is = merge_of_frame shape (subst (λ k. fits_shape k shape ≡ true) is (named_fits shape name m named))
