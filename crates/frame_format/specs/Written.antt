-- What a writer of records has written.
use Rattle.std.specs.Prelude.{◌≡◌, ℕ, List, [], false, Some}
use Rattle.std.specs.Str.{IsUtf8}
use Rattle.std.specs.declared.vec.Vec.{Vec}
use Rattle.csv.specs.declared.writer.Writer.{Writer}
use Rattle.csv.specs.Records.{Row, fields_of, partial_of, AllText}
use Rattle.csv.specs.Writing.{text_written, writer_setup, fields_written, has_written, default_writer}

-- whole records of texts alone, which are these bytes
pub record HasWritten {A : Type 0} (w : Writer (Vec ℕ A)) (bytes : List ℕ) : Type 0 where
  pub setup : writer_setup w ≡ default_writer
  pub fields : fields_written w ≡ 0
  pub wrote : has_written w ≡ false
  pub utf8 : IsUtf8 bytes
  pub text : text_written (λ v. Some v.items) w ≡ Some bytes

-- a record of whole fields, each of which is a text
pub record IsFilled (r : Row) : Type 0 where
  pub partial : partial_of r ≡ []
  pub texts : AllText (fields_of r)
