-- A fixed number's double is determined by its own bits, as its value is.
use mathlib.Core.Path.{◌≡◌, sym, ap, ◌∙◌}
use mathlib.Core.Bool.{true, false}
use mathlib.Core.List.{List}
use Prim.Native.Nat.{ℕ, ◌+◌, ◌≤◌, ◌<◌}
use lib.ListN.{length}
use Rattle.definitions.specs.Bytes.{bytes_for}
use Rattle.definitions.specs.DataType.{kind_of, order_of}
use Rattle.definitions.specs.Channel.{Channel, variable_length, is_number, double_in, record_double}
use Rattle.words.proofs.Numbers.{Bytes}
use Rattle.bit_fields.proofs.Locality as words
use Rattle.fields.proofs.Locality.{locality}
use Rattle.decoder.proofs.Doubles.{double_fixed}

module _ (s t : List ℕ) (id_size : ℕ) (c : Channel) (fixed : variable_length c ≡ false) (number : is_number (kind_of c.data_type) ≡ true) where
  abbrev at : ℕ
  at = id_size + c.byte_offset

  pub double_locality : Bytes s → Bytes t → length s ≡ length t
      → ((k : ℕ) → c.bit_offset ≤ k → k < c.bit_offset + c.bit_count
      → words.record_bit (order_of c.data_type) s at (bytes_for c.bit_offset c.bit_count) k
      ≡ words.record_bit (order_of c.data_type) t at (bytes_for c.bit_offset c.bit_count) k)
      → record_double s id_size c ≡ record_double t id_size c
  double_locality bs bt el same = sym (double_fixed s id_size c fixed) ∙ ap double_in (locality s t id_size c fixed number bs bt el same) ∙ double_fixed t id_size c fixed
