-- A value with its validity, of both readings.
use mathlib.Core.Path.{◌≡◌, ap, ap₂, ◌∙◌}
use mathlib.Core.Bool.{Bool}
use mathlib.Core.List.{List}
use Prim.Native.Nat.{ℕ}
use Rattle.definitions.specs.Reply.{Reply, answer}
use Rattle.definitions.specs.Channel.{Channel, Group, Value, ValidValue, value_of, valid_of, valid_value_of}
use Rattle.decoder.specs.Meaning.{judged_reply}

module _ (s : List ℕ) (g : Group) (c : Channel) {value : Reply Value} {r : Reply ValidValue} where
  pub judged_as : {valid : Bool} → valid ≡ valid_of s g c → r ≡ judged_reply (answer valid) value → value ≡ value_of s g.id_size c → r ≡ valid_value_of s g c
  unfolding valid_value_of
  judged_as ev er e = er ∙ ap₂ judged_reply (ap answer ev) e
