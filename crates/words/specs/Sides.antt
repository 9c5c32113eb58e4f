-- Which of two neighbours in the bytes weighs less, by the byte order.
use Rattle.definitions.specs.Bytes.{Order, little, big}

-- the one that weighs less, and the other
abbrev pub lower : {A : Type 0} → Order → A → A → A
lower little x y = x
lower big x y = y

abbrev pub upper : {A : Type 0} → Order → A → A → A
upper little x y = y
upper big x y = x
