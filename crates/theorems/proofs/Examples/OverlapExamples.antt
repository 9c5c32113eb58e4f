-- Worked examples of overlaps: the definition computes to what the table says.
use mathlib.Core.Path.{◌≡◌, refl}
use mathlib.Core.List.{List, [], ◌∷◌, map}
use Prim.Native.Nat.{ℕ, zero, suc}
use Rattle.definitions.specs.Reply.{Reply, answer, refusal}
use Rattle.definitions.specs.Bytes.{little, big}
use Rattle.definitions.specs.Unicode.{latin1}
use Rattle.definitions.specs.DataType.{DataType, unsigned_integer, signed_integer, float, complex, string}
use Rattle.definitions.specs.Channel.{Channel, is_sound_number}
use Rattle.definitions.specs.Overlap.{some_from, share_a_bit, Overlap, pair, none, pair_with, first_pair, all_fixed, overlap_of}
use Rattle.theorems.specs.Examples.{fixed, payload}

-- at a byte, from a bit on, so many bits
abbrev at : ℕ → DataType → ℕ → ℕ → Channel
at byte t offset count = fixed byte 0 0 t offset count

unfoldable pub times : ℕ → Channel → List Channel
times zero c = []
times (suc n) c = c ∷ times n c

pub record Row : Type 0 where
  pub list : List Channel
  pub reply : Reply Overlap

abbrev row : List Channel → Reply Overlap → Row
row cs r = record { list = cs; reply = r }

abbrev pub table : List Row
table =
    -- twelve big-endian bits are the low half of byte 0 and byte 1: the high half of byte 0 is free, and that of byte 1 is not
    row (at 0 (unsigned_integer big) 0 12 ∷ at 0 (unsigned_integer little) 4 4 ∷ []) (answer none)
    ∷ row (at 0 (unsigned_integer big) 0 12 ∷ at 1 (unsigned_integer little) 4 4 ∷ []) (answer (pair 0 1))
    -- twelve little-endian ones are byte 0 and the low half of byte 1
    ∷ row (at 0 (unsigned_integer little) 0 12 ∷ at 0 (unsigned_integer little) 4 4 ∷ []) (answer (pair 0 1))
    ∷ row (at 0 (unsigned_integer little) 0 12 ∷ at 1 (unsigned_integer little) 4 4 ∷ []) (answer none)
    -- the same from bit 4 on
    ∷ row (at 0 (signed_integer big) 4 12 ∷ at 1 (unsigned_integer little) 0 4 ∷ []) (answer none)
    ∷ row (at 0 (signed_integer big) 4 12 ∷ at 0 (unsigned_integer little) 0 4 ∷ []) (answer (pair 0 1))
    -- fields that touch, and the last byte of nine
    ∷ row (at 0 (float little) 0 32 ∷ at 4 (float big) 0 64 ∷ at 12 (unsigned_integer little) 7 64 ∷ at 20 (unsigned_integer big) 7 1 ∷ []) (answer none)
    ∷ row (at 0 (unsigned_integer little) 7 64 ∷ at 8 (unsigned_integer big) 6 1 ∷ []) (answer (pair 0 1))
    -- the smallest first place, then the smallest second one
    ∷ row (at 0 (float little) 0 32 ∷ at 4 (unsigned_integer little) 0 12 ∷ at 5 (unsigned_integer little) 4 4 ∷ at 4 (unsigned_integer big) 7 2 ∷ at 0 (float big) 0 32 ∷ []) (answer (pair 0 4))
    ∷ row (at 8 (float little) 0 32 ∷ at 0 (unsigned_integer little) 0 8 ∷ at 0 (unsigned_integer little) 3 1 ∷ at 0 (unsigned_integer little) 1 7 ∷ []) (answer (pair 1 2))
    -- byte offsets near 2^32, and lists of none and of one
    ∷ row (at 4294967295 (unsigned_integer little) 0 16 ∷ at 0 (unsigned_integer little) 0 8 ∷ []) (answer none)
    ∷ row (at 4294967295 (unsigned_integer little) 7 9 ∷ at 4294967295 (unsigned_integer big) 7 9 ∷ []) (answer (pair 0 1))
    ∷ row [] (answer none)
    ∷ row (at 0 (float little) 0 64 ∷ []) (answer none)
    -- 26 before 27, and the longest list
    ∷ row (times 257 (at 0 (string latin1) 0 16)) (refusal 26 0)
    ∷ row (times 256 (at 0 (float big) 0 64)) (answer (pair 0 1))
    -- 27, whatever pairs there are before: a text, a complex number, a payload, no bits, an offset of 8, 65 bits, a float of 16
    ∷ row (at 0 (float little) 0 32 ∷ at 0 (float little) 0 32 ∷ at 4 (string latin1) 0 16 ∷ []) (refusal 27 2)
    ∷ row (at 0 (complex big) 0 64 ∷ []) (refusal 27 0)
    ∷ row (payload (unsigned_integer little) 0 8 ∷ []) (refusal 27 0)
    ∷ row (at 0 (unsigned_integer little) 0 0 ∷ []) (refusal 27 0)
    ∷ row (at 0 (unsigned_integer little) 0 8 ∷ at 0 (unsigned_integer little) 8 8 ∷ []) (refusal 27 1)
    ∷ row (at 0 (signed_integer little) 0 65 ∷ []) (refusal 27 0)
    ∷ row (at 0 (float little) 0 16 ∷ []) (refusal 27 0)
    ∷ []

pub claim : map (λ (r : Row). overlap_of r.list) table ≡ map (λ (r : Row). r.reply) table
unfolding times some_from share_a_bit is_sound_number pair_with first_pair all_fixed overlap_of
claim = refl
