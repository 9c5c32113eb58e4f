-- The ways through a header, and what a header tells of the bytes.
use Rattle.std.specs.Prelude.{if◌then◌else◌}
use mathlib.Core.Path.{◌≡◌, refl, sym}
use mathlib.Core.List.{List, ◌++◌}
use mathlib.Core.Bool.{Bool, true, false}
use Prim.Native.Nat.{ℕ, ◌≤◌, ◌<◌}
use native.Mathlib.Omega.{arith}
use lib.ListN.{length, length-append}
use lib.Dec.{ltb}
use lib.Seq.{sets}
use borrow.Author.Tests.{ltb-false}
use Rattle.definitions.specs.Reply.{Reply, answer, refusal, needing, told}
use Rattle.definitions.specs.Bytes.{u32_at, u64_at, le}
use Rattle.definitions.specs.Header.{Header, header_in, header_of, header_bytes, header_written}
use Rattle.definitions.proofs.Replies.{not_answered, needing_short, needing_met, writing_short, writing_met}
use Rattle.definitions.proofs.Stores.{stored_then}
use Rattle.words.proofs.Numbers.{length_le}

module _ {A : Type 0} (s : List ℕ) (n : ℕ) (r : Reply A) (a : A) where
  by_test : (b : Bool) → ltb (length s) n ≡ b → (if b then refusal 2 (told n) else r) ≡ answer a → (n ≤ length s) × (r ≡ answer a)
  by_test true e h = not_answered a _ _ h
  by_test false e h = (ltb-false _ _ e, h)

  -- an answer tells that the bytes are there
  pub needed : needing s n r ≡ answer a → (n ≤ length s) × (r ≡ answer a)
  needed h = by_test (ltb (length s) n) refl h

module _ (s : List ℕ) where
  pub header_short : length s < 24 → header_of s ≡ refusal 2 24
  unfolding header_of
  header_short h = needing_short s 24 _ h

  pub header_met : 24 ≤ length s → header_of s ≡ answer (header_in s)
  unfolding header_of
  header_met h = needing_met s 24 _ h

  -- the same, field by field
  pub header_read : (i r l k : ℕ) → i ≡ u32_at s 0 → r ≡ u32_at s 4 → l ≡ u64_at s 8 → k ≡ u64_at s 16 → 24 ≤ length s
      → header_of s ≡ answer (record { id = i; reserved = r; block_length = l; link_count = k })
  header_read i r l k e f g h q = rw (e, f, g, h) (header_met q)

  pub header_answered : (x : Header) → header_of s ≡ answer x → (24 ≤ length s) × (x ≡ header_in s)
  unfolding header_of
  header_answered x h = let p = needed s 24 _ x h in (p.0, cc)

pub length_header : (h : Header) → length (header_bytes h) ≡ 24
unfolding header_bytes le
length_header h = refl

-- four stores, one after the other, are the header's bytes
pub header_stored : (out : List ℕ) (i r l k : ℕ) {a b c d : List ℕ}
    → a ≡ sets out 0 (le 4 i) → b ≡ sets a 4 (le 4 r) → c ≡ sets b 8 (le 8 l) → d ≡ sets c 16 (le 8 k)
    → d ≡ sets out 0 (header_bytes (record { id = i; reserved = r; block_length = l; link_count = k }))
unfolding header_bytes
header_stored out i r l k ea eb ec ed =
    let four : 4 ≡ length (le 4 i) = sym (length_le 4 i) in
    let eight : 8 ≡ length (le 4 i ++ le 4 r) = omega (arith, length-append (le 4 i) (le 4 r), length_le 4 r) in
    let sixteen : 16 ≡ length (le 4 i ++ le 4 r ++ le 8 l) = omega (arith, length-append (le 4 i ++ le 4 r) (le 8 l), length_le 8 l) in
    stored_then out (le 4 i ++ le 4 r ++ le 8 l) (le 8 k) 16
    (stored_then out (le 4 i ++ le 4 r) (le 8 l) 8 (stored_then out (le 4 i) (le 4 r) 4 ea eb four) ec eight) ed sixteen

module _ (out : List ℕ) (h : Header) where
  pub header_small : length out < 24 → record { reply = refusal 6 24; buffer = out } ≡ header_written out h
  unfolding header_written
  header_small l = writing_short out (header_bytes h) 24 24 (sym (length_header h)) (omega arith) l

  pub header_fits : (left : List ℕ) → 24 ≤ length out → left ≡ sets out 0 (header_bytes h)
      → record { reply = answer 24; buffer = left } ≡ header_written out h
  unfolding header_written
  header_fits left l e = writing_met out (header_bytes h) 24 left (omega (arith, length_header h)) e
