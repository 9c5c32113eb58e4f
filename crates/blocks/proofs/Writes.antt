-- The ways through a data list that is written.
use mathlib.Core.Path.{◌≡◌, sym, ap, ◌∙◌}
use mathlib.Core.List.{List, [], ◌∷◌, ◌++◌}
use Prim.Native.Nat.{ℕ, ◌+◌, ◌*◌, ◌/◌, ◌%◌, ◌≤◌, ◌<◌}
use native.Mathlib.Omega.{arith}
use lib.ListN.{length, length-append}
use lib.Seq.{sets}
use borrow.Author.Tests.{lt-ltb, le-ltb, eq-eqb, ne_eqb}
use Rattle.definitions.specs.Reply.{answer, refusal, writing}
use Rattle.definitions.specs.Bytes.{le_of, le, les}
use Rattle.definitions.specs.Header.{Header, header_bytes}
use Rattle.definitions.specs.DataList.{link_limit, id_dl, list_size, header_for, list_bytes, list_written, equal, variable}
use Rattle.definitions.proofs.Replies.{writing_short, writing_met}
use Rattle.definitions.proofs.Stores.{stored_then}
use Rattle.words.proofs.Numbers.{length_le, length_les}
use Rattle.blocks.proofs.Headers.{length_header}

-- a byte and three zeros are one word
flags_word : (flags : ℕ) → flags < 256 → le 4 flags ≡ flags ∷ 0 ∷ 0 ∷ 0 ∷ []
unfolding le
flags_word flags h =
    let low : flags % 256 ≡ flags = omega arith in
    let high : flags / 256 ≡ 0 = omega arith in
    rw (low, high)

-- the header that a list is written with
pub header_made : (n r i size : ℕ) → i ≡ le_of id_dl → size ≡ 40 + n * 8 + r * 8
    → record { id = i; reserved = 0; block_length = size; link_count = n + 1 } ≡ header_for n r
header_made n r i size ei es =
    let e : size ≡ list_size n r = omega arith in
    rw (ei, e)

module _ (next : ℕ) (links : List ℕ) (flags : ℕ) (rest : List ℕ) where
  pub length_list : length (list_bytes next links flags rest) ≡ 40 + length links * 8 + length rest * 8
  unfolding list_bytes
  length_list =
      simp length-append
      (omega (arith, length_header (header_for (length links) (length rest)), length_le 8 next, length_les links, length_le 4 (length links), length_les rest))

  -- six stores, one after the other, are the list's bytes
  pub list_stored : (out : List ℕ) (h : Header) {a b c d e f : List ℕ} → flags < 256 → h ≡ header_for (length links) (length rest)
      → a ≡ sets out 0 (header_bytes h) → b ≡ sets a 24 (le 8 next) → c ≡ sets b 32 (les links)
      → d ≡ sets c (32 + length links * 8) (le 4 flags) → e ≡ sets d (32 + length links * 8 + 4) (le 4 (length links))
      → f ≡ sets e (32 + length links * 8 + 8) (les rest)
      → f ≡ sets out 0 (list_bytes next links flags rest)
  unfolding list_bytes
  list_stored out h {c = c} small eh ea eb ec ed ee ef =
      let made : List ℕ = header_bytes (header_for (length links) (length rest)) in
      let word : List ℕ = flags ∷ 0 ∷ 0 ∷ 0 ∷ [] in
      let p₁ : 24 ≡ length made = sym (length_header (header_for (length links) (length rest))) in
      let p₂ : 32 ≡ length (made ++ le 8 next) = omega (arith, length-append made (le 8 next), length_le 8 next) in
      let p₃ : 32 + length links * 8 ≡ length (made ++ le 8 next ++ les links) =
      omega (arith, length-append (made ++ le 8 next) (les links), length_les links) in
      let p₄ : 32 + length links * 8 + 4 ≡ length (made ++ le 8 next ++ les links ++ word) =
      omega (arith, length-append (made ++ le 8 next ++ les links) word) in
      let p₅ : 32 + length links * 8 + 8 ≡ length (made ++ le 8 next ++ les links ++ word ++ le 4 (length links)) =
      omega (arith, length-append (made ++ le 8 next ++ les links ++ word) (le 4 (length links)), length_le 4 (length links)) in
      stored_then out (made ++ le 8 next ++ les links ++ word ++ le 4 (length links)) (les rest) _
      (stored_then out (made ++ le 8 next ++ les links ++ word) (le 4 (length links)) _
      (stored_then out (made ++ le 8 next ++ les links) word _
      (stored_then out (made ++ le 8 next) (les links) _
      (stored_then out made (le 8 next) _ (ea ∙ ap (λ (x : Header). sets out 0 (header_bytes x)) eh) eb p₁) ec p₂)
      (ed ∙ ap (λ (w : List ℕ). sets c (32 + length links * 8) w) (flags_word flags small)) p₃) ee p₄) ef p₅

  -- with too little room, and with room
  pub list_small : (out : List ℕ) → length links ≤ link_limit → length rest ≤ link_limit → length out < 40 + length links * 8 + length rest * 8
      → record { reply = refusal 6 (40 + length links * 8 + length rest * 8); buffer = out }
      ≡ writing out (list_bytes next links flags rest) (list_size (length links) (length rest))
  list_small out few short h =
      writing_short out (list_bytes next links flags rest) (list_size (length links) (length rest)) _ (sym length_list) (omega arith) h

  pub list_fits : (out left : List ℕ) → 40 + length links * 8 + length rest * 8 ≤ length out → left ≡ sets out 0 (list_bytes next links flags rest)
      → record { reply = answer (40 + length links * 8 + length rest * 8); buffer = left }
      ≡ writing out (list_bytes next links flags rest) (list_size (length links) (length rest))
  list_fits out left h e =
      let size : 40 + length links * 8 + length rest * 8 ≡ list_size (length links) (length rest) = omega arith in
      rw size (writing_met out (list_bytes next links flags rest) _ left (omega (arith, length_list)) e)

-- 5, and the way past it
module _ (out : List ℕ) (next : ℕ) (links : List ℕ) where
  pub equal_many : (k : ℕ) → link_limit < length links → record { reply = refusal 5 0; buffer = out } ≡ list_written out next links (equal k)
  unfolding list_written
  equal_many k h = rw (lt-ltb _ _ h)

  pub equal_few : (k : ℕ) → length links ≤ link_limit
      → writing out (list_bytes next links 1 (k ∷ [])) (list_size (length links) 1) ≡ list_written out next links (equal k)
  unfolding list_written
  equal_few k h = rw (le-ltb _ _ h)

  pub variable_many : (ns : List ℕ) → link_limit < length links → record { reply = refusal 5 0; buffer = out } ≡ list_written out next links (variable ns)
  unfolding list_written
  variable_many ns h = rw (lt-ltb _ _ h)

  module _ (ns : List ℕ) (few : length links ≤ link_limit) where
    pub variable_other : (length links ≡ length ns → ⊥) → record { reply = refusal 5 0; buffer = out } ≡ list_written out next links (variable ns)
    unfolding list_written
    variable_other h = rw (le-ltb _ _ few, ne_eqb _ _ h)

    pub variable_same : length links ≡ length ns
        → writing out (list_bytes next links 0 ns) (list_size (length links) (length ns)) ≡ list_written out next links (variable ns)
    unfolding list_written
    variable_same h = rw (le-ltb _ _ few, eq-eqb _ _ h)
