-- A header that is written and then read, or read and then written, is the same.
use mathlib.Core.Path.{◌≡◌, refl, sym, ap, ap₂, ◌∙◌}
use mathlib.Core.Bool.{true}
use mathlib.Core.List.{List, [], ◌∷◌, ◌++◌, append_assoc}
use Prim.Native.Nat.{ℕ, ◌^◌, ◌≤◌, ◌<◌}
use native.Mathlib.Omega.{arith}
use lib.ListN.{length, take, length-append}
use borrow.Author.Tests.{eqb-true}
use Rattle.definitions.specs.Reply.{answer}
use Rattle.definitions.specs.Bytes.{le_of, le, span, u32_at, u64_at, id_at}
use Rattle.definitions.specs.Header.{Header, header_in, header_of, header_bytes}
use Rattle.words.proofs.Numbers.{Bytes, length_le, bytes_four}
use Rattle.words.proofs.Spans.{span_split}
use Rattle.words.proofs.Ids.{id_words}
use Rattle.blocks.proofs.Headers.{header_met, header_answered, length_header}
use Rattle.theorems.proofs.Blocks.Rewritten.{number_read, number_written}

-- the fields fit in their bytes
pub record Fits (h : Header) : Type 0 where
  pub id : h.id < 2 ^ 32
  pub reserved : h.reserved < 2 ^ 32
  pub block_length : h.block_length < 2 ^ 64
  pub link_count : h.link_count < 2 ^ 64

from_id : (a b c d e : List ℕ) → a ++ b ++ c ++ d ++ e ≡ [] ++ a ++ (b ++ c ++ d ++ e)
from_id a b c d e = simp append_assoc

from_reserved : (a b c d e : List ℕ) → a ++ b ++ c ++ d ++ e ≡ a ++ b ++ (c ++ d ++ e)
from_reserved a b c d e = simp append_assoc

from_length : (a b c d e : List ℕ) → a ++ b ++ c ++ d ++ e ≡ a ++ b ++ c ++ (d ++ e)
from_length a b c d e = simp append_assoc

pub fields_read : (h : Header) → Fits h → (after : List ℕ) → header_in (header_bytes h ++ after) ≡ h
unfolding header_bytes
fields_read h f after =
    let a : List ℕ = le 4 h.id in
    let b : List ℕ = le 4 h.reserved in
    let c : List ℕ = le 8 h.block_length in
    let d : List ℕ = le 8 h.link_count in
    let s : List ℕ = a ++ b ++ c ++ d ++ after in
    let la : length a ≡ 4 = length_le 4 h.id in
    let lb : length (a ++ b) ≡ 8 = omega (arith, length-append a b, length_le 4 h.reserved) in
    let lc : length (a ++ b ++ c) ≡ 16 = omega (arith, length-append (a ++ b) c, length_le 8 h.block_length) in
    let ea : u32_at s 0 ≡ h.id = number_read s [] (b ++ c ++ d ++ after) 0 4 h.id (from_id a b c d after) refl f.id in
    let eb : u32_at s 4 ≡ h.reserved = number_read s a (c ++ d ++ after) 4 4 h.reserved (from_reserved a b c d after) la f.reserved in
    let ec : u64_at s 8 ≡ h.block_length = number_read s (a ++ b) (d ++ after) 8 8 h.block_length (from_length a b c d after) lb f.block_length in
    let ed : u64_at s 16 ≡ h.link_count = number_read s (a ++ b ++ c) after 16 8 h.link_count refl lc f.link_count in
    rw (ea, eb, ec, ed)

-- written, then read, whatever bytes come after it
pub header_written_read : (h : Header) → Fits h → (after : List ℕ) → header_of (header_bytes h ++ after) ≡ answer h
header_written_read h f after =
    header_met (header_bytes h ++ after) (omega (arith, length-append (header_bytes h) after, length_header h)) ∙ ap answer (fields_read h f after)

-- read, then written: the same 24 bytes, whatever the id
pub header_read_written : (s : List ℕ) (h : Header) → Bytes s → header_of s ≡ answer h → header_bytes h ≡ take 24 s
unfolding header_bytes
header_read_written s h b e =
    let p = header_answered s h e in
    let l : 24 ≤ length s = p.0 in
    rw p.1
    (ap₂ (λ (x y : List ℕ). x ++ y)
    (ap₂ (λ (x y : List ℕ). x ++ y)
    (ap₂ (λ (x y : List ℕ). x ++ y) (number_written s 0 4 b (omega arith)) (number_written s 4 4 b (omega arith)) ∙ sym (span_split s 0 4 4))
    (number_written s 8 8 b (omega arith)) ∙ sym (span_split s 0 8 8))
    (number_written s 16 8 b (omega arith)) ∙ sym (span_split s 0 16 8))

-- a header with the id that was found, and with the fields as they were read
pub named_header : (s : List ℕ) (h : Header) (x y z t : ℕ) → Bytes s → x < 256 → y < 256 → z < 256 → t < 256 → 24 ≤ length s
    → id_at s 0 (x ∷ y ∷ z ∷ t ∷ []) ≡ true → h.id ≡ le_of (x ∷ y ∷ z ∷ t ∷ []) → h.reserved ≡ u32_at s 4 → h.block_length ≡ u64_at s 8
    → h.link_count ≡ u64_at s 16 → header_bytes h ≡ span s 0 24
named_header s h x y z t b hx hy hz ht l named ei er eb ek =
    let id : List ℕ = x ∷ y ∷ z ∷ t ∷ [] in
    let same : u32_at s 0 ≡ le_of id = eqb-true (u32_at s 0) (u32_at id 0) (id_words s id 0 (omega arith) (omega arith) b (bytes_four x y z t hx hy hz ht) refl refl ∙ named) in
    let e : h ≡ header_in s = λ i. record { id = (ei ∙ sym same) i; reserved = er i; block_length = eb i; link_count = ek i } in
    ap header_bytes e ∙ header_read_written s (header_in s) b (header_met s l)
