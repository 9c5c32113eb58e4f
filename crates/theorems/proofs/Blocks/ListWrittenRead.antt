-- Reading gives what a data list was written from, whatever bytes come after it.
use Rattle.std.specs.Prelude.{if◌then◌else◌}
use mathlib.Core.Path.{◌≡◌, refl, sym, ap, ap₂, ◌∙◌}
use mathlib.Core.Bool.{Bool, true, false}
use mathlib.Core.List.{List, [], ◌∷◌, ◌++◌, append_assoc}
use Prim.Native.Nat.{ℕ, ◌+◌, ◌-◌, ◌*◌, ◌^◌, ◌≤◌, ◌<◌}
use native.Mathlib.Omega.{arith}
use lib.ListN.{length, get_or, length-append}
use lib.Seq.{get_or_at}
use Rattle.definitions.specs.Reply.{answer}
use Rattle.definitions.specs.Bytes.{le_of, le, les, span, u32_at, u64_at, u64s_at, id_at}
use Rattle.definitions.specs.Header.{Header, header_in, header_bytes}
use Rattle.definitions.specs.DataList.{DataList, id_dl, link_limit, one_length, list_of, list_in, rest_in, rest_count, flags_at, header_for, list_bytes}
use Rattle.words.proofs.Numbers.{length_le, length_les}
use Rattle.blocks.proofs.Headers.{length_header}
use Rattle.blocks.proofs.Writes.{length_list}
use Rattle.theorems.proofs.Blocks.Rewritten.{Words, number_read, numbers_read}
use Rattle.theorems.proofs.Blocks.HeaderRoundTrip.{Fits, fields_read}
use Rattle.theorems.specs.Exactly.{ListStands}
use Rattle.theorems.proofs.Blocks.ListAnswers.{list_answered}

-- what a list is written from: numbers of their widths, and as many of the rest as the flags and the count say
pub record Writable (next : ℕ) (links : List ℕ) (flags : ℕ) (rest : List ℕ) : Type 0 where
  pub next_fits : next < 2 ^ 64
  pub few : length links ≤ link_limit
  pub counted : rest_count flags (length links) ≡ length rest
  pub links_fit : Words links
  pub rest_fits : Words rest

-- the list that reading such bytes gives
abbrev pub list_from : ℕ → List ℕ → ℕ → List ℕ → DataList
list_from next links flags rest = record {
  header = header_for (length links) (length rest);
  next = next;
  links_at = 32;
  links = length links;
  flags = flags;
  reserved = 0;
  count = length links;
  rest_at = 40 + length links * 8;
  rest = length rest;
}

few_rest : (n r : ℕ) (one : Bool) → (if one then 1 else n) ≡ r → n ≤ link_limit → r ≤ link_limit
few_rest n r true e h = omega arith
few_rest n r false e h = omega arith

named : (r l k : ℕ) (after : List ℕ) → id_at (header_bytes (record { id = le_of id_dl; reserved = r; block_length = l; link_count = k }) ++ after) 0 id_dl ≡ true
unfolding header_bytes le le_of
named r l k after = refl

zeros_read : (s front rest : List ℕ) (at : ℕ) → s ≡ front ++ (0 ∷ 0 ∷ 0 ∷ []) ++ rest → length front ≡ at → le_of (span s at 3) ≡ 0
unfolding le
zeros_read s front rest at e l = number_read s front rest at 3 0 e l (omega arith)

module _ (next : ℕ) (links : List ℕ) (flags : ℕ) (rest after : List ℕ) where
  abbrev header : Header
  header = header_for (length links) (length rest)

  abbrev word : List ℕ
  word = flags ∷ 0 ∷ 0 ∷ 0 ∷ []

  -- where the flags stand
  abbrev at : ℕ
  at = flags_at (length links + 1)

  -- the bytes that are read, by their pieces
  abbrev s : List ℕ
  s = header_bytes header ++ le 8 next ++ les links ++ word ++ le 4 (length links) ++ les rest ++ after

  bytes_are : list_bytes next links flags rest ++ after ≡ s
  unfolding list_bytes
  bytes_are = refl

  to_next : length (header_bytes header ++ le 8 next) ≡ 32
  to_next = omega (arith, length-append (header_bytes header) (le 8 next), length_header header, length_le 8 next)

  to_flags : length (header_bytes header ++ le 8 next ++ les links) ≡ at
  to_flags = omega (arith, length-append (header_bytes header ++ le 8 next) (les links), to_next, length_les links)

  to_reserved : length (header_bytes header ++ le 8 next ++ les links ++ (flags ∷ [])) ≡ at + 1
  to_reserved = omega (arith, length-append (header_bytes header ++ le 8 next ++ les links) (flags ∷ []), to_flags)

  to_count : length (header_bytes header ++ le 8 next ++ les links ++ word) ≡ at + 4
  to_count = omega (arith, length-append (header_bytes header ++ le 8 next ++ les links) word, to_flags)

  to_rest : length (header_bytes header ++ le 8 next ++ les links ++ word ++ le 4 (length links)) ≡ at + 8
  to_rest = omega (arith, length-append (header_bytes header ++ le 8 next ++ les links ++ word) (le 4 (length links)), to_count, length_le 4 (length links))

  module _ (w : Writable next links flags rest) where
    header_fits : Fits header
    unfolding le_of
    header_fits =
        let short : length rest ≤ link_limit = few_rest (length links) (length rest) (one_length flags) w.counted w.few in
        let long : length links ≤ link_limit = w.few in
        record { id = omega arith; reserved = omega arith; block_length = omega arith; link_count = omega arith }

    header_is : header_in s ≡ header
    header_is =
        let tail : List ℕ = le 8 next ++ les links ++ word ++ le 4 (length links) ++ les rest ++ after in
        let e : s ≡ header_bytes header ++ tail = simp append_assoc in
        ap header_in e ∙ fields_read header header_fits tail

    next_is : u64_at s 24 ≡ next
    next_is =
        let tail : List ℕ = les links ++ word ++ le 4 (length links) ++ les rest ++ after in
        let e : s ≡ header_bytes header ++ le 8 next ++ tail = simp append_assoc in
        number_read s (header_bytes header) tail 24 8 next e (length_header header) w.next_fits

    flags_are : get_or s at 0 ≡ flags
    flags_are =
        let front : List ℕ = header_bytes header ++ le 8 next ++ les links in
        let tail : List ℕ = 0 ∷ 0 ∷ 0 ∷ (le 4 (length links) ++ les rest ++ after) in
        let e : s ≡ front ++ flags ∷ tail = simp append_assoc in
        ap (λ (l : List ℕ). get_or l at 0) e ∙ get_or_at front flags tail 0 at to_flags

    reserved_is : le_of (span s (at + 1) 3) ≡ 0
    reserved_is =
        let front : List ℕ = header_bytes header ++ le 8 next ++ les links ++ (flags ∷ []) in
        let tail : List ℕ = le 4 (length links) ++ les rest ++ after in
        let e : s ≡ front ++ (0 ∷ 0 ∷ 0 ∷ []) ++ tail = simp append_assoc in
        zeros_read s front tail (at + 1) e to_reserved

    count_is : u32_at s (at + 4) ≡ length links
    count_is =
        let front : List ℕ = header_bytes header ++ le 8 next ++ les links ++ word in
        let e : s ≡ front ++ le 4 (length links) ++ (les rest ++ after) = simp append_assoc in
        number_read s front (les rest ++ after) (at + 4) 4 (length links) e to_count (omega (arith, w.few))

    rest_is : rest_in s (length links + 1) ≡ length rest
    rest_is = ap₂ rest_count flags_are count_is ∙ w.counted

    stands : ListStands s
    stands =
        let tail : List ℕ = le 8 next ++ les links ++ word ++ le 4 (length links) ++ les rest ++ after in
        let e : s ≡ header_bytes header ++ tail = simp append_assoc in
        let k : u64_at s 16 ≡ length links + 1 = ap (λ (h : Header). h.link_count) header_is in
        let r : rest_in s (u64_at s 16) ≡ length rest = ap (rest_in s) k ∙ rest_is in
        let l : length s ≡ 40 + length links * 8 + length rest * 8 + length after =
        sym (ap length bytes_are) ∙ length-append (list_bytes next links flags rest) after ∙ ap (λ (x : ℕ). x + length after) (length_list next links flags rest) in
        record {
          named = ap (λ (x : List ℕ). id_at x 0 id_dl) e ∙ named 0 _ _ tail;
          some = omega arith;
          whole = omega arith;
        }

    pub list_written_read : list_of (list_bytes next links flags rest ++ after) ≡ answer (list_from next links flags rest)
    list_written_read =
        let less : length links + 1 - 1 ≡ length links = omega arith in
        let place : at + 8 ≡ 40 + length links * 8 = omega arith in
        ap list_of bytes_are ∙ list_answered s stands ∙ ap (λ (h : Header). answer (list_in s h)) header_is
        ∙ rw (next_is, flags_are, reserved_is, count_is, w.counted, less, place)

    -- and so do the numbers that it tells by their places
    pub links_written_read : u64s_at (list_bytes next links flags rest ++ after) 32 (length links) ≡ links
    links_written_read =
        let front : List ℕ = header_bytes header ++ le 8 next in
        let tail : List ℕ = word ++ le 4 (length links) ++ les rest ++ after in
        let e : s ≡ front ++ les links ++ tail = simp append_assoc in
        numbers_read links _ front tail 32 (bytes_are ∙ e) to_next w.links_fit

    pub rest_written_read : u64s_at (list_bytes next links flags rest ++ after) (40 + length links * 8) (length rest) ≡ rest
    rest_written_read =
        let front : List ℕ = header_bytes header ++ le 8 next ++ les links ++ word ++ le 4 (length links) in
        numbers_read rest _ front after (40 + length links * 8) bytes_are (omega (arith, to_rest)) w.rest_fits
