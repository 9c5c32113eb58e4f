-- A data list that is read and then written gives its bytes again where it is `Plain`: nothing in the reserved fields or
-- the upper flags, no more links than can be written, and a count and a block length that fit its fields.
use Rattle.std.specs.Prelude.{if◌then◌else◌}
use mathlib.Core.Path.{◌≡◌, refl, sym, ap, ap₂, ◌∙◌, subst}
use mathlib.Core.Logic.{◌⊎◌, inl, inr}
use mathlib.Core.Bool.{true, false}
use mathlib.Core.List.{List, [], ◌∷◌, ◌++◌}
use Prim.Native.Nat.{ℕ, ◌+◌, ◌-◌, ◌*◌, ◌≤◌, ◌<◌}
use native.Mathlib.Omega.{arith}
use lib.ListN.{length, get_or, take}
use borrow.Author.Tests.{le-ltb, eq-eqb}
use Rattle.definitions.specs.Reply.{answer}
use Rattle.definitions.specs.Bytes.{le_of, le, span, u32_at, u64_at, u64s_at}
use Rattle.definitions.specs.Header.{header_in, header_bytes}
use Rattle.definitions.specs.DataList.{DataList, link_limit, one_length, list_of, list_in, rest_in, rest_count, flags_at, list_size, header_for, list_bytes, Lengths, equal, variable, flags_for, rest_for, unwritable}
use Rattle.words.proofs.Numbers.{Bytes, length_u64s}
use Rattle.words.proofs.Spans.{span_one, span_split}
use Rattle.theorems.proofs.Blocks.Rewritten.{glue, number_written, numbers_written}
use Rattle.theorems.proofs.Blocks.HeaderRoundTrip.{named_header}
use Rattle.theorems.specs.Exactly.{ListStands}
use Rattle.theorems.proofs.Blocks.ListAnswers.{list_stands}

pub record Plain (d : DataList) : Type 0 where
  pub header_reserved : d.header.reserved ≡ 0
  pub reserved : d.reserved ≡ 0
  pub flags : (d.flags ≡ 0) ⊎ (d.flags ≡ 1)
  pub few : d.links ≤ link_limit
  pub count : d.count ≡ d.links
  pub block_length : d.header.block_length ≡ d.rest_at + d.rest * 8

-- what the list is written from: its one length, or its offsets
abbrev pub lengths_in : List ℕ → DataList → Lengths
lengths_in s d = if one_length d.flags then equal (u64_at s d.rest_at) else variable (u64s_at s d.rest_at d.rest)

module _ (s : List ℕ) (bytes : Bytes s) (stands : ListStands s) where
  -- the link count, where the flags stand, the data links and the numbers of the rest
  abbrev count : ℕ
  count = u64_at s 16

  abbrev at : ℕ
  at = flags_at count

  abbrev n : ℕ
  n = count - 1

  abbrev r : ℕ
  r = rest_in s count

  flags_piece : le_of (span s (at + 1) 3) ≡ 0 → get_or s at 0 ∷ 0 ∷ 0 ∷ 0 ∷ [] ≡ span s at 4
  unfolding le
  flags_piece z =
      let w : at + 8 + r * 8 ≤ length s = stands.whole in
      let zeros : 0 ∷ 0 ∷ 0 ∷ [] ≡ span s (at + 1) 3 = ap (le 3) (sym z) ∙ number_written s (at + 1) 3 bytes (omega arith) in
      ap (λ (l : List ℕ). get_or s at 0 ∷ l) zeros
      ∙ sym (span_split s at 1 3 ∙ ap (λ (l : List ℕ). l ++ span s (at + 1) 3) (span_one s at (omega arith)))

  module _ (reserved : u32_at s 4 ≡ 0) (zeros : le_of (span s (at + 1) 3) ≡ 0) (counted : u32_at s (at + 4) ≡ n) (sized : u64_at s 8 ≡ at + 8 + r * 8) where
    header_piece : header_bytes (header_for n r) ≡ span s 0 24
    header_piece =
        let w : at + 8 + r * 8 ≤ length s = stands.whole in
        let some : 0 < count = stands.some in
        let l : 24 ≤ length s = omega arith in
        let size : list_size n r ≡ u64_at s 8 = omega arith in
        let links : n + 1 ≡ count = omega arith in
        named_header s (header_for n r) 35 35 68 76 bytes (omega arith) (omega arith) (omega arith) (omega arith) l stands.named refl (sym reserved) size links

    pub pieces : list_bytes (u64_at s 24) (u64s_at s 32 n) (get_or s at 0) (u64s_at s (at + 8) r) ≡ take (at + 8 + r * 8) s
    unfolding list_bytes
    pieces =
        let w : at + 8 + r * 8 ≤ length s = stands.whole in
        let some : 0 < count = stands.some in
        let head : header_bytes (header_for (length (u64s_at s 32 n)) (length (u64s_at s (at + 8) r))) ≡ span s 0 24 =
        ap₂ (λ (x y : ℕ). header_bytes (header_for x y)) (length_u64s n s 32) (length_u64s r s (at + 8)) ∙ header_piece in
        let number : le 4 (length (u64s_at s 32 n)) ≡ span s (at + 4) 4 =
        ap (le 4) (length_u64s n s 32 ∙ sym counted) ∙ number_written s (at + 4) 4 bytes (omega arith) in
        let all : 24 + 8 + n * 8 + 4 + 4 + r * 8 ≡ at + 8 + r * 8 = omega arith in
        glue s (24 + 8 + n * 8 + 4 + 4) (r * 8) (at + 8) (omega arith)
        (glue s (24 + 8 + n * 8 + 4) 4 (at + 4) (omega arith)
        (glue s (24 + 8 + n * 8) 4 at (omega arith)
        (glue s (24 + 8) (n * 8) 32 refl
        (glue s 24 8 24 refl head (number_written s 24 8 bytes (omega arith)))
        (numbers_written n s 32 bytes (omega arith)))
        (flags_piece zeros))
        number)
        (numbers_written r s (at + 8) bytes (omega arith))
        ∙ ap (λ (k : ℕ). take k s) all

-- the two forms: with bit 0 of the flags one length stands there, without it count offsets
pub record Formed (s : List ℕ) (d : DataList) : Type 0 where
  pub writable : unwritable d.links (lengths_in s d) ≡ false
  pub flags : flags_for (lengths_in s d) ≡ d.flags
  pub rest : rest_for (lengths_in s d) ≡ u64s_at s d.rest_at d.rest

one_form : (s : List ℕ) (d : DataList) → d.flags ≡ 1 → d.rest ≡ rest_count d.flags d.count → d.links ≤ link_limit
    → Formed s d
unfolding u64s_at
one_form s d f e few =
    let one : one_length d.flags ≡ true = rw f in
    let r : d.rest ≡ 1 = e ∙ rw one in
    record { writable = rw one (le-ltb _ _ few); flags = rw one (sym f); rest = rw (one, r) }

many_form : (s : List ℕ) (d : DataList) → d.flags ≡ 0 → d.rest ≡ rest_count d.flags d.count → d.links ≤ link_limit → d.count ≡ d.links
    → Formed s d
many_form s d f e few c =
    let many : one_length d.flags ≡ false = rw f in
    let r : d.rest ≡ d.count = e ∙ rw many in
    let same : d.links ≡ length (u64s_at s d.rest_at d.rest) = sym (length_u64s d.rest s d.rest_at ∙ r ∙ c) in
    record { writable = rw (many, le-ltb _ _ few, eq-eqb _ _ same); flags = rw many (sym f); rest = rw many }

either_form : (s : List ℕ) (d : DataList) → Plain d → d.rest ≡ rest_count d.flags d.count
    → Formed s d
either_form s d p e = go p.flags
  where
    go : (d.flags ≡ 0) ⊎ (d.flags ≡ 1)
        → Formed s d
    go (inl f) = many_form s d f e p.few p.count
    go (inr f) = one_form s d f e p.few

-- the list may be written, and is then the block's bytes; what comes behind them does not matter
pub list_read_written : (s : List ℕ) (d : DataList) → Bytes s → list_of s ≡ answer d → Plain d
    → (unwritable d.links (lengths_in s d) ≡ false)
    × (list_bytes d.next (u64s_at s d.links_at d.links) (flags_for (lengths_in s d)) (rest_for (lengths_in s d)) ≡ take d.header.block_length s)
list_read_written s d b e p =
    let q = list_stands s d e in
    let stands = q.0 in
    let is : d ≡ list_in s (header_in s) = q.1 in
    let plain : Plain (list_in s (header_in s)) = subst Plain is p in
    let rest : d.rest ≡ rest_count d.flags d.count = rw is in
    let form = either_form s d p rest in
    let whole = pieces s b stands plain.header_reserved plain.reserved plain.count plain.block_length in (
      form.writable,
      rw (form.flags, form.rest)
          (ap (λ (x : DataList). list_bytes x.next (u64s_at s x.links_at x.links) x.flags (u64s_at s x.rest_at x.rest)) is
          ∙ whole ∙ ap (λ (k : ℕ). take k s) (sym plain.block_length) ∙ ap (λ (x : DataList). take x.header.block_length s) (sym is)),
    )
