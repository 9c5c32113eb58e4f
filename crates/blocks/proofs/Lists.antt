-- The ways through a data list that is read.
use mathlib.Core.Path.{◌≡◌, sym, ap, ◌∙◌}
use mathlib.Core.List.{List}
use mathlib.Core.Bool.{true, false}
use Prim.Native.Nat.{ℕ, ◌+◌, ◌-◌, ◌*◌, ◌%◌, ◌≤◌, ◌<◌}
use native.Mathlib.Nat.{div-one}
use native.Mathlib.Omega.{arith}
use lib.ListN.{length, get_or}
use borrow.Author.Tests.{eq-eqb, ne_eqb}
use Rattle.definitions.specs.Reply.{answer, refusal, told}
use Rattle.definitions.specs.Bytes.{le_of, span, u32_at, u64_at, id_at, bit}
use Rattle.definitions.specs.Header.{Header, header_of}
use Rattle.definitions.specs.DataList.{id_dl, list_of, links_of, rest_of, rest_in, rest_count, flags_at}
use Rattle.definitions.proofs.Replies.{needing_short, needing_met, told_small}

-- bit 0 of the flags tells how many numbers stand after the count
module _ (flags count : ℕ) where
  bit_zero : bit flags 0 ≡ flags % 2
  bit_zero = ap (λ (x : ℕ). x % 2) (div-one flags)

  pub rest_one : flags % 2 ≡ 1 → 1 ≡ rest_count flags count
  rest_one h = rw (eq-eqb _ _ (bit_zero ∙ h))

  pub rest_many : (flags % 2 ≡ 1 → ⊥) → count ≡ rest_count flags count
  rest_many h = rw (ne_eqb _ _ (λ e. h (sym bit_zero ∙ e)))

module _ (s : List ℕ) where
  -- a refused header is a refused list
  pub list_unheaded : (n t : ℕ) → header_of s ≡ refusal n t → list_of s ≡ refusal n t
  unfolding list_of
  list_unheaded n t h = rw h

  module _ (x : Header) (h : header_of s ≡ answer x) where
    pub list_other : id_at s 0 id_dl ≡ false → list_of s ≡ refusal 3 0
    unfolding list_of links_of
    list_other i = rw (h, i)

    module _ (i : id_at s 0 id_dl ≡ true) where
      pub list_none : x.link_count ≡ 0 → list_of s ≡ refusal 4 0
      unfolding list_of links_of
      list_none z = rw (h, i, eq-eqb _ _ z)

      module _ (z : x.link_count ≡ 0 → ⊥) where
        pub list_cut : length s < 32 + x.link_count * 8 → list_of s ≡ refusal 2 (told (32 + x.link_count * 8))
        unfolding list_of links_of
        list_cut l =
            let e : flags_at x.link_count + 8 ≡ 32 + x.link_count * 8 = omega arith in
            rw (h, i, ne_eqb _ _ z, e) (needing_short s _ _ l)

        pub list_linked : 32 + x.link_count * 8 ≤ length s → list_of s ≡ rest_of s x
        unfolding list_of links_of
        list_linked l =
            let e : flags_at x.link_count + 8 ≡ 32 + x.link_count * 8 = omega arith in
            rw (h, i, ne_eqb _ _ z, e) (needing_met s _ _ l)

  module _ (x : Header) (n k : ℕ) (ek : k ≡ rest_in s x.link_count) (en : n ≡ flags_at x.link_count + 8 + k * 8) where
    pub rest_cut : n < 18446744073709551616 → length s < n → rest_of s x ≡ refusal 2 n
    unfolding rest_of
    rest_cut small l =
        let e : flags_at x.link_count + 8 + rest_in s x.link_count * 8 ≡ n = omega arith in
        rw e (needing_short s n _ l ∙ ap (refusal 2) (told_small n small))

    -- the fields as they are read
    pub rest_read : (next reserved count : ℕ) → next ≡ u64_at s 24 → reserved ≡ le_of (span s (flags_at x.link_count + 1) 3)
        → count ≡ u32_at s (flags_at x.link_count + 4) → n ≤ length s
        → rest_of s x ≡ answer (record {
          header = x;
          next = next;
          links_at = 32;
          links = x.link_count - 1;
          flags = get_or s (flags_at x.link_count) 0;
          reserved = reserved;
          count = count;
          rest_at = flags_at x.link_count + 8;
          rest = k;
        })
    unfolding rest_of
    rest_read next reserved count e f g l =
        rw (e, f, g, ek) (needing_met s _ _ (omega arith))
