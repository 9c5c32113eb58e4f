-- What an answer tells of a list of the chain.
use mathlib.Core.Path.{◌≡◌, refl, sym}
use mathlib.Core.Bool.{true, false, not}
use mathlib.Core.List.{List}
use Prim.Native.Nat.{ℕ, ◌+◌, ◌*◌, ◌≤◌}
use native.Mathlib.Omega.{arith}
use lib.ListN.{length, drop}
use lib.Dec.{ltb, eqb}
use borrow.Author.Tests.{ne_eqb, ltb-false, eqb-true, eqb-false, not-false}
use Rattle.definitions.specs.Reply.{answer}
use Rattle.definitions.specs.Bytes.{id_at}
use Rattle.definitions.specs.Header.{Header, header_of}
use Rattle.definitions.specs.DataList.{DataList, id_dl, list_of, links_of, rest_of, list_in, rest_in, rest_count, flags_at}
use Rattle.definitions.specs.Chain.{fragment_limit, has_header, agrees, admitted, list_at}
use Rattle.blocks.proofs.Headers.{needed}
use Rattle.definitions.proofs.Replies.{both}
use Rattle.places.proofs.Answers.{passed, followed, answered}

-- a list whose count is not that of its links does not agree with itself
pub disagrees : (d : DataList) → (d.count ≡ d.links → ⊥) → false ≡ agrees d
disagrees d h = rw (ne_eqb _ _ h)

-- a list that is read lies in its bytes
pub record Lies (s : List ℕ) (d : DataList) : Type 0 where
  pub links : d.links_at + d.links * 8 ≤ length s
  pub rest : d.rest_at + d.rest * 8 ≤ length s
  pub counted : d.rest ≡ rest_count d.flags d.count

module _ (s : List ℕ) where
  lies_in : (h : Header) → (h.link_count ≡ 0 → ⊥) → flags_at h.link_count + 8 + rest_in s h.link_count * 8 ≤ length s → Lies s (list_in s h)
  lies_in h z l = record { links = omega arith; rest = l; counted = refl }

  pub list_lies : (d : DataList) → list_of s ≡ answer d → Lies s d
  unfolding list_of links_of rest_of
  list_lies d e =
      let headed = followed (header_of s) (links_of s) d e in
      let h = headed.0 in
      let named = passed (not (id_at s 0 id_dl)) _ _ _ _ headed.2 in
      let linked = passed (eqb h.link_count 0) _ _ _ _ named.1 in
      let fixed = needed s (flags_at h.link_count + 8) _ _ linked.1 in
      let whole = needed s (flags_at h.link_count + 8 + rest_in s h.link_count * 8) _ _ fixed.1 in
      rw (sym (answered whole.1)) (lies_in h (eqb-false _ _ linked.0) whole.0)

-- a list of the chain, with n fragments before it
pub record Listed (s : List ℕ) (n : ℕ) (d : DataList) : Type 0 where
  pub lies : Lies s d
  pub count : d.count ≡ d.links
  pub few : n + d.links ≤ fragment_limit

pub list_stands : (f : List ℕ) (n a : ℕ) (d : DataList) → list_at f n a ≡ answer d → (has_header f a ≡ true) × Listed (drop a f) n d
unfolding list_at
list_stands f n a d h =
    let there = passed (not (has_header f a)) _ _ _ _ h in
    let read = followed (list_of (drop a f)) (admitted n) d there.1 in
    let x = read.0 in
    let agreed = passed (not (agrees x)) _ _ _ _ read.2 in
    let few = passed (ltb fragment_limit (n + x.links)) _ _ _ _ agreed.1 in
    let e : Listed (drop a f) n x = record {
      lies = list_lies (drop a f) x read.1;
      count = eqb-true _ _ (both _ _ (not-false _ agreed.0)).0;
      few = ltb-false _ _ few.0;
    } in
    (not-false _ there.0, rw (answered few.1) at e)
