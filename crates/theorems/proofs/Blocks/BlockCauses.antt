-- When each refusal of a block is given, read or written, exactly, and that there is no other.
use mathlib.Core.Path.{◌≡◌, refl, ap, subst}
use mathlib.Core.Logic.{◌⊎◌, inl, ⊎_elim}
use mathlib.Core.Bool.{not}
use mathlib.Core.List.{List}
use Prim.Native.Nat.{ℕ, ◌+◌, ◌*◌, ◌<◌}
use native.Mathlib.Omega.{arith}
use lib.ListN.{length}
use lib.Dec.{ltb, eqb}
use borrow.Author.Tests.{ltb-true, lt-ltb}
use Rattle.std.specs.Bool.{Decides}
use Rattle.std.proofs.lemmas.Bool.Decides.{Decides-ltb, Decides-eqb, Decides-or, Decides-not}
use Rattle.definitions.specs.Reply.{Reply, and_then, told, needing, writing}
use Rattle.definitions.specs.Bytes.{id_at}
use Rattle.definitions.specs.Unicode.{Encoding, text_of, written_text, text_written}
use Rattle.definitions.specs.Header.{Header, header_in, header_of, header_bytes, header_written}
use Rattle.definitions.specs.DataList.{Lengths, equal, variable, id_dl, link_limit, flags_at, rest_in, links_of, rest_of, list_of, list_bytes, list_size, flags_for, rest_for, unwritable, list_written}
use Rattle.definitions.specs.ChannelBlock.{ChannelBlock, id_cn, fields_at, fields_of, channel_block_of, channel_bytes, channel_written}
use Rattle.blocks.proofs.Headers.{header_answered, length_header}
use Rattle.blocks.proofs.Writes.{length_list}
use Rattle.channels.proofs.Channels.{length_channel}
use Rattle.theorems.specs.Refused.{Cause, ◌or_else◌, RefusedExactly}
use Rattle.theorems.specs.BlockCauses.{too_short, header_refused, link_count_in, list_refused, channel_refused, no_room, Uncounted, header_unwritten, list_unwritten, channel_unwritten, text_unwritten}
use Rattle.theorems.proofs.Calls.TestsInTurn.{tests_false, as_is, tested, last_tested, going_on, tested_lent}

-- ---- read

module _ (s : List ℕ) where
  pub header_refused_law : RefusedExactly (header_refused s) (header_of s)
  unfolding header_of
  header_refused_law = last_tested (ltb (length s) 24) 2 (told 24) (header_in s) (Decides-ltb (length s) 24)

  -- a test of the bytes, and what comes behind it
  long_enough : {A : Type 0} {c : Cause} (n : ℕ) (r : Reply A) → RefusedExactly c r → RefusedExactly (too_short s n or_else c) (needing s n r)
  long_enough n r h = tested (ltb (length s) n) 2 (told n) r (Decides-ltb (length s) n) h

  -- what is read behind the header goes by the header in the bytes
  behind_header : {A : Type 0} {c : Cause} (g : Header → Reply A) → RefusedExactly c (g (header_in s)) → RefusedExactly (header_refused s or_else c) (and_then (header_of s) g)
  behind_header g h = going_on (header_of s) g header_refused_law (λ x e. as_is (ap g (header_answered s x e).1) h)

  pub list_refused_law : RefusedExactly (list_refused s) (list_of s)
  unfolding list_of links_of rest_of
  list_refused_law =
      behind_header (links_of s)
      (tested (not (id_at s 0 id_dl)) 3 0 _ (tests_false (id_at s 0 id_dl))
      (tested (eqb (link_count_in s) 0) 4 0 _ (Decides-eqb (link_count_in s) 0)
      (long_enough (flags_at (link_count_in s) + 8) _
      (last_tested (ltb (length s) _) 2 _ _ (Decides-ltb (length s) (flags_at (link_count_in s) + 8 + rest_in s (link_count_in s) * 8))))))

  pub channel_refused_law : RefusedExactly (channel_refused s) (channel_block_of s)
  unfolding channel_block_of fields_of
  channel_refused_law =
      behind_header (fields_of s)
      (tested (not (id_at s 0 id_cn)) 3 0 _ (tests_false (id_at s 0 id_cn))
      (tested (ltb (link_count_in s) 8) 17 0 _ (Decides-ltb (link_count_in s) 8)
      (last_tested (ltb (length s) _) 2 _ _ (Decides-ltb (length s) (fields_at (link_count_in s) + 72)))))

-- ---- written

module _ (out : List ℕ) where
  -- n bytes are written
  pub room_refused : {A : Type 0} (n : ℕ) (bytes : List ℕ) (a : A) → length bytes ≡ n → RefusedExactly (no_room out n) (writing out bytes a).reply
  room_refused n bytes a e =
      subst (λ (k : ℕ). RefusedExactly (no_room out k) (writing out bytes a).reply) e
      (tested_lent (ltb (length out) (length bytes)) 6 (told (length bytes)) out _
      (last_tested (ltb (length out) (length bytes)) 6 (told (length bytes)) a (Decides-ltb (length out) (length bytes))))

  pub header_written_refused : (h : Header) → RefusedExactly (header_unwritten out) (header_written out h).reply
  unfolding header_written
  header_written_refused h = room_refused 24 (header_bytes h) 24 (length_header h)

  pub channel_written_refused : (b : ChannelBlock) → RefusedExactly (channel_unwritten out) (channel_written out b).reply
  unfolding channel_written
  channel_written_refused b = room_refused 160 (channel_bytes b) 160 (length_channel b)

  pub text_written_refused : (e : Encoding) (s : List ℕ) → RefusedExactly (text_unwritten out e s) (text_written out e s).reply
  unfolding text_written written_text
  text_written_refused e s = room_refused _ (text_of e s).bytes _ refl

  tests_unwritable : (n : ℕ) (l : Lengths) → Decides (unwritable n l) ((link_limit < n) ⊎ Uncounted n l)
  tests_unwritable n (equal k) = (λ h. inl (ltb-true link_limit n h), ⊎_elim (lt-ltb link_limit n) (λ no. absurd no))
  tests_unwritable n (variable ns) = Decides-or (ltb link_limit n) (not (eqb n (length ns))) (Decides-ltb link_limit n) (Decides-not (eqb n (length ns)) (Decides-eqb n (length ns)))

  pub list_written_refused : (next : ℕ) (links : List ℕ) (l : Lengths) → RefusedExactly (list_unwritten out links l) (list_written out next links l).reply
  unfolding list_written
  list_written_refused next links l =
      tested_lent (unwritable (length links) l) 5 0 out _
      (tested (unwritable (length links) l) 5 0 _ (tests_unwritable (length links) l)
      (room_refused (list_size (length links) (length (rest_for l))) (list_bytes next links (flags_for l) (rest_for l)) _ (omega (arith, length_list next links (flags_for l) (rest_for l)))))
