-- What a call leaves of the buffer that it is lent. Where it refuses: every byte. Where it answers: every byte behind those that it
-- reports as written. Of a fetched record's field `FetchEnds` says it, of payloads `PayloadEnds`, of a report
-- `ReportsLeft`, of a number that is written `WrittenEnds` and `WrittenValues`.
use Rattle.std.specs.Prelude.{if◌then◌else◌}
use mathlib.Core.Path.{◌≡◌, refl, sym, ap, ◌∙◌, subst}
use mathlib.Core.Bool.{Bool, true, false}
use mathlib.Core.List.{List, ◌++◌}
use Prim.Native.Nat.{ℕ, ◌+◌, ◌*◌, ◌≤◌}
use native.Mathlib.Omega.{arith}
use lib.ListN.{length, drop, length-append, length-drop}
use lib.Seq.{drop-append_seam}
use lib.Dec.{ltb}
use borrow.Author.Tests.{ltb-false}
use Rattle.definitions.specs.Reply.{Reply, Outcome, answer, refusal, told, writing, on_answer}
use Rattle.definitions.specs.Bytes.{span}
use Rattle.definitions.specs.Unicode.{Encoding, TextWritten, text_of, written_text, text_written}
use Rattle.definitions.specs.Header.{Header, header_bytes, header_written}
use Rattle.definitions.specs.DataList.{Lengths, list_bytes, list_size, flags_for, rest_for, unwritable, list_written}
use Rattle.definitions.specs.ChannelBlock.{ChannelBlock, channel_bytes, channel_written}
use Rattle.definitions.specs.Chain.{Block, id_dt, file_limit, joined, chain_of, bad_size, record_of, fetched}
use Rattle.definitions.proofs.Replies.{not_answered}
use Rattle.words.proofs.Spans.{length_span}
use Rattle.blocks.proofs.Headers.{length_header}
use Rattle.blocks.proofs.Writes.{length_list}
use Rattle.channels.proofs.Channels.{length_channel}
use Rattle.places.proofs.Answers.{answered}
use Rattle.theorems.proofs.Calls.Answers.{size_fits}

-- the buffer is as long as before, and nothing changed behind its first n bytes
pub record SameBehind (n : ℕ) (before after : List ℕ) : Type 0 where
  pub long : length after ≡ length before
  pub behind : drop n after ≡ drop n before

pub untouched : (n : ℕ) (before after : List ℕ) → after ≡ before → SameBehind n before after
untouched n before after e = record { long = ap length e; behind = ap (drop n) e }

-- bytes at the front, and the rest as before
pub front_laid : (front out : List ℕ) (n : ℕ) → length front ≡ n → n ≤ length out → SameBehind n out (front ++ drop n out)
front_laid front out n e l = record {
  long = omega (arith, length-append front (drop n out), length-drop n out);
  behind = ap (λ (k : ℕ). drop k (front ++ drop n out)) (sym e) ∙ drop-append_seam front (drop n out);
}

-- of an outcome whose answers report `count` bytes
pub record Leaves {A : Type 0} (count : A → ℕ) (out : List ℕ) (o : Outcome A) : Type 0 where
  pub refused : (n t : ℕ) → o.reply ≡ refusal n t → o.buffer ≡ out
  pub answers : (a : A) → o.reply ≡ answer a → SameBehind (count a) out o.buffer

module _ {A : Type 0} (count : A → ℕ) (out : List ℕ) where
  refusing : (n t : ℕ) → Leaves count out (record { reply = refusal n t; buffer = out })
  refusing n t = record { refused = λ m s e. refl; answers = λ a e. not_answered a n t e }

  pub answering : (a : A) (front : List ℕ) (n : ℕ) → count a ≡ n → length front ≡ n → n ≤ length out
      → Leaves count out (record { reply = answer a; buffer = front ++ drop n out })
  answering a front n c e l = record {
    refused = λ m s q. not_answered a m s (sym q);
    answers = λ b q. subst (λ (k : ℕ). SameBehind k out (front ++ drop n out)) (sym c ∙ ap count (answered q)) (front_laid front out n e l);
  }

  -- behind a test that refuses
  pub tested : (b t : Bool) (n m : ℕ) (o : Outcome A) → t ≡ b → (t ≡ false → Leaves count out o)
      → Leaves count out (if b then record { reply = refusal n m; buffer = out } else o)
  tested true t n m o e h = refusing n m
  tested false t n m o e h = h e

  writing_leaves : (bytes : List ℕ) (a : A) → count a ≡ length bytes → Leaves count out (writing out bytes a)
  writing_leaves bytes a c =
      tested (ltb (length out) (length bytes)) _ 6 (told (length bytes)) _ refl
      (λ h. answering a bytes (length bytes) c refl (ltb-false _ _ h))

-- the bytes that a block reports, and a text
abbrev pub itself : ℕ → ℕ
itself n = n

abbrev pub count_of : TextWritten → ℕ
count_of t = t.count

module _ (out : List ℕ) where
  pub header_leaves : (h : Header) → Leaves itself out (header_written out h)
  unfolding header_written
  header_leaves h = writing_leaves itself out (header_bytes h) 24 (sym (length_header h))

  pub channel_leaves : (b : ChannelBlock) → Leaves itself out (channel_written out b)
  unfolding channel_written
  channel_leaves b = writing_leaves itself out (channel_bytes b) 160 (sym (length_channel b))

  pub list_leaves : (next : ℕ) (links : List ℕ) (l : Lengths) → Leaves itself out (list_written out next links l)
  unfolding list_written
  list_leaves next links l =
      let size : list_size (length links) (length (rest_for l)) ≡ length (list_bytes next links (flags_for l) (rest_for l)) =
      omega (arith, length_list next links (flags_for l) (rest_for l)) in
      tested itself out (unwritable (length links) l) _ 5 0 _ refl
      (λ h. writing_leaves itself out (list_bytes next links (flags_for l) (rest_for l)) (list_size (length links) (length (rest_for l))) size)

  pub text_leaves : (e : Encoding) (s : List ℕ) → Leaves count_of out (text_written out e s)
  unfolding text_written written_text
  text_leaves e s = writing_leaves count_of out (text_of e s).bytes _ refl

  -- a record is `size` bytes
  record_leaves : (j : List ℕ) (k size : ℕ) → size ≤ length out → Leaves (λ u. size) out (record_of j k size out)
  unfolding record_of
  record_leaves j k size room =
      tested (λ u. size) out (ltb (length j) (k * size + size)) _ 16 0 _ refl
      (λ h. answering (λ u. size) out tt (span j (k * size) size) size refl (length_span j (k * size) size (ltb-false _ _ h)) room)

  on_blocks : (size : ℕ) (r : Reply (List Block)) (f : List Block → Outcome (Unit {0})) → ((bs : List Block) → Leaves (λ u. size) out (f bs))
      → Leaves (λ u. size) out (on_answer r f out)
  on_blocks size (answer bs) f h = h bs
  on_blocks size (refusal n t) f h = refusing (λ u. size) out n t

  pub fetch_leaves : (f : List ℕ) (start k size : ℕ) → Leaves (λ u. size) out (fetched f start k size out)
  unfolding fetched
  fetch_leaves f start k size =
      tested (λ u. size) out (bad_size size (length out)) _ 15 0 _ refl
      (λ h. tested (λ u. size) out (ltb file_limit (length f)) _ 7 0 _ refl
      (λ g. on_blocks size (chain_of id_dt f start) _ (λ bs. record_leaves (joined f bs) k size (size_fits size (length out) h).2)))
