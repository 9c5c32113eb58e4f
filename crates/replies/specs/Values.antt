-- Values and records as C sees them.
use Rattle.std.specs.Prelude.{ℕ, ◌-◌, Bool, ℤ, pos, negsuc}
use Rattle.definitions.specs.Reply.{Reply, answer, refusal}
use Rattle.definitions.specs.Payload.{PayloadValue}
use Rattle.definitions.specs.Channel.{Group, Value, ValidValue, unsigned, signed, double, text, bytes, sample, stream, unknown_value}
use Rattle.replies.specs.Replies.{flag_c}
use Rattle.replies.specs.declared.group.Mf4Group.{Mf4Group}
use Rattle.replies.specs.declared.values.Shown.{Shown}
use Rattle.replies.specs.declared.values.Mf4ValueReply.{Mf4ValueReply}
use Rattle.replies.specs.declared.valid_values.Mf4ValidValueReply.{Mf4ValidValueReply}
use Rattle.replies.specs.declared.validity.Mf4ValidityReply.{Mf4ValidityReply}
use Rattle.replies.specs.declared.fetches.Mf4LengthReply.{Mf4LengthReply}
use Rattle.replies.specs.declared.payload.Mf4PayloadReply.{Mf4PayloadReply}

-- the group that C gives
abbrev pub group_given : Mf4Group → Group
group_given g = record {
  id_size = g.record_id_size;
  data_bytes = g.data_bytes;
  invalidation_bytes = g.invalidation_bytes;
}

-- an integer as a word of 64 bits, in two's complement
abbrev pub word_of : ℤ → ℕ
word_of (pos n) = n
word_of (negsuc k) = 18446744073709551615 - k

-- a number in one word, and bytes by their place and length
abbrev pub number_c : ℕ → ℕ → Shown
number_c kind word = record { kind = kind; number = word; at = 0; length = 0 }

abbrev pub place_c : ℕ → ℕ → ℕ → Shown
place_c kind at n = record { kind = kind; number = 0; at = at; length = n }

-- the kinds from 1 on
abbrev pub decoded_c : Value → Shown
decoded_c (unsigned n) = number_c 1 n
decoded_c (signed z) = number_c 2 (word_of z)
decoded_c (double x pattern) = number_c 3 pattern
decoded_c (text at n) = place_c 4 at n
decoded_c (bytes at n) = place_c 5 at n
decoded_c (sample at n) = place_c 6 at n
decoded_c (stream at n) = place_c 7 at n
decoded_c unknown_value = place_c 8 0 0

-- what was decoded, in a reply of 0
abbrev pub answer_c : Shown → Mf4ValueReply
answer_c d = record { reply = 0; told = 0; kind = d.kind; number = d.number; at = d.at; length = d.length }

-- a refusal has kind 0
abbrev pub value_c : Reply Value → Mf4ValueReply
value_c (answer v) = answer_c (decoded_c v)
value_c (refusal n t) = record { reply = n; told = t; kind = 0; number = 0; at = 0; length = 0 }

abbrev pub valid_answer_c : Shown → ℕ → Mf4ValidValueReply
valid_answer_c d valid =
    record { reply = 0; told = 0; kind = d.kind; number = d.number; at = d.at; length = d.length; is_valid = valid }

abbrev pub valid_value_c : Reply ValidValue → Mf4ValidValueReply
valid_value_c (answer v) = valid_answer_c (decoded_c v.value) (flag_c v.valid)
valid_value_c (refusal n t) = record { reply = n; told = t; kind = 0; number = 0; at = 0; length = 0; is_valid = 0 }

abbrev pub validity_c : Reply Bool → Mf4ValidityReply
validity_c (answer valid) = record { reply = 0; told = 0; is_valid = flag_c valid }
validity_c (refusal n t) = record { reply = n; told = t; is_valid = 0 }

-- ---- records

abbrev pub length_c : Reply ℕ → Mf4LengthReply
length_c (answer n) = record { reply = 0; told = 0; length = n }
length_c (refusal n t) = record { reply = n; told = t; length = 0 }

-- ---- payloads

abbrev pub payload_answer_c : ℕ → Shown → ℕ → Mf4PayloadReply
payload_answer_c size d valid = record {
  reply = 0;
  kind = d.kind;
  told = 0;
  number = d.number;
  at = d.at;
  length = d.length;
  payload_length = size;
  is_valid = valid;
}

abbrev pub payload_c : Reply PayloadValue → Mf4PayloadReply
payload_c (answer v) = payload_answer_c v.size (decoded_c v.value) (flag_c v.valid)
payload_c (refusal n t) =
    record { reply = n; told = t; kind = 0; number = 0; at = 0; length = 0; payload_length = 0; is_valid = 0 }
