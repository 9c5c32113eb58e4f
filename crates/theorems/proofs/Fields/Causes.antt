-- When each of 18 to 22 is given, and of 28 and 29, exactly, and that there is no other reply without a value.
use mathlib.Core.Path.{◌≡◌}
use mathlib.Core.Bool.{Bool, true, ◌&&◌}
use mathlib.Core.List.{List}
use Prim.Native.Nat.{ℕ, ◌*◌}
use lib.ListN.{length}
use lib.Dec.{ltb, eqb}
use Rattle.std.specs.Bool.{Decides}
use Rattle.std.proofs.lemmas.Bool.Decides.{Decides-ltb, Decides-eqb, Decides-and, Decides-not}
use Rattle.definitions.specs.DataType.{Kind, kind_of}
use Rattle.definitions.specs.Channel.{Channel, Group, is_integer, is_floating, is_number, value_by, value_of, valid_of, valid_value_of, record_length, has_invalidation_bit, area_of, bounded_valid_of, bounded_value_of}
use Rattle.theorems.proofs.Calls.Answers.{value_exactly, valid_value_exactly, bounded_valid_exactly, bounded_value_exactly}
use Rattle.theorems.proofs.Calls.TestsInTurn.{tests_no_less, tests_true, tests_neither, tested, last_tested, going_on, made_of}
use Rattle.theorems.specs.Refused.{RefusedExactly}
use Rattle.theorems.specs.Causes.{needed, field_refused, area_refused, FieldReplies, ValidityReplies, BoundedReplies}

module _ (s : List ℕ) (id_size : ℕ) (c : Channel) where
  abbrev k : Kind
  k = kind_of c.data_type

  -- of a kind's fields alone
  of_kind_law : {P : Type 0} (a b : Bool) → Decides b P → Decides (a && b) ((a ≡ true) × P)
  of_kind_law a b t = Decides-and a b (tests_true a) t

  value_refused : RefusedExactly (field_refused s id_size c) (value_of s id_size c)
  unfolding value_of value_by
  value_refused =
      tested _ 18 0 _ (of_kind_law (is_number k) (eqb c.bit_count 0) (Decides-eqb c.bit_count 0))
      (tested _ 19 0 _ (of_kind_law (is_number k) (ltb 7 c.bit_offset) (Decides-ltb 7 c.bit_offset))
      (tested _ 20 0 _ (of_kind_law (is_integer k) (ltb 64 c.bit_count) (Decides-ltb 64 c.bit_count))
      (tested _ 21 _ _ (Decides-ltb (length s) (needed s id_size c))
      (last_tested _ 22 0 _ (of_kind_law (is_floating k) _ (tests_neither (eqb c.bit_count 32) (eqb c.bit_count 64) (Decides-eqb c.bit_count 32) (Decides-eqb c.bit_count 64)))))))

  pub value_replies : FieldReplies s id_size c (value_of s id_size c)
  value_replies = record { answers = value_exactly s id_size c; refusals = value_refused }

pub valid_value_replies : (s : List ℕ) (g : Group) (c : Channel) → FieldReplies s g.id_size c (valid_value_of s g c)
unfolding valid_value_of
valid_value_replies s g c = record {
  answers = valid_value_exactly s g c;
  refusals = made_of _ (value_of s g.id_size c) (value_replies s g.id_size c).refusals;
}

-- ---- validity, where the invalidation bytes have an end

pub area_refused_law : (n : ℕ) (g : Group) (c : Channel) → RefusedExactly (area_refused n g c) (area_of n g c)
unfolding area_of
area_refused_law n g c =
    let tells = has_invalidation_bit c in
    tested _ 28 0 _ (Decides-not (eqb n (record_length g)) (Decides-eqb n (record_length g)))
    (last_tested _ 29 0 tt (Decides-and tells _ (tests_true tells) (tests_no_less c.invalidation_bit (8 * g.invalidation_bytes))))

module _ (s : List ℕ) (g : Group) (c : Channel) where
  pub bounded_valid_replies : ValidityReplies (length s) g c (bounded_valid_of s g c)
  unfolding bounded_valid_of
  bounded_valid_replies = record {
    answers = bounded_valid_exactly s g c;
    refusals = made_of (λ u. valid_of s g c) (area_of (length s) g c) (area_refused_law (length s) g c);
  }

  pub bounded_value_replies : BoundedReplies s g c (bounded_value_of s g c)
  unfolding bounded_value_of
  bounded_value_replies = record {
    answers = bounded_value_exactly s g c;
    refusals = going_on (value_of s g.id_size c) _ (value_replies s g.id_size c).refusals
        (λ v e. made_of _ (bounded_valid_of s g c) bounded_valid_replies.refusals);
  }
