-- The joined data is below 2^52 bytes wherever a chain is accepted: 7 bounds the file, and so each block, and 9 how many there are.
use mathlib.Core.Path.{◌≡◌, refl, sym, subst, ◌∙◌}
use mathlib.Core.List.{List}
use Prim.Native.Nat.{ℕ, ◌^◌, ◌≤◌, ◌<◌}
use native.Mathlib.Omega.{arith}
use lib.ListN.{length}
use lib.Dec.{ltb}
use borrow.Author.Tests.{ltb-false}
use contract.Lifetimes.{Lfts}
use Rattle.std.specs.Prelude.{Result}
use Rattle.definitions.specs.Reply.{Reply, answer, refusal}
use Rattle.definitions.specs.Chain.{Block, id_dt, file_limit, joined, chain_of, length_by, data_length}
use Rattle.definitions.specs.Accepted.{Accepted}
use Rattle.refusals.specs.declared.Refusal.{Refusal}
use Rattle.places.specs.declared.place.FileAddress.{FileAddress}
use Rattle.places.proofs.Answers.{passed}
use Rattle.chain.specs.Meaning.{chain_reply}
use Rattle.places.specs.declared.place.DataPosition.{DataPosition}
use Rattle.chain.proofs.Chains.{joined_length, data_bound, chain_stands}
use Rattle.records.proofs.Records.{whole}
use Rattle.replies.specs.Values.{length_c}
use Rattle.replies.specs.declared.fetches.Mf4LengthReply.{Mf4LengthReply}
use Rattle.mf4.specs.Clauses.{Slice}
use Rattle.theorems.specs.Clauses.{ReadsLength}
use Rattle.theorems.specs.ClausesToC.{ReadsLengthC}
use Rattle.theorems.proofs.Chains.AcceptedChains.{accepts}

-- of the chain as it is walked, and as `Accepted` describes it
pub joined_below : (id f : List ℕ) (start : ℕ) (bs : List Block) → length f ≤ file_limit → chain_of id f start ≡ answer bs → length (joined f bs) < 2 ^ 52
joined_below id f start bs short e =
    let s = chain_stands id f start bs e in
    omega (arith, joined_length f bs s.inside, data_bound f bs short s)

pub accepted_below : (id f : List ℕ) (start : ℕ) (bs : List Block) → length f ≤ file_limit → Accepted id f start bs → length (joined f bs) < 2 ^ 52
accepted_below id f start bs short h = joined_below id f start bs short (accepts id f start bs h)

-- the length that is told, in whatever file
pub length_below : (id f : List ℕ) (start n : ℕ) → length_by id f start ≡ answer n → n < 2 ^ 52
length_below id f start n e =
    let short = passed (ltb file_limit (length f)) _ _ _ _ e in
    let w = whole id f start n short.1 in
    subst (λ (x : ℕ). x < 2 ^ 52) w.2 (joined_below id f start w.0 (ltb-false _ _ short.0) w.1)

-- ---- by the calls

data_length_below : (f : List ℕ) (start : ℕ) (r : Reply ℕ) → data_length f start ≡ r → (length_c r).length < 2 ^ 52
unfolding data_length
data_length_below f start (answer n) e = length_below id_dt f start n e
data_length_below f start (refusal n t) e = omega arith

pub chain_length_below : (κs : Lfts 1) (file : Slice) (start : FileAddress) (y : Result DataPosition Refusal) (n : ℕ) → ReadsLength κs file start y → chain_reply y ≡ answer n → n < 2 ^ 52
chain_length_below κs file start y n p e = data_length_below file.now start.0 (answer n) (sym p ∙ e)

-- of a chain that is refused C is told 0
pub mf4_data_length_below : (κs : Lfts 1) (file : Slice) (start : ℕ) (y : Mf4LengthReply) → ReadsLengthC κs file start y → y.length < 2 ^ 52
mf4_data_length_below κs file start y p =
    subst (λ (x : Mf4LengthReply). x.length < 2 ^ 52) (sym p) (data_length_below file.now start (data_length file.now start) refl)
