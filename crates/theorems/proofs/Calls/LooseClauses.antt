-- What `Sole` asks is not met by a clause that leaves something open: a call is not settled whose clause says nothing of a lent
-- buffer, or nothing of the result, or that asks something of its caller.
use mathlib.Core.Path.{◌≡◌, refl, ap}
use mathlib.Core.List.{[], ◌∷◌}
use Prim.Native.Nat.{ℕ}
use native.Mathlib.Omega.{arith}
use contract.Lifetimes.{Lfts}
use borrow.Fn.Kinds.{In, Out}
use lib.ListN.{length}
use Rattle.std.specs.Prelude.{Result}
use Rattle.refusals.specs.declared.Refusal.{Refusal}
use Rattle.blocks.specs.declared.header.BlockHeader.{BlockHeader}
use Rattle.data_types.specs.declared.data_type.DataType.{DataType}
use Rattle.blocks.proofs.header.BlockHeader.to_bytes.Kinds as header_write
use Rattle.data_types.proofs.data_type.DataType.to_u8.Kinds as type_code
use Rattle.mf4.specs.Clauses.{Room}
use Rattle.theorems.specs.Sole.{Clause, Settled}

-- of a call that is lent a buffer, with the kinds of BlockHeader::to_bytes: the result is y, and the buffer may hold anything
abbrev only_result : Result ℕ Refusal → Out 1 header_write.ps header_write.r
only_result y κs a x e = x ≡ y

pub buffer_open : (asked : In 1 header_write.ps) (ensures : Clause 1 header_write.ps header_write.r) (κs : Lfts 1) (header : BlockHeader) (out : Room) (y : Result ℕ Refusal)
    → Settled 1 header_write.ps header_write.r asked ensures (only_result y) → ⊥
buffer_open asked ensures κs header out y h =
    let one = h.sole κs (header, (out, tt)) y y (tt, ([], tt)) (tt, (0 ∷ [], tt)) refl refl in
    let no : ◌≡◌ {A = ℕ} 0 1 = ap (λ b. length b.1.0) one.1 in omega arith

-- of one that gives a number, with the kinds of DataType::to_u8: any result is allowed
abbrev nothing_said : Out 0 type_code.ps type_code.r
nothing_said κs a x e = Unit {0}

pub result_open : (asked : In 0 type_code.ps) (ensures : Clause 0 type_code.ps type_code.r) (κs : Lfts 0) (type : DataType)
    → Settled 0 type_code.ps type_code.r asked ensures nothing_said → ⊥
result_open asked ensures κs type h =
    let one = h.sole κs (type, tt) 0 1 (tt, tt) (tt, tt) tt tt in
    let no : ◌≡◌ {A = ℕ} 0 1 = one.0 in omega arith

-- of one that no caller may make
abbrev not_to_be_met : In 0 type_code.ps
not_to_be_met κs a = ⊥

pub caller_asked : (ensures : Clause 0 type_code.ps type_code.r) (learnt : Out 0 type_code.ps type_code.r) (κs : Lfts 0) (type : DataType)
    → Settled 0 type_code.ps type_code.r not_to_be_met ensures learnt → ⊥
caller_asked ensures learnt κs type h = h.free κs (type, tt)
