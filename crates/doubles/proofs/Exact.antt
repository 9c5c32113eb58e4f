-- An integer of at most 53 digits comes through exactly: `exact`, and `all_kept` of what rounding keeps.
use mathlib.Core.Path.{◌≡◌, sym, subst}
use mathlib.Core.Bool.{Bool, false}
use Prim.Native.Nat.{ℕ, ◌*◌, ◌^◌, ◌≤◌}
use native.Mathlib.Nat.{mul-one, zero-lt-suc, lt_of_le_of_lt}
use lib.Dec.{lit<}
use lib.Ieee.{Float, binary64, round, of_bits}
use lib.Ieee.Exact.{HasValue}
use lib.Ieee.Back.{round_whole}
use Rattle.definitions.specs.Ieee754.{unit, double_of_sign}
use Rattle.doubles.proofs.Pattern.{one_size, rescale}
use Rattle.doubles.proofs.Whole.{dropped, kept, value_kept, read_back}

pub exact : (s : Bool) (n : ℕ) → n ≤ 2 ^ 53 → HasValue (of_bits binary64 (double_of_sign s n)) s n 1
exact s n h = subst (λ (v : Float). HasValue v s n 1) (sym (read_back s n)) (round_whole binary64 s n h)

pub all_kept : (n : ℕ) → n ≤ 2 ^ 53 → kept (n * unit) * 2 ^ dropped (n * unit) ≡ n * unit
all_kept n h =
    let N : ℕ = n * unit in
    let v : Float = round binary64 false n 1 in
    let whole : HasValue v false N unit = rescale v false n 1 N unit (zero-lt-suc 0) (mul-one N) (round_whole binary64 false n h) in
    one_size v false false (kept N * 2 ^ dropped N) N unit (value_kept false n (lt_of_le_of_lt h (lit< tt))) whole
