-- Looking up by a number.
use Rattle.std.specs.Prelude.{ℕ, Bool, false, cond, ◌&&◌, List, [], ◌∷◌, ℤ, pos, negsuc, Some, None, Option, ◌==◌, nat_le}

-- what stands beside a number in a list of pairs
abbrev pub beside : {A : Type 0} → List (ℕ × A) → ℕ → Option A
beside [] n = None
beside (r ∷ rs) n = cond (n == r.0) (Some r.1) (beside rs n)

abbrev pub is : ℤ → ℕ → Bool
is (pos n) k = n == k
is (negsuc n) k = false

-- the same for a signed number
abbrev pub beside_z : {A : Type 0} → List (ℕ × A) → ℤ → Option A
beside_z [] n = None
beside_z (r ∷ rs) n = cond (is n r.0) (Some r.1) (beside_z rs n)

-- a signed number, where it lies between two bounds
abbrev pub between : ℕ → ℕ → ℤ → Option ℕ
between low high (pos n) = cond (nat_le low n && nat_le n high) (Some n) None
between low high (negsuc n) = None
