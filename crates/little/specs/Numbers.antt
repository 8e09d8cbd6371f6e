-- Little-endian numbers within a list of bytes.
use Rattle.std.specs.Prelude.{ℕ, ◌+◌, ◌*◌, true, false, List, [], ◌∷◌, length, take, drop, ℤ, Some, None, Option, nat_le}
use Rattle.std.proofs.Common.{◌≡◌, ◌<◌, ◌≤◌, ap, to_z}
use Rattle.std.proofs.lemmas.Bool.{le-leb, lt-leb}
use Rattle.std.specs.Int.{Width, w16, w32, w64}
use Rattle.std.specs.Option.{option_map}

-- the number that bytes spell, the lowest byte first
abbrev pub le : List ℕ → ℕ
le [] = 0
le (b ∷ bs) = b + 256 * le bs

-- the number of n bytes that begins at a place
unfoldable pub number_in : ℕ → List ℕ → ℕ → ℕ
number_in n bs at = le (take n (drop at bs))

-- a value, where n bytes from a place on are there
abbrev pub inside : {A : Type 0} → ℕ → List ℕ → ℕ → A → Option A
inside n bs at v = elim (nat_le (at + n) (length bs)) [ true ↦ Some v | false ↦ None ]

-- the unsigned number of n bytes at a place, where the bytes have it whole
unfoldable pub number_at : ℕ → List ℕ → ℕ → Option ℕ
number_at n bs at = inside n bs at (number_in n bs at)

-- the same as a signed number, in two's complement
abbrev pub signed_at : Width → ℕ → List ℕ → ℕ → Option ℤ
signed_at w n bs at = option_map (to_z w) (number_at n bs at)

abbrev pub u8_at : List ℕ → ℕ → Option ℕ
u8_at = number_at 1

abbrev pub u16_at : List ℕ → ℕ → Option ℕ
u16_at = number_at 2

abbrev pub u32_at : List ℕ → ℕ → Option ℕ
u32_at = number_at 4

abbrev pub u64_at : List ℕ → ℕ → Option ℕ
u64_at = number_at 8

abbrev pub i16_at : List ℕ → ℕ → Option ℤ
i16_at = signed_at w16 2

abbrev pub i32_at : List ℕ → ℕ → Option ℤ
i32_at = signed_at w32 4

abbrev pub i64_at : List ℕ → ℕ → Option ℤ
i64_at = signed_at w64 8

-- what is there where its bytes are, and only there
pub inside_whole : {A : Type 0} (n : ℕ) (bs : List ℕ) (at : ℕ) (v : A) → at + n ≤ length bs → inside n bs at v ≡ Some v
inside_whole n bs at v h = rw (le-leb (at + n) (length bs) h, inside)

pub inside_cut : {A : Type 0} (n : ℕ) (bs : List ℕ) (at : ℕ) (v : A) → length bs < at + n → inside n bs at v ≡ None
inside_cut n bs at v h = rw (lt-leb (at + n) (length bs) h, inside)

pub number_inside : (n : ℕ) (bs : List ℕ) (at : ℕ) → at + n ≤ length bs → number_at n bs at ≡ Some (number_in n bs at)
unfolding number_at
number_inside n bs at h = inside_whole n bs at (number_in n bs at) h

pub number_outside : (n : ℕ) (bs : List ℕ) (at : ℕ) → length bs < at + n → number_at n bs at ≡ None
unfolding number_at
number_outside n bs at h = inside_cut n bs at (number_in n bs at) h

pub signed_inside : (w : Width) (n : ℕ) (bs : List ℕ) (at : ℕ) → at + n ≤ length bs → signed_at w n bs at ≡ Some (to_z w (number_in n bs at))
signed_inside w n bs at h = ap (option_map (to_z w)) (number_inside n bs at h)

pub signed_outside : (w : Width) (n : ℕ) (bs : List ℕ) (at : ℕ) → length bs < at + n → signed_at w n bs at ≡ None
signed_outside w n bs at h = ap (option_map (to_z w)) (number_outside n bs at h)
