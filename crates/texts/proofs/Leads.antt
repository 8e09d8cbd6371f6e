-- What the definition of well-formed text says by the lead byte of a character, and behind it.
use Rattle.std.proofs.Common.{◌≡◌, ℕ, ◌≤◌, true, false, List, ◌∷◌, ap, arith}
use Rattle.std.proofs.lemmas.Bool.Decides.{nat_tests}
use Rattle.texts.specs.Utf8.{tail, second3, second4, well_formed, after2, after3, after4}

pub lead1 : (a : ℕ) (r : List ℕ) → a ≤ 0x7f → well_formed (a ∷ r) ≡ well_formed r
lead1 a r h = grind (arith, nat_tests)

pub lead2 : (a : ℕ) (r : List ℕ) → 0xc2 ≤ a → a ≤ 0xdf → well_formed (a ∷ r) ≡ after2 r
lead2 a r l h = grind (arith, nat_tests)

pub lead3 : (a : ℕ) (r : List ℕ) → 0xe0 ≤ a → a ≤ 0xef → well_formed (a ∷ r) ≡ after3 a r
lead3 a r l h = grind (arith, nat_tests)

pub lead4 : (a : ℕ) (r : List ℕ) → 0xf0 ≤ a → a ≤ 0xf4 → well_formed (a ∷ r) ≡ after4 a r
lead4 a r l h = grind (arith, nat_tests)

pub past2 : (b : ℕ) (r : List ℕ) → tail b ≡ true → after2 (b ∷ r) ≡ well_formed r
past2 b r k = ap (λ t. elim t [ true ↦ well_formed r | false ↦ false ]) k

pub past3 : (a b c : ℕ) (r : List ℕ) → second3 a b ≡ true → tail c ≡ true → after3 a (b ∷ c ∷ r) ≡ well_formed r
past3 a b c r k l = rw (k, l, after3)

pub past4 : (a b c d : ℕ) (r : List ℕ) → second4 a b ≡ true → tail c ≡ true → tail d ≡ true → after4 a (b ∷ c ∷ d ∷ r) ≡ well_formed r
past4 a b c d r k l m = rw (k, l, m, after4)
