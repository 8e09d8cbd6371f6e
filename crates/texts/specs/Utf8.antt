-- UTF-8 by the table of RFC 3629, section 4: one row for each shape of a character.
use Rattle.std.specs.Prelude.{ℕ, Bool, true, false, ◌&&◌, ◌||◌, List, [], ◌∷◌, ◌==◌, nat_le}

abbrev pub within : ℕ → ℕ → ℕ → Bool
within lo hi x = nat_le lo x && nat_le x hi

-- a byte that goes on with a character
abbrev pub tail : ℕ → Bool
tail x = within 0x80 0xbf x

-- the second byte of a character of three bytes under the lead byte a: none in more bytes than it needs, no surrogates
abbrev pub second3 : ℕ → ℕ → Bool
second3 a b = (a == 0xe0 && within 0xa0 0xbf b) || ((within 0xe1 0xec a && tail b) || ((a == 0xed && within 0x80 0x9f b) || (within 0xee 0xef a && tail b)))

-- the same for four bytes: none above U+10FFFF
abbrev pub second4 : ℕ → ℕ → Bool
second4 a b = (a == 0xf0 && within 0x90 0xbf b) || ((within 0xf1 0xf3 a && tail b) || (a == 0xf4 && within 0x80 0x8f b))

abbrev mutual
  -- one character after the other, by the lead byte of each
  pub well_formed : List ℕ → Bool
  well_formed [] = true
  well_formed (a ∷ r) =
      elim (nat_le a 0x7f) [
        | true ↦ well_formed r
        | false ↦
            elim (within 0xc2 0xdf a) [
              | true ↦ after2 r
              | false ↦
                  elim (within 0xe0 0xef a) [
                    | true ↦ after3 a r
                    | false ↦
                        elim (within 0xf0 0xf4 a) [ true ↦ after4 a r | false ↦ false ]
                  ]
            ]
      ]

  pub after2 : List ℕ → Bool
  after2 [] = false
  after2 (b ∷ r) = elim (tail b) [ true ↦ well_formed r | false ↦ false ]

  pub after3 : ℕ → List ℕ → Bool
  after3 a [] = false
  after3 a (b ∷ []) = false
  after3 a (b ∷ c ∷ r) = elim (second3 a b && tail c) [ true ↦ well_formed r | false ↦ false ]

  pub after4 : ℕ → List ℕ → Bool
  after4 a [] = false
  after4 a (b ∷ []) = false
  after4 a (b ∷ c ∷ []) = false
  after4 a (b ∷ c ∷ d ∷ r) = elim (second4 a b && (tail c && tail d)) [ true ↦ well_formed r | false ↦ false ]
