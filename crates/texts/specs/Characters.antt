-- Text as characters, each the bits of its number in one to four bytes.
use Rattle.std.specs.Prelude.{◌≡◌, ℕ, ◌+◌, ◌*◌, Bool, true, ◌&&◌, ◌||◌, List, [], ◌∷◌, ◌++◌, nat_le}
use Rattle.texts.specs.Utf8.{within, well_formed}

-- 0xxxxxxx; 110xxxxx 10yyyyyy; 1110xxxx 10yyyyyy 10zzzzzz; 11110xxx 10yyyyyy 10zzzzzz 10wwwwww
pub data Character : Type 0 where
  one : (x : ℕ) → Character
  two : (x y : ℕ) → Character
  three : (x y z : ℕ) → Character
  four : (x y z w : ℕ) → Character

abbrev pub bytes : Character → List ℕ
bytes (one x) = x ∷ []
bytes (two x y) = (0xc0 + x) ∷ (0x80 + y) ∷ []
bytes (three x y z) = (0xe0 + x) ∷ (0x80 + y) ∷ (0x80 + z) ∷ []
bytes (four x y z w) = (0xf0 + x) ∷ (0x80 + y) ∷ (0x80 + z) ∷ (0x80 + w) ∷ []

-- the number of the character in Unicode
abbrev pub number : Character → ℕ
number (one x) = x
number (two x y) = 64 * x + y
number (three x y z) = 4096 * x + 64 * y + z
number (four x y z w) = 262144 * x + 4096 * y + 64 * z + w

-- the bits fit, and the number needs so many bytes and no fewer, is no surrogate and is at most U+10FFFF
abbrev pub proper : Character → Bool
proper (one x) = nat_le x 0x7f
proper (two x y) = nat_le y 63 && within 0x80 0x7ff (number (two x y))
proper (three x y z) = nat_le y 63 && (nat_le z 63 && (within 0x800 0xd7ff (number (three x y z)) || within 0xe000 0xffff (number (three x y z))))
proper (four x y z w) = nat_le y 63 && (nat_le z 63 && (nat_le w 63 && within 0x10000 0x10ffff (number (four x y z w))))

abbrev pub all_proper : List Character → Bool
all_proper [] = true
all_proper (c ∷ cs) = proper c && all_proper cs

abbrev pub spelling : List Character → List ℕ
spelling [] = []
spelling (c ∷ cs) = bytes c ++ spelling cs

pub record Text (bs : List ℕ) : Type 0 where
  pub characters : List Character
  pub sound : all_proper characters ≡ true
  pub spelled : spelling characters ≡ bs

-- bytes are UTF-8 exactly when they are characters one behind the other
abbrev pub Utf8IsText : Type 0
Utf8IsText = (bs : List ℕ) → (well_formed bs ≡ true → Text bs) × (Text bs → well_formed bs ≡ true)
