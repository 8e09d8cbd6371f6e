-- Characters of three and of four bytes, by the bytes behind the lead byte.
use Rattle.std.proofs.Common.{◌≡◌, ℕ, ◌-◌, ◌<◌, ◌≤◌, true, false, ◌&&◌, List, [], ◌∷◌, length, get_or, take, drop, sym, refl, ap, ◌∙◌, arith}
use Rattle.std.proofs.lemmas.List.{take_rest}
use Rattle.std.proofs.lemmas.Bool.Decides.{nat_tests}
use Rattle.texts.proofs.Leads.{lead3, lead4, past3, past4}
use Rattle.texts.specs.Utf8.{well_formed, after2, after3, after4, tail, second3, second4}

three : (a : ℕ) (xs : List ℕ) → 1 < length xs → 0xe0 ≤ a → a ≤ 0xef → second3 a (get_or xs 0 0) ≡ true → tail (get_or xs 1 0) ≡ true → well_formed (a ∷ xs) ≡ well_formed (drop 2 xs)
three a [] h l u k t = absurd (omega arith)
three a (b ∷ []) h l u k t = absurd (omega arith)
three a (b ∷ c ∷ r) h l u k t = lead3 a (b ∷ c ∷ r) l u ∙ past3 a b c r k t

four : (a : ℕ) (xs : List ℕ) → 2 < length xs → 0xf0 ≤ a → a ≤ 0xf4 → second4 a (get_or xs 0 0) ≡ true → tail (get_or xs 1 0) ≡ true → tail (get_or xs 2 0) ≡ true → well_formed (a ∷ xs) ≡ well_formed (drop 3 xs)
four a [] h l u k t s = absurd (omega arith)
four a (b ∷ []) h l u k t s = absurd (omega arith)
four a (b ∷ c ∷ []) h l u k t s = absurd (omega arith)
four a (b ∷ c ∷ d ∷ r) h l u k t s = lead4 a (b ∷ c ∷ d ∷ r) l u ∙ past4 a b c d r k t s

-- what follows, as a pattern has it
pub behind_three : (a : ℕ) (xs : List ℕ) → 1 < length xs → 0xe0 ≤ a → a ≤ 0xef → second3 a (get_or xs 0 0) ≡ true → tail (get_or xs 1 0) ≡ true → well_formed (a ∷ xs) ≡ well_formed (take (length xs - 2) (drop 2 xs))
behind_three a xs h l u k t = three a xs h l u k t ∙ ap well_formed (sym (take_rest xs 2))

pub behind_four : (a : ℕ) (xs : List ℕ) → 2 < length xs → 0xf0 ≤ a → a ≤ 0xf4 → second4 a (get_or xs 0 0) ≡ true → tail (get_or xs 1 0) ≡ true → tail (get_or xs 2 0) ≡ true → well_formed (a ∷ xs) ≡ well_formed (take (length xs - 3) (drop 3 xs))
behind_four a xs h l u k t s = four a xs h l u k t s ∙ ap well_formed (sym (take_rest xs 3))

-- no character begins: the lead byte is none, or what follows does not go on with it
pub record Broken (a : ℕ) (xs : List ℕ) : Type 0 where
  pub one : 0x80 ≤ a
  pub two : 0xc2 ≤ a → a ≤ 0xdf → 0 < length xs → tail (get_or xs 0 0) ≡ false
  pub three : 0xe0 ≤ a → a ≤ 0xef → 1 < length xs → second3 a (get_or xs 0 0) && tail (get_or xs 1 0) ≡ false
  pub four : 0xf0 ≤ a → a ≤ 0xf4 → 2 < length xs → second4 a (get_or xs 0 0) && (tail (get_or xs 1 0) && tail (get_or xs 2 0)) ≡ false

no_lead : (a : ℕ) (xs : List ℕ) → 0x80 ≤ a → (0xc2 ≤ a → a ≤ 0xdf → after2 xs ≡ false) → (0xe0 ≤ a → a ≤ 0xef → after3 a xs ≡ false) → (0xf0 ≤ a → a ≤ 0xf4 → after4 a xs ≡ false) → well_formed (a ∷ xs) ≡ false
no_lead a xs one two three four = grind (arith, nat_tests)

pub broken : (a : ℕ) (xs : List ℕ) → Broken a xs → well_formed (a ∷ xs) ≡ false
broken a [] k = no_lead a [] k.one (λ l u. refl) (λ l u. refl) (λ l u. refl)
broken a (b ∷ []) k = no_lead a (b ∷ []) k.one (λ l u. rw (k.two l u (omega arith), after2)) (λ l u. refl) (λ l u. refl)
broken a (b ∷ c ∷ []) k = no_lead a (b ∷ c ∷ []) k.one (λ l u. rw (k.two l u (omega arith), after2)) (λ l u. rw (k.three l u (omega arith), after3)) (λ l u. refl)
broken a (b ∷ c ∷ d ∷ r) k = no_lead a (b ∷ c ∷ d ∷ r) k.one (λ l u. rw (k.two l u (omega arith), after2)) (λ l u. rw (k.three l u (omega arith), after3)) (λ l u. rw (k.four l u (omega arith), after4))
