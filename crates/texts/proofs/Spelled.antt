-- Characters one behind the other are UTF-8.
use Rattle.std.proofs.Common.{◌≡◌, ℕ, ◌+◌, ◌*◌, ◌≤◌, true, leb, List, [], ◌∷◌, ◌++◌, sym, refl, ap, ◌∙◌, arith}
use Rattle.std.proofs.lemmas.Bool.{and_parts, leb-true, le-leb}
use Rattle.std.proofs.lemmas.Bool.Decides.{nat_tests}
use Rattle.texts.specs.Utf8.{within, tail, second3, second4, well_formed}
use Rattle.texts.proofs.Leads.{lead1, lead2, lead3, lead4, past2, past3, past4}
use Rattle.texts.specs.Characters.{Character, one, two, three, four, bytes, number, proper, all_proper, spelling, Text}

pub within_has : (lo hi x : ℕ) → lo ≤ x → x ≤ hi → within lo hi x ≡ true
within_has lo hi x l h = rw (within, le-leb lo x l, le-leb x hi h)

pub within_tells : (lo hi x : ℕ) → within lo hi x ≡ true → (lo ≤ x) × (x ≤ hi)
within_tells lo hi x e = let p = and_parts (leb lo x) (leb x hi) e in (leb-true lo x p.0, leb-true x hi p.1)

pub second3_has : (a b : ℕ) → 0xe0 ≤ a → a ≤ 0xef → 0x80 ≤ b → b ≤ 0xbf → (a ≡ 0xe0 → 0xa0 ≤ b) → (a ≡ 0xed → b ≤ 0x9f) → second3 a b ≡ true
second3_has a b al ah bl bh first last = grind (arith, nat_tests)

pub second4_has : (a b : ℕ) → 0xf0 ≤ a → a ≤ 0xf4 → 0x80 ≤ b → b ≤ 0xbf → (a ≡ 0xf0 → 0x90 ≤ b) → (a ≡ 0xf4 → b ≤ 0x8f) → second4 a b ≡ true
second4_has a b al ah bl bh first last = grind (arith, nat_tests)

tail_has : (y : ℕ) → y ≤ 63 → tail (0x80 + y) ≡ true
tail_has y h = within_has 0x80 0xbf (0x80 + y) (omega arith) (omega arith)

two_read : (x y : ℕ) (r : List ℕ) → y ≤ 63 → 0x80 ≤ 64 * x + y → 64 * x + y ≤ 0x7ff → well_formed (bytes (two x y) ++ r) ≡ well_formed r
two_read x y r h lo hi = lead2 (0xc0 + x) ((0x80 + y) ∷ r) (omega arith) (omega arith) ∙ past2 (0x80 + y) r (tail_has y h)

three_read : (x y z : ℕ) (r : List ℕ) → y ≤ 63 → z ≤ 63 → 0x800 ≤ 4096 * x + 64 * y + z → 4096 * x + 64 * y + z ≤ 0xffff → (x ≡ 13 → y ≤ 31) → well_formed (bytes (three x y z) ++ r) ≡ well_formed r
three_read x y z r hy hz lo hi ed =
    lead3 (0xe0 + x) ((0x80 + y) ∷ (0x80 + z) ∷ r) (omega arith) (omega arith)
    ∙ past3 (0xe0 + x) (0x80 + y) (0x80 + z) r
    (second3_has (0xe0 + x) (0x80 + y) (omega arith) (omega arith) (omega arith) (omega arith) (λ e. omega (arith, e)) (λ e. let k = ed (omega (arith, e)) in omega (arith, k)))
    (tail_has z hz)

four_read : (x y z w : ℕ) (r : List ℕ) → y ≤ 63 → z ≤ 63 → w ≤ 63 → 0x10000 ≤ number (four x y z w) → number (four x y z w) ≤ 0x10ffff → well_formed (bytes (four x y z w) ++ r) ≡ well_formed r
four_read x y z w r hy hz hw lo hi =
    lead4 (0xf0 + x) ((0x80 + y) ∷ (0x80 + z) ∷ (0x80 + w) ∷ r) (omega arith) (omega arith)
    ∙ past4 (0xf0 + x) (0x80 + y) (0x80 + z) (0x80 + w) r
    (second4_has (0xf0 + x) (0x80 + y) (omega arith) (omega arith) (omega arith) (omega arith) (λ e. omega (arith, e)) (λ e. omega (arith, e)))
    (tail_has z hz)
    (tail_has w hw)

-- a proper character at the front leaves the question to what follows
read : (c : Character) (r : List ℕ) → proper c ≡ true → well_formed (bytes c ++ r) ≡ well_formed r
read (one x) r e = lead1 x r (leb-true x 0x7f e)
read (two x y) r e = two_read x y r (grind (arith, nat_tests)) (grind (arith, nat_tests)) (grind (arith, nat_tests))
read (three x y z) r e = three_read x y z r (grind (arith, nat_tests)) (grind (arith, nat_tests)) (grind (arith, nat_tests)) (grind (arith, nat_tests)) (grind (arith, nat_tests))
read (four x y z w) r e = four_read x y z w r (grind (arith, nat_tests)) (grind (arith, nat_tests)) (grind (arith, nat_tests)) (grind (arith, nat_tests)) (grind (arith, nat_tests))

pub all_read : (cs : List Character) → all_proper cs ≡ true → well_formed (spelling cs) ≡ true
all_read [] e = refl
all_read (c ∷ cs) e = let p = and_parts (proper c) (all_proper cs) e in read c (spelling cs) p.0 ∙ all_read cs p.1

pub text_read : (bs : List ℕ) → Text bs → well_formed bs ≡ true
text_read bs t = ap well_formed (sym t.spelled) ∙ all_read t.characters t.sound
