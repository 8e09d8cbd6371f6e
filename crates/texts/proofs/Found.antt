-- UTF-8 is characters one behind the other.
use Rattle.std.proofs.Common.{◌≡◌, ℕ, zero, suc, ◌+◌, ◌-◌, ◌*◌, ◌<◌, ◌≤◌, Bool, true, false, ◌&&◌, ◌||◌, leb, List, [], ◌∷◌, ◌++◌, length, sym, refl, ap, ◌∙◌, arith}
use Rattle.std.proofs.lemmas.Bool.{and_from, and_parts, leb-true, le-leb}
use Rattle.std.proofs.lemmas.Bool.Decides.{nat_tests}
use Rattle.texts.specs.Utf8.{within, tail, second3, second4, well_formed, after2, after3, after4}
use Rattle.texts.specs.Characters.{Character, one, two, three, four, bytes, number, proper, Text}
use Rattle.texts.proofs.Leads.{lead1}
use Rattle.texts.proofs.Spelled.{within_has, within_tells}

back : (k a : ℕ) → k ≤ a → k + (a - k) ≡ a
back k a h = omega arith

-- the first character of some bytes, and what follows
pub record Begins (bs : List ℕ) : Type 0 where
  pub first : Character
  pub rest : List ℕ
  pub sound : proper first ≡ true
  pub split : bytes first ++ rest ≡ bs
  pub shorter : length rest < length bs
  pub well : well_formed rest ≡ true

one_begins : (a : ℕ) (r : List ℕ) → leb a 0x7f ≡ true → well_formed (a ∷ r) ≡ true → Begins (a ∷ r)
one_begins a r e w = record { first = one a; rest = r; sound = e; split = refl; shorter = omega arith; well = sym (lead1 a r (leb-true a 0x7f e)) ∙ w }

two_at : (a b : ℕ) (r : List ℕ) (t : Bool) → tail b ≡ t → within 0xc2 0xdf a ≡ true → elim t [ true ↦ well_formed r | false ↦ false ] ≡ true → Begins (a ∷ b ∷ r)
two_at a b r false k e w = cc
two_at a b r true k e w = record {
  first = two (a - 0xc0) (b - 0x80);
  rest = r;
  sound = grind (arith, nat_tests);
  split = ap (λ n. n ∷ (0x80 + (b - 0x80)) ∷ r) (back 0xc0 a (grind (arith, nat_tests))) ∙ ap (λ n. a ∷ n ∷ r) (back 0x80 b (grind (arith, nat_tests)));
  shorter = omega arith;
  well = w;
}

two_begins : (a : ℕ) (r : List ℕ) → within 0xc2 0xdf a ≡ true → after2 r ≡ true → Begins (a ∷ r)
two_begins a [] e w = cc
two_begins a (b ∷ r) e w = two_at a b r (tail b) refl e w

-- the bounds of a second byte under its lead byte, and that the number is no surrogate
pub record Second3 (a b c : ℕ) : Type 0 where
  pub lead : 0xe0 ≤ a
  pub least : 0x80 ≤ b
  pub most : b ≤ 0xbf
  pub scalar : within 0x800 0xd7ff (number (three (a - 0xe0) (b - 0x80) (c - 0x80))) || within 0xe000 0xffff (number (three (a - 0xe0) (b - 0x80) (c - 0x80))) ≡ true

second3_tells : (a b c : ℕ) → 0x80 ≤ c → c ≤ 0xbf → second3 a b ≡ true → Second3 a b c
second3_tells a b c cl ch e = record { lead = grind (arith, nat_tests); least = grind (arith, nat_tests); most = grind (arith, nat_tests); scalar = grind (arith, nat_tests) }

three_at : (a b c : ℕ) (r : List ℕ) (t : Bool) → second3 a b && tail c ≡ t → elim t [ true ↦ well_formed r | false ↦ false ] ≡ true → Begins (a ∷ b ∷ c ∷ r)
three_at a b c r false k w = cc
three_at a b c r true k w =
    let p = and_parts (second3 a b) (tail c) k in
    let q = within_tells 0x80 0xbf c p.1 in
    let s = second3_tells a b c q.0 q.1 p.0 in
    record {
      first = three (a - 0xe0) (b - 0x80) (c - 0x80);
      rest = r;
      sound = and_from _ _ (le-leb (b - 0x80) 63 (omega (arith, s.most))) (and_from _ _ (le-leb (c - 0x80) 63 (omega (arith, q.1))) s.scalar);
      split =
          ap (λ n. n ∷ (0x80 + (b - 0x80)) ∷ (0x80 + (c - 0x80)) ∷ r) (back 0xe0 a s.lead)
          ∙ ap (λ n. a ∷ n ∷ (0x80 + (c - 0x80)) ∷ r) (back 0x80 b s.least)
          ∙ ap (λ n. a ∷ b ∷ n ∷ r) (back 0x80 c q.0);
      shorter = omega arith;
      well = w;
    }

three_begins : (a : ℕ) (r : List ℕ) → after3 a r ≡ true → Begins (a ∷ r)
three_begins a [] w = cc
three_begins a (b ∷ []) w = cc
three_begins a (b ∷ c ∷ r) w = three_at a b c r (second3 a b && tail c) refl w

-- the bounds of lead and second byte, in one: at least F0 90, at most F4 8F
pub record Second4 (a b : ℕ) : Type 0 where
  pub lead : 0xf0 ≤ a
  pub least : 0x80 ≤ b
  pub most : b ≤ 0xbf
  pub low : 16 ≤ 64 * (a - 0xf0) + (b - 0x80)
  pub high : 64 * (a - 0xf0) + (b - 0x80) ≤ 271

second4_tells : (a b : ℕ) → second4 a b ≡ true → Second4 a b
second4_tells a b e = record { lead = grind (arith, nat_tests); least = grind (arith, nat_tests); most = grind (arith, nat_tests); low = grind (arith, nat_tests); high = grind (arith, nat_tests) }

four_at : (a b c d : ℕ) (r : List ℕ) (t : Bool) → second4 a b && (tail c && tail d) ≡ t → elim t [ true ↦ well_formed r | false ↦ false ] ≡ true → Begins (a ∷ b ∷ c ∷ d ∷ r)
four_at a b c d r false k w = cc
four_at a b c d r true k w =
    let p = and_parts (second4 a b) (tail c && tail d) k in
    let q = and_parts (tail c) (tail d) p.1 in
    let cs = within_tells 0x80 0xbf c q.0 in
    let ds = within_tells 0x80 0xbf d q.1 in
    let s = second4_tells a b p.0 in
    let n = number (four (a - 0xf0) (b - 0x80) (c - 0x80) (d - 0x80)) in
    record {
      first = four (a - 0xf0) (b - 0x80) (c - 0x80) (d - 0x80);
      rest = r;
      sound = and_from _ _ (le-leb (b - 0x80) 63 (omega (arith, s.most))) (and_from _ _ (le-leb (c - 0x80) 63 (omega (arith, cs.1))) (and_from _ _ (le-leb (d - 0x80) 63 (omega (arith, ds.1))) (within_has 0x10000 0x10ffff n (omega (arith, s.low)) (omega (arith, s.high, cs.1, ds.1)))));
      split =
          ap (λ n. n ∷ (0x80 + (b - 0x80)) ∷ (0x80 + (c - 0x80)) ∷ (0x80 + (d - 0x80)) ∷ r) (back 0xf0 a s.lead)
          ∙ ap (λ n. a ∷ n ∷ (0x80 + (c - 0x80)) ∷ (0x80 + (d - 0x80)) ∷ r) (back 0x80 b s.least)
          ∙ ap (λ n. a ∷ b ∷ n ∷ (0x80 + (d - 0x80)) ∷ r) (back 0x80 c cs.0)
          ∙ ap (λ n. a ∷ b ∷ c ∷ n ∷ r) (back 0x80 d ds.0);
      shorter = omega arith;
      well = w;
    }

four_begins : (a : ℕ) (r : List ℕ) → after4 a r ≡ true → Begins (a ∷ r)
four_begins a [] w = cc
four_begins a (b ∷ []) w = cc
four_begins a (b ∷ c ∷ []) w = cc
four_begins a (b ∷ c ∷ d ∷ r) w = four_at a b c d r (second4 a b && (tail c && tail d)) refl w

-- by the lead byte
by4 : (a : ℕ) (r : List ℕ) (t : Bool) → elim t [ true ↦ after4 a r | false ↦ false ] ≡ true → Begins (a ∷ r)
by4 a r true w = four_begins a r w
by4 a r false w = cc

by3 : (a : ℕ) (r : List ℕ) (t : Bool) → elim t [ true ↦ after3 a r | false ↦ elim (within 0xf0 0xf4 a) [ true ↦ after4 a r | false ↦ false ] ] ≡ true → Begins (a ∷ r)
by3 a r true w = three_begins a r w
by3 a r false w = by4 a r (within 0xf0 0xf4 a) w

by2 : (a : ℕ) (r : List ℕ) (t : Bool) → within 0xc2 0xdf a ≡ t → elim t [ true ↦ after2 r | false ↦ elim (within 0xe0 0xef a) [ true ↦ after3 a r | false ↦ elim (within 0xf0 0xf4 a) [ true ↦ after4 a r | false ↦ false ] ] ] ≡ true → Begins (a ∷ r)
by2 a r true e w = two_begins a r e w
by2 a r false e w = by3 a r (within 0xe0 0xef a) w

by1 : (a : ℕ) (r : List ℕ) (t : Bool) → leb a 0x7f ≡ t → well_formed (a ∷ r) ≡ true → Begins (a ∷ r)
by1 a r true e w = one_begins a r e w
by1 a r false e w = by2 a r (within 0xc2 0xdf a) refl (ap (λ t. elim t [ true ↦ well_formed r | false ↦ elim (within 0xc2 0xdf a) [ true ↦ after2 r | false ↦ elim (within 0xe0 0xef a) [ true ↦ after3 a r | false ↦ elim (within 0xf0 0xf4 a) [ true ↦ after4 a r | false ↦ false ] ] ] ]) (sym e) ∙ w)

more : (bs : List ℕ) (b : Begins bs) → Text b.rest → Text bs
more bs b t = record {
  characters = b.first ∷ t.characters;
  sound = and_from _ _ b.sound t.sound;
  spelled = ap (λ r. bytes b.first ++ r) t.spelled ∙ b.split;
}

found : (n : ℕ) (bs : List ℕ) → length bs ≤ n → well_formed bs ≡ true → Text bs
found n [] h w = record { characters = []; sound = refl; spelled = refl }
found zero (a ∷ r) h w = absurd (omega arith)
found (suc n) (a ∷ r) h w =
    let b = by1 a r (leb a 0x7f) refl w in
    let s = b.shorter in
    more (a ∷ r) b (found n b.rest (omega (arith, s)) b.well)

pub text_found : (bs : List ℕ) → well_formed bs ≡ true → Text bs
text_found bs w = found (length bs) bs (omega arith) w
