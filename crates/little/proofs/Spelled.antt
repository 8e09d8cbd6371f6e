-- What bytes spell, byte by byte.
use Rattle.std.proofs.Common.{◌≡◌, ℕ, suc, ◌+◌, ◌-◌, ◌*◌, ◌<◌, ◌≤◌, Bool, true, false, nat_le, List, length, get_or, slice_index, take, drop, Some, None, Option, ℤ, MatchOption, IsSomeAnd, sym, refl, ap, ◌∙◌, arith, length-drop, to_z, w16, w32, w64}
use Rattle.std.specs.Borrow.{Bor}
use Rattle.std.specs.Int.{from_le_bytes}
use Rattle.std.specs.Slice.{IsItemAt}
use Rattle.std.proofs.lemmas.List.{drop_more, at_drop_all, length-take-le, drop-take, take-take, drop-drop}
use Rattle.std.proofs.lemmas.Bool.{leb-true, leb-false}
use mir.Syntax.{Width}
use Rattle.std.specs.Option.{option_map, option_copied}
use Rattle.little.specs.Numbers.{le, number_in, inside, number_at, signed_at, number_inside, number_outside}

-- the bytes of a number by their places
pub le_places : (n : ℕ) (ys : List ℕ) (i : ℕ) → i < length ys → le (take (suc n) (drop i ys)) ≡ get_or ys i 0 + 256 * le (take n (drop (i + 1) ys))
le_places n ys i h = ap (λ zs. le (take (suc n) zs)) (drop_more ys i 0 h)

pub byte_inside : (bs : List ℕ) (at : ℕ) → at < length bs → number_at 1 bs at ≡ Some (get_or bs at 0)
unfolding number_in
byte_inside bs at h = number_inside 1 bs at (omega arith) ∙ ap Some (le_places 0 bs at h ∙ omega arith)

-- what is made of the bytes at a place, where they are there
pub made_inside : {A : Type 0} (n : ℕ) (bs : List ℕ) (at : ℕ) (f : List ℕ → A) (v : A) (o : Option (List ℕ)) (r : Option A) → o ≡ inside n bs at (take n (drop at bs)) → MatchOption o (r ≡ None) (λ x. IsSomeAnd r (λ y. y ≡ f x)) → (at + n ≤ length bs → f (take n (drop at bs)) ≡ v) → r ≡ inside n bs at v
made_inside n bs at f v o r e m k = by (nat_le (at + n) (length bs)) refl o r e m where
  by : (b : Bool) → nat_le (at + n) (length bs) ≡ b → (o : Option (List ℕ)) (r : Option _) → o ≡ elim b [ true ↦ Some (take n (drop at bs)) | false ↦ None ] → MatchOption o (r ≡ None) (λ x. IsSomeAnd r (λ y. y ≡ f x)) → r ≡ elim b [ true ↦ Some v | false ↦ None ]
  by true t None r e m = let z : ◌≡◌ {A = ℕ} 0 1 = cc in absurd (omega arith)
  by true t (Some x) None e m = absurd m
  by true t (Some x) (Some y) e m = let h = k (leb-true (at + n) (length bs) t) in cc
  by false t None r e m = m
  by false t (Some x) r e m = let z : ◌≡◌ {A = ℕ} 0 1 = cc in absurd (omega arith)

-- the bytes of a number one after the other, and none behind the last
pub le_more_at : (ys : List ℕ) (i : ℕ) → i < length ys → le (drop i ys) ≡ slice_index ys i + 256 * le (drop (i + 1) ys)
le_more_at ys i h = ap le (drop_more ys i 0 h)

pub le_end : (ys : List ℕ) (n : ℕ) → length ys ≡ n → le (drop n ys) ≡ 0
le_end ys n h = at_drop_all le ys n (omega arith)

-- the library's numbers of 2, 4 and 8 bytes are those that the bytes spell
pub from_le_2 : (ys : List ℕ) → length ys ≡ 2 → from_le_bytes w16 ys ≡ le ys
from_le_2 ys h = omega (arith, h, le_more_at ys 0 (omega arith), le_more_at ys 1 (omega arith), le_end ys 2 h)

pub from_le_4 : (ys : List ℕ) → length ys ≡ 4 → from_le_bytes w32 ys ≡ le ys
from_le_4 ys h = omega (arith, h, le_more_at ys 0 (omega arith), le_more_at ys 1 (omega arith), le_more_at ys 2 (omega arith), le_more_at ys 3 (omega arith), le_end ys 4 h)

pub from_le_8 : (ys : List ℕ) → length ys ≡ 8 → from_le_bytes w64 ys ≡ le ys
from_le_8 ys h = omega (arith, h, le_more_at ys 0 (omega arith), le_more_at ys 1 (omega arith), le_more_at ys 2 (omega arith), le_more_at ys 3 (omega arith), le_more_at ys 4 (omega arith), le_more_at ys 5 (omega arith), le_more_at ys 6 (omega arith), le_more_at ys 7 (omega arith), le_end ys 8 h)

module _ (n : ℕ) (bs : List ℕ) (at : ℕ) (f : List ℕ → ℕ) (o : Option (List ℕ)) where
  pub unsigned_read : (r : Option ℕ) → ((ys : List ℕ) → length ys ≡ n → f ys ≡ le ys) → o ≡ inside n bs at (take n (drop at bs)) → MatchOption o (r ≡ None) (λ x. IsSomeAnd r (λ y. y ≡ f x)) → r ≡ number_at n bs at
  unfolding number_at number_in
  unsigned_read r spells e m = made_inside n bs at f _ o r e m (λ h. spells _ (length-take-le n (drop at bs) (omega (arith, length-drop at bs))))

  pub signed_read : (w : Width) (r : Option ℤ) → ((ys : List ℕ) → length ys ≡ n → f ys ≡ le ys) → o ≡ inside n bs at (take n (drop at bs)) → MatchOption o (r ≡ None) (λ x. IsSomeAnd r (λ y. y ≡ to_z w (f x))) → r ≡ signed_at w n bs at
  unfolding number_at number_in
  signed_read w r spells e m = by o r (made_inside n bs at f (number_in n bs at) o (option_map f o) e mapped (λ h. spells _ (length-take-le n (drop at bs) (omega (arith, length-drop at bs))))) m where
    mapped : MatchOption o (option_map f o ≡ None) (λ x. IsSomeAnd (option_map f o) (λ y. y ≡ f x))
    mapped = all o where
      all : (o : Option (List ℕ)) → MatchOption o (option_map f o ≡ None) (λ x. IsSomeAnd (option_map f o) (λ y. y ≡ f x))
      all None = refl
      all (Some x) = refl

    by : (o : Option (List ℕ)) (r : Option ℤ) → option_map f o ≡ inside n bs at (number_in n bs at) → MatchOption o (r ≡ None) (λ x. IsSomeAnd r (λ y. y ≡ to_z w (f x))) → r ≡ option_map (to_z w) (inside n bs at (number_in n bs at))
    by None r e m = m ∙ ap (option_map (to_z w)) e
    by (Some x) None e m = absurd m
    by (Some x) (Some y) e m = ap Some m ∙ ap (option_map (to_z w)) e

-- the byte that a lookup finds
pub byte_read : (bs : List ℕ) (at : ℕ) (r : Option (Bor ℕ)) → IsItemAt bs at r → option_copied r ≡ number_at 1 bs at
byte_read bs at None e = sym (number_outside 1 bs at (search (arith, e)))
byte_read bs at (Some x) e = sym (byte_inside bs at (search (arith, e)) ∙ search (arith, e))

-- what the answer of a read says of the bytes
module _ {A : Type 0} (n : ℕ) (bs : List ℕ) (at : ℕ) (v : A) (o : Option A) (whole : at + n ≤ length bs → o ≡ Some v) (cut : length bs < at + n → o ≡ None) where
  pub read_none : None ≡ o → length bs < at + n
  read_none e = by (nat_le (at + n) (length bs)) refl where
    by : (b : Bool) → nat_le (at + n) (length bs) ≡ b → length bs < at + n
    by true t = let w = whole (leb-true (at + n) (length bs) t) in let z : ◌≡◌ {A = ℕ} 0 1 = cc in absurd (omega arith)
    by false t = leb-false (at + n) (length bs) t

  pub read_some : (x : A) → Some x ≡ o → (at + n ≤ length bs) × (x ≡ v)
  read_some x e = by (nat_le (at + n) (length bs)) refl where
    by : (b : Bool) → nat_le (at + n) (length bs) ≡ b → (at + n ≤ length bs) × (x ≡ v)
    by true t = let h = leb-true (at + n) (length bs) t in let w = whole h in (h, cc)
    by false t = let w = cut (leb-false (at + n) (length bs) t) in let z : ◌≡◌ {A = ℕ} 0 1 = cc in absurd (omega arith)

-- a number within a part of the bytes
pub number_in_part : (n p w : ℕ) (bs : List ℕ) (at : ℕ) → p + n ≤ w → number_in n (take w (drop at bs)) p ≡ number_in n bs (at + p)
unfolding number_in
number_in_part n p w bs at h =
    let e : w ≡ p + (w - p) = omega arith in
    ap (λ k. le (take n (drop p (take k (drop at bs))))) e ∙ ap (λ ys. le (take n ys)) (drop-take p (w - p) (drop at bs)) ∙ ap le (take-take n (w - p) (drop p (drop at bs)) (omega arith)) ∙ ap (λ ys. le (take n ys)) (drop-drop p at bs)
