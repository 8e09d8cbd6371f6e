-- Item k of a list of items that fill a part of the bytes.
use Rattle.std.proofs.Common.{◌≡◌, ℕ, zero, suc, ◌+◌, ◌*◌, ◌/◌, ◌<◌, ◌≤◌, Bool, true, false, nat_le, List, map, length, Some, None, Option, sym, refl, ap, ◌∙◌, zero-add, mul_comm, arith}
use Rattle.std.proofs.lemmas.Bool.{leb-true, leb-false}
use Rattle.std.proofs.lemmas.Nat.{le-div, div_below}
use Rattle.std.specs.List.{range_with_len, slice_get}
use Rattle.std.proofs.lemmas.List.FromFn.{length-map-range_with_len}
use Rattle.std.proofs.lemmas.Option.{slice_get_past}
use Rattle.message.specs.Listed.{listed}

pub nth_counted : {A : Type 0} (f : ℕ → A) (a n k : ℕ) → k < n → slice_get (map f (range_with_len a n)) k ≡ Some (f (a + k))
nth_counted f a zero k h = absurd (omega arith)
nth_counted f a (suc n) zero h = let e : a ≡ a + 0 = omega arith in ap (λ i. Some (f i)) e
nth_counted f a (suc n) (suc k) h =
    let e : a + 1 + k ≡ a + suc k = omega arith in
    nth_counted f (a + 1) n k (omega arith) ∙ ap (λ i. Some (f i)) e

module _ {A : Type 0} (width : ℕ) (item : List ℕ → ℕ → A) (part : List ℕ) where
  pub length_listed : length (listed width item part) ≡ length part / width
  unfolding listed
  length_listed = length-map-range_with_len (λ k. item part (width * k)) 0 (length part / width)

  pub nth_listed : (k : ℕ) → k < length part / width → slice_get (listed width item part) k ≡ Some (item part (width * k))
  unfolding listed
  nth_listed k h = nth_counted (λ i. item part (width * i)) 0 (length part / width) k h ∙ ap (λ i. Some (item part (width * i))) (zero-add k)

  pub nth_listed_past : (k : ℕ) → length part / width ≤ k → slice_get (listed width item part) k ≡ None
  nth_listed_past k h = slice_get_past (listed width item part) k (omega (arith, length_listed))

-- an item is read at the place where it lies
module _ {A : Type 0} (width : ℕ) (item : List ℕ → ℕ → A) (part : List ℕ) (read : ℕ → Option A) (positive : 0 < width) (whole : (at : ℕ) → at + width ≤ length part → read at ≡ Some (item part at)) (cut : (at : ℕ) → length part < at + width → read at ≡ None) where
  pub read_listed : (k : ℕ) → read (width * k) ≡ slice_get (listed width item part) k
  read_listed k = by (nat_le (width * k + width) (length part)) refl where
    by : (b : Bool) → nat_le (width * k + width) (length part) ≡ b → read (width * k) ≡ slice_get (listed width item part) k
    by true t =
        let h = leb-true (width * k + width) (length part) t in
        whole (width * k) h ∙ sym (nth_listed width item part k (le-div (suc k) (length part) width positive (omega (arith, mul_comm width k, h))))
    by false t =
        let h = leb-false (width * k + width) (length part) t in
        cut (width * k) h ∙ sym (nth_listed_past width item part k (omega (arith, div_below (length part) width (suc k) positive (omega (arith, mul_comm width k, h)))))

  pub past_listed : (k : ℕ) → length part ≤ width * k → None ≡ slice_get (listed width item part) k
  past_listed k h = sym (cut (width * k) (omega arith)) ∙ read_listed k
