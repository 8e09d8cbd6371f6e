-- Vectors within bytes.
use Rattle.std.proofs.Common.{◌≡◌, ℕ, ◌+◌, ◌-◌, ◌*◌, ◌<◌, ◌≤◌, true, false, nat_le, List, length, take, drop, Some, None, Option, sym, ap, ◌∙◌, arith, length-drop}
use Rattle.std.proofs.lemmas.Bool.{le-leb, lt-leb}
use Rattle.std.proofs.lemmas.List.{take_all, drop-drop}
use Rattle.std.specs.Borrow.{Bor}
use Rattle.std.specs.Option.{option_map}
use Rattle.std.specs.List.{slice_range}
use Rattle.std.specs.Slice.{IsGetRangeResult}
use Rattle.little.specs.Maybe.{and_then}
use Rattle.little.specs.Numbers.{number_at}
use Rattle.tables.specs.Tables.{vector_at}

to_end : (xs : List ℕ) (k : ℕ) (ys : List ℕ) → ys ≡ slice_range xs k (length xs) → ys ≡ drop k xs
to_end xs k ys e = e ∙ take_all (length xs - k) (drop k xs) (omega (arith, length-drop k xs))

module _ (bs : List ℕ) (p : ℕ) where
  -- what stands behind a vector's count
  pub behind : (rest items : Bor (List ℕ)) → IsGetRangeResult bs p (length bs) (Some rest) → IsGetRangeResult rest.now 4 (length rest.now) (Some items) → (items.now ≡ drop (p + 4) bs) × (p + 4 ≤ length bs)
  behind rest items e d = (to_end rest.now 4 items.now d.0.2 ∙ ap (drop 4) (to_end bs p rest.now e.0.2) ∙ drop-drop 4 p bs, omega (arith, e, d))

  module _ (width n : ℕ) (e : Some n ≡ number_at 4 bs p) where
    by_length : vector_at width bs p ≡ elim (nat_le (p + 4 + n * width) (length bs)) [ true ↦ Some (take (n * width) (drop (p + 4) bs)) | false ↦ None ]
    unfolding vector_at
    by_length = ap (λ o. and_then o (λ n. elim (nat_le (p + 4 + n * width) (length bs)) [ true ↦ Some (take (n * width) (drop (p + 4) bs)) | false ↦ None ])) (sym e)

    pub long : length bs < p + 4 + n * width → vector_at width bs p ≡ None
    long h = by_length ∙ rw (lt-leb (p + 4 + n * width) (length bs) h)

    pub cut : (items : List ℕ) (r : Option (Bor (List ℕ))) → items ≡ drop (p + 4) bs → p + 4 ≤ length bs → IsGetRangeResult items 0 (n * width) r → option_map (λ x. x.now) r ≡ vector_at width bs p
    cut items None i l g =
        let h : length bs < p + 4 + n * width = omega (arith, g, ap length i, length-drop (p + 4) bs) in
        sym (long h)
    cut items (Some x) i l g =
        let h : p + 4 + n * width ≤ length bs = omega (arith, g, ap length i, length-drop (p + 4) bs) in
        let all : n * width - 0 ≡ n * width = omega arith in
        ap Some (g.0.2 ∙ ap (take (n * width - 0)) i ∙ ap (λ k. take k (drop (p + 4) bs)) all) ∙ sym (by_length ∙ rw (le-leb (p + 4 + n * width) (length bs) h))
