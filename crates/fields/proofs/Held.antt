-- Bytes behind the last are read as 0.
use Rattle.std.proofs.Common.{◌≡◌, ℕ, ◌^◌, ◌<◌, ◌≤◌, List, length, take, drop, Some, None, Option, MatchOption, unwrap_or, sym, ap, ◌∙◌, ⊎_elim, arith, length-drop}
use Rattle.std.proofs.lemmas.List.{nil_from_length}
use Rattle.std.proofs.lemmas.Bool.{cases_lt}
use Rattle.std.specs.Option.{SomeIff}
use Rattle.little.specs.Numbers.{le, number_in, number_at, number_inside, number_outside}

byte_past : (bs : List ℕ) (p : ℕ) → length bs ≤ p → 0 ≡ number_in 1 bs p
unfolding number_in
byte_past bs p h =
    let e = nil_from_length (drop p bs) (omega (arith, length-drop p bs)) in
    sym (ap (λ l. le (take 1 l)) e)

byte_or_0 : (bs : List ℕ) (p : ℕ) → unwrap_or (number_at 1 bs p) 0 ≡ number_in 1 bs p
byte_or_0 bs p = ⊎_elim
    (λ h. ap (λ o. unwrap_or o 0) (number_inside 1 bs p (omega arith)))
    (λ h. ap (λ o. unwrap_or o 0) (number_outside 1 bs p (omega arith)) ∙ byte_past bs p (omega arith))
    (cases_lt p (length bs))

-- a byte at a place that may not fit 64 bits
pub byte_read : (bs : List ℕ) (p : ℕ) (o r : Option ℕ) → length bs < 2 ^ 64 → SomeIff o (p < 2 ^ 64) p → MatchOption o (r ≡ None) (λ x. r ≡ number_at 1 bs x) → unwrap_or r 0 ≡ number_in 1 bs p
byte_read bs p None r h f e = ap (λ u. unwrap_or u 0) e ∙ byte_past bs p (omega (arith, f))
byte_read bs p (Some x) r h f e = ap (λ u. unwrap_or u 0) (e ∙ ap (number_at 1 bs) f.1) ∙ byte_or_0 bs p
