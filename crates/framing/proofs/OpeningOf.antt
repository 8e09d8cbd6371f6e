-- The opening of a frame, as far as it is there.
use Rattle.std.proofs.Common.{◌≡◌, ℕ, ◌-◌, ◌<◌, ◌≤◌, true, false, eqb, List, length, get_or, take, drop, is_some, unwrap_or, Some, None, Option, MatchOption, sym, ap, ◌∙◌, inl, inr, arith, length-drop}
use Rattle.std.specs.Borrow.{Bor}
use Rattle.std.specs.Option.{option_map}
use Rattle.std.proofs.lemmas.List.{drop-drop, get_or_past}
use Rattle.std.proofs.lemmas.Bool.{cases_lt, ne_eqb, and_right}
use Rattle.little.specs.Numbers.{le, number_in, number_at, number_inside, number_outside}
use Rattle.framing.specs.Frames.{marks, opening}
use Rattle.framing.specs.Turns.{opening_in}

-- a number behind four bytes
behind_four : (xs : List ℕ) → 4 ≤ length xs → number_at 4 (drop 4 xs) 0 ≡ number_at 4 xs 4
unfolding number_in
behind_four xs h =
    let l = length-drop 4 xs in
    elim (cases_lt (length xs) 8) [
      | inl k ↦ number_outside 4 (drop 4 xs) 0 (omega arith) ∙ sym (number_outside 4 xs 4 (omega arith))
      | inr k ↦
          number_inside 4 (drop 4 xs) 0 (omega arith) ∙ ap (λ ys. Some (le (take 4 ys))) (drop-drop 0 4 xs) ∙ sym (number_inside 4 xs 4 (omega arith))
    ]

-- fewer than four bytes have no marker
pub short_unmarked : (xs : List ℕ) → length xs < 4 → marks xs ≡ false
unfolding marks
short_unmarked xs h =
    let z : get_or xs 3 0 ≡ 0 = get_or_past xs 3 0 (omega arith) in
    let n : eqb (get_or xs 3 0) 255 ≡ false = ne_eqb (get_or xs 3 0) 255 (λ e. omega arith) in
    and_right (eqb (get_or xs 0 0) 255) _ (and_right (eqb (get_or xs 1 0) 255) _ (and_right (eqb (get_or xs 2 0) 255) _ n))

-- what is found behind the marker
abbrev pub Marker : List ℕ → Option (Bor (List ℕ)) → Type 0
Marker xs r = MatchOption r (marks xs ≡ false) (λ rest. (4 ≤ length xs) × (marks xs ≡ true) × (rest.now ≡ drop 4 xs))

pub is_marked : (xs : List ℕ) (r : Option (Bor (List ℕ))) → Marker xs r → is_some r ≡ marks xs
is_marked xs None m = sym m
is_marked xs (Some rest) m = sym m.1

-- the size behind the marker, or at the front where there is none
size_at : (xs : List ℕ) (r : Option (Bor (List ℕ))) (none : Bor (List ℕ)) → none.now ≡ xs → Marker xs r → number_at 4 (unwrap_or r none).now 0 ≡ number_at 4 xs (opening (marks xs) - 4)
size_at xs None none e m = ap (λ ys. number_at 4 ys 0) e ∙ sym (ap (λ b. number_at 4 xs (opening b - 4)) m)
size_at xs (Some rest) none e m = ap (λ ys. number_at 4 ys 0) m.2 ∙ behind_four xs m.0 ∙ sym (ap (λ b. number_at 4 xs (opening b - 4)) m.1)

-- the opening, by what stands there
pub opening_read : (xs : List ℕ) (r : Option (Bor (List ℕ))) (none v : Bor (List ℕ)) (o : Option ℕ) → none.now ≡ xs → Marker xs r → v ≡ unwrap_or r none → o ≡ number_at 4 v.now 0 → option_map (λ n. record { marked = is_some r; size = n }) o ≡ opening_in xs
opening_read xs r none v o e m at is =
    ap (λ b. option_map (λ n. record { marked = b; size = n }) o) (is_marked xs r m)
    ∙ ap (option_map (λ n. record { marked = marks xs; size = n })) (is ∙ ap (λ y. number_at 4 y.now 0) at ∙ size_at xs r none e m)
