-- Bytes that are gathered: a block of them acts as one.
use Rattle.std.proofs.Common.{◌≡◌, ℕ, ◌+◌, List, [], ◌∷◌, ◌++◌, length, sym, refl, ap, ◌∙◌, subst, append_assoc, append-nil, arith}
use Rattle.framing.specs.Moves.{Moved, on, quiet, went_on, goes}
use Rattle.framing.proofs.Blocks.{Acts, acts_goes}

-- bytes with a last one
pub record Last (ys : List ℕ) : Type 0 where
  pub front : List ℕ
  pub byte : ℕ
  pub is : ys ≡ front ++ byte ∷ []
  pub long : length ys ≡ length front + 1

pub last_of : (y : ℕ) (ys : List ℕ) → Last (y ∷ ys)
last_of y [] = record { front = []; byte = y; is = refl; long = refl }
last_of y (z ∷ ys) =
    let l = last_of z ys in
    record { front = y ∷ l.front; byte = l.byte; is = ap (λ t. y ∷ t) l.is; long = omega (arith, l.long) }

-- a state by the bytes that it has gathered, with what they come to, which is that state while there are to be more
module _ {S B F : Type 0} (step : S → ℕ → Moved S B F) (state : List ℕ → S) (comes : List ℕ → Moved S B F) (each : (got : List ℕ) (b : ℕ) → step (state got) b ≡ comes (got ++ b ∷ [])) (More : List ℕ → Type 0) (less : (got xs : List ℕ) → More (got ++ xs) → More got) (part : (got : List ℕ) → More got → comes got ≡ on (state got)) where
  some : (xs got : List ℕ) → More (got ++ xs) → Acts step (state got) xs (on (state (got ++ xs)))
  unfolding goes
  some [] got h = ap (λ l. quiet (state l)) (sym (append-nil got))
  some (x ∷ xs) got h =
      let a = append_assoc got (x ∷ []) xs in
      let h' : More ((got ++ x ∷ []) ++ xs) = subst More (sym a) h in
      let first = each got x ∙ part (got ++ x ∷ []) (less (got ++ x ∷ []) xs h') in
      let rest = some xs (got ++ x ∷ []) h' in
      ap (went_on xs (λ t. goes step t xs)) first ∙ rest ∙ ap (λ l. quiet (state l)) a

  -- with the byte that may fill it
  pub all : (ys got : List ℕ) (l : Last ys) → More (got ++ l.front) → Acts step (state got) ys (comes (got ++ ys))
  unfolding goes
  all ys got l h =
      let last : step (state (got ++ l.front)) l.byte ≡ comes (got ++ ys) = each (got ++ l.front) l.byte ∙ ap comes (append_assoc got l.front (l.byte ∷ []) ∙ ap (λ t. got ++ t) (sym l.is)) in
      ap (goes step (state got)) l.is ∙ acts_goes step l.front (l.byte ∷ []) (state got) (on (state (got ++ l.front))) (some l.front got h) ∙ ap (went_on [] (λ t. goes step t [])) last

  pub gathers : (xs got : List ℕ) → More got → ((l : Last xs) → More (got ++ l.front)) → Acts step (state got) xs (comes (got ++ xs))
  unfolding goes
  gathers [] got h more = ap (went_on [] quiet) (sym (ap comes (append-nil got) ∙ part got h))
  gathers (x ∷ xs) got h more = all (x ∷ xs) got (last_of x xs) (more (last_of x xs))
