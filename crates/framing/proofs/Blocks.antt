-- A block of bytes that acts as one: what follows it goes on from there.
use Rattle.std.proofs.Common.{◌≡◌, ℕ, List, [], ◌∷◌, ◌++◌, refl, ap, ◌∙◌}
use Rattle.framing.specs.Moves.{Moved, on, shows, refuses, Went, quiet, showed, refused, Whole, went_on, whole_on, and_shown, goes, whole}

module _ {S B F : Type 0} (step : S → ℕ → Moved S B F) where
  -- the bytes xs, all used, do to s what v says
  abbrev pub Acts : S → List ℕ → Moved S B F → Type 0
  Acts s xs v = goes step s xs ≡ went_on [] quiet v

  -- no byte
  acts_none : (s : S) (ys : List ℕ) (v : Moved S B F) → quiet s ≡ went_on [] quiet v → goes step s ys ≡ went_on ys (λ t. goes step t ys) v
  acts_none s ys (on t) e = let d : s ≡ t = cc in ap (λ u. goes step u ys) d
  acts_none s ys (shows b t) e = cc
  acts_none s ys (refuses f t) e = cc

  acts_showed : (b : B) (u : S) (xs ys : List ℕ) (v : Moved S B F) → showed b u xs ≡ went_on [] quiet v → showed b u (xs ++ ys) ≡ went_on ys (λ t. goes step t ys) v
  acts_showed b u xs ys (on t) e = cc
  acts_showed b u xs ys (shows c t) e =
      let d : xs ≡ [] = cc in
      let d' : xs ++ ys ≡ ys = ap (λ l. l ++ ys) d in
      cc
  acts_showed b u xs ys (refuses f t) e = cc

  acts_refused : (f : F) (u : S) (ys : List ℕ) (v : Moved S B F) → refused f u ≡ went_on [] quiet v → refused f u ≡ went_on ys (λ t. goes step t ys) v
  acts_refused f u ys (on t) e = cc
  acts_refused f u ys (shows c t) e = cc
  acts_refused f u ys (refuses g t) e = cc

  acts_turn : (xs ys : List ℕ) (v w : Moved S B F) → ((u : S) → Acts u xs v → goes step u (xs ++ ys) ≡ went_on ys (λ t. goes step t ys) v) → went_on xs (λ t. goes step t xs) w ≡ went_on [] quiet v → went_on (xs ++ ys) (λ t. goes step t (xs ++ ys)) w ≡ went_on ys (λ t. goes step t ys) v
  acts_turn xs ys v (on u) ih e = ih u e
  acts_turn xs ys v (shows b u) ih e = acts_showed b u xs ys v e
  acts_turn xs ys v (refuses f u) ih e = acts_refused f u ys v e

  pub acts_goes : (xs ys : List ℕ) (s : S) (v : Moved S B F) → Acts s xs v → goes step s (xs ++ ys) ≡ went_on ys (λ t. goes step t ys) v
  unfolding goes
  acts_goes [] ys s v e = acts_none s ys v e
  acts_goes (x ∷ xs) ys s v e = acts_turn xs ys v (step s x) (λ u. acts_goes xs ys u v) e

  -- what a piece did, and what all bytes do: used up, showed, refused
  abbrev pub then_all : List ℕ → Went S B F → Whole S B
  then_all ys (quiet t) = whole step t ys
  then_all ys (showed b t rest) = and_shown b (whole step t (rest ++ ys))
  then_all ys (refused f t) = record { shown = []; last = t }

  whole_turn : (xs ys : List ℕ) (w : Moved S B F) → ((u : S) → whole step u (xs ++ ys) ≡ then_all ys (goes step u xs)) → whole_on (λ t. whole step t (xs ++ ys)) w ≡ then_all ys (went_on xs (λ t. goes step t xs) w)
  whole_turn xs ys (on u) ih = ih u
  whole_turn xs ys (shows b u) ih = refl
  whole_turn xs ys (refuses f u) ih = refl

  -- all bytes, where a piece is their front
  pub whole_piece : (xs ys : List ℕ) (s : S) → whole step s (xs ++ ys) ≡ then_all ys (goes step s xs)
  unfolding goes whole
  whole_piece [] ys s = refl
  whole_piece (x ∷ xs) ys s = whole_turn xs ys (step s x) (whole_piece xs ys)

  then_acts : (ys : List ℕ) (v : Moved S B F) → then_all ys (went_on [] quiet v) ≡ whole_on (λ t. whole step t ys) v
  then_acts ys (on u) = refl
  then_acts ys (shows b u) = refl
  then_acts ys (refuses f u) = refl

  pub acts_whole : (xs ys : List ℕ) (s : S) (v : Moved S B F) → Acts s xs v → whole step s (xs ++ ys) ≡ whole_on (λ t. whole step t ys) v
  acts_whole xs ys s v e = whole_piece xs ys s ∙ ap (then_all ys) e ∙ then_acts ys v

  -- what is left of a piece is a part of it
  rest_turn : (xs : List ℕ) (w : Moved S B F) (b : B) (t : S) (rest : List ℕ) → ((u : S) → goes step u xs ≡ showed b t rest → (front : List ℕ) × (xs ≡ front ++ rest)) → went_on xs (λ t. goes step t xs) w ≡ showed b t rest → (front : List ℕ) × (xs ≡ front ++ rest)
  rest_turn xs (on u) b t rest ih e = ih u e
  rest_turn xs (shows c u) b t rest ih e = ([], cc)
  rest_turn xs (refuses f u) b t rest ih e = cc

  pub rest_of : (xs : List ℕ) (s : S) (b : B) (t : S) (rest : List ℕ) → goes step s xs ≡ showed b t rest → (x : ℕ) × (front : List ℕ) × (xs ≡ x ∷ (front ++ rest))
  unfolding goes
  rest_of [] s b t rest e = cc
  rest_of (x ∷ xs) s b t rest e =
      let r = rest_turn xs (step s x) b t rest (λ u d. let q = rest_of xs u b t rest d in (q.0 ∷ q.1, q.2)) e in
      (x, r.0, ap (λ l. x ∷ l) r.1)
