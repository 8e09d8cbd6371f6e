-- Two runs on the same bytes show the same.
use Rattle.std.proofs.Common.{◌≡◌, ℕ, zero, suc, List, [], ◌∷◌, drop, Some, None, Ok, Err, Option, Result, sym, refl, ap, ◌∙◌, inl, inr, add-one, arith}
use Rattle.std.specs.List.{slice_get}
use Rattle.little.proofs.Maybe.{some_same}
use Rattle.message.specs.declared.faults.Fault.{Fault}
use Rattle.columns.specs.Slots.{Cell}
use Rattle.feeds.specs.Messages.{Terms, Batch}
use Rattle.feeds.specs.Streams.{Meaning, feed}
use Rattle.feeds.specs.Calls.{Memories, Own, Feed, opened, barely, place_in, cell_of}
use Rattle.feeds.specs.Runs.{Question, piece_other, place, cell, cell_other, finish, schema_row, Call, feeds, asks, Runs, Gets, head_of, tail_of, current_by, coming_by, AnswerBy, AnsweredBy}
use Rattle.feeds.specs.Promises.{now_by, next_by, CellBy, PlaceBy, Asked, AskedCell, AskedPlace, Alike}
use Rattle.feeds.proofs.RunOf.{lawful}

head_drop : (all : List Batch) (n : ℕ) → head_of (drop n all) ≡ slice_get all n
head_drop [] zero = refl
head_drop [] (suc n) = refl
head_drop (b ∷ bs) zero = refl
head_drop (b ∷ bs) (suc n) = head_drop bs n

tail_drop : (all : List Batch) (n : ℕ) → tail_of (drop n all) ≡ drop (suc n) all
tail_drop [] zero = refl
tail_drop [] (suc n) = refl
tail_drop (b ∷ bs) zero = refl
tail_drop (b ∷ bs) (suc n) = tail_drop bs n

module _ (all : List Batch) where
  -- the current batch, by its number
  abbrev Current : Option Batch → Option ℕ → Type 0
  Current b None = Unit {0}
  Current b (Some n) = b ≡ slice_get all n

  current_fed : (long : Option ℕ) (next : ℕ) (bs : List Batch) → bs ≡ drop next all → Current (current_by long bs) (now_by long next)
  current_fed None next bs e = tt
  current_fed (Some n) next bs e = ap head_of e ∙ head_drop all next

  coming_fed : (long : Option ℕ) (next : ℕ) (bs : List Batch) → bs ≡ drop next all → coming_by long bs ≡ drop (next_by long next) all
  coming_fed None next bs e = e
  coming_fed (Some n) next bs e = ap tail_of e ∙ tail_drop all next ∙ ap (λ k. drop k all) (sym (add-one next))

  current_at : (n : ℕ) (b : Option Batch) (now : Option ℕ) → Current b now → now ≡ Some n → b ≡ slice_get all n
  current_at n b None c e = let z : ◌≡◌ {A = ℕ} 0 1 = cc in absurd (omega arith)
  current_at n b (Some k) c e = c ∙ ap (slice_get all) (some_same k n e)

  -- what holds of every question that its batch answers holds of one that was asked
  asked_by : (such : Option ℕ → Question → Type 0) (P : Type 0) → ((b : Option Batch) (now : Option ℕ) (q : Question) → Current b now → AnswerBy b q → such now q → P) → (cs : List Call) (b : Option Batch) (bs : List Batch) (now : Option ℕ) (next : ℕ) → Current b now → bs ≡ drop next all → AnsweredBy b bs cs → Asked such now next cs → P
  asked_by such P here [] b bs now next c d a asked = absurd asked
  asked_by such P here (feeds p (Ok s) ∷ cs) b bs now next c d a asked = asked_by such P here cs (current_by s.long bs) (coming_by s.long bs) (now_by s.long next) (next_by s.long next) (current_fed s.long next bs d) (coming_fed s.long next bs d) a asked
  asked_by such P here (feeds p (Err x) ∷ cs) b bs now next c d a asked = absurd asked
  asked_by such P here (asks q ∷ cs) b bs now next c d a (inl k) = here b now q c a.0 k
  asked_by such P here (asks q ∷ cs) b bs now next c d a (inr k) = asked_by such P here cs b bs now next c d a.1 k

  cell_here : (n e i : ℕ) (r : Result Cell Fault) (b : Option Batch) (now : Option ℕ) (q : Question) → Current b now → AnswerBy b q → CellBy n e i r now q → r ≡ barely (cell_of (slice_get all n) e i)
  cell_here n e i r b now (piece_other p q) c a k = absurd k
  cell_here n e i r b now (place j q) c a k = absurd k
  cell_here n e i r b now (cell e' i' q) c a k = sym k.3 ∙ a ∙ ap (λ o. barely (cell_of o e' i')) (current_at n b now c k.0) ∙ ap (λ x. barely (cell_of (slice_get all n) x i')) k.1 ∙ ap (λ x. barely (cell_of (slice_get all n) e x)) k.2
  cell_here n e i r b now (cell_other e' i' q) c a k = absurd k
  cell_here n e i r b now (finish q) c a k = absurd k
  cell_here n e i r b now (schema_row j q) c a k = absurd k

  place_here : (n j : ℕ) (r : Result ℕ Fault) (b : Option Batch) (now : Option ℕ) (q : Question) → Current b now → AnswerBy b q → PlaceBy n j r now q → r ≡ barely (place_in (slice_get all n) j)
  place_here n j r b now (piece_other p q) c a k = absurd k
  place_here n j r b now (place j' q) c a k = sym k.2 ∙ a ∙ ap (λ o. barely (place_in o j')) (current_at n b now c k.0) ∙ ap (λ x. barely (place_in (slice_get all n) x)) k.1
  place_here n j r b now (cell e i q) c a k = absurd k
  place_here n j r b now (cell_other e i q) c a k = absurd k
  place_here n j r b now (finish q) c a k = absurd k
  place_here n j r b now (schema_row i q) c a k = absurd k

  -- what was asked while batch n was current is answered by batch n
  pub cell_by_lem : (n e i : ℕ) (r : Result Cell Fault) (cs : List Call) → AnsweredBy None all cs → AskedCell n e i r cs → r ≡ barely (cell_of (slice_get all n) e i)
  cell_by_lem n e i r cs a asked = asked_by (CellBy n e i r) _ (cell_here n e i r) cs None all None 0 tt refl a asked

  pub place_by_lem : (n j : ℕ) (r : Result ℕ Fault) (cs : List Call) → AnsweredBy None all cs → AskedPlace n j r cs → r ≡ barely (place_in (slice_get all n) j)
  place_by_lem n j r cs a asked = asked_by (PlaceBy n j r) _ (place_here n j r) cs None all None 0 tt refl a asked

pub pieces_alike : (t : Terms) (f : Feed) → opened t ≡ Ok f → (m : Meaning) (mem mem' : Memories) → Own t mem → Own t mem' → (cs ds : List Call) → Runs m f mem cs → Runs m f mem' ds → (bytes : List ℕ) → Gets bytes cs → Gets bytes ds → Alike bytes cs ds
pieces_alike t f h m mem mem' own own' cs ds run run' bytes gets gets' =
    let a = (lawful t f h).shown m mem own cs run bytes gets in
    let b = (lawful t f h).shown m mem' own' ds run' bytes gets' in
    let all = (feed t m bytes).batches in
    record {
      batches = a.batches ∙ sym b.batches;
      places = λ n j r q asked asked'. place_by_lem all n j r cs a.answers asked ∙ sym (place_by_lem all n j q ds b.answers asked');
      cells = λ n e i r q asked asked'. cell_by_lem all n e i r cs a.answers asked ∙ sym (cell_by_lem all n e i q ds b.answers asked');
      refusal = a.refusal ∙ sym b.refusal;
      finish = λ r q asked asked'. a.finish r asked ∙ sym (b.finish q asked');
    }
