-- A run for chosen columns beside a run for all.
use Rattle.std.proofs.Common.{◌≡◌, ℕ, zero, suc, ◌+◌, ◌<◌, List, [], ◌∷◌, Some, None, Ok, Err, Option, Result, sym, refl, ap, ◌∙◌, subst, arith}
use Rattle.std.specs.Option.{option_map}
use Rattle.std.specs.List.{slice_get}
use Rattle.little.proofs.Maybe.{mapped_is, some_same, none_some}
use Rattle.message.specs.declared.faults.Place.{Place}
use Rattle.message.specs.declared.faults.Refusal.{Refusal}
use Rattle.message.specs.Messages.{Read}
use Rattle.framing.specs.Frames.{Shown, frame, end}
use Rattle.framing.specs.Streams.{Close, stream}
use Rattle.columns.specs.Entries.{all, these}
use Rattle.columns.specs.Slots.{Cell}
use Rattle.columns.specs.Cells.{cell_at}
use Rattle.feeds.specs.Messages.{Terms, Kept, Batch, Outcome, refuses, keeps, shows}
use Rattle.feeds.specs.Streams.{Meaning, envelope, holds_of, nothing_kept, act_read, act_frame, Told, tells, messages, feed}
use Rattle.feeds.specs.Chosen.{choosing, counted_from, column_size, SameColumns, TakenToo, ChosenColumns}
use Rattle.feeds.specs.Calls.{Memories, Own, Feed, opened, barely, entry_by, place_in, cell_of}
use Rattle.feeds.specs.Runs.{Call, Runs, Gets, lengths_of}
use Rattle.feeds.specs.Promises.{counted_fault, AllNamed, size_in, ChosenAlike}
use Rattle.feeds.proofs.RunOf.{lawful}
use Rattle.feeds.proofs.Alike.{cell_by_lem, place_by_lem}

-- each batch of the one is, column by column, the batch of the other with the same number
abbrev Matched : List ℕ → List Batch → List Batch → Type 0
Matched ns bs bs' = (n : ℕ) (b : Batch) → slice_get bs n ≡ Some b → (b' : Batch) × (slice_get bs' n ≡ Some b') × SameColumns ns b b'

none_matched : (ns : List ℕ) (bs' : List Batch) → Matched ns [] bs'
none_matched ns bs' n b e = absurd (none_some b e)

one_matched : (ns : List ℕ) (b b' : Batch) (bs bs' : List Batch) → SameColumns ns b b' → Matched ns bs bs' → Matched ns (b ∷ bs) (b' ∷ bs')
one_matched ns b b' bs bs' same later zero x e = (b', refl, subst (λ y. SameColumns ns y b') (some_same b x e) same)
one_matched ns b b' bs bs' same later (suc n) x e = later n x e

module _ (columns : ChosenColumns) (t : Terms) (ns : List ℕ) (m : Meaning) (close : Close) where
  abbrev for_all : Kept → List Shown → Told
  for_all k xs = messages (choosing all t) m close k xs

  abbrev for_these : Kept → List Shown → Told
  for_these k xs = messages (choosing (these ns) t) m close k xs

  abbrev Matches : List Shown → Type 0
  Matches xs = (k : Kept) → AllNamed ns (for_all k xs).batches → Matched ns (for_all k xs).batches (for_these k xs).batches

  outcome_matches : (xs : List Shown) → Matches xs → (k : Kept) (p : Place) (o o' : Outcome) → TakenToo ns o o' → AllNamed ns (tells (λ k'. for_all k' xs) k p o).batches → Matched ns (tells (λ k'. for_all k' xs) k p o).batches (tells (λ k'. for_these k' xs) k p o').batches
  outcome_matches xs ih k p (refuses x) o' taken names = none_matched ns _
  outcome_matches xs ih k p (keeps k') o' taken names = subst (λ o. Matched ns (for_all k' xs).batches (tells (λ k'. for_these k' xs) k p o).batches) (sym taken) (ih k' names)
  outcome_matches xs ih k p (shows k' b) o' taken names =
      let too = taken (names 0 b refl) in
      subst (λ o. Matched ns (b ∷ (for_all k' xs).batches) (tells (λ k'. for_these k' xs) k p o).batches) (sym too.1) (one_matched ns b too.0 _ _ too.2 (ih k' (λ n x e. names (suc n) x e)))

  read_taken : (k : Kept) (body : List ℕ) (r : Read) → TakenToo ns (act_read (choosing all t) k body r) (act_read (choosing (these ns) t) k body r)
  read_taken k body None = tt
  read_taken k body (Some x) = columns t ns k x body

  pub matches : (xs : List Shown) → Matches xs
  matches [] k names = none_matched ns []
  matches (frame f ∷ xs) k names = outcome_matches xs (matches xs) k f.place (act_frame (choosing all t) m k f) (act_frame (choosing (these ns) t) m k f) (read_taken k f.body (m f.metadata)) names
  matches (end p ∷ xs) k names = matches xs k names

nth_lengths : (bs : List Batch) (n : ℕ) → slice_get (lengths_of bs) n ≡ option_map (λ b. b.long) (slice_get bs n)
nth_lengths [] n = refl
nth_lengths (b ∷ bs) zero = refl
nth_lengths (b ∷ bs) (suc n) = nth_lengths bs n

entry_is : (o : Option ℕ) (p : ℕ) → Ok p ≡ barely (entry_by o) → o ≡ Some p
entry_is None p e = let z : ◌≡◌ {A = ℕ} 0 1 = cc in absurd (omega arith)
entry_is (Some q) p e = let d : p ≡ q = cc in ap Some (sym d)

-- an answered place is of a batch that is there
place_there : (o : Option Batch) (j p : ℕ) → Ok p ≡ barely (place_in o j) → (b : Batch) × (o ≡ Some b) × (slice_get b.places j ≡ Some p)
place_there None j p e = let z : ◌≡◌ {A = ℕ} 0 1 = cc in absurd (omega arith)
place_there (Some b) j p e = (b, refl, entry_is (slice_get b.places j) p e)

counted_barely : (p : ℕ) (r : Result Cell Refusal) → counted_fault p (barely r) ≡ barely (counted_from p r)
counted_barely p (Ok c) = refl
counted_barely p (Err x) = refl

module _ (columns : ChosenColumns) where
  pub choices_alike : (t : Terms) (ns : List ℕ) (f g : Feed) → opened (choosing all t) ≡ Ok f → opened (choosing (these ns) t) ≡ Ok g → (m : Meaning) (mem mem' : Memories) → Own t mem → Own t mem' → (cs ds : List Call) → Runs m f mem cs → Runs m g mem' ds → (bytes : List ℕ) → Gets bytes cs → Gets bytes ds → AllNamed ns (feed (choosing all t) m bytes).batches → ChosenAlike (feed (choosing all t) m bytes).batches ns cs ds
  unfolding feed
  choices_alike t ns f g h h' m mem mem' own own' cs ds run run' bytes gets gets' names =
      let ownAll : Own (choosing all t) mem = record { message = own.message; body = own.body; store = own.store; nodes = own.nodes; buffers = own.buffers; counts = own.counts; columns = own.columns } in
      let ownThese : Own (choosing (these ns) t) mem' = record { message = own'.message; body = own'.body; store = own'.store; nodes = own'.nodes; buffers = own'.buffers; counts = own'.counts; columns = own'.columns } in
      let a = (lawful (choosing all t) f h).shown m mem ownAll cs run bytes gets in
      let b = (lawful (choosing (these ns) t) g h').shown m mem' ownThese ds run' bytes gets' in
      let s = stream (holds_of t) (envelope m) bytes in
      let bs = (feed (choosing all t) m bytes).batches in
      let bs' = (feed (choosing (these ns) t) m bytes).batches in
      let matched : Matched ns bs bs' = matches columns t ns m s.close s.shown nothing_kept names in
      record {
        batches = λ n long e.
            let x = mapped_is (λ b. b.long) (slice_get bs n) long (sym (nth_lengths bs n) ∙ ap (λ l. slice_get l n) (sym a.batches) ∙ e) in
            let y = matched n x.0 x.1 in
            ap (λ l. slice_get l n) b.batches ∙ nth_lengths bs' n ∙ ap (option_map (λ b. b.long)) y.1 ∙ ap Some (y.2.long ∙ sym x.2);
        cells = λ n j c p p' x i r r' at place place' lt cell cell'.
            let q = place_there (slice_get bs n) c p (place_by_lem bs n c (Ok p) cs a.answers place) in
            let q' = place_there (slice_get bs' n) j p' (place_by_lem bs' n j (Ok p') ds b.answers place') in
            let y = matched n q.0 q.1 in
            let here = y.2.places j c at in
            let b-is : y.0 ≡ q'.0 = some_same y.0 q'.0 (sym y.1 ∙ q'.1) in
            let from_is : here.from ≡ p = some_same here.from p (sym here.found ∙ q.2) in
            let to_is : here.to ≡ p' = some_same here.to p' (sym here.shown ∙ ap (λ z. slice_get z.places j) b-is ∙ q'.2) in
            let lt' : x < column_size q.0.sight.fields c = subst (λ o. x < size_in o c) q.1 lt in
            let same = here.same.cells x i lt' in
            let cell_is : r ≡ barely (cell_at q.0.sight (p + x) i) = cell_by_lem bs n (p + x) i r cs a.answers cell ∙ ap (λ o. barely (cell_of o (p + x) i)) q.1 in
            let cell-is' : r' ≡ barely (cell_at y.0.sight (p' + x) i) = cell_by_lem bs' n (p' + x) i r' ds b.answers cell' ∙ ap (λ o. barely (cell_of o (p' + x) i)) y.1 in
            ap (counted_fault p') cell-is'
            ∙ counted_barely p' (cell_at y.0.sight (p' + x) i)
            ∙ ap (λ k. barely (counted_from k (cell_at y.0.sight (k + x) i))) (sym to_is)
            ∙ ap barely same
            ∙ ap (λ k. barely (counted_from k (cell_at q.0.sight (k + x) i))) from_is
            ∙ sym (counted_barely p (cell_at q.0.sight (p + x) i))
            ∙ ap (counted_fault p) (sym cell_is);
      }
