-- Whatever the pieces, a run shows what its bytes tell.
use Rattle.std.proofs.Common.{◌≡◌, ℕ, ◌+◌, ◌-◌, List, [], ◌∷◌, ◌++◌, length, drop, Some, None, Ok, Err, Option, Result, sym, refl, ap, ◌∙◌, subst, inl, inr, append_assoc, arith, length-append}
use Rattle.std.proofs.lemmas.List.{drop_at}
use Rattle.message.specs.declared.faults.Fault.{Fault}
use Rattle.message.specs.declared.faults.Place.{Place}
use Rattle.message.specs.declared.faults.Refusal.TheVariants.{Lengths}
use Rattle.message.specs.Faults.{bare}
use Rattle.framing.specs.Calls.{end_at, close_of}
use Rattle.framing.specs.Frames.{Shown, frame, end}
use Rattle.framing.specs.Moves.{Moved, on, shows, refuses, Went, quiet, showed, refused, and_shown, went_on, goes, whole}
use Rattle.framing.specs.Runs.{refusal_of, end_of}
use Rattle.framing.specs.Steps.{Stand, header, metadata, body, ended, stopped, step}
use Rattle.framing.proofs.Blocks.{then_all, whole_piece, rest_of}
use Rattle.framing.proofs.Shown.{Live, StopsBy, step_stops, end_is, live_close}
use Rattle.feeds.specs.Messages.{Terms, Kept, Batch, Outcome, refuses as refuses_it, keeps, shows as shows_it}
use Rattle.feeds.specs.Streams.{Meaning, envelope, holds_of, act_frame, Told, and_batch}
use Rattle.feeds.specs.Steps.{State, Move, acted, shown_frame, moved_by, feed_step, fed_by, fed}
use Rattle.feeds.specs.Calls.{Feed, Fed, answered, leaves, barely, place_in, cell_of, finish_of, row_in}
use Rattle.feeds.specs.Laws.{told_of}
use Rattle.feeds.specs.Runs.{Question, piece_other, place, cell, cell_other, finish, schema_row, Call, feeds, asks, Gets, lengths_by, lengths, lengths_of, first_refusal, current_by, coming_by, AnswerBy, AnsweredBy, FinishedBy, Finished, StaysBy, Stays, Stopped}

-- a question, by where the feed stands and the batch that is current
abbrev pub FollowsBy : Feed → Question → Type 0
FollowsBy f (piece_other p r) = r ≡ Err (bare Lengths)
FollowsBy f (place j r) = r ≡ barely (place_in f.batch j)
FollowsBy f (cell e i r) = r ≡ barely (cell_of f.batch e i)
FollowsBy f (cell_other e i r) = r ≡ Err (bare Lengths)
FollowsBy f (finish r) = r ≡ finish_of f
FollowsBy f (schema_row k r) = r ≡ row_in f.state.kept.schema k

-- the calls, one after the other
abbrev pub Follows : Meaning → Feed → List Call → Type 0
Follows m f [] = Unit {0}
Follows m f (feeds p r ∷ cs) = (r ≡ answered p (fed f.terms m f.state p)) × Follows m (leaves f.terms (fed f.terms m f.state p)) cs
Follows m f (asks q ∷ cs) = FollowsBy f q × Follows m f cs

follows_answer : (f : Feed) (q : Question) → FollowsBy f q → AnswerBy f.batch q
follows_answer f (piece_other p r) run = run
follows_answer f (place j r) run = run
follows_answer f (cell e i r) run = run
follows_answer f (cell_other e i r) run = run
follows_answer f (finish r) run = tt
follows_answer f (schema_row k r) run = tt

-- a refusal stops the feed, and nothing else does
abbrev StopsIt : Move → Type 0
StopsIt (on u) = Live u.stand
StopsIt (shows b u) = Live u.stand
StopsIt (refuses f u) = u.stand ≡ stopped f

abbrev StopsAt : Went State Batch Fault → Type 0
StopsAt (quiet u) = Live u.stand
StopsAt (showed b u rest) = Live u.stand
StopsAt (refused f u) = u.stand ≡ stopped f

acted_stops : (k : Kept) (p : Place) (s : Stand) (o : Outcome) → Live s → StopsIt (acted k p s o)
acted_stops k p s (refuses_it b) live = refl
acted_stops k p s (keeps k') live = live
acted_stops k p s (shows_it k' b) live = live

shown_stops : (t : Terms) (m : Meaning) (k : Kept) (s : Stand) (x : Shown) → Live s → StopsIt (shown_frame t m k s x)
shown_stops t m k s (frame f) live = acted_stops k f.place s (act_frame t m k f) live
shown_stops t m k s (end p) live = live

moved_stops : (t : Terms) (m : Meaning) (k : Kept) (v : Moved Stand Shown Fault) → StopsBy v → StopsIt (moved_by t m k v)
moved_stops t m k (on s) stops = stops
moved_stops t m k (shows x s) stops = shown_stops t m k s x stops
moved_stops t m k (refuses f s) stops = stops

module _ (t : Terms) (m : Meaning) where
  went_stops : (xs : List ℕ) (v : Move) → StopsIt v → ((u : State) → Live u.stand → StopsAt (goes (feed_step t m) u xs)) → StopsAt (went_on xs (λ u. goes (feed_step t m) u xs) v)
  went_stops xs (on u) k ih = ih u k
  went_stops xs (shows b u) k ih = k
  went_stops xs (refuses f u) k ih = k

  goes_stops : (xs : List ℕ) (u : State) → Live u.stand → StopsAt (goes (feed_step t m) u xs)
  unfolding goes feed_step
  goes_stops [] u k = k
  goes_stops (x ∷ xs) u k = went_stops xs (feed_step t m u x) (moved_stops t m u.kept (step (holds_of t) (envelope m) u.stand x) (step_stops (holds_of t) (envelope m) u.stand x)) (goes_stops xs)

  -- a piece that is fed goes byte by byte
  live_fed : (k : Kept) (p : List ℕ) (s : Stand) → Live s → fed_by t m k p s ≡ goes (feed_step t m) (record { stand = s; kept = k }) p
  live_fed k p (header q got) live = refl
  live_fed k p (metadata q marked n got) live = refl
  live_fed k p (body q marked meta facts n got) live = refl
  live_fed k p (ended q) live = refl
  live_fed k p (stopped f) live = absurd live

  fed_stops : (u : State) (p : List ℕ) → Live u.stand → StopsAt (fed t m u p)
  fed_stops u p live = subst StopsAt (sym (live_fed u.kept p u.stand live)) (goes_stops p u live)

  whole_fed : (u : State) (p later : List ℕ) → Live u.stand → whole (feed_step t m) u (p ++ later) ≡ then_all (feed_step t m) later (fed t m u p)
  whole_fed u p later live = whole_piece (feed_step t m) p later u ∙ ap (then_all (feed_step t m) later) (sym (live_fed u.kept p u.stand live))

  left_of : (u : State) (p : List ℕ) (b : Batch) (v : State) (rest : List ℕ) → Live u.stand → fed t m u p ≡ showed b v rest → (front : List ℕ) × (p ≡ front ++ rest)
  left_of u p b v rest live d = let k = rest_of (feed_step t m) p u b v rest (sym (live_fed u.kept p u.stand live) ∙ d) in (k.0 ∷ k.1, k.2)

-- the same from any batch that is current
pub record ShowsFrom (b : Option Batch) (told : Told) (bytes : List ℕ) (cs : List Call) : Type 0 where
  pub batches : lengths cs ≡ lengths_of told.batches
  pub answers : AnsweredBy b told.batches cs
  pub refusal : first_refusal cs ≡ refusal_of told.close
  pub finish : (r : Result (Unit {0}) Fault) → Finished bytes r cs → r ≡ end_of told.close
  pub stopped : Stopped cs

-- once it has stopped
abbrev Still : Fault → Feed → Type 0
Still x f = (f.state.stand ≡ stopped x) × (f.batch ≡ None)

module _ (m : Meaning) (x : Fault) where
  still_fed : (t : Terms) (k : Kept) (p : List ℕ) (s : Stand) → s ≡ stopped x → fed_by t m k p s ≡ refused x (record { stand = stopped x; kept = k })
  still_fed t k p s is = ap (fed_by t m k p) is

  stays_by : (f : Feed) (q : Question) → Still x f → FollowsBy f q → StaysBy x q
  stays_by f (piece_other p r) still run = tt
  stays_by f (place j r) still run = tt
  stays_by f (cell e i r) still run = tt
  stays_by f (cell_other e i r) still run = tt
  stays_by f (finish r) still run = run ∙ ap end_at still.0
  stays_by f (schema_row k r) still run = tt

  pub stays : (cs : List Call) (f : Feed) → Still x f → Follows m f cs → Stays x cs
  stays [] f still run = tt
  stays (feeds p r ∷ cs) f still run =
      let w = still_fed f.terms f.state.kept p f.state.stand still.0 in
      (run.0 ∙ ap (answered p) w, stays cs (leaves f.terms (refused x (record { stand = stopped x; kept = f.state.kept }))) (refl, refl) (subst (λ v. Follows m (leaves f.terms v) cs) w run.1))
  stays (asks q ∷ cs) f still run = (stays_by f q still run.0, stays cs f still run.1)

  still_piece : (p : List ℕ) (r : Result Fed Fault) (cs : List Call) → r ≡ Err x → AnsweredBy None [] cs → AnsweredBy None [] (feeds p r ∷ cs)
  still_piece p (Ok s) cs is k = let z : ◌≡◌ {A = ℕ} 0 1 = cc in absurd (omega arith)
  still_piece p (Err y) cs is k = k

  pub still_answers : (cs : List Call) (f : Feed) → Still x f → Follows m f cs → AnsweredBy None [] cs
  still_answers [] f still run = tt
  still_answers (feeds p r ∷ cs) f still run =
      let w = still_fed f.terms f.state.kept p f.state.stand still.0 in
      still_piece p r cs (run.0 ∙ ap (answered p) w) (still_answers cs (leaves f.terms (refused x (record { stand = stopped x; kept = f.state.kept }))) (refl, refl) (subst (λ v. Follows m (leaves f.terms v) cs) w run.1))
  still_answers (asks q ∷ cs) f still run = (subst (λ b. AnswerBy b q) still.1 (follows_answer f q run.0), still_answers cs f still run.1)

finished_by : (x : Fault) (r : Result (Unit {0}) Fault) (left : List ℕ) (q : Question) → StaysBy x q → FinishedBy left r q → r ≡ Err x
finished_by x r left (piece_other p q) stays asked = absurd asked
finished_by x r left (place j q) stays asked = absurd asked
finished_by x r left (cell e i q) stays asked = absurd asked
finished_by x r left (cell_other e i q) stays asked = absurd asked
finished_by x r left (finish q) stays asked = sym asked.1 ∙ stays
finished_by x r left (schema_row k q) stays asked = absurd asked

finished_stays : (x : Fault) (r : Result (Unit {0}) Fault) (cs : List Call) (left : List ℕ) → Stays x cs → Finished left r cs → r ≡ Err x
finished_stays x r [] left stays asked = absurd asked
finished_stays x r (feeds p (Ok s) ∷ cs) left stays asked = finished_stays x r cs (drop s.used left) stays.1 asked
finished_stays x r (feeds p (Err y) ∷ cs) left stays asked = finished_stays x r cs [] stays.1 asked
finished_stays x r (asks q ∷ cs) left stays (inl a) = finished_by x r left q stays.0 a
finished_stays x r (asks q ∷ cs) left stays (inr a) = finished_stays x r cs left stays.1 a

module _ (m : Meaning) where
  abbrev all : Feed → List ℕ → Told
  all f left = told_of (whole (feed_step f.terms m) f.state left)

  abbrev Ih : List Call → Type 0
  Ih cs = (f : Feed) (left : List ℕ) → Live f.state.stand → Follows m f cs → Gets left cs → ShowsFrom f.batch (all f left) left cs

  at_end : (f : Feed) (left : List ℕ) → left ≡ [] → whole (feed_step f.terms m) f.state left ≡ record { shown = []; last = f.state }
  unfolding whole
  at_end f left d = ap (whole (feed_step f.terms m) f.state) d

  -- a piece that is not refused
  piece_ok : (cs : List Call) → Ih cs → (f : Feed) (p later left : List ℕ) (s : Fed) (w : Went State Batch Fault) → Live f.state.stand → fed f.terms m f.state p ≡ w → Ok s ≡ answered p w → left ≡ p ++ later → Follows m (leaves f.terms w) cs → Gets (drop s.used left) cs → ShowsFrom f.batch (all f left) left (feeds p (Ok s) ∷ cs)
  piece_ok cs ih f p later left s (quiet u) live is a cut run gets =
      let t = f.terms in
      let d : s ≡ record { used = length p; long = None } = cc in
      let n : drop s.used left ≡ later = ap (λ k. drop k.used left) d ∙ ap (drop (length p)) cut ∙ drop_at p later (length p) refl in
      let told : told_of (whole (feed_step t m) u (drop s.used left)) ≡ all f left = ap told_of (ap (whole (feed_step t m) u) n ∙ sym (ap (whole (feed_step t m) f.state) cut ∙ whole_fed t m f.state p later live ∙ ap (then_all (feed_step t m) later) is)) in
      let shown = subst (λ k. ShowsFrom None k (drop s.used left) cs) told (ih (leaves t (quiet u)) (drop s.used left) (subst StopsAt is (fed_stops t m f.state p live)) run gets) in
      record {
        batches = ap (λ k. lengths_by k.long (lengths cs)) d ∙ shown.batches;
        answers = subst (λ (k : Fed). AnsweredBy (current_by k.long (all f left).batches) (coming_by k.long (all f left).batches) cs) (sym d) shown.answers;
        refusal = shown.refusal;
        finish = shown.finish;
        stopped = shown.stopped;
      }
  piece_ok cs ih f p later left s (showed b u rest) live is a cut run gets =
      let t = f.terms in
      let d : s ≡ record { used = length p - length rest; long = Some b.long } = cc in
      let q = left_of t m f.state p b u rest live is in
      let long : length p ≡ length q.0 + length rest = ap length q.1 ∙ length-append q.0 rest in
      let n : s.used ≡ length q.0 = ap (λ k. k.used) d ∙ omega arith in
      let l : drop s.used left ≡ rest ++ later = ap (λ k. drop k left) n ∙ ap (drop (length q.0)) (cut ∙ ap (λ l. l ++ later) q.1 ∙ append_assoc q.0 rest later) ∙ drop_at q.0 (rest ++ later) (length q.0) refl in
      let told : and_batch b (told_of (whole (feed_step t m) u (drop s.used left))) ≡ all f left = ap told_of (ap (λ l. and_shown b (whole (feed_step t m) u l)) l ∙ sym (ap (whole (feed_step t m) f.state) cut ∙ whole_fed t m f.state p later live ∙ ap (then_all (feed_step t m) later) is)) in
      let shown = ih (leaves t (showed b u rest)) (drop s.used left) (subst StopsAt is (fed_stops t m f.state p live)) run gets in
      let bs = (told_of (whole (feed_step t m) u (drop s.used left))).batches in
      subst (λ k. ShowsFrom f.batch k left (feeds p (Ok s) ∷ cs)) told (record {
        batches = ap (λ k. lengths_by k.long (lengths cs)) d ∙ ap (λ k. b.long ∷ k) shown.batches;
        answers = subst (λ (k : Fed). AnsweredBy (current_by k.long (b ∷ bs)) (coming_by k.long (b ∷ bs)) cs) (sym d) shown.answers;
        refusal = shown.refusal;
        finish = shown.finish;
        stopped = shown.stopped;
      })
  piece_ok cs ih f p later left s (refused x u) live is a cut run gets = let z : ◌≡◌ {A = ℕ} 0 1 = cc in absurd (omega arith)

  piece_err : (cs : List Call) (f : Feed) (p later left : List ℕ) (x : Fault) (w : Went State Batch Fault) → Live f.state.stand → fed f.terms m f.state p ≡ w → Err x ≡ answered p w → left ≡ p ++ later → Follows m (leaves f.terms w) cs → ShowsFrom f.batch (all f left) left (feeds p (Err x) ∷ cs)
  piece_err cs f p later left x (quiet u) live is a cut run = let z : ◌≡◌ {A = ℕ} 0 1 = cc in absurd (omega arith)
  piece_err cs f p later left x (showed b u rest) live is a cut run = let z : ◌≡◌ {A = ℕ} 0 1 = cc in absurd (omega arith)
  piece_err cs f p later left x (refused y u) live is a cut run =
      let t = f.terms in
      let d : x ≡ y = cc in
      let stop : u.stand ≡ stopped x = subst StopsAt is (fed_stops t m f.state p live) ∙ ap stopped (sym d) in
      let told : record { batches = []; kept = u.kept; close = close_of (stopped x) } ≡ all f left = ap (λ k. record { batches = []; kept = u.kept; close = close_of k }) (sym stop) ∙ ap told_of (sym (ap (whole (feed_step t m) f.state) cut ∙ whole_fed t m f.state p later live ∙ ap (then_all (feed_step t m) later) is)) in
      let after = stays m x cs (leaves t (refused y u)) (stop, refl) run in
      subst (λ k. ShowsFrom f.batch k left (feeds p (Err x) ∷ cs)) told (record {
        batches = refl;
        answers = still_answers m x cs (leaves t (refused y u)) (stop, refl) run;
        refusal = refl;
        finish = λ r asked. finished_stays x r cs [] after asked;
        stopped = after;
      })

  finished_at : (f : Feed) (left : List ℕ) (q : Question) (r : Result (Unit {0}) Fault) → FollowsBy f q → FinishedBy left r q → r ≡ end_of (all f left).close
  finished_at f left (piece_other p q) r is asked = absurd asked
  finished_at f left (place j q) r is asked = absurd asked
  finished_at f left (cell e i q) r is asked = absurd asked
  finished_at f left (cell_other e i q) r is asked = absurd asked
  finished_at f left (finish q) r is asked = sym asked.1 ∙ is ∙ end_is f.state.stand ∙ ap (λ w. end_of (close_of w.last.stand)) (sym (at_end f left asked.0))
  finished_at f left (schema_row k q) r is asked = absurd asked

  finished_or : (f : Feed) (left : List ℕ) (q : Question) (cs : List Call) (r : Result (Unit {0}) Fault) → FollowsBy f q → (Finished left r cs → r ≡ end_of (all f left).close) → Finished left r (asks q ∷ cs) → r ≡ end_of (all f left).close
  finished_or f left q cs r is later (inl a) = finished_at f left q r is a
  finished_or f left q cs r is later (inr a) = later a

  pub shows_run : (cs : List Call) → Ih cs
  shows_run [] f left live run gets =
      let e = at_end f left gets in
      record {
        batches = ap (λ w. lengths_of w.shown) (sym e);
        answers = tt;
        refusal = sym (live_close f.state.stand live) ∙ ap (λ w. refusal_of (close_of w.last.stand)) (sym e);
        finish = λ r asked. absurd asked;
        stopped = tt;
      }
  shows_run (feeds p (Ok s) ∷ cs) f left live run gets = piece_ok cs (shows_run cs) f p gets.0 left s (fed f.terms m f.state p) live refl run.0 gets.1 run.1 gets.2
  shows_run (feeds p (Err x) ∷ cs) f left live run gets = piece_err cs f p gets.0 left x (fed f.terms m f.state p) live refl run.0 gets.1 run.1
  shows_run (asks q ∷ cs) f left live run gets =
      let shown = shows_run cs f left live run.1 gets in
      record {
        batches = shown.batches;
        answers = (follows_answer f q run.0, shown.answers);
        refusal = shown.refusal;
        finish = λ r. finished_or f left q cs r run.0 (shown.finish r);
        stopped = shown.stopped;
      }
