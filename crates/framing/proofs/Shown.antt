-- Whatever the pieces, a run shows what the stream of its bytes holds.
use Rattle.std.proofs.Common.{◌≡◌, ℕ, ◌+◌, ◌-◌, Bool, true, false, eqb, ltb, List, [], ◌∷◌, ◌++◌, length, take, drop, Some, None, Ok, Err, Option, Result, sym, refl, ap, ◌∙◌, subst, inl, inr, append_assoc, arith, length-append}
use Rattle.std.proofs.lemmas.List.{drop_at}
use Rattle.std.specs.Option.{option_map, option_to_list}
use Rattle.message.specs.declared.faults.Fault.{Fault}
use Rattle.message.specs.declared.faults.Place.{Place}
use Rattle.message.specs.declared.faults.Refusal.TheVariants.{Lengths}
use Rattle.message.specs.declared.headers.Facts.{Facts}
use Rattle.message.specs.declared.readings.Refused.{Refused}
use Rattle.message.specs.Faults.{bare}
use Rattle.framing.specs.declared.events.Step.{Step}
use Rattle.framing.specs.Moves.{on, shows, refuses, Went, quiet, showed, refused, and_shown, went_on, goes, whole}
use Rattle.framing.specs.Frames.{Holds, Envelope, Shown, frame, end, marks, opening, size_of, body_length}
use Rattle.framing.specs.Steps.{Stand, header, metadata, body, ended, stopped, Move, sized, opened, filled, bodied, told, gathered, step}
use Rattle.framing.specs.Calls.{advanced, event_of, answered, standing, InHolds, Held, end_at, close_of}
use Rattle.framing.specs.Runs.{Call, advances, advances_other, ends_at, Gets, seen, shown_in, Asked, Stays, OtherRefused, refusal_of, end_of, Shows}
use Rattle.framing.proofs.Blocks.{then_all, whole_piece, rest_of}
use Rattle.framing.proofs.Frames.{stream_of}

-- the calls, one after the other, by where the decoder stands
abbrev pub Follows : Holds → Envelope → Stand → List Call → Type 0
Follows h e s [] = Unit {0}
Follows h e s (advances p r m b ∷ cs) = (r ≡ answered p (advanced h e s p)) × Held (advanced h e s p) m b × Follows h e (standing (advanced h e s p)) cs
Follows h e s (advances_other p r ∷ cs) = (r ≡ Err (bare Lengths)) × Follows h e s cs
Follows h e s (ends_at r ∷ cs) = (r ≡ end_at s) × Follows h e s cs

-- the end by the stand is the end by the close
pub end_is : (s : Stand) → end_at s ≡ end_of (close_of s)
end_is (header p []) = refl
end_is (header p (b ∷ got)) = refl
end_is (metadata p marked n got) = refl
end_is (body p marked meta facts n got) = refl
end_is (ended p) = refl
end_is (stopped f) = refl

-- a decoder that has not stopped
abbrev pub Live : Stand → Type 0
Live (header p got) = Unit {0}
Live (metadata p marked n got) = Unit {0}
Live (body p marked meta facts n got) = Unit {0}
Live (ended p) = Unit {0}
Live (stopped f) = ⊥

pub live_close : (s : Stand) → Live s → refusal_of (close_of s) ≡ None
live_close (header p []) k = refl
live_close (header p (b ∷ got)) k = refl
live_close (metadata p marked n got) k = refl
live_close (body p marked meta facts n got) k = refl
live_close (ended p) k = refl
live_close (stopped f) k = absurd k

-- a refusal stops the decoder, and nothing else does
abbrev pub StopsBy : Move → Type 0
StopsBy (on s) = Live s
StopsBy (shows x s) = Live s
StopsBy (refuses f s) = s ≡ stopped f

abbrev StopsAt : Went Stand Shown Fault → Type 0
StopsAt (quiet s) = Live s
StopsAt (showed x s rest) = Live s
StopsAt (refused f s) = s ≡ stopped f

either : (t : Bool) (v w : Move) → StopsBy v → StopsBy w → StopsBy (elim t [ true ↦ v | false ↦ w ])
either true v w p q = p
either false v w p q = q

sized_stops : (h : Holds) (p : Place) (marked : Bool) (n : ℕ) → StopsBy (sized h p marked n)
sized_stops h p marked n = either (eqb n 0) _ _ tt (either (ltb h.metadata n) _ _ refl tt)

pub opened_stops : (h : Holds) (p : Place) (got : List ℕ) → StopsBy (opened h p got)
opened_stops h p got = either (ltb (length got) (opening (marks got))) _ _ tt (sized_stops h p (marks got) (size_of got))

pub filled_stops : (p : Place) (marked : Bool) (meta : List ℕ) (facts : Facts) (n : ℕ) (got : List ℕ) → StopsBy (filled p marked meta facts n got)
filled_stops p marked meta facts n got = either (eqb (length got) n) _ _ tt tt

bodied_stops : (p : Place) (marked : Bool) (meta : List ℕ) (facts : Facts) (o : Option ℕ) → StopsBy (bodied p marked meta facts o)
bodied_stops p marked meta facts None = refl
bodied_stops p marked meta facts (Some n) = filled_stops p marked meta facts n []

told_stops : (h : Holds) (p : Place) (marked : Bool) (meta : List ℕ) (r : Result Facts Refused) → StopsBy (told h p marked meta r)
told_stops h p marked meta (Err x) = refl
told_stops h p marked meta (Ok facts) = bodied_stops p marked meta facts (body_length h facts)

pub gathered_stops : (h : Holds) (e : Envelope) (p : Place) (marked : Bool) (n : ℕ) (got : List ℕ) → StopsBy (gathered h e p marked n got)
gathered_stops h e p marked n got = either (eqb (length got) n) _ _ (told_stops h p marked got (e got)) tt

pub step_stops : (h : Holds) (e : Envelope) (s : Stand) (b : ℕ) → StopsBy (step h e s b)
unfolding step
step_stops h e (header p got) b = opened_stops h p (got ++ b ∷ [])
step_stops h e (metadata p marked n got) b = gathered_stops h e p marked n (got ++ b ∷ [])
step_stops h e (body p marked meta facts n got) b = filled_stops p marked meta facts n (got ++ b ∷ [])
step_stops h e (ended p) b = refl
step_stops h e (stopped f) b = refl

module _ (h : Holds) (e : Envelope) where
  pub live_goes : (s : Stand) (p : List ℕ) → Live s → advanced h e s p ≡ goes (step h e) s p
  live_goes (header q got) p k = refl
  live_goes (metadata q marked n got) p k = refl
  live_goes (body q marked meta facts n got) p k = refl
  live_goes (ended q) p k = refl
  live_goes (stopped f) p k = absurd k

  went_stops : (xs : List ℕ) (v : Move) → StopsBy v → ((t : Stand) → Live t → StopsAt (goes (step h e) t xs)) → StopsAt (went_on xs (λ t. goes (step h e) t xs) v)
  went_stops xs (on t) k ih = ih t k
  went_stops xs (shows x t) k ih = k
  went_stops xs (refuses f t) k ih = k

  goes_stops : (xs : List ℕ) (s : Stand) → Live s → StopsAt (goes (step h e) s xs)
  unfolding goes
  goes_stops [] s k = k
  goes_stops (x ∷ xs) s k = went_stops xs (step h e s x) (step_stops h e s x) (goes_stops xs)

  advanced_stops : (s : Stand) (p : List ℕ) → StopsAt (advanced h e s p)
  advanced_stops (header q got) p = goes_stops p (header q got) tt
  advanced_stops (metadata q marked n got) p = goes_stops p (metadata q marked n got) tt
  advanced_stops (body q marked meta facts n got) p = goes_stops p (body q marked meta facts n got) tt
  advanced_stops (ended q) p = goes_stops p (ended q) tt
  advanced_stops (stopped f) p = refl

  whole_stopped : (f : Fault) (bs : List ℕ) → whole (step h e) (stopped f) bs ≡ record { shown = []; last = stopped f }
  unfolding whole step
  whole_stopped f [] = refl
  whole_stopped f (b ∷ bs) = refl

  -- all bytes, where a piece is their front
  whole_advanced : (s : Stand) (p later : List ℕ) → whole (step h e) s (p ++ later) ≡ then_all (step h e) later (advanced h e s p)
  whole_advanced (header q got) p later = whole_piece (step h e) p later (header q got)
  whole_advanced (metadata q marked n got) p later = whole_piece (step h e) p later (metadata q marked n got)
  whole_advanced (body q marked meta facts n got) p later = whole_piece (step h e) p later (body q marked meta facts n got)
  whole_advanced (ended q) p later = whole_piece (step h e) p later (ended q)
  whole_advanced (stopped f) p later = whole_stopped f (p ++ later)

  -- what is left of a piece is its end
  left_of : (s : Stand) (p : List ℕ) (x : Shown) (t : Stand) (rest : List ℕ) → advanced h e s p ≡ showed x t rest → (front : List ℕ) × (p ≡ front ++ rest)
  left_of (header q got) p x t rest d = let k = rest_of (step h e) p (header q got) x t rest d in (k.0 ∷ k.1, k.2)
  left_of (metadata q marked n got) p x t rest d = let k = rest_of (step h e) p (metadata q marked n got) x t rest d in (k.0 ∷ k.1, k.2)
  left_of (body q marked meta facts n got) p x t rest d = let k = rest_of (step h e) p (body q marked meta facts n got) x t rest d in (k.0 ∷ k.1, k.2)
  left_of (ended q) p x t rest d = let k = rest_of (step h e) p (ended q) x t rest d in (k.0 ∷ k.1, k.2)
  left_of (stopped f) p x t rest d = cc

-- an event with the bytes of the holds is what the stream shows
seen_is : (x : Shown) (m b : List ℕ) → InHolds x m b → seen m b (event_of x) ≡ x
seen_is (frame f) m b held =
    ap (λ k. frame (record { place = f.place; marked = f.marked; metadata = k; facts = f.facts; body = take (length f.body) b })) held.0
    ∙ ap (λ k. frame (record { place = f.place; marked = f.marked; metadata = f.metadata; facts = f.facts; body = k })) held.1
seen_is (end p) m b held = refl

-- once it has stopped
asked_stays : (x : Fault) (r : Result (Unit {0}) Fault) (cs : List Call) (left : List ℕ) → Stays x cs → Asked left r cs → r ≡ Err x
asked_stays x r [] left stays asked = absurd asked
asked_stays x r (advances p (Ok s) m b ∷ cs) left stays asked = asked_stays x r cs _ stays.1 asked
asked_stays x r (advances p (Err y) m b ∷ cs) left stays asked = asked_stays x r cs [] stays.1 asked
asked_stays x r (advances_other p q ∷ cs) left stays asked = asked_stays x r cs left stays asked
asked_stays x r (ends_at q ∷ cs) left stays (inl a) = sym a.1 ∙ stays.0
asked_stays x r (ends_at q ∷ cs) left stays (inr a) = asked_stays x r cs left stays.1 a

module _ (h : Holds) (e : Envelope) where
  stays : (cs : List Call) (f : Fault) → Follows h e (stopped f) cs → Stays f cs
  stays [] f run = tt
  stays (advances p r m b ∷ cs) f run = (run.0, stays cs f run.2)
  stays (advances_other p r ∷ cs) f run = stays cs f run.1
  stays (ends_at r ∷ cs) f run = (run.0, stays cs f run.1)

  others : (cs : List Call) (s : Stand) → Follows h e s cs → OtherRefused cs
  others [] s run = tt
  others (advances p r m b ∷ cs) s run = others cs (standing (advanced h e s p)) run.2
  others (advances_other p r ∷ cs) s run = (run.0, others cs s run.1)
  others (ends_at r ∷ cs) s run = others cs s run.1

  at_end : (s : Stand) (left : List ℕ) → left ≡ [] → whole (step h e) s left ≡ record { shown = []; last = s }
  unfolding whole
  at_end s left d = ap (whole (step h e) s) d

  abbrev Ih : List Call → Type 0
  Ih cs = (s : Stand) (left : List ℕ) → Live s → Follows h e s cs → Gets left cs → Shows (stream_of (whole (step h e) s left)) left cs

  -- a piece that is not refused
  piece_ok : (cs : List Call) → Ih cs → (s : Stand) (p later left : List ℕ) (t : Step) (m b : List ℕ) (w : Went Stand Shown Fault) → advanced h e s p ≡ w → Ok t ≡ answered p w → Held w m b → left ≡ p ++ later → Follows h e (standing w) cs → Gets (drop t.used left) cs → Shows (stream_of (whole (step h e) s left)) left (advances p (Ok t) m b ∷ cs)
  piece_ok cs ih s p later left t m b (quiet s') is a held cut run gets =
      let d : t ≡ record { used = length p; event = None } = cc in
      let u : drop t.used left ≡ later = ap (λ k. drop k.used left) d ∙ ap (drop (length p)) cut ∙ drop_at p later (length p) refl in
      let all : whole (step h e) s' (drop t.used left) ≡ whole (step h e) s left = ap (whole (step h e) s') u ∙ sym (ap (whole (step h e) s) cut ∙ whole_advanced h e s p later ∙ ap (then_all (step h e) later) is) in
      let shown = subst (λ k. Shows (stream_of k) (drop t.used left) cs) all (ih s' (drop t.used left) (subst StopsAt is (advanced_stops h e s p)) run gets) in
      record {
        frames = ap (λ k. option_to_list (option_map (seen m b) k.event) ++ shown_in cs) d ∙ shown.frames;
        refusal = shown.refusal;
        finish = shown.finish;
        stopped = shown.stopped;
        other = shown.other;
      }
  piece_ok cs ih s p later left t m b (showed x s' rest) is a held cut run gets =
      let d : t ≡ record { used = length p - length rest; event = Some (event_of x) } = cc in
      let q = left_of h e s p x s' rest is in
      let long : length p ≡ length q.0 + length rest = ap length q.1 ∙ length-append q.0 rest in
      let n : t.used ≡ length q.0 = ap (λ k. k.used) d ∙ omega arith in
      let u : drop t.used left ≡ rest ++ later = ap (λ k. drop k left) n ∙ ap (drop (length q.0)) (cut ∙ ap (λ l. l ++ later) q.1 ∙ append_assoc q.0 rest later) ∙ drop_at q.0 (rest ++ later) (length q.0) refl in
      let all : and_shown x (whole (step h e) s' (drop t.used left)) ≡ whole (step h e) s left = ap (λ l. and_shown x (whole (step h e) s' l)) u ∙ sym (ap (whole (step h e) s) cut ∙ whole_advanced h e s p later ∙ ap (then_all (step h e) later) is) in
      let shown = ih s' (drop t.used left) (subst StopsAt is (advanced_stops h e s p)) run gets in
      let one : shown_in (advances p (Ok t) m b ∷ cs) ≡ x ∷ shown_in cs = ap (λ k. option_to_list (option_map (seen m b) k.event) ++ shown_in cs) d ∙ ap (λ k. k ∷ shown_in cs) (seen_is x m b held) in
      subst (λ k. Shows (stream_of k) left (advances p (Ok t) m b ∷ cs)) all (record {
        frames = one ∙ ap (λ k. x ∷ k) shown.frames;
        refusal = shown.refusal;
        finish = shown.finish;
        stopped = shown.stopped;
        other = shown.other;
      })
  piece_ok cs ih s p later left t m b (refused f s') is a held cut run gets = cc

  piece_err : (cs : List Call) (s : Stand) (p later left : List ℕ) (x : Fault) (m b : List ℕ) (w : Went Stand Shown Fault) → advanced h e s p ≡ w → Err x ≡ answered p w → left ≡ p ++ later → Follows h e (standing w) cs → Shows (stream_of (whole (step h e) s left)) left (advances p (Err x) m b ∷ cs)
  piece_err cs s p later left x m b (quiet s') is a cut run = cc
  piece_err cs s p later left x m b (showed y s' rest) is a cut run = cc
  piece_err cs s p later left x m b (refused f s') is a cut run =
      let d : x ≡ f = cc in
      let stop : s' ≡ stopped f = subst StopsAt is (advanced_stops h e s p) in
      let stop' : s' ≡ stopped x = stop ∙ ap stopped (sym d) in
      let all : record { shown = []; last = stopped x } ≡ whole (step h e) s left = sym (ap (whole (step h e) s) cut ∙ whole_advanced h e s p later ∙ ap (then_all (step h e) later) is ∙ ap (λ t. record { shown = []; last = t }) stop') in
      let after = stays cs x (subst (λ t. Follows h e t cs) stop' run) in
      subst (λ k. Shows (stream_of k) left (advances p (Err x) m b ∷ cs)) all (record {
        frames = refl;
        refusal = refl;
        finish = λ r asked. asked_stays x r cs [] after asked;
        stopped = after;
        other = others cs s' run;
      })

  asked_at : (s : Stand) (left : List ℕ) (q r : Result (Unit {0}) Fault) (cs : List Call) → q ≡ end_at s → (Asked left r cs → r ≡ end_of (close_of (whole (step h e) s left).last)) → Asked left r (ends_at q ∷ cs) → r ≡ end_of (close_of (whole (step h e) s left).last)
  asked_at s left q r cs d later (inl a) = sym a.1 ∙ d ∙ end_is s ∙ sym (ap (λ k. end_of (close_of k.last)) (at_end s left a.0))
  asked_at s left q r cs d later (inr a) = later a

  pub shows_run : (cs : List Call) → Ih cs
  shows_run [] s left k run gets =
      let w = at_end s left gets in
      record {
        frames = sym (ap (λ v. v.shown) w);
        refusal = sym (ap (λ v. refusal_of (close_of v.last)) w ∙ live_close s k);
        finish = λ r asked. absurd asked;
        stopped = tt;
        other = tt;
      }
  shows_run (advances p (Ok t) m b ∷ cs) s left k run gets = piece_ok cs (shows_run cs) s p gets.0 left t m b (advanced h e s p) refl run.0 run.1 gets.1 run.2 gets.2
  shows_run (advances p (Err x) m b ∷ cs) s left k run gets = piece_err cs s p gets.0 left x m b (advanced h e s p) refl run.0 gets.1 run.2
  shows_run (advances_other p r ∷ cs) s left k run gets =
      let shown = shows_run cs s left k run.1 gets in
      record {
        frames = shown.frames;
        refusal = shown.refusal;
        finish = shown.finish;
        stopped = shown.stopped;
        other = (run.0, shown.other);
      }
  shows_run (ends_at q ∷ cs) s left k run gets =
      let shown = shows_run cs s left k run.1 gets in
      record {
        frames = shown.frames;
        refusal = shown.refusal;
        finish = λ r. asked_at s left q r cs run.0 (shown.finish r);
        stopped = shown.stopped;
        other = shown.other;
      }
